-- Theatres and naming services of a plan with few nodes have small numbers.
use Rattle.std.proofs.Common.{◌≡◌, ℕ, ◌≤◌, ◌<◌, true, length, Option, Some, None, arith}
use Rattle.std.specs.Prelude.{IfSome, nat_le, nat_lt}
use Rattle.std.proofs.lemmas.Bool.{and_parts, leb-true, ltb-true}
use Rattle.sal_value.specs.declared.name.Uan.{Uan}
use Rattle.sal_value.specs.declared.name.Ual.{Ual}
use Rattle.sal_mail.specs.declared.plan.Plan.{Plan}
use Rattle.sal_node.specs.Links.{has_few_nodes}
use Rattle.sal_directory.specs.Nodes.{theatre_of, service_of}
use Rattle.sal_directory.proofs.Positions.{theatre_within, service_within}

few_theatres : (plan : Plan) → has_few_nodes plan ≡ true → length plan.theatres ≤ 8
few_theatres plan few = leb-true (length plan.theatres) 8 (and_parts (nat_le (length plan.theatres) 8) (nat_le (length plan.names) 4) few).0

few_services : (plan : Plan) → has_few_nodes plan ≡ true → length plan.names ≤ 4
few_services plan few = leb-true (length plan.names) 4 (and_parts (nat_le (length plan.theatres) 8) (nat_le (length plan.names) 4) few).1

pub theatre_low : (plan : Plan) (place : Ual) (o : Option ℕ) → has_few_nodes plan ≡ true → o ≡ theatre_of plan place → IfSome o (λ at. at < 8)
theatre_low plan place None few e = tt
theatre_low plan place (Some at) few e = omega (arith, theatre_within plan place (Some at) e, few_theatres plan few)

pub service_low : (plan : Plan) (u : Uan) (o : Option ℕ) → has_few_nodes plan ≡ true → o ≡ service_of plan u → IfSome o (λ at. at < 4)
service_low plan u None few e = tt
service_low plan u (Some at) few e = omega (arith, service_within plan u (Some at) e, few_services plan few)

pub numbered_low : (plan : Plan) (theatre : ℕ) → has_few_nodes plan ≡ true → nat_lt theatre (length plan.theatres) ≡ true → theatre < 8
numbered_low plan theatre few e = omega (arith, ltb-true theatre (length plan.theatres) e, few_theatres plan few)
