-- What is found stands in the list.
use Rattle.std.proofs.Common.{◌≡◌, ℕ, ◌<◌, Bool, List, length, Option, Some, None, sym}
use Rattle.std.specs.Prelude.{IfSome, position}
use Rattle.std.proofs.lemmas.List.Quantifiers.{position-Some}
use Rattle.sal_value.specs.declared.name.Authority.{Authority}
use Rattle.sal_value.specs.declared.name.Uan.{Uan}
use Rattle.sal_value.specs.declared.name.Ual.{Ual}
use Rattle.sal_mail.specs.declared.plan.Plan.{Plan}
use Rattle.sal_directory.specs.Nodes.{is_same_place, theatre_of, serves, service_of}

within : {X : Type 0} (p : X → Bool) (xs : List X) (d : X) (o : Option ℕ) → o ≡ position p xs → IfSome o (λ at. at < length xs)
within p xs d None e = tt
within p xs d (Some i) e = (position-Some p xs i d (sym e)).0

pub theatre_within : (plan : Plan) (place : Ual) (o : Option ℕ) → o ≡ theatre_of plan place → IfSome o (λ at. at < length plan.theatres)
unfolding theatre_of
theatre_within plan place o e = within (is_same_place place) plan.theatres place o e

pub service_within : (plan : Plan) (u : Uan) (o : Option ℕ) → o ≡ service_of plan u → IfSome o (λ at. at < length plan.names)
unfolding service_of
service_within plan u o e = within (serves u) plan.names (record { host = u.host; port = u.port }) o e
