use Rattle.std.proofs.Common.{◌≡◌, map, filter_map, drop}
use Rattle.sal_ast.specs.Members.{as_handler}
use Rattle.sal_types.specs.Signatures.{all_some, signature_of}
use Rattle.sal_types.specs.code.Signing.{with_front}
use Rattle.sal_types.proofs.signing.member_signatures.Given as goal

abbrev pub invariant-loop-member : goal.invariant-loop-member
invariant-loop-member l = with_front l.signatures (all_some (map (signature_of l.behaviors) (filter_map as_handler (drop l.member-index l.members)))) ≡ all_some (map (signature_of l.behaviors) (filter_map as_handler l.members))
