-- Where a field stands.
use Rattle.std.proofs.Common.{◌≡◌, ℕ, ◌+◌, List, [], ◌∷◌, Option, filter_map, if◌then◌else◌, Some, refl, sym, ap, ◌∙◌}
use Rattle.std.specs.List.{position, position_from}
use Rattle.std.specs.Str.{bytes_eq}
use Rattle.std.proofs.lemmas.Iterator.Adapters.{position_from-zero}
use Rattle.sal_ast.specs.declared.program.Member.{Member}
use Rattle.sal_ast.specs.declared.program.Member.TheVariants as member
use Rattle.sal_ast.specs.declared.program.Behavior.{Behavior}
use Rattle.sal_ast.specs.Members.{as_field, fields_of}
use Rattle.sal_state.specs.code.Named.{field_position}

counted : (name : List ℕ) (i : ℕ) (ms : List Member) → field_position name i ms ≡ position_from (λ f. bytes_eq f.name name) i (filter_map as_field ms)
counted name i [] = refl
counted name i (member.Field sort own init ∷ rest) = ap (λ o. if bytes_eq own.text name then Some i else o) (counted name (i + 1) rest)
counted name i (member.Constructor own params body ∷ rest) = counted name i rest
counted name i (member.Handler result own params body ∷ rest) = counted name i rest

pub field_position_is : (name : List ℕ) (b : Behavior) → field_position name 0 b.members ≡ position (λ f. bytes_eq f.name name) (fields_of b)
unfolding fields_of
field_position_is name b = counted name 0 b.members ∙ sym (position_from-zero (λ f. bytes_eq f.name name) (filter_map as_field b.members))
