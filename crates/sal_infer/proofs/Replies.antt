-- The result of a handler by its name.
use Rattle.std.proofs.Common.{◌≡◌, ℕ, List, filter_map, slice_get, Option, Some, None, refl, ap, ◌∙◌}
use Rattle.std.specs.Prelude.{option_map}
use Rattle.std.specs.List.{find}
use Rattle.std.specs.Str.{bytes_eq}
use Rattle.sal_value.specs.declared.value.Sort.{Sort}
use Rattle.sal_ast.specs.declared.program.TypeName.{TypeName}
use Rattle.sal_ast.specs.declared.program.Behavior.{Behavior}
use Rattle.sal_ast.specs.Members.{Handler, as_handler, handlers_of, handlers_at}
use Rattle.sal_ast.specs.Sorts.{handler_result, result_sort, declared_result}
use Rattle.sal_infer.specs.code.Finding.{members_in, handler_type}

abbrev pub result_or_none : Option (Option TypeName) → List Behavior → Option Sort
result_or_none None behaviors = None
result_or_none (Some t) behaviors = result_sort t behaviors

found_result : (h : Option Handler) (behaviors : List Behavior) → handler_result h behaviors ≡ result_or_none (option_map (λ g. g.result) h) behaviors
found_result None behaviors = refl
found_result (Some h) behaviors = refl

abbrev handlers_with : Option Behavior → List Handler
handlers_with None = filter_map as_handler (members_in None)
handlers_with (Some b) = filter_map as_handler (members_in (Some b))

pub handlers_are : (behaviors : List Behavior) (n : ℕ) → handlers_at behaviors (Some n) ≡ filter_map as_handler (members_in (slice_get behaviors n))
unfolding handlers_of
handlers_are behaviors n = elim (slice_get behaviors n) as (λ b. handlers_with b ≡ filter_map as_handler (members_in b)) [ None ↦ refl | Some b ↦ refl ]

pub declared_result_is : (name : List ℕ) (n : ℕ) (behaviors : List Behavior) → declared_result name (Some n) behaviors ≡ result_or_none (handler_type name (members_in (slice_get behaviors n))) behaviors
declared_result_is name n behaviors =
    ap (λ hs. handler_result (find (λ h. bytes_eq h.name name) hs) behaviors) (handlers_are behaviors n)
    ∙ found_result (find (λ h. bytes_eq h.name name) (filter_map as_handler (members_in (slice_get behaviors n)))) behaviors
