-- The handlers of a program by their names and numbers, with what they take and give.
use Rattle.std.specs.Prelude.{◌≡◌, ℕ, Bool, true, false, ◌&&◌, nat_eq, List, [], ◌∷◌, map, slice_get, codes, Option, Some, None}
use Rattle.std.specs.List.{list_any, position}
use Rattle.std.specs.Option.{option_map, option_and_then}
use Rattle.std.specs.Str.{bytes_eq}
use Rattle.sal_value.specs.declared.value.Sort.{Sort}
use Rattle.sal_ast.specs.declared.program.BaseName.{BaseName}
use Rattle.sal_ast.specs.declared.program.BaseName.TheVariants as base
use Rattle.sal_ast.specs.declared.program.TypeName.{TypeName}
use Rattle.sal_ast.specs.declared.program.Param.{Param}
use Rattle.sal_ast.specs.declared.program.Behavior.{Behavior}
use Rattle.sal_ast.specs.declared.program.Program.{Program}
use Rattle.sal_ast.specs.Sorts.{type_sort, result_sort}
use Rattle.sal_types.specs.declared.signature.Signature.{Signature}
use Rattle.sal_ast.specs.Members.{Handler, handlers_of, behavior_by_name, handler_by_name, handlers_at}

-- behaviour n with the number of a handler
abbrev pub with_behavior : ℕ → Option ℕ → Option (ℕ × ℕ)
with_behavior n handler = option_map (λ h. (n, h)) handler

-- the numbers of the handler of this name of the behaviour of this name
unfoldable pub numbers_by_name : List ℕ → List ℕ → Program → Option (ℕ × ℕ)
numbers_by_name behavior handler p =
    option_and_then
    (λ n. with_behavior n (handler_by_name handler (handlers_at p.behaviors (Some n))))
    (behavior_by_name behavior p.behaviors)

-- ---- the start

-- the base type is `String`
abbrev pub is_string_base : BaseName → Bool
is_string_base base.Str = true
is_string_base base.Int = false
is_string_base base.Boolean = false
is_string_base (base.Actor name) = false

-- `String[] x` alone
abbrev pub is_words_params : List Param → Bool
is_words_params (x ∷ []) = is_string_base x.sort.base && nat_eq x.sort.dims 1
is_words_params _ = false

-- `void`
abbrev pub has_no_result : Option TypeName → Bool
has_no_result None = true
has_no_result (Some t) = false

-- `void act(String[] x)`
abbrev pub is_act : Handler → Bool
is_act h = has_no_result h.result && (bytes_eq h.name (codes "act") && is_words_params h.params)

-- whether a behaviour has such a handler
unfoldable pub has_act : Behavior → Bool
has_act b = list_any is_act (handlers_of b)

-- the first behaviour with such a handler, and its first one
unfoldable pub start_numbers : Program → Option (ℕ × ℕ)
start_numbers p =
    option_and_then
    (λ n. with_behavior n (position is_act (handlers_at p.behaviors (Some n))))
    (position has_act p.behaviors)

-- ---- what handlers take and give

-- one more, if it and the others are there
abbrev pub cons_some : {A : Type 0} → Option A → Option (List A) → Option (List A)
cons_some None rest = None
cons_some (Some a) None = None
cons_some (Some a) (Some rest) = Some (a ∷ rest)

-- all of them, if each is there
abbrev pub all_some : {A : Type 0} → List (Option A) → Option (List A)
all_some [] = Some []
all_some (o ∷ os) = cons_some o (all_some os)

-- the types of what a handler takes and of its result, if each type means one
abbrev pub signature_with : Option (List Sort) → Option Sort → Option Signature
signature_with (Some params) (Some result) = Some (record { params = params; result = result })
signature_with (Some params) None = None
signature_with None result = None

-- as they are written; in a typed program each type means one
unfoldable pub signature_of : List Behavior → Handler → Option Signature
signature_of behaviors h = signature_with (all_some (map (λ p. type_sort p.sort behaviors) h.params)) (result_sort h.result behaviors)

-- the signature of the handler with these numbers
unfoldable pub signature_at : ℕ → ℕ → Program → Option Signature
signature_at behavior handler p = option_and_then (signature_of p.behaviors) (slice_get (handlers_at p.behaviors (Some behavior)) handler)

-- those of all handlers of a behaviour
unfoldable pub behavior_signatures : List Behavior → Behavior → Option (List Signature)
behavior_signatures behaviors b = all_some (map (signature_of behaviors) (handlers_of b))

-- those of all handlers
unfoldable pub all_signatures : Program → Option (List (List Signature))
all_signatures p = all_some (map (behavior_signatures p.behaviors) p.behaviors)
