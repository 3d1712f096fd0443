-- Which calls and states fit a program, and what a program means.
use Rattle.std.specs.Prelude.{ℕ, Bool, true, false, ◌&&◌, nat_eq, if◌then◌else◌, List, [], ◌∷◌, map, slice_get, Option, Some, None}
use Rattle.sal_value.specs.declared.value.Base.TheVariants as base
use Rattle.sal_value.specs.declared.value.Sort.{Sort}
use Rattle.sal_value.specs.declared.value.Value.{Value}
use Rattle.sal_value.specs.Membership.{belongs}
use Rattle.sal_value.specs.Spelling.{is_legal}
use Rattle.sal_ast.specs.declared.program.TypeName.{TypeName}
use Rattle.sal_ast.specs.declared.program.Behavior.{Behavior}
use Rattle.sal_ast.specs.declared.program.Program.{Program}
use Rattle.sal_ast.specs.Members.{Handler, fields_of, handlers_of}
use Rattle.sal_ast.specs.Sorts.{type_sort}
use Rattle.sal_handler.specs.Handler.{handle, begin}
use Rattle.sal_handler.specs.Calls.{Meaning}
use Rattle.sal_mail.specs.declared.constants.TheConstants.{OUTPUT, MIGRATE}

-- a legal value of the type
abbrev pub fits_sort : Option Sort → Value → Bool
fits_sort None v = false
fits_sort (Some sort) v = is_legal v && belongs v sort

-- as many legal values as there are types, each of its own
abbrev pub fit_sorts : List (Option Sort) → List Value → Bool
fit_sorts [] [] = true
fit_sorts (sort ∷ sorts) (v ∷ vs) = fits_sort sort v && fit_sorts sorts vs
fit_sorts _ _ = false

-- the types that these types' names mean
abbrev pub sorts_of : List Behavior → List TypeName → List (Option Sort)
sorts_of behaviors = map (λ t. type_sort t behaviors)

-- the arguments are legal values of the parameters' types; none fit where there is no handler
abbrev pub fits_handler : Option Handler → List Behavior → List Value → Bool
fits_handler None behaviors args = false
fits_handler (Some h) behaviors args = fit_sorts (sorts_of behaviors (map (λ p. p.sort) h.params)) args

-- the arguments fit this handler of the behaviour; none fit where there is no behaviour
abbrev pub fits_behavior : Option Behavior → List Behavior → ℕ → List Value → Bool
fits_behavior None behaviors handler args = false
fits_behavior (Some b) behaviors handler args = fits_handler (slice_get (handlers_of b) handler) behaviors args

-- `migrate` takes one text
abbrev pub text_sort : Option Sort
text_sort = Some (record { base = base.Str; dims = 0 })

-- the numbers of the behaviour and the handler are those of `migrate`
abbrev pub is_migrate : ℕ → ℕ → Bool
is_migrate behavior handler = nat_eq behavior OUTPUT && nat_eq handler MIGRATE

-- a call of a handler that the program has, or of `migrate`, with legal values of the parameters' types
unfoldable pub fits_call : Program → ℕ → ℕ → List Value → Bool
fits_call p behavior handler args =
    if is_migrate behavior handler then fit_sorts (text_sort ∷ []) args
    else fits_behavior (slice_get p.behaviors behavior) p.behaviors handler args

-- legal values of the fields' types; none fit where there is no behaviour
abbrev pub fits_fields : Option Behavior → List Behavior → List Value → Bool
fits_fields None behaviors fields = false
fits_fields (Some b) behaviors fields = fit_sorts (sorts_of behaviors (map (λ f. f.sort) (fields_of b))) fields

-- a state of an actor of a behaviour that the program has, with legal values of the fields' types
unfoldable pub fits_state : Program → ℕ → List Value → Bool
fits_state p behavior fields = fits_fields (slice_get p.behaviors behavior) p.behaviors fields

-- what a program means
abbrev pub meaning_of : Program → Meaning
meaning_of p = record { outcome = handle p; begin = begin p; fits_call = fits_call p; fits_state = fits_state p }
