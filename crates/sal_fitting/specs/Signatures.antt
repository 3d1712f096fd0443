-- The signatures of handlers, the types of fields, and which values fit them.
use Rattle.std.specs.Prelude.{◌≡◌, ℕ, Bool, false, if◌then◌else◌, List, [], ◌∷◌, map, Option, Some, None}
use Rattle.sal_value.specs.declared.value.Base.TheVariants as base
use Rattle.sal_value.specs.declared.value.Sort.{Sort}
use Rattle.sal_value.specs.declared.value.Value.{Value}
use Rattle.sal_types.specs.declared.signature.Signature.{Signature}
use Rattle.sal_handler.specs.Calls.{Meaning}
use Rattle.sal_handler.specs.Fits.{fit_sorts, is_migrate}

-- The signature of each handler of each behaviour, and the types of a behaviour's fields, by number.
pub record Signatures : Type 0 where
  pub handler : ℕ → ℕ → Option Signature
  pub fields : ℕ → Option (List Sort)

-- the type of null alone
abbrev pub void_sort : Sort
void_sort = record { base = base.Void; dims = 0 }

-- `void migrate(String)`
abbrev pub migrate_signature : Signature
migrate_signature = record { params = record { base = base.Str; dims = 0 } ∷ []; result = void_sort }

-- the signature of the handler with these numbers; each actor has `migrate`
abbrev pub signature_at : Signatures → ℕ → ℕ → Option Signature
signature_at sigs behavior handler =
    if is_migrate behavior handler then Some migrate_signature else sigs.handler behavior handler

-- as many legal values as there are types, each of its own
abbrev pub are_of_sorts : List Sort → List Value → Bool
are_of_sorts sorts vs = fit_sorts (map (λ s. Some s) sorts) vs

-- arguments for the parameters; none fit where there is no handler
abbrev pub fits_signature : Option Signature → List Value → Bool
fits_signature None args = false
fits_signature (Some g) args = are_of_sorts g.params args

-- values of the fields' types; none fit where there is no behaviour
abbrev pub fits_sorts : Option (List Sort) → List Value → Bool
fits_sorts None vs = false
fits_sorts (Some sorts) vs = are_of_sorts sorts vs

-- The signatures say which calls and states fit.
pub record Agrees (sigs : Signatures) (p : Meaning) : Type 0 where
  pub calls : (behavior handler : ℕ) (args : List Value)
      → p.fits_call behavior handler args ≡ fits_signature (signature_at sigs behavior handler) args
  pub states : (behavior : ℕ) (fields : List Value)
      → p.fits_state behavior fields ≡ fits_sorts (sigs.fields behavior) fields
