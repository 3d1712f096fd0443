-- The signatures of a program, and the law over its runs.
use Rattle.std.specs.Prelude.{◌≡◌, ℕ, List, map, slice_get, Option, Some, None}
use Rattle.sal_value.specs.declared.value.Sort.{Sort}
use Rattle.sal_ast.specs.declared.program.Behavior.{Behavior}
use Rattle.sal_ast.specs.declared.program.Program.{Program}
use Rattle.sal_ast.specs.Members.{Handler, fields_of, handlers_of}
use Rattle.sal_ast.specs.Sorts.{result_sort}
use Rattle.sal_types.specs.declared.signature.Signature.{Signature}
use Rattle.sal_types.specs.Signatures.{all_some, signature_with}
use Rattle.sal_mail.specs.declared.constants.TheConstants.{MIGRATE}
use Rattle.sal_mail.specs.declared.effects.Effects.{Effects}
use Rattle.sal_handler.specs.declared.turn.Outcome.TheVariants.{Done}
use Rattle.sal_handler.specs.Calls.{Call}
use Rattle.sal_handler.specs.Handler.{handle, begin}
use Rattle.sal_handler.specs.Fits.{sorts_of, meaning_of}
use Rattle.sal_source.specs.declared.state.Setup.{Setup}
use Rattle.sal_source.specs.declared.state.Step.{Step}
use Rattle.sal_source.specs.Configuration.{Configuration}
use Rattle.sal_source.specs.Run.{play}
use Rattle.sal_fitting.specs.Signatures.{Signatures, void_sort, migrate_signature}
use Rattle.sal_fitting.specs.Handlers.{IsTypedCall, AreTyped, HandlersKeepTypes}
use Rattle.sal_fitting.specs.Runs.{BeginsTyped, AllFits}

-- where a type's name means nothing, which no typed program has, void
abbrev pub or_void : Option Sort → Sort
or_void None = void_sort
or_void (Some t) = t

-- what a handler takes and gives
abbrev pub signature_of : List Behavior → Option Handler → Option Signature
signature_of behaviors None = None
signature_of behaviors (Some h) =
    signature_with (all_some (sorts_of behaviors (map (λ p. p.sort) h.params))) (Some (or_void (result_sort h.result behaviors)))

-- the handler of the behaviour with this number
abbrev pub signature_in : List Behavior → Option Behavior → ℕ → Option Signature
signature_in behaviors None handler = None
signature_in behaviors (Some b) handler = signature_of behaviors (slice_get (handlers_of b) handler)

-- the types of the behaviour's fields
abbrev pub field_sorts : List Behavior → Option Behavior → Option (List Sort)
field_sorts behaviors None = None
field_sorts behaviors (Some b) = all_some (sorts_of behaviors (map (λ f. f.sort) (fields_of b)))

-- the signatures of a program
abbrev pub signatures : Program → Signatures
signatures p = record {
  handler = λ behavior handler. signature_in p.behaviors (slice_get p.behaviors behavior) handler;
  fields = λ behavior. field_sorts p.behaviors (slice_get p.behaviors behavior);
}

-- Where a program's handlers keep types, and it begins with a state and words that fit, everything fits
-- after each of its runs.
abbrev pub ProgramsKeepTypes : Type 0
ProgramsKeepTypes =
    (p : Program) (setup : Setup) → HandlersKeepTypes (signatures p) (handle p)
    → BeginsTyped (meaning_of p) setup.words (begin p)
    → (ss : List Step) (end : Configuration) → play p setup ss ≡ Some end
    → AllFits (meaning_of p) (signatures p) ss end

-- Of every program: where a call of `migrate` fits, what it leaves is typed. (Of other handlers only typing gives this.)
abbrev pub MigrateKeepsTypes : Type 0
MigrateKeepsTypes =
    (p : Program) (c : Call) (e : Effects) → IsTypedCall (signatures p) migrate_signature c → c.handler ≡ MIGRATE
    → handle p c ≡ Done e → AreTyped (signatures p) migrate_signature c e
