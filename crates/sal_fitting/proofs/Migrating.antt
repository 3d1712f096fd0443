-- What `migrate` leaves is typed.
use Rattle.std.proofs.Common.{◌≡◌, Bool, true, false, if◌then◌else◌, nat_eq, Option, Some, None, Err, subst}
use Rattle.std.specs.Prelude.{nat_lt, slice_get}
use Rattle.std.proofs.lemmas.Bool.{eq-eqb}
use Rattle.sal_value.specs.declared.name.Ual.{Ual}
use Rattle.sal_value.specs.Names.{ual_of}
use Rattle.sal_mail.specs.declared.fault.Trap.TheVariants.{TooManyMessages}
use Rattle.sal_handler.specs.declared.turn.Outcome.TheVariants.{Done}
use Rattle.sal_handler.specs.Handler as h
use Rattle.sal_fitting.specs.Handlers.{AreTyped}
use Rattle.sal_fitting.specs.Programs.{signatures, MigrateKeepsTypes}
use Rattle.sal_fitting.specs.Signatures.{migrate_signature}
use Rattle.sal_fitting.proofs.Pieces.{null_void}

pub migrate_typed : MigrateKeepsTypes
unfolding h.handle
migrate_typed p c e call is done = late (nat_lt 18446744073709547520 c.serial) done
  where
    unchanged : AreTyped (signatures p) migrate_signature c (h.no_effects c)
    unchanged = record {
      sorts = λ q. None;
      new = λ q t e. absurd cc;
      answer = null_void;
      messages = tt;
      joins = tt;
      fields = call.fields;
      actors = tt;
      creations = tt;
    }

    moved : (o : Option Ual) → h.outcome_of (h.migrate_if_locator o c) ≡ Done e → AreTyped (signatures p) migrate_signature c e
    moved None d = absurd cc
    moved (Some l) d = let same : h.no_effects c ≡ e = cc in subst (AreTyped (signatures p) migrate_signature c) same unchanged

    here : (b : Bool) → b ≡ true → h.outcome_of (if b then h.run_migrate c else h.run_in_behavior (slice_get p.behaviors c.behavior) p c) ≡ Done e → AreTyped (signatures p) migrate_signature c e
    here true t d = moved (ual_of (h.first_text c.args)) d
    here false t d = absurd cc

    late : (b : Bool) → h.outcome_of (if b then Err TooManyMessages else h.run_called p c) ≡ Done e → AreTyped (signatures p) migrate_signature c e
    late true d = absurd cc
    late false d = here (nat_eq c.handler 65535) (eq-eqb c.handler 65535 is) d
