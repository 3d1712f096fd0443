-- What `migrate` does.
use Rattle.std.proofs.Common.{◌≡◌, Option, Some, None, Ok, refl}
use Rattle.sal_value.specs.declared.name.Ual.{Ual}
use Rattle.sal_handler.specs.Evaluation.{and_then}
use Rattle.sal_handler.specs.Expressions.{good_locator}
use Rattle.sal_handler.specs.Calls.{Call}
use Rattle.sal_handler.specs.Handler.{migrate_if_locator, no_effects}

pub migrate_is : (o : Option Ual) (c : Call) → migrate_if_locator o c ≡ and_then (good_locator o) (λ _. Ok (no_effects c))
migrate_is None c = refl
migrate_is (Some l) c = refl
