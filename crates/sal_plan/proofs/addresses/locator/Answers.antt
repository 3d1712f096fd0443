use Rattle.std.proofs.Common.{ap, ◌∙◌}
use Rattle.sal_value.specs.Names.{ual_of}
use Rattle.sal_plan.proofs.Services.{locator_is}
use Rattle.sal_plan.proofs.addresses.locator.Goals as goal

pub returns-in-Ok : goal.returns-in-Ok
returns-in-Ok c = locator_is c.as_bytes.result.now c.in-Ok.locator c.in-Ok.ensures ∙ ap ual_of c.as_bytes.ensures
