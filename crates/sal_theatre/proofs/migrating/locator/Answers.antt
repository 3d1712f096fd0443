use Rattle.sal_theatre.proofs.Locators.{locator_is}
use Rattle.sal_theatre.proofs.migrating.locator.Goals as goal

pub returns-in-Ok : goal.returns-in-Ok
returns-in-Ok c = locator_is c.args.text.now c.in-Ok.locator c.in-Ok.ensures
