use Rattle.sal_value.proofs.Readings.{locators_are_read}
use Rattle.sal_value.proofs.laws.locators_are_read.Goals as goal

pub returns : goal.returns
returns c = locators_are_read
