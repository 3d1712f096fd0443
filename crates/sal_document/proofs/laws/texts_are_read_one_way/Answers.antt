use Rattle.sal_document.proofs.Whole as found
use Rattle.sal_document.proofs.laws.texts_are_read_one_way.Goals as goal

pub returns : goal.returns
returns c = found.texts_are_read_one_way
