use Rattle.sal_document.proofs.Whole as found
use Rattle.sal_document.proofs.laws.printed_documents_are_read.Goals as goal

pub returns : goal.returns
returns c = found.printed_documents_are_read
