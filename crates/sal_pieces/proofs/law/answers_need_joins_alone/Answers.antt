use Rattle.sal_pieces.proofs.Answers.{need_joins}
use Rattle.sal_pieces.proofs.law.answers_need_joins_alone.Goals as goal

pub returns : goal.returns
returns c = need_joins
