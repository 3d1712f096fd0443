use Rattle.sal_lists.proofs.Joins.{token_given}
use Rattle.sal_lists.proofs.settling.Settling.give_one.Goals as goal

pub returns-in-Tok-clause-given : goal.returns-in-Tok-clause-given
returns-in-Tok-clause-given c = token_given c.args.reply c.args.value c.in-Tok.field-0 c.in-Tok.field-1 c.args.self.now.joins c.args.answers.now c.in-Tok.is
