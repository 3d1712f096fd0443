use Rattle.std.proofs.Common.{◌+◌, List, ℕ, ◌∷◌, take, sym, ap, ◌∙◌, arith}
use Rattle.sal_schedule.specs.Lines.{lines_of}
use Rattle.sal_schedule.proofs.Cutting.{first_line, rest_is}
use Rattle.sal_schedule.proofs.schedule.split_line.Goals as goal

pub returns-clause-cut : goal.returns-clause-cut
returns-clause-cut c =
    first_line c.args.text.now c.line_len-at.result (omega arith) c.line_len-at.ensures.before c.line_len-at.ensures.after
    ∙ ap (λ (z : List ℕ). take c.line_len-at.result c.args.text.now ∷ lines_of z) (sym (rest_is c.args.text.now (c.line_len-at.result + 1)))
