use Rattle.std.proofs.Common.{◌+◌, List, ℕ, ◌∷◌, take, sym, ap, ◌∙◌}
use Rattle.sal_schedule.specs.Lines.{words_of}
use Rattle.sal_schedule.proofs.Cutting.{cut_at, rest_is}
use Rattle.sal_schedule.proofs.words.split_word.Goals as goal

pub returns-in-Some : goal.returns-in-Some
returns-in-Some c =
    cut_at c.args.line.now c.in-Some.at c.in-Some.ensures
    ∙ ap (λ (z : List ℕ). take c.in-Some.at c.args.line.now ∷ words_of z) (sym (rest_is c.args.line.now (c.in-Some.at + 1)))
