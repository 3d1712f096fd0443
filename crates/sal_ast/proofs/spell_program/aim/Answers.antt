use Rattle.sal_ast.specs.Spell.{word_at, sign}
use Rattle.sal_ast.proofs.SpellSteps.{added}
use Rattle.sal_ast.proofs.spell_program.aim.Goals as goal

pub returns-in_ok-word-in-Output : goal.returns-in_ok-word-in-Output
returns-in_ok-word-in-Output c =
    rw c.in-Output.is (added c.sign.result c.args.out.now c.word.new.out c.sign.new.out (word_at "standardOutput" 0) (sign "<-") c.in_ok-word-in-Output.ensures c.sign.ensures)
