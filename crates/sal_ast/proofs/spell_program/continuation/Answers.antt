use Rattle.sal_ast.specs.Spell.{word_at, sign}
use Rattle.sal_ast.proofs.SpellSteps.{added}
use Rattle.sal_ast.proofs.spell_program.continuation.Goals as goal

pub returns-in_ok-sign-in-Some : goal.returns-in_ok-sign-in-Some
returns-in_ok-sign-in-Some c =
    rw c.in-Some.is (added c.word.result c.args.out.now c.sign.new.out c.word.new.out (sign "@") (word_at "currentContinuation" 0) c.in_ok-sign-in-Some.ensures c.word.ensures)
