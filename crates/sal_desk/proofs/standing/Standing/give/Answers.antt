use Rattle.sal_desk.proofs.Keeping.{given_tidy}
use Rattle.sal_desk.proofs.standing.Standing.give.Goals as goal

pub invariant_of-self : goal.invariant_of-self
invariant_of-self c =
    given_tidy c.self.inside.resident c.give.new.self c.args.reply.now c.args.value c.give.result c.give.ensures.ok c.give.ensures.err c.self.invariant
