use Rattle.sal_desk.proofs.Desks.{fresh}
use Rattle.sal_desk.specs.declared.draft.Draft.{Draft}
use Rattle.sal_desk.proofs.draft.Draft.new.Goals as goal

pub returns-clause-desk : goal.returns-clause-desk
returns-clause-desk c t =
    let d : Draft = record {
      residents = c.new.result;
      taken = c.args.taken;
      left = c.new-2.result;
      ready = c.new-3.result;
      reached = c.args.reached;
      delayed = c.new-4.result;
      released = c.new-5.result;
      held = c.new-6.result;
      pending = c.new-7.result;
      places = c.new-8.result;
      questions = c.new-9.result;
      arrived = c.args.arrived;
      clock = c.args.clock;
      next_anon = c.args.next_anon;
      work = c.new-10.result;
      sent = c.new-11.result;
      told = c.silence.result;
    } in
    fresh t d c.new.ensures c.new-2.ensures c.new-3.ensures c.new-4.ensures c.new-5.ensures c.new-6.ensures c.new-7.ensures c.new-8.ensures c.new-9.ensures c.new-10.ensures.items c.new-11.ensures c.silence.ensures
