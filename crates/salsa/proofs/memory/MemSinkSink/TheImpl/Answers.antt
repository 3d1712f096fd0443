use Rattle.salsa.proofs.InMemory.{call_rose, grew, took_none, not_empty}
use Rattle.salsa.proofs.memory.MemSinkSink.TheImpl.Goals as goal

pub put-tells : goal.put-tells
put-tells c = record {
  ok = grew c.result c.args.bytes.now c.args.self.now.taken c.new.self.now.taken c.ensures.ok;
  err = took_none _ _ _ _ c.ensures.err;
  later = c.ensures.later;
  failed = call_rose _ _ _ c.ensures.faults;
  nothing = not_empty _ _ _ (λ empty. (c.ensures.nothing empty).0);
}
