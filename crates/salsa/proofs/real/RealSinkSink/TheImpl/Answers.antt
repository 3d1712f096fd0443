use Rattle.salsa.proofs.InMemory.{untold, untold_prefix}
use Rattle.salsa.proofs.real.RealSinkSink.TheImpl.Goals as goal

pub put-tells : goal.put-tells
put-tells g c = record {
  ok = untold c.result c.args.bytes.now;
  err = untold_prefix c.result c.args.bytes.now;
  later = c.ensures.later;
  failed = c.ensures.failed;
  nothing = c.ensures.nothing;
}
