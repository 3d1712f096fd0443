use Rattle.std.proofs.Common.{List, Some, ap}
use Rattle.salsa.specs.declared.memory.Entry.{Entry}
use Rattle.salsa.specs.Memory.{held_of}
use Rattle.salsa.proofs.InMemory.{read_rose, call_rose, wrote, others_kept}
use Rattle.salsa.proofs.memory.MemFilesFiles.TheImpl.Goals as goal

pub read-tells : goal.read-tells
read-tells c = record {
  within = c.ensures.within;
  bytes = c.ensures.bytes;
  kept = ap (λ (es : List Entry). Some (held_of es)) c.ensures.kept;
  later = λ any. c.ensures.later;
  failed = read_rose _ _ _ c.ensures.faults;
}

pub write-tells : goal.write-tells
write-tells c = record {
  ok = wrote _ _ _ _ _ c.ensures.ok;
  others = others_kept _ _ _ _ _ c.ensures.ok c.ensures.err;
  later = λ any. c.ensures.later;
  failed = call_rose _ _ _ c.ensures.faults;
}
