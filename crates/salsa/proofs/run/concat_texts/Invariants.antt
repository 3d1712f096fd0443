use Rattle.std.proofs.Common.{◌≡◌, ◌++◌, drop}
use Rattle.salsa.specs.Top.{concat_texts}
use Rattle.salsa.proofs.run.concat_texts.Given as goal

abbrev pub invariant-loop-text : goal.invariant-loop-text
invariant-loop-text l = l.bytes ++ concat_texts (drop l.text-index l.texts) ≡ concat_texts l.texts
