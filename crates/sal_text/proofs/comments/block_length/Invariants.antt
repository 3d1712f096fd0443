use Rattle.std.proofs.Common.{◌≡◌, ◌+◌, drop, option_map}
use Rattle.sal_text.specs.code.Scanning.{block_length}
use Rattle.sal_text.proofs.comments.block_length.Given as goal

abbrev pub invariant-bytes : goal.invariant-bytes
invariant-bytes l = block_length l.text ≡ option_map (λ n. n + l.i) (block_length (drop l.i l.text))
