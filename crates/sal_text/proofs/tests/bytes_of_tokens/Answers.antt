use Rattle.std.proofs.Common.{arith}
use Rattle.sal_text.proofs.Stood.{span_held}
use Rattle.sal_text.proofs.tests.bytes_of_tokens.Goals as goal

pub slice-requires : goal.slice-requires
slice-requires g c =
    span_held _ c.in_ok-tokens.tokens.source.now c.in_ok-tokens.tokens.items 0 c.in_ok-tokens.ensures.source c.in_ok-tokens.ensures.tokens (omega arith)

pub slice-requires-2 : goal.slice-requires-2
slice-requires-2 g c =
    span_held _ c.in_ok-tokens.tokens.source.now c.in_ok-tokens.tokens.items 1 c.in_ok-tokens.ensures.source c.in_ok-tokens.ensures.tokens (omega arith)

pub slice-requires-3 : goal.slice-requires-3
slice-requires-3 g c =
    span_held _ c.in_ok-tokens.tokens.source.now c.in_ok-tokens.tokens.items 2 c.in_ok-tokens.ensures.source c.in_ok-tokens.ensures.tokens (omega arith)
