use Rattle.std.proofs.Common.{◌+◌, ◌&&◌, nat_eq, get_or, sym, ◌∙◌, ap}
use Rattle.std.proofs.lemmas.List.{take_rest}
use Rattle.sal_text.specs.Tokens.{begins_slash}
use Rattle.sal_text.proofs.Blocks.{block_step}
use Rattle.sal_text.proofs.comments.block_length.Goals as goal

pub bytes-preserved : goal.bytes-preserved
bytes-preserved c =
    block_step c.args.text.now c.bytes.i c.bytes-test.true
    (ap (λ t. nat_eq (get_or c.args.text.now c.bytes.i 0) 42 && begins_slash t) (sym (take_rest c.args.text.now (c.bytes.i + 1)))
    ∙ (sym c.ends_here.ensures ∙ c.if-ends_here.false)) c.bytes.invariant
