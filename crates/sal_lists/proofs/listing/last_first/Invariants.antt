use Rattle.std.proofs.Common.{◌≡◌, ◌++◌}
use Rattle.std.specs.Prelude.{reverse}
use Rattle.sal_lists.proofs.listing.last_first.Given as goal

abbrev pub invariant-loop-reply : goal.invariant-loop-reply
invariant-loop-reply l = l.replies ++ reverse l.reply-iterator.iter.rest.now ≡ reverse l.fn.given
