use Rattle.std.proofs.Common.{◌≡◌, drop}
use Rattle.std.specs.List.{list_all}
use Rattle.sal_source.specs.Posts.{holds_universal}
use Rattle.sal_source.proofs.posts.+holds_universal.Given as goal

abbrev pub invariant-loop-item : goal.invariant-loop-item
invariant-loop-item l = list_all holds_universal (drop l.item-index l.item-items) ≡ list_all holds_universal l.item-items
