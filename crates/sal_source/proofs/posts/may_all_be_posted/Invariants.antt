use Rattle.std.proofs.Common.{◌≡◌, drop}
use Rattle.std.specs.List.{list_all}
use Rattle.sal_source.specs.Posts.{may_be_posted}
use Rattle.sal_source.proofs.posts.may_all_be_posted.Given as goal

abbrev pub invariant-loop-arg : goal.invariant-loop-arg
invariant-loop-arg l = list_all may_be_posted l.args ≡ list_all may_be_posted (drop l.arg-index l.args)
