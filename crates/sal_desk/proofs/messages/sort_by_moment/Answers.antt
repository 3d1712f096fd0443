use Rattle.std.proofs.Common.{rules}
use Rattle.std.proofs.lemmas.List.Sorted.{answers_always, IsNonDecreasingBy-from_sort_by_key}
use Rattle.sal_desk.proofs.Moments.{by_moment-from_sort}
use Rattle.sal_desk.proofs.messages.sort_by_moment.Goals as goal

pub returns : goal.returns
returns c =
    by_moment-from_sort c.args.delayed.now.items c.sort_by_key.new.self.items
    (IsNonDecreasingBy-from_sort_by_key (λ x. x.0) _ c.in_ok-sort_by_key.ensures.sorted (λ a r q k. search rules))
    (c.in_ok-sort_by_key.ensures.stable (λ x. x.0) (answers_always _ _ _ (λ f a r g h. search rules)))
