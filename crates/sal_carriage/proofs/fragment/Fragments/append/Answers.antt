use Rattle.std.proofs.Common.{sym, subst}
use Rattle.std.specs.Vec.Iter.{into_iter_items}
use Rattle.std.proofs.lemmas.List.Elements.{All-append}
use Rattle.sal_carriage.specs.Fragments.{Fits, AllFit}
use Rattle.sal_carriage.proofs.Marking.{fits_front}
use Rattle.sal_carriage.proofs.fragment.Fragments.append.Goals as goal

pub invariant_of-self-in-None : goal.invariant_of-self-in-None
invariant_of-self-in-None c =
    fits_front c.loop-fragment.self-inside.items.items (into_iter_items c.loop-fragment.fragment-iterator)
    (subst AllFit (sym c.loop-fragment.invariant.0) (All-append Fits c.args.self.now c.args.more (subst AllFit c.self.view_is c.self.invariant) c.requires))
