use Rattle.sal_state.specs.Contexts.{context_of}
use Rattle.sal_evaluate.proofs.Keeping.{place_index_gives}
use Rattle.sal_evaluate.proofs.expressions.+evaluate.Goals as goal

pub suffix_of_place-returns-in_ok-index-in-Index : goal.suffix_of_place-returns-in_ok-index-in-Index
suffix_of_place-returns-in_ok-index-in-Index g t c =
    place_index_gives c.args.own c.args.name.now.text c.as_bytes-name.result.now c.args.suffix.now _ _ c.in_ok-index-in-Index.index _
    (context_of (g.A.ActorSupply.supply c.args.context.now.actors.now) c.args.context.now) c.args.state.now c.evaluate.new.state c.clone_place_item.result
    c.in-Index.is c.in_ok-index-in-Index.ensures c.read_place.ensures c.as_bytes-name.ensures c.clone_place_item.ensures
