use Rattle.sal_move.proofs.Learning.{first_places_kept}
use Rattle.sal_move.proofs.places.first_places_with_most_moves_are_kept.Goals as goal

pub returns : goal.returns
returns c = first_places_kept
