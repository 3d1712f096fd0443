use Rattle.std.proofs.Common.{◌≡◌, ◌++◌, drop}
use Rattle.std.specs.List.{flat_map}
use Rattle.sal_resident.specs.Packing.{piece_spelling}
use Rattle.sal_resident.proofs.writing.put_each_piece.Given as goal

abbrev pub invariant-loop-piece : goal.invariant-loop-piece
invariant-loop-piece l = l.out ++ flat_map piece_spelling (drop l.piece-index l.pieces) ≡ l.fn.out ++ flat_map piece_spelling l.fn.pieces
