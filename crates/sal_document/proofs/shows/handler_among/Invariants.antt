use Rattle.std.proofs.Common.{◌≡◌, drop, filter_map, slice_get}
use Rattle.sal_ast.specs.Members.{as_handler}
use Rattle.sal_document.proofs.shows.handler_among.Given as goal

abbrev pub invariant-loop-member : goal.invariant-loop-member
invariant-loop-member l = slice_get (filter_map as_handler (drop l.member-index l.members)) l.left ≡ slice_get (filter_map as_handler l.members) l.handler
