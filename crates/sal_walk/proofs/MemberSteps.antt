-- The number of the first handler `act`.
use Rattle.std.proofs.Common.{◌≡◌, filter_map, sym, ap}
use Rattle.std.specs.List.{position_from}
use Rattle.std.proofs.lemmas.Iterator.Adapters.{position_from-zero}
use Rattle.sal_ast.specs.declared.program.Behavior.{Behavior}
use Rattle.sal_ast.specs.Members.{as_handler, handlers_of, valid_number}
use Rattle.sal_handler.specs.Handler.{is_act, act_in}

pub act_is : (b : Behavior) → valid_number (position_from is_act 0 (filter_map as_handler b.members)) ≡ act_in b
unfolding handlers_of
act_is b = ap valid_number (sym (position_from-zero is_act (filter_map as_handler b.members)))
