use Rattle.std.proofs.Common.{◌≡◌, take, None}
use Rattle.sal_source.specs.Keys.{made_key}
use Rattle.sal_source.specs.code.Lists.{key_by, first_at_key}
use Rattle.sal_source.proofs.made.place_in.Given as goal

abbrev pub invariant-loop-at : goal.invariant-loop-at
invariant-loop-at g l = first_at_key (key_by g.T.Made.made_by g.T.Made.number) (made_key l.maker l.serial) (take l.at l.items) ≡ None
