use Rattle.std.proofs.Common.{refl}
use Rattle.sal_source.specs.Keys.{join_key}
use Rattle.sal_source.specs.code.Maps.{join_of, join_entry_key}
use Rattle.sal_source.proofs.Mapping.{inserted}
use Rattle.sal_source.proofs.Waits.{words_tell}
use Rattle.sal_source.proofs.open_joins.insert.Goals as goal

pub returns : goal.returns
returns c = inserted join_entry_key join_key join_of (λ e. refl) (words_tell c.keys_are_injective.ensures) c.args.key c.args.rest c.args.joins.now.entries c.insert.new.self.entries c.in_ok-insert.ensures.entries
