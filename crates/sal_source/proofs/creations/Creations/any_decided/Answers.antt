use Rattle.std.proofs.Common.{ap, ◌∙◌}
use Rattle.std.specs.List.{list_any}
use Rattle.sal_source.specs.Keys.{creation_key}
use Rattle.sal_source.specs.code.Possible.{is_decided}
use Rattle.sal_source.proofs.Ends.{any_of}
use Rattle.sal_source.proofs.creations.Creations.any_decided.Goals as goal

pub returns : goal.returns
returns c =
    any_of creation_key (is_decided c.args.authorities.now c.args.actors.now) c.self.inside.items c.args.self.now c.some_decided.result c.self.invariant
    c.self.view_is (c.some_decided.ensures ∙ ap (list_any (is_decided c.args.authorities.now c.args.actors.now)) c.as_slice.ensures)
