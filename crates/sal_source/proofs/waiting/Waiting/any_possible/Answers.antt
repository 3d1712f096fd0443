use Rattle.std.proofs.Common.{ap, ◌∙◌}
use Rattle.std.specs.List.{list_any}
use Rattle.sal_source.specs.Keys.{message_key}
use Rattle.sal_source.specs.Configuration.{Waiting}
use Rattle.sal_source.specs.code.Possible.{is_possible}
use Rattle.sal_source.proofs.Ends.{any_of}
use Rattle.sal_source.proofs.waiting.Waiting.any_possible.Goals as goal

pub returns : goal.returns
returns c =
    any_of message_key (is_possible c.args.actors.now) c.self.inside.messages c.args.self.now.messages c.some_possible.result c.self.invariant
    (ap (λ (w : Waiting). w.messages) c.self.view_is) (c.some_possible.ensures ∙ ap (list_any (is_possible c.args.actors.now)) c.as_slice.ensures)
