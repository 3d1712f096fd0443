use Rattle.std.proofs.Common.{◌≡◌, sym, ap, ◌∙◌}
use Rattle.std.specs.FinMap as fm
use Rattle.sal_source.specs.Table.{write}
use Rattle.sal_source.specs.Keys.{made_key}
use Rattle.sal_source.specs.Configuration.{Waiting}
use Rattle.sal_source.specs.Give.{join_after_value}
use Rattle.sal_source.specs.Step.{put_join}
use Rattle.sal_source.proofs.Waits.{filled_again}
use Rattle.sal_source.proofs.waiting.Waiting.fill.Goals as goal

pub returns-clause-waiting : goal.returns-clause-waiting
returns-clause-waiting c =
    let k = made_key c.args.maker c.args.number in
    let joins : put_join c.in-Some.maker c.fill.new.self c.take.new.self ≡ write c.args.self.now.joins k (join_after_value c.args.at c.args.value (fm.get c.args.self.now.joins k)) =
    ap (put_join c.in-Some.maker c.fill.new.self) c.in-Some.ensures.rest
    ∙ filled_again c.self.inside.joins k c.in-Some.maker c.args.at c.args.value c.in-Some.join c.fill.new.self c.in-Some.ensures.taken c.in-Some.ensures.keyed c.fill.ensures (sym c.is_full.ensures ∙ c.if-is_full.false)
    ∙ ap (λ (w : Waiting). write w.joins k (join_after_value c.args.at c.args.value (fm.get w.joins k))) c.self.view_is in
    c.in_ok-put_join.ensures ∙ (λ i. record { messages = (c.self.view_is i).messages; joins = joins i })
