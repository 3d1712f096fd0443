use Rattle.std.proofs.Common.{ap, sym, ◌∙◌}
use Rattle.sal_pieces.specs.Steps.{with_opened}
use Rattle.sal_lists.specs.code.Settling.{Settling}
use Rattle.sal_lists.proofs.Joins.{with_last}
use Rattle.sal_lists.proofs.settling.Settling.open_all.Goals as goal

pub loop-opened-preserved : goal.loop-opened-preserved
loop-opened-preserved c =
    let rest = c.next.new.self.iter.rest.now in
    let joins = c.loop-opened.self.joins in
    record {
      same =
          ap (λ (s : Settling). with_opened rest s.joins) c.in_ok-open.ensures ∙ sym (with_last rest c.in-Some.opened.now joins)
          ∙ ap (λ l. with_opened l joins) (sym c.in-Some.ensures.steps) ∙ c.loop-opened.invariant.same;
      before = ap (λ (s : Settling). s.before) c.in_ok-open.ensures ∙ c.loop-opened.invariant.before;
    }
