use Rattle.std.proofs.Common.{◌++◌, ap, sym, ◌∙◌, append-nil}
use Rattle.std.specs.Prelude.{reverse}
use Rattle.sal_source.specs.Give.{settle_all, settle_all_answers}
use Rattle.sal_source.proofs.Fuel.{settled_nil, told_nil}
use Rattle.sal_source.proofs.Waits.{SettleStep, settle_step}
use Rattle.sal_lists.specs.code.Settling.{waiting_in}
use Rattle.sal_lists.proofs.settling.Settling.settle.Goals as goal

pub loop-reply-smaller : goal.loop-reply-smaller
loop-reply-smaller c =
    let s : SettleStep c.loop-reply.left c.give_next.new.left (waiting_in c.loop-reply.self) (waiting_in c.give_next.new.self) c.loop-reply.answers c.give_next.new.answers =
    settle_step (c.in-Some.reply, c.in-Some.value) c.loop-reply.left c.pop.new.self c.give_next.new.left (waiting_in c.loop-reply.self) (waiting_in c.give_next.new.self) c.loop-reply.answers c.give_next.new.answers c.in-Some.ensures c.in_ok-give_next.ensures.given in
    s.smaller

pub loop-reply-preserved : goal.loop-reply-preserved
loop-reply-preserved c =
    let s : SettleStep c.loop-reply.left c.give_next.new.left (waiting_in c.loop-reply.self) (waiting_in c.give_next.new.self) c.loop-reply.answers c.give_next.new.answers =
    settle_step (c.in-Some.reply, c.in-Some.value) c.loop-reply.left c.pop.new.self c.give_next.new.left (waiting_in c.loop-reply.self) (waiting_in c.give_next.new.self) c.loop-reply.answers c.give_next.new.answers c.in-Some.ensures c.in_ok-give_next.ensures.given in
    record { same = s.same ∙ c.loop-reply.invariant.same; told = s.told ∙ c.loop-reply.invariant.told; before = c.in_ok-give_next.ensures.before ∙ c.loop-reply.invariant.before }

pub returns-clause-given : goal.returns-clause-given
returns-clause-given c = record {
  waiting = sym (settled_nil (waiting_in c.loop-reply.self)) ∙ ap (λ l. settle_all (reverse l) (waiting_in c.loop-reply.self)) (sym c.in_default.ensures.0) ∙ c.loop-reply.invariant.same;
  answers = sym (append-nil c.loop-reply.answers) ∙ ap (λ l. c.loop-reply.answers ++ l) (sym (told_nil (waiting_in c.loop-reply.self))) ∙ ap (λ l. c.loop-reply.answers ++ settle_all_answers (reverse l) (waiting_in c.loop-reply.self)) (sym c.in_default.ensures.0) ∙ c.loop-reply.invariant.told;
}
