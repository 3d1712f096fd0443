use Rattle.std.proofs.Common.{ℕ, Option, Some, None, sym, ap, ◌∙◌}
use Rattle.sal_value.specs.declared.name.Ual.{Ual}
use Rattle.sal_mail.specs.declared.envelope.Envelope.TheVariants as envelope
use Rattle.sal_envelope.specs.Spelling.{envelope_is_spelled}
use Rattle.sal_envelope.proofs.Found.{and_true}
use Rattle.sal_service.specs.declared.turned.Turned.{Turned}
use Rattle.sal_service.specs.Service.{is_mine, serve_get}
use Rattle.sal_service.specs.code.Answering.{after, after_envelope}
use Rattle.sal_service.proofs.Sizes.{get_reply_short}
use Rattle.sal_service.proofs.Turns.{answered, mine, not_mine}
use Rattle.sal_service.proofs.serving.get.Goals as goal

pub returns-then-not-is_mine : goal.returns-then-not-is_mine
returns-then-not-is_mine c =
    let names = c.args.register.now in
    c.take_unanswered.ensures names names
    ∙ ap (after_envelope c.args.origin names c.args.links.now)
    (not_mine (is_mine c.args.site.now.number c.args.site.now.plan c.args.name) names (serve_get c.args.name names) (sym c.is_mine.ensures ∙ c.if-not-is_mine.true))

pub answer-requires-clause-spelled : goal.answer-requires-clause-spelled
unfolding envelope_is_spelled
answer-requires-clause-spelled c = and_true _ _ c.requires.named c.in_ok-found.ensures.spelled

pub answer-requires-clause-short : goal.answer-requires-clause-short
answer-requires-clause-short c = get_reply_short c.args.name c.in_ok-found.found c.requires.named c.in_ok-found.ensures.spelled

pub returns : goal.returns
returns c =
    let names = c.args.register.now in
    let links = c.args.links.now in
    let o = c.args.origin in
    ap (λ (t : Turned). after names c.answer.new.links t) c.turn_without_decision.ensures
    ∙ answered c.in_ok-took.took o (envelope.GetReply c.args.name c.in_ok-found.found) names links c.answer.new.links c.in_ok-took.ensures.ok
    ∙ ap (λ (f : Option (Ual × ℕ)). after_envelope o names links (record { names = names; answer = Some (envelope.GetReply c.args.name f); decision = None })) c.in_ok-found.ensures.found
    ∙ ap (after_envelope o names links)
    (mine (is_mine c.args.site.now.number c.args.site.now.plan c.args.name) names (serve_get c.args.name names) (sym c.is_mine.ensures ∙ c.if-not-is_mine.false))
