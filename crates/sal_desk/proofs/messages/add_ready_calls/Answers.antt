use Rattle.std.proofs.Common.{◌++◌, sym, ap, ◌∙◌, append-nil}
use Rattle.std.proofs.lemmas.Result.{on_ok_weaker}
use Rattle.sal_desk.specs.code.Drafts.{without_taken}
use Rattle.sal_desk.proofs.Calls.{none_left, all_left}
use Rattle.sal_desk.proofs.messages.add_ready_calls.Goals as goal

pub returns-then-is_among : goal.returns-then-is_among
returns-then-is_among c =
    let none = none_left c.args.left.now c.args.name.now (without_taken c.args.taken c.args.ready.now.items) (sym c.is_among.ensures ∙ c.if-is_among.true) in
    sym (append-nil c.args.calls.now) ∙ ap (λ xs. c.args.calls.now ++ xs) (sym none)

pub returns : goal.returns
returns c =
    let all = all_left c.args.left.now c.args.name.now (without_taken c.args.taken c.args.ready.now.items) (sym c.is_among.ensures ∙ c.if-is_among.false) in
    on_ok_weaker c.add_untaken_calls.result (λ h. h ∙ ap (λ xs. c.args.calls.now ++ xs) (sym all)) c.add_untaken_calls.ensures
