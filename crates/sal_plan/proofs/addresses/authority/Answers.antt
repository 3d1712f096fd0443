use Rattle.std.proofs.Common.{◌∙◌}
use Rattle.sal_plan.proofs.Services.{authority_at, authority_not}
use Rattle.sal_plan.proofs.addresses.authority.Goals as goal

pub returns-then-eq : goal.returns-then-eq
returns-then-eq c =
    authority_at c.args.text.now c.as_bytes.result.now c.in-Ok.uan c.as_str.result.now c.eq.result (c.as_bytes.ensures ∙ c.in_ok-name.ensures) c.in-Ok.ensures c.as_str.ensures c.eq.ensures c.if-eq.true

pub returns-in-Ok : goal.returns-in-Ok
returns-in-Ok c =
    authority_not c.args.text.now c.as_bytes.result.now c.in-Ok.uan c.as_str.result.now c.eq.result (c.as_bytes.ensures ∙ c.in_ok-name.ensures) c.in-Ok.ensures c.as_str.ensures c.eq.ensures c.if-eq.false
