use Rattle.std.proofs.Common.{Option, sym, subst}
use Rattle.std.specs.Prelude.{IfOk}
use Rattle.sal_source.specs.Configuration.{Configuration}
use Rattle.sal_source.specs.code.Maps.{actor_of}
use Rattle.sal_source.specs.code.Changes.{TakesStep}
use Rattle.sal_source.proofs.Handled.{handle_called}
use Rattle.sal_source.proofs.run.Run.handle.Goals as goal

pub returns-in-NoHandler : goal.returns-in-NoHandler
returns-in-NoHandler c =
    let P : Option Configuration → Type 0 = λ o. IfOk c.fail.result (λ taken. TakesStep o c.args.self.now (c.fail.new.self, taken)) in
    subst P (sym (c.in-NoHandler.ensures (λ _. c.args.outcome) c.args.fresh.now)) c.fail.ensures

pub returns-in-Handler : goal.returns-in-Handler
returns-in-Handler c =
    let m = c.in-Handler.field-0.now in
    let a = actor_of (c.in-Handler.field-1.now, c.in-Handler.field-2.now) in
    let P : Option Configuration → Type 0 = λ o. IfOk c.after.result (λ taken. TakesStep o c.args.self.now (c.after.new.self, taken)) in
    subst P (sym (handle_called (λ _. c.args.outcome) c.args.maker.now c.args.serial c.args.fresh.now c.args.self.now m a c.in-Handler.ensures)) (c.after.ensures m a c.in-Handler.ensures)
