use Rattle.std.proofs.Common.{◌≡◌, List, [], sym, subst}
use Rattle.sal_value.specs.declared.name.Name.{Name}
use Rattle.sal_handler.specs.Fits.{meaning_of}
use Rattle.sal_source.specs.Step.{handle_step, fault_no_handler}
use Rattle.sal_order.specs.declared.turn.Next.{Next}
use Rattle.sal_order.specs.declared.turn.Next.TheVariants.{NoHandler, Outcome}
use Rattle.sal_order.specs.code.Turns.{IsNext}
use Rattle.sal_order.proofs.Reaching.{handled_reached}
use Rattle.sal_order.proofs.turn.take_step.Goals as goal

pub returns-in_ok-run-in-NoHandler : goal.returns-in_ok-run-in-NoHandler
returns-in_ok-run-in-NoHandler c =
    let next : IsNext c.args.program.now c.args.entry.now.maker c.args.entry.now.serial c.args.run NoHandler =
    subst (λ (x : Next). IsNext c.args.program.now c.args.entry.now.maker c.args.entry.now.serial c.args.run x) c.in-NoHandler.is c.requires.next in
    handled_reached c.args.program.now c.args.setup.now c.args.run c.args.entry.now.maker c.args.entry.now.serial [] (fault_no_handler c.args.entry.now.maker c.args.entry.now.serial [] c.args.run)
    (c.in_ok-run-in-NoHandler.run', c.in_ok-run-in-NoHandler.field-0-1) c.requires.reached (next (meaning_of c.args.program.now).outcome []) c.in_ok-run-in-NoHandler.ensures

pub returns-in_ok-run-in-Outcome : goal.returns-in_ok-run-in-Outcome
returns-in_ok-run-in-Outcome c =
    let next : IsNext c.args.program.now c.args.entry.now.maker c.args.entry.now.serial c.args.run (Outcome c.in-Outcome.outcome c.in-Outcome.names) =
    subst (λ (x : Next). IsNext c.args.program.now c.args.entry.now.maker c.args.entry.now.serial c.args.run x) c.in-Outcome.is c.requires.next in
    let names : List Name = c.as_slice-names.result.now in
    let same : handle_step (meaning_of c.args.program.now).outcome c.args.entry.now.maker c.args.entry.now.serial names c.args.run ≡ handle_step (λ _. c.in-Outcome.outcome) c.args.entry.now.maker c.args.entry.now.serial names c.args.run =
    subst (λ (l : List Name). handle_step (meaning_of c.args.program.now).outcome c.args.entry.now.maker c.args.entry.now.serial l c.args.run ≡ handle_step (λ _. c.in-Outcome.outcome) c.args.entry.now.maker c.args.entry.now.serial l c.args.run)
    (sym c.as_slice-names.ensures) next in
    handled_reached c.args.program.now c.args.setup.now c.args.run c.args.entry.now.maker c.args.entry.now.serial names (handle_step (λ _. c.in-Outcome.outcome) c.args.entry.now.maker c.args.entry.now.serial names c.args.run)
    (c.in_ok-run-in-Outcome.run', c.in_ok-run-in-Outcome.field-0-1) c.requires.reached same c.in_ok-run-in-Outcome.ensures
