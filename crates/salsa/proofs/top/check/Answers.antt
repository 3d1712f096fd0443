use Rattle.std.proofs.Common.{rules, Result, Ok, Err, inl, inr, ap, ◌∙◌, subst, refl}
use Rattle.sal_ast.specs.declared.program.Program.{Program}
use Rattle.salsa.specs.declared.refusal.ReadFault.{ReadFault}
use Rattle.salsa.specs.declared.refusal.ReadFault.TheVariants.{Refused}
use Rattle.salsa.specs.Programs.{IsReading}
use Rattle.salsa.proofs.Checking.{fault_check, memory_check, refused_check, accepted_check, reading_on_file}
use Rattle.salsa.proofs.top.check.Goals as goal

pub returns-in-Err-Failed-clause-cause : goal.returns-in-Err-Failed-clause-cause
returns-in-Err-Failed-clause-cause g c = fault_check _ _ _ _ (c.in-Err-Failed.ensures.failed (search rules)) c.put.ensures refl

pub returns-in-Err-Memory-clause-cause : goal.returns-in-Err-Memory-clause-cause
returns-in-Err-Memory-clause-cause g c = memory_check _ _ _ _ c.put-in-Err-Memory.ensures refl

pub returns-in-Ok-read_program-clause-cause : goal.returns-in-Ok-read_program-clause-cause
returns-in-Ok-read_program-clause-cause g c =
    let o : Result Program ReadFault = Ok c.in-Ok-read_program._program in
    let j : IsReading c.as_slice.result.now o = subst (λ (r : Result Program ReadFault). IsReading c.as_slice.result.now r) c.in-Ok-read_program.is c.read_program.ensures in
    accepted_check _ _ _ _ c.in-Ok-read_program._program
    (reading_on_file (g.F.Files.state c.args.files.now).held c.args.name.now c.in-Ok.bytes c.as_slice.result.now o c.in-Ok.ensures.bytes c.as_slice.ensures j)
    c.put-in-Ok-read_program.ensures refl

pub returns-in-Err-Refused-clause-cause : goal.returns-in-Err-Refused-clause-cause
returns-in-Err-Refused-clause-cause g c =
    let o : Result Program ReadFault = Err (Refused c.in-Err-Refused.refusal) in
    let j : IsReading c.as_slice.result.now o =
    subst (λ (r : Result Program ReadFault). IsReading c.as_slice.result.now r) (c.in-Err-Refused.is ∙ ap (λ (e : ReadFault). Err e) c.in-Err-Refused.field-0-is) c.read_program.ensures in
    let file = reading_on_file (g.F.Files.state c.args.files.now).held c.args.name.now c.in-Ok.bytes c.as_slice.result.now o c.in-Ok.ensures.bytes c.as_slice.ensures j in
    elim c.refuse.ensures [
      | inl p ↦ refused_check _ _ _ _ c.in-Err-Refused.refusal file p refl
      | inr p ↦ memory_check _ _ _ _ p refl
    ]

pub returns-clause-cause : goal.returns-clause-cause
returns-clause-cause g c = memory_check _ _ _ _ c.put-in-Err-Memory-read_program.ensures refl
