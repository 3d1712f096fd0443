-- What an audit of what is given says of the files.
use Rattle.std.proofs.Common.{◌≡◌, ℕ, List, take, Ok, inl, inr, refl, subst, arith}
use Rattle.sal_ast.specs.declared.program.Program.{Program}
use Rattle.sal_document.specs.declared.shown.Replay.{Replay}
use Rattle.sal_document.specs.Refusals.{Reads, IsRefusedAt}
use Rattle.salsa.specs.declared.inputs.Halt.TheVariants as halt
use Rattle.salsa.specs.declared.inputs.Inputs.{Inputs}
use Rattle.salsa.specs.declared.audit.Audited.{Audited}
use Rattle.salsa.specs.declared.audit.Audited.TheVariants.{Halted, Refused, Found}
use Rattle.salsa.specs.Outside.{FilesState, Outside}
use Rattle.salsa.specs.Inputs.{FileNames}
use Rattle.salsa.specs.code.Inputs.{AreInputs}
use Rattle.salsa.specs.Audit.{IsAudited, AuditCause}
use Rattle.salsa.specs.code.Audit.{IsFinding, IsAnswered}
use Rattle.salsa.proofs.OnFiles.{on_file}
use Rattle.salsa.proofs.FirstBytes.{Front, short, long, front}

-- ---- the first bytes of a document

read_front : (p : Program) (whole : List ℕ) (replay : Replay) → Front 67108864 67108865 whole → Reads p (take 67108865 whole) (Ok replay) → Reads p whole (Ok replay)
read_front p whole replay (short few same) h =
    let P : List ℕ → Type 0 = λ text. Reads p text (Ok replay) in
    subst P same h
read_front p whole replay (long more front) h = absurd (omega (arith, h.1.2))

refused_front : (p : Program) (whole : List ℕ) (line : ℕ) → Front 67108864 67108865 whole → IsRefusedAt p (take 67108865 whole) line → IsRefusedAt p whole line
refused_front p whole line (short few same) h =
    let P : List ℕ → Type 0 = λ text. IsRefusedAt p text line in
    subst P same h
refused_front p whole line (long more front) (inl h) = inl (more, h.1)
refused_front p whole line (long more front) (inr h) = absurd (omega (arith, h.0))

-- ---- what was found is of the files

module _ (names : FileNames) (before after : FilesState) (inputs : Inputs) where
  pub audited : (it : Audited) → AreInputs names 67108865 before inputs → IsFinding inputs inputs.bytes it → IsAudited names before after it
  audited (Found verdict steps) given found = record {
    program = inputs.program;
    hash = inputs.hash;
    plan = inputs.plan;
    replay = found.0;
    given = given.given;
    document =
        let P : List ℕ → Type 0 = λ text. Reads inputs.program text (Ok found.0) in
        on_file before.held names.third (λ whole. inputs.bytes ≡ take 67108865 whole) P (λ whole e. read_front inputs.program whole found.0 (front 67108864 67108865 whole refl) (subst P e found.1.0)) given.bytes;
    verdict_is = found.1.1.0;
    count = found.1.1.1;
  }
  audited (Refused line) given found = record {
    program = inputs.program;
    hash = inputs.hash;
    plan = inputs.plan;
    given = given.given;
    refused =
        let P : List ℕ → Type 0 = λ text. IsRefusedAt inputs.program text line in
        on_file before.held names.third (λ whole. inputs.bytes ≡ take 67108865 whole) P (λ whole e. refused_front inputs.program whole line (front 67108864 67108865 whole refl) (subst P e found)) given.bytes;
  }
  audited (Halted halt.Memory) given found = tt
  audited (Halted halt.File) given found = absurd found
  audited (Halted (halt.Program refusal)) given found = absurd found
  audited (Halted (halt.Plan rule)) given found = absurd found

-- ---- its line

pub answered : (status : ℕ) (names : FileNames) (before after : Outside) (it : Audited) → IsAudited names before.files after.files it → IsAnswered it status before.out before.err after.out after.err → AuditCause status names before after
answered status names before after it is (inl told) = record { audited = it; is = is; told = told }
answered status names before after it is (inr told) = record { audited = Halted halt.Memory; is = tt; told = told }
