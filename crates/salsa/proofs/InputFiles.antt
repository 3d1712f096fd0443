-- What the first bytes of a program and of a plan say of the whole, and why a command's files aren't given.
use Rattle.std.proofs.Common.{◌≡◌, ℕ, ◌<◌, ◌≤◌, false, List, length, take, nat_le, ◌&&◌, if◌then◌else◌, Option, Some, None, Result, Ok, Err, inl, inr, refl, sym, ap, subst, ◌∙◌, arith}
use Rattle.std.specs.Str.{is_utf8}
use Rattle.std.proofs.lemmas.Bool.{lt-leb}
use Rattle.toml.specs.Data.{Members}
use Rattle.toml.specs.Parse.{parse_document}
use Rattle.sha2.specs.Sha256.{sha256}
use Rattle.sal_ast.specs.declared.program.Program.{Program}
use Rattle.sal_mail.specs.declared.plan.Plan.{Plan as ReadPlan}
use Rattle.sal_plan.specs.Plans.{table_of, lowest_by, plan_by, lowest_rule}
use Rattle.salsa.specs.declared.inputs.Halt.{Halt}
use Rattle.salsa.specs.declared.inputs.Halt.TheVariants.{Program as BadProgram, Plan as BadPlan, File, Memory}
use Rattle.salsa.specs.declared.inputs.Inputs.{Inputs}
use Rattle.salsa.specs.Outside.{Held, FilesState, OnFile}
use Rattle.salsa.specs.Programs.{IsTypedTextOf, IsRefused}
use Rattle.salsa.specs.Inputs.{FileNames, IsPlanText, HasProgram, HasPlan, IsHalt}
use Rattle.salsa.specs.code.Inputs.{IsLater, IsUnread, IsProgramJudgement, IsPlanJudgement, ReadsProgram, ReadsPlan, AreInputs}
use Rattle.salsa.proofs.OnFiles.{on_file}
use Rattle.salsa.proofs.FirstBytes.{Front, short, long, front, rose_since}
use Rattle.salsa.proofs.Checking.{whole_is, read_whole, refused_whole}

-- ---- programs

program_of_whole : (whole : List ℕ) (o : Result (Program × List ℕ) Halt) → IsProgramJudgement (take 262145 whole) o → IsProgramJudgement whole o
program_of_whole whole (Ok read) h = (read_whole whole read.0 h.0, h.1 ∙ ap sha256 (whole_is whole h.0.tree.short))
program_of_whole whole (Err (BadProgram refusal)) h = refused_whole whole refusal h
program_of_whole whole (Err Memory) h = tt
program_of_whole whole (Err File) h = h
program_of_whole whole (Err (BadPlan rule)) h = h

module _ (before after : FilesState) (name bytes text : List ℕ) where
  whole_program : (o : Result (Program × List ℕ) Halt) → text ≡ bytes → IsProgramJudgement text o → (whole : List ℕ) → bytes ≡ take 262145 whole → IsProgramJudgement whole o
  whole_program o same judged whole e =
      let P : List ℕ → Type 0 = λ t. IsProgramJudgement t o in
      program_of_whole whole o (subst P (same ∙ e) judged)

  pub program_on_file : (o : Result (Program × List ℕ) Halt) → OnFile before.held name (λ whole. bytes ≡ take 262145 whole) → text ≡ bytes → IsProgramJudgement text o → ReadsProgram before after name o
  program_on_file (Ok read) file same judged =
      on_file before.held name (λ whole. bytes ≡ take 262145 whole) (λ whole. IsProgramJudgement whole (Ok read)) (whole_program (Ok read) same judged) file
  program_on_file (Err (BadProgram refusal)) file same judged =
      on_file before.held name (λ whole. bytes ≡ take 262145 whole) (λ whole. IsRefused whole refusal) (whole_program (Err (BadProgram refusal)) same judged) file
  program_on_file (Err Memory) file same judged = tt
  program_on_file (Err File) file same judged = absurd judged
  program_on_file (Err (BadPlan rule)) file same judged = absurd judged

-- ---- plans

table_long : (text : List ℕ) → 65536 < length text → table_of text ≡ None
unfolding table_of
table_long text more =
    let n : nat_le (length text) 65536 ≡ false = lt-leb _ _ more in
    ap (λ b. if b && is_utf8 text then parse_document text else None) n

table_of_whole : (whole : List ℕ) → Front 65536 65537 whole → table_of (take 65537 whole) ≡ table_of whole
table_of_whole whole (short few same) = ap table_of same
table_of_whole whole (long more front) = table_long (take 65537 whole) front ∙ sym (table_long whole more)

plan_of_whole : (whole : List ℕ) (o : Result ReadPlan Halt) → IsPlanJudgement (take 65537 whole) o → IsPlanJudgement whole o
plan_of_whole whole (Ok plan) h =
    let P : Option Members → Type 0 = λ t. (lowest_by t ≡ None) × (plan ≡ plan_by t) in
    subst P (table_of_whole whole (front 65536 65537 whole refl)) h
plan_of_whole whole (Err (BadPlan rule)) h =
    let P : Option Members → Type 0 = λ t. lowest_by t ≡ Some rule in
    subst P (table_of_whole whole (front 65536 65537 whole refl)) h
plan_of_whole whole (Err Memory) h = tt
plan_of_whole whole (Err File) h = h
plan_of_whole whole (Err (BadProgram refusal)) h = h

module _ (before after : FilesState) (name bytes text : List ℕ) where
  whole_plan : (o : Result ReadPlan Halt) → text ≡ bytes → IsPlanJudgement text o → (whole : List ℕ) → bytes ≡ take 65537 whole → IsPlanJudgement whole o
  whole_plan o same judged whole e =
      let P : List ℕ → Type 0 = λ t. IsPlanJudgement t o in
      plan_of_whole whole o (subst P (same ∙ e) judged)

  pub plan_on_file : (o : Result ReadPlan Halt) → OnFile before.held name (λ whole. bytes ≡ take 65537 whole) → text ≡ bytes → IsPlanJudgement text o → ReadsPlan before after name o
  plan_on_file (Ok plan) file same judged =
      on_file before.held name (λ whole. bytes ≡ take 65537 whole) (λ whole. IsPlanText whole plan) (whole_plan (Ok plan) same judged) file
  plan_on_file (Err (BadPlan rule)) file same judged =
      on_file before.held name (λ whole. bytes ≡ take 65537 whole) (λ whole. lowest_rule whole ≡ Some rule) (whole_plan (Err (BadPlan rule)) same judged) file
  plan_on_file (Err Memory) file same judged = tt
  plan_on_file (Err File) file same judged = absurd judged
  plan_on_file (Err (BadProgram refusal)) file same judged = absurd judged

-- ---- files that weren't read

pub unread_program : (before after : FilesState) (name : List ℕ) (halt : Halt) → IsUnread before after name halt → ReadsProgram before after name (Err halt)
unread_program before after name (BadProgram refusal) h = absurd h
unread_program before after name (BadPlan rule) h = absurd h
unread_program before after name File h = h
unread_program before after name Memory h = tt

pub unread_plan : (before after : FilesState) (name : List ℕ) (halt : Halt) → IsUnread before after name halt → ReadsPlan before after name (Err halt)
unread_plan before after name (BadProgram refusal) h = absurd h
unread_plan before after name (BadPlan rule) h = absurd h
unread_plan before after name File h = h
unread_plan before after name Memory h = tt

-- ---- the three files, one after another

later_count : {a b c : ℕ} → a ≤ b → b ≤ c → a ≤ c
later_count one two = omega arith

pub later_still : (before between after : FilesState) → IsLater before between → IsLater between after → IsLater before after
later_still before between after one two = record {
  held = two.held ∙ one.held;
  faults = λ any. later_count (one.faults any) (two.faults any);
}

held_program : (held : Option Held) (names : FileNames) (read : Program × List ℕ) → OnFile held names.program (λ text. IsTypedTextOf text read.0 × (read.1 ≡ sha256 text)) → HasProgram held names
held_program held names read h =
    on_file held names.program (λ text. IsTypedTextOf text read.0 × (read.1 ≡ sha256 text)) (λ text. (program : Program) × IsTypedTextOf text program) (λ text it. (read.0, it.0)) h

held_plan : (held : Option Held) (names : FileNames) (plan : ReadPlan) → OnFile held names.plan (λ text. IsPlanText text plan) → HasPlan held names
held_plan held names plan h =
    on_file held names.plan (λ text. IsPlanText text plan) (λ text. (plan : ReadPlan) × IsPlanText text plan) (λ text it. (plan, it)) h

pub no_program : (names : FileNames) (before after : FilesState) (halt : Halt) → ReadsProgram before after names.program (Err halt) → IsHalt names before after halt
no_program names before after (BadProgram refusal) h = h
no_program names before after (BadPlan rule) h = absurd h
no_program names before after File h = inl h
no_program names before after Memory h = tt

pub no_plan : (names : FileNames) (before between after : FilesState) (read : Program × List ℕ) (halt : Halt) → ReadsProgram before between names.program (Ok read) → IsLater before between
    → ReadsPlan between after names.plan (Err halt) → IsHalt names before after halt
no_plan names before between after read (BadPlan rule) program later h =
    let P : Option Held → Type 0 = λ held. OnFile held names.plan (λ text. lowest_rule text ≡ Some rule) in
    (held_program before.held names read program, subst P later.held h)
no_plan names before between after read File program later h =
    inr (inl (held_program before.held names read program, rose_since (before.faults names.plan) (between.faults names.plan) (after.faults names.plan) (later.faults names.plan) h))
no_plan names before between after read Memory program later h = tt
no_plan names before between after read (BadProgram refusal) program later h = absurd h

-- what is read of a plan after a program, where the files held the same before
plan_before : (names : FileNames) (before between after : FilesState) (plan : ReadPlan) → IsLater before between → ReadsPlan between after names.plan (Ok plan) → OnFile before.held names.plan (λ text. IsPlanText text plan)
plan_before names before between after plan later h =
    let P : Option Held → Type 0 = λ held. OnFile held names.plan (λ text. IsPlanText text plan) in
    subst P later.held h

pub no_third : (names : FileNames) (before first second after : FilesState) (read : Program × List ℕ) (plan : ReadPlan) (halt : Halt) → ReadsProgram before first names.program (Ok read) → IsLater before first
    → ReadsPlan first second names.plan (Ok plan) → IsLater first second → IsUnread second after names.third halt → IsHalt names before after halt
no_third names before first second after read plan File program one given two h =
    let both = later_still before first second one two in
    inr (inr (held_program before.held names read program, held_plan before.held names plan (plan_before names before first second plan one given), rose_since (before.faults names.third) (second.faults names.third) (after.faults names.third) (both.faults names.third) h))
no_third names before first second after read plan Memory program one given two h = tt
no_third names before first second after read plan (BadProgram refusal) program one given two h = absurd h
no_third names before first second after read plan (BadPlan rule) program one given two h = absurd h

pub all_given : (names : FileNames) (most : ℕ) (before first second : FilesState) (inputs : Inputs) → ReadsProgram before first names.program (Ok (inputs.program, inputs.hash)) → IsLater before first
    → ReadsPlan first second names.plan (Ok inputs.plan) → IsLater first second → OnFile second.held names.third (λ whole. inputs.bytes ≡ take most whole) → AreInputs names most before inputs
all_given names most before first second inputs program one given two bytes =
    let both = later_still before first second one two in
    let P : Option Held → Type 0 = λ held. OnFile held names.third (λ whole. inputs.bytes ≡ take most whole) in
    record {
      given = record { program_text = program; plan_text = plan_before names before first second inputs.plan one given };
      bytes = subst P both.held bytes;
    }
