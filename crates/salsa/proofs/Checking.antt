-- Why a check has its status.
use Rattle.std.proofs.Common.{◌≡◌, ℕ, ◌<◌, ◌≤◌, Bool, true, false, List, length, take, nat_lt, Option, Result, Ok, Err, inl, inr, refl, subst, ◌∙◌, arith, codes}
use Rattle.std.proofs.lemmas.List.{length-take-le, take_all}
use Rattle.std.proofs.lemmas.Bool.{ltb-true, ltb-false}
use Rattle.sal_ast.specs.declared.program.Program.{Program}
use Rattle.sal_text.specs.declared.token.LexRule.TheVariants.{L0, L1, L2, L3, L4, L5}
use Rattle.salsa.specs.declared.refusal.Refusal.{Refusal}
use Rattle.salsa.specs.declared.refusal.Refusal.TheVariants.{Lexical, Grammar, Typing}
use Rattle.salsa.specs.declared.refusal.ReadFault.{ReadFault}
use Rattle.salsa.specs.declared.refusal.ReadFault.TheVariants.{Refused, Memory}
use Rattle.salsa.specs.Outside.{Held, OnFile, Rose, Outside}
use Rattle.salsa.specs.Programs.{IsTypedTextOf, IsRefused, IsReading, refusal_line}
use Rattle.salsa.specs.Top.{Puts, CheckCause, status_line}
use Rattle.salsa.proofs.OnFiles.{on_file}

-- ---- the first bytes of a file tell whether it is too long

pub whole_is : (whole : List ℕ) → length (take 262145 whole) ≤ 262144 → take 262145 whole ≡ whole
whole_is whole short = case (nat_lt 262144 (length whole)) refl
  where
    case : (b : Bool) → nat_lt 262144 (length whole) ≡ b → take 262145 whole ≡ whole
    case true e =
        let long : 262144 < length whole = ltb-true _ _ e in
        let n : length (take 262145 whole) ≡ 262145 = length-take-le 262145 whole (omega arith) in
        absurd (omega arith)
    case false e = take_all 262145 whole (omega (arith, ltb-false _ _ e))

pub read_whole : (whole : List ℕ) (program : Program) → IsTypedTextOf (take 262145 whole) program → IsTypedTextOf whole program
read_whole whole program h =
    let P : List ℕ → Type 0 = λ text. IsTypedTextOf text program in
    subst P (whole_is whole h.tree.short) h

-- by its length, or as the whole text
long_whole : (whole : List ℕ) (at : ℕ) → 262144 < length (take 262145 whole) → at ≡ 262144 → IsRefused whole (Lexical L0 at)
long_whole whole at long e = inl (case (nat_lt 262144 (length whole)) refl, e)
  where
    case : (b : Bool) → nat_lt 262144 (length whole) ≡ b → 262144 < length whole
    case true h = ltb-true _ _ h
    case false h =
        let all : take 262145 whole ≡ whole = take_all 262145 whole (omega (arith, ltb-false _ _ h)) in
        let P : List ℕ → Type 0 = λ text. 262144 < length text in
        subst P all long

same_whole : (whole : List ℕ) (refusal : Refusal) → length (take 262145 whole) ≤ 262144 → IsRefused (take 262145 whole) refusal → IsRefused whole refusal
same_whole whole refusal short h =
    let P : List ℕ → Type 0 = λ text. IsRefused text refusal in
    subst P (whole_is whole short) h

pub refused_whole : (whole : List ℕ) (refusal : Refusal) → IsRefused (take 262145 whole) refusal → IsRefused whole refusal
refused_whole whole (Lexical L0 at) (inl h) = long_whole whole at h.0 h.1
refused_whole whole (Lexical L0 at) (inr h) = same_whole whole (Lexical L0 at) h.0 (inr h)
refused_whole whole (Lexical L1 at) h = same_whole whole (Lexical L1 at) h.fits h
refused_whole whole (Lexical L2 at) h = same_whole whole (Lexical L2 at) h.fits h
refused_whole whole (Lexical L3 at) h = same_whole whole (Lexical L3 at) h.fits h
refused_whole whole (Lexical L4 at) h = same_whole whole (Lexical L4 at) h.fits h
refused_whole whole (Lexical L5 at) h = same_whole whole (Lexical L5 at) h.fits h
refused_whole whole (Grammar rule at bracket) h = same_whole whole (Grammar rule at bracket) h.short h
refused_whole whole (Typing rule at) h = same_whole whole (Typing rule at) h.tree.short h

-- what reading the first bytes of a file says of the whole
pub read_of_whole : (whole : List ℕ) (o : Result Program ReadFault) → IsReading (take 262145 whole) o → IsReading whole o
read_of_whole whole (Ok program) h = read_whole whole program h
read_of_whole whole (Err (Refused refusal)) h = refused_whole whole refusal h
read_of_whole whole (Err Memory) h = tt

pub reading_on_file : (held : Option Held) (name bytes text : List ℕ) (o : Result Program ReadFault) → OnFile held name (λ whole. bytes ≡ take 262145 whole) → text ≡ bytes → IsReading text o
    → OnFile held name (λ whole. IsReading whole o)
reading_on_file held name bytes text o file same read =
    let P : List ℕ → Type 0 = λ t. IsReading t o in
    on_file held name (λ whole. bytes ≡ take 262145 whole) (λ whole. IsReading whole o) (λ whole e. read_of_whole whole o (subst P (same ∙ e) read)) file

-- ---- causes

module _ (status : ℕ) (name : List ℕ) (before after : Outside) where
  pub fault_check : Rose (before.files.faults name) (after.files.faults name) → Puts 5 (status_line 5) status before.err after.err → after.out ≡ before.out → CheckCause status name before after
  fault_check rose puts same = record {
    wanted = 5;
    known = inr (inr (inl refl));
    line = status_line 5;
    accepted = λ w. absurd (omega arith);
    refused = λ w. absurd (omega arith);
    file_fault = λ _. rose;
    printed = λ w. absurd (omega arith);
    told = λ _. (puts, same);
    other = λ _. refl;
  }

  pub memory_check : Puts 7 (status_line 7) status before.err after.err → after.out ≡ before.out → CheckCause status name before after
  memory_check puts same = record {
    wanted = 7;
    known = inr (inr (inr refl));
    line = status_line 7;
    accepted = λ w. absurd (omega arith);
    refused = λ w. absurd (omega arith);
    file_fault = λ w. absurd (omega arith);
    printed = λ w. absurd (omega arith);
    told = λ _. (puts, same);
    other = λ _. refl;
  }

  pub refused_check : (refusal : Refusal) → OnFile before.files.held name (λ whole. IsRefused whole refusal) → Puts 2 (refusal_line refusal) status before.err after.err → after.out ≡ before.out
      → CheckCause status name before after
  refused_check refusal refused puts same = record {
    wanted = 2;
    known = inr (inl refl);
    line = refusal_line refusal;
    accepted = λ w. absurd (omega arith);
    refused = λ _. (refusal, (refl, refused));
    file_fault = λ w. absurd (omega arith);
    printed = λ w. absurd (omega arith);
    told = λ _. (puts, same);
    other = λ w. absurd (w refl);
  }

  pub accepted_check : (program : Program) → OnFile before.files.held name (λ whole. IsTypedTextOf whole program) → Puts 0 (codes "ok\n") status before.out after.out → after.err ≡ before.err
      → CheckCause status name before after
  accepted_check program accepted puts same = record {
    wanted = 0;
    known = inl refl;
    line = status_line 0;
    accepted = λ _. on_file before.files.held name (λ whole. IsTypedTextOf whole program) (λ whole. (program : Program) × IsTypedTextOf whole program) (λ whole h. (program, h)) accepted;
    refused = λ w. absurd (omega arith);
    file_fault = λ w. absurd (omega arith);
    printed = λ _. (puts, same);
    told = λ w. absurd (w refl);
    other = λ _. refl;
  }
