-- One line: its rules and its event, by what was found of it.
use Rattle.std.proofs.Common.{◌≡◌, ℕ, true, false, not, Option, Some, None, List, [], ◌∷◌, Result, Err, sym, ap, subst, ◌∙◌}
use Rattle.std.specs.Prelude.{if◌then◌else◌}
use Rattle.std.specs.Str.{IsUtf8}
use Rattle.sal_value.proofs.Utf8 as utf8
use Rattle.sal_mail.specs.declared.plan.Plan.{Plan}
use Rattle.sal_ast.specs.declared.program.Program.{Program}
use Rattle.sal_events.specs.declared.event.Event.{Event}
use Rattle.sal_schedule.specs.declared.fault.LineFault.{LineFault}
use Rattle.sal_schedule.specs.declared.fault.LineFault.TheVariants as fault
use Rattle.sal_schedule.specs.declared.kind.Kind.{Kind}
use Rattle.sal_schedule.specs.Lines.{is_skipped, words_of}
use Rattle.sal_schedule.specs.Events.{kind_of, event_of}
use Rattle.sal_schedule.specs.code.Plans.{Tells}
use Rattle.sal_schedule.specs.Rules.{Answers, kind_rules, word_rules, told_rules, line_rules, lowest_from, kind_event, told_event, line_event}

-- the line isn't UTF-8
pub not_text : (p : Program) (plan : Plan) (last : ℕ) (line : List ℕ) → (IsUtf8 line → ⊥) → lowest_from 1 (line_rules p plan last line) ≡ Some 1
unfolding line_rules
not_text p plan last line other = ap (λ b. lowest_from 1 (not b ∷ (if is_skipped line then [] else told_rules p plan last (words_of line)))) (utf8.utf8_false line other)

text_rules : (p : Program) (plan : Plan) (last : ℕ) (line : List ℕ) → IsUtf8 line
    → lowest_from 1 (line_rules p plan last line) ≡ lowest_from 2 (if is_skipped line then [] else told_rules p plan last (words_of line))
unfolding line_rules
text_rules p plan last line text = ap (λ b. lowest_from 1 (not b ∷ (if is_skipped line then [] else told_rules p plan last (words_of line)))) (utf8.utf8_true line text)

-- it is skipped
pub skips : (p : Program) (plan : Plan) (last : ℕ) (line : List ℕ) → IsUtf8 line → is_skipped line ≡ true → (lowest_from 1 (line_rules p plan last line) ≡ None) × (line_event p line ≡ None)
unfolding line_event
skips p plan last line text e = (
  text_rules p plan last line text ∙ ap (λ b. lowest_from 2 (if b then [] else told_rules p plan last (words_of line))) e,
  ap (λ b. if b then None else told_event p (words_of line)) e,
)

-- it isn't
pub told_line : (p : Program) (plan : Plan) (last : ℕ) (line : List ℕ) (first : List ℕ) (words : List (List ℕ)) → IsUtf8 line → is_skipped line ≡ false → words_of line ≡ first ∷ words
    → (lowest_from 1 (line_rules p plan last line) ≡ lowest_from 2 (word_rules p plan last (kind_of first) words)) × (line_event p line ≡ kind_event p (kind_of first) words)
unfolding line_event
told_line p plan last line first words text e cut = (
  text_rules p plan last line text ∙ ap (λ b. lowest_from 2 (if b then [] else told_rules p plan last (words_of line))) e ∙ ap (λ ws. lowest_from 2 (told_rules p plan last ws)) cut,
  ap (λ b. if b then None else told_event p (words_of line)) e ∙ ap (told_event p) cut,
)

-- of no kind
pub no_kind : (p : Program) (plan : Plan) (last : ℕ) (line : List ℕ) (first : List ℕ) (words : List (List ℕ)) → IsUtf8 line → is_skipped line ≡ false → words_of line ≡ first ∷ words
    → None ≡ kind_of first → lowest_from 1 (line_rules p plan last line) ≡ Some 2
no_kind p plan last line first words text e cut none =
    (told_line p plan last line first words text e cut).0 ∙ sym (ap (λ k. lowest_from 2 (word_rules p plan last k words)) none)

-- of this kind
pub told_rule : (p : Program) (plan : Plan) (last : ℕ) (line : List ℕ) (first : List ℕ) (words : List (List ℕ)) (kind : Kind) (o : Option ℕ) → IsUtf8 line → is_skipped line ≡ false → words_of line ≡ first ∷ words
    → Some kind ≡ kind_of first → lowest_from 3 (kind_rules p plan last kind words) ≡ o → lowest_from 1 (line_rules p plan last line) ≡ o
told_rule p plan last line first words kind o text e cut some h =
    (told_line p plan last line first words text e cut).0 ∙ sym (ap (λ k. lowest_from 2 (word_rules p plan last k words)) some) ∙ h

pub told_is : (p : Program) (line : List ℕ) (first : List ℕ) (words : List (List ℕ)) (kind : Kind) (event : Option Event) → is_skipped line ≡ false → words_of line ≡ first ∷ words
    → Some kind ≡ kind_of first → event_of p kind words ≡ event → line_event p line ≡ event
unfolding line_event
told_is p line first words kind event e cut some h =
    ap (λ b. if b then None else told_event p (words_of line)) e ∙ ap (told_event p) cut ∙ sym (ap (λ k. kind_event p k words) some) ∙ h

pub told_refused : (p : Program) (plan : Plan) (last : ℕ) (line : List ℕ) (first : List ℕ) (words : List (List ℕ)) (kind : Kind) (event value : Option Event) (e : LineFault) (r : Result (Option Event) LineFault)
    → IsUtf8 line → is_skipped line ≡ false → words_of line ≡ first ∷ words → Some kind ≡ kind_of first
    → Tells (lowest_from 3 (kind_rules p plan last kind words)) event (Err e) → r ≡ Err e → Answers (lowest_from 1 (line_rules p plan last line)) value r
told_refused p plan last line first words kind event value (fault.Refused rule) r text told cut some h is =
    subst (λ x. Answers (lowest_from 1 (line_rules p plan last line)) value x) (sym is) (told_rule p plan last line first words kind (Some rule) text told cut some h)
told_refused p plan last line first words kind event value fault.Memory r text told cut some h is =
    subst (λ x. Answers (lowest_from 1 (line_rules p plan last line)) value x) (sym is) tt
