-- A schedule, read line by line.
use Rattle.std.proofs.Common.{◌≡◌, ℕ, ◌+◌, ◌≤◌, Bool, true, false, Option, Some, None, List, [], ◌∷◌, ◌++◌, Result, Ok, Err, refl, sym, ap, ◌∙◌, append_assoc, append-nil, nat_lt, arith}
use Rattle.std.specs.Prelude.{if◌then◌else◌}
use Rattle.std.specs.Option.{option_to_list}
use Rattle.std.proofs.lemmas.Bool.Decides.{nat_tests}
use Rattle.sal_mail.specs.declared.plan.Plan.{Plan}
use Rattle.sal_ast.specs.declared.program.Program.{Program}
use Rattle.sal_events.specs.declared.event.Event.{Event}
use Rattle.sal_schedule.specs.declared.constants.TheConstants.{MOST_LINES}
use Rattle.sal_schedule.specs.Rules.{line_rules, line_event, lowest_from}
use Rattle.sal_schedule.specs.Schedules.{Refusal, last_after, numbered_line_rule, with_event, line_then, events_from}

-- these events, and then what the rest tells
abbrev pub before : List Event → Result (List Event) Refusal → Result (List Event) Refusal
before es (Ok more) = Ok (es ++ more)
before es (Err refusal) = Err refusal

pub begins : (r : Result (List Event) Refusal) → before [] r ≡ r
begins (Ok es) = refl
begins (Err refusal) = refl

one_more : (es : List Event) (e : Option Event) (rest : Result (List Event) Refusal) → before es (with_event e rest) ≡ before (es ++ option_to_list e) rest
one_more es None rest = ap (λ (zs : List Event). before zs rest) (sym (append-nil es))
one_more es (Some e) (Ok more) = ap Ok (sym (append_assoc es (e ∷ []) more))
one_more es (Some e) (Err refusal) = refl

pub on : (p : Program) (plan : Plan) (n last : ℕ) (lines more : List (List ℕ)) (line : List ℕ) (es : List Event) (e : Option Event) (whole : Result (List Event) Refusal)
    → lines ≡ line ∷ more → numbered_line_rule p plan n last line ≡ None → line_event p line ≡ e → before es (events_from p plan n last lines) ≡ whole
    → before (es ++ option_to_list e) (events_from p plan (n + 1) (last_after last e) more) ≡ whole
on p plan n last lines more line es e whole cut passes is h =
    let rest : Result (List Event) Refusal = events_from p plan (n + 1) (last_after last e) more in
    sym (one_more es e rest)
    ∙ sym (ap (λ x. before es (with_event x (events_from p plan (n + 1) (last_after last x) more))) is)
    ∙ sym (ap (λ o. before es (line_then o n (line_event p line) (events_from p plan (n + 1) (last_after last (line_event p line)) more))) passes)
    ∙ sym (ap (λ ls. before es (events_from p plan n last ls)) cut)
    ∙ h

pub refused : (p : Program) (plan : Plan) (n last rule : ℕ) (lines more : List (List ℕ)) (line : List ℕ) (es : List Event) (whole : Result (List Event) Refusal)
    → lines ≡ line ∷ more → numbered_line_rule p plan n last line ≡ Some rule → before es (events_from p plan n last lines) ≡ whole → whole ≡ Err (rule, n)
refused p plan n last rule lines more line es whole cut breaks h =
    sym h ∙ ap (λ ls. before es (events_from p plan n last ls)) cut
    ∙ ap (λ o. before es (line_then o n (line_event p line) (events_from p plan (n + 1) (last_after last (line_event p line)) more))) breaks

pub ends : (p : Program) (plan : Plan) (n last : ℕ) (es : List Event) (whole : Result (List Event) Refusal) → before es (events_from p plan n last []) ≡ whole → whole ≡ Ok es
ends p plan n last es whole h = sym h ∙ ap Ok (append-nil es)

few_by : (t : Bool) (o : Option ℕ) → (if t then Some 1 else o) ≡ None → t ≡ false
few_by true o e = absurd cc
few_by false o e = refl

-- a line that breaks no rule isn't past the last
pub few : (p : Program) (plan : Plan) (n last : ℕ) (line : List ℕ) → numbered_line_rule p plan n last line ≡ None → n ≤ 100000
few p plan n last line e = let is : nat_lt 100000 n ≡ false = few_by (nat_lt MOST_LINES n) (lowest_from 1 (line_rules p plan last line)) e in grind (arith, nat_tests)
