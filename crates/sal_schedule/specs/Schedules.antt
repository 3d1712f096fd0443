-- The events that a schedule tells, or its first line that breaks a rule, with the lowest such rule.
use Rattle.std.specs.Prelude.{◌≡◌, ℕ, ◌+◌, nat_lt, if◌then◌else◌, List, [], ◌∷◌, length, Option, Some, None, Result, Ok, Err}
use Rattle.sal_mail.specs.declared.plan.Plan.{Plan}
use Rattle.sal_ast.specs.declared.program.Program.{Program}
use Rattle.sal_events.specs.declared.event.Event.{Event}
use Rattle.sal_events.specs.declared.event.Event.TheVariants as event
use Rattle.sal_schedule.specs.declared.constants.TheConstants.{LONGEST_SCHEDULE, MOST_LINES}
use Rattle.sal_schedule.specs.declared.fault.ScheduleFault.{ScheduleFault}
use Rattle.sal_schedule.specs.declared.fault.ScheduleFault.TheVariants as fault
use Rattle.sal_schedule.specs.Lines.{lines_of}
use Rattle.sal_schedule.specs.Rules.{lowest_from, line_rules, line_event}

-- a rule, and the line that breaks it
abbrev pub Refusal : Type 0
Refusal = ℕ × ℕ

-- the number of the last post after an event
abbrev pub last_after : ℕ → Option Event → ℕ
last_after last (Some (event.Post theatre number to behavior handler args)) = number
last_after last e = last

-- the lowest rule that the line with this number breaks; line 100,001 breaks S1
abbrev pub numbered_line_rule : Program → Plan → ℕ → ℕ → List ℕ → Option ℕ
numbered_line_rule p plan n last line = if nat_lt MOST_LINES n then Some 1 else lowest_from 1 (line_rules p plan last line)

-- an event before the others
abbrev pub with_event : Option Event → Result (List Event) Refusal → Result (List Event) Refusal
with_event None others = others
with_event (Some e) (Ok es) = Ok (e ∷ es)
with_event (Some e) (Err refusal) = Err refusal

abbrev pub line_then : Option ℕ → ℕ → Option Event → Result (List Event) Refusal → Result (List Event) Refusal
line_then (Some rule) n e others = Err (rule, n)
line_then None n e others = with_event e others

-- these lines, of which the first has number n, after a post with this number
abbrev pub events_from : Program → Plan → ℕ → ℕ → List (List ℕ) → Result (List Event) Refusal
events_from p plan n last [] = Ok []
events_from p plan n last (line ∷ lines) =
    line_then (numbered_line_rule p plan n last line) n (line_event p line) (events_from p plan (n + 1) (last_after last (line_event p line)) lines)

-- the whole schedule; one that is too long breaks S1 at its first line
unfoldable pub schedule_events : Program → Plan → List ℕ → Result (List Event) Refusal
schedule_events p plan text = if nat_lt LONGEST_SCHEDULE (length text) then Err (1, 1) else events_from p plan 1 0 (lines_of text)

-- what reading a line with a number answers: its event, if it has one, or the lowest rule that it breaks, unless memory
-- ran out
abbrev pub ReadsLine : ℕ → Option ℕ → Option Event → Result (Option Event) ScheduleFault → Type 0
ReadsLine n broken event (Ok e) = (broken ≡ None) × (event ≡ e)
ReadsLine n broken event (Err (fault.Refused rule line)) = (broken ≡ Some rule) × (line ≡ n)
ReadsLine n broken event (Err fault.Memory) = Unit {0}

-- what reading a schedule answers, unless memory ran out
abbrev pub ReadsSchedule : Result (List Event) Refusal → Result (List Event) ScheduleFault → Type 0
ReadsSchedule told (Ok events) = told ≡ Ok events
ReadsSchedule told (Err (fault.Refused rule line)) = told ≡ Err (rule, line)
ReadsSchedule told (Err fault.Memory) = Unit {0}
