-- The rules S1 to S9 of one line, each with the test that finds it broken.
use Rattle.std.specs.Prelude.{◌≡◌, ℕ, ◌+◌, nat_le, nat_lt, nat_eq, Bool, true, false, ◌&&◌, ◌||◌, not, if◌then◌else◌, List, [], ◌∷◌, ◌++◌, length, Option, Some, None, is_some, Result, Ok, Err}
use Rattle.std.specs.Str.{is_utf8}
use Rattle.sal_value.specs.Names.{uan_of}
use Rattle.sal_mail.specs.declared.plan.Plan.{Plan}
use Rattle.sal_ast.specs.declared.program.Program.{Program}
use Rattle.sal_literals.specs.Reading.{number_of}
use Rattle.sal_events.specs.declared.event.Event.{Event}
use Rattle.sal_schedule.specs.declared.constants.TheConstants.{MOST_ROUNDS, FIRST_SERVICE}
use Rattle.sal_schedule.specs.declared.fault.LineFault.{LineFault}
use Rattle.sal_schedule.specs.declared.fault.LineFault.TheVariants as fault
use Rattle.sal_schedule.specs.declared.kind.Kind.{Kind}
use Rattle.sal_schedule.specs.declared.kind.Kind.TheVariants as kind
use Rattle.sal_schedule.specs.Lines.{is_skipped, words_of}
use Rattle.sal_schedule.specs.Events.{Role, theatre, node, rounds, universal, identifier, kind_of, roles_of, number_in, each, legal_value_of, call_of, values_or_none, event_of}

abbrev pub is_missing : {A : Type 0} → Option A → Bool
is_missing o = not (is_some o)

-- some word with its role passes the test
abbrev pub some_word : (Role → List ℕ → Bool) → List Role → List (List ℕ) → Bool
some_word test [] words = false
some_word test (role ∷ roles) [] = false
some_word test (role ∷ roles) (word ∷ words) = test role word || some_word test roles words

-- S3: there is another number of words; a post may have more
abbrev pub has_wrong_length : Kind → List (List ℕ) → Bool
has_wrong_length kind.Post words = nat_lt (length words) 5
has_wrong_length kind words = not (nat_eq (length words) (length (roles_of kind)))

-- S4: a number is ill-formed or over 2^64 - 1, or one of rounds over 1,000,000
abbrev pub is_bad_number : Role → List ℕ → Bool
is_bad_number universal word = false
is_bad_number identifier word = false
is_bad_number rounds word = is_missing (number_of word) || nat_lt MOST_ROUNDS (number_in word)
is_bad_number role word = is_missing (number_of word)

-- S5: a node isn't in the plan, or is no theatre where one is meant
abbrev pub is_theatre : Plan → ℕ → Bool
is_theatre plan n = nat_lt n (length plan.theatres)

abbrev pub is_service : Plan → ℕ → Bool
is_service plan n = nat_le FIRST_SERVICE n && nat_lt n (FIRST_SERVICE + length plan.names)

abbrev pub is_bad_node : Plan → Role → List ℕ → Bool
is_bad_node plan theatre word = not (is_theatre plan (number_in word))
is_bad_node plan node word = not (is_theatre plan (number_in word) || is_service plan (number_in word))
is_bad_node plan role word = false

-- S6: a name is ill-formed
abbrev pub is_bad_name : Role → List ℕ → Bool
is_bad_name universal word = is_missing (uan_of word)
is_bad_name role word = false

-- S3 to S6 of the words after the first
unfoldable pub form_rules : Plan → Kind → List (List ℕ) → List Bool
form_rules plan kind words =
    has_wrong_length kind words
    ∷ some_word is_bad_number (roles_of kind) words
    ∷ some_word (is_bad_node plan) (roles_of kind) words
    ∷ some_word is_bad_name (roles_of kind) words
    ∷ []

-- S7: a post's number is 0 or not greater than the last one, which is 0 before the first. S8: a value is ill-formed or
-- not legal, or a reference in it is no universal name. S9: the program has no such behaviour and handler, or the
-- values don't belong to its parameters.
unfoldable pub post_rules : Program → ℕ → List (List ℕ) → List Bool
post_rules p last (k ∷ n ∷ to ∷ behavior ∷ handler ∷ words) =
    nat_le (number_in n) last
    ∷ is_missing (each legal_value_of words)
    ∷ is_missing (call_of p behavior handler (values_or_none (each legal_value_of words)))
    ∷ []
post_rules p last _ = []

-- S3 to S9; only a post has the last three
abbrev pub kind_rules : Program → Plan → ℕ → Kind → List (List ℕ) → List Bool
kind_rules p plan last kind.Post words = form_rules plan kind.Post words ++ post_rules p last words
kind_rules p plan last kind words = form_rules plan kind words

-- S2: the first word tells no kind of event
abbrev pub word_rules : Program → Plan → ℕ → Option Kind → List (List ℕ) → List Bool
word_rules p plan last None words = true ∷ []
word_rules p plan last (Some kind) words = false ∷ kind_rules p plan last kind words

abbrev pub told_rules : Program → Plan → ℕ → List (List ℕ) → List Bool
told_rules p plan last [] = []
told_rules p plan last (first ∷ words) = word_rules p plan last (kind_of first) words

-- S1: the line isn't UTF-8. Of a line that is skipped nothing else is asked.
unfoldable pub line_rules : Program → Plan → ℕ → List ℕ → List Bool
line_rules p plan last line = not (is_utf8 line) ∷ (if is_skipped line then [] else told_rules p plan last (words_of line))

-- the first of these rules that is broken, where the first has number n
abbrev pub lowest_from : ℕ → List Bool → Option ℕ
lowest_from n [] = None
lowest_from n (broken ∷ rules) = if broken then Some n else lowest_from (n + 1) rules

-- ---- the event of a line

abbrev pub kind_event : Program → Option Kind → List (List ℕ) → Option Event
kind_event p None words = None
kind_event p (Some kind) words = event_of p kind words

abbrev pub told_event : Program → List (List ℕ) → Option Event
told_event p [] = None
told_event p (first ∷ words) = kind_event p (kind_of first) words

-- none where the line is skipped
unfoldable pub line_event : Program → List ℕ → Option Event
line_event p line = if is_skipped line then None else told_event p (words_of line)

-- What is answered where this is the lowest rule that is broken: the event, if there is one, where no rule is, and
-- else the rule, unless memory ran out.
abbrev pub Answers : Option ℕ → Option Event → Result (Option Event) LineFault → Type 0
Answers broken event (Ok e) = (broken ≡ None) × (event ≡ e)
Answers broken event (Err (fault.Refused rule)) = broken ≡ Some rule
Answers broken event (Err fault.Memory) = Unit {0}
