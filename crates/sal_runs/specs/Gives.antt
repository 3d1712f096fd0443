-- How often a join gives its array in a run: what is given is counted, step by step.
use Rattle.std.specs.Prelude.{◌≡◌, ℕ, zero, suc, ◌+◌, ◌≤◌, true, ◌&&◌, cond, if◌then◌else◌, List, [], ◌∷◌, ◌++◌, length, Option, Some, None}
use Rattle.std.specs.FinMap as fm
use Rattle.sal_value.specs.declared.name.Name.{Name}
use Rattle.sal_value.specs.declared.value.Value.{Value}
use Rattle.sal_value.specs.declared.value.Value.TheVariants.{Null}
use Rattle.sal_value.specs.Spelling.{is_legal}
use Rattle.sal_ast.specs.declared.program.Program.{Program}
use Rattle.sal_mail.specs.declared.message.Reply.{Reply}
use Rattle.sal_mail.specs.declared.message.Reply.TheVariants.{Nobody, Tok, Place, Outside}
use Rattle.sal_mail.specs.declared.message.Message.{Message}
use Rattle.sal_mail.specs.declared.message.Join.{Join}
use Rattle.sal_mail.specs.declared.effects.Actor.{Actor}
use Rattle.sal_mail.specs.Message.{is_full}
use Rattle.sal_mail.specs.Sums.{total}
use Rattle.sal_handler.specs.Calls.{Call, Meaning}
use Rattle.sal_handler.specs.Fits.{meaning_of}
use Rattle.sal_handler.specs.declared.turn.Outcome.{Outcome}
use Rattle.sal_handler.specs.declared.turn.Outcome.TheVariants as outcome
use Rattle.sal_source.specs.declared.state.Setup.{Setup}
use Rattle.sal_source.specs.declared.state.Step.{Step}
use Rattle.sal_source.specs.declared.state.Step.TheVariants.{Handle, Print, Bind, Refuse, Post}
use Rattle.sal_source.specs.Table.{TableKey, key_eq}
use Rattle.sal_source.specs.Keys.{made_key}
use Rattle.sal_source.specs.Configuration.{Waiting, Configuration, first_configuration}
use Rattle.sal_source.specs.Give.{DueReply, join_replies, give_one, replies_if_legal, settle_bound}
use Rattle.sal_source.specs.Once.{one_if, is_open_join}
use Rattle.sal_source.specs.Step.{call_of, understands, actor_at, pending, drop_message, with_effects, step_replies, step}
use Rattle.sal_source.specs.Run.{steps, play}

-- how often the join at this key gives when this reply is given: once where that fills its last slot
abbrev pub join_gives : TableKey → Reply → Value → Waiting → ℕ
join_gives key Nobody value w = 0
join_gives key (Outside number) value w = 0
join_gives key (Tok maker number) value w = 0
join_gives key (Place maker join at) value w = if key_eq key (made_key maker join) then length (join_replies at value (fm.get w.joins (made_key maker join))) else 0

-- a value that isn't legal is given to nobody
abbrev pub gives_if_legal : TableKey → DueReply → Waiting → ℕ
gives_if_legal key g w = cond (is_legal g.1) (join_gives key g.0 g.1 w) 0

-- and when these replies are given, and those that they release, at most so many
unfoldable pub settle_gives : TableKey → ℕ → List DueReply → Waiting → ℕ
settle_gives key zero gs w = 0
settle_gives key (suc n) [] w = 0
settle_gives key (suc n) (g ∷ gs) w = gives_if_legal key g w + settle_gives key n (replies_if_legal g w ++ gs) (give_one g w)

-- all of them
abbrev pub all_give : TableKey → List DueReply → Waiting → ℕ
all_give key gs w = settle_gives key (settle_bound gs w) gs w

-- a new join without slots is full at once, and gives
abbrev pub opened_gives : TableKey → Name → List Join → ℕ
opened_gives key maker js = total (λ j. one_if (is_full j && key_eq key (made_key maker j.number))) js

-- in the step in which a handler does this with the message, which went
abbrev pub outcome_gives : TableKey → Outcome → Message → Actor → Configuration → ℕ
outcome_gives key (outcome.Done e) m a c = opened_gives key a.name e.joins + all_give key (step_replies e m.reply) (with_effects e a c).waiting
outcome_gives key (outcome.Trap kind) m a c = 0

abbrev pub actor_gives : TableKey → (Call → Outcome) → List Name → Message → Option (Actor × ℕ) → Configuration → ℕ
actor_gives key outcomes fresh m None c = 0
actor_gives key outcomes fresh m (Some a) c = if understands a.0 m then outcome_gives key (outcomes (call_of m a fresh)) m a.0 c else 0

abbrev pub handled_gives : TableKey → (Call → Outcome) → Name → ℕ → List Name → Option Message → Configuration → ℕ
handled_gives key outcomes maker serial fresh None c = 0
handled_gives key outcomes maker serial fresh (Some m) c = actor_gives key outcomes fresh m (actor_at m.target c) (drop_message maker serial c)

-- in the step in which the message is printed
abbrev pub printed_gives : TableKey → Name → ℕ → Option Message → Configuration → ℕ
printed_gives key maker serial None c = 0
printed_gives key maker serial (Some m) c = all_give key ((m.reply, Null) ∷ []) (drop_message maker serial c).waiting

-- how often the join at this key gives in a step that is possible
abbrev pub step_gives : TableKey → Meaning → Configuration → Step → ℕ
step_gives key p c (Handle maker serial fresh) = handled_gives key p.outcome maker serial fresh (pending maker serial c) c
step_gives key p c (Print maker serial) = printed_gives key maker serial (pending maker serial c) c
step_gives key p c (Bind maker serial) = 0
step_gives key p c (Refuse maker serial) = 0
step_gives key p c (Post number to behavior handler args) = 0

-- and in these steps, one after another
abbrev pub run_gives : TableKey → Meaning → Setup → Option Configuration → List Step → ℕ
run_gives key p setup o [] = 0
run_gives key p setup None (s ∷ ss) = 0
run_gives key p setup (Some c) (s ∷ ss) = step_gives key p c s + run_gives key p setup (step p setup c s) ss

-- In each run of each program a join, whatever its maker and number, gives at most once.
abbrev pub JoinsGiveOnce : Type 0
JoinsGiveOnce =
    (p : Program) (setup : Setup) (ss : List Step) (end : Configuration) → play p setup ss ≡ Some end
    → (maker : Name) (number : ℕ) → run_gives (made_key maker number) (meaning_of p) setup (Some (first_configuration (meaning_of p) setup)) ss ≤ 1

-- From a configuration in which a join is open, however the run goes on: it is open yet and has given nothing since, or
-- it is open no more and has given once.
abbrev pub JoinsGiveAsTheyLeave : Type 0
JoinsGiveAsTheyLeave =
    (p : Program) (setup : Setup) (ss more : List Step) (c d : Configuration) → play p setup ss ≡ Some c → steps (meaning_of p) setup c more ≡ Some d
    → (maker : Name) (number : ℕ) → is_open_join maker number c ≡ true
    → run_gives (made_key maker number) (meaning_of p) setup (Some c) more + one_if (is_open_join maker number d) ≡ 1
