-- What runs of programs do only once: no message is handled or printed twice, no join resolves twice, and a
-- step gives one answer at most.
use Rattle.std.specs.Prelude.{◌≡◌, ℕ, ◌≤◌, ◌<◌, nat_le, Bool, false, if◌then◌else◌, List, ◌++◌, length, ◌+◌, Option, Some, None}
use Rattle.std.specs.FinMap as fm
use Rattle.sal_value.specs.declared.name.Name.{Name}
use Rattle.sal_value.specs.declared.name.Name.TheVariants.{Anon, Uan, Outside}
use Rattle.sal_ast.specs.declared.program.Program.{Program}
use Rattle.sal_mail.specs.declared.effects.Actor.{Actor}
use Rattle.sal_handler.specs.Fits.{meaning_of}
use Rattle.sal_source.specs.declared.state.Setup.{Setup}
use Rattle.sal_source.specs.declared.state.Step.{Step}
use Rattle.sal_source.specs.declared.state.Step.TheVariants.{Handle, Print, Bind, Refuse, Post}
use Rattle.sal_source.specs.Table.{Table, key_eq, total}
use Rattle.sal_source.specs.Keys.{name_key, made_key}
use Rattle.sal_source.specs.Configuration.{Configuration}
use Rattle.sal_source.specs.Step.{step}
use Rattle.sal_source.specs.Run.{play}

-- ---- messages

-- 1 where it holds, else 0
abbrev pub one_if : Bool → ℕ
one_if b = if b then 1 else 0

-- whether the step handles or prints the message with this maker and number, as a number
abbrev pub takes : Name → ℕ → Step → ℕ
takes maker serial (Handle m n fresh) = one_if (key_eq (made_key maker serial) (made_key m n))
takes maker serial (Print m n) = one_if (key_eq (made_key maker serial) (made_key m n))
takes maker serial (Bind m n) = 0
takes maker serial (Refuse m n) = 0
takes maker serial (Post number to behavior handler args) = 0

-- Every message is handled or printed at most once in a run.
abbrev pub MessagesAreTakenOnce : Type 0
MessagesAreTakenOnce = (p : Program) (setup : Setup) (ss : List Step) (end : Configuration) → play p setup ss ≡ Some end → (maker : Name) (serial : ℕ) → total (takes maker serial) ss ≤ 1

-- ---- joins

-- the next number of an actor, or 0 where there is none
abbrev pub next_serial_of : Option (Actor × ℕ) → ℕ
next_serial_of None = 0
next_serial_of (Some a) = a.1

-- the next number of who makes messages: an actor's own, or 0 before there is the actor; a post has number 0
abbrev pub next_serial : Table (Actor × ℕ) → ℕ → Name → ℕ
next_serial actors posted (Anon theatre n) = next_serial_of (fm.get actors (name_key (Anon theatre n)))
next_serial actors posted (Uan u) = next_serial_of (fm.get actors (name_key (Uan u)))
next_serial actors posted (Outside n) = one_if (nat_le n posted)

-- there is an open join with this maker and number
abbrev pub is_open_join : Name → ℕ → Configuration → Bool
is_open_join maker number c = fm.contains_key c.waiting.joins (made_key maker number)

-- the number is taken, and no join is open under it: if it is a join's, the join has resolved
abbrev pub HasResolved : Name → ℕ → Configuration → Type 0
HasResolved maker number c = (number < next_serial c.actors c.posted maker) × (is_open_join maker number c ≡ false)

-- A join that has resolved has done so for ever, however the run goes on: so none resolves twice.
abbrev pub JoinsResolveOnce : Type 0
JoinsResolveOnce =
    (p : Program) (setup : Setup) (ss more : List Step) (c d : Configuration) → play p setup ss ≡ Some c → play p setup (ss ++ more) ≡ Some d
    → (maker : Name) (number : ℕ) → HasResolved maker number c → HasResolved maker number d

-- ---- answers

-- A step of a run gives at most one answer to the outside.
abbrev pub StepsAnswerOnce : Type 0
StepsAnswerOnce = (p : Program) (setup : Setup) (ss : List Step) (one : Step) (c d : Configuration) → play p setup ss ≡ Some c → step (meaning_of p) setup c one ≡ Some d → length d.answers ≤ length c.answers + 1
