-- What every configuration that a run of a program comes to has: names that have spellings, and legal values.
use Rattle.std.specs.Prelude.{◌≡◌, ℕ, true, List, Option, Some, None}
use Rattle.std.specs.FinMap as fm
use Rattle.sal_value.specs.declared.name.Name.{Name}
use Rattle.sal_value.specs.declared.name.Name.TheVariants.{Anon, Uan, Outside}
use Rattle.sal_value.specs.declared.name.Authority.{Authority}
use Rattle.sal_value.specs.declared.value.Value.{Value}
use Rattle.sal_value.specs.declared.value.Value.TheVariants.{Array}
use Rattle.sal_value.specs.Names.{is_uan}
use Rattle.sal_value.specs.Spelling.{name_is_spelled}
use Rattle.sal_ast.specs.declared.program.Program.{Program}
use Rattle.sal_mail.specs.declared.message.Message.{Message}
use Rattle.sal_mail.specs.declared.message.Join.{Join}
use Rattle.sal_mail.specs.declared.effects.Actor.{Actor}
use Rattle.sal_mail.specs.declared.effects.Creation.{Creation}
use Rattle.sal_envelope.specs.Spelling.{reply_is_spelled}
use Rattle.sal_handler.specs.WellFormed.{EachOf, Legal, IsLegalPiece}
use Rattle.sal_effects.specs.Spelled.{IsLocator, MessageIsSpelled}
use Rattle.sal_source.specs.declared.state.Setup.{Setup}
use Rattle.sal_source.specs.declared.state.Step.{Step}
use Rattle.sal_source.specs.Table.{TableKey, Table, keys_of}
use Rattle.sal_source.specs.Keys.{name_key}
use Rattle.sal_source.specs.Configuration.{Configuration}
use Rattle.sal_source.specs.Step.{is_served}
use Rattle.sal_source.specs.Run.{play}

-- it holds of each value in the table
abbrev pub EachIn : {X : Type 0} → (X → Type 0) → Table X → Type 0
EachIn {X} P t = (key : TableKey) (x : X) → fm.get t key ≡ Some x → P x

-- ---- names

-- Each actor stands at its name's key, and the names that were given are exactly the actors'.
pub record NamesAreActors (c : Configuration) : Type 0 where
  pub given : c.given ≡ keys_of c.actors
  pub keyed : (key : TableKey) (a : Actor × ℕ) → fm.get c.actors key ≡ Some a → name_key a.0.name ≡ key

abbrev pub GivenNamesAreActors : Type 0
GivenNamesAreActors = (p : Program) (setup : Setup) (ss : List Step) (c : Configuration) → play p setup ss ≡ Some c → NamesAreActors c

-- a universal name's naming service is among these; of other names nothing is asked
abbrev pub IsServed : List Authority → Name → Type 0
IsServed authorities (Anon theatre number) = Unit {0}
IsServed authorities (Uan u) = is_served authorities u ≡ true
IsServed authorities (Outside number) = Unit {0}

-- Each actor with a universal name has one that a naming service of the run serves.
abbrev pub BoundNamesAreServed : Type 0
BoundNamesAreServed = (p : Program) (setup : Setup) (ss : List Step) (c : Configuration) → play p setup ss ≡ Some c → EachIn (λ (a : Actor × ℕ). IsServed setup.authorities a.0.name) c.actors

-- ---- spellings and legal values

pub record ActorIsSound (a : Actor) : Type 0 where
  pub name : name_is_spelled a.name ≡ true
  pub fields : EachOf Legal a.fields

-- a pending message: its names have spellings, and what is known of its arguments is legal
pub record MessageIsSound (m : Message) : Type 0 where
  pub spelled : MessageIsSpelled m
  pub args : EachOf IsLegalPiece m.args

-- an empty slot, or a legal value
abbrev pub SlotIsSound : Option Value → Type 0
SlotIsSound None = Unit {0}
SlotIsSound (Some v) = Legal v

-- an open join, with its maker
pub record JoinIsSound (j : Name × Join) : Type 0 where
  pub maker : name_is_spelled j.0 ≡ true
  pub reply : reply_is_spelled j.1.reply ≡ true
  pub slots : EachOf SlotIsSound j.1.places

-- a pending creation, with its maker
pub record CreationIsSound (x : Name × Creation) : Type 0 where
  pub maker : name_is_spelled x.0 ≡ true
  pub name : is_uan x.1.name ≡ true
  pub place : IsLocator x.1.place
  pub fields : EachOf Legal x.1.fields

pub record IsSound (c : Configuration) : Type 0 where
  pub actors : EachIn (λ (a : Actor × ℕ). ActorIsSound a.0) c.actors
  pub creations : EachIn CreationIsSound c.creations
  pub messages : EachIn MessageIsSound c.waiting.messages
  pub joins : EachIn JoinIsSound c.waiting.joins
  pub answers : EachOf (λ (a : ℕ × Value). Legal a.1) c.answers

-- In a run of any program whose words make a legal array every configuration is sound.
abbrev pub RunsStaySound : Type 0
RunsStaySound = (p : Program) (setup : Setup) (ss : List Step) (c : Configuration) → Legal (Array setup.words) → play p setup ss ≡ Some c → IsSound c
