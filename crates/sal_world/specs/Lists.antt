-- What a turn adds to the lists of a world.
use Rattle.std.specs.Prelude.{ℕ, ◌+◌, Bool, true, false, List, [], ◌∷◌, ◌++◌, map, filter, flat_map, length, Some}
use Rattle.std.specs.FinMap as fm
use Rattle.sal_value.specs.declared.name.Name.{Name}
use Rattle.sal_value.specs.Table.{Table, write}
use Rattle.sal_mail.specs.declared.fault.Fault.{Fault}
use Rattle.sal_mail.specs.declared.fault.FaultKind.{FaultKind}
use Rattle.sal_mail.specs.declared.fault.FaultKind.TheVariants.{Trap as Trapped, NoHandler, NameTaken}
use Rattle.sal_source.specs.declared.state.Step.{Step}
use Rattle.sal_source.specs.declared.state.Step.TheVariants.{Handle, Print, Bind, Refuse, Post}
use Rattle.sal_source.specs.Keys.{name_key}
use Rattle.sal_source.specs.Configuration.{Waiting}
use Rattle.sal_source.specs.Give.{settle_all}
use Rattle.sal_pieces.specs.Steps.{with_opened, answers_of_replies}
use Rattle.sal_routing.specs.declared.told.Told.{Told}
use Rattle.sal_routing.specs.State.{moment}
use Rattle.sal_world.specs.World.{Lists}

-- a refused creation's fault is listed at its step, and not when its theatre tells it
abbrev pub is_listed_when_told : FaultKind → Bool
is_listed_when_told (Trapped kind) = true
is_listed_when_told NoHandler = true
is_listed_when_told NameTaken = false

abbrev pub faults_of_step : Step → List Fault
faults_of_step (Refuse maker serial) = record { maker = maker; serial = serial; kind = NameTaken } ∷ []
faults_of_step (Handle maker serial fresh) = []
faults_of_step (Print maker serial) = []
faults_of_step (Bind maker serial) = []
faults_of_step (Post number to behavior handler args) = []

abbrev pub faults_of : Told → List Fault
faults_of told = filter (λ f. is_listed_when_told f.kind) told.faults ++ flat_map faults_of_step told.log

-- What a step's replies are given to, but for messages, which give nothing on.
abbrev pub waiting_at : Told → Lists → Waiting
waiting_at told l = record { messages = fm.empty; joins = with_opened told.opened l.open_joins }

abbrev pub posted_after : ℕ → List Step → ℕ
posted_after last [] = last
posted_after last (Post number to behavior handler args ∷ ss) = posted_after number ss
posted_after last (Handle maker serial fresh ∷ ss) = posted_after last ss
posted_after last (Print maker serial ∷ ss) = posted_after last ss
posted_after last (Bind maker serial ∷ ss) = posted_after last ss
posted_after last (Refuse maker serial ∷ ss) = posted_after last ss

abbrev pub put_places : List (Name × ℕ) → Table ℕ → Table ℕ
put_places [] t = t
put_places (x ∷ xs) t = put_places xs (write t (name_key x.0) (Some x.1))

-- The lists once node n told this. A step's answers are those that giving its replies tells, though some of them may be on
-- their way yet: the joins that are kept are as if each reply had come. The count of moves stops at the greatest number
-- of eight bytes, as clocks do.
unfoldable pub listed : ℕ → Told → Lists → Lists
listed n told l = record {
  trace = l.trace ++ told.log;
  output = l.output ++ map (λ text. (n, text)) told.printed;
  faults = l.faults ++ faults_of told;
  answers = l.answers ++ answers_of_replies l.open_joins told.opened told.given;
  posted = posted_after l.posted told.log;
  places = put_places (told.made ++ told.moved) l.places;
  moves = moment (l.moves + length told.moved);
  open_joins = (settle_all told.given (waiting_at told l)).joins;
}
