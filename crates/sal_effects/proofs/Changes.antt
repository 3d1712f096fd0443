-- What a handler does consists of changes of a few kinds. What all of them keep is kept by every handler.
use Rattle.std.proofs.Common.{◌≡◌, ℕ, ◌+◌, ◌≤◌, ◌<◌, ◌⊎◌, ℤ, Bool, List, [], ◌∷◌, ◌++◌, length, Option, Some, None, Ok}
use Rattle.sal_value.specs.declared.name.Uan.{Uan}
use Rattle.sal_value.specs.declared.name.Ual.{Ual}
use Rattle.sal_value.specs.declared.name.Name.TheVariants as name
use Rattle.sal_value.specs.declared.value.Base.{Base}
use Rattle.sal_value.specs.declared.value.Base.TheVariants as base
use Rattle.sal_value.specs.declared.value.Sort.{Sort}
use Rattle.sal_value.specs.declared.value.Value.{Value}
use Rattle.sal_value.specs.declared.value.Value.TheVariants.{Bool as Truth, Str, Array, Ref, Null}
use Rattle.sal_value.specs.Names.{uan_of, ual_of}
use Rattle.sal_ast.specs.declared.expression.Op.{Op}
use Rattle.sal_ast.specs.declared.program.Behavior.{Behavior}
use Rattle.sal_ast.specs.declared.program.TypeName.{TypeName}
use Rattle.sal_ast.specs.declared.statement.Send.{Send}
use Rattle.sal_ast.specs.declared.statement.Aim.{Aim}
use Rattle.sal_ast.specs.declared.statement.Aim.TheVariants as aim
use Rattle.sal_mail.specs.declared.message.Target.{Target}
use Rattle.sal_mail.specs.declared.message.Target.TheVariants as target
use Rattle.sal_mail.specs.declared.message.Piece.{Piece}
use Rattle.sal_mail.specs.declared.message.Piece.TheVariants.{Known, Token}
use Rattle.sal_mail.specs.declared.message.Reply.{Reply}
use Rattle.sal_mail.specs.declared.message.Reply.TheVariants.{Nobody, Tok, Place}
use Rattle.sal_mail.specs.declared.message.Join.{Join}
use Rattle.sal_handler.specs.declared.state.Content.{Content}
use Rattle.sal_handler.specs.declared.state.Content.TheVariants as held
use Rattle.sal_handler.specs.declared.state.Local.{Local}
use Rattle.sal_handler.specs.declared.state.End.{End}
use Rattle.sal_handler.specs.declared.state.End.TheVariants as end
use Rattle.sal_handler.specs.declared.state.EnclosingJoin.{EnclosingJoin}
use Rattle.sal_handler.specs.declared.state.State.{State}
use Rattle.sal_handler.specs.Values as w
use Rattle.sal_handler.specs.Scopes.{Context, fresh_name}
use Rattle.sal_handler.specs.Messages.{message_with}
use Rattle.sal_handler.specs.Statements.{within_join, close_join}
use Rattle.sal_handler.specs.WellFormed.{EachOf}

-- ---- values

-- A property of values that all operations keep. Of the texts in the program something is asked, too.
pub record Values : Type 1 where
  pub Holds : Value → Type 0
  pub Literal : List ℕ → Type 0
  pub null : Holds Null
  pub number : (n : ℕ) → Holds (w.literal_value n)
  pub text : (text : List ℕ) (v : Value) → Literal text → w.within_limits (Str text) ≡ Ok v → Holds v
  pub truth : (b : Bool) → Holds (Truth b)
  pub negated : (v : Value) → Holds (w.negate_int v)
  pub size : (v : Value) → Holds (w.length_of v)
  pub item : (v y : Value) (index : ℤ) → Holds v → w.item v index ≡ Ok y → Holds y
  pub operated : (o : Op) (a b y : Value) → Holds a → Holds b → w.operate o a b ≡ Ok y → Holds y
  pub array : (t : TypeName) (n : ℤ) (y : Value) → w.new_array t n ≡ Ok y → Holds y
  pub list : (vs : List Value) (y : Value) → EachOf Holds vs → w.within_limits (Array vs) ≡ Ok y → Holds y
  pub assigned : (old : Value) (indexes : List ℤ) (new y : Value) → Holds old → Holds new → w.value_after_assign old indexes new ≡ Ok y → Holds y
  pub default : (t : TypeName) → Holds (w.default_of t)
  pub named : (text : List ℕ) (u : Uan) → uan_of text ≡ Some u → Holds (Ref (name.Uan u))

-- the number of a behaviour: its own, or one that a name in the text has
abbrev pub IsBehavior : List Behavior → ℕ → ℕ → Type 0
IsBehavior behaviors mine n = (n ≡ mine) ⊎ ((n < length behaviors) × (n < 65535))

abbrev pub GoodBase : List Behavior → ℕ → Base → Type 0
GoodBase behaviors mine base.Int = Unit {0}
GoodBase behaviors mine base.Bool = Unit {0}
GoodBase behaviors mine base.Str = Unit {0}
GoodBase behaviors mine base.Void = Unit {0}
GoodBase behaviors mine (base.Actor n) = IsBehavior behaviors mine n

-- a type whose behaviour, if it has one, has such a number
abbrev pub GoodSort : List Behavior → ℕ → Option Sort → Type 0
GoodSort behaviors mine None = Unit {0}
GoodSort behaviors mine (Some s) = GoodBase behaviors mine s.base

module _ (values : Values) where
  abbrev pub HeldOk : Content → Type 0
  HeldOk (held.Value v) = values.Holds v
  HeldOk (held.Token n) = Unit {0}

  abbrev pub PieceOk : Piece → Type 0
  PieceOk (Known v) = values.Holds v
  PieceOk (Token n) = Unit {0}

  abbrev pub TargetOk : Target → Type 0
  TargetOk (target.Actor n) = values.Holds (Ref n)
  TargetOk target.Output = Unit {0}

  pub record LocalOk (behaviors : List Behavior) (mine : ℕ) (l : Local) : Type 0 where
    pub held : HeldOk l.held
    pub sort : GoodSort behaviors mine l.sort

  -- what a state keeps: its values, and the types of its locals
  pub record Kept (behaviors : List Behavior) (mine : ℕ) (s : State) : Type 0 where
    pub locals : EachOf (LocalOk behaviors mine) s.locals
    pub fields : EachOf values.Holds s.fields

-- ---- a number is taken, and with it a slot

abbrev pub slot_owed : List EnclosingJoin → Context → State → Reply
slot_owed [] r s = Nobody
slot_owed (i ∷ is) r s = Place r.me i.join s.places

-- to whom a stage with the next number owes its reply
abbrev pub owed_to : End → Context → State → Reply
owed_to end.Nobody r s = Nobody
owed_to end.Token r s = Tok r.me s.serial
owed_to end.Place r s = slot_owed r.within r s
owed_to end.Caller r s = r.reply

abbrev pub slots_after : List EnclosingJoin → State → ℕ
slots_after [] s = s.places
slots_after (i ∷ is) s = s.places + 1

-- how many slots the innermost join has then
abbrev pub places_after : End → Context → State → ℕ
places_after end.Nobody r s = s.places
places_after end.Token r s = s.places
places_after end.Place r s = slots_after r.within s
places_after end.Caller r s = s.places

-- where a slot is taken, at most 4,095 were
abbrev pub SlotLow : List EnclosingJoin → State → Type 0
SlotLow [] s = Unit {0}
SlotLow (i ∷ is) s = s.places < 4096

abbrev pub PlaceLow : End → Context → State → Type 0
PlaceLow end.Nobody r s = Unit {0}
PlaceLow end.Token r s = Unit {0}
PlaceLow end.Place r s = SlotLow r.within s
PlaceLow end.Caller r s = Unit {0}

-- how often the handled reply is passed on
abbrev pub ends : End → ℕ
ends end.Nobody = 0
ends end.Token = 0
ends end.Place = 0
ends end.Caller = 1

abbrev pub taken : End → Context → State → State
taken last r s = record s { serial = s.serial + 1; places = places_after last r s }

-- ---- the changes

abbrev pub sent : Send → Context → Option ℕ → End → Target → List Piece → ℕ → State → State
sent y r before last to args delay s = record s {
  serial = s.serial + 1;
  places = places_after last r s;
  messages = s.messages ++ message_with y r before to args delay s.serial (owed_to last r s) (taken last r s) ∷ [];
}

abbrev pub open_one : End → Context → Bool → State → Join
open_one last r void s = record { number = s.serial; places = []; void = void; reply = owed_to last r s }

abbrev pub opened : End → Context → Bool → State → State
opened last r void s = record s { serial = s.serial + 1; places = 0; joins = s.joins ++ open_one last r void s ∷ [] }

-- it stood open in the state b
abbrev pub closed : End → Context → Bool → State → State → State
closed last r void s b = close_join (length s.joins) s.serial void (owed_to last r s) (places_after last r s) b

abbrev pub with_actor : ℕ → Context → List Value → State → State
with_actor behavior r fields s = record s { actors = s.actors ++ record { name = fresh_name r.fresh (length s.actors); behavior = behavior; fields = fields } ∷ [] }

abbrev pub with_creation : ℕ → Uan → Option Ual → List Value → State → State
with_creation behavior u place fields s = record s { serial = s.serial + 1; creations = s.creations ++ record { serial = s.serial; name = u; place = place; behavior = behavior; fields = fields } ∷ [] }

-- the target is the output exactly where the text says so
abbrev pub MatchesAim : Aim → Target → Type 0
MatchesAim (aim.Output at) target.Output = Unit {0}
MatchesAim (aim.Output at) (target.Actor n) = ⊥
MatchesAim aim.Own target.Output = ⊥
MatchesAim aim.Own (target.Actor n) = Unit {0}
MatchesAim (aim.Actor e) target.Output = ⊥
MatchesAim (aim.Actor e) (target.Actor n) = Unit {0}

-- a number is left
abbrev pub NumberLow : State → Type 0
NumberLow s = s.serial < 18446744073709551615

-- a name or locator that a text writes
abbrev pub IsRead : Uan → Type 0
IsRead u = (text : List ℕ) × (uan_of text ≡ Some u)

abbrev pub IsReadPlace : Option Ual → Type 0
IsReadPlace None = Unit {0}
IsReadPlace (Some l) = (text : List ℕ) × (ual_of text ≡ Some l)

pub record IsSend (values : Values) (r : Context) (y : Send) (last : End) (to : Target) (args : List Piece) (delay : ℕ) (s : State) : Type 0 where
  pub few : length s.messages < 1024
  pub number : NumberLow s
  pub place : PlaceLow last r s
  pub target : TargetOk values to
  pub aim : MatchesAim y.aim to
  pub pieces : EachOf (PieceOk values) args
  pub wait : delay ≤ 86400000
  pub kept : Kept values r.behaviors r.mine s

pub record IsJoin (r : Context) (last : End) (s : State) : Type 0 where
  pub few : length s.joins < 1024
  pub number : NumberLow s
  pub place : PlaceLow last r s

pub record IsNew (values : Values) (r : Context) (behavior : ℕ) (fields : List Value) (s : State) : Type 0 where
  pub few : length s.actors + length s.creations < 1024
  pub known : (behavior < length r.behaviors) × (behavior < 65535)
  pub held : EachOf values.Holds fields

-- What a handler may do, with what all it does keeps. Moves r k s t: in this context s became t, and the handled
-- reply was passed on k times. Whole: what is asked of trees.
pub record Law : Type 1 where
  pub values : Values
  pub Whole : Type 0
  pub Moves : Context → ℕ → State → State → Type 0
  pub quiet : (r : Context) (s : State) (locals : List Local) (fields : List Value) (turns : ℕ) → Moves r 0 s (record s { locals = locals; fields = fields; turns = turns })
  pub next : (r : Context) (k : ℕ) (s t u : State) → Moves r 0 s t → Moves r k t u → Moves r k s u
  pub scoped : (r : Context) (k : ℕ) (s t : State) (locals : List Local) → Moves r k s t → Moves r k s (record t { locals = locals })
  pub sends : (r : Context) (y : Send) (before : Option ℕ) (last : End) (to : Target) (args : List Piece) (delay : ℕ) (s : State) → IsSend values r y last to args delay s → Moves r (ends last) s (sent y r before last to args delay s)
  pub joins : (r : Context) (before : Option ℕ) (last : End) (void : Bool) (s b : State) → IsJoin r last s → Moves (within_join s.serial before r) 0 (opened last r void s) b → Moves r (ends last) s (closed last r void s b)
  pub makes : (r : Context) (behavior : ℕ) (fields : List Value) (s : State) → IsNew values r behavior fields s → Moves r 0 s (with_actor behavior r fields s)
  pub creates : (r : Context) (behavior : ℕ) (u : Uan) (place : Option Ual) (fields : List Value) (s : State) → IsNew values r behavior fields s → NumberLow s → IsRead u → IsReadPlace place → Moves r 0 s (with_creation behavior u place fields s)
