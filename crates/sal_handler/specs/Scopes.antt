-- What a handler reads, and how it reads and changes its state.
use Rattle.std.specs.Prelude.{ℕ, ◌+◌, ℤ, Bool, nat_lt, if◌then◌else◌, List, [], ◌∷◌, ◌++◌, length, map, take, slice_get, slice_set, Option, Some, None, Ok, Err}
use Rattle.std.specs.List.{position}
use Rattle.std.specs.Str.{bytes_eq}
use Rattle.sal_value.specs.declared.name.Name.{Name}
use Rattle.sal_value.specs.declared.name.Name.TheVariants.{Anon}
use Rattle.sal_value.specs.declared.value.Sort.{Sort}
use Rattle.sal_value.specs.declared.value.Value.{Value}
use Rattle.sal_value.specs.declared.value.Value.TheVariants.{Null}
use Rattle.sal_ast.specs.declared.program.Behavior.{Behavior}
use Rattle.sal_ast.specs.Sorts.{Scope, Variable, fields_in}
use Rattle.sal_mail.specs.declared.message.Reply.{Reply}
use Rattle.sal_mail.specs.declared.fault.Trap.TheVariants.{TooManyTurns, TooManyMessages}
use Rattle.sal_handler.specs.declared.state.Content.{Content}
use Rattle.sal_handler.specs.declared.state.Content.TheVariants as held
use Rattle.sal_handler.specs.declared.state.Local.{Local}
use Rattle.sal_handler.specs.declared.state.EnclosingJoin.{EnclosingJoin}
use Rattle.sal_handler.specs.declared.state.State.{State}
use Rattle.sal_handler.specs.Evaluation.{OrTrap, and_then, Eval}
use Rattle.sal_handler.specs.Values.{item_at, value_after_assign}
use Rattle.sal_handler.specs.declared.constants.TheConstants.{MOST_MADE, MOST_TURNS, NO_THEATRE}

-- What a handler reads and doesn't change: whose it is, to whom the handled message owes its reply, the behaviours of the
-- program, the number of its own, the joins whose blocks it is in, from the innermost outwards, the names
-- that new actors take, and what makes the fields of a new actor. Initialisers and constructors make none.
pub record Context : Type 0 where
  pub me : Name
  pub reply : Reply
  pub behaviors : List Behavior
  pub mine : ℕ
  pub within : List EnclosingJoin
  pub fresh : List Name
  pub make : Option (ℕ → List Value → OrTrap (List Value))

-- what the types of expressions need of a local: its name and its type
abbrev pub variable_of : Local → Variable
variable_of l = record { name = l.name; sort = l.sort }

-- what the types of expressions depend on: the behaviours, the number of the present one, and the locals
abbrev pub scope_of : Context → State → Scope
scope_of r s = record { behaviors = r.behaviors; mine = r.mine; locals = map variable_of s.locals }

-- ---- names

-- where the local of this name stands
unfoldable pub local_named : List ℕ → List Local → Option ℕ
local_named name = position (λ l. bytes_eq l.name name)

-- where the field of this name stands
unfoldable pub field_named : List ℕ → Context → Option ℕ
field_named name r = position (λ f. bytes_eq f.name name) (fields_in (slice_get r.behaviors r.mine))

-- a token has no value
abbrev pub content_value : Content → Value
content_value (held.Value v) = v
content_value (held.Token n) = Null

-- the value of a local; of a token, and where there is no local, null
abbrev pub local_value : Option Local → Value
local_value (Some l) = content_value l.held
local_value None = Null

-- the value of the field with this number; where there is none, null
abbrev pub field_value : Option ℕ → State → Value
field_value (Some i) s = item_at s.fields i
field_value None s = Null

-- the field's value
abbrev pub read_field : List ℕ → Context → State → Value
read_field name r s = field_value (field_named name r) s

-- the value of the local with this number, or else of the field of this name
abbrev pub read_local_or_field : Option ℕ → List ℕ → Context → State → Value
read_local_or_field (Some i) name r s = local_value (slice_get s.locals i)
read_local_or_field None name r s = read_field name r s

-- the value of a local, or else of a field
abbrev pub read_variable : List ℕ → Context → State → Value
read_variable name r s = read_local_or_field (local_named name s.locals) name r s

-- ---- assignments

-- assigns to the field with this number; where there is none, nothing changes
abbrev pub assign_field : Option ℕ → List ℤ → Value → Eval (Unit {0})
assign_field None indexes v = λ s. Ok (tt, s)
assign_field (Some i) indexes v = λ s. and_then (value_after_assign (item_at s.fields i) indexes v) (λ w. Ok (tt, record s { fields = slice_set s.fields i w }))

-- a token keeps what it holds
abbrev pub content_after_assign : Content → List ℤ → Value → OrTrap Content
content_after_assign (held.Value old) indexes v = and_then (value_after_assign old indexes v) (λ w. Ok (held.Value w))
content_after_assign (held.Token n) indexes v = Ok (held.Token n)

-- the locals after an assignment to this one of them; where there is none, as they were
abbrev pub locals_after_assign : Option Local → List Local → ℕ → List ℤ → Value → OrTrap (List Local)
locals_after_assign None locals i indexes v = Ok locals
locals_after_assign (Some l) locals i indexes v = and_then (content_after_assign l.held indexes v) (λ h. Ok (slice_set locals i (record l { held = h })))

-- assigns to the local with this number
abbrev pub assign_local : ℕ → List ℤ → Value → Eval (Unit {0})
assign_local i indexes v = λ s. and_then (locals_after_assign (slice_get s.locals i) s.locals i indexes v) (λ ls. Ok (tt, record s { locals = ls }))

-- assigns to the local with this number, or else to the field of this name
abbrev pub assign_local_or_field : Option ℕ → List ℕ → Context → List ℤ → Value → Eval (Unit {0})
assign_local_or_field (Some i) name r indexes v = assign_local i indexes v
assign_local_or_field None name r indexes v = assign_field (field_named name r) indexes v

-- assigns to the field, or to the local of this name and else to the field
abbrev pub assign_variable : Bool → List ℕ → Context → List ℤ → Value → Eval (Unit {0})
assign_variable own name r indexes v = λ s.
    if own then assign_field (field_named name r) indexes v s else assign_local_or_field (local_named name s.locals) name r indexes v s

-- ---- what is in scope

-- a new local comes into scope, as the newest
abbrev pub add_local : List ℕ → Option Sort → Content → Eval (Unit {0})
add_local name sort h = λ s. Ok (tt, record s { locals = s.locals ++ record { name = name; sort = sort; held = h } ∷ [] })

-- a local with its value
abbrev pub declare : List ℕ → Option Sort → Value → Eval (Unit {0})
declare name sort v = add_local name sort (held.Value v)

-- a token with the number of the message or join whose reply it is
abbrev pub declare_token : List ℕ → ℕ → Eval (Unit {0})
declare_token name n = add_local name None (held.Token n)

-- only this many locals, the oldest ones, stay in scope
abbrev pub keep_locals : ℕ → State → State
keep_locals count s = record s { locals = take count s.locals }

-- does what m does; what m declares is out of scope after it
abbrev pub in_new_scope : {A : Type 0} → Eval A → Eval A
in_new_scope m = λ s. and_then (m s) (λ r. Ok (r.0, keep_locals (length s.locals) r.1))

-- the number that a token holds; a value holds none
abbrev pub token_in : Content → Option ℕ
token_in (held.Token n) = Some n
token_in (held.Value v) = None

-- the number that a local holds, if there is a local and it is a token
abbrev pub token_of_local : Option Local → Option ℕ
token_of_local (Some l) = token_in l.held
token_of_local None = None

-- the number that the local with this number holds, if it is a token
abbrev pub token_at : Option ℕ → State → Option ℕ
token_at (Some i) s = token_of_local (slice_get s.locals i)
token_at None s = None

-- the number that the token of this name holds
abbrev pub token_named : List ℕ → State → Option ℕ
token_named name s = token_at (local_named name s.locals) s

-- ---- counts and numbers

-- a loop body begins: at most 100,000 times in one handler, all its loops together
abbrev pub begin_turn : Eval (Unit {0})
begin_turn = λ s. if nat_lt s.turns MOST_TURNS then Ok (tt, record s { turns = s.turns + 1 }) else Err TooManyTurns

-- The actor's next serial. A handler begins with at least 4,096 left, so the test never fails in one.
abbrev pub take_serial : Eval ℕ
take_serial = λ s. if nat_lt s.serial 18446744073709551615 then Ok (s.serial, record s { serial = s.serial + 1 }) else Err TooManyMessages

-- the next serial, where so many of a kind are there: at most 1,024 messages, and as many joins
abbrev pub take_limited_serial : ℕ → Eval ℕ
take_limited_serial count = λ s. if nat_lt count MOST_MADE then take_serial s else Err TooManyMessages

-- The next slot of the innermost join. Each slot is for one of the handler's messages or joins, of which
-- there are at most 1,024 each, so at most 2,048 slots are taken. The test against 4,096, the most items of an
-- array, never fails.
abbrev pub take_slot : Eval ℕ
take_slot = λ s. if nat_lt s.places 4096 then Ok (s.places, record s { places = s.places + 1 }) else Err TooManyMessages

-- the name; where there is none, the name number i of theatre 4,294,967,295, which stands for no theatre
abbrev pub name_or : Option Name → ℕ → Name
name_or (Some n) i = n
name_or None i = Anon NO_THEATRE i

-- the name that the new actor with this place takes; past the list's end names are of no theatre
abbrev pub fresh_name : List Name → ℕ → Name
fresh_name fresh i = name_or (slice_get fresh i) i
