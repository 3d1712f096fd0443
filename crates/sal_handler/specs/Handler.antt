-- One handler as a whole, the making of actors, and how a program begins.
use Rattle.std.specs.Prelude.{ℕ, ◌+◌, Bool, true, false, ◌&&◌, nat_eq, nat_lt, if◌then◌else◌, List, [], ◌∷◌, length, map, slice_get, slice_set, codes, Option, Some, None, Ok, Err}
use Rattle.std.specs.List.{position}
use Rattle.std.specs.Str.{bytes_eq}
use Rattle.sal_value.specs.declared.name.Ual.{Ual}
use Rattle.sal_value.specs.declared.name.Name.TheVariants.{Outside}
use Rattle.sal_value.specs.declared.value.Value.{Value}
use Rattle.sal_value.specs.declared.value.Value.TheVariants.{Null}
use Rattle.sal_value.specs.Names.{ual_of}
use Rattle.sal_ast.specs.declared.expression.Expr.{Expr}
use Rattle.sal_ast.specs.declared.program.BaseName.{BaseName}
use Rattle.sal_ast.specs.declared.program.BaseName.TheVariants as base
use Rattle.sal_ast.specs.declared.program.TypeName.{TypeName}
use Rattle.sal_ast.specs.declared.program.Param.{Param}
use Rattle.sal_ast.specs.declared.program.Behavior.{Behavior}
use Rattle.sal_ast.specs.declared.program.Program.{Program}
use Rattle.sal_ast.specs.Members.{Field, Handler, fields_of, handlers_of, constructor_of, valid_number}
use Rattle.sal_ast.specs.Sorts.{type_sort}
use Rattle.sal_mail.specs.declared.fault.Trap.TheVariants.{TooManyMessages, NullTarget, BadLocator}
use Rattle.sal_mail.specs.declared.message.Reply.TheVariants as reply
use Rattle.sal_mail.specs.declared.effects.Answer.{Answer}
use Rattle.sal_mail.specs.declared.effects.Answer.TheVariants as answer
use Rattle.sal_mail.specs.declared.effects.Effects.{Effects}
use Rattle.sal_handler.specs.declared.state.Flow.{Flow}
use Rattle.sal_handler.specs.declared.state.Flow.TheVariants.{Next, Returned, Passed}
use Rattle.sal_handler.specs.declared.state.Content.TheVariants as held
use Rattle.sal_handler.specs.declared.state.Local.{Local}
use Rattle.sal_handler.specs.declared.state.State.{State}
use Rattle.sal_handler.specs.declared.turn.Outcome.{Outcome}
use Rattle.sal_handler.specs.declared.turn.Outcome.TheVariants as outcome
use Rattle.sal_handler.specs.declared.turn.Began.{Began}
use Rattle.sal_handler.specs.declared.turn.Began.TheVariants as began
use Rattle.sal_handler.specs.Evaluation.{OrTrap, and_then, Eval, ◌>>=◌, ◌>>◌, pure}
use Rattle.sal_handler.specs.Values.{default_of, text_of}
use Rattle.sal_handler.specs.Scopes.{Context}
use Rattle.sal_handler.specs.Expressions.{FieldMaker, eval}
use Rattle.sal_handler.specs.Statements.{exec_block}
use Rattle.sal_handler.specs.Calls.{Call}
use Rattle.sal_value.specs.declared.constants.TheConstants.{RESERVED}
use Rattle.sal_mail.specs.declared.constants.TheConstants.{MIGRATE}
use Rattle.sal_handler.specs.declared.constants.TheConstants.{LAST_SERIAL}

-- ---- how a body starts

-- a parameter as a local that holds this argument
abbrev pub parameter : List Behavior → Param → Value → Local
parameter behaviors p v = record { name = p.name.text; sort = type_sort p.sort behaviors; held = held.Value v }

-- parameters hold the arguments, and null where there are too few
abbrev pub parameters : List Behavior → List Param → List Value → List Local
parameters behaviors [] args = []
parameters behaviors (p ∷ ps) [] = parameter behaviors p Null ∷ parameters behaviors ps []
parameters behaviors (p ∷ ps) (v ∷ vs) = parameter behaviors p v ∷ parameters behaviors ps vs

-- the state in which a body starts: these locals, fields and next number, no turns, nothing sent or made
abbrev pub initial_state : List Local → List Value → ℕ → State
initial_state locals fields serial = record { locals = locals; fields = fields; turns = 0; serial = serial; messages = []; joins = []; places = 0; actors = []; creations = [] }

-- ---- new actors

-- initialisers and constructors make no actor, and of what they do only the fields are left
abbrev pub constructor_context : List Behavior → ℕ → Context
constructor_context behaviors n = record { me = Outside 0; reply = reply.Nobody; behaviors = behaviors; mine = n; within = []; fresh = []; make = None }

-- the initialiser, if there is one, sets the field with this number
abbrev pub exec_initialiser : Option Expr → ℕ → Context → Eval (Unit {0})
exec_initialiser None i r = pure tt
exec_initialiser (Some e) i r = eval e r >>= (λ v. λ s. Ok (tt, record s { fields = slice_set s.fields i v }))

-- the initialisers in order, from the field with this place on
abbrev pub exec_initialisers : List Field → ℕ → Context → Eval (Unit {0})
exec_initialisers [] i r = pure tt
exec_initialisers (f ∷ fs) i r = exec_initialiser f.init i r >> exec_initialisers fs (i + 1) r

-- the fields before the initialisers
abbrev pub default_fields : List Field → List Value
default_fields = map (λ f. default_of f.sort)

-- the fields after the initialisers
abbrev pub initial_fields : Behavior → Context → OrTrap (List Value)
initial_fields b r = and_then (exec_initialisers (fields_of b) 0 r (initial_state [] (default_fields (fields_of b)) 0)) (λ x. Ok x.1.fields)

-- the fields after the constructor, if there is one
abbrev pub fields_after_constructor : Option Handler → List Value → Context → List Value → OrTrap (List Value)
fields_after_constructor None args r fields = Ok fields
fields_after_constructor (Some c) args r fields = and_then (exec_block c.body r (initial_state (parameters r.behaviors c.params args) fields 0)) (λ x. Ok x.1.fields)

-- the fields after the initialisers and the constructor; without a behaviour, none
abbrev pub new_fields_of : Option Behavior → List Value → Context → OrTrap (List Value)
new_fields_of None args r = Ok []
new_fields_of (Some b) args r = and_then (initial_fields b r) (fields_after_constructor (constructor_of b) args r)

-- the fields of a new actor of this behaviour
unfoldable pub new_fields : List Behavior → FieldMaker
new_fields behaviors n args = new_fields_of (slice_get behaviors n) args (constructor_context behaviors n)

-- ---- a handler

-- the answer: the value of `return`, null without `return`, or none where the reply was passed on
abbrev pub answer_of_flow : Flow → Answer
answer_of_flow Next = answer.Value Null
answer_of_flow (Returned v) = answer.Value v
answer_of_flow Passed = answer.Passed

-- what a handler leaves that ended so in this state; `fresh` counts on by the number of its new actors
abbrev pub effects_of : Flow → State → ℕ → Effects
effects_of flow s fresh = record {
  fields = s.fields;
  answer = answer_of_flow flow;
  messages = s.messages;
  joins = s.joins;
  actors = s.actors;
  creations = s.creations;
  serial = s.serial;
  fresh = fresh + length s.actors;
}

-- what the called handler reads; unlike an initialiser it can make actors
abbrev pub handler_context : Program → Call → Context
handler_context p c = record { me = c.me; reply = c.reply; behaviors = p.behaviors; mine = c.behavior; within = []; fresh = c.names; make = Some (new_fields p.behaviors) }

-- what changes nothing and answers null
abbrev pub no_effects : Call → Effects
no_effects c = effects_of Next (initial_state [] c.fields c.serial) c.fresh

-- the effects of this handler, whose parameters hold the arguments; where there is none, nothing changes
abbrev pub run_handler : Option Handler → Program → Call → OrTrap Effects
run_handler None p c = Ok (no_effects c)
run_handler (Some h) p c = and_then (exec_block h.body (handler_context p c) (initial_state (parameters p.behaviors h.params c.args) c.fields c.serial)) (λ x. Ok (effects_of x.0 x.1 c.fresh))

-- a behaviour or handler that the program doesn't have changes nothing
abbrev pub run_in_behavior : Option Behavior → Program → Call → OrTrap Effects
run_in_behavior None p c = Ok (no_effects c)
run_in_behavior (Some b) p c = run_handler (slice_get (handlers_of b) c.handler) p c

-- nothing changes where there is a locator, and else it traps
abbrev pub migrate_if_locator : Option Ual → Call → OrTrap Effects
migrate_if_locator (Some l) c = Ok (no_effects c)
migrate_if_locator None c = Err BadLocator

-- the text of the first argument; where there is none, or it is no text, the empty one
abbrev pub first_text : List Value → List ℕ
first_text [] = []
first_text (v ∷ vs) = text_of v

-- `migrate` does nothing here but trap on a text that is no locator
abbrev pub run_migrate : Call → OrTrap Effects
run_migrate c = migrate_if_locator (ual_of (first_text c.args)) c

-- handler 65,535 is `migrate`, whatever the behaviour; else the called handler of the actor's behaviour runs
abbrev pub run_called : Program → Call → OrTrap Effects
run_called p c = if nat_eq c.handler MIGRATE then run_migrate c else run_in_behavior (slice_get p.behaviors c.behavior) p c

-- it traps where fewer than 4,096 numbers are left below 2^64, and else the called handler runs
abbrev pub run_if_numbers_left : Program → Call → OrTrap Effects
run_if_numbers_left p c = if nat_lt LAST_SERIAL c.serial then Err TooManyMessages else run_called p c

-- the effects, or the trap that undoes them
abbrev pub outcome_of : OrTrap Effects → Outcome
outcome_of (Ok e) = outcome.Done e
outcome_of (Err k) = outcome.Trap k

-- what one handler does: its effects, or the trap that undoes it
unfoldable pub handle : Program → Call → Outcome
handle p c = outcome_of (run_if_numbers_left p c)

-- ---- the start

-- the base type is `String`
abbrev pub is_string_base : BaseName → Bool
is_string_base base.Str = true
is_string_base base.Int = false
is_string_base base.Boolean = false
is_string_base (base.Actor name) = false

-- `String[] x`
abbrev pub is_words_params : List Param → Bool
is_words_params (x ∷ []) = is_string_base x.sort.base && nat_eq x.sort.dims 1
is_words_params _ = false

abbrev pub has_no_result : Option TypeName → Bool
has_no_result None = true
has_no_result (Some t) = false

-- `void act(String[] x)`
abbrev pub is_act : Handler → Bool
is_act h = has_no_result h.result && (bytes_eq h.name (codes "act") && is_words_params h.params)

-- the number of a behaviour's first handler `act`
abbrev pub act_in : Behavior → Option ℕ
act_in b = valid_number (position is_act (handlers_of b))

-- behaviour n with this handler; where there is no handler, what was found later
abbrev pub start_at : ℕ → Option ℕ → Option (ℕ × ℕ) → Option (ℕ × ℕ)
start_at n (Some handler) later = Some (n, handler)
start_at n None later = later

-- the first of these behaviours with a handler `act`, and its handler; they are numbered from n on, below 65,535
abbrev pub start_from : ℕ → List Behavior → Option (ℕ × ℕ)
start_from n [] = None
start_from n (b ∷ bs) = if nat_lt n RESERVED then start_at n (act_in b) (start_from (n + 1) bs) else None

-- the first behaviour with a handler `act`, and the number of this handler
unfoldable pub start_of : Program → Option (ℕ × ℕ)
start_of p = start_from 0 p.behaviors

-- the constructor runs where it has no parameters
abbrev pub without_params : Option Handler → Option Handler
without_params None = None
without_params (Some c) = if_none c.params c
  where
    if_none : List Param → Handler → Option Handler
    if_none [] h = Some h
    if_none (p ∷ ps) h = None

-- the fields of the start actor; without a behaviour, none
abbrev pub start_fields : Option Behavior → Context → OrTrap (List Value)
start_fields None r = Ok []
start_fields (Some b) r = and_then (initial_fields b r) (fields_after_constructor (without_params (constructor_of b)) [] r)

-- the start actor with these fields, or the trap of their making
abbrev pub begin_with : ℕ → ℕ → OrTrap (List Value) → Began
begin_with behavior handler (Ok fields) = began.Actor behavior handler fields
begin_with behavior handler (Err k) = began.Trap k

-- a program without a handler `act` has no start actor, which typing refuses
abbrev pub begin_at : Option (ℕ × ℕ) → Program → Began
begin_at None p = began.Trap NullTarget
begin_at (Some at) p = begin_with at.0 at.1 (start_fields (slice_get p.behaviors at.0) (constructor_context p.behaviors at.0))

-- the start actor
unfoldable pub begin : Program → Began
begin p = begin_at (start_of p) p
