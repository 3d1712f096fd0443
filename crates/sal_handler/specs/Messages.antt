-- What one message stage does.
use Rattle.std.specs.Prelude.{ℕ, pos, ◌==◌, nat_lt, if◌then◌else◌, List, [], ◌∷◌, ◌++◌, length, codes, Option, Some, None, Ok}
use Rattle.std.specs.List.{list_any}
use Rattle.std.specs.Str.{bytes_eq}
use Rattle.sal_value.specs.declared.value.Value.{Value, out-Value}
use Rattle.sal_value.specs.declared.value.Value.TheOpen.{Value-F}
use Rattle.sal_value.specs.declared.value.Value.TheVariants.{Ref, Null}
use Rattle.sal_ast.specs.declared.program.Ident.{Ident}
use Rattle.sal_ast.specs.declared.expression.Expr.{Expr, out-Expr}
use Rattle.sal_ast.specs.declared.expression.Suffix.{Suffix}
use Rattle.sal_ast.specs.declared.expression.At.{At}
use Rattle.sal_ast.specs.declared.expression.Operand.{Operand}
use Rattle.sal_ast.specs.declared.expression.Expr.TheOpen.{Expr-F}
use Rattle.sal_ast.specs.declared.statement.Send.{Send}
use Rattle.sal_ast.specs.declared.statement.Arg.{Arg}
use Rattle.sal_ast.specs.declared.statement.Arg.TheVariants as arg
use Rattle.sal_ast.specs.declared.statement.Aim.{Aim}
use Rattle.sal_ast.specs.declared.statement.Aim.TheVariants as aim
use Rattle.sal_ast.specs.declared.statement.Property.{Property}
use Rattle.sal_ast.specs.declared.statement.Property.TheVariants as property
use Rattle.sal_ast.specs.Members.{handler_by_name, handlers_at}
use Rattle.sal_ast.specs.Sorts.{target_behavior}
use Rattle.sal_mail.specs.declared.fault.Trap.TheVariants.{NullTarget, BadDelay}
use Rattle.sal_mail.specs.declared.message.Target.{Target}
use Rattle.sal_mail.specs.declared.message.Target.TheVariants as target
use Rattle.sal_mail.specs.declared.message.Piece.{Piece}
use Rattle.sal_mail.specs.declared.message.Piece.TheVariants as piece
use Rattle.sal_mail.specs.declared.message.Reply.{Reply}
use Rattle.sal_mail.specs.declared.message.Reply.TheVariants as reply
use Rattle.sal_mail.specs.declared.message.Message.{Message}
use Rattle.sal_handler.specs.declared.state.End.{End}
use Rattle.sal_handler.specs.declared.state.End.TheVariants as end
use Rattle.sal_handler.specs.declared.state.EnclosingJoin.{EnclosingJoin}
use Rattle.sal_handler.specs.declared.state.State.{State}
use Rattle.sal_handler.specs.Evaluation.{Eval, ◌>>=◌, pure, trap}
use Rattle.sal_handler.specs.Scopes.{Context, scope_of, token_named, take_limited_serial, take_slot}
use Rattle.sal_handler.specs.Expressions.{eval}
use Rattle.sal_mail.specs.declared.constants.TheConstants.{OUTPUT, PRINT, PRINTLN, MIGRATE}
use Rattle.sal_handler.specs.declared.constants.TheConstants.{LONGEST_DELAY, NO_NUMBER}

-- ---- target, arguments and delay, in the order of the text

-- none stands for the output
abbrev pub eval_aim : Aim → Context → Eval (Option Value)
eval_aim aim.Own r = pure (Some (Ref r.me))
eval_aim (aim.Output at) r = pure None
eval_aim (aim.Actor e) r = eval e r >>= (λ v. pure (Some v))

-- the name that an expression is, if it is nothing but a name
abbrev pub name_alone : Expr-F Expr Suffix At Operand → Option Ident
name_alone (Expr-F.Name name) = Some name
name_alone _ = None

-- the number that the token of this name holds, if there is a name and it is a token's
abbrev pub token_by : Option Ident → State → Option ℕ
token_by None s = None
token_by (Some name) s = token_named name.text s

-- a whole argument that is a token's name is that token; any other expression is none
unfoldable pub token_of : Expr → State → Option ℕ
token_of e s = token_by (name_alone (out-Expr e)) s

-- an argument: the token with this number, or else the value of the expression
abbrev pub piece_by : Option ℕ → Expr → Context → Eval Piece
piece_by (Some n) e r = pure (piece.Token n)
piece_by None e r = eval e r >>= (λ v. pure (piece.Known v))

-- `token` is the reply of the stage before; in a chain's first stage, which typing forbids, it is null
abbrev pub piece_before : Option ℕ → Piece
piece_before (Some n) = piece.Token n
piece_before None = piece.Known Null

-- an argument: `token`, or the token that the expression is, or else the value of the expression
abbrev pub piece_of : Arg → Context → Option ℕ → Eval Piece
piece_of (arg.Token at) r before = pure (piece_before before)
piece_of (arg.Expr e) r before = λ s. piece_by (token_of e s) e r s

-- the arguments, after those that are done
abbrev pub eval_args : List Arg → Context → Option ℕ → List Piece → Eval (List Piece)
eval_args [] r before done = pure done
eval_args (a ∷ more) r before done = piece_of a r before >>= (λ p. eval_args more r before (done ++ p ∷ []))

-- the value of `delay`, if there is one; of several all are evaluated, and the last one counts
abbrev pub eval_delay : List Property → Option Value → Context → Eval (Option Value)
eval_delay [] last r = pure last
eval_delay (property.Delay at time ∷ more) last r = eval time r >>= (λ v. eval_delay more (Some v) r)
eval_delay (property.WaitFor at names ∷ more) last r = eval_delay more last r

-- the actor that a reference refers to, or none where the value is null or no reference
abbrev pub target_in : Value-F Value → Option Target
target_in (Value-F.Ref n) = Some (target.Actor n)
target_in _ = None

-- without a value the output; else the actor that the value refers to, or none where it is no reference
abbrev pub target_of : Option Value → Option Target
target_of None = Some target.Output
target_of (Some v) = target_in (out-Value v)

-- a delay of 0 to 86,400,000 ms, or none where the value is no such int
abbrev pub delay_in : Value-F Value → Option ℕ
delay_in (Value-F.Int (pos n)) = if nat_lt LONGEST_DELAY n then None else Some n
delay_in _ = None

-- the delay: 0 without a value, else that of the value
abbrev pub delay_of : Option Value → Option ℕ
delay_of None = Some 0
delay_of (Some v) = delay_in (out-Value v)

-- ---- what it waits for

-- the number alone, if there is one
abbrev pub option_serials : Option ℕ → List ℕ
option_serials None = []
option_serials (Some n) = n ∷ []

-- the numbers of the tokens with these names, which are waited for; a name that is no token's is left out
abbrev pub token_serials : List Ident → State → List ℕ
token_serials [] s = []
token_serials (name ∷ names) s = option_serials (token_named name.text s) ++ token_serials names s

-- the numbers that a `waitfor` waits for; a `delay` waits for none
abbrev pub property_serials : Property → State → List ℕ
property_serials (property.Delay at time) s = []
property_serials (property.WaitFor at names) s = token_serials names s

-- the numbers that all `waitfor` of a message wait for, in the order of the text
abbrev pub waitfor_serials : List Property → State → List ℕ
waitfor_serials [] s = []
waitfor_serials (p ∷ more) s = property_serials p s ++ waitfor_serials more s

-- the stages directly before the joins whose blocks hold the message, from the innermost outwards
abbrev pub serials_before_joins : List EnclosingJoin → List ℕ
serials_before_joins [] = []
serials_before_joins (i ∷ is) = option_serials i.before ++ serials_before_joins is

-- of repeats the first one stays
abbrev pub add_if_new : List ℕ → ℕ → List ℕ
add_if_new done n = if list_any (λ m. m == n) done then done else done ++ n ∷ []

-- the numbers after those that are done, where of repeats the first one stays
abbrev pub add_new : List ℕ → List ℕ → List ℕ
add_new done [] = done
add_new done (n ∷ ns) = add_new (add_if_new done n) ns

-- the numbers of the `waitfor` tokens, then of the stage before, then of the stages before the joins around
unfoldable pub after_of : List Property → Option ℕ → List EnclosingJoin → State → List ℕ
after_of properties before within s = add_new (add_new (add_new [] (waitfor_serials properties s)) (option_serials before)) (serials_before_joins within)

-- ---- to whom the reply is owed

-- to the next slot of the innermost join; outside of joins to nobody
abbrev pub slot_reply : List EnclosingJoin → Context → Eval Reply
slot_reply [] r = pure reply.Nobody
slot_reply (i ∷ is) r = take_slot >>= (λ n. pure (reply.Place r.me i.join n))

-- to whom the stage with this number owes its reply
abbrev pub reply_of_stage : End → Context → ℕ → Eval Reply
reply_of_stage end.Nobody r n = pure reply.Nobody
reply_of_stage end.Token r n = pure (reply.Tok r.me n)
reply_of_stage end.Place r n = slot_reply r.within r
reply_of_stage end.Caller r n = pure r.reply

-- ---- to which handler it goes

-- the number of a behaviour or handler, or the one that stands for none
abbrev pub or_no_number : Option ℕ → ℕ
or_no_number (Some n) = n
or_no_number None = NO_NUMBER

-- to which handler a message goes: the number of its behaviour, and its own number there
pub record HandlerId : Type 0 where
  pub behavior : ℕ
  pub handler : ℕ

-- `println` is handler 1 of the output, whose behaviour is 65,535; any other name counts as `print`, handler 0
abbrev pub output_handler_id : List ℕ → HandlerId
output_handler_id name = record { behavior = OUTPUT; handler = if bytes_eq name (codes "println") then PRINTLN else PRINT }

-- Every actor understands `migrate`, handler 65,535 of behaviour 65,535. Other handlers are those of the
-- behaviour that the target has in the text.
abbrev pub actor_handler_id : List ℕ → Option ℕ → Context → HandlerId
actor_handler_id name behavior r =
    if bytes_eq name (codes "migrate") then record { behavior = OUTPUT; handler = MIGRATE }
    else record { behavior = or_no_number behavior; handler = or_no_number (handler_by_name name (handlers_at r.behaviors behavior)) }

-- to which handler of the output or of an actor a message goes, by its name and the target's behaviour
abbrev pub aim_handler_id : Aim → List ℕ → Option ℕ → Context → HandlerId
aim_handler_id (aim.Output at) name behavior r = output_handler_id name
aim_handler_id aim.Own name behavior r = actor_handler_id name behavior r
aim_handler_id (aim.Actor e) name behavior r = actor_handler_id name behavior r

-- the handler that a message goes to is fixed in the text, by its name and the type of the target
unfoldable pub handler_id_of : Send → Context → State → HandlerId
handler_id_of m r s = aim_handler_id m.aim m.handler.text (target_behavior m.aim (scope_of r s)) r

-- ---- the stage

-- the message of a stage, with the number n: the text fixes its handler, and `after_of` says what it waits for
abbrev pub message_with : Send → Context → Option ℕ → Target → List Piece → ℕ → ℕ → Reply → State → Message
message_with m r before to args delay n owes s = record {
  maker = r.me;
  serial = n;
  target = to;
  behavior = (handler_id_of m r s).behavior;
  handler = (handler_id_of m r s).handler;
  args = args;
  after = after_of m.properties before r.within s;
  delay = delay;
  reply = owes;
}

-- the number of one more message, or a trap where it would be the 1,025th
abbrev pub take_message_serial : Eval ℕ
take_message_serial = λ s. take_limited_serial (length s.messages) s

-- the stage's message, with the number n, is the newest of those that the handler sends; gives n
abbrev pub send_message : Send → Context → Option ℕ → Target → List Piece → ℕ → ℕ → Reply → Eval ℕ
send_message m r before to args delay n owes = λ s. Ok (n, record s { messages = s.messages ++ message_with m r before to args delay n owes s ∷ [] })

-- null targets, bad delays and too many messages are tested in this order; then the message takes its number
abbrev pub send_if_valid : Send → Context → Option ℕ → End → Option Target → List Piece → Option ℕ → Eval ℕ
send_if_valid m r before last None args delay = trap NullTarget
send_if_valid m r before last (Some to) args None = trap BadDelay
send_if_valid m r before last (Some to) args (Some delay) = take_message_serial >>= (λ n. reply_of_stage last r n >>= (λ owes. send_message m r before to args delay n owes))

-- A message stage after the stage of this number evaluates its target, its arguments and its delay, and is
-- sent. It gives its number.
unfoldable pub message : Send → Context → Option ℕ → End → Eval ℕ
message m r before last =
    eval_aim m.aim r >>= (λ to. eval_args m.args r before [] >>= (λ args. eval_delay m.properties None r >>= (λ delay.
    send_if_valid m r before last (target_of to) args (delay_of delay))))
