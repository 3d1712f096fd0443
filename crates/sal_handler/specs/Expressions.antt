-- What an expression gives, made of what its parts give, from left to right.
use Rattle.std.specs.Prelude.{ℕ, ◌+◌, nat_lt, if◌then◌else◌, List, [], ◌∷◌, ◌++◌, length, map, Option, Some, None, Ok, Err}
use Rattle.sal_value.specs.declared.name.Uan.{Uan}
use Rattle.sal_value.specs.declared.name.Ual.{Ual}
use Rattle.sal_value.specs.declared.name.Name.TheVariants as name
use Rattle.sal_value.specs.declared.value.Value.{Value}
use Rattle.sal_value.specs.declared.value.Value.TheVariants.{Bool as Truth, Str, Array, Ref, Null}
use Rattle.sal_value.specs.Names.{uan_of, ual_of}
use Rattle.sal_ast.specs.declared.expression.Op.{Op}
use Rattle.sal_ast.specs.declared.expression.Expr.{Expr}
use Rattle.sal_ast.specs.declared.expression.Suffix.{Suffix}
use Rattle.sal_ast.specs.declared.expression.At.{At}
use Rattle.sal_ast.specs.declared.expression.Operand.{Operand}
use Rattle.sal_ast.specs.declared.expression.Expr.TheOpen.{Expr-F, Suffix-F, At-F, Operand-F}
use Rattle.sal_ast.specs.declared.expression.Expr.TheFolds.{fold-Expr, fold-Suffix, fold-At, fold-Operand}
use Rattle.sal_ast.specs.Members.{behavior_by_name}
use Rattle.sal_mail.specs.declared.fault.Trap.TheVariants.{TooManyMessages, BadName, BadLocator}
use Rattle.sal_handler.specs.Evaluation.{OrTrap, Eval, ◌>>=◌, ◌>>◌, pure, lift, require}
use Rattle.sal_handler.specs.Values.{is_true, int_of, text_of, within_limits, operate, short_circuits, negate_int, negate_bool, literal_value, item, length_of, new_array}
use Rattle.sal_handler.specs.Scopes.{Context, read_variable, read_field, take_serial, fresh_name}
use Rattle.sal_handler.specs.declared.constants.TheConstants.{MOST_MADE}

-- What an expression does, in a context. These four are the carriers of one fold.
abbrev pub Denotation : Type 0
Denotation = Context → Eval Value

-- an operator and its right side
abbrev pub OperandDenotation : Type 0
OperandDenotation = Op × Denotation

-- an index, or none for `.length`
abbrev pub SuffixDenotation : Type 0
SuffixDenotation = Option Denotation

-- the texts of `at`
abbrev pub LocationDenotation : Type 0
LocationDenotation = Denotation × Option Denotation

-- ---- parts

-- the values of all, after those that are done
abbrev pub eval_all : List Denotation → Context → List Value → Eval (List Value)
eval_all [] r done = pure done
eval_all (e ∷ es) r done = e r >>= (λ v. eval_all es r (done ++ v ∷ []))

-- an operator after this value: its right side is evaluated, unless the value decides by itself
abbrev pub apply_operator : OperandDenotation → Value → Denotation
apply_operator p v r = if short_circuits p.0 v then pure (Truth (is_true v)) else (p.1 r >>= (λ w. lift (operate p.0 v w)))

-- operators of one rank after this value, from left to right
abbrev pub apply_operators : Value → List OperandDenotation → Denotation
apply_operators v [] r = pure v
apply_operators v (p ∷ ps) r = apply_operator p v r >>= (λ w. apply_operators w ps r)

-- each index is tested before the next is evaluated
abbrev pub apply_suffix : SuffixDenotation → Value → Denotation
apply_suffix (Some e) v r = e r >>= (λ i. lift (item v (int_of i)))
apply_suffix None v r = pure (length_of v)

-- indexes and `.length` after this value, from left to right
abbrev pub apply_suffixes : Value → List SuffixDenotation → Denotation
apply_suffixes v [] r = pure v
apply_suffixes v (p ∷ ps) r = apply_suffix p v r >>= (λ w. apply_suffixes w ps r)

-- the value of an expression that may be missing
abbrev pub eval_option : Option Denotation → Context → Eval (Option Value)
eval_option None r = pure None
eval_option (Some e) r = e r >>= (λ v. pure (Some v))

-- ---- names and locators

-- the name, or the trap `bad-name` where there is none
abbrev pub good_name : Option Uan → OrTrap Uan
good_name (Some u) = Ok u
good_name None = Err BadName

-- the name that a text writes
abbrev pub name_from : Value → Eval Uan
name_from v = lift (good_name (uan_of (text_of v)))

-- the locator, or the trap `bad-locator` where there is none
abbrev pub good_locator : Option Ual → OrTrap Ual
good_locator (Some l) = Ok l
good_locator None = Err BadLocator

-- the locator that a text writes
abbrev pub locator_from : Option Value → Eval (Option Ual)
locator_from None = pure None
locator_from (Some v) = lift (good_locator (ual_of (text_of v))) >>= (λ l. pure (Some l))

-- ---- new actors

-- what makes the fields of a new actor, of the number of its behaviour and of the arguments of `new`
abbrev pub FieldMaker : Type 0
FieldMaker = ℕ → List Value → OrTrap (List Value)

-- at most 1,024 new actors, with a name or without
abbrev pub room_for_actor : Eval (Unit {0})
room_for_actor = λ s. require (nat_lt (length s.actors + length s.creations) MOST_MADE) TooManyMessages s

-- an actor with these fields is made, under the next of the names for new actors; gives the reference to it
abbrev pub add_actor : ℕ → Context → List Value → Eval Value
add_actor behavior r fields = λ s.
    Ok (Ref (fresh_name r.fresh (length s.actors)), record s { actors = s.actors ++ record { name = fresh_name r.fresh (length s.actors); behavior = behavior; fields = fields } ∷ [] })

-- the new actor takes its name after its initialisers and constructor ran
abbrev pub create : FieldMaker → ℕ → List Value → Context → Eval Value
create make behavior args r = room_for_actor >> (lift (make behavior args) >>= add_actor behavior r)

-- a creation of this name is added, with the number n; gives the reference to the name
abbrev pub add_creation : ℕ → Uan → Option Ual → List Value → ℕ → Eval Value
add_creation behavior u place fields n = λ s.
    Ok (Ref (name.Uan u), record s { creations = s.creations ++ record { serial = n; name = u; place = place; behavior = behavior; fields = fields } ∷ [] })

-- `at` tests the count, the name and the locator, then the actor is made, and the creation takes its number
abbrev pub create_at : FieldMaker → ℕ → List Value → Value → Option Value → Eval Value
create_at make behavior args uan ual =
    room_for_actor >> (name_from uan >>= (λ u. locator_from ual >>= (λ place. lift (make behavior args) >>= (λ fields.
    take_serial >>= add_creation behavior u place fields))))

-- `new` without `at`: the new actor; null in initialisers and constructors, and where no behaviour has the name
abbrev pub create_by : Option FieldMaker → Option ℕ → List Value → Context → Eval Value
create_by (Some make) (Some behavior) args r = create make behavior args r
create_by _ _ args r = pure Null

-- the same of `new .. at`; where it gives null, the texts are not tested
abbrev pub create_at_by : Option FieldMaker → Option ℕ → List Value → Value → Option Value → Eval Value
create_at_by (Some make) (Some behavior) args uan ual = create_at make behavior args uan ual
create_at_by _ _ args uan ual = pure Null

-- the arguments, the texts of `at`, then the new actor; null where none may be made or no behaviour has this name
abbrev pub new : List ℕ → List Denotation → Option LocationDenotation → Denotation
new behavior args None r = eval_all args r [] >>= (λ vs. create_by r.make (behavior_by_name behavior r.behaviors) vs r)
new behavior args (Some texts) r =
    eval_all args r [] >>= (λ vs. texts.0 r >>= (λ uan. eval_option texts.1 r >>= (λ ual.
    create_at_by r.make (behavior_by_name behavior r.behaviors) vs uan ual)))

-- ---- expressions

-- what an expression does, made of what its parts do
abbrev pub expr_step : Expr-F Denotation SuffixDenotation LocationDenotation OperandDenotation → Denotation
expr_step (Expr-F.Number n at) r = pure (literal_value n)
expr_step (Expr-F.Str text at) r = lift (within_limits (Str text))
expr_step (Expr-F.Bool b at) r = pure (Truth b)
expr_step (Expr-F.Null at) r = pure Null
expr_step (Expr-F.Me at) r = pure (Ref r.me)
expr_step (Expr-F.Name name) r = λ s. Ok (read_variable name.text r s, s)
expr_step (Expr-F.Own at name) r = λ s. Ok (read_field name.text r s, s)
expr_step (Expr-F.Paren at e) r = e r
expr_step (Expr-F.Neg at e) r = e r >>= (λ v. pure (negate_int v))
expr_step (Expr-F.Not at e) r = e r >>= (λ v. pure (negate_bool v))
expr_step (Expr-F.Level first rest) r = first r >>= (λ v. apply_operators v rest r)
expr_step (Expr-F.Suffixed first rest) r = first r >>= (λ v. apply_suffixes v rest r)
expr_step (Expr-F.New at behavior args place) r = new behavior.text args place r
expr_step (Expr-F.Make at sort size) r = size r >>= (λ v. lift (new_array sort (int_of v)))
expr_step (Expr-F.ListOf at sort items) r = eval_all items r [] >>= (λ vs. lift (within_limits (Array vs)))
expr_step (Expr-F.ByName at cast behavior text) r = text r >>= (λ v. name_from v >>= (λ u. pure (Ref (name.Uan u))))

-- an index stands for what its expression does, and `.length` for none
abbrev pub suffix_step : Suffix-F Denotation SuffixDenotation LocationDenotation OperandDenotation → SuffixDenotation
suffix_step (Suffix-F.Index at e) = Some e
suffix_step (Suffix-F.Length at) = None

-- what the text of the name does, and that of the locator, if there is one
abbrev pub at_step : At-F Denotation SuffixDenotation LocationDenotation OperandDenotation → LocationDenotation
at_step a = (a.uan, a.ual)

-- the operator, and what its right side does
abbrev pub operand_step : Operand-F Denotation SuffixDenotation LocationDenotation OperandDenotation → OperandDenotation
operand_step p = (p.op, p.value)

-- what an expression gives
unfoldable pub eval : Expr → Denotation
eval = fold-Expr Denotation SuffixDenotation LocationDenotation OperandDenotation expr_step suffix_step at_step operand_step

-- what an index does, or none for `.length`
unfoldable pub suffix : Suffix → SuffixDenotation
suffix = fold-Suffix Denotation SuffixDenotation LocationDenotation OperandDenotation expr_step suffix_step at_step operand_step

-- what the texts of `at` do
unfoldable pub location : At → LocationDenotation
location = fold-At Denotation SuffixDenotation LocationDenotation OperandDenotation expr_step suffix_step at_step operand_step

-- an operator, and what its right side does
unfoldable pub operand : Operand → OperandDenotation
operand = fold-Operand Denotation SuffixDenotation LocationDenotation OperandDenotation expr_step suffix_step at_step operand_step

-- what each of these expressions gives
abbrev pub evals : List Expr → List Denotation
evals = map eval
