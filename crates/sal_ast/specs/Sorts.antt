-- The type of an expression, as it stands in the text. To which handler a message goes, and whether a
-- join is void, depends on it. It is the right one where the expression is well typed, and says nothing
-- otherwise (`-"x"` gets `int`). `null` has no type of its own.
use Rattle.std.specs.Prelude.{ℕ, zero, suc, ◌+◌, Bool, true, false, ◌||◌, nat_lt, if◌then◌else◌, List, [], ◌∷◌, ◌++◌, map, slice_get, codes, Option, Some, None, option_map}
use Rattle.std.specs.List.{find}
use Rattle.std.specs.Str.{bytes_eq}
use Rattle.sal_value.specs.declared.value.Base.{Base}
use Rattle.sal_value.specs.declared.value.Base.TheVariants as base
use Rattle.sal_value.specs.declared.value.Sort.{Sort}
use Rattle.sal_ast.specs.declared.program.Ident.{Ident}
use Rattle.sal_ast.specs.declared.program.BaseName.{BaseName}
use Rattle.sal_ast.specs.declared.program.BaseName.TheVariants as word
use Rattle.sal_ast.specs.declared.program.TypeName.{TypeName}
use Rattle.sal_ast.specs.declared.program.Behavior.{Behavior}
use Rattle.sal_ast.specs.declared.expression.Op.{Op}
use Rattle.sal_ast.specs.declared.expression.Op.TheVariants as op
use Rattle.sal_ast.specs.declared.expression.Expr.{Expr}
use Rattle.sal_ast.specs.declared.expression.Expr.TheOpen.{Expr-F, Suffix-F, At-F, Operand-F}
use Rattle.sal_ast.specs.declared.expression.Expr.TheFolds.{fold-Expr}
use Rattle.sal_ast.specs.declared.statement.Declare.{Declare}
use Rattle.sal_ast.specs.declared.statement.ForInit.{ForInit}
use Rattle.sal_ast.specs.declared.statement.ForInit.TheVariants as init
use Rattle.sal_ast.specs.declared.statement.Aim.{Aim}
use Rattle.sal_ast.specs.declared.statement.Aim.TheVariants as aim
use Rattle.sal_ast.specs.declared.statement.Send.{Send}
use Rattle.sal_ast.specs.declared.statement.Stmt.{Stmt}
use Rattle.sal_ast.specs.declared.statement.Chain.{Chain}
use Rattle.sal_ast.specs.declared.statement.Stage.TheOpen.{Stage-F, Stmt-F, Chain-F}
use Rattle.sal_ast.specs.declared.statement.Stage.TheFolds.{fold-Stmt, fold-Chain}
use Rattle.sal_ast.specs.Members.{Field, Handler, fields_of, behavior_by_name, handlers_at}

-- ---- types

-- a type has at most 8 pairs of brackets
abbrev pub with_dims : Base → ℕ → Option Sort
with_dims b dims = if nat_lt 8 dims then None else Some (record { base = b; dims = dims })

-- a type without brackets
abbrev pub plain : Base → Option Sort
plain b = Some (record { base = b; dims = 0 })

-- the behaviour of this name
abbrev pub actor_base : List ℕ → List Behavior → Option Base
actor_base name behaviors = option_map base.Actor (behavior_by_name name behaviors)

-- what the name of a base type means, if it is known
abbrev pub base_of : BaseName → List Behavior → Option Base
base_of word.Int behaviors = Some base.Int
base_of word.Boolean behaviors = Some base.Bool
base_of word.Str behaviors = Some base.Str
base_of (word.Actor name) behaviors = actor_base name behaviors

-- the type with so many pairs of brackets
abbrev pub sort_with : Option Base → ℕ → Option Sort
sort_with None dims = None
sort_with (Some b) dims = with_dims b dims

-- the type that a type's name means
unfoldable pub type_sort : TypeName → List Behavior → Option Sort
type_sort t behaviors = sort_with (base_of t.base behaviors) t.dims

-- what an array's items are
abbrev pub item_sort : Option Sort → Option Sort
item_sort None = None
item_sort (Some s) = item_at s.base s.dims
  where
    item_at : Base → ℕ → Option Sort
    item_at b zero = None
    item_at b (suc dims) = Some (record { base = b; dims = dims })

-- the type of arrays of these
abbrev pub array_sort : Option Sort → Option Sort
array_sort None = None
array_sort (Some s) = with_dims s.base (s.dims + 1)

-- ---- what is in scope

-- a local variable, parameter or token; a token has no type
pub record Variable : Type 0 where
  pub name : List ℕ
  pub sort : Option Sort

-- the behaviours of the program, the number of the behaviour that is looked at, and its locals, oldest first
pub record Scope : Type 0 where
  pub behaviors : List Behavior
  pub mine : ℕ
  pub locals : List Variable

-- the fields of a behaviour, or none
abbrev pub fields_in : Option Behavior → List Field
fields_in None = []
fields_in (Some b) = fields_of b

-- the fields of the behaviour that is looked at
abbrev pub own_fields : Scope → List Field
own_fields s = fields_in (slice_get s.behaviors s.mine)

-- the type of a field, if there is one
abbrev pub sort_of_field : Option Field → List Behavior → Option Sort
sort_of_field None behaviors = None
sort_of_field (Some f) behaviors = type_sort f.sort behaviors

-- the type of the field of this name
unfoldable pub field_sort : List ℕ → Scope → Option Sort
field_sort name s = sort_of_field (find (λ f. bytes_eq f.name name) (own_fields s)) s.behaviors

-- the type of a local, or of the field where there is none
abbrev pub sort_of_local : Option Variable → Option Sort → Option Sort
sort_of_local None field = field
sort_of_local (Some v) field = v.sort

-- the type of the local of this name, or else of the field
unfoldable pub name_sort : List ℕ → Scope → Option Sort
name_sort name s = sort_of_local (find (λ v. bytes_eq v.name name) s.locals) (field_sort name s)

-- ---- expressions

-- a type, or none, that depends on what is in scope
abbrev pub SortInScope : Type 0
SortInScope = Scope → Option Sort

-- `String` without brackets
abbrev pub is_text_base : Base → ℕ → Bool
is_text_base base.Str zero = true
is_text_base _ _ = false

-- whether values of this type are texts
abbrev pub is_text_sort : Option Sort → Bool
is_text_sort None = false
is_text_sort (Some s) = is_text_base s.base s.dims

-- what an operator gives on operands of these types
abbrev pub operator_sort : Op → Option Sort → Option Sort → Option Sort
operator_sort op.Add a b = if is_text_sort a || is_text_sort b then plain base.Str else plain base.Int
operator_sort op.Sub a b = plain base.Int
operator_sort op.Mul a b = plain base.Int
operator_sort op.Div a b = plain base.Int
operator_sort op.Rem a b = plain base.Int
operator_sort _ a b = plain base.Bool

-- operators of one level, from left to right
abbrev pub level_sort : Option Sort → List (Op × SortInScope) → Scope → Option Sort
level_sort a [] s = a
level_sort a (p ∷ ps) s = level_sort (operator_sort p.0 a (p.1 s)) ps s

-- an index, or else `.length`
abbrev pub suffix_sort : Bool → Option Sort → Option Sort
suffix_sort true a = item_sort a
suffix_sort false a = plain base.Int

-- indexes and `.length`, from left to right
abbrev pub suffixed_sort : Option Sort → List Bool → Option Sort
suffixed_sort a [] = a
suffixed_sort a (p ∷ ps) = suffixed_sort (suffix_sort p a) ps

-- the type of each form of expression, made of the types of its parts; `null` has none
abbrev pub sort_step : Expr-F SortInScope Bool (Unit {0}) (Op × SortInScope) → SortInScope
sort_step (Expr-F.Number n at) s = plain base.Int
sort_step (Expr-F.Str text at) s = plain base.Str
sort_step (Expr-F.Bool b at) s = plain base.Bool
sort_step (Expr-F.Null at) s = None
sort_step (Expr-F.Me at) s = plain (base.Actor s.mine)
sort_step (Expr-F.Name name) s = name_sort name.text s
sort_step (Expr-F.Own at name) s = field_sort name.text s
sort_step (Expr-F.Paren at e) s = e s
sort_step (Expr-F.Neg at e) s = plain base.Int
sort_step (Expr-F.Not at e) s = plain base.Bool
sort_step (Expr-F.Level first rest) s = level_sort (first s) rest s
sort_step (Expr-F.Suffixed first rest) s = suffixed_sort (first s) rest
sort_step (Expr-F.New at behavior args place) s = sort_with (actor_base behavior.text s.behaviors) 0
sort_step (Expr-F.Make at sort size) s = type_sort sort s.behaviors
sort_step (Expr-F.ListOf at sort items) s = type_sort sort s.behaviors
sort_step (Expr-F.ByName at cast behavior name) s = sort_with (actor_base behavior.text s.behaviors) 0

-- whether it is an index
abbrev pub suffix_step : Suffix-F SortInScope Bool (Unit {0}) (Op × SortInScope) → Bool
suffix_step (Suffix-F.Index at e) = true
suffix_step (Suffix-F.Length at) = false

-- where an actor is created says nothing of its type
abbrev pub at_step : At-F SortInScope Bool (Unit {0}) (Op × SortInScope) → Unit {0}
at_step a = tt

-- an operator with the type of its right side
abbrev pub operand_step : Operand-F SortInScope Bool (Unit {0}) (Op × SortInScope) → Op × SortInScope
operand_step p = (p.op, p.value)

-- the type of an expression
unfoldable pub sort_of : Expr → SortInScope
sort_of = fold-Expr SortInScope Bool (Unit {0}) (Op × SortInScope) sort_step suffix_step at_step operand_step

-- ---- messages

-- the behaviour of an actor's type
abbrev pub behavior_of : Option Sort → Option ℕ
behavior_of None = None
behavior_of (Some s) = actor_at s.base s.dims
  where
    actor_at : Base → ℕ → Option ℕ
    actor_at (base.Actor n) zero = Some n
    actor_at _ _ = None

-- the behaviour of the actor that a message goes to; the output has none
abbrev pub target_behavior : Aim → Scope → Option ℕ
target_behavior aim.Own s = Some s.mine
target_behavior (aim.Output at) s = None
target_behavior (aim.Actor e) s = behavior_of (sort_of e s)

-- without a result, `void`
abbrev pub result_sort : Option TypeName → List Behavior → Option Sort
result_sort None behaviors = plain base.Void
result_sort (Some t) behaviors = type_sort t behaviors

-- the result of a handler; of none there is no type
abbrev pub handler_result : Option Handler → List Behavior → Option Sort
handler_result None behaviors = None
handler_result (Some h) behaviors = result_sort h.result behaviors

-- the result of the first handler of this name in the behaviour
abbrev pub declared_result : List ℕ → Option ℕ → List Behavior → Option Sort
declared_result name behavior behaviors = handler_result (find (λ h. bytes_eq h.name name) (handlers_at behaviors behavior)) behaviors

-- every actor understands `migrate`, whose result is void
abbrev pub actor_result : List ℕ → Option ℕ → List Behavior → Option Sort
actor_result name behavior behaviors = if bytes_eq name (codes "migrate") then plain base.Void else declared_result name behavior behaviors

-- what a message of this name to this target replies; the output replies nothing, which is void
abbrev pub aim_result : Aim → List ℕ → Scope → Option Sort
aim_result (aim.Output at) name s = plain base.Void
aim_result aim.Own name s = actor_result name (Some s.mine) s.behaviors
aim_result (aim.Actor e) name s = actor_result name (behavior_of (sort_of e s)) s.behaviors

-- what a message's reply is
unfoldable pub message_result : Send → SortInScope
message_result m s = aim_result m.aim m.handler.text s

-- ---- chains and joins

-- what is in scope after a statement, and the result of the first chain in it, if there is one
pub record ScopeAndResult : Type 0 where
  pub scope : Scope
  pub result : Option (Option Sort)

-- what a part does to the scope, and the first chain's result in it
abbrev pub ScopeChange : Type 0
ScopeChange = Scope → ScopeAndResult

-- the first result of two, if there is one
abbrev pub first_result : Option (Option Sort) → Option (Option Sort) → Option (Option Sort)
first_result None later = later
first_result (Some r) later = Some r

-- one more local, the newest
abbrev pub scope_with_local : List ℕ → Option Sort → Scope → Scope
scope_with_local name sort s = record s { locals = s.locals ++ record { name = name; sort = sort } ∷ [] }

-- nothing is declared, and there is no chain
abbrev pub no_change : Scope → ScopeAndResult
no_change s = record { scope = s; result = None }

-- what a part declares is out of scope after it
abbrev pub inner_change : ScopeChange → ScopeChange
inner_change m s = record { scope = s; result = (m s).result }

-- one part and then another, in the scope that the first leaves
abbrev pub change_then : ScopeChange → ScopeChange → ScopeChange
change_then m n s = record { scope = (n (m s).scope).scope; result = first_result (m s).result (n (m s).scope).result }

-- several parts, one after another
abbrev pub changes_in_order : List ScopeChange → ScopeChange
changes_in_order [] s = no_change s
changes_in_order (m ∷ ms) s = change_then m (changes_in_order ms) s

-- what stands after `else`, if there is an `else`
abbrev pub else_change : Option ScopeChange → ScopeChange
else_change None s = no_change s
else_change (Some m) s = inner_change m s

-- a declaration adds its local
abbrev pub declare_change : Declare → ScopeChange
declare_change d s = no_change (scope_with_local d.name.text (type_sort d.sort s.behaviors) s)

-- the first part of a `for`
abbrev pub for_init_change : ForInit → ScopeChange
for_init_change init.Nothing s = no_change s
for_init_change (init.Declare d) s = declare_change d s
for_init_change (init.Assign a) s = no_change s

-- the result of a join whose own chains have this result: void, or an array of it
abbrev pub join_sort : Option Sort → Option Sort
join_sort None = None
join_sort (Some s) = if is_void_base s.base then Some s else array_sort (Some s)
  where
    is_void_base : Base → Bool
    is_void_base base.Void = true
    is_void_base _ = false

-- the result of a join by that of its first own chain; without a chain there is no type
abbrev pub join_result : Option (Option Sort) → Option Sort
join_result None = None
join_result (Some r) = join_sort r

-- the result of a chain is that of its last stage
abbrev pub last_result : Option Sort → List SortInScope → Scope → Option Sort
last_result before [] s = before
last_result before (m ∷ ms) s = last_result (m s) ms s

-- the result of a stage: a message's reply, or a join's array
abbrev pub stage_sort_step : Stage-F SortInScope ScopeChange SortInScope → SortInScope
stage_sort_step (Stage-F.Message m) s = message_result m s
stage_sort_step (Stage-F.Join at body) s = join_result (changes_in_order body s).result

-- what each kind of statement adds to the scope, and its first chain's result
abbrev pub scope_change_step : Stmt-F SortInScope ScopeChange SortInScope → ScopeChange
scope_change_step (Stmt-F.Empty at) s = no_change s
scope_change_step (Stmt-F.Block at list) s = inner_change (changes_in_order list) s
scope_change_step (Stmt-F.Declare d) s = declare_change d s
scope_change_step (Stmt-F.Assign a) s = no_change s
scope_change_step (Stmt-F.If at test first second) s = inner_change (change_then (inner_change first) (else_change second)) s
scope_change_step (Stmt-F.While at test body) s = inner_change body s
scope_change_step (Stmt-F.For at first test next body) s = inner_change (change_then (for_init_change first) body) s
scope_change_step (Stmt-F.Return at value) s = no_change s
scope_change_step (Stmt-F.Token at name chain) s = no_change (scope_with_local name.text None s)
scope_change_step (Stmt-F.Chain chain passed) s = record { scope = s; result = Some (chain s) }

-- the result of a chain, made of those of its stages
abbrev pub chain_sort_step : Chain-F SortInScope ScopeChange SortInScope → SortInScope
chain_sort_step c = last_result None c.stages

-- what a statement adds to the scope, and the result of the first chain in it; the chains inside a join
-- are that join's own
unfoldable pub scope_change : Stmt → ScopeChange
scope_change = fold-Stmt SortInScope ScopeChange SortInScope stage_sort_step scope_change_step chain_sort_step

-- the result of a chain
unfoldable pub result_of : Chain → SortInScope
result_of = fold-Chain SortInScope ScopeChange SortInScope stage_sort_step scope_change_step chain_sort_step

-- whether it is `void`
abbrev pub is_void_sort : Option Sort → Bool
is_void_sort None = false
is_void_sort (Some s) = is_void_alone s.base s.dims
  where
    is_void_alone : Base → ℕ → Bool
    is_void_alone base.Void zero = true
    is_void_alone _ _ = false

-- whether there is a chain whose result is `void`
abbrev pub is_void_result : Option (Option Sort) → Bool
is_void_result None = false
is_void_result (Some r) = is_void_sort r

-- whether a join with this block is void: its own chains have no result
unfoldable pub is_void_join : List Stmt → Scope → Bool
is_void_join body s = is_void_result (changes_in_order (map scope_change body) s).result
