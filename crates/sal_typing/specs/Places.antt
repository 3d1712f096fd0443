-- Where the statements of a body stand, and what is known there.
use Rattle.std.specs.Prelude.{◌≡◌, ℕ, true, List, [], ◌∷◌, slice_get, Option, Some}
use Rattle.sal_ast.specs.declared.program.Behavior.{Behavior}
use Rattle.sal_ast.specs.declared.program.Program.{Program}
use Rattle.sal_ast.specs.declared.expression.Expr.{Expr}
use Rattle.sal_ast.specs.declared.statement.Assign.{Assign}
use Rattle.sal_ast.specs.declared.statement.ForInit.{ForInit}
use Rattle.sal_ast.specs.declared.statement.Chain.{Chain}
use Rattle.sal_ast.specs.declared.statement.Stmt.{Stmt}
use Rattle.sal_ast.specs.declared.statement.Stmt.TheVariants as t
use Rattle.sal_ast.specs.declared.statement.Stage.TheVariants as g
use Rattle.sal_ast.specs.declared.program.Ident.{Ident}
use Rattle.sal_ast.specs.Members.{Handler, handlers_of, constructor_of}
use Rattle.sal_ast.specs.Regular.{form_of}
use Rattle.sal_sorts.specs.declared.sort.Base.TheVariants.{Void}
use Rattle.sal_sorts.specs.declared.sort.Sort.{Sort}
use Rattle.sal_sorts.specs.declared.variable.MemberKind.TheVariants as kind
use Rattle.sal_sorts.specs.Sorts.{plain, sort_of_result}
use Rattle.sal_sorts.specs.Environments.{Environment}
use Rattle.sal_types.specs.Statements.{join_environment}
use Rattle.sal_types.specs.Programs.{IsAccepted}
use Rattle.sal_typing.specs.Known.{IsKnown}
use Rattle.sal_typing.specs.StatementParts.{HasResults, after_stmt, after_init}
use Rattle.sal_typing.specs.Members.{with_params, environment_of}

-- The statement x is one of these statements, or stands in one of them. Where the first of them stands in `env`, it stands in `e`.
pub data StandsIn : List Stmt → Environment → Stmt → Environment → Type 0 where
  Here : (x : Stmt) (sts : List Stmt) (env : Environment) → StandsIn (x ∷ sts) env x env
  Later : (st : Stmt) (sts : List Stmt) (env : Environment) (x : Stmt) (e : Environment) → StandsIn sts (after_stmt env st) x e → StandsIn (st ∷ sts) env x e
  InBlock : (at : ℕ) (list sts : List Stmt) (env : Environment) (x : Stmt) (e : Environment) → StandsIn list env x e → StandsIn (t.Block at list ∷ sts) env x e
  InThen : (at : ℕ) (test : Expr) (first : Stmt) (second : Option Stmt) (sts : List Stmt) (env : Environment) (x : Stmt) (e : Environment)
      → StandsIn (first ∷ []) env x e → StandsIn (t.If at test first second ∷ sts) env x e
  InElse : (at : ℕ) (test : Expr) (first second : Stmt) (sts : List Stmt) (env : Environment) (x : Stmt) (e : Environment)
      → StandsIn (second ∷ []) env x e → StandsIn (t.If at test first (Some second) ∷ sts) env x e
  InWhile : (at : ℕ) (test : Expr) (body : Stmt) (sts : List Stmt) (env : Environment) (x : Stmt) (e : Environment)
      → StandsIn (body ∷ []) env x e → StandsIn (t.While at test body ∷ sts) env x e
  InFor : (at : ℕ) (first : ForInit) (test : Option Expr) (next : Option Assign) (body : Stmt) (sts : List Stmt) (env : Environment) (x : Stmt) (e : Environment)
      → StandsIn (body ∷ []) (after_init env first) x e → StandsIn (t.For at first test next body ∷ sts) env x e
  InToken : (at : ℕ) (name : Ident) (chain : Chain) (sts : List Stmt) (k place : ℕ) (body : List Stmt) (env : Environment) (x : Stmt) (e : Environment)
      → slice_get chain.stages k ≡ Some (g.Join place body) → StandsIn body (join_environment env) x e → StandsIn (t.Token at name chain ∷ sts) env x e
  InChain : (chain : Chain) (passed : Option ℕ) (sts : List Stmt) (k place : ℕ) (body : List Stmt) (env : Environment) (x : Stmt) (e : Environment)
      → slice_get chain.stages k ≡ Some (g.Join place body) → StandsIn body (join_environment env) x e → StandsIn (t.Chain chain passed ∷ sts) env x e

-- a statement is typed where it stands, in the behaviour with this number
pub record IsTypedThere (x : Stmt) (e : Environment) (mine : ℕ) : Type 0 where
  pub known : IsKnown e mine
  pub regular : (form_of x).regular ≡ true
  pub results : List Sort
  pub typed : HasResults e x results

-- Wherever a statement of a typed program stands, it is typed; each name in scope there stands for one thing, whose type is known.
abbrev pub StatementsAreTypedThere : Type 0
StatementsAreTypedThere =
    (p : Program) → IsAccepted p → (n : ℕ) (b : Behavior) → slice_get p.behaviors n ≡ Some b
    → ((k : ℕ) (h : Handler) → slice_get (handlers_of b) k ≡ Some h → (x : Stmt) (e : Environment)
    → StandsIn h.body (with_params (environment_of p b kind.Handler (sort_of_result h.result)) h.params) x e → IsTypedThere x e n)
    × ((c : Handler) → constructor_of b ≡ Some c → (x : Stmt) (e : Environment)
    → StandsIn c.body (with_params (environment_of p b kind.Constructor (plain Void)) c.params) x e → IsTypedThere x e n)
