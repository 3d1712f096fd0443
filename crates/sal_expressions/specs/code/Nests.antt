-- A function value that parses unary expressions, as `F.pre f` and `F.post f` tell it.
use Rattle.std.specs.Prelude.{ℕ, ◌<◌, List, Result}
use Rattle.std.specs.declared.alloc.Global.{Global}
use denote.Ref.{MutBor}
use Rattle.sal_ast.specs.declared.expression.Expr.{Expr}
use Rattle.sal_grammar.specs.Expressions.{unary}
use Rattle.sal_grammar.specs.Statements.{one_less}
use Rattle.sal_grammar.specs.Tokens.{Token}
use Rattle.sal_reader.specs.declared.stop.Stop.{Stop}
use Rattle.sal_reader.specs.Reads.{Reads}

-- which calls of it may be made
abbrev pub Pre : Type 1
Pre = Global → MutBor (List Token) → ℕ → Type 0

-- what a call gives and leaves
abbrev pub Post : Type 1
Post = Global → MutBor (List Token) → ℕ → Result Expr Stop → MutBor (List Token) → Type 0

-- at this depth it may be called, and it is the parser of unary expressions
pub record Nests (depth : ℕ) (pre : Pre) (post : Post) : Type 0 where
  pub callable : (alloc : Global) (old : MutBor (List Token)) → pre alloc old depth
  pub reads : (alloc : Global) (old new : MutBor (List Token)) (r : Result Expr Stop)
      → post alloc old depth r new → Reads (unary depth old.now) r new.now

-- the same one construct deeper, where the depth allows one
abbrev pub Opens : ℕ → Pre → Post → Type 0
Opens depth pre post = 0 < depth → Nests (one_less depth) pre post
