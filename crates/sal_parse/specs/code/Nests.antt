-- A function value that parses statements of a depth.
use Rattle.std.specs.Prelude.{ℕ, zero, suc, ◌<◌, List, Result}
use Rattle.std.specs.declared.alloc.Global.{Global}
use denote.Ref.{MutBor}
use Rattle.sal_ast.specs.declared.statement.Stmt.{Stmt}
use Rattle.sal_grammar.specs.Parsers.{Parser, too_deep}
use Rattle.sal_grammar.specs.Statements.{stmt, one_less}
use Rattle.sal_grammar.specs.Tokens.{Token}
use Rattle.sal_reader.specs.declared.stop.Stop.{Stop}
use Rattle.sal_reader.specs.Reads.{Reads}

pub record Nests (depth : ℕ) (pre : Global → MutBor (List Token) → ℕ → Type 0)
    (post : Global → MutBor (List Token) → ℕ → Result Stmt Stop → MutBor (List Token) → Type 0) : Type 0 where
  pub callable : (alloc : Global) (old : MutBor (List Token)) → pre alloc old depth
  pub reads : (alloc : Global) (old new : MutBor (List Token)) (r : Result Stmt Stop) → post alloc old depth r new
      → Reads (stmt depth old.now) r new.now

-- the same one construct deeper, where the depth allows one
abbrev pub Opens : (depth : ℕ) → (Global → MutBor (List Token) → ℕ → Type 0)
    → (Global → MutBor (List Token) → ℕ → Result Stmt Stop → MutBor (List Token) → Type 0) → Type 0
Opens depth pre post = 0 < depth → Nests (one_less depth) pre post

-- a statement one construct deeper
abbrev pub inner : ℕ → Parser Stmt
inner zero = too_deep
inner (suc d) = stmt d
