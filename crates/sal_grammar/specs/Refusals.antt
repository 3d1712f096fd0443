-- Which tokens are a program, and where and why others are refused: over all regular trees and what begins their spellings.
use Rattle.std.specs.Prelude.{◌≡◌, ℕ, suc, ◌≤◌, ◌<◌, true, List, [], ◌∷◌, ◌++◌, length, take, slice_get, Option, Some, None}
use Rattle.sal_ast.specs.declared.program.Program.{Program}
use Rattle.sal_ast.specs.Brackets.{TokenRole, Opens, Closes, Waits, Keeps, kind_role}
use Rattle.sal_ast.specs.Depth.{depth}
use Rattle.sal_ast.specs.Regular.{is_regular}
use Rattle.sal_ast.specs.Spell.{TreeToken, TreeTokens, spell}
use Rattle.sal_grammar.specs.declared.reason.ParseRule.{ParseRule}
use Rattle.sal_grammar.specs.declared.reason.ParseRule.TheVariants.{P1, P2, P3}
use Rattle.sal_grammar.specs.Tokens.{Token, Lexemes}

abbrev pub IsPlace : Option ℕ → ℕ → Type 0
IsPlace None at = Unit {0}
IsPlace (Some place) at = place ≡ at

-- a tree's token stands in the text: with its kind and text, and at its place where the tree holds one
pub record Stands (p : TreeToken) (t : Token) : Type 0 where
  pub kind : p.kind ≡ t.kind
  pub text : p.text ≡ t.text
  pub place : IsPlace p.at t.at

-- the tokens are those of a tree, one by one
abbrev pub Spells : TreeTokens → List Token → Type 0
Spells [] [] = Unit {0}
Spells [] (t ∷ ts) = ⊥
Spells (p ∷ ps) [] = ⊥
Spells (p ∷ ps) (t ∷ ts) = Stands p t × Spells ps ts

-- a regular tree of at most this depth spells these tokens of the language with the same places
pub record IsProgram (most : ℕ) (p : Program) (tokens : List Token) : Type 0 where
  pub lexemes : Lexemes tokens
  pub regular : is_regular p ≡ true
  pub fits : depth p ≤ most
  pub spells : Spells (spell p) tokens

-- such tokens begin so
pub record Begins {A : Type 0} (W : A → List Token → Type 0) (front : List Token) : Type 0 where
  pub item : A
  pub more : List Token
  pub holds : W item (front ++ more)

-- By P1 token k is refused where no regular tree of any depth goes on with it, else by P3; by P2 the end is.
abbrev pub IsRule : ParseRule → List Token → ℕ → Type 0
IsRule P1 tokens k = (k < length tokens) × ((most : ℕ) → Begins (IsProgram most) (take (suc k) tokens) → ⊥)
IsRule P2 tokens k = k ≡ length tokens
IsRule P3 tokens k = (k < length tokens) × ((most : ℕ) × Begins (IsProgram most) (take (suc k) tokens))

-- the tokens are no program, and k is the greatest number of them that begin one
pub record Refuses (tokens : List Token) (rule : ParseRule) (k : ℕ) : Type 0 where
  pub none : (p : Program) → IsProgram 64 p tokens → ⊥
  pub inside : k ≤ length tokens
  pub begins : Begins (IsProgram 64) (take k tokens)
  pub greatest : (n : ℕ) → n ≤ length tokens → Begins (IsProgram 64) (take n tokens) → n ≤ k
  pub reason : IsRule rule tokens k

-- ---- places

-- the byte of token k, and of the end the text's length
abbrev pub place_or : ℕ → Option Token → ℕ
place_or size None = size
place_or size (Some t) = t.at

abbrev pub place_of : ℕ → List Token → ℕ → ℕ
place_of size tokens k = place_or size (slice_get tokens k)

abbrev pub without_first : List ℕ → List ℕ
without_first [] = []
without_first (at ∷ places) = places

abbrev pub opened_by : TokenRole → ℕ → List ℕ → List ℕ
opened_by (Opens b) at places = at ∷ places
opened_by (Closes b) at places = without_first places
opened_by Waits at places = places
opened_by Keeps at places = places

-- the brackets that are open after the tokens, the innermost first, where these were open before
abbrev pub open_after : List ℕ → List Token → List ℕ
open_after places [] = places
open_after places (t ∷ ts) = open_after (opened_by (kind_role t.kind t.text) t.at places) ts

abbrev pub first_place : List ℕ → Option ℕ
first_place [] = None
first_place (at ∷ places) = Some at

-- the innermost bracket that the first k tokens open and don't close
abbrev pub bracket_before : List Token → ℕ → Option ℕ
bracket_before tokens k = first_place (open_after [] (take k tokens))
