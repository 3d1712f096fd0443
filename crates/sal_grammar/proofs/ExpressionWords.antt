-- The words of expressions: what the parser of expressions reads.
use Rattle.std.specs.Prelude.{ℕ, zero, suc, List, [], ◌∷◌, ◌++◌, length, Option, Some, None}
use Rattle.sal_ast.specs.declared.expression.At.{At, roll-At}
use Rattle.sal_ast.specs.declared.expression.Expr.{Expr}
use Rattle.sal_ast.specs.declared.expression.Expr.TheVariants as e
use Rattle.sal_ast.specs.declared.expression.Operand.{Operand}
use Rattle.sal_ast.specs.declared.expression.Suffix.{Suffix}
use Rattle.sal_ast.specs.declared.expression.Suffix.TheVariants as s
use Rattle.sal_ast.specs.declared.program.Ident.{Ident}
use Rattle.sal_grammar.specs.Tokens.{Token, Set, class_of}
use Rattle.sal_grammar.specs.Sets as is
use Rattle.sal_grammar.specs.Expressions.{ident, type_of, operand, level, suffixed, sign_of, name_of, plain_of}
use Rattle.sal_grammar.proofs.Languages.{Seq, One, Just, Either, Empty, Deep, Star, Unless}

-- ---- parts of trees

-- ---- lists

abbrev pub CommaItemWord : {A : Type 0} → (A → List Token → Type 0) → A → List Token → Type 0
CommaItemWord item = Seq (One is.comma) (λ _. item)

-- item { "," item }, and then the closing token
abbrev pub ItemsUntilWord : {A : Type 0} → Set → (A → List Token → Type 0) → (List A) → List Token → Type 0
ItemsUntilWord close item = Seq item (λ x. Seq (Star (CommaItemWord item)) (λ others. Seq (One close) (λ _. Just (x ∷ others))))

-- [ item { "," item } ], and then the closing token
abbrev pub ListUntilWord : {A : Type 0} → Set → (A → List Token → Type 0) → (List A) → List Token → Type 0
ListUntilWord close item = Either (Seq (One close) (λ _. Just [])) (ItemsUntilWord close item)

-- "[" "]"
abbrev pub PairWord : (Unit {0}) → List Token → Type 0
PairWord = Seq (One is.open_bracket) (λ _. Seq (One is.close_bracket) (λ _. Just tt))

-- so many "[" "]"
abbrev pub PairsWord : ℕ → List Token → Type 0
PairsWord = Seq (Star PairWord) (λ found. Just (length found))

-- ---- operators

abbrev pub OperandOfWord : Set → (Expr → List Token → Type 0) → Operand → List Token → Type 0
OperandOfWord ops below = Seq (One ops) (λ t. Seq below (λ x. Just (operand t x)))

-- an operand { operator operand }
unfoldable pub LevelOfWord : Set → (Expr → List Token → Type 0) → Expr → List Token → Type 0
LevelOfWord ops below = Seq below (λ x. Seq (Star (OperandOfWord ops below)) (λ os. Just (level x os)))

unfoldable pub SumOfWord : (Expr → List Token → Type 0) → Expr → List Token → Type 0
SumOfWord unary = LevelOfWord is.sum (LevelOfWord is.product unary)

unfoldable pub EqualOfWord : (Expr → List Token → Type 0) → Expr → List Token → Type 0
EqualOfWord unary = LevelOfWord is.equal (LevelOfWord is.relation (SumOfWord unary))

unfoldable pub ExprOfWord : (Expr → List Token → Type 0) → Expr → List Token → Type 0
ExprOfWord unary = LevelOfWord is.or (LevelOfWord is.and (EqualOfWord unary))

-- ---- constructs that count, given the parser of what stands one deeper

-- ( "-" | "!" ) unary
unfoldable pub PrefixWord : (Expr → List Token → Type 0) → Expr → List Token → Type 0
PrefixWord below = Seq (One is.prefix) (λ t. Seq below (λ x. Just (sign_of (class_of t) t.at x)))

-- "getReferenceByName" "(" expr ")"
unfoldable pub GetterWord : (Expr → List Token → Type 0) → ℕ → Option Ident → Ident → Expr → List Token → Type 0
GetterWord below at cast behavior = Seq (One is.getter) (λ _. Seq (One is.open_paren) (λ _. Seq (ExprOfWord below) (λ x. Seq (One is.close_paren) (λ _. Just (e.ByName at cast behavior x)))))

-- "[" expr "]"
unfoldable pub IndexWord : (Expr → List Token → Type 0) → Suffix → List Token → Type 0
IndexWord below = Seq (One is.open_bracket) (λ t. Seq (ExprOfWord below) (λ x. Seq (One is.close_bracket) (λ _. Just (s.Index t.at x))))

-- "." "length"
abbrev pub SizeWord : Suffix → List Token → Type 0
SizeWord = Seq (One is.dot) (λ t. Seq (One is.length) (λ _. Just (s.Length t.at)))

-- "[" expr "]" | "." "length"
unfoldable pub SuffixWord : ℕ → (Expr → List Token → Type 0) → Suffix → List Token → Type 0
SuffixWord d below = Either (Deep d (IndexWord below)) SizeWord

unfoldable pub SuffixesWord : ℕ → (Expr → List Token → Type 0) → (List Suffix) → List Token → Type 0
SuffixesWord d below = Star (SuffixWord d below)

-- { "[" expr "]" | "." "length" }, behind these
unfoldable pub WithSuffixesWord : ℕ → (Expr → List Token → Type 0) → Expr → List Suffix → Expr → List Token → Type 0
WithSuffixesWord d below x found = Seq (SuffixesWord d below) (λ os. Just (suffixed x (found ++ os)))

-- behind "(" Id ")"
unfoldable pub GetterCastWord : (Expr → List Token → Type 0) → ℕ → Ident → Expr → List Token → Type 0
GetterCastWord below at cast = Seq (One is.id) (λ t. Seq (One is.dot) (λ _. GetterWord below at (Some cast) (ident t)))

-- behind "(" expr ")", which is a cast where it is a name and an identifier follows
abbrev pub AfterParenWord : ℕ → (Expr → List Token → Type 0) → ℕ → Expr → Option Ident → Expr → List Token → Type 0
AfterParenWord d below at x None = WithSuffixesWord d below (e.Paren at x) []
AfterParenWord d below at x (Some name) = Either (Seq (GetterCastWord below at name) (λ y. WithSuffixesWord d below y [])) (WithSuffixesWord d below (e.Paren at x) [])

-- "(" expr ")" | "(" Id ")" Id "." "getReferenceByName" "(" expr ")", and suffixes
unfoldable pub ParenWord : ℕ → (Expr → List Token → Type 0) → Expr → List Token → Type 0
ParenWord d below = Seq (One is.open_paren) (λ t. Seq (ExprOfWord below) (λ x. Seq (One is.close_paren) (λ _. AfterParenWord d below t.at x (name_of x))))

-- [ "," expr ] ")"
unfoldable pub SecondWord : (Expr → List Token → Type 0) → (Option Expr) → List Token → Type 0
SecondWord below = Either (Seq (One is.comma) (λ _. Seq (ExprOfWord below) (λ x. Seq (One is.close_paren) (λ _. Just (Some x))))) (Seq (One is.close_paren) (λ _. Just None))

-- "at" "(" expr [ "," expr ] ")"
unfoldable pub PlaceWord : (Expr → List Token → Type 0) → At → List Token → Type 0
PlaceWord below = Seq (One is.at) (λ t. Seq (One is.open_paren) (λ _. Seq (ExprOfWord below) (λ x. Seq (SecondWord below) (λ y. Just (roll-At (record { at = t.at; uan = x; ual = y }))))))

-- "(" [ expr { "," expr } ] ")" [ "at" .. ], behind "new" Id, and suffixes
unfoldable pub NewActorWord : ℕ → (Expr → List Token → Type 0) → ℕ → Ident → Expr → List Token → Type 0
NewActorWord d below at behavior = Seq (One is.open_paren) (λ _. Seq (ListUntilWord is.close_paren (ExprOfWord below)) (λ args. Either (Seq (PlaceWord below) (λ p. WithSuffixesWord d below (e.New at behavior args (Some p)) [])) (WithSuffixesWord d below (e.New at behavior args None) [])))

-- expr "]" { "[" "]" }, behind "new" base "["
unfoldable pub NewSizedWord : (Expr → List Token → Type 0) → ℕ → Token → Expr → List Token → Type 0
NewSizedWord below at sort = Seq (ExprOfWord below) (λ x. Seq (One is.close_bracket) (λ _. Seq PairsWord (λ n. Just (e.Make at (type_of sort (suc n)) x))))

-- "]" { "[" "]" } "{" [ expr { "," expr } ] "}", behind "new" base "["
unfoldable pub NewListWord : (Expr → List Token → Type 0) → ℕ → Token → Expr → List Token → Type 0
NewListWord below at sort = Seq (One is.close_bracket) (λ _. Seq PairsWord (λ n. Seq (One is.open_brace) (λ _. Seq (ListUntilWord is.close_brace (ExprOfWord below)) (λ items. Just (e.ListOf at (type_of sort (suc n)) items)))))

-- an array, behind "new" base
unfoldable pub NewArrayWord : (Expr → List Token → Type 0) → ℕ → Token → Expr → List Token → Type 0
NewArrayWord below at sort = Seq (One is.open_bracket) (λ _. Either (NewListWord below at sort) (NewSizedWord below at sort))

-- behind Id "."
unfoldable pub AfterDotWord : ℕ → (Expr → List Token → Type 0) → Ident → ℕ → Expr → List Token → Type 0
AfterDotWord d below name at = Either (Deep d (Seq (GetterWord below name.at None name) (λ x. WithSuffixesWord d below x []))) (Seq (One is.length) (λ _. WithSuffixesWord d below (e.Name name) (s.Length at ∷ [])))

-- behind Id
unfoldable pub AfterNameWord : ℕ → (Expr → List Token → Type 0) → Ident → Expr → List Token → Type 0
AfterNameWord d below name = Either (Seq (One is.dot) (λ t. AfterDotWord d below name t.at)) (Unless is.dot (WithSuffixesWord d below (e.Name name) []))

-- behind "new"
unfoldable pub AfterNewWord : ℕ → (Expr → List Token → Type 0) → ℕ → Expr → List Token → Type 0
AfterNewWord d below at = Either (Seq (One is.id) (λ t. Either (NewActorWord d below at (ident t)) (NewArrayWord below at t))) (Seq (One is.sort_word) (λ t. NewArrayWord below at t))

abbrev pub PlainWord : Expr → List Token → Type 0
PlainWord = Seq (One is.plain) (λ t. Just (plain_of (class_of t) t))

-- "this" "." Id
abbrev pub OwnWord : Expr → List Token → Type 0
OwnWord = Seq (One is.this) (λ t. Seq (One is.dot) (λ _. Seq (One is.id) (λ name. Just (e.Own t.at (ident name)))))

-- a postfix that doesn't begin with an identifier or `this`
unfoldable pub ClosedPostfixWord : ℕ → (Expr → List Token → Type 0) → Expr → List Token → Type 0
ClosedPostfixWord d below = Either (Deep d (ParenWord d below)) (Either (Deep d (Seq (One is.new) (λ t. AfterNewWord d below t.at))) (Seq PlainWord (λ x. WithSuffixesWord d below x [])))

-- a postfix that doesn't begin with an identifier
unfoldable pub OtherPostfixWord : ℕ → (Expr → List Token → Type 0) → Expr → List Token → Type 0
OtherPostfixWord d below = Either (Seq OwnWord (λ x. WithSuffixesWord d below x [])) (ClosedPostfixWord d below)

-- primary { "[" expr "]" | "." "length" } | newarray
unfoldable pub PostfixWord : ℕ → (Expr → List Token → Type 0) → Expr → List Token → Type 0
PostfixWord d below = Either (Seq (One is.id) (λ t. AfterNameWord d below (ident t))) (OtherPostfixWord d below)

unfoldable pub UnaryByWord : ℕ → (Expr → List Token → Type 0) → Expr → List Token → Type 0
UnaryByWord d below = Either (Deep d (PrefixWord below)) (PostfixWord d below)

-- the number is how many constructs that count may still be opened inside one another
unfoldable pub UnaryWord : ℕ → Expr → List Token → Type 0
UnaryWord zero = UnaryByWord zero Empty
UnaryWord (suc d) = UnaryByWord (suc d) (UnaryWord d)

unfoldable pub ExprWord : ℕ → Expr → List Token → Type 0
ExprWord d = ExprOfWord (UnaryWord d)
