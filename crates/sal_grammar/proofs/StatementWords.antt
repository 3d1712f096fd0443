-- The words of statements.
use Rattle.std.specs.Prelude.{◌≡◌, ℕ, zero, suc, Bool, true, false, List, [], ◌∷◌, ◌++◌, Option, Some, None}
use Rattle.sal_ast.specs.declared.expression.Expr.{Expr}
use Rattle.sal_ast.specs.declared.expression.Expr.TheVariants as e
use Rattle.sal_ast.specs.declared.expression.Suffix.{Suffix}
use Rattle.sal_ast.specs.declared.expression.Suffix.TheVariants as s
use Rattle.sal_ast.specs.declared.program.Ident.{Ident}
use Rattle.sal_ast.specs.declared.program.TypeName.{TypeName}
use Rattle.sal_ast.specs.declared.statement.Aim.{Aim}
use Rattle.sal_ast.specs.declared.statement.Aim.TheVariants as aim
use Rattle.sal_ast.specs.declared.statement.Arg.{Arg}
use Rattle.sal_ast.specs.declared.statement.Arg.TheVariants as arg
use Rattle.sal_ast.specs.declared.statement.Assign.{Assign}
use Rattle.sal_ast.specs.declared.statement.Declare.{Declare}
use Rattle.sal_ast.specs.declared.statement.ForInit.{ForInit}
use Rattle.sal_ast.specs.declared.statement.ForInit.TheVariants as init
use Rattle.sal_ast.specs.declared.statement.Property.{Property}
use Rattle.sal_ast.specs.declared.statement.Property.TheVariants as of
use Rattle.sal_ast.specs.declared.statement.Stage.{Stage}
use Rattle.sal_ast.specs.declared.statement.Stage.TheVariants as g
use Rattle.sal_ast.specs.declared.statement.Stmt.{Stmt}
use Rattle.sal_ast.specs.declared.statement.Stmt.TheVariants as form
use Rattle.sal_grammar.specs.Tokens.{Token}
use Rattle.sal_grammar.specs.Sets as is
use Rattle.sal_ast.specs.Regular.{form_of}
use Rattle.sal_grammar.specs.Expressions.{ident, type_of, suffixed}
use Rattle.sal_grammar.specs.Statements.{one_less, indexes_of, all_indexes, Tail, chain, is_own, variable}
use Rattle.sal_grammar.proofs.Languages.{Seq, One, Just, Either, Empty, Deep, Star, Twice, Guarded}
use Rattle.sal_grammar.proofs.ExpressionWords.{ItemsUntilWord, ListUntilWord, PairsWord, IndexWord, SuffixesWord, AfterDotWord, AfterNameWord, ClosedPostfixWord, OtherPostfixWord, UnaryWord, ExprWord}

abbrev pub BelowWord : ℕ → Expr → List Token → Type 0
BelowWord d = UnaryWord (one_less d)

abbrev pub NameWord : Ident → List Token → Type 0
NameWord = Seq (One is.id) (λ t. Just (ident t))

-- ---- declarations and assignments

-- [ "=" expr ] ";"
unfoldable pub InitialWord : ℕ → (Option Expr) → List Token → Type 0
InitialWord d = Either (Seq (One is.assign) (λ _. Seq (ExprWord d) (λ x. Seq (One is.semicolon) (λ _. Just (Some x))))) (Seq (One is.semicolon) (λ _. Just None))

-- Id [ "=" expr ] ";", behind a type
unfoldable pub DeclareWord : ℕ → TypeName → Declare → List Token → Type 0
DeclareWord d sort = Seq NameWord (λ n. Seq (InitialWord d) (λ x. Just (record { sort = sort; name = n; init = x })))

-- "=" expr, behind a variable with indexes
unfoldable pub AssignedWord : ℕ → Bool → Ident → List Suffix → Assign → List Token → Type 0
AssignedWord d own n found = Seq (One is.assign) (λ _. Seq (ExprWord d) (λ x. Just (record { own = own; name = n; indexes = indexes_of found; value = x })))

-- { "[" expr "]" } "=" expr
unfoldable pub AssignRestWord : ℕ → Bool → Ident → List Suffix → Assign → List Token → Type 0
AssignRestWord d own n found = Seq (Star (Deep d (IndexWord (BelowWord d)))) (λ os. AssignedWord d own n (found ++ os))

-- [ expr ] ";"
unfoldable pub UntilSemicolonWord : ℕ → (Option Expr) → List Token → Type 0
UntilSemicolonWord d = Either (Seq (One is.semicolon) (λ _. Just None)) (Seq (ExprWord d) (λ x. Seq (One is.semicolon) (λ _. Just (Some x))))

-- ---- messages

-- "token" | expr
unfoldable pub ArgumentWord : ℕ → Arg → List Token → Type 0
ArgumentWord d = Either (Seq (One is.token) (λ t. Just (arg.Token t.at))) (Seq (ExprWord d) (λ x. Just (arg.Expr x)))

-- "delay" "(" expr ")", behind ":"
unfoldable pub DelayWord : ℕ → ℕ → Property → List Token → Type 0
DelayWord d at = Seq (One is.delay) (λ _. Seq (One is.open_paren) (λ _. Seq (ExprWord d) (λ x. Seq (One is.close_paren) (λ _. Just (of.Delay at x)))))

-- "waitfor" "(" Id { "," Id } ")", behind ":"
unfoldable pub WaitForWord : ℕ → Property → List Token → Type 0
WaitForWord at = Seq (One is.wait_for) (λ _. Seq (One is.open_paren) (λ _. Seq (ItemsUntilWord is.close_paren NameWord) (λ names. Just (of.WaitFor at names))))

unfoldable pub PropertyWord : ℕ → Property → List Token → Type 0
PropertyWord d = Seq (One is.colon) (λ t. Either (DelayWord d t.at) (WaitForWord t.at))

-- "(" [ arg { "," arg } ] ")" { property }, behind [ target "<-" ] Id
unfoldable pub MessageWord : ℕ → Aim → Ident → Stage → List Token → Type 0
MessageWord d to n = Seq (One is.open_paren) (λ _. Seq (ListUntilWord is.close_paren (ArgumentWord d)) (λ args. Seq (Star (PropertyWord d)) (λ found. Just (g.Message (record { aim = to; handler = n; args = args; properties = found })))))

-- "<-" Id "(" .., behind a target
unfoldable pub SendToWord : ℕ → Aim → Stage → List Token → Type 0
SendToWord d to = Seq (One is.arrow) (λ _. Seq NameWord (λ n. MessageWord d to n))

-- ---- stages, where the parser of statements one deeper is given

-- { stmt } "}"
unfoldable pub BodyOfWord : (Stmt → List Token → Type 0) → (List Stmt) → List Token → Type 0
BodyOfWord stmt = Seq (Star stmt) (λ list. Seq (One is.close_brace) (λ _. Just list))

-- "join" block
unfoldable pub JoinWord : (Stmt → List Token → Type 0) → Stage → List Token → Type 0
JoinWord stmt = Seq (One is.join) (λ t. Seq (One is.open_brace) (λ _. Seq (BodyOfWord stmt) (λ list. Just (g.Join t.at list))))

-- "standardOutput" "<-" ..
abbrev pub OutputWord : ℕ → Stage → List Token → Type 0
OutputWord d = Seq (One is.output) (λ t. SendToWord d (aim.Output t.at))

-- a stage, behind its first token, which is an identifier
unfoldable pub NameStageWord : ℕ → Ident → Stage → List Token → Type 0
NameStageWord d n = Either (MessageWord d aim.Own n) (Seq (AfterNameWord d (BelowWord d) n) (λ x. SendToWord d (aim.Actor x)))

-- message | "join" block
unfoldable pub StageByWord : ℕ → (Stmt → List Token → Type 0) → Stage → List Token → Type 0
StageByWord d stmt = Either (Deep d (JoinWord stmt)) (Either (OutputWord d) (Either (Seq NameWord (NameStageWord d)) (Seq (OtherPostfixWord d (BelowWord d)) (λ x. SendToWord d (aim.Actor x)))))

-- [ "@" "currentContinuation" ] ";"
abbrev pub StopWord : Option ℕ → List Token → Type 0
StopWord =
    Either (Seq (One is.then_sign) (λ _. Seq (One is.current) (λ t. Seq (One is.semicolon) (λ _. Just (Some t.at)))))
    (Seq (One is.semicolon) (λ _. Just None))

-- { "@" stage } and then the end of the chain
abbrev pub StagesWord : (Stage → List Token → Type 0) → Option ℕ → List Stage → List Token → Type 0
StagesWord stage passed [] u = StopWord passed u
StagesWord stage passed (first ∷ others) u = Twice (Seq (One is.then_sign) (λ _. stage)) (StagesWord stage passed others) first u

abbrev pub TailWord : (Stage → List Token → Type 0) → Tail → List Token → Type 0
TailWord stage t u = StagesWord stage t.passed t.stages u

-- a chain as a statement, behind its first stage
unfoldable pub ChainStmtWord : ℕ → (Stmt → List Token → Type 0) → Stage → Stmt → List Token → Type 0
ChainStmtWord d stmt first = Seq (TailWord (StageByWord d stmt)) (λ t. Just (form.Chain (chain first t.stages) t.passed))

-- "token" Id "=" chain ";"
unfoldable pub TokenStmtWord : ℕ → (Stmt → List Token → Type 0) → Stmt → List Token → Type 0
TokenStmtWord d stmt = Seq (One is.token) (λ t. Seq NameWord (λ n. Seq (One is.assign) (λ _. Seq (StageByWord d stmt) (λ first. Seq (Star (Seq (One is.then_sign) (λ _. StageByWord d stmt))) (λ others. Seq (One is.semicolon) (λ _. Just (form.Token t.at n (chain first others))))))))

-- ---- statements that begin with a variable

-- "<-" .., behind a target that is an expression
unfoldable pub SentStmtWord : ℕ → (Stmt → List Token → Type 0) → Expr → Stmt → List Token → Type 0
SentStmtWord d stmt x = Seq (SendToWord d (aim.Actor x)) (ChainStmtWord d stmt)

-- "=" expr ";"
unfoldable pub AssignedStmtWord : ℕ → Bool → Ident → List Suffix → Stmt → List Token → Type 0
AssignedStmtWord d own n found = Seq (AssignedWord d own n found) (λ a. Seq (One is.semicolon) (λ _. Just (form.Assign a)))

-- an assignment where all suffixes are indexes, or else a chain
abbrev pub AssignOrSendWord : ℕ → (Stmt → List Token → Type 0) → Option ℕ → Ident → List Suffix → Bool → Stmt → List Token → Type 0
AssignOrSendWord d stmt at n found true = Either (AssignedStmtWord d (is_own at) n found) (SentStmtWord d stmt (suffixed (variable at n) found))
AssignOrSendWord d stmt at n found false = SentStmtWord d stmt (suffixed (variable at n) found)

-- behind a variable and these suffixes
unfoldable pub AfterVariableWord : ℕ → (Stmt → List Token → Type 0) → Option ℕ → Ident → List Suffix → Stmt → List Token → Type 0
AfterVariableWord d stmt at n found = Seq (SuffixesWord d (BelowWord d)) (λ os. AssignOrSendWord d stmt at n (found ++ os) (all_indexes (found ++ os)))

-- "this" "." Id ..
unfoldable pub ThisStmtWord : ℕ → (Stmt → List Token → Type 0) → Stmt → List Token → Type 0
ThisStmtWord d stmt = Seq (One is.this) (λ t. Seq (One is.dot) (λ _. Seq NameWord (λ n. AfterVariableWord d stmt (Some t.at) n [])))

-- expr "]" .., behind Id "["
unfoldable pub IndexedStmtWord : ℕ → (Stmt → List Token → Type 0) → Ident → ℕ → Stmt → List Token → Type 0
IndexedStmtWord d stmt n at = Seq (ExprWord (one_less d)) (λ x. Seq (One is.close_bracket) (λ _. AfterVariableWord d stmt None n (s.Index at x ∷ [])))

-- a declaration, behind its type's first token
unfoldable pub TypedStmtWord : ℕ → TypeName → Stmt → List Token → Type 0
TypedStmtWord d sort = Seq (DeclareWord d sort) (λ x. Just (form.Declare x))

-- a type with brackets or an index, behind Id "["
unfoldable pub BracketStmtWord : ℕ → (Stmt → List Token → Type 0) → Token → ℕ → Stmt → List Token → Type 0
BracketStmtWord d stmt t at = Either (Seq (One is.close_bracket) (λ _. Seq PairsWord (λ n. TypedStmtWord d (type_of t (suc n))))) (Deep d (IndexedStmtWord d stmt (ident t) at))

-- a target, behind Id, where no index follows
unfoldable pub DottedNameWord : ℕ → Ident → Expr → List Token → Type 0
DottedNameWord d n = Either (Seq (One is.dot) (λ t. AfterDotWord d (BelowWord d) n t.at)) (Just (e.Name n))

-- a statement, behind its first token, which is an identifier
unfoldable pub NameStmtWord : ℕ → (Stmt → List Token → Type 0) → Token → Stmt → List Token → Type 0
NameStmtWord d stmt t = Either (TypedStmtWord d (type_of t 0)) (Either (Seq (One is.open_bracket) (λ b. BracketStmtWord d stmt t b.at)) (Either (AssignedStmtWord d false (ident t) []) (Either (Seq (MessageWord d aim.Own (ident t)) (ChainStmtWord d stmt)) (Seq (DottedNameWord d (ident t)) (SentStmtWord d stmt)))))

-- ---- the parentheses of a `for`

-- "=" expr ";" as the first part
unfoldable pub AssignInitWord : ℕ → Bool → Ident → List Suffix → ForInit → List Token → Type 0
AssignInitWord d own n found = Seq (AssignRestWord d own n found) (λ a. Seq (One is.semicolon) (λ _. Just (init.Assign a)))

unfoldable pub TypedInitWord : ℕ → TypeName → ForInit → List Token → Type 0
TypedInitWord d sort = Seq (DeclareWord d sort) (λ x. Just (init.Declare x))

-- a type with brackets or an index, behind Id "["
unfoldable pub BracketInitWord : ℕ → Token → ℕ → ForInit → List Token → Type 0
BracketInitWord d t at = Either (Seq (One is.close_bracket) (λ _. Seq PairsWord (λ n. TypedInitWord d (type_of t (suc n))))) (Deep d (Seq (ExprWord (one_less d)) (λ x. Seq (One is.close_bracket) (λ _. AssignInitWord d false (ident t) (s.Index at x ∷ [])))))

-- a first part, behind its first token, which is an identifier
unfoldable pub NameInitWord : ℕ → Token → ForInit → List Token → Type 0
NameInitWord d t = Either (TypedInitWord d (type_of t 0)) (Either (Seq (One is.open_bracket) (λ b. BracketInitWord d t b.at)) (Seq (AssignedWord d false (ident t) []) (λ a. Seq (One is.semicolon) (λ _. Just (init.Assign a)))))

-- [ decl | assign ] ";"
unfoldable pub ForInitWord : ℕ → ForInit → List Token → Type 0
ForInitWord d = Either (Seq (One is.id) (NameInitWord d)) (Either (Seq (One is.sort_word) (λ t. Seq PairsWord (λ n. TypedInitWord d (type_of t n)))) (Either (Seq (One is.this) (λ _. Seq (One is.dot) (λ _. Seq NameWord (λ n. AssignInitWord d true n [])))) (Seq (One is.semicolon) (λ _. Just init.Nothing))))

-- ( Id | "this" "." Id ) { "[" expr "]" } "=" expr
unfoldable pub AssignmentWord : ℕ → Assign → List Token → Type 0
AssignmentWord d = Either (Seq (One is.this) (λ _. Seq (One is.dot) (λ _. Seq NameWord (λ n. AssignRestWord d true n [])))) (Seq NameWord (λ n. AssignRestWord d false n []))

-- [ assign ] ")"
unfoldable pub ForNextWord : ℕ → (Option Assign) → List Token → Type 0
ForNextWord d = Either (Seq (One is.close_paren) (λ _. Just None)) (Seq (AssignmentWord d) (λ a. Seq (One is.close_paren) (λ _. Just (Some a))))

-- ---- statements that count, given the depth inside and the parser of statements there

unfoldable pub BlockWord : (Stmt → List Token → Type 0) → Stmt → List Token → Type 0
BlockWord stmt = Seq (One is.open_brace) (λ t. Seq (BodyOfWord stmt) (λ list. Just (form.Block t.at list)))

-- "(" expr ")"
abbrev pub TestWord : ℕ → Expr → List Token → Type 0
TestWord d = Seq (One is.open_paren) (λ _. Seq (ExprWord d) (λ x. Seq (One is.close_paren) (λ _. Just x)))

-- whether an `else` behind a statement would belong to it
abbrev pub takes_else : Stmt → Bool
takes_else s = (form_of s).takes_else

-- [ "else" stmt ], where the first statement takes none
unfoldable pub OrElseWord : (Stmt → List Token → Type 0) → ℕ → Expr → Stmt → Stmt → List Token → Type 0
OrElseWord stmt at x first = Either (Guarded (takes_else first ≡ false) (Seq (One is.else_word) (λ _. Seq stmt (λ other. Just (form.If at x first (Some other)))))) (Just (form.If at x first None))

unfoldable pub IfStmtWord : ℕ → (Stmt → List Token → Type 0) → Stmt → List Token → Type 0
IfStmtWord d stmt = Seq (One is.if_word) (λ t. Seq (TestWord d) (λ x. Seq stmt (λ first. OrElseWord stmt t.at x first)))

unfoldable pub WhileStmtWord : ℕ → (Stmt → List Token → Type 0) → Stmt → List Token → Type 0
WhileStmtWord d stmt = Seq (One is.while_word) (λ t. Seq (TestWord d) (λ x. Seq stmt (λ body. Just (form.While t.at x body))))

unfoldable pub ForStmtWord : ℕ → (Stmt → List Token → Type 0) → Stmt → List Token → Type 0
ForStmtWord d stmt = Seq (One is.for_word) (λ t. Seq (One is.open_paren) (λ _. Seq (ForInitWord d) (λ first. Seq (UntilSemicolonWord d) (λ x. Seq (ForNextWord d) (λ next. Seq stmt (λ body. Just (form.For t.at first x next body)))))))

unfoldable pub NestedWord : ℕ → (Stmt → List Token → Type 0) → Stmt → List Token → Type 0
NestedWord d stmt = Either (BlockWord stmt) (Either (IfStmtWord d stmt) (Either (WhileStmtWord d stmt) (ForStmtWord d stmt)))

-- ---- statements

-- "standardOutput" .. | "join" .. | a target that begins with no variable
unfoldable pub OtherChainWord : ℕ → (Stmt → List Token → Type 0) → Stmt → List Token → Type 0
OtherChainWord d stmt = Either (Deep d (Seq (JoinWord stmt) (ChainStmtWord d stmt))) (Either (Seq (OutputWord d) (ChainStmtWord d stmt)) (Seq (ClosedPostfixWord d (BelowWord d)) (SentStmtWord d stmt)))

-- "return" [ expr ] ";"
abbrev pub ReturnStmtWord : ℕ → Stmt → List Token → Type 0
ReturnStmtWord d = Seq (One is.return_word) (λ t. Seq (UntilSemicolonWord d) (λ x. Just (form.Return t.at x)))

unfoldable pub StmtByWord : ℕ → (Stmt → List Token → Type 0) → Stmt → List Token → Type 0
StmtByWord d stmt = Either (Seq (One is.id) (NameStmtWord d stmt)) (Either (Deep d (NestedWord (one_less d) stmt)) (Either (Seq (One is.sort_word) (λ t. Seq PairsWord (λ n. TypedStmtWord d (type_of t n)))) (Either (Seq (One is.semicolon) (λ t. Just (form.Empty t.at))) (Either (ReturnStmtWord d) (Either (TokenStmtWord d stmt) (Either (ThisStmtWord d stmt) (OtherChainWord d stmt)))))))

unfoldable pub StmtWord : ℕ → Stmt → List Token → Type 0
StmtWord zero = StmtByWord zero Empty
StmtWord (suc d) = StmtByWord (suc d) (StmtWord d)
