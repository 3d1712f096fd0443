-- The words of programs.
use Rattle.std.specs.Prelude.{ℕ, List, ◌∷◌, Option, Some, None}
use Rattle.sal_ast.specs.declared.program.Behavior.{Behavior}
use Rattle.sal_ast.specs.declared.program.Ident.{Ident}
use Rattle.sal_ast.specs.declared.program.Member.{Member}
use Rattle.sal_ast.specs.declared.program.Member.TheVariants as form
use Rattle.sal_ast.specs.declared.program.Param.{Param}
use Rattle.sal_ast.specs.declared.program.Program.{Program}
use Rattle.sal_ast.specs.declared.program.TypeName.{TypeName}
use Rattle.sal_ast.specs.declared.statement.Stmt.{Stmt}
use Rattle.sal_grammar.specs.Tokens.{Token}
use Rattle.sal_grammar.specs.Sets as is
use Rattle.sal_grammar.specs.Expressions.{ident, type_of}
use Rattle.sal_grammar.proofs.Languages.{Seq, One, Just, Either, Star}
use Rattle.sal_grammar.proofs.ExpressionWords.{ListUntilWord, PairsWord}
use Rattle.sal_grammar.proofs.StatementWords.{NameWord, InitialWord, BodyOfWord, StmtWord}

-- type Id
unfoldable pub ParamWord : Param → List Token → Type 0
ParamWord = Seq (One is.sort) (λ t. Seq PairsWord (λ dims. Seq NameWord (λ n. Just (record { sort = type_of t dims; name = n }))))

-- "(" [ type Id { "," type Id } ] ")"
unfoldable pub ParamsWord : (List Param) → List Token → Type 0
ParamsWord = Seq (One is.open_paren) (λ _. ListUntilWord is.close_paren ParamWord)

-- "{" { stmt } "}"
unfoldable pub BodyWord : ℕ → (List Stmt) → List Token → Type 0
BodyWord d = Seq (One is.open_brace) (λ _. BodyOfWord (StmtWord d))

-- "(" [ params ] ")" block, behind a constructor's name
unfoldable pub ConstructorWord : ℕ → Ident → Member → List Token → Type 0
ConstructorWord d n = Seq ParamsWord (λ found. Seq (BodyWord d) (λ list. Just (form.Constructor n found list)))

-- "(" [ params ] ")" block, behind a handler's name
unfoldable pub HandlerWord : ℕ → Option TypeName → Ident → Member → List Token → Type 0
HandlerWord d result n = Seq ParamsWord (λ found. Seq (BodyWord d) (λ list. Just (form.Handler result n found list)))

-- a field or a handler, behind its type
unfoldable pub TypedMemberWord : ℕ → TypeName → Member → List Token → Type 0
TypedMemberWord d sort = Seq NameWord (λ n. Either (HandlerWord d (Some sort) n) (Seq (InitialWord d) (λ x. Just (form.Field sort n x))))

-- a member, behind its first token, which is an identifier
unfoldable pub NameMemberWord : ℕ → Token → Member → List Token → Type 0
NameMemberWord d t = Either (ConstructorWord d (ident t)) (Seq PairsWord (λ dims. TypedMemberWord d (type_of t dims)))

unfoldable pub MemberWord : ℕ → Member → List Token → Type 0
MemberWord d = Either (Seq (One is.id) (NameMemberWord d)) (Either (Seq (One is.void) (λ _. Seq NameWord (λ n. HandlerWord d None n))) (Seq (One is.sort_word) (λ t. Seq PairsWord (λ dims. TypedMemberWord d (type_of t dims)))))

-- "behavior" Id "{" { member } "}"
unfoldable pub BehaviorWord : ℕ → Behavior → List Token → Type 0
BehaviorWord d = Seq (One is.behavior) (λ _. Seq NameWord (λ n. Seq (One is.open_brace) (λ _. Seq (Star (MemberWord d)) (λ found. Seq (One is.close_brace) (λ _. Just (record { name = n; members = found }))))))

-- behavior { behavior }
unfoldable pub ProgramWord : ℕ → Program → List Token → Type 0
ProgramWord d = Seq (BehaviorWord d) (λ b. Seq (Star (BehaviorWord d)) (λ others. Just (record { behaviors = b ∷ others })))
