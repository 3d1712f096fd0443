-- The parser of programs reads its words exactly.
use Rattle.std.proofs.Common.{ℕ, false, ◌∷◌, refl, Option, Some, None}
use Rattle.sal_ast.specs.declared.program.Ident.{Ident}
use Rattle.sal_ast.specs.declared.program.Member.TheVariants as form
use Rattle.sal_ast.specs.declared.program.TypeName.{TypeName}
use Rattle.sal_grammar.specs.declared.class.Class.TheVariants as k
use Rattle.sal_grammar.specs.Tokens.{Token, Set, none, both}
use Rattle.sal_grammar.specs.Sets as is
use Rattle.sal_grammar.specs.Expressions.{ident, type_of}
use Rattle.sal_grammar.specs.Programs.{param, params, body, constructor, handler, typed_member, name_member, member, behavior, program}
use Rattle.sal_grammar.proofs.Exactness.{Good, seq_good, seq_good_empty}
use Rattle.sal_grammar.proofs.Classes.{dis, sub}
use Rattle.sal_grammar.proofs.Choices.{nothing, first_good, more_good, where_good}
use Rattle.sal_grammar.proofs.Lists.{list_good}
use Rattle.sal_grammar.proofs.Steps.{self, free, least, agree, done, then_good, map_good, map_good_empty}
use Rattle.sal_grammar.proofs.GoodExpressions.{list_until_good, pairs_good}
use Rattle.sal_grammar.proofs.GoodParts.{name_good, initial_good, body_of_good}
use Rattle.sal_grammar.proofs.GoodNests.{stmt_good}
use Rattle.sal_grammar.proofs.ProgramWords.{ParamWord, ParamsWord, BodyWord, ConstructorWord, HandlerWord, TypedMemberWord, NameMemberWord, MemberWord, BehaviorWord, ProgramWord}

param_good : {pre : Set} → Good pre is.sort false ParamWord nothing param
unfolding ParamWord param
param_good =
    then_good k.Id refl refl (λ t. seq_good_empty pairs_good (λ dims. map_good (λ n. record { sort = type_of t dims; name = n }) name_good) (λ dims. dis refl) tt)

params_good : {pre : Set} → Good pre is.open_paren false ParamsWord nothing params
unfolding ParamsWord params
params_good = then_good k.OpenParen refl refl (λ _. list_until_good k.CloseParen refl refl (dis refl) free free (dis refl) param_good)

body_good : {pre : Set} (d : ℕ) → Good pre is.open_brace false (BodyWord d) nothing (body d)
unfolding BodyWord body
body_good d = then_good k.OpenBrace refl refl (λ _. body_of_good (stmt_good d))

constructor_good : {pre : Set} (d : ℕ) (n : Ident) → Good pre is.open_paren false (ConstructorWord d n) nothing (constructor d n)
unfolding ConstructorWord constructor
constructor_good d n = seq_good params_good (λ found. map_good (λ list. form.Constructor n found list) (body_good d)) (λ found. free) tt

handler_good : {pre : Set} (d : ℕ) (result : Option TypeName) (n : Ident) → Good pre is.open_paren false (HandlerWord d result n) nothing (handler d result n)
unfolding HandlerWord handler
handler_good d result n = seq_good params_good (λ found. map_good (λ list. form.Handler result n found list) (body_good d)) (λ found. free) tt

typed_member_good : {pre : Set} (d : ℕ) (sort : TypeName) → Good pre is.id false (TypedMemberWord d sort) nothing (typed_member d sort)
unfolding TypedMemberWord typed_member
typed_member_good d sort =
    seq_good name_good
    (λ n. where_good {pre' = none} (handler_good d (Some sort) n) (map_good (λ x. form.Field sort n x) (initial_good d)) self (dis refl) least tt)
    (λ n. free) tt

name_member_good : {pre : Set} (d : ℕ) (t : Token) → Good pre (both is.open_paren (both is.open_bracket is.id)) false (NameMemberWord d t) nothing (name_member d t)
unfolding NameMemberWord name_member
name_member_good d t =
    where_good {pre' = none} (constructor_good d (ident t))
    (seq_good_empty pairs_good (λ dims. typed_member_good d (type_of t dims)) (λ dims. dis refl) tt) self (dis refl) least tt

member_good : {pre : Set} (d : ℕ) → Good pre is.first_member false (MemberWord d) nothing (member d)
unfolding MemberWord member
member_good d =
    first_good (where_good {pre' = none} (then_good k.Id refl refl (λ t. name_member_good d t))
    (where_good {pre' = none} (then_good k.Void refl refl (λ _. seq_good name_good (λ n. handler_good d None n) (λ n. free) tt))
    (then_good k.Int refl refl (λ t. seq_good_empty pairs_good (λ dims. typed_member_good d (type_of t dims)) (λ dims. dis refl) tt))
    self (dis refl) least tt)
    self (dis refl) least tt) (sub refl)

behavior_good : {pre : Set} (d : ℕ) → Good pre is.behavior false (BehaviorWord d) nothing (behavior d)
unfolding BehaviorWord behavior
behavior_good d =
    then_good k.Behavior refl refl (λ _. seq_good name_good (λ n. then_good k.OpenBrace refl refl (λ _. seq_good_empty (list_good {m = none} (member_good d) self free refl)
    (λ found. then_good k.CloseBrace refl refl (λ _. done (record { name = n; members = found }))) (λ found. dis refl) tt)) (λ n. free) tt)

pub program_good : (d : ℕ) → Good none is.behavior false (ProgramWord d) (λ _. is.behavior) (program d)
unfolding ProgramWord program
program_good d =
    more_good (seq_good (behavior_good d)
    (λ b. map_good_empty (λ others. record { behaviors = b ∷ others }) (list_good {m = none} (behavior_good d) self free refl)) (λ b. free) (λ b c v. least))
    (λ a c. agree (both is.behavior none) is.behavior refl refl c)
