-- The parser of expressions reads its words exactly.
use Rattle.std.proofs.Common.{◌≡◌, ℕ, suc, true, false, List, [], ◌∷◌, ◌++◌, length, refl, Option, Some, None}
use Rattle.sal_ast.specs.declared.expression.At.{roll-At}
use Rattle.sal_ast.specs.declared.expression.Expr.{Expr}
use Rattle.sal_ast.specs.declared.expression.Expr.TheVariants as e
use Rattle.sal_ast.specs.declared.expression.Suffix.{Suffix}
use Rattle.sal_ast.specs.declared.expression.Suffix.TheVariants as s
use Rattle.sal_ast.specs.declared.program.Ident.{Ident}
use Rattle.sal_grammar.specs.declared.class.Class.{Class}
use Rattle.sal_grammar.specs.declared.class.Class.TheVariants as k
use Rattle.sal_grammar.specs.Tokens.{Token, Set, class_of, none, both}
use Rattle.sal_grammar.specs.Sets as is
use Rattle.sal_grammar.specs.Parsers.{Parser}
use Rattle.sal_grammar.specs.Expressions.{ident, name_of, operand, level, suffixed, sign_of, items_until, list_until, pair, pairs, level_of, sum_of, equal_of, expr_of, prefix, getter, getter_cast, after_paren, paren, index, size, suffix, suffixes, with_suffixes, second, place, new_actor, new_sized, new_list, new_array, type_of}
use Rattle.sal_grammar.proofs.Exactness.{Apart, Good, seq_good, seq_good_empty}
use Rattle.sal_grammar.proofs.Classes.{dis, sub}
use Rattle.sal_grammar.proofs.Choices.{nothing, unless_good, first_good, any_before, more_good, where_good, counted_good, Positive}
use Rattle.sal_grammar.proofs.Lists.{list_good}
use Rattle.sal_grammar.proofs.Steps.{self, no, free, least, drop_none, second_in, both_apart, apart_both, agree, done, then_good, map_good, map_good_empty, closed_good}
use Rattle.sal_grammar.proofs.ExpressionWords.{ItemsUntilWord, ListUntilWord, PairWord, PairsWord, LevelOfWord, SumOfWord, EqualOfWord, ExprOfWord, PrefixWord, GetterWord, GetterCastWord, AfterParenWord, ParenWord, IndexWord, SizeWord, SuffixWord, SuffixesWord, WithSuffixesWord, SecondWord, PlaceWord, NewActorWord, NewSizedWord, NewListWord, NewArrayWord}

-- ---- lists

pub items_good : {A : Type 0} {pre first m close : Set} {W : A → List Token → Type 0} {item : Parser A} (c : Class) → close c ≡ true → close k.End ≡ false
    → Apart close is.comma → Apart close m → Apart is.comma m → Good none first false W (λ _. m) item
    → Good pre first false (ItemsUntilWord close W) nothing (items_until close item)
items_good {m = m} c sure never a a' a'' g =
    seq_good (any_before g)
    (λ x. seq_good_empty (list_good {m = m} (then_good k.Comma refl refl (λ _. g)) self a'' refl) (λ others. then_good c sure never (λ _. done (x ∷ others))) (λ others. apart_both a a') tt)
    (λ x. both_apart a'' a') tt

pub list_until_good : {A : Type 0} {pre first m close : Set} {W : A → List Token → Type 0} {item : Parser A} (c : Class) → close c ≡ true → close k.End ≡ false
    → Apart close is.comma → Apart close m → Apart is.comma m → Apart first close → Good none first false W (λ _. m) item
    → Good pre (both close first) false (ListUntilWord close W) nothing (list_until close item)
list_until_good c sure never a a' a'' b g =
    where_good (then_good c sure never (λ _. done [])) (items_good {pre = none} c sure never a a' a'' g) self b least tt

pub pair_good : {pre : Set} → Good pre is.open_bracket false PairWord nothing pair
pair_good = then_good k.OpenBracket refl refl (λ _. then_good k.CloseBracket refl refl (λ _. done tt))

pub pairs_good : {pre : Set} → Good pre is.open_bracket true PairsWord (λ _. is.open_bracket) pairs
pairs_good = any_before (more_good (map_good_empty length (list_good {m = none} pair_good self free refl)) (λ a c. agree (both is.open_bracket none) is.open_bracket refl refl c))

-- ---- operators

pub level_good : {ops m first : Set} {W : Expr → List Token → Type 0} {below : Parser Expr} (c : Class) → ops c ≡ true → ops k.End ≡ false → Apart ops m
    → Good none first false W (λ _. m) below → Good none first false (LevelOfWord ops W) (λ _. both ops m) (level_of ops below)
unfolding LevelOfWord level_of
level_good {ops = ops} {m = m} c sure never a g =
    seq_good g (λ x. map_good_empty (level x) (list_good {m = m} (then_good c sure never (λ t. map_good (operand t) g)) self a never)) (λ x. a) (λ x d v. second_in ops)

abbrev after_sum : Set
after_sum = both is.sum (both is.product is.after_unary)

abbrev after_equal : Set
after_equal = both is.equal (both is.relation after_sum)

sum_good : {first : Set} {W : Expr → List Token → Type 0} {below : Parser Expr} → Good none first false W (λ _. is.after_unary) below
    → Good none first false (SumOfWord W) (λ _. after_sum) (sum_of below)
unfolding SumOfWord sum_of
sum_good g = level_good k.Plus refl refl (dis refl) (level_good k.Star refl refl (dis refl) g)

equal_good : {first : Set} {W : Expr → List Token → Type 0} {below : Parser Expr} → Good none first false W (λ _. is.after_unary) below
    → Good none first false (EqualOfWord W) (λ _. after_equal) (equal_of below)
unfolding EqualOfWord equal_of
equal_good g = level_good k.Same refl refl (dis refl) (level_good k.Less refl refl (dis refl) (sum_good g))

pub expr_of_good : {first : Set} {W : Expr → List Token → Type 0} {below : Parser Expr} → Good none first false W (λ _. is.after_unary) below
    → Good none first false (ExprOfWord W) (λ _. is.after_expr) (expr_of below)
unfolding ExprOfWord expr_of
expr_of_good g = more_good (level_good k.Or refl refl (dis refl) (level_good k.And refl refl (dis refl) (equal_good g)))
    (λ a c. agree (both is.or (both is.and after_equal)) is.after_expr refl refl c)

-- ---- constructs that count, where what stands one deeper is read exactly

-- what is asked of the parser one deeper
abbrev pub Operands : (Expr → List Token → Type 0) → Parser Expr → Type 0
Operands W below = Good none is.first_expr false W (λ _. is.after_unary) below

pub prefix_good : {pre : Set} {W : Expr → List Token → Type 0} {below : Parser Expr} → Operands W below → Good pre is.prefix false (PrefixWord W) (λ _. is.after_unary) (prefix below)
unfolding PrefixWord prefix
prefix_good g = then_good k.Minus refl refl (λ t. map_good (sign_of (class_of t) t.at) g)

pub getter_good : {pre : Set} {W : Expr → List Token → Type 0} {below : Parser Expr} → Operands W below → (at : ℕ) (cast : Option Ident) (behavior : Ident)
    → Good pre is.getter false (GetterWord W at cast behavior) nothing (getter below at cast behavior)
unfolding GetterWord getter
getter_good g at cast behavior =
    then_good k.Getter refl refl (λ _. then_good k.OpenParen refl refl (λ _. closed_good k.CloseParen refl refl (dis refl) (e.ByName at cast behavior) (expr_of_good g)))

pub getter_cast_good : {pre : Set} {W : Expr → List Token → Type 0} {below : Parser Expr} → Operands W below → (at : ℕ) (cast : Ident)
    → Good pre is.id false (GetterCastWord W at cast) nothing (getter_cast below at cast)
unfolding GetterCastWord getter_cast
getter_cast_good g at cast = then_good k.Id refl refl (λ t. then_good k.Dot refl refl (λ _. getter_good g at (Some cast) (ident t)))

pub index_good : {pre : Set} {W : Expr → List Token → Type 0} {below : Parser Expr} → Operands W below → Good pre is.open_bracket false (IndexWord W) nothing (index below)
unfolding IndexWord index
index_good g = then_good k.OpenBracket refl refl (λ t. closed_good k.CloseBracket refl refl (dis refl) (s.Index t.at) (expr_of_good g))

-- ---- suffixes

size_good : {pre : Set} → Good pre is.dot false SizeWord nothing size
size_good = then_good k.Dot refl refl (λ t. then_good k.Length refl refl (λ _. done (s.Length t.at)))

pub suffix_good : {pre : Set} {W : Expr → List Token → Type 0} {below : Parser Expr} (d : ℕ) → (Positive d → Operands W below)
    → Good pre is.suffix false (SuffixWord d W) nothing (suffix d below)
unfolding SuffixWord suffix
suffix_good d g = first_good (counted_good {pre' = none} d (λ p. index_good (g p)) size_good self (dis refl) least tt) (sub refl)

pub suffixes_good : {pre : Set} {W : Expr → List Token → Type 0} {below : Parser Expr} (d : ℕ) → (Positive d → Operands W below)
    → Good pre is.suffix true (SuffixesWord d W) (λ _. is.suffix) (suffixes d below)
unfolding SuffixesWord suffixes
suffixes_good d g = any_before (more_good (list_good {m = none} (suffix_good d g) self free refl) (λ a c. agree (both is.suffix none) is.suffix refl refl c))

pub with_suffixes_good : {pre : Set} {W : Expr → List Token → Type 0} {below : Parser Expr} (d : ℕ) → (Positive d → Operands W below) → (x : Expr) (found : List Suffix)
    → Good pre is.suffix true (WithSuffixesWord d W x found) (λ _. is.after_unary) (with_suffixes d below x found)
unfolding WithSuffixesWord with_suffixes
with_suffixes_good d g x found = first_good (seq_good_empty (suffixes_good d g) (λ os. unless_good (suffixed x (found ++ os))) (λ os. no) (λ os y v. sub refl)) drop_none

pub after_paren_good : {pre : Set} {W : Expr → List Token → Type 0} {below : Parser Expr} (d : ℕ) → Operands W below → (at : ℕ) (x : Expr) (name : Option Ident)
    → Good pre (both is.id is.suffix) true (AfterParenWord d W at x name) (λ _. is.after_unary) (after_paren d below at x name)
after_paren_good d g at x None = first_good (with_suffixes_good d (λ _. g) (e.Paren at x) []) (second_in is.id)
after_paren_good d g at x (Some name) =
    first_good (where_good {pre' = none} (seq_good (getter_cast_good g at name) (λ y. with_suffixes_good d (λ _. g) y []) (λ y. free) (λ y z v. least))
    (with_suffixes_good d (λ _. g) (e.Paren at x) []) self (dis refl) least (λ y v. sub refl)) (sub refl)

pub paren_good : {pre : Set} {W : Expr → List Token → Type 0} {below : Parser Expr} (d : ℕ) → Operands W below
    → Good pre is.open_paren false (ParenWord d W) (λ _. is.after_unary) (paren d below)
unfolding ParenWord paren
paren_good d g =
    then_good k.OpenParen refl refl (λ t. seq_good (expr_of_good g)
    (λ x. then_good k.CloseParen refl refl (λ _. after_paren_good d g t.at x (name_of x))) (λ x. dis refl) tt)

-- ---- new

second_good : {pre : Set} {W : Expr → List Token → Type 0} {below : Parser Expr} → Operands W below
    → Good pre (both is.comma is.close_paren) false (SecondWord W) nothing (second below)
unfolding SecondWord second
second_good g =
    where_good {pre' = none} (then_good k.Comma refl refl (λ _. closed_good k.CloseParen refl refl (dis refl) Some (expr_of_good g)))
    (then_good k.CloseParen refl refl (λ _. done None)) self (dis refl) least tt

place_good : {pre : Set} {W : Expr → List Token → Type 0} {below : Parser Expr} → Operands W below → Good pre is.at false (PlaceWord W) nothing (place below)
unfolding PlaceWord place
place_good g =
    then_good k.At refl refl (λ t. then_good k.OpenParen refl refl (λ _. seq_good (expr_of_good g)
    (λ x. map_good (λ y. roll-At (record { at = t.at; uan = x; ual = y })) (second_good g)) (λ x. dis refl) tt))

pub new_actor_good : {pre : Set} {W : Expr → List Token → Type 0} {below : Parser Expr} (d : ℕ) → Operands W below → (at : ℕ) (behavior : Ident)
    → Good pre is.open_paren false (NewActorWord d W at behavior) (λ _. is.after_unary) (new_actor d below at behavior)
unfolding NewActorWord new_actor
new_actor_good d g at behavior =
    then_good k.OpenParen refl refl (λ _. seq_good (list_until_good k.CloseParen refl refl (dis refl) (dis refl) (dis refl) (dis refl) (expr_of_good g))
    (λ args. where_good {pre' = none}
    (seq_good (place_good g) (λ p. with_suffixes_good d (λ _. g) (e.New at behavior args (Some p)) []) (λ p. free) (λ p y v. least))
    (with_suffixes_good d (λ _. g) (e.New at behavior args None) []) self (dis refl) least (λ y v. sub refl))
    (λ args. free) (λ args y v. least))

new_sized_good : {pre : Set} {W : Expr → List Token → Type 0} {below : Parser Expr} → Operands W below → (at : ℕ) (sort : Token)
    → Good pre is.first_expr false (NewSizedWord W at sort) (λ _. is.after_unary) (new_sized below at sort)
unfolding NewSizedWord new_sized
new_sized_good g at sort =
    seq_good (any_before (expr_of_good g)) (λ x. then_good k.CloseBracket refl refl (λ _. seq_good_empty pairs_good (λ n. unless_good (e.Make at (type_of sort (suc n)) x)) (λ n. no) (λ n y v. sub refl))) (λ x. dis refl) tt

new_list_good : {pre : Set} {W : Expr → List Token → Type 0} {below : Parser Expr} → Operands W below → (at : ℕ) (sort : Token)
    → Good pre is.close_bracket false (NewListWord W at sort) (λ _. is.after_unary) (new_list below at sort)
unfolding NewListWord new_list
new_list_good g at sort =
    then_good k.CloseBracket refl refl (λ _. seq_good_empty pairs_good
    (λ n. then_good k.OpenBrace refl refl (λ _. seq_good
    (list_until_good k.CloseBrace refl refl (dis refl) (dis refl) (dis refl) (dis refl) (expr_of_good g))
    (λ items. unless_good (e.ListOf at (type_of sort (suc n)) items)) (λ items. no) (λ items y v. least)))
    (λ n. dis refl) tt)

pub new_array_good : {pre : Set} {W : Expr → List Token → Type 0} {below : Parser Expr} → Operands W below → (at : ℕ) (sort : Token)
    → Good pre is.open_bracket false (NewArrayWord W at sort) (λ _. is.after_unary) (new_array below at sort)
unfolding NewArrayWord new_array
new_array_good g at sort =
    then_good k.OpenBracket refl refl (λ _. where_good {pre' = none} (new_list_good g at sort) (new_sized_good g at sort) self (dis refl) least tt)
