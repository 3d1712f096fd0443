-- The levels of operators by their ranks are those of the grammar.
use Rattle.std.proofs.Common.{◌≡◌, Bool, true, false, ◌||◌, List, [], ◌∷◌, Some, None, refl, ap, ◌∙◌}
use Rattle.std.specs.Prelude.{Ok, Err}
use Rattle.sal_ast.specs.declared.expression.Expr.{Expr}
use Rattle.sal_expressions.specs.declared.rank.Rank.{Rank}
use Rattle.sal_expressions.specs.declared.rank.Rank.TheVariants as rank
use Rattle.sal_expressions.specs.code.Ranks.{operators_of, tighter_rank, tighter_at, operand_at, operands_at, level_at, binds, sum_binds, relation_binds, equal_binds, and_binds, or_binds, goes_on, after_product, after_sum, after_relation, after_equal, after_and, after_tighter_at, after_at}
use Rattle.sal_expressions.proofs.Turns.{if_false}
use Rattle.sal_grammar.specs.Expressions.{operand_of, level, level_of, sum_of, equal_of, expr_of}
use Rattle.sal_grammar.specs.Parsers.{Outcome, Parser, and_then, ◌>>=◌, pure, many}
use Rattle.sal_grammar.specs.Sets as is
use Rattle.sal_grammar.specs.Tokens.{Token, Set, next}

same_level : (r t : Rank) (unary : Parser Expr) (i : List Token) → Some r ≡ Some t → level_at r unary i ≡ level_at t unary i
same_level r t unary i e = let f : r ≡ t = cc in ap (λ z. level_at z unary i) f

pub tighter_some : (r t : Rank) (unary : Parser Expr) (i : List Token) → tighter_rank r ≡ Some t → tighter_at r unary i ≡ level_at t unary i
unfolding tighter_at level_at sum_of equal_of
tighter_some rank.Or t unary i e = same_level rank.And t unary i e
tighter_some rank.And t unary i e = same_level rank.Equal t unary i e
tighter_some rank.Equal t unary i e = same_level rank.Relation t unary i e
tighter_some rank.Relation t unary i e = same_level rank.Sum t unary i e
tighter_some rank.Sum t unary i e = same_level rank.Product t unary i e
tighter_some rank.Product t unary i e = absurd (let f : None ≡ Some t = e in cc)

pub tighter_none : (r : Rank) (unary : Parser Expr) (i : List Token) → tighter_rank r ≡ None → tighter_at r unary i ≡ unary i
unfolding tighter_at
tighter_none rank.Product unary i e = refl
tighter_none rank.Or unary i e = absurd (let f : Some rank.And ≡ None = e in cc)
tighter_none rank.And unary i e = absurd (let f : Some rank.Equal ≡ None = e in cc)
tighter_none rank.Equal unary i e = absurd (let f : Some rank.Relation ≡ None = e in cc)
tighter_none rank.Relation unary i e = absurd (let f : Some rank.Sum ≡ None = e in cc)
tighter_none rank.Sum unary i e = absurd (let f : Some rank.Product ≡ None = e in cc)

pub expr_is : (unary : Parser Expr) (i : List Token) → expr_of unary i ≡ level_at rank.Or unary i
unfolding expr_of level_at tighter_at
expr_is unary i = refl

-- ---- after an operand

grouped : {A B C : Type 0} (o : Outcome A) (f : A → Parser B) (g : B → Parser C) → and_then (and_then o f) g ≡ and_then o (λ a. f a >>= g)
grouped (Ok p) f g = refl
grouped (Err e) f g = refl

then_pure : {A : Type 0} (o : Outcome A) → o ≡ and_then o pure
then_pure (Ok p) = refl
then_pure (Err e) = refl

-- a rank is an operand and what comes after it
rank_is : (ops : Set) (below unary : Parser Expr) (tighter : Expr → Parser Expr) (i : List Token) → below i ≡ (unary >>= tighter) i
    → level_of ops below i ≡ (unary >>= goes_on ops below tighter) i
unfolding level_of
rank_is ops below unary tighter i e =
    ap (λ o. and_then o (λ x. many ops (operand_of ops below) >>= (λ os. pure (level x os)))) e
    ∙ grouped (unary i) tighter (λ x. many ops (operand_of ops below) >>= (λ os. pure (level x os)))

product_is : (unary : Parser Expr) (i : List Token) → level_of is.product unary i ≡ (unary >>= after_product unary) i
unfolding after_product
product_is unary i = rank_is is.product unary unary pure i (then_pure (unary i))

sum_is : (unary : Parser Expr) (i : List Token) → sum_of unary i ≡ (unary >>= after_sum unary) i
unfolding sum_of after_sum
sum_is unary i = rank_is is.sum (level_of is.product unary) unary (after_product unary) i (product_is unary i)

relation_is : (unary : Parser Expr) (i : List Token) → level_of is.relation (sum_of unary) i ≡ (unary >>= after_relation unary) i
unfolding after_relation
relation_is unary i = rank_is is.relation (sum_of unary) unary (after_sum unary) i (sum_is unary i)

equal_is : (unary : Parser Expr) (i : List Token) → equal_of unary i ≡ (unary >>= after_equal unary) i
unfolding equal_of after_equal
equal_is unary i = rank_is is.equal (level_of is.relation (sum_of unary)) unary (after_relation unary) i (relation_is unary i)

and_is : (unary : Parser Expr) (i : List Token) → level_of is.and (equal_of unary) i ≡ (unary >>= after_and unary) i
unfolding after_and
and_is unary i = rank_is is.and (equal_of unary) unary (after_equal unary) i (equal_is unary i)

tighter_is : (r : Rank) (unary : Parser Expr) (i : List Token) → tighter_at r unary i ≡ (unary >>= after_tighter_at r unary) i
unfolding tighter_at after_tighter_at
tighter_is rank.Or unary i = and_is unary i
tighter_is rank.And unary i = equal_is unary i
tighter_is rank.Equal unary i = relation_is unary i
tighter_is rank.Relation unary i = sum_is unary i
tighter_is rank.Sum unary i = product_is unary i
tighter_is rank.Product unary i = then_pure (unary i)

pub level_is : (r : Rank) (unary : Parser Expr) (i : List Token) → level_at r unary i ≡ (unary >>= after_at r unary) i
unfolding level_at after_at operands_at operand_at
level_is r unary i = rank_is (operators_of r) (tighter_at r unary) unary (after_tighter_at r unary) i (tighter_is r unary i)

same_after : (r t : Rank) (unary : Parser Expr) (x : Expr) (i : List Token) → Some r ≡ Some t → after_at r unary x i ≡ after_at t unary x i
same_after r t unary x i e = let f : r ≡ t = cc in ap (λ z. after_at z unary x i) f

pub after_tighter_some : (r t : Rank) (unary : Parser Expr) (x : Expr) (i : List Token) → tighter_rank r ≡ Some t
    → after_tighter_at r unary x i ≡ after_at t unary x i
unfolding after_tighter_at after_at after_product after_sum after_relation after_equal after_and operands_at operand_at tighter_at
after_tighter_some rank.Or t unary x i e = same_after rank.And t unary x i e
after_tighter_some rank.And t unary x i e = same_after rank.Equal t unary x i e
after_tighter_some rank.Equal t unary x i e = same_after rank.Relation t unary x i e
after_tighter_some rank.Relation t unary x i e = same_after rank.Sum t unary x i e
after_tighter_some rank.Sum t unary x i e = same_after rank.Product t unary x i e
after_tighter_some rank.Product t unary x i e = absurd (let f : None ≡ Some t = e in cc)

pub after_tighter_none : (r : Rank) (unary : Parser Expr) (x : Expr) (i : List Token) → tighter_rank r ≡ None → after_tighter_at r unary x i ≡ Ok (x, i)
unfolding after_tighter_at
after_tighter_none rank.Product unary x i e = refl
after_tighter_none rank.Or unary x i e = absurd (let f : Some rank.And ≡ None = e in cc)
after_tighter_none rank.And unary x i e = absurd (let f : Some rank.Equal ≡ None = e in cc)
after_tighter_none rank.Equal unary x i e = absurd (let f : Some rank.Relation ≡ None = e in cc)
after_tighter_none rank.Relation unary x i e = absurd (let f : Some rank.Sum ≡ None = e in cc)
after_tighter_none rank.Sum unary x i e = absurd (let f : Some rank.Product ≡ None = e in cc)

-- ---- where no operator comes

left_none : (a b : Bool) → (a || b) ≡ false → a ≡ false
left_none false b e = refl
left_none true b e = e

right_none : (a b : Bool) → (a || b) ≡ false → b ≡ false
right_none false b e = e
right_none true b e = absurd (let f : true ≡ false = e in cc)

many_none : {A : Type 0} (go : Set) (item : Parser A) (i : List Token) → go (next i) ≡ false → many go item i ≡ Ok ([], i)
many_none go item [] e = refl
many_none go item (t ∷ ts) e = if_false _ _ (go (next (t ∷ ts))) e

rank_none : (ops : Set) (below : Parser Expr) (tighter : Expr → Parser Expr) (x : Expr) (i : List Token) → ops (next i) ≡ false
    → tighter x i ≡ Ok (x, i) → goes_on ops below tighter x i ≡ Ok (x, i)
rank_none ops below tighter x i g e =
    ap (λ o. and_then o (λ y. many ops (operand_of ops below) >>= (λ os. pure (level y os)))) e
    ∙ ap (λ o. and_then o (λ os. pure (level x os))) (many_none ops (operand_of ops below) i g)

product_none : (unary : Parser Expr) (x : Expr) (i : List Token) → is.product (next i) ≡ false → after_product unary x i ≡ Ok (x, i)
unfolding after_product
product_none unary x i g = rank_none is.product unary pure x i g refl

sum_none : (unary : Parser Expr) (x : Expr) (i : List Token) → sum_binds (next i) ≡ false → after_sum unary x i ≡ Ok (x, i)
unfolding after_sum
sum_none unary x i g =
    rank_none is.sum (level_of is.product unary) (after_product unary) x i (left_none (is.sum (next i)) (is.product (next i)) g)
    (product_none unary x i (right_none (is.sum (next i)) (is.product (next i)) g))

relation_none : (unary : Parser Expr) (x : Expr) (i : List Token) → relation_binds (next i) ≡ false → after_relation unary x i ≡ Ok (x, i)
unfolding after_relation
relation_none unary x i g =
    rank_none is.relation (sum_of unary) (after_sum unary) x i (left_none (is.relation (next i)) (sum_binds (next i)) g)
    (sum_none unary x i (right_none (is.relation (next i)) (sum_binds (next i)) g))

equal_none : (unary : Parser Expr) (x : Expr) (i : List Token) → equal_binds (next i) ≡ false → after_equal unary x i ≡ Ok (x, i)
unfolding after_equal
equal_none unary x i g =
    rank_none is.equal (level_of is.relation (sum_of unary)) (after_relation unary) x i (left_none (is.equal (next i)) (relation_binds (next i)) g)
    (relation_none unary x i (right_none (is.equal (next i)) (relation_binds (next i)) g))

and_none : (unary : Parser Expr) (x : Expr) (i : List Token) → and_binds (next i) ≡ false → after_and unary x i ≡ Ok (x, i)
unfolding after_and
and_none unary x i g =
    rank_none is.and (equal_of unary) (after_equal unary) x i (left_none (is.and (next i)) (equal_binds (next i)) g)
    (equal_none unary x i (right_none (is.and (next i)) (equal_binds (next i)) g))

or_none : (unary : Parser Expr) (x : Expr) (i : List Token) → or_binds (next i) ≡ false → after_at rank.Or unary x i ≡ Ok (x, i)
unfolding after_at after_tighter_at operands_at operand_at tighter_at
or_none unary x i g =
    rank_none is.or (level_of is.and (equal_of unary)) (after_and unary) x i (left_none (is.or (next i)) (and_binds (next i)) g)
    (and_none unary x i (right_none (is.or (next i)) (and_binds (next i)) g))

pub after_none : (r : Rank) (unary : Parser Expr) (x : Expr) (i : List Token) → binds r (next i) ≡ false → after_at r unary x i ≡ Ok (x, i)
unfolding after_at after_tighter_at after_product after_sum after_relation after_equal after_and operands_at operand_at tighter_at
after_none rank.Or unary x i g = or_none unary x i g
after_none rank.And unary x i g = and_none unary x i g
after_none rank.Equal unary x i g = equal_none unary x i g
after_none rank.Relation unary x i g = relation_none unary x i g
after_none rank.Sum unary x i g = sum_none unary x i g
after_none rank.Product unary x i g = product_none unary x i g
