-- Which types fit where.
use Rattle.std.proofs.Common.{◌≡◌, ◌⊎◌, inl, inr, ◌≤◌, Bool, true, false, ◌&&◌, ◌||◌, cond, nat_eq, [], ◌∷◌, length, Option, Some, None, refl, ap, ◌∙◌}
use Rattle.std.proofs.lemmas.Bool.{and_parts, or_cases, eqb-true}
use Rattle.sal_ast.specs.declared.program.Behavior.{Behavior}
use Rattle.sal_ast.specs.declared.expression.Op.TheVariants as op
use Rattle.sal_ast.specs.Members.{constructor_of}
use Rattle.sal_sorts.specs.declared.sort.Base.TheVariants.{Int, Boolean, Str, Actor, Null}
use Rattle.sal_sorts.specs.declared.sort.Sort.{Sort}
use Rattle.sal_sorts.specs.Sorts.{is_same_sort, plain, is_int_sort, is_boolean_sort, is_text_sort, is_null_sort, is_printable_sort}
use Rattle.sal_sorts.specs.Environments.{Environment, is_actor_base, is_actor_sort, is_assignable, are_assignable, behavior_with_name, constructor_params, constructor_accepts}
use Rattle.sal_sorts.specs.Expressions.{are_comparable, operands_fit, operator_sort}
use Rattle.sal_typing.specs.Fitting.{IsActor, Fits, AssignableTypesFit, ArgumentsFit, MakesOf, ConstructorsTakeArguments, BothAre, IsPrintable, JoinTexts, AreComparable, OperandsHaveSorts}
use Rattle.sal_typing.proofs.Numbering.{number_of_known, stands_at}
use Rattle.sal_typing.proofs.ExpressionParts.{same_sort_is, int_is, boolean_is, text_is}
use Rattle.sal_typing.proofs.Messages.{actor_base_parts}

-- ---- values

null_is : (s : Sort) → is_null_sort s ≡ true → s ≡ plain Null
unfolding is_null_sort
null_is s h = same_sort_is s (plain Null) h

actor_is : (env : Environment) → length env.behaviors ≤ 64 → (s : Sort) → is_actor_sort env s ≡ true → IsActor env s
unfolding is_actor_sort
actor_is env few s h =
    let both = and_parts (is_actor_base env s.base) (nat_eq s.dims 0) h in
    let b = actor_base_parts env s.base both.0 in
    let d : s.dims ≡ 0 = eqb-true s.dims 0 both.1 in
    let n = number_of_known b.0 env few b.2 in
    let flat : record { base = Actor b.0; dims = s.dims } ≡ plain (Actor b.0) = ap (λ k. record { base = Actor b.0; dims = k }) d in
    let named : s ≡ record { base = Actor b.0; dims = s.dims } = ap (λ x. record { base = x; dims = s.dims }) b.1 in
    (b.0, n.0, named ∙ flat, n.1)

pub assignable_fits : AssignableTypesFit
unfolding is_assignable
assignable_fits env few s to h = by (is_null_sort s) refl h
  where
    by : (b : Bool) → is_null_sort s ≡ b → cond b (is_actor_sort env to) (is_same_sort s to) ≡ true → Fits env s to
    by true e k = inl (null_is s e, actor_is env few to k)
    by false e k = inr (same_sort_is s to k)

pub arguments_fit : ArgumentsFit
arguments_fit env few [] [] h = tt
arguments_fit env few [] (t ∷ ts) h = absurd cc
arguments_fit env few (s ∷ ss) [] h = absurd cc
arguments_fit env few (s ∷ ss) (t ∷ ts) h =
    let both = and_parts (is_assignable env s t) (are_assignable env ss ts) h in
    (assignable_fits env few s t both.0, arguments_fit env few ss ts both.1)

pub constructors_take : ConstructorsTakeArguments
unfolding constructor_accepts
constructors_take env few name args h = by (behavior_with_name name env) refl h
  where
    by : (o : Option Behavior) → behavior_with_name name env ≡ o → constructor_accepts o args env ≡ true → MakesOf env name args
    by None e k = absurd cc
    by (Some b) e k =
        let at = stands_at name env b few e in
        record { number = at.number; numbered = at.is; behavior = b; is_there = at.there; fit = arguments_fit env few args (constructor_params (constructor_of b)) k }

-- ---- operators

printable_is : (a : Sort) → is_printable_sort a ≡ true → IsPrintable a
unfolding is_printable_sort
printable_is a h = by (or_cases (is_text_sort a || is_int_sort a) (is_boolean_sort a) h)
  where
    in_two : ((is_text_sort a ≡ true) ⊎ (is_int_sort a ≡ true)) → IsPrintable a
    in_two (inl t) = inl (text_is a t)
    in_two (inr i) = inr (inl (int_is a i))

    by : (((is_text_sort a || is_int_sort a) ≡ true) ⊎ (is_boolean_sort a ≡ true)) → IsPrintable a
    by (inl two) = in_two (or_cases (is_text_sort a) (is_int_sort a) two)
    by (inr b) = inr (inr (boolean_is a b))

texts_join : (a b : Sort) → ((is_text_sort a || is_text_sort b) && is_printable_sort a && is_printable_sort b) ≡ true → JoinTexts a b
texts_join a b h =
    let all = and_parts ((is_text_sort a || is_text_sort b) && is_printable_sort a) (is_printable_sort b) h in
    let two = and_parts (is_text_sort a || is_text_sort b) (is_printable_sort a) all.0 in
    (one (or_cases (is_text_sort a) (is_text_sort b) two.0), printable_is a two.1, printable_is b all.1)
  where
    one : ((is_text_sort a ≡ true) ⊎ (is_text_sort b ≡ true)) → (a ≡ plain Str) ⊎ (b ≡ plain Str)
    one (inl t) = inl (text_is a t)
    one (inr t) = inr (text_is b t)

ints_are : (a b : Sort) → (is_int_sort a && is_int_sort b) ≡ true → BothAre (plain Int) a b
ints_are a b h = let both = and_parts (is_int_sort a) (is_int_sort b) h in (int_is a both.0, int_is b both.1)

booleans_are : (a b : Sort) → (is_boolean_sort a && is_boolean_sort b) ≡ true → BothAre (plain Boolean) a b
booleans_are a b h = let both = and_parts (is_boolean_sort a) (is_boolean_sort b) h in (boolean_is a both.0, boolean_is b both.1)

compared : (env : Environment) → length env.behaviors ≤ 64 → (a b : Sort) → are_comparable env a b ≡ true → AreComparable env a b
compared env few a b h = by (or_cases _ (is_null_sort b && is_actor_sort env a) h)
  where
    value : ((is_printable_sort a ≡ true) ⊎ (is_actor_sort env a ≡ true)) → IsPrintable a ⊎ IsActor env a
    value (inl p) = inl (printable_is a p)
    value (inr i) = inr (actor_is env few a i)

    same : (is_same_sort a b && (is_printable_sort a || is_actor_sort env a)) ≡ true → AreComparable env a b
    same e =
        let both = and_parts (is_same_sort a b) (is_printable_sort a || is_actor_sort env a) e in
        inl (same_sort_is a b both.0, value (or_cases (is_printable_sort a) (is_actor_sort env a) both.1))

    first : (is_null_sort a && is_actor_sort env b) ≡ true → AreComparable env a b
    first e = let both = and_parts (is_null_sort a) (is_actor_sort env b) e in inr (inl (null_is a both.0, actor_is env few b both.1))

    second : (is_null_sort b && is_actor_sort env a) ≡ true → AreComparable env a b
    second e = let both = and_parts (is_null_sort b) (is_actor_sort env a) e in inr (inr (null_is b both.0, actor_is env few a both.1))

    front : (((is_same_sort a b && (is_printable_sort a || is_actor_sort env a)) ≡ true) ⊎ ((is_null_sort a && is_actor_sort env b) ≡ true)) → AreComparable env a b
    front (inl e) = same e
    front (inr e) = first e

    by : ((((is_same_sort a b && (is_printable_sort a || is_actor_sort env a)) || (is_null_sort a && is_actor_sort env b)) ≡ true) ⊎ ((is_null_sort b && is_actor_sort env a) ≡ true)) → AreComparable env a b
    by (inl e) = front (or_cases (is_same_sort a b && (is_printable_sort a || is_actor_sort env a)) (is_null_sort a && is_actor_sort env b) e)
    by (inr e) = second e

added : (a b : Sort) (c : Bool) → (is_int_sort a && is_int_sort b) ≡ c → (c || ((is_text_sort a || is_text_sort b) && is_printable_sort a && is_printable_sort b)) ≡ true
    → (BothAre (plain Int) a b × (plain Int ≡ cond c (plain Int) (plain Str))) ⊎ (JoinTexts a b × (plain Str ≡ cond c (plain Int) (plain Str)))
added a b true e h = inl (ints_are a b e, refl)
added a b false e h = inr (texts_join a b h, refl)

pub operands_have_sorts : OperandsHaveSorts
unfolding operands_fit operator_sort
operands_have_sorts env few op.Or a b h = (booleans_are a b h, refl)
operands_have_sorts env few op.And a b h = (booleans_are a b h, refl)
operands_have_sorts env few op.Same a b h = (compared env few a b h, refl)
operands_have_sorts env few op.Other a b h = (compared env few a b h, refl)
operands_have_sorts env few op.Less a b h = (ints_are a b h, refl)
operands_have_sorts env few op.LessEq a b h = (ints_are a b h, refl)
operands_have_sorts env few op.Greater a b h = (ints_are a b h, refl)
operands_have_sorts env few op.GreaterEq a b h = (ints_are a b h, refl)
operands_have_sorts env few op.Add a b h = added a b (is_int_sort a && is_int_sort b) refl h
operands_have_sorts env few op.Sub a b h = (ints_are a b h, refl)
operands_have_sorts env few op.Mul a b h = (ints_are a b h, refl)
operands_have_sorts env few op.Div a b h = (ints_are a b h, refl)
operands_have_sorts env few op.Rem a b h = (ints_are a b h, refl)
