-- Operands with operators between them: words of a level are the trees of its rank.
use Rattle.std.proofs.Common.{◌≡◌, ◌⊎◌, ℕ, zero, suc, ◌≤◌, ◌<◌, max, Bool, true, false, ◌&&◌, ◌||◌, not, List, [], ◌∷◌, ◌++◌, map, Option, Some, None, refl, sym, ap, ◌∙◌, subst, append-nil, arith, rules}
use Rattle.std.specs.Prelude.{nat_le, nat_eq}
use Rattle.std.specs.List.{list_all}
use Rattle.std.proofs.lemmas.Bool.{leb-true, le-leb, leb-false, eq-eqb, eqb-true}
use Rattle.sal_ast.specs.declared.lexeme.Kind.{Kind}
use Rattle.sal_ast.specs.declared.lexeme.Kind.TheVariants as kind
use Rattle.sal_ast.specs.declared.expression.At.{At}
use Rattle.sal_ast.specs.declared.expression.Expr.{Expr, out-Expr, roll-Expr, the_lemmas}
use Rattle.sal_ast.specs.declared.expression.Expr.TheFolds.{map-Expr, fold-roll-Expr}
use Rattle.sal_ast.specs.declared.expression.Expr.TheOpen.{Expr-F}
use Rattle.sal_ast.specs.declared.expression.Expr.TheVariants as e
use Rattle.sal_ast.specs.declared.expression.Op.{Op}
use Rattle.sal_ast.specs.declared.expression.Op.TheVariants as op
use Rattle.sal_ast.specs.declared.expression.Operand.{Operand}
use Rattle.sal_ast.specs.declared.expression.Suffix.{Suffix}
use Rattle.sal_ast.specs.Depth.{greatest, depth_expr, depth_operand}
use Rattle.sal_ast.specs.Regular.{Shape, RankedOperand, rank_of, has_rank, is_operand_at, shape_of, ranked_operand, suffix_is_regular, at_is_regular, shape_step, suffix_step, at_step, operand_step, expr_is_regular}
use Rattle.sal_ast.specs.Spell.{TreeToken, TreeTokens, concat_tokens, spell_op, spell_expr, spell_operand}
use Rattle.sal_ast.proofs.DepthEquations.{depth-Level, depth-Operand}
use Rattle.sal_ast.proofs.RegularEquations.{regular-Level, regular-Operand}
use Rattle.sal_ast.proofs.SpellEquations.{spell-Level, spell-Operand}
use Rattle.sal_grammar.specs.declared.class.Class.{Class}
use Rattle.sal_grammar.specs.Tokens.{Token, Set, Lexemes, class_of, classes}
use Rattle.sal_grammar.specs.Sets as is
use Rattle.sal_grammar.specs.Refusals.{Spells}
use Rattle.sal_grammar.specs.Expressions.{op_of, operand, level}
use Rattle.sal_grammar.proofs.Exactness.{differ}
use Rattle.sal_grammar.proofs.Classes.{of_all}
use Rattle.sal_grammar.proofs.Languages.{Seq, One, Just, Either, Star}
use Rattle.sal_grammar.proofs.ExpressionWords.{OperandOfWord, LevelOfWord, SumOfWord, EqualOfWord, ExprOfWord}
use Rattle.sal_grammar.proofs.TreesTokens.{alone, tells, table_class, kind_in, text_in, class_at, left_true, right_true, both_true}
use Rattle.sal_grammar.proofs.TreesSteps.{Gives, Into, Takes, Fine, Each, AllOf, fine_each, each_fine, most, first_most, second_most, gives_by, into_seq, into_end, star_gives, star_takes, take_seq, take_end, take_as, lexemes_right}
use Rattle.sal_grammar.proofs.TreesLists.{Link}

-- a regular expression of this rank at least and of this depth at most
abbrev pub Ranked : ℕ → ℕ → Expr → Type 0
Ranked rank d = Fine (λ x. has_rank rank (shape_of x)) depth_expr d

-- facts by what shape and depth are
pub ranked_by : (rank : ℕ) {d m : ℕ} {x : Expr} {s : Shape} → shape_of x ≡ s → depth_expr x ≡ m → has_rank rank s ≡ true → m ≤ d → Ranked rank d x
ranked_by rank {d = d} es em h l = record { good = ap (has_rank rank) es ∙ h; fits = subst (λ z. z ≤ d) (sym em) l }

pub stands_by : (rank : ℕ) {d : ℕ} {x : Expr} {s : Shape} → shape_of x ≡ s → Ranked rank d x → has_rank rank s ≡ true
stands_by rank es f = ap (has_rank rank) (sym es) ∙ f.good

pub depth_by : (rank : ℕ) {d m : ℕ} {x : Expr} → depth_expr x ≡ m → Ranked rank d x → m ≤ d
depth_by rank {d = d} em f = subst (λ z. z ≤ d) em f.fits

pub regular_by : (rank : ℕ) {d : ℕ} {x : Expr} → Ranked rank d x → expr_is_regular x ≡ true
regular_by rank {x = x} f = right_true (nat_le rank (shape_of x).rank) (expr_is_regular x) f.good

pub stands_in : (rank : ℕ) (s : Shape) → rank ≤ s.rank → s.regular ≡ true → has_rank rank s ≡ true
stands_in rank s l r = both_true (nat_le rank s.rank) s.regular (le-leb rank s.rank l) r

pub rank_in : (rank : ℕ) (s : Shape) → has_rank rank s ≡ true → rank ≤ s.rank
rank_in rank s h = leb-true rank s.rank (left_true (nat_le rank s.rank) s.regular h)

pub regular_in : (rank : ℕ) (s : Shape) → has_rank rank s ≡ true → s.regular ≡ true
regular_in rank s h = right_true (nat_le rank s.rank) s.regular h

pub looser : (n : ℕ) {d : ℕ} (x : Expr) → Ranked (suc n) d x → Ranked n d x
looser n x f =
    let l = rank_in (suc n) (shape_of x) f.good in
    record { good = stands_in n (shape_of x) (omega (arith, l)) (regular_in (suc n) (shape_of x) f.good); fits = f.fits }

-- ---- layers

abbrev pub Layer : Type 0
Layer = Expr-F Expr Suffix At Operand

pub rolled : (x : Expr) → roll-Expr (out-Expr x) ≡ x
rolled x = search (rules, the_lemmas)

pub shape_roll : (l : Layer) → shape_of (roll-Expr l) ≡ shape_step (map-Expr Expr Suffix At Operand Shape Bool Bool RankedOperand shape_of suffix_is_regular at_is_regular ranked_operand l)
unfolding shape_of suffix_is_regular at_is_regular ranked_operand
shape_roll l = fold-roll-Expr Shape Bool Bool RankedOperand shape_step suffix_step at_step operand_step l

pub rank_most : (o : Op) → rank_of o ≤ 5
rank_most op.Or = omega arith
rank_most op.And = omega arith
rank_most op.Same = omega arith
rank_most op.Other = omega arith
rank_most op.Less = omega arith
rank_most op.LessEq = omega arith
rank_most op.Greater = omega arith
rank_most op.GreaterEq = omega arith
rank_most op.Add = omega arith
rank_most op.Sub = omega arith
rank_most op.Mul = omega arith
rank_most op.Div = omega arith
rank_most op.Rem = omega arith

pub record IsLevel (x : Expr) : Type 0 where
  pub first : Expr
  pub head : Operand
  pub others : List Operand
  pub same : x ≡ e.Level first (head ∷ others)

level_layer : (l : Layer) → (shape_of (roll-Expr l)).rank ≤ 5 → (shape_of (roll-Expr l)).regular ≡ true → IsLevel (roll-Expr l)
level_layer (Expr-F.Level x []) h r = absurd (let g : false ≡ true = ap (λ (z : Shape). z.regular) (sym (shape_roll (Expr-F.Level x []))) ∙ r in differ (sym g))
level_layer (Expr-F.Level x (o ∷ os)) h r = record { first = x; head = o; others = os; same = e.rolls-Level x (o ∷ os) }
level_layer (Expr-F.Suffixed x []) h r = absurd (omega (arith, ap (λ (z : Shape). z.rank) (shape_roll (Expr-F.Suffixed x [])), h))
level_layer (Expr-F.Suffixed x (o ∷ os)) h r = absurd (omega (arith, ap (λ (z : Shape). z.rank) (shape_roll (Expr-F.Suffixed x (o ∷ os))), h))
level_layer l h r = absurd (omega (arith, ap (λ (z : Shape). z.rank) (shape_roll l), h))

-- what is looser than a unary expression is a level
pub level_view : (x : Expr) → (shape_of x).rank ≤ 5 → (shape_of x).regular ≡ true → IsLevel x
level_view x h r =
    subst IsLevel (rolled x)
    (level_layer (out-Expr x) (subst (λ z. (shape_of z).rank ≤ 5) (sym (rolled x)) h) (subst (λ z. (shape_of z).regular ≡ true) (sym (rolled x)) r))

-- ---- operators

and_then : (a b : Bool) → not a || b ≡ true → a ≡ true → b ≡ true
and_then true b h x = h
and_then false b h x = absurd (differ (sym x))

abbrev every : (Op → Bool) → List Op → Bool
every f ops = list_all f ops

abbrev after_or : List Op
after_or = op.And ∷ op.Same ∷ op.Other ∷ op.Less ∷ op.LessEq ∷ op.Greater ∷ op.GreaterEq ∷ op.Add ∷ op.Sub ∷ op.Mul ∷ op.Div ∷ op.Rem ∷ []

abbrev operators : List Op
operators = op.Or ∷ after_or

abbrev Holds : (Op → Bool) → List Op → Type 0
Holds f [] = Unit {0}
Holds f (o ∷ os) = (f o ≡ true) × Holds f os

holds : (f : Op → Bool) (os : List Op) → list_all f os ≡ true → Holds f os
holds f [] h = tt
holds f (o ∷ os) h = (left_true (f o) (list_all f os) h, holds f os (right_true (f o) (list_all f os) h))

pick : (f : Op → Bool) → Holds f operators → (o : Op) → f o ≡ true
pick f h op.Or = h.0
pick f h op.And = h.1.0
pick f h op.Same = h.1.1.0
pick f h op.Other = h.1.1.1.0
pick f h op.Less = h.1.1.1.1.0
pick f h op.LessEq = h.1.1.1.1.1.0
pick f h op.Greater = h.1.1.1.1.1.1.0
pick f h op.GreaterEq = h.1.1.1.1.1.1.1.0
pick f h op.Add = h.1.1.1.1.1.1.1.1.0
pick f h op.Sub = h.1.1.1.1.1.1.1.1.1.0
pick f h op.Mul = h.1.1.1.1.1.1.1.1.1.1.0
pick f h op.Div = h.1.1.1.1.1.1.1.1.1.1.1.0
pick f h op.Rem = h.1.1.1.1.1.1.1.1.1.1.1.1.0

-- the tokens of a set are the operators of a rank
pub record Signs (ops : Set) (n : ℕ) : Type 0 where
  pub kinds : alone ops kind.Sign ≡ true
  pub texts : tells ops (λ c. spell_op (op_of c)) kind.Sign ≡ true
  pub rank : list_all (λ c. not (ops c) || nat_eq (rank_of (op_of c)) n) classes ≡ true
  pub known : list_all (λ o. not (nat_eq (rank_of o) n) || ops (table_class kind.Sign (spell_op o))) operators ≡ true

op_back : (o : Op) → op_of (table_class kind.Sign (spell_op o)) ≡ o
op_back op.Or = refl
op_back op.And = refl
op_back op.Same = refl
op_back op.Other = refl
op_back op.Less = refl
op_back op.LessEq = refl
op_back op.Greater = refl
op_back op.GreaterEq = refl
op_back op.Add = refl
op_back op.Sub = refl
op_back op.Mul = refl
op_back op.Div = refl
op_back op.Rem = refl

operator_gives : {ops : Set} {n : ℕ} → Signs ops n
    → Gives (One ops) (λ t. rank_of (op_of (class_of t)) ≡ n) (λ t. record { kind = kind.Sign; text = spell_op (op_of (class_of t)); at = Some t.at } ∷ [])
operator_gives {ops = ops} {n = n} s = record {
  fact = λ t u hl w. eqb-true (rank_of (op_of (class_of t))) n (and_then (ops (class_of t)) _ (of_all (λ c. not (ops c) || nat_eq (rank_of (op_of c)) n) s.rank (class_of t)) w.fits);
  spells = λ t u hl w.
      let ek : t.kind ≡ kind.Sign = kind_in ops kind.Sign s.kinds t w.fits in
      subst (λ z. Spells (record { kind = kind.Sign; text = spell_op (op_of (class_of t)); at = Some t.at } ∷ []) z) w.alone
      (record { kind = sym ek; text = sym (text_in ops (λ c. spell_op (op_of c)) kind.Sign s.texts t ek w.fits); place = refl }, tt);
}

abbrev pub Joined : ℕ → ℕ → Operand → Type 0
Joined n d = Fine (λ o. is_operand_at n (ranked_operand o)) depth_operand d

operand_fact : (n d : ℕ) (t : Token) (x : Expr) → rank_of (op_of (class_of t)) ≡ n → Ranked (suc n) d x → Joined n d (operand t x)
operand_fact n d t x h f = record {
  good = ap (is_operand_at n) (regular-Operand (operand t x)) ∙ both_true (nat_eq (rank_of (op_of (class_of t))) n) (has_rank (suc n) (shape_of x)) (eq-eqb (rank_of (op_of (class_of t))) n h) f.good;
  fits = subst (λ z. z ≤ d) (sym (depth-Operand (operand t x))) f.fits;
}

operand_takes : {ops : Set} {n d : ℕ} {W : Expr → List Token → Type 0} → Signs ops n → Link W (Ranked (suc n) d) spell_expr
    → (o : Operand) → Joined n d o → Takes (OperandOfWord ops W) o (spell_operand o)
operand_takes {ops = ops} {n = n} {d = d} {W = W} s l o f = take_as (spell-Operand o) (record { word = by })
  where
    good : nat_eq (rank_of o.op) n && has_rank (suc n) (shape_of o.value) ≡ true
    good = ap (is_operand_at n) (sym (regular-Operand o)) ∙ f.good

    value : Takes (λ x. W x) o.value (spell_expr o.value)
    value = l.takes o.value (record { good = right_true (nat_eq (rank_of o.op) n) (has_rank (suc n) (shape_of o.value)) good; fits = subst (λ z. z ≤ d) (depth-Operand o) f.fits })

    by : (u : List Token) → Lexemes u → Spells (record { kind = kind.Sign; text = spell_op o.op; at = Some o.at } ∷ spell_expr o.value) u → OperandOfWord ops W o u
    by [] hl x = absurd x
    by (t ∷ u) hl x =
        let c : class_of t ≡ table_class kind.Sign (spell_op o.op) = class_at t kind.Sign (spell_op o.op) (sym x.0.kind) (sym x.0.text) in
        let same : op_of (class_of t) ≡ o.op = ap op_of c ∙ op_back o.op in
        let known : ops (table_class kind.Sign (spell_op o.op)) ≡ true =
        and_then (nat_eq (rank_of o.op) n) (ops (table_class kind.Sign (spell_op o.op))) (pick (λ q. not (nat_eq (rank_of q) n) || ops (table_class kind.Sign (spell_op q))) (holds (λ q. not (nat_eq (rank_of q) n) || ops (table_class kind.Sign (spell_op q))) operators s.known) o.op) (left_true (nat_eq (rank_of o.op) n) (has_rank (suc n) (shape_of o.value)) good) in
        record {
          item = t;
          left = t ∷ [];
          right = u;
          first = record { fits = ap ops c ∙ known; alone = refl };
          second = record {
            item = o.value;
            left = u;
            right = [];
            first = value.word u (lexemes_right (t ∷ []) u hl) x.1;
            second = record { same = ap (λ z. record { op = z; at = t.at; value = o.value }) same ∙ ap (λ z. record { op = o.op; at = z; value = o.value }) (sym x.0.place); empty = refl };
            joined = append-nil u;
          };
          joined = refl;
        }

operand_link : {ops : Set} {n d : ℕ} {W : Expr → List Token → Type 0} → Signs ops n → Link W (Ranked (suc n) d) spell_expr → Link (OperandOfWord ops W) (Joined n d) spell_operand
operand_link {n = n} {d = d} s l = record {
  gives = gives_by (into_seq (operator_gives s) (λ t h. into_end (operand t) l.gives (λ x f. operand_fact n d t x h f) (λ x. sym (spell-Operand (operand t x)))));
  takes = operand_takes s l;
}

-- ---- levels

joined_all : (n : ℕ) → AllOf (λ o. is_operand_at n (ranked_operand o)) (λ os. list_all (is_operand_at n) (map ranked_operand os))
joined_all n = record { none = refl; more = λ x xs. refl }

level_fact : (n d : ℕ) (x : Expr) (os : List Operand) → Ranked (suc n) d x → Each (Joined n d) os → Ranked n d (level x os)
level_fact n d x [] f h = looser n x f
level_fact n d x (o ∷ os) f h =
    let p = fine_each (joined_all n) (o ∷ os) h in
    let r : (ranked_operand o).rank ≡ n = eqb-true (ranked_operand o).rank n (left_true (nat_eq (ranked_operand o).rank n) (has_rank (suc n) (ranked_operand o).value) h.0.good) in
    let g : has_rank (suc (ranked_operand o).rank) (shape_of x) && list_all (is_operand_at (ranked_operand o).rank) (map ranked_operand (o ∷ os)) ≡ true =
    subst (λ z. has_rank (suc z) (shape_of x) && list_all (is_operand_at z) (map ranked_operand (o ∷ os)) ≡ true) (sym r) (both_true (has_rank (suc n) (shape_of x)) _ f.good p.good) in
    ranked_by n (regular-Level x (o ∷ os)) (depth-Level x (o ∷ os)) (stands_in n _ (omega (arith, r)) g) (most f.fits p.fits)

level_spell : (x : Expr) (os : List Operand) → spell_expr x ++ concat_tokens (map spell_operand os) ≡ spell_expr (level x os)
level_spell x [] = append-nil (spell_expr x)
level_spell x (o ∷ os) = sym (spell-Level x (o ∷ os))

single : (ops : Set) {W : Expr → List Token → Type 0} (x : Expr) → Takes W x (spell_expr x) → Takes (LevelOfWord ops W) x (spell_expr x)
unfolding LevelOfWord
single ops x t = record {
  word = λ u hl s. record {
    item = x;
    left = u;
    right = [];
    first = t.word u hl s;
    second = record { item = []; left = []; right = []; first = refl; second = record { same = refl; empty = refl }; joined = refl };
    joined = append-nil u;
  };
}

whole : {ops : Set} {n d : ℕ} {W : Expr → List Token → Type 0} → Signs ops n → Link W (Ranked (suc n) d) spell_expr
    → (x : Expr) (o : Operand) (os : List Operand) → (shape_of (e.Level x (o ∷ os))).rank ≡ n → Ranked n d (e.Level x (o ∷ os)) → Takes (LevelOfWord ops W) (e.Level x (o ∷ os)) (spell_expr (e.Level x (o ∷ os)))
unfolding LevelOfWord
whole {ops = ops} {n = n} {d = d} {W = W} s l x o os e f =
    let r : (ranked_operand o).rank ≡ n = ap (λ (z : Shape). z.rank) (sym (regular-Level x (o ∷ os))) ∙ e in
    let g : has_rank (suc (ranked_operand o).rank) (shape_of x) && list_all (is_operand_at (ranked_operand o).rank) (map ranked_operand (o ∷ os)) ≡ true =
    regular_in n _ (stands_by n (regular-Level x (o ∷ os)) f) in
    let g' : has_rank (suc n) (shape_of x) && list_all (is_operand_at n) (map ranked_operand (o ∷ os)) ≡ true =
    subst (λ z. has_rank (suc z) (shape_of x) && list_all (is_operand_at z) (map ranked_operand (o ∷ os)) ≡ true) r g in
    let m : max (depth_expr x) (greatest (map depth_operand (o ∷ os))) ≤ d = depth_by n (depth-Level x (o ∷ os)) f in
    let parts : Each (Joined n d) (o ∷ os) = each_fine (joined_all n) (o ∷ os) (record { good = right_true (has_rank (suc n) (shape_of x)) _ g'; fits = second_most (depth_expr x) _ m }) in
    take_as (spell-Level x (o ∷ os))
    (take_seq x (l.takes x (record { good = left_true (has_rank (suc n) (shape_of x)) _ g'; fits = first_most (depth_expr x) _ m }))
    (take_end (level x) (o ∷ os) (star_takes (operand_link s l).takes (o ∷ os) parts) refl))

level_takes : {ops : Set} {n d : ℕ} {W : Expr → List Token → Type 0} → n ≤ 5 → Signs ops n → Link W (Ranked (suc n) d) spell_expr
    → (x : Expr) → Ranked n d x → Takes (LevelOfWord ops W) x (spell_expr x)
level_takes {ops = ops} {n = n} {d = d} {W = W} few s l x f = by (nat_le (suc n) (shape_of x).rank) refl
  where
    r : (shape_of x).regular ≡ true
    r = regular_in n (shape_of x) f.good

    by : (b : Bool) → nat_le (suc n) (shape_of x).rank ≡ b → Takes (LevelOfWord ops W) x (spell_expr x)
    by true h = single ops x (l.takes x (record { good = both_true (nat_le (suc n) (shape_of x).rank) (shape_of x).regular h r; fits = f.fits }))
    by false h =
        let le = leb-false (suc n) (shape_of x).rank h in
        let ge = rank_in n (shape_of x) f.good in
        let same : (shape_of x).rank ≡ n = omega (arith, le, ge) in
        let v : IsLevel x = level_view x (omega (arith, same, few)) r in
        subst (λ z. Takes (LevelOfWord ops W) z (spell_expr z)) (sym v.same)
        (whole s l v.first v.head v.others (subst (λ z. (shape_of z).rank ≡ n) v.same same) (subst (λ z. Ranked n d z) v.same f))

level_link : {ops : Set} {n d : ℕ} {W : Expr → List Token → Type 0} → n ≤ 5 → Signs ops n → Link W (Ranked (suc n) d) spell_expr → Link (LevelOfWord ops W) (Ranked n d) spell_expr
unfolding LevelOfWord
level_link {n = n} {d = d} few s l = record {
  gives = gives_by (into_seq l.gives (λ x f. into_end (level x) (star_gives (operand_link s l).gives) (λ os h. level_fact n d x os f h) (λ os. level_spell x os)));
  takes = level_takes few s l;
}

or_signs : Signs is.or 0
or_signs = record { kinds = refl; texts = refl; rank = refl; known = refl }

and_signs : Signs is.and 1
and_signs = record { kinds = refl; texts = refl; rank = refl; known = refl }

equal_signs : Signs is.equal 2
equal_signs = record { kinds = refl; texts = refl; rank = refl; known = refl }

relation_signs : Signs is.relation 3
relation_signs = record { kinds = refl; texts = refl; rank = refl; known = refl }

sum_signs : Signs is.sum 4
sum_signs = record { kinds = refl; texts = refl; rank = refl; known = refl }

product_signs : Signs is.product 5
product_signs = record { kinds = refl; texts = refl; rank = refl; known = refl }

pub expr_of_link : {d : ℕ} {W : Expr → List Token → Type 0} → Link W (Ranked 6 d) spell_expr → Link (ExprOfWord W) (Ranked 0 d) spell_expr
unfolding ExprOfWord EqualOfWord SumOfWord
expr_of_link l =
    level_link (omega arith) or_signs (level_link (omega arith) and_signs (level_link (omega arith) equal_signs (level_link (omega arith) relation_signs
    (level_link (omega arith) sum_signs (level_link (omega arith) product_signs l)))))
