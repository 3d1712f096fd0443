-- The types of the checker beside those of the meaning.
use Rattle.std.proofs.Common.{◌≡◌, inl, inr, ℕ, zero, suc, ◌-◌, ◌<◌, ◌≤◌, Bool, true, false, ◌&&◌, ◌||◌, cond, is_some, nat_eq, nat_lt, List, length, Option, Some, None, option_map, refl, sym, ap, subst, ◌∙◌, arith}
use Rattle.std.specs.Prelude.{slice_get}
use Rattle.std.specs.List.{position_or_len}
use Rattle.std.specs.Str.{bytes_eq}
use Rattle.std.proofs.lemmas.Bool.{lt-ltb, ltb-true, ltb-false, le-ltb, ne_eqb}
use Rattle.sal_value.specs.declared.constants.TheConstants.{RESERVED}
use Rattle.sal_value.specs.declared.value.Base.{Base as MeantBase}
use Rattle.sal_value.specs.declared.value.Base.TheVariants as meant
use Rattle.sal_value.specs.declared.value.Sort.{Sort as MeantSort}
use Rattle.sal_ast.specs.declared.program.BaseName.{BaseName}
use Rattle.sal_ast.specs.declared.program.BaseName.TheVariants as word
use Rattle.sal_ast.specs.declared.program.TypeName.{TypeName}
use Rattle.sal_ast.specs.declared.program.Behavior.{Behavior}
use Rattle.sal_ast.specs.declared.expression.Op.{Op}
use Rattle.sal_ast.specs.declared.expression.Op.TheVariants as op
use Rattle.sal_ast.specs.Members.{valid_number, behavior_by_name}
use Rattle.sal_ast.specs.Sorts as text
use Rattle.sal_ast.specs.Sorts.{with_dims, actor_base, sort_with, type_sort, result_sort}
use Rattle.sal_sorts.specs.declared.sort.Base.{Base}
use Rattle.sal_sorts.specs.declared.sort.Base.TheVariants.{Int, Boolean, Str, Actor, Void, Null}
use Rattle.sal_sorts.specs.declared.sort.Sort.{Sort}
use Rattle.sal_sorts.specs.Sorts.{base_of, is_same_base, is_same_sort, plain, is_int_sort, is_text_sort, is_printable_sort, is_array_sort, item_sort, sort_of_type, sort_of_result}
use Rattle.sal_sorts.specs.Environments.{Environment, behavior_with_name, has_behavior}
use Rattle.sal_sorts.specs.Expressions.{operands_fit, operator_sort}
use Rattle.sal_typing.specs.Numbers.{number_base, number_sort}
use Rattle.sal_typing.specs.Known.{IsThere, is_no_void, IsValueSort, IsReplySort, IsExprSort}
use Rattle.sal_typing.proofs.Inverting.{some_is}
use Rattle.sal_typing.proofs.Finding.{stands_first, position_of}

-- ---- types that are written

number_of_base : (b : BaseName) (behaviors : List Behavior) → number_base (base_of b) behaviors ≡ text.base_of b behaviors
number_of_base word.Int behaviors = refl
number_of_base word.Boolean behaviors = refl
number_of_base word.Str behaviors = refl
number_of_base (word.Actor name) behaviors = refl

pub number_of_type : (t : TypeName) (behaviors : List Behavior) → number_sort (sort_of_type t) behaviors ≡ type_sort t behaviors
unfolding number_sort sort_of_type type_sort
number_of_type t behaviors = ap (λ o. sort_with o t.dims) (number_of_base t.base behaviors)

pub number_of_result : (r : Option TypeName) (behaviors : List Behavior) → number_sort (sort_of_result r) behaviors ≡ result_sort r behaviors
unfolding number_sort
number_of_result None behaviors = refl
number_of_result (Some t) behaviors = number_of_type t behaviors

no_void_type : (b : BaseName) → is_no_void (base_of b) ≡ true
no_void_type word.Int = refl
no_void_type word.Boolean = refl
no_void_type word.Str = refl
no_void_type (word.Actor name) = refl

pub type_is_value : (t : TypeName) (behaviors : List Behavior) → IsThere (type_sort t behaviors) → IsValueSort (sort_of_type t) behaviors
unfolding sort_of_type
type_is_value t behaviors h = record { number = h.0; means = number_of_type t behaviors ∙ h.1; no_void = no_void_type t.base }

pub result_is_reply : (r : Option TypeName) (behaviors : List Behavior) → IsThere (result_sort r behaviors) → IsReplySort (sort_of_result r) behaviors
result_is_reply None behaviors h = inl refl
result_is_reply (Some t) behaviors h = inr (type_is_value t behaviors h)

-- ---- types without brackets

pub int_is_value : (behaviors : List Behavior) → IsValueSort (plain Int) behaviors
unfolding number_sort
int_is_value behaviors = record { number = record { base = meant.Int; dims = 0 }; means = refl; no_void = refl }

pub boolean_is_value : (behaviors : List Behavior) → IsValueSort (plain Boolean) behaviors
unfolding number_sort
boolean_is_value behaviors = record { number = record { base = meant.Bool; dims = 0 }; means = refl; no_void = refl }

pub text_is_value : (behaviors : List Behavior) → IsValueSort (plain Str) behaviors
unfolding number_sort
text_is_value behaviors = record { number = record { base = meant.Str; dims = 0 }; means = refl; no_void = refl }

pub actor_is_value : (name : List ℕ) (n : ℕ) (behaviors : List Behavior) → behavior_by_name name behaviors ≡ Some n → IsValueSort (plain (Actor name)) behaviors
unfolding number_sort
actor_is_value name n behaviors e = record { number = record { base = meant.Actor n; dims = 0 }; means = ap (λ o. sort_with (option_map meant.Actor o) 0) e; no_void = refl }

-- ---- behaviours by their names

pub number_valid : (n : ℕ) → n < 64 → valid_number (Some n) ≡ Some n
number_valid n h = let small : n < RESERVED = omega arith in ap (λ b. cond b (Some n) None) (lt-ltb n RESERVED small)

-- a behaviour and its number
pub record StandsAt (name : List ℕ) (behaviors : List Behavior) (b : Behavior) : Type 0 where
  pub number : ℕ
  pub is : behavior_by_name name behaviors ≡ Some number
  pub there : slice_get behaviors number ≡ Some b

pub stands_at : (name : List ℕ) (env : Environment) (b : Behavior) → length env.behaviors ≤ 64 → behavior_with_name name env ≡ Some b → StandsAt name env.behaviors b
unfolding behavior_with_name behavior_by_name
stands_at name env b few e =
    let p : Behavior → Bool = λ x. bytes_eq x.name.text name in
    let at = stands_first p env.behaviors b e in
    let n : ℕ = position_or_len p env.behaviors in
    let within : n < length env.behaviors = at.within in
    let small : n < 64 = omega arith in
    record { number = n; is = ap valid_number (position_of p env.behaviors b e) ∙ number_valid n small; there = at.there }

there_is : {A : Type 0} (o : Option A) → is_some o ≡ true → IsThere o
there_is None h = absurd cc
there_is (Some a) h = (a, refl)

pub number_of_known : (name : List ℕ) (env : Environment) → length env.behaviors ≤ 64 → has_behavior name env ≡ true → IsThere (behavior_by_name name env.behaviors)
unfolding has_behavior
number_of_known name env few h =
    let b = there_is (behavior_with_name name env) h in
    let s = stands_at name env b.0 few b.1 in
    (s.number, s.is)

-- ---- the parts of a type that is one of the meaning

pub record SortParts (o : Option MeantBase) (dims : ℕ) (t : MeantSort) : Type 0 where
  pub base : MeantBase
  pub known : o ≡ Some base
  pub few : dims ≤ 8
  pub is : t ≡ record { base = base; dims = dims }

dims_parts : (b : MeantBase) (dims : ℕ) (t : MeantSort) (c : Bool) → nat_lt 8 dims ≡ c → cond c None (Some (record { base = b; dims = dims })) ≡ Some t → SortParts (Some b) dims t
dims_parts b dims t true e h = absurd cc
dims_parts b dims t false e h = let few : dims ≤ 8 = ltb-false 8 dims e in record { base = b; known = refl; few = few; is = sym (some_is (record { base = b; dims = dims }) t h) }

pub sort_parts : (o : Option MeantBase) (dims : ℕ) (t : MeantSort) → sort_with o dims ≡ Some t → SortParts o dims t
sort_parts None dims t h = absurd cc
sort_parts (Some b) dims t h = dims_parts b dims t (nat_lt 8 dims) refl h

pub dims_valid : (b : MeantBase) (dims : ℕ) → dims ≤ 8 → with_dims b dims ≡ Some (record { base = b; dims = dims })
dims_valid b dims few = ap (λ t. cond t None (Some (record { base = b; dims = dims }))) (le-ltb 8 dims few)

-- ---- the type and what the text says of it

-- what the meaning reads off the text is the checker's type
pub record Agrees (behaviors : List Behavior) (s : Sort) (k : Option MeantSort) : Type 0 where
  pub is : k ≡ number_sort s behaviors
  pub known : IsExprSort s behaviors

pub agrees_value : (behaviors : List Behavior) (s : Sort) (k : Option MeantSort) → k ≡ number_sort s behaviors → IsValueSort s behaviors → Agrees behaviors s k
agrees_value behaviors s k e v = record { is = e; known = inr v }

pub agrees_as : (behaviors : List Behavior) (s t : Sort) (k : Option MeantSort) → s ≡ t → Agrees behaviors s k → Agrees behaviors t k
agrees_as behaviors s t k e h = subst (λ x. Agrees behaviors x k) e h

pub int_agrees : (behaviors : List Behavior) → Agrees behaviors (plain Int) (text.plain meant.Int)
unfolding number_sort
int_agrees behaviors = agrees_value behaviors (plain Int) (text.plain meant.Int) refl (int_is_value behaviors)

pub boolean_agrees : (behaviors : List Behavior) → Agrees behaviors (plain Boolean) (text.plain meant.Bool)
unfolding number_sort
boolean_agrees behaviors = agrees_value behaviors (plain Boolean) (text.plain meant.Bool) refl (boolean_is_value behaviors)

pub text_agrees : (behaviors : List Behavior) → Agrees behaviors (plain Str) (text.plain meant.Str)
unfolding number_sort
text_agrees behaviors = agrees_value behaviors (plain Str) (text.plain meant.Str) refl (text_is_value behaviors)

pub actor_agrees : (name : List ℕ) (env : Environment) → length env.behaviors ≤ 64 → has_behavior name env ≡ true → Agrees env.behaviors (plain (Actor name)) (sort_with (actor_base name env.behaviors) 0)
unfolding number_sort
actor_agrees name env few h =
    let n = number_of_known name env few h in
    agrees_value env.behaviors (plain (Actor name)) (sort_with (actor_base name env.behaviors) 0) refl (actor_is_value name n.0 env.behaviors n.1)

pub type_agrees : (t : TypeName) (behaviors : List Behavior) → IsThere (type_sort t behaviors) → Agrees behaviors (sort_of_type t) (type_sort t behaviors)
type_agrees t behaviors h = agrees_value behaviors (sort_of_type t) (type_sort t behaviors) (sym (number_of_type t behaviors)) (type_is_value t behaviors h)

-- ---- operators

dims_no_text : (b : MeantBase) (d : ℕ) (c : Bool) → text.is_text_base b d ≡ false → text.is_text_sort (cond c None (Some (record { base = b; dims = d }))) ≡ false
dims_no_text b d true h = refl
dims_no_text b d false h = h

text_number : (b : Base) (d : ℕ) (behaviors : List Behavior) → text.is_text_sort (sort_with (number_base b behaviors) d) ≡ (is_same_base b Str && nat_eq d 0)
text_number Int d behaviors = dims_no_text meant.Int d (nat_lt 8 d) refl
text_number Boolean d behaviors = dims_no_text meant.Bool d (nat_lt 8 d) refl
text_number Str zero behaviors = refl
text_number Str (suc d) behaviors = dims_no_text meant.Str (suc d) (nat_lt 8 (suc d)) refl ∙ sym (ne_eqb (suc d) 0 (λ e. let x : suc d ≡ 0 = e in omega arith))
text_number (Actor name) d behaviors = actor_text (behavior_by_name name behaviors)
  where
    actor_text : (o : Option ℕ) → text.is_text_sort (sort_with (option_map meant.Actor o) d) ≡ false
    actor_text None = refl
    actor_text (Some n) = dims_no_text (meant.Actor n) d (nat_lt 8 d) refl
text_number Void d behaviors = dims_no_text meant.Void d (nat_lt 8 d) refl
text_number Null d behaviors = refl

pub text_agreed : (behaviors : List Behavior) (s : Sort) (k : Option MeantSort) → Agrees behaviors s k → text.is_text_sort k ≡ is_text_sort s
unfolding number_sort is_text_sort is_same_sort
text_agreed behaviors s k h = ap text.is_text_sort h.is ∙ text_number s.base s.dims behaviors

int_no_text : (b : Base) (c : Bool) → (is_same_base b Int && c) ≡ true → (is_same_base b Str && c) ≡ false
int_no_text Int c h = refl
int_no_text Boolean c h = refl
int_no_text Str c h = absurd cc
int_no_text (Actor name) c h = refl
int_no_text Void c h = refl
int_no_text Null c h = refl

int_is_no_text : (s : Sort) → is_int_sort s ≡ true → is_text_sort s ≡ false
unfolding is_int_sort is_text_sort is_same_sort
int_is_no_text s h = int_no_text s.base (nat_eq s.dims 0) h

added : (behaviors : List Behavior) (ia ib ta tb pa pb : Bool) → (ia ≡ true → ta ≡ false) → (ib ≡ true → tb ≡ false) → ((ia && ib) || ((ta || tb) && pa && pb)) ≡ true → Agrees behaviors (cond (ia && ib) (plain Int) (plain Str)) (cond (ta || tb) (text.plain meant.Str) (text.plain meant.Int))
added behaviors true true ta tb pa pb h k e =
    subst (λ x. Agrees behaviors (plain Int) (cond (x || tb) (text.plain meant.Str) (text.plain meant.Int))) (sym (h refl))
    (subst (λ x. Agrees behaviors (plain Int) (cond x (text.plain meant.Str) (text.plain meant.Int))) (sym (k refl)) (int_agrees behaviors))
added behaviors true false true tb pa pb h k e = text_agrees behaviors
added behaviors true false false true pa pb h k e = text_agrees behaviors
added behaviors true false false false pa pb h k e = absurd cc
added behaviors false ib true tb pa pb h k e = text_agrees behaviors
added behaviors false ib false true pa pb h k e = text_agrees behaviors
added behaviors false ib false false pa pb h k e = absurd cc

pub operator_agrees : (env : Environment) (o : Op) (a b : Sort) (k l : Option MeantSort) → Agrees env.behaviors a k → Agrees env.behaviors b l → operands_fit env o a b ≡ true → Agrees env.behaviors (operator_sort o a b) (text.operator_sort o k l)
unfolding operands_fit operator_sort
operator_agrees env op.Or a b k l h i e = boolean_agrees env.behaviors
operator_agrees env op.And a b k l h i e = boolean_agrees env.behaviors
operator_agrees env op.Same a b k l h i e = boolean_agrees env.behaviors
operator_agrees env op.Other a b k l h i e = boolean_agrees env.behaviors
operator_agrees env op.Less a b k l h i e = boolean_agrees env.behaviors
operator_agrees env op.LessEq a b k l h i e = boolean_agrees env.behaviors
operator_agrees env op.Greater a b k l h i e = boolean_agrees env.behaviors
operator_agrees env op.GreaterEq a b k l h i e = boolean_agrees env.behaviors
operator_agrees env op.Sub a b k l h i e = int_agrees env.behaviors
operator_agrees env op.Mul a b k l h i e = int_agrees env.behaviors
operator_agrees env op.Div a b k l h i e = int_agrees env.behaviors
operator_agrees env op.Rem a b k l h i e = int_agrees env.behaviors
operator_agrees env op.Add a b k l h i e =
    let S : Bool → Bool → Type 0 = λ x y. Agrees env.behaviors (operator_sort op.Add a b) (cond (x || y) (text.plain meant.Str) (text.plain meant.Int)) in
    let here : S (is_text_sort a) (is_text_sort b) = added env.behaviors (is_int_sort a) (is_int_sort b) (is_text_sort a) (is_text_sort b) (is_printable_sort a) (is_printable_sort b) (int_is_no_text a) (int_is_no_text b) e in
    subst (λ x. S x (text.is_text_sort l)) (sym (text_agreed env.behaviors a k h)) (subst (λ y. S (is_text_sort a) y) (sym (text_agreed env.behaviors b l i)) here)

-- ---- items of arrays

item_at_level : (b : MeantBase) (o : Option MeantBase) (d : ℕ) → o ≡ Some b → 0 < d → d ≤ 8 → text.item_sort (Some (record { base = b; dims = d })) ≡ sort_with o (d - 1)
item_at_level b o zero e h few = absurd (let x : 0 < 0 = h in omega arith)
item_at_level b o (suc d) e h few =
    let down : suc d - 1 ≡ d = omega arith in
    let less : d ≤ 8 = omega arith in
    sym (ap (λ n. sort_with o n) down ∙ ap (λ q. sort_with q d) e ∙ dims_valid b d less)

no_item_of_null : (s : Sort) → s ≡ plain Null → 0 < s.dims → ⊥
no_item_of_null s e h = let d : s.dims ≡ 0 = ap (λ (x : Sort). x.dims) e in omega (arith, d, h)

pub item_agrees : (behaviors : List Behavior) (s : Sort) (k : Option MeantSort) → Agrees behaviors s k → is_array_sort s ≡ true → Agrees behaviors (item_sort s) (text.item_sort k)
unfolding number_sort is_array_sort item_sort
item_agrees behaviors s k h a =
    let some : 0 < s.dims = ltb-true 0 s.dims a in
    by some h.known
  where
    by : 0 < s.dims → IsExprSort s behaviors → Agrees behaviors (record { base = s.base; dims = s.dims - 1 }) (text.item_sort k)
    by some (inl null) = absurd (no_item_of_null s null some)
    by some (inr v) =
        let p = sort_parts (number_base s.base behaviors) s.dims v.number v.means in
        let below : text.item_sort (Some (record { base = p.base; dims = s.dims })) ≡ sort_with (number_base s.base behaviors) (s.dims - 1) = item_at_level p.base (number_base s.base behaviors) s.dims p.known some p.few in
        let lower : s.dims - 1 ≤ 8 = let few : s.dims ≤ 8 = p.few in omega arith in
        let kind : k ≡ Some (record { base = p.base; dims = s.dims }) = h.is ∙ v.means ∙ ap (λ t. Some t) p.is in
        agrees_value behaviors (record { base = s.base; dims = s.dims - 1 }) (text.item_sort k) (ap text.item_sort kind ∙ below)
        (record { number = record { base = p.base; dims = s.dims - 1 }; means = ap (λ q. sort_with q (s.dims - 1)) p.known ∙ dims_valid p.base (s.dims - 1) lower; no_void = v.no_void })
