-- The checker's types as those of the meaning: what fits, arrays, and operators.
use Rattle.std.proofs.Common.{◌≡◌, ◌⊎◌, inl, inr, ℕ, suc, ◌-◌, ◌≤◌, ◌<◌, Bool, true, false, List, length, Some, None, refl, sym, ap, subst, ◌∙◌, arith}
use Rattle.std.specs.Prelude.{nat_le}
use Rattle.std.specs.Option.{option_map}
use Rattle.std.proofs.lemmas.Bool.{leb-true, lt-ltb, ltb-true}
use Rattle.sal_value.specs.declared.value.Base.{Base as MeantBase}
use Rattle.sal_value.specs.declared.value.Base.TheVariants as meant
use Rattle.sal_value.specs.declared.value.Sort.{Sort as MeantSort}
use Rattle.sal_ast.specs.declared.program.BaseName.{BaseName}
use Rattle.sal_ast.specs.declared.program.BaseName.TheVariants as word
use Rattle.sal_ast.specs.declared.program.TypeName.{TypeName}
use Rattle.sal_ast.specs.declared.program.Behavior.{Behavior}
use Rattle.sal_ast.specs.declared.expression.Op.{Op}
use Rattle.sal_ast.specs.declared.expression.Op.TheVariants as op
use Rattle.sal_ast.specs.Members.{behavior_by_name}
use Rattle.sal_ast.specs.Sorts.{sort_with, type_sort}
use Rattle.sal_ast.specs.Sorts as read
use Rattle.sal_sorts.specs.declared.sort.Base.{Base}
use Rattle.sal_sorts.specs.declared.sort.Base.TheVariants.{Int, Boolean, Str, Actor, Void, Null}
use Rattle.sal_sorts.specs.declared.sort.Sort.{Sort}
use Rattle.sal_sorts.specs.Sorts.{plain, is_array_sort, item_sort, base_of, sort_of_type}
use Rattle.sal_sorts.specs.Environments.{Environment}
use Rattle.sal_typing.specs.Numbers.{number_base, number_sort}
use Rattle.sal_typing.specs.Known.{IsExprSort, IsValueSort}
use Rattle.sal_typing.specs.Parts.{IsWritten}
use Rattle.sal_typing.specs.Fitting.{Fits, OperandsOf}
use Rattle.sal_typing.proofs.Numbering.{number_of_type, type_is_value, sort_parts, item_agrees}
use Rattle.sal_typing.proofs.Expressions.{type_parts}
use Rattle.sal_preservation.proofs.Judged.{Kind, Assignable, OperatorOf, int, boolean, text, actor}

-- ---- types that aren't that of null

abbrev is_no_null : Base → Bool
is_no_null Null = false
is_no_null Int = true
is_no_null Boolean = true
is_no_null Str = true
is_no_null (Actor name) = true
is_no_null Void = true

abbrev pub NoNull : Sort → Type 0
NoNull s = is_no_null s.base ≡ true

named_no_null : (b : BaseName) → is_no_null (base_of b) ≡ true
named_no_null word.Int = refl
named_no_null word.Boolean = refl
named_no_null word.Str = refl
named_no_null (word.Actor name) = refl

pub type_no_null : (t : TypeName) → NoNull (sort_of_type t)
unfolding sort_of_type
type_no_null t = named_no_null t.base

pub item_no_null : (s : Sort) → NoNull s → NoNull (item_sort s)
unfolding item_sort
item_no_null s h = h

null_absurd : {A : Type 0} (s : Sort) → s ≡ plain Null → NoNull s → A
null_absurd s e h = let f : false ≡ true = sym (ap (λ (x : Sort). is_no_null x.base) e) ∙ h in absurd cc

-- ---- numbers of plain types

module _ (bs : List Behavior) where
  abbrev pub num : Sort → Kind
  num s = number_sort s bs

  pub int_kind : num (plain Int) ≡ Some int
  unfolding number_sort
  int_kind = refl

  pub boolean_kind : num (plain Boolean) ≡ Some boolean
  unfolding number_sort
  boolean_kind = refl

  pub text_kind : num (plain Str) ≡ Some text
  unfolding number_sort
  text_kind = refl

  pub null_kind : num (plain Null) ≡ None
  unfolding number_sort
  null_kind = refl

  pub actor_kind : (name : List ℕ) (n : ℕ) → behavior_by_name name bs ≡ Some n → num (plain (Actor name)) ≡ Some (actor n)
  unfolding number_sort
  actor_kind name n e = ap (λ o. sort_with (option_map meant.Actor o) 0) e

  pub value_of : (s : Sort) → IsExprSort s bs → NoNull s → IsValueSort s bs
  value_of s (inl e) h = null_absurd s e h
  value_of s (inr v) h = v

  -- ---- what fits

  pub record Reaches (s t : Sort) : Type 0 where
    pub to : MeantSort
    pub is : num t ≡ Some to
    pub fits : Assignable (num s) to

  pub reaches : (env : Environment) → env.behaviors ≡ bs → (s t : Sort) → IsExprSort s bs → Fits env s t → NoNull t → Reaches s t
  reaches env same s t known (inl p) h =
      let a = p.1 in
      let there : behavior_by_name a.0 bs ≡ Some a.1 = ap (behavior_by_name a.0) (sym same) ∙ a.3 in
      record { to = actor a.1; is = ap num a.2 ∙ actor_kind a.0 a.1 there; fits = subst (λ k. Assignable k (actor a.1)) (sym (ap num p.0 ∙ null_kind)) (a.1, refl) }
  reaches env same s t (inl null) (inr e) h = null_absurd t (sym e ∙ null) h
  reaches env same s t (inr v) (inr e) h = record { to = v.number; is = ap num (sym e) ∙ v.means; fits = subst (λ k. Assignable k v.number) (sym v.means) refl }

  -- ---- arrays

  pub record IsArray (s : Sort) : Type 0 where
    pub base : MeantBase
    pub dims : ℕ
    pub whole : num s ≡ Some (record { base = base; dims = suc dims })
    pub item : num (item_sort s) ≡ Some (record { base = base; dims = dims })
    pub known : IsExprSort (item_sort s) bs

  pub array_parts : (s : Sort) → IsExprSort s bs → is_array_sort s ≡ true → IsArray s
  unfolding number_sort is_array_sort
  array_parts s (inl e) a = let d : s.dims ≡ 0 = ap (λ (x : Sort). x.dims) e in let l : 0 < s.dims = ltb-true 0 s.dims a in absurd (omega (arith, d, l))
  array_parts s (inr v) a =
      let p = sort_parts (number_base s.base bs) s.dims v.number v.means in
      let l : 0 < s.dims = ltb-true 0 s.dims a in
      let d : s.dims ≡ suc (s.dims - 1) = omega (arith, l) in
      let whole : num s ≡ Some (record { base = p.base; dims = suc (s.dims - 1) }) = v.means ∙ ap (λ t. Some t) p.is ∙ ap (λ n. Some (record { base = p.base; dims = n })) d in
      let g = item_agrees bs s (num s) (record { is = refl; known = inr v }) a in
      record { base = p.base; dims = s.dims - 1; whole = whole; item = sym g.is ∙ ap read.item_sort whole; known = g.known }

  pub record IsArrayType (t : TypeName) (s : Sort) : Type 0 where
    pub array : IsArray s
    pub written : type_sort t bs ≡ num s
    pub no_null : NoNull (item_sort s)

  pub array_type : (env : Environment) → env.behaviors ≡ bs → length bs ≤ 64 → (t : TypeName) (s : Sort) → IsWritten t env s → nat_le 1 t.dims ≡ true → IsArrayType t s
  unfolding is_array_sort sort_of_type
  array_type env same few t s w h =
      let p = type_parts t env s (subst (λ z. length z ≤ 64) (sym same) few) w in
      let there : IsValueSort (sort_of_type t) bs = subst (λ z. IsValueSort (sort_of_type t) z) same (type_is_value t env.behaviors p.1) in
      let known : IsExprSort s bs = subst (λ z. IsExprSort z bs) p.0 (inr there) in
      let array : is_array_sort s ≡ true = subst (λ z. is_array_sort z ≡ true) p.0 (lt-ltb 0 t.dims (leb-true 1 t.dims h)) in
      record { array = array_parts s known array; written = sym (number_of_type t bs) ∙ ap num p.0; no_null = item_no_null s (subst NoNull p.0 (type_no_null t)) }

  -- ---- operators

  pub record Operates (o : Op) (a b s : Sort) : Type 0 where
    pub to : MeantSort
    pub is : num s ≡ Some to
    pub of : OperatorOf o (num a) (num b) to
    pub known : IsExprSort s bs

  of_int : (s : Sort) → plain Int ≡ s → (num s ≡ Some int) × IsExprSort s bs
  unfolding number_sort
  of_int s e = (ap num (sym e) ∙ int_kind, inr (subst (λ z. IsValueSort z bs) e (record { number = int; means = refl; no_void = refl })))

  of_boolean : (s : Sort) → plain Boolean ≡ s → (num s ≡ Some boolean) × IsExprSort s bs
  unfolding number_sort
  of_boolean s e = (ap num (sym e) ∙ boolean_kind, inr (subst (λ z. IsValueSort z bs) e (record { number = boolean; means = refl; no_void = refl })))

  of_text : (s : Sort) → plain Str ≡ s → (num s ≡ Some text) × IsExprSort s bs
  unfolding number_sort
  of_text s e = (ap num (sym e) ∙ text_kind, inr (subst (λ z. IsValueSort z bs) e (record { number = text; means = refl; no_void = refl })))

  number_op : (o : Op) (a b s : Sort) → plain Int ≡ s → OperatorOf o (num a) (num b) int → Operates o a b s
  number_op o a b s e f = let p = of_int s e in record { to = int; is = p.0; of = f; known = p.1 }

  truth_op : (o : Op) (a b s : Sort) → plain Boolean ≡ s → OperatorOf o (num a) (num b) boolean → Operates o a b s
  truth_op o a b s e f = let p = of_boolean s e in record { to = boolean; is = p.0; of = f; known = p.1 }

  pub operates : (env : Environment) (o : Op) (a b s : Sort) → OperandsOf env o a b s → Operates o a b s
  operates env op.Or a b s h = truth_op op.Or a b s h.1 (ap num h.0.1 ∙ boolean_kind, refl)
  operates env op.And a b s h = truth_op op.And a b s h.1 (ap num h.0.1 ∙ boolean_kind, refl)
  operates env op.Same a b s h = truth_op op.Same a b s h.1 refl
  operates env op.Other a b s h = truth_op op.Other a b s h.1 refl
  operates env op.Less a b s h = truth_op op.Less a b s h.1 refl
  operates env op.LessEq a b s h = truth_op op.LessEq a b s h.1 refl
  operates env op.Greater a b s h = truth_op op.Greater a b s h.1 refl
  operates env op.GreaterEq a b s h = truth_op op.GreaterEq a b s h.1 refl
  operates env op.Add a b s (inl h) = number_op op.Add a b s h.1 (inl (refl, (ap num h.0.0 ∙ int_kind, ap num h.0.1 ∙ int_kind)))
  operates env op.Add a b s (inr (f, e)) = texts f.0
    where
      texts : (a ≡ plain Str) ⊎ (b ≡ plain Str) → Operates op.Add a b s
      texts (inl q) = let p = of_text s e in record { to = text; is = p.0; of = inr (refl, inl (ap num q ∙ text_kind)); known = p.1 }
      texts (inr q) = let p = of_text s e in record { to = text; is = p.0; of = inr (refl, inr (ap num q ∙ text_kind)); known = p.1 }
  operates env op.Sub a b s h = number_op op.Sub a b s h.1 refl
  operates env op.Mul a b s h = number_op op.Mul a b s h.1 refl
  operates env op.Div a b s h = number_op op.Div a b s h.1 refl
  operates env op.Rem a b s h = number_op op.Rem a b s h.1 refl
