-- Which numbers of behaviours the types of expressions have.
use Rattle.std.proofs.Common.{◌≡◌, ℕ, zero, suc, ◌<◌, inl, inr, Bool, true, false, cond, if◌then◌else◌, List, [], ◌∷◌, length, map, Option, Some, None, option_map, refl, sym, subst}
use Rattle.std.specs.Prelude.{nat_lt, ◌||◌}
use Rattle.std.specs.List.{find, position}
use Rattle.std.specs.Str.{bytes_eq}
use Rattle.std.proofs.lemmas.Bool.{ltb-true}
use Rattle.std.proofs.lemmas.List.Quantifiers.{position-Some}
use Rattle.sal_value.specs.declared.value.Base.{Base}
use Rattle.sal_value.specs.declared.value.Base.TheVariants as base
use Rattle.sal_value.specs.declared.value.Sort.{Sort}
use Rattle.sal_ast.specs.declared.program.BaseName.{BaseName}
use Rattle.sal_ast.specs.declared.program.BaseName.TheVariants as word
use Rattle.sal_ast.specs.declared.program.TypeName.{TypeName}
use Rattle.sal_ast.specs.declared.program.Behavior.{Behavior}
use Rattle.sal_ast.specs.declared.expression.Op.{Op}
use Rattle.sal_ast.specs.declared.expression.Op.TheVariants as op
use Rattle.sal_ast.specs.declared.expression.Expr.{Expr}
use Rattle.sal_ast.specs.declared.expression.Suffix.{Suffix}
use Rattle.sal_ast.specs.declared.expression.At.{At}
use Rattle.sal_ast.specs.declared.expression.Operand.{Operand}
use Rattle.sal_ast.specs.declared.expression.Expr.TheViews.{roll-Expr}
use Rattle.sal_ast.specs.declared.expression.Expr.TheOpen.{Expr-F}
use Rattle.sal_ast.specs.declared.expression.Expr.TheFolds.{fold-Suffix, fold-At, fold-Operand, map-Expr, fold-roll-Expr, ind-Expr}
use Rattle.sal_ast.specs.declared.statement.Aim.{Aim}
use Rattle.sal_ast.specs.declared.statement.Aim.TheVariants as aim
use Rattle.sal_ast.specs.Members.{Field, Handler, behavior_by_name, handler_by_name, valid_number}
use Rattle.sal_ast.specs.Sorts as s
use Rattle.sal_ast.specs.Sorts.{Variable, Scope, SortInScope, type_sort, field_sort, name_sort, sort_of, sort_step, suffix_step, at_step, operand_step}
use Rattle.sal_ast.proofs.Closing.{Known}
use Rattle.sal_handler.specs.declared.state.Local.{Local}
use Rattle.sal_handler.specs.Scopes.{variable_of}
use Rattle.sal_handler.specs.WellFormed.{EachOf}
use Rattle.sal_handler.proofs.Induction.{IfAny}
use Rattle.sal_effects.proofs.Changes.{IsBehavior, GoodBase, GoodSort}

-- ---- behaviours by their names

small : {X : Type 0} (p : X → Bool) (xs : List X) (i : ℕ) → position p xs ≡ Some i → i < length xs
small p [] i e = absurd cc
small p (x ∷ xs) i e = (position-Some p (x ∷ xs) i x e).0

valid : {X : Type 0} (p : X → Bool) (xs : List X) (o : Option ℕ) → position p xs ≡ o → IfAny (λ b. (b < length xs) × (b < 65535)) (valid_number o)
valid p xs None e = tt
valid p xs (Some n) e = at (nat_lt n 65535) refl
  where
    at : (b : Bool) → nat_lt n 65535 ≡ b → IfAny (λ b. (b < length xs) × (b < 65535)) (if b then Some n else None)
    at true l = (small p xs n e, ltb-true n 65535 l)
    at false l = tt

pub found_behavior : (name : List ℕ) (behaviors : List Behavior) → IfAny (λ b. (b < length behaviors) × (b < 65535)) (behavior_by_name name behaviors)
unfolding behavior_by_name
found_behavior name behaviors = valid (λ b. bytes_eq b.name.text name) behaviors (position (λ b. bytes_eq b.name.text name) behaviors) refl

pub found_handler : (name : List ℕ) (handlers : List Handler) → IfAny (λ k. k < length handlers) (handler_by_name name handlers)
unfolding handler_by_name
found_handler name handlers = at (valid_number (position (λ h. bytes_eq h.name name) handlers)) (valid (λ h. bytes_eq h.name name) handlers (position (λ h. bytes_eq h.name name) handlers) refl)
  where
    at : (o : Option ℕ) → IfAny (λ b. (b < length handlers) × (b < 65535)) o → IfAny (λ k. k < length handlers) o
    at None g = tt
    at (Some k) g = g.0

pub handler_low : (name : List ℕ) (handlers : List Handler) → IfAny (λ k. k < 65535) (handler_by_name name handlers)
unfolding handler_by_name
handler_low name handlers = at (valid_number (position (λ h. bytes_eq h.name name) handlers)) (valid (λ h. bytes_eq h.name name) handlers (position (λ h. bytes_eq h.name name) handlers) refl)
  where
    at : (o : Option ℕ) → IfAny (λ b. (b < length handlers) × (b < 65535)) o → IfAny (λ k. k < 65535) o
    at None g = tt
    at (Some k) g = g.1

-- the locals as their types see them
pub variables_good : (behaviors : List Behavior) (mine : ℕ) (ls : List Local) → EachOf (λ (l : Local). GoodSort behaviors mine l.sort) ls → EachOf (λ (v : Variable). GoodSort behaviors mine v.sort) (map variable_of ls)
variables_good behaviors mine [] k = tt
variables_good behaviors mine (l ∷ ls) k = (k.0, variables_good behaviors mine ls k.1)

-- ---- types

module _ (behaviors : List Behavior) (mine : ℕ) where
  abbrev Good : Option Sort → Type 0
  Good = GoodSort behaviors mine

  abbrev Based : Option Base → Type 0
  Based = IfAny (GoodBase behaviors mine)

  actor_based : (o : Option ℕ) → IfAny (λ b. (b < length behaviors) × (b < 65535)) o → Based (option_map base.Actor o)
  actor_based None f = tt
  actor_based (Some n) f = inr f

  base_good : (b : BaseName) → Based (s.base_of b behaviors)
  base_good word.Int = tt
  base_good word.Boolean = tt
  base_good word.Str = tt
  base_good (word.Actor name) = actor_based (behavior_by_name name behaviors) (found_behavior name behaviors)

  dims_good : (b : Base) (dims : ℕ) → GoodBase behaviors mine b → Good (s.with_dims b dims)
  dims_good b dims g = at (nat_lt 8 dims)
    where
      at : (c : Bool) → Good (if c then None else Some (record { base = b; dims = dims }))
      at true = tt
      at false = g

  with_good : (o : Option Base) (dims : ℕ) → Based o → Good (s.sort_with o dims)
  with_good None dims g = tt
  with_good (Some b) dims g = dims_good b dims g

  pub type_good : (t : TypeName) → Good (type_sort t behaviors)
  unfolding type_sort
  type_good t = with_good (s.base_of t.base behaviors) t.dims (base_good t.base)

  named_good : (name : List ℕ) → Good (s.sort_with (s.actor_base name behaviors) 0)
  named_good name = with_good (s.actor_base name behaviors) 0 (actor_based (behavior_by_name name behaviors) (found_behavior name behaviors))

  item_good : (o : Option Sort) → Good o → Good (s.item_sort o)
  item_good None g = tt
  item_good (Some t) g = at t.dims
    where
      at : (dims : ℕ) → Good (s.item_sort (Some (record { base = t.base; dims = dims })))
      at zero = tt
      at (suc dims) = g

  operator_good : (o : Op) (a b : Option Sort) → Good (s.operator_sort o a b)
  operator_good op.Add a b = at (s.is_text_sort a) (s.is_text_sort b)
    where
      at : (x y : Bool) → Good (if x || y then s.plain base.Str else s.plain base.Int)
      at true y = tt
      at false true = tt
      at false false = tt
  operator_good op.Sub a b = tt
  operator_good op.Mul a b = tt
  operator_good op.Div a b = tt
  operator_good op.Rem a b = tt
  operator_good op.Or a b = tt
  operator_good op.And a b = tt
  operator_good op.Same a b = tt
  operator_good op.Other a b = tt
  operator_good op.Less a b = tt
  operator_good op.LessEq a b = tt
  operator_good op.Greater a b = tt
  operator_good op.GreaterEq a b = tt

  -- a scope whose types are good
  abbrev pub LocalsGood : List Variable → Type 0
  LocalsGood = EachOf (λ v. Good v.sort)

  found_field : (o : Option Field) → Good (s.sort_of_field o behaviors)
  found_field None = tt
  found_field (Some f) = type_good f.sort

  field_good : (name : List ℕ) (locals : List Variable) → Good (field_sort name (record { behaviors = behaviors; mine = mine; locals = locals }))
  unfolding field_sort
  field_good name locals = found_field (find (λ f. bytes_eq f.name name) (s.own_fields (record { behaviors = behaviors; mine = mine; locals = locals })))

  found_local : (p : Variable → Bool) (vs : List Variable) (o : Option Sort) → LocalsGood vs → Good o → Good (s.sort_of_local (find p vs) o)
  found_local p [] o l g = g
  found_local p (v ∷ vs) o l g = at (p v) (found_local p vs o l.1 g)
    where
      at : (b : Bool) → Good (s.sort_of_local (find p vs) o) → Good (s.sort_of_local (cond b (Some v) (find p vs)) o)
      at true later = l.0
      at false later = later

  name_good : (name : List ℕ) (locals : List Variable) → LocalsGood locals → Good (name_sort name (record { behaviors = behaviors; mine = mine; locals = locals }))
  unfolding name_sort
  name_good name locals l = found_local (λ v. bytes_eq v.name name) locals (field_sort name (record { behaviors = behaviors; mine = mine; locals = locals })) l (field_good name locals)

  -- ---- expressions

  -- what an expression's type is in a good scope
  abbrev Typed : SortInScope → Type 0
  Typed f = (locals : List Variable) → LocalsGood locals → Good (f (record { behaviors = behaviors; mine = mine; locals = locals }))

  abbrev PE : Expr → Type 0
  PE e = Typed (sort_of e)

  abbrev PS : Suffix → Type 0
  PS x = Unit {0}

  abbrev PA : At → Type 0
  PA x = Unit {0}

  abbrev suffix_of : Suffix → Bool
  suffix_of = fold-Suffix SortInScope Bool (Unit {0}) (Op × SortInScope) sort_step suffix_step at_step operand_step

  abbrev at_of : At → Unit {0}
  at_of = fold-At SortInScope Bool (Unit {0}) (Op × SortInScope) sort_step suffix_step at_step operand_step

  abbrev operand_of : Operand → Op × SortInScope
  operand_of = fold-Operand SortInScope Bool (Unit {0}) (Op × SortInScope) sort_step suffix_step at_step operand_step

  abbrev PO : Operand → Type 0
  PO x = Unit {0}

  level_good : (ps : List (Op × SortInScope)) (a : Option Sort) (sc : Scope) → Good a → Good (s.level_sort a ps sc)
  level_good [] a sc g = g
  level_good (p ∷ ps) a sc g = level_good ps (s.operator_sort p.0 a (p.1 sc)) sc (operator_good p.0 a (p.1 sc))

  suffixed_good : (ps : List Bool) (a : Option Sort) → Good a → Good (s.suffixed_sort a ps)
  suffixed_good [] a g = g
  suffixed_good (true ∷ ps) a g = suffixed_good ps (s.item_sort a) (item_good a g)
  suffixed_good (false ∷ ps) a g = suffixed_good ps (s.plain base.Int) tt

  abbrev Layer : Type 0
  Layer = Expr-F (Known Expr PE) (Known Suffix PS) (Known At PA) (Known Operand PO)

  abbrev trees : Layer → Expr-F Expr Suffix At Operand
  trees = map-Expr (Known Expr PE) (Known Suffix PS) (Known At PA) (Known Operand PO) Expr Suffix At Operand (λ z. z.0) (λ z. z.0) (λ z. z.0) (λ z. z.0)

  typed : (y : Layer) → Typed (sort_step (map-Expr Expr Suffix At Operand SortInScope Bool (Unit {0}) (Op × SortInScope) sort_of suffix_of at_of operand_of (trees y)))
  typed (Expr-F.Number n at) ls l = tt
  typed (Expr-F.Str text at) ls l = tt
  typed (Expr-F.Bool b at) ls l = tt
  typed (Expr-F.Null at) ls l = tt
  typed (Expr-F.Me at) ls l = inl refl
  typed (Expr-F.Name name) ls l = name_good name.text ls l
  typed (Expr-F.Own at name) ls l = field_good name.text ls
  typed (Expr-F.Paren at e) ls l = e.1 ls l
  typed (Expr-F.Neg at e) ls l = tt
  typed (Expr-F.Not at e) ls l = tt
  typed (Expr-F.Level first rest) ls l = level_good (map operand_of (map (λ z. z.0) rest)) _ _ (first.1 ls l)
  typed (Expr-F.Suffixed first rest) ls l = suffixed_good (map suffix_of (map (λ z. z.0) rest)) _ (first.1 ls l)
  typed (Expr-F.New at behavior args None) ls l = named_good behavior.text
  typed (Expr-F.New at behavior args (Some place)) ls l = named_good behavior.text
  typed (Expr-F.Make at sort size) ls l = type_good sort
  typed (Expr-F.ListOf at sort items) ls l = type_good sort
  typed (Expr-F.ByName at cast behavior name) ls l = named_good behavior.text

  layer : (y : Layer) → PE (roll-Expr (trees y))
  unfolding sort_of
  layer y = subst Typed (sym (fold-roll-Expr SortInScope Bool (Unit {0}) (Op × SortInScope) sort_step suffix_step at_step operand_step (trees y))) (typed y)

  sort_good : (e : Expr) → Typed (sort_of e)
  sort_good = ind-Expr PE PS PA PO (λ x y is. subst (λ z. PE (roll-Expr z)) is (layer y)) (λ x y is. tt) (λ x y is. tt) (λ x y is. tt)

  based_behavior : (b : Base) (dims : ℕ) → GoodBase behaviors mine b → IfAny (IsBehavior behaviors mine) (s.behavior_of (Some (record { base = b; dims = dims })))
  based_behavior base.Int dims g = tt
  based_behavior base.Bool dims g = tt
  based_behavior base.Str dims g = tt
  based_behavior base.Void dims g = tt
  based_behavior (base.Actor n) zero g = g
  based_behavior (base.Actor n) (suc dims) g = tt

  sort_behavior : (o : Option Sort) → Good o → IfAny (IsBehavior behaviors mine) (s.behavior_of o)
  sort_behavior None g = tt
  sort_behavior (Some t) g = based_behavior t.base t.dims g

  -- the behaviour to which a message goes
  pub aimed : (a : Aim) (locals : List Variable) → LocalsGood locals → IfAny (IsBehavior behaviors mine) (s.target_behavior a (record { behaviors = behaviors; mine = mine; locals = locals }))
  aimed aim.Own ls l = inl refl
  aimed (aim.Output at) ls l = tt
  aimed (aim.Actor e) ls l = sort_behavior (sort_of e (record { behaviors = behaviors; mine = mine; locals = ls })) (sort_good e ls l)
