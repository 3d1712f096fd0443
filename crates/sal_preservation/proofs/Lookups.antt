-- What names find: a local or a field of the type that the text gives it.
use Rattle.std.proofs.Common.{◌≡◌, ℕ, zero, suc, ◌+◌, ◌<◌, Bool, true, false, cond, List, [], ◌∷◌, length, map, Option, Some, None, refl, sym, ap, subst, ◌∙◌, arith}
use Rattle.std.specs.Prelude.{slice_get}
use Rattle.std.specs.Option.{option_map}
use Rattle.std.specs.List.{find, position, position_or_len}
use Rattle.std.specs.Str.{bytes_eq}
use Rattle.std.proofs.lemmas.Bool.{lt-ltb, le-ltb}
use Rattle.sal_value.specs.declared.value.Sort.{Sort}
use Rattle.sal_value.specs.declared.value.Value.{Value}
use Rattle.sal_ast.specs.declared.program.Behavior.{Behavior}
use Rattle.sal_ast.specs.Members.{Field}
use Rattle.sal_ast.specs.Sorts.{Variable, Scope, sort_of_field, sort_of_local, fields_in, name_sort, field_sort, type_sort}
use Rattle.sal_handler.specs.declared.state.Content.{Content}
use Rattle.sal_handler.specs.declared.state.Content.TheVariants as held
use Rattle.sal_handler.specs.declared.state.Local.{Local}
use Rattle.sal_handler.specs.declared.state.State.{State}
use Rattle.sal_handler.specs.Values as w
use Rattle.sal_handler.specs.Scopes as c
use Rattle.sal_handler.specs.Scopes.{Context, scope_of, variable_of}
use Rattle.sal_handler.specs.WellFormed.{EachOf}
use Rattle.sal_value.proofs.Tables.{some_is}
use Rattle.sal_ast.specs.declared.expression.Expr.{Expr}
use Rattle.sal_ast.specs.declared.expression.Suffix.{Suffix}
use Rattle.sal_preservation.specs.States.{HoldsSort as ContentOf, AreFields, FieldsOf as StateOf}
use Rattle.sal_preservation.proofs.Judged.{Kind, Judges}
use Rattle.sal_preservation.proofs.Expressions.{Belongs, Sits, PE, expressions_keep}

-- ---- the first that passes

one : (n : ℕ) → 1 + n ≡ suc n
one n = omega arith

module _ {X : Type 0} (p : X → Bool) where
  pub record Stands (xs : List X) (x : X) : Type 0 where
    pub low : position_or_len p xs < length xs
    pub there : slice_get xs (position_or_len p xs) ≡ Some x

  stands : (xs : List X) (x : X) → find p xs ≡ Some x → Stands xs x
  stands [] x e = absurd cc
  stands (y ∷ xs) x e = by (p y) refl e (λ f. stands xs x f)
    where
      by : (b : Bool) → p y ≡ b → cond b (Some y) (find p xs) ≡ Some x → (find p xs ≡ Some x → Stands xs x) → Stands (y ∷ xs) x
      by true is e more = record { low = rw is (omega arith); there = rw is e }
      by false is e more = let m = more e in let l = m.low in let t = m.there in record { low = rw is (omega (arith, l)); there = rw is (ap (slice_get (y ∷ xs)) (one (position_or_len p xs)) ∙ t) }

  lasts : (xs : List X) → find p xs ≡ None → position_or_len p xs ≡ length xs
  lasts [] e = refl
  lasts (y ∷ xs) e = by (p y) refl e (λ f. lasts xs f)
    where
      by : (b : Bool) → p y ≡ b → cond b (Some y) (find p xs) ≡ None → (find p xs ≡ None → position_or_len p xs ≡ length xs) → position_or_len p (y ∷ xs) ≡ length (y ∷ xs)
      by true is e more = absurd cc
      by false is e more = let m = more e in rw is (one (position_or_len p xs) ∙ ap suc m)

  pub position_some : (xs : List X) (x : X) → find p xs ≡ Some x → position p xs ≡ Some (position_or_len p xs)
  position_some xs x e = let l = (stands xs x e).low in rw (lt-ltb (position_or_len p xs) (length xs) l) refl

  pub position_get : (xs : List X) (x : X) → find p xs ≡ Some x → slice_get xs (position_or_len p xs) ≡ Some x
  position_get xs x e = (stands xs x e).there

  pub position_none : (xs : List X) → find p xs ≡ None → position p xs ≡ None
  position_none xs e = let l = lasts xs e in rw (le-ltb (position_or_len p xs) (length xs) (omega (arith, l))) refl

-- ---- locals

find_variables : (n : List ℕ) (ls : List Local) → find (λ (q : Variable). bytes_eq q.name n) (map variable_of ls) ≡ option_map variable_of (find (λ (l : Local). bytes_eq l.name n) ls)
find_variables n [] = refl
find_variables n (l ∷ ls) = at (bytes_eq l.name n) (find_variables n ls)
  where
    at : (b : Bool) → find (λ (q : Variable). bytes_eq q.name n) (map variable_of ls) ≡ option_map variable_of (find (λ (l : Local). bytes_eq l.name n) ls)
        → cond b (Some (variable_of l)) (find (λ (q : Variable). bytes_eq q.name n) (map variable_of ls)) ≡ option_map variable_of (cond b (Some l) (find (λ (l : Local). bytes_eq l.name n) ls))
    at true e = refl
    at false e = e

get_each : {X : Type 0} (P : X → Type 0) (xs : List X) (i : ℕ) (x : X) → EachOf P xs → slice_get xs i ≡ Some x → P x
get_each P [] i x e is = absurd cc
get_each P (y ∷ xs) zero x e is = subst P (some_is is) e.0
get_each P (y ∷ xs) (suc i) x e is = get_each P xs i x e.1 is

held_is : (t : Sort) (o : Option Sort) (h : Content) → o ≡ Some t → ContentOf o h → Belongs t (c.content_value h)
held_is t None (held.Value y) e h = absurd h
held_is t (Some q) (held.Value y) e h = subst (λ (z : Sort). Belongs z y) (some_is e) h
held_is t None (held.Token n) e h = absurd cc
held_is t (Some q) (held.Token n) e h = let f : Some q ≡ None = h in absurd cc

-- ---- fields

field_is : (bs : List Behavior) (fs : List Field) (ys : List Value) (i : ℕ) (f : Field) (t : Sort) → AreFields bs fs ys → slice_get fs i ≡ Some f → type_sort f.sort bs ≡ Some t → Belongs t (w.item_at ys i)
field_is bs [] ys i f t h is e = absurd cc
field_is bs (g ∷ fs) [] i f t h is e = absurd h
field_is bs (g ∷ fs) (y ∷ ys) zero f t h is e =
    let same : h.0.0 ≡ t = some_is (sym h.0.1.0 ∙ ap (λ (z : Field). type_sort z.sort bs) (some_is is) ∙ e) in
    subst (λ (z : Sort). Belongs z y) same h.0.1.1
field_is bs (g ∷ fs) (y ∷ ys) (suc i) f t h is e = field_is bs fs ys i f t h.1 is e

module _ (bs : List Behavior) where
  pub own_is : (r : Context) → r.behaviors ≡ bs → (s : State) → Sits (StateOf bs) r s → (n : List ℕ) (t : Sort) → field_sort n (scope_of r s) ≡ Some t → Belongs t (c.read_field n r s)
  unfolding field_sort c.field_named
  own_is r same s h n t e = at (find (λ (f : Field). bytes_eq f.name n) (fields_in (slice_get r.behaviors r.mine))) refl e
    where
      at : (o : Option Field) → find (λ (f : Field). bytes_eq f.name n) (fields_in (slice_get r.behaviors r.mine)) ≡ o → sort_of_field o r.behaviors ≡ Some t → Belongs t (c.field_value (position (λ (f : Field). bytes_eq f.name n) (fields_in (slice_get r.behaviors r.mine))) s)
      at None is e = absurd cc
      at (Some f) is e =
          let fs : List Field = fields_in (slice_get r.behaviors r.mine) in
          let p : Field → Bool = λ g. bytes_eq g.name n in
          let typed : AreFields r.behaviors fs s.fields = subst (λ z. AreFields z (fields_in (slice_get z r.mine)) s.fields) (sym same) h.fields in
          subst (λ z. Belongs t (c.field_value z s)) (sym (position_some (λ (g : Field). bytes_eq g.name n) (fields_in (slice_get r.behaviors r.mine)) f is))
          (field_is r.behaviors (fields_in (slice_get r.behaviors r.mine)) s.fields (position_or_len (λ (g : Field). bytes_eq g.name n) (fields_in (slice_get r.behaviors r.mine))) f t typed (position_get (λ (g : Field). bytes_eq g.name n) (fields_in (slice_get r.behaviors r.mine)) f is) e)

  pub name_is : (r : Context) → r.behaviors ≡ bs → (s : State) → Sits (StateOf bs) r s → (n : List ℕ) (t : Sort) → name_sort n (scope_of r s) ≡ Some t → Belongs t (c.read_variable n r s)
  unfolding name_sort c.local_named
  name_is r same s h n t e = at (find (λ (l : Local). bytes_eq l.name n) s.locals) refl (sym (ap (λ z. sort_of_local z (field_sort n (scope_of r s))) (find_variables n s.locals)) ∙ e)
    where
      at : (o : Option Local) → find (λ (l : Local). bytes_eq l.name n) s.locals ≡ o → sort_of_local (option_map variable_of o) (field_sort n (scope_of r s)) ≡ Some t → Belongs t (c.read_local_or_field (position (λ (l : Local). bytes_eq l.name n) s.locals) n r s)
      at None is e = subst (λ z. Belongs t (c.read_local_or_field z n r s)) (sym (position_none (λ (l : Local). bytes_eq l.name n) s.locals is)) (own_is r same s h n t e)
      at (Some l) is e =
          subst (λ z. Belongs t (c.read_local_or_field z n r s)) (sym (position_some (λ (l : Local). bytes_eq l.name n) s.locals l is))
          (subst (λ z. Belongs t (c.local_value z)) (sym (position_get (λ (l : Local). bytes_eq l.name n) s.locals l is))
          (held_is t l.sort l.held e (get_each (λ (l : Local). ContentOf l.sort l.held) s.locals (position_or_len (λ (l : Local). bytes_eq l.name n) s.locals) l h.locals (position_get (λ (l : Local). bytes_eq l.name n) s.locals l is))))

  -- all expressions of a program with these behaviours
  abbrev pub IsOf : Context → Type 0
  IsOf r = r.behaviors ≡ bs

  pub all_keep : (J : Expr → Scope → Kind → Type 0) (JS : Suffix → Scope → Kind → Kind → Type 0) (makes : ℕ → List Sort) (judges : Judges J JS makes) → (e : Expr) → PE (StateOf bs) J JS makes judges IsOf name_is own_is e
  all_keep J JS makes judges e = expressions_keep (StateOf bs) J JS makes judges IsOf name_is own_is e
