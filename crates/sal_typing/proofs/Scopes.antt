-- What is known of a place stays known where one more name is in scope.
use Rattle.std.proofs.Common.{◌≡◌, ℕ, Bool, true, false, not, cond, is_some, List, [], ◌∷◌, ◌++◌, map, Option, Some, None, refl, ap, ◌∙◌}
use Rattle.std.specs.List.{find}
use Rattle.std.specs.Str.{bytes_eq}
use Rattle.sal_value.specs.declared.value.Sort.{Sort as MeantSort}
use Rattle.sal_ast.specs.Sorts.{scope_with_local}
use Rattle.sal_sorts.specs.declared.variable.Variable.{Variable}
use Rattle.sal_sorts.specs.Environments.{Environment, local_with_name, is_free, with_variable}
use Rattle.sal_types.specs.Statements.{join_environment}
use Rattle.sal_typing.specs.Numbers.{number_variable, scope_of}
use Rattle.sal_typing.specs.Known.{IsKnownVariable, NamesAreDistinct, IsKnown}
use Rattle.sal_typing.proofs.Finding.{each_join, bytes_turn}

none_before : {X : Type 0} (p : X → Bool) (x : X) (xs : List X) → find p (x ∷ xs) ≡ None → (p x ≡ false) × (find p xs ≡ None)
none_before {X} p x xs h = by (p x) refl h
  where
    by : (b : Bool) → p x ≡ b → cond b (Some x) (find p xs) ≡ None → (p x ≡ false) × (find p xs ≡ None)
    by true is e = absurd cc
    by false is e = (is, e)

none_behind : {X : Type 0} (p : X → Bool) (xs : List X) (x : X) → find p xs ≡ None → p x ≡ false → find p (xs ++ x ∷ []) ≡ None
none_behind p [] x h e = rw e refl
none_behind p (y ∷ xs) x h e =
    let r = none_before p y xs h in
    let more = none_behind p xs x r.1 e in
    rw r.0 more

stay_distinct : (vs : List Variable) (v : Variable) → NamesAreDistinct vs → find (λ w. bytes_eq w.name v.name) vs ≡ None → NamesAreDistinct (vs ++ v ∷ [])
stay_distinct [] v h e = (refl, tt)
stay_distinct (w ∷ ws) v h e =
    let r = none_before (λ (x : Variable). bytes_eq x.name v.name) w ws e in
    (none_behind (λ (x : Variable). bytes_eq x.name w.name) ws v h.0 (bytes_turn w.name v.name r.0), stay_distinct ws v h.1 r.1)

none_is : {A : Type 0} (o : Option A) → not (is_some o) ≡ true → o ≡ None
none_is None h = refl
none_is (Some a) h = absurd cc

pub known_with : (env : Environment) (mine : ℕ) (v : Variable) → IsKnown env mine → IsKnownVariable env.behaviors v → is_free v.name env ≡ true → IsKnown (with_variable env (Some v)) mine
unfolding is_free local_with_name
known_with env mine v h k f = record {
  few = h.few;
  own = h.own;
  members = h.members;
  result = h.result;
  scope = each_join (IsKnownVariable env.behaviors) env.scope (v ∷ []) h.scope (k, tt);
  distinct = stay_distinct env.scope v h.distinct (none_is (local_with_name v.name env) f);
}

pub known_in_join : (env : Environment) (mine : ℕ) → IsKnown env mine → IsKnown (join_environment env) mine
known_in_join env mine h = record { few = h.few; own = h.own; members = h.members; result = h.result; scope = h.scope; distinct = h.distinct }

pub same_behaviors : (env : Environment) (o : Option Variable) → (with_variable env o).behaviors ≡ env.behaviors
same_behaviors env None = refl
same_behaviors env (Some v) = refl

map_behind : {X Y : Type 0} (f : X → Y) (xs : List X) (x : X) → map f xs ++ f x ∷ [] ≡ map f (xs ++ x ∷ [])
map_behind f [] x = refl
map_behind f (y ∷ xs) x = ap (λ l. f y ∷ l) (map_behind f xs x)

-- the meaning's scope with one more name
pub scope_with : (env : Environment) (mine : ℕ) (v : Variable) (k : Option MeantSort) → k ≡ (number_variable env.behaviors v).sort → scope_with_local v.name k (scope_of env mine) ≡ scope_of (with_variable env (Some v)) mine
scope_with env mine v k e =
    ap (λ s. scope_with_local v.name s (scope_of env mine)) e
    ∙ ap (λ l. record { behaviors = env.behaviors; mine = mine; locals = l }) (map_behind (number_variable env.behaviors) env.scope v)
