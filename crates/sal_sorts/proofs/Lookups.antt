-- The first member of a name, from one member to the next.
use Rattle.std.proofs.Common.{◌≡◌, ℕ, ◌+◌, suc, Bool, true, false, cond, ◌<◌, ◌≤◌, length, get_or, drop, drop-cons, add-one, List, [], ◌∷◌, Option, Some, None, option_map, sym, ap, ◌∙◌, refl}
use Rattle.std.specs.Prelude.{filter_map, slice_get, if◌then◌else◌}
use Rattle.std.specs.List.{cons_option}
use Rattle.std.proofs.lemmas.List.{drop_all}
use Rattle.std.specs.List.{find}
use Rattle.std.specs.Str.{bytes_eq}
use Rattle.sal_ast.specs.declared.program.Behavior.{Behavior}
use Rattle.sal_ast.specs.declared.program.Member.{Member}
use Rattle.sal_ast.specs.Members.{Field, Handler, fields_of, handlers_of, as_field, as_handler, as_constructor}
use Rattle.sal_sorts.specs.declared.sort.Sort.{Sort}
use Rattle.sal_sorts.specs.Environments.{Environment, behavior_with_name, field_with_name, fields_in, handlers_in, is_migrate, migrate_type, handler_with_name, field_variable, type_of_handler, constructor_params}
use Rattle.sal_sorts.specs.code.Callees.{field_if_same, handler_if_same, first_field, first_handler, first_constructor}

-- the first, or else the second
abbrev pub first_some : {A : Type 0} → Option A → Option A → Option A
first_some (Some a) other = Some a
first_some None other = other

module _ {X Y : Type 0} (p : X → Bool) (g : X → Y) where
  abbrev keep : Option X → Option Y
  keep None = None
  keep (Some x) = cond (p x) (Some (g x)) None

  found : (b : Bool) (x : X) (r : Option X) → option_map g (cond b (Some x) r) ≡ first_some (cond b (Some (g x)) None) (option_map g r)
  found true x r = refl
  found false x r = refl

  found_in : (o : Option X) (xs : List X) → option_map g (find p (cons_option o xs)) ≡ first_some (keep o) (option_map g (find p xs))
  found_in None xs = refl
  found_in (Some x) xs = found (p x) x (find p xs)

field_kept : (name : List ℕ) (o : Option Field) → keep (λ f. bytes_eq f.name name) field_variable o ≡ field_if_same name o
field_kept name None = refl
field_kept name (Some f) = refl

handler_kept : (name : List ℕ) (o : Option Handler) → keep (λ f. bytes_eq f.name name) type_of_handler o ≡ handler_if_same name o
handler_kept name None = refl
handler_kept name (Some f) = refl

field_cons : (name : List ℕ) (m : Member) (rest : List Member) → first_field name (m ∷ rest) ≡ first_some (field_if_same name (as_field m)) (first_field name rest)
unfolding first_field
field_cons name m rest =
    found_in (λ f. bytes_eq f.name name) field_variable (as_field m) (filter_map as_field rest)
    ∙ ap (λ o. first_some o (first_field name rest)) (field_kept name (as_field m))

handler_cons : (name : List ℕ) (m : Member) (rest : List Member) → first_handler name (m ∷ rest) ≡ first_some (handler_if_same name (as_handler m)) (first_handler name rest)
unfolding first_handler
handler_cons name m rest =
    found_in (λ f. bytes_eq f.name name) type_of_handler (as_handler m) (filter_map as_handler rest)
    ∙ ap (λ o. first_some o (first_handler name rest)) (handler_kept name (as_handler m))

pub field_at : (name : List ℕ) (ms : List Member) (i : ℕ) (m : Member) → i < length ms → m ≡ get_or ms i m → first_field name (drop i ms) ≡ first_some (field_if_same name (as_field m)) (first_field name (drop (i + 1) ms))
field_at name ms i m h e =
    ap (first_field name) (drop-cons ms i m h ∙ ap (λ x. x ∷ drop (suc i) ms) (sym e))
    ∙ field_cons name m (drop (suc i) ms)
    ∙ ap (λ n. first_some (field_if_same name (as_field m)) (first_field name (drop n ms))) (sym (add-one i))

pub handler_at : (name : List ℕ) (ms : List Member) (i : ℕ) (m : Member) → i < length ms → m ≡ get_or ms i m → first_handler name (drop i ms) ≡ first_some (handler_if_same name (as_handler m)) (first_handler name (drop (i + 1) ms))
handler_at name ms i m h e =
    ap (first_handler name) (drop-cons ms i m h ∙ ap (λ x. x ∷ drop (suc i) ms) (sym e))
    ∙ handler_cons name m (drop (suc i) ms)
    ∙ ap (λ n. first_some (handler_if_same name (as_handler m)) (first_handler name (drop n ms))) (sym (add-one i))

pub no_field : (name : List ℕ) (ms : List Member) (i : ℕ) → length ms ≤ i → first_field name (drop i ms) ≡ None
unfolding first_field
no_field name ms i h = ap (first_field name) (drop_all i ms h)

pub no_handler : (name : List ℕ) (ms : List Member) (i : ℕ) → length ms ≤ i → first_handler name (drop i ms) ≡ None
unfolding first_handler
no_handler name ms i h = ap (first_handler name) (drop_all i ms h)

-- what a constructor takes, if the member is one, or else this
abbrev pub params_or : Option Handler → List Sort → List Sort
params_or None other = other
params_or (Some c) other = constructor_params (Some c)

constructor_cons_in : (o : Option Handler) (cs : List Handler) → constructor_params (slice_get (cons_option o cs) 0) ≡ params_or o (constructor_params (slice_get cs 0))
constructor_cons_in None cs = refl
constructor_cons_in (Some c) cs = refl

pub constructor_at : (ms : List Member) (i : ℕ) (m : Member) → i < length ms → m ≡ get_or ms i m → first_constructor (drop i ms) ≡ params_or (as_constructor m) (first_constructor (drop (i + 1) ms))
unfolding first_constructor
constructor_at ms i m h e =
    ap first_constructor (drop-cons ms i m h ∙ ap (λ x. x ∷ drop (suc i) ms) (sym e))
    ∙ constructor_cons_in (as_constructor m) (filter_map as_constructor (drop (suc i) ms))
    ∙ ap (λ n. params_or (as_constructor m) (first_constructor (drop n ms))) (sym (add-one i))

pub no_constructor : (ms : List Member) (i : ℕ) → length ms ≤ i → first_constructor (drop i ms) ≡ []
unfolding first_constructor
no_constructor ms i h = ap first_constructor (drop_all i ms h)

pub ruleset lookups = (no_field, no_handler, no_constructor)

pub field_of_behavior : (name : List ℕ) (env : Environment) (b : Behavior) → behavior_with_name env.own env ≡ Some b → field_with_name name env ≡ first_field name b.members
unfolding field_with_name first_field fields_of
field_of_behavior name env b e = ap (λ o. option_map field_variable (find (λ f. bytes_eq f.name name) (fields_in o))) e

pub field_of_none : (name : List ℕ) (env : Environment) → behavior_with_name env.own env ≡ None → field_with_name name env ≡ None
unfolding field_with_name
field_of_none name env e = ap (λ o. option_map field_variable (find (λ f. bytes_eq f.name name) (fields_in o))) e

pub ruleset fields = (field_of_behavior, field_of_none)

pub handler_migrate : (name : List ℕ) (o : Option Behavior) → is_migrate name ≡ true → handler_with_name name o ≡ Some migrate_type
unfolding handler_with_name
handler_migrate name o h = ap (λ b. if b then Some migrate_type else option_map type_of_handler (find (λ h. bytes_eq h.name name) (handlers_in o))) h

pub handler_of_none : (name : List ℕ) → is_migrate name ≡ false → handler_with_name name None ≡ None
unfolding handler_with_name
handler_of_none name h = ap (λ b. if b then Some migrate_type else None) h

pub handler_of_behavior : (name : List ℕ) (b : Behavior) → is_migrate name ≡ false → handler_with_name name (Some b) ≡ first_handler name b.members
unfolding handler_with_name first_handler handlers_of
handler_of_behavior name b h = ap (λ t. if t then Some migrate_type else option_map type_of_handler (find (λ h. bytes_eq h.name name) (handlers_of b))) h

pub ruleset handlers = (handler_migrate, handler_of_none, handler_of_behavior)
