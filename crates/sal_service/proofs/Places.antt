-- The locators in a table of names stay good.
use Rattle.std.proofs.Common.{◌≡◌, ℕ, Bool, true, false, cond, Option, Some, None, refl, sym, ap, ◌∙◌}
use Rattle.std.specs.Prelude.{if◌then◌else◌, nat_lt, is_none}
use Rattle.std.specs.Option.{option_and_then}
use Rattle.std.specs.FinMap as fm
use Rattle.sal_value.specs.declared.name.Uan.{Uan}
use Rattle.sal_value.specs.declared.name.Ual.{Ual}
use Rattle.sal_value.specs.Names.{is_ual}
use Rattle.sal_value.specs.Order.{uan_key}
use Rattle.sal_value.specs.Table.{TableKey, key_cmp, key_eq, write}
use Rattle.sal_value.proofs.Tables.{get-write}
use Rattle.sal_envelope.specs.Spelling.{found_is_spelled}
use Rattle.sal_naming.specs.declared.entry.Entry.{Entry}
use Rattle.sal_naming.specs.declared.entry.Updated.{Updated}
use Rattle.sal_naming.specs.declared.entry.Updated.TheVariants as updated
use Rattle.sal_naming.specs.Table.{Names, entry_of, if_standing, standing_entry, keep, put_by, put_name, place_and_moves_of, get_name, update_by, update_name, delete_by, delete_name}
use Rattle.sal_naming.proofs.Removing.{put_undone}
use Rattle.sal_service.specs.declared.turned.Decision.{Decision}
use Rattle.sal_service.specs.Service.{is_bound}
use Rattle.sal_service.specs.code.Answering.{undone}
use Rattle.sal_service.specs.code.Places.{PlacesAreGood}

some_is : {A : Type 0} (x y : A) → ◌≡◌ {A = Option A} (Some x) (Some y) → x ≡ y
some_is x y e = cc

none_apart : {A : Type 0} {B : Type 0} (y : A) → ◌≡◌ {A = Option A} None (Some y) → B
none_apart y e = absurd cc

pub keep_good : (u : Uan) (e : Entry) (t : Names) → is_ual e.place ≡ true → PlacesAreGood t → PlacesAreGood (keep u e t)
keep_good u e t h g = record { good = λ k x there. at k x (key_eq k (uan_key u)) (sym (get-write t (uan_key u) (Some e) k) ∙ there) }
  where
    at : (k : TableKey) (x : Entry) (b : Bool) → cond b (Some e) (fm.get t k) ≡ Some x → is_ual x.place ≡ true
    at k x true there = ap (λ (z : Entry). is_ual z.place) (sym (some_is e x there)) ∙ h
    at k x false there = g.good k x there

pub forget_good : (u : Uan) (t : Names) → PlacesAreGood t → PlacesAreGood (write t (uan_key u) None)
forget_good u t g = record { good = λ k x there. at k x (key_eq k (uan_key u)) (sym (get-write t (uan_key u) None k) ∙ there) }
  where
    at : (k : TableKey) (x : Entry) (b : Bool) → cond b None (fm.get t k) ≡ Some x → is_ual x.place ≡ true
    at k x true there = none_apart x there
    at k x false there = g.good k x there

pub put_good : (u : Uan) (place : Ual) (t : Names) → is_ual place ≡ true → PlacesAreGood t → PlacesAreGood (put_name u place t).1
unfolding put_name
put_good u place t h g = at (entry_of u t)
  where
    at : (o : Option Entry) → PlacesAreGood (put_by o u place t).1
    at None = keep_good u (record { place = place; moves = 0; withdrawn = false }) t h g
    at (Some e) = g

-- what stands is kept
stands : (u : Uan) (t : Names) (e : Entry) → standing_entry u t ≡ Some e → entry_of u t ≡ Some e
stands u t e h = at (entry_of u t) h
  where
    withdrawn : (x : Entry) (b : Bool) → (if b then None else Some x) ≡ Some e → ◌≡◌ {A = Option Entry} (Some x) (Some e)
    withdrawn x true h = none_apart e h
    withdrawn x false h = h

    at : (o : Option Entry) → option_and_then if_standing o ≡ Some e → o ≡ Some e
    at None h = none_apart e h
    at (Some x) h = withdrawn x x.withdrawn h

standing_good : (u : Uan) (t : Names) (e : Entry) → PlacesAreGood t → standing_entry u t ≡ Some e → is_ual e.place ≡ true
standing_good u t e g h = g.good (uan_key u) e (stands u t e h)

abbrev update_if : Uan → Ual → ℕ → Names → Entry → Bool → Updated × Names
update_if u place moves t e newer = if newer then (updated.Done, keep u (record e { place = place; moves = moves }) t) else (updated.Stale, t)

pub update_good : (u : Uan) (place : Ual) (moves : ℕ) (t : Names) → is_ual place ≡ true → PlacesAreGood t → PlacesAreGood (update_name u place moves t).1
unfolding update_name
update_good u place moves t h g = at (standing_entry u t)
  where
    newer : (e : Entry) (b : Bool) → PlacesAreGood (update_if u place moves t e b).1
    newer e true = keep_good u (record e { place = place; moves = moves }) t h g
    newer e false = g

    at : (o : Option Entry) → PlacesAreGood (update_by o u place moves t).1
    at None = g
    at (Some e) = newer e (nat_lt e.moves moves)

pub delete_good : (u : Uan) (t : Names) → PlacesAreGood t → PlacesAreGood (delete_name u t).1
unfolding delete_name
delete_good u t g = at (standing_entry u t) refl
  where
    at : (o : Option Entry) → standing_entry u t ≡ o → PlacesAreGood (delete_by o u t).1
    at None h = g
    at (Some e) h = keep_good u (record e { withdrawn = true }) t (standing_good u t e g h) g

pub found_good : (u : Uan) (t : Names) → PlacesAreGood t → found_is_spelled (get_name u t) ≡ true
unfolding get_name found_is_spelled
found_good u t g = at (standing_entry u t) refl
  where
    at : (o : Option Entry) → standing_entry u t ≡ o → found_is_spelled (place_and_moves_of o) ≡ true
    at None h = refl
    at (Some e) h = standing_good u t e g h

pub empty_good : PlacesAreGood fm.empty
empty_good = record { good = λ k e there. none_apart e (sym (fm.get-empty key_cmp k) ∙ there) }

-- ---- a put

pub bound_is : (u : Uan) (place : Ual) (t : Names) → is_none (entry_of u t) ≡ is_bound (put_name u place t).0
unfolding put_name
bound_is u place t = at (entry_of u t)
  where
    at : (o : Option Entry) → is_none o ≡ is_bound (put_by o u place t).0
    at None = refl
    at (Some e) = refl

-- a put that is undone leaves the table as it was
pub put_back : (u : Uan) (place : Ual) (t : Names) → (if is_bound (put_name u place t).0 then write (put_name u place t).1 (uan_key u) None else (put_name u place t).1) ≡ t
unfolding put_name
put_back u place t = at (entry_of u t) refl
  where
    at : (o : Option Entry) → entry_of u t ≡ o → (if is_bound (put_by o u place t).0 then write (put_by o u place t).1 (uan_key u) None else (put_by o u place t).1) ≡ t
    at None h = put_undone u (record { place = place; moves = 0; withdrawn = false }) t h
    at (Some e) h = refl

-- the same, by what was decided
pub put_undone_by : (d : Decision) (place : Ual) (t : Names) → d.bound ≡ is_bound (put_name d.name place t).0 → undone d (put_name d.name place t).1 ≡ t
put_undone_by d place t e =
    ap (λ b. if b then write (put_name d.name place t).1 (uan_key d.name) None else (put_name d.name place t).1) e ∙ put_back d.name place t
