-- What becomes of the table where one entry changes in its place.
use Rattle.std.proofs.Common.{◌≡◌, ℕ, Bool, true, false, if◌then◌else◌, Option, Some, None, is_some, refl, sym, ap, ◌∙◌, true≢false, Bor}
use Rattle.std.specs.Prelude.{nat_lt}
use Rattle.std.specs.Option.{option_and_then, option_copied}
use Rattle.sal_value.specs.declared.name.Uan.{Uan}
use Rattle.sal_value.specs.declared.name.Ual.{Ual}
use Rattle.sal_value.specs.Order.{uan_key}
use Rattle.sal_value.proofs.Tables.{written_same}
use Rattle.sal_naming.specs.declared.entry.Entry.{Entry}
use Rattle.sal_naming.specs.declared.entry.Put.TheVariants as put
use Rattle.sal_naming.specs.declared.entry.Updated.{Updated}
use Rattle.sal_naming.specs.declared.entry.Updated.TheVariants as updated
use Rattle.sal_naming.specs.declared.entry.Deleted.{Deleted}
use Rattle.sal_naming.specs.declared.entry.Deleted.TheVariants as deleted
use Rattle.sal_naming.specs.Changes.{update_entry, delete_entry}
use Rattle.sal_naming.specs.Table.{Names, entry_of, if_standing, keep, put_by, put_name, update_by, update_name, delete_by, delete_name}

-- where the entry stays, so does the table
both : {A : Type 0} (u : Uan) (t t' : Names) (e' x : Entry) (s : Names) (answer a : A)
    → ◌≡◌ {A = A × Entry} (answer, e') (a, x) → t' ≡ keep u e' t → keep u x t ≡ s → ◌≡◌ {A = A × Names} (answer, t') (a, s)
both u t t' e' x s answer a is new same = λ i. ((is i).0, (new ∙ ap (λ z. keep u z t) (λ j. (is j).1) ∙ same) i)

pub updates : (u : Uan) (place : Ual) (moves : ℕ) (e e' : Entry) (answer : Updated) (t t' : Names) → Some e ≡ entry_of u t → ◌≡◌ {A = Updated × Entry} (answer, e') (update_entry place moves e) → t' ≡ keep u e' t → ◌≡◌ {A = Updated × Names} (answer, t') (update_name u place moves t)
unfolding update_name
updates u place moves e e' answer t t' there is new =
    at e.withdrawn (nat_lt e.moves moves) is ∙ sym (standing_is e.withdrawn) ∙ ap (λ o. update_by (option_and_then if_standing o) u place moves t) there
  where
    more : Entry
    more = record e { place = place; moves = moves }

    at : (b c : Bool) → ◌≡◌ {A = Updated × Entry} (answer, e') (if b then (updated.NotFound, e) else if c then (updated.Done, more) else (updated.Stale, e))
        → ◌≡◌ {A = Updated × Names} (answer, t') (if b then (updated.NotFound, t) else if c then (updated.Done, keep u more t) else (updated.Stale, t))
    at true c s = both u t t' e' e t answer updated.NotFound s new (written_same t (uan_key u) e (sym there))
    at false true s = both u t t' e' more (keep u more t) answer updated.Done s new refl
    at false false s = both u t t' e' e t answer updated.Stale s new (written_same t (uan_key u) e (sym there))

    standing_is : (b : Bool) → update_by (if b then None else Some e) u place moves t ≡ (if b then (updated.NotFound, t) else if nat_lt e.moves moves then (updated.Done, keep u more t) else (updated.Stale, t))
    standing_is true = refl
    standing_is false = refl

pub updates_none : (u : Uan) (place : Ual) (moves : ℕ) (t : Names) → None ≡ entry_of u t → (updated.NotFound, t) ≡ update_name u place moves t
unfolding update_name
updates_none u place moves t none = ap (λ o. update_by (option_and_then if_standing o) u place moves t) none

pub deletes : (u : Uan) (e e' : Entry) (answer : Deleted) (t t' : Names) → Some e ≡ entry_of u t → ◌≡◌ {A = Deleted × Entry} (answer, e') (delete_entry e) → t' ≡ keep u e' t → ◌≡◌ {A = Deleted × Names} (answer, t') (delete_name u t)
unfolding delete_name
deletes u e e' answer t t' there is new = at e.withdrawn is ∙ sym (standing_is e.withdrawn) ∙ ap (λ o. delete_by (option_and_then if_standing o) u t) there
  where
    gone : Entry
    gone = record e { withdrawn = true }

    at : (b : Bool) → ◌≡◌ {A = Deleted × Entry} (answer, e') (if b then (deleted.NotFound, e) else (deleted.Done, gone))
        → ◌≡◌ {A = Deleted × Names} (answer, t') (if b then (deleted.NotFound, t) else (deleted.Done, keep u gone t))
    at true s = both u t t' e' e t answer deleted.NotFound s new (written_same t (uan_key u) e (sym there))
    at false s = both u t t' e' gone (keep u gone t) answer deleted.Done s new refl

    standing_is : (b : Bool) → delete_by (if b then None else Some e) u t ≡ (if b then (deleted.NotFound, t) else (deleted.Done, keep u gone t))
    standing_is true = refl
    standing_is false = refl

pub deletes_none : (u : Uan) (t : Names) → None ≡ entry_of u t → (deleted.NotFound, t) ≡ delete_name u t
unfolding delete_name
deletes_none u t none = ap (λ o. delete_by (option_and_then if_standing o) u t) none

-- ---- a name is put

pub none_is : (r : Option (Bor Entry)) (b : Bool) → b ≡ is_some r → b ≡ false → None ≡ option_copied r
none_is None b e f = refl
none_is (Some x) b e f = absurd (true≢false (sym e ∙ f))

pub puts : (u : Uan) (place : Ual) (e : Entry) (t t' : Names) → None ≡ entry_of u t → e ≡ record { place = place; moves = 0; withdrawn = false } → t' ≡ keep u e t → (put.Bound, t') ≡ put_name u place t
unfolding put_name
puts u place e t t' none is new = ap (λ x. (put.Bound, x)) (new ∙ ap (λ x. keep u x t) is) ∙ ap (λ o. put_by o u place t) none
