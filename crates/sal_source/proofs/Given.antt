-- The names given are those of the actors.
use Rattle.std.proofs.Common.{◌≡◌, ℕ, Bool, true, false, cond, ◌||◌, List, [], ◌∷◌, Option, Some, is_some, refl, sym, ap, ◌∙◌}
use Rattle.std.proofs.lemmas.Cmp.{nat_list_cmp_total}
use Rattle.std.specs.FinMap as fm
use Rattle.std.specs.FinSet as fs
use Rattle.sal_mail.specs.declared.effects.Actor.{Actor}
use Rattle.sal_source.specs.Table.{TableKey, key_cmp, key_eq, Table, write, keys_of}
use Rattle.sal_source.specs.Keys.{name_key}
use Rattle.sal_source.specs.Step.{put_actors, give_names}
use Rattle.sal_source.proofs.Tables.{words_anti, same_words, get-write}

pub contains_keys : {X : Type 0} (t : Table X) (q : TableKey) → fs.contains (keys_of t) q ≡ fm.contains_key t q
contains_keys t q = fs.contains-from_list nat_list_cmp_total (fm.keys t) q ∙ sym (fm.contains_key-keys t q)

same_keys : (s t : fs.FinSet key_cmp) → ((q : TableKey) → fs.contains s q ≡ fs.contains t q) → s ≡ t
same_keys s t e = fs.same_set nat_list_cmp_total words_anti s t e

pub keys_write : {X : Type 0} (t : Table X) (k : TableKey) (x : X) → keys_of (write t k (Some x)) ≡ fs.insert (keys_of t) k
keys_write t k x = same_keys _ _ (λ q. contains_keys (write t k (Some x)) q ∙ ap is_some (get-write t k (Some x) q) ∙ at (key_eq q k) (fm.get t q) ∙ ap (λ b. key_eq q k || b) (sym (contains_keys t q)) ∙ sym (fs.contains-insert nat_list_cmp_total (keys_of t) k q))
  where
    at : (b : Bool) (o : Option _) → is_some (cond b (Some x) o) ≡ (b || is_some o)
    at true o = refl
    at false o = refl

pub keys_put : (actors : List Actor) (t : Table (Actor × ℕ)) → keys_of (put_actors actors t) ≡ give_names actors (keys_of t)
keys_put [] t = refl
keys_put (a ∷ actors) t = keys_write (put_actors actors t) (name_key a.name) (a, 0) ∙ ap (λ s. fs.insert s (name_key a.name)) (keys_put actors t)

has_write : {X : Type 0} (t : Table X) (k q : TableKey) (x : X) → fm.contains_key t q ≡ true → fm.contains_key (write t k (Some x)) q ≡ true
has_write t k q x h = ap is_some (get-write t k (Some x) q) ∙ at (key_eq q k) (fm.get t q) h
  where
    at : (b : Bool) (o : Option _) → is_some o ≡ true → is_some (cond b (Some x) o) ≡ true
    at true o h = refl
    at false o h = h

pub has_put : (actors : List Actor) (t : Table (Actor × ℕ)) (q : TableKey) → fm.contains_key t q ≡ true → fm.contains_key (put_actors actors t) q ≡ true
has_put [] t q h = h
has_put (a ∷ actors) t q h = has_write (put_actors actors t) (name_key a.name) q (a, 0) (has_put actors t q h)

-- an actor that is there already gives no name
pub keys_again : {X : Type 0} (t : Table X) (k : TableKey) (x : X) → fm.contains_key t k ≡ true → keys_of (write t k (Some x)) ≡ keys_of t
keys_again t k x h = same_keys _ _ (λ q. contains_keys (write t k (Some x)) q ∙ ap is_some (get-write t k (Some x) q) ∙ at q (key_eq q k) refl ∙ sym (contains_keys t q))
  where
    at : (q : TableKey) (b : Bool) → key_eq q k ≡ b → is_some (cond b (Some x) (fm.get t q)) ≡ is_some (fm.get t q)
    at q true e = sym (ap (λ z. fm.contains_key t z) (same_words q k e) ∙ h)
    at q false e = refl

pub keys_none : (X : Type 0) → keys_of (fm.empty {X = X} {R = key_cmp}) ≡ fs.empty
keys_none X = same_keys _ _ (λ q. contains_keys (fm.empty {X = X} {R = key_cmp}) q ∙ ap is_some (fm.get-empty {X = X} key_cmp q) ∙ sym (fs.contains-empty key_cmp q))
