-- Room for what is to be joined.
use Rattle.std.proofs.Common.{◌≡◌, ◌⊎◌, inl, inr, ◌+◌, ◌^◌, ◌<◌, Bool, true, false, cond, List, [], ◌∷◌, ◌++◌, length, Option, Some, None, refl, sym, ap, subst, ◌∙◌, arith}
use Rattle.std.specs.Option.{unwrap_or}
use Rattle.std.specs.FinMap as fm
use Rattle.sal_value.specs.declared.name.Name.{Name}
use Rattle.sal_value.specs.Order.{key}
use Rattle.sal_value.specs.Table.{TableKey, key_cmp, key_eq, table_by, write}
use Rattle.sal_value.proofs.Tables.{same_words, words_refl, same_table, get-write, written_same}
use Rattle.sal_queues.specs.Queues.{Queues, queue_of, filled, joined_entries, joined, with_room, if_filled, HasRoomAt, HasRoomFor, KeepsRoom}
use Rattle.sal_queues.proofs.Keys.{at_key, get_by}
use Rattle.sal_queues.proofs.Laws.{filled_is, filled-write, same_filled, queue_of-write, extended, none_after, get_after}

no_length : {A : Type 0} (es : List A) → length es ≡ 0 → es ≡ []
no_length [] e = refl
no_length (x ∷ es) e = absurd (omega arith)

pub entries-empty : {X : Type 0} → fm.entries (fm.empty {X = X} {R = key_cmp}) ≡ []
entries-empty {X} = no_length _ (sym (fm.len-entries (fm.empty {X = X} {R = key_cmp})) ∙ fm.len-empty key_cmp X)

module _ {X : Type 0} where
  -- ---- a list is made where there was none

  pub filled-with_room : (t : Queues X) (k : TableKey) → filled (with_room k t) ≡ filled t
  unfolding with_room
  filled-with_room t k = same_filled _ _ (λ q. queue_of-write t k (Some (queue_of k t)) q ∙ at q (key_eq q k) refl)
    where
      at : (q : TableKey) (b : Bool) → key_eq q k ≡ b → cond b (queue_of k t) (queue_of q t) ≡ queue_of q t
      at q true is = ap (λ w. queue_of w t) (sym (same_words q k is))
      at q false is = refl

  pub room_there : (t : Queues X) (k : TableKey) (xs : List X) → Some xs ≡ fm.get t k → t ≡ with_room k t
  unfolding with_room
  room_there t k xs there = sym (written_same t k (queue_of k t) (sym there ∙ ap (λ o. Some (unwrap_or o [])) there))

  pub room_made : (t : Queues X) (k : TableKey) → None ≡ fm.get t k → write t k (Some []) ≡ with_room k t
  unfolding with_room
  room_made t k none = ap (λ o. write t k (Some (unwrap_or o []))) none

  room_at : (t : Queues X) (k : TableKey) (xs : List X) → length (queue_of k t) + length xs < 2 ^ 63 → HasRoomAt (Some xs) (fm.get (with_room k t) k)
  unfolding with_room
  room_at t k xs fits = subst (HasRoomAt (Some xs)) (sym (get-write t k (Some (queue_of k t)) k ∙ ap (λ b. cond b (Some (queue_of k t)) (fm.get t k)) (words_refl k))) fits

  keeps_room : (t : Queues X) (k q : TableKey) (o : Option (List X)) → HasRoomAt o (fm.get t q) → HasRoomAt o (fm.get (with_room k t) q)
  unfolding with_room
  keeps_room t k q o had = subst (HasRoomAt o) (sym (get-write t k (Some (queue_of k t)) q)) (at (key_eq q k) refl)
    where
      same : (o p : Option (List X)) → HasRoomAt o p → HasRoomAt o (Some (unwrap_or p []))
      same None p h = tt
      same (Some xs) None h = absurd h
      same (Some xs) (Some ys) h = h

      at : (b : Bool) → key_eq q k ≡ b → HasRoomAt o (cond b (Some (queue_of k t)) (fm.get t q))
      at true is = subst (λ w. HasRoomAt o (Some (queue_of w t))) (same_words q k is) (same o (fm.get t q) had)
      at false is = had

  -- ---- room for each entry of a list in turn

  -- There is room for all but those that are left. What stands at a key is that of its first entry.
  abbrev pub IsRoomButFor : List (Name × List X) → List (Name × List X) → Queues X → Type 0
  IsRoomButFor left all t = (q : TableKey) → (at_key key q left ≡ at_key key q all) ⊎ HasRoomAt (at_key key q all) (fm.get t q)

  pub room_step : (e : Name × List X) (left all : List (Name × List X)) (t : Queues X) → IsRoomButFor (e ∷ left) all t → length (queue_of (key e.0) t) + length e.1 < 2 ^ 63 → IsRoomButFor left all (with_room (key e.0) t)
  room_step e left all t had fits q = elim (had q) [
    | inr room ↦ inr (keeps_room t (key e.0) q (at_key key q all) room)
    | inl same ↦ at (key_eq q (key e.0)) refl same
  ]
    where
      at : (b : Bool) → key_eq q (key e.0) ≡ b → cond b (Some e.1) (at_key key q left) ≡ at_key key q all → (at_key key q left ≡ at_key key q all) ⊎ HasRoomAt (at_key key q all) (fm.get (with_room (key e.0) t) q)
      at true is same = inr (subst (λ o. HasRoomAt o (fm.get (with_room (key e.0) t) q)) same (
          subst (λ w. HasRoomAt (Some e.1) (fm.get (with_room (key e.0) t) w)) (sym (same_words q (key e.0) is)) (room_at t (key e.0) e.1 fits)))
      at false is same = inl same

  pub room_for : (all : List (Name × List X)) (t more : Queues X) → IsRoomButFor [] all t → table_by key all ≡ more → HasRoomFor t more
  unfolding HasRoomFor
  room_for all t more had is q = subst (λ o. HasRoomAt o (fm.get t q)) (sym (get_by key all q) ∙ ap (λ u. fm.get u q) is) (elim (had q) [
    | inr room ↦ room
    | inl same ↦ subst (λ o. HasRoomAt o (fm.get t q)) same tt
  ])

  -- ---- the first of the queues that are joined

  pub room_first : (t more rest : Queues X) (k : TableKey) (xs : List X) → HasRoomFor t more → fm.entries more ≡ (k, xs) ∷ fm.entries rest → HasRoomAt (Some xs) (fm.get t k)
  unfolding HasRoomFor
  room_first t more rest k xs had is =
      subst (λ o. HasRoomAt o (fm.get t k)) (get_after more rest k k xs is ∙ ap (λ b. cond b (Some xs) (fm.get rest k)) (words_refl k)) (had k)

  room_rest : (t more rest : Queues X) (k : TableKey) (xs ys : List X) → HasRoomFor t more → fm.entries more ≡ (k, xs) ∷ fm.entries rest → HasRoomFor (write t k (Some ys)) rest
  unfolding HasRoomFor
  room_rest t more rest k xs ys had is q = subst (HasRoomAt (fm.get rest q)) (sym (get-write t k (Some ys) q)) (at (key_eq q k) refl)
    where
      at : (b : Bool) → key_eq q k ≡ b → HasRoomAt (fm.get rest q) (cond b (Some ys) (fm.get t q))
      at true same = subst (λ o. HasRoomAt o (Some ys)) (sym (none_after more rest k q xs is same)) tt
      at false other = subst (λ o. HasRoomAt o (fm.get t q)) (get_after more rest k q xs is ∙ ap (λ b. cond b (Some xs) (fm.get rest q)) other) (had q)

  joined_first : (t more rest : Queues X) (k : TableKey) (xs : List X) → fm.entries more ≡ (k, xs) ∷ fm.entries rest → joined rest (filled (write t k (Some (queue_of k t ++ xs)))) ≡ joined more (filled t)
  unfolding joined
  joined_first t more rest k xs is = ap (joined_entries (fm.entries rest)) (extended t k xs) ∙ sym (ap (λ es. joined_entries es (filled t)) is)

  -- the first queue is joined, and the rest is left
  pub append_step : (t u more rest s : Queues X) (k : TableKey) (xs : List X) → HasRoomFor t more → joined more (filled t) ≡ s → fm.entries more ≡ (k, xs) ∷ fm.entries rest → u ≡ write t k (Some (queue_of k t ++ xs)) → HasRoomFor u rest × (joined rest (filled u) ≡ s)
  append_step t u more rest s k xs had same is new = (
    subst (λ v. HasRoomFor v rest) (sym new) (room_rest t more rest k xs (queue_of k t ++ xs) had is),
    ap (λ v. joined rest (filled v)) new ∙ joined_first t more rest k xs is ∙ same,
  )

  pub joined_none : (more t : Queues X) → more ≡ fm.empty → t ≡ joined more t
  unfolding joined
  joined_none more t is = sym (ap (λ es. joined_entries es t) (ap fm.entries is ∙ entries-empty))

  -- ---- a list is emptied

  pub emptied : (t : Queues X) (k : TableKey) → filled (write t k (Some [])) ≡ write (filled t) k None
  emptied t k = filled-write t k (Some [])

  -- where there is none, nothing is held
  pub emptied_none : (t : Queues X) (k : TableKey) → None ≡ fm.get t k → filled t ≡ write (filled t) k None
  emptied_none t k none = same_table _ _ (λ q. at q (key_eq q k) refl ∙ sym (get-write (filled t) k None q))
    where
      at : (q : TableKey) (b : Bool) → key_eq q k ≡ b → fm.get (filled t) q ≡ cond b None (fm.get (filled t) q)
      at q true is = filled_is t q ∙ ap (λ w. if_filled (queue_of w t)) (same_words q k is) ∙ ap (λ o. if_filled (unwrap_or o [])) (sym none)
      at q false is = refl

  pub keeps_emptied : (t : Queues X) (k : TableKey) → KeepsRoom t (write t k (Some []))
  unfolding KeepsRoom HasRoomFor
  keeps_emptied t k more had q = subst (HasRoomAt (fm.get more q)) (sym (get-write t k (Some []) q)) (at (key_eq q k) (fm.get more q) (fm.get t q) (had q))
    where
      at : (b : Bool) (o p : Option (List X)) → HasRoomAt o p → HasRoomAt o (cond b (Some []) p)
      at false o p h = h
      at true None p h = tt
      at true (Some xs) None h = absurd h
      at true (Some xs) (Some ys) h = omega (arith, h)

  pub keeps_itself : (t : Queues X) → KeepsRoom t t
  unfolding KeepsRoom
  keeps_itself t more had = had
