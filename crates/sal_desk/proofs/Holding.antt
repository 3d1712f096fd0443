-- What is held, where some is held beside and some is released.
use Rattle.std.proofs.Common.{◌≡◌, Bool, true, false, cond, ◌||◌, List, [], ◌∷◌, ◌++◌, Option, Some, None, refl, sym, ap, ◌∙◌, append_assoc, true≢false}
use Rattle.std.specs.Option.{unwrap_or}
use Rattle.std.specs.List.{list_any}
use Rattle.std.specs.FinMap as fm
use Rattle.sal_value.specs.declared.name.Name.{Name}
use Rattle.sal_value.specs.Table.{TableKey, Table, key_eq, write}
use Rattle.sal_value.proofs.Tables.{same_words, words_refl, same_table, get-write}
use Rattle.sal_source.specs.Keys.{name_key}
use Rattle.sal_queues.specs.Queues.{Queues, queue_of, if_filled, filled, joined}
use Rattle.sal_queues.proofs.Laws.{queue_of-filled, filled-write, queue_of-write, queue_of-joined, get-joined}
use Rattle.sal_routing.specs.declared.item.Item.{Item}
use Rattle.sal_desk.specs.code.Drafts.{without_held, is_among}

-- no empty list is there
abbrev pub IsFilled : {X : Type 0} → Queues X → Type 0
IsFilled t = filled t ≡ t

pub filled_without : (names : List Name) (t : Queues Item) → IsFilled t → IsFilled (without_held names t)
unfolding without_held
filled_without [] t h = h
filled_without (n ∷ names) t h = filled_without names (write t (name_key n) None) (filled-write t (name_key n) None ∙ ap (λ u. write u (name_key n) None) h)

module _ {X : Type 0} where
  some_filled : (xs : List X) (x : X) → if_filled (xs ++ x ∷ []) ≡ Some (xs ++ x ∷ [])
  some_filled [] x = refl
  some_filled (y ∷ ys) x = refl

  -- what is held at a key
  get_both : (q b : Queues X) → IsFilled b → (k : TableKey) → fm.get (joined q b) k ≡ if_filled (queue_of k b ++ queue_of k q)
  get_both q b h k = ap (λ u. fm.get (joined q u) k) (sym h) ∙ get-joined q b k

  -- one more is held
  pub one_more : (q r b : Queues X) (k : TableKey) (x : X) → IsFilled b → filled r ≡ write (filled q) k (Some (queue_of k (filled q) ++ x ∷ [])) →
      joined r b ≡ write (joined q b) k (Some (queue_of k (joined q b) ++ x ∷ []))
  one_more q r b k x h is = same_table _ _ (λ p.
      get_both r b h p
      ∙ ap (λ xs. if_filled (queue_of p b ++ xs)) (
      sym (queue_of-filled r p) ∙ ap (queue_of p) is ∙ queue_of-write (filled q) k (Some (queue_of k (filled q) ++ x ∷ [])) p
      ∙ ap (λ xs. cond (key_eq p k) (xs ++ x ∷ []) (queue_of p (filled q))) (queue_of-filled q k)
      ∙ ap (cond (key_eq p k) (queue_of k q ++ x ∷ [])) (queue_of-filled q p)
      )
      ∙ at p (key_eq p k) refl
      ∙ sym (get-write (joined q b) k (Some (queue_of k (joined q b) ++ x ∷ [])) p))
    where
      at : (p : TableKey) (c : Bool) → key_eq p k ≡ c → if_filled (queue_of p b ++ cond c (queue_of k q ++ x ∷ []) (queue_of p q)) ≡ cond c (Some (queue_of k (joined q b) ++ x ∷ [])) (fm.get (joined q b) p)
      at p true same =
          ap if_filled (ap (λ w. queue_of w b ++ (queue_of k q ++ x ∷ [])) (same_words p k same) ∙ sym (append_assoc (queue_of k b) (queue_of k q) (x ∷ [])))
          ∙ some_filled (queue_of k b ++ queue_of k q) x
          ∙ ap (λ xs. Some (xs ++ x ∷ [])) (sym (queue_of-joined q b k))
      at p false other = sym (get_both q b h p)

  -- nothing is held at a key any more
  pub none_held : (q b : Queues X) (k : TableKey) → IsFilled b → joined (write q k None) (write b k None) ≡ write (joined q b) k None
  none_held q b k h = same_table _ _ (λ p.
      get_both (write q k None) (write b k None) (filled-write b k None ∙ ap (λ u. write u k None) h) p
      ∙ ap (λ xs. if_filled (xs ++ queue_of p (write q k None))) (queue_of-write b k None p)
      ∙ ap (λ xs. if_filled (cond (key_eq p k) [] (queue_of p b) ++ xs)) (queue_of-write q k None p)
      ∙ at p (key_eq p k)
      ∙ sym (get-write (joined q b) k None p))
    where
      at : (p : TableKey) (c : Bool) → if_filled (cond c [] (queue_of p b) ++ cond c [] (queue_of p q)) ≡ cond c None (fm.get (joined q b) p)
      at p true = refl
      at p false = sym (get_both q b h p)

-- ---- names that were released

-- the last of them
pub without_last : (names : List Name) (n : Name) (t : Queues Item) → without_held (names ++ n ∷ []) t ≡ write (without_held names t) (name_key n) None
unfolding without_held
without_last [] n t = refl
without_last (m ∷ names) n t = without_last names n (write t (name_key m) None)

-- what is held for a name that isn't one of them
pub held_still : (names : List Name) (n : Name) (t : Queues Item) → is_among n names ≡ false → queue_of (name_key n) (without_held names t) ≡ queue_of (name_key n) t
unfolding without_held
held_still [] n t h = refl
held_still (m ∷ names) n t h = at (key_eq (name_key m) (name_key n)) refl h (held_still names n (write t (name_key m) None))
  where
    differ : (b : Bool) → key_eq (name_key n) (name_key m) ≡ b → key_eq (name_key m) (name_key n) ≡ false → cond b [] (queue_of (name_key n) t) ≡ queue_of (name_key n) t
    differ true same other = absurd (true≢false (sym (words_refl (name_key m)) ∙ ap (key_eq (name_key m)) (sym (same_words (name_key n) (name_key m) same)) ∙ other))
    differ false same other = refl

    at : (b : Bool) → key_eq (name_key m) (name_key n) ≡ b → (b || is_among n names) ≡ false → (is_among n names ≡ false → queue_of (name_key n) (without_held names (write t (name_key m) None)) ≡ queue_of (name_key n) (write t (name_key m) None)) → queue_of (name_key n) (without_held names (write t (name_key m) None)) ≡ queue_of (name_key n) t
    at true is g rest = absurd (true≢false g)
    at false is g rest = rest g ∙ queue_of-write t (name_key m) None (name_key n) ∙ differ (key_eq (name_key n) (name_key m)) refl is

-- what is held for one of them
pub held_none : (names : List Name) (n : Name) (t : Queues Item) → is_among n names ≡ true → queue_of (name_key n) (without_held names t) ≡ []
unfolding without_held
held_none [] n t h = absurd (true≢false (sym h))
held_none (m ∷ names) n t h = at (key_eq (name_key m) (name_key n)) refl h (held_none names n (write t (name_key m) None))
  where
    none : (ns : List Name) (u : Queues Item) → queue_of (name_key n) u ≡ [] → queue_of (name_key n) (without_held ns u) ≡ []
    none [] u e = e
    none (x ∷ ns) u e = none ns (write u (name_key x) None) (queue_of-write u (name_key x) None (name_key n) ∙ by (key_eq (name_key n) (name_key x)))
      where
        by : (b : Bool) → cond b [] (queue_of (name_key n) u) ≡ []
        by true = refl
        by false = e

    first : key_eq (name_key m) (name_key n) ≡ true → queue_of (name_key n) (write t (name_key m) None) ≡ []
    first is =
        queue_of-write t (name_key m) None (name_key n)
        ∙ ap (λ b. cond b [] (queue_of (name_key n) t)) (ap (key_eq (name_key n)) (same_words (name_key m) (name_key n) is) ∙ words_refl (name_key n))

    at : (b : Bool) → key_eq (name_key m) (name_key n) ≡ b → (b || is_among n names) ≡ true → (is_among n names ≡ true → queue_of (name_key n) (without_held names (write t (name_key m) None)) ≡ []) → queue_of (name_key n) (without_held names (write t (name_key m) None)) ≡ []
    at true is g rest = none names (write t (name_key m) None) (first is)
    at false is g rest = rest g
