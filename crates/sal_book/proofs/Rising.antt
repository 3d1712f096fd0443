-- Numbers that rise go on rising.
use Rattle.std.proofs.Common.{◌≡◌, ℕ, Bool, true, false, cond, ◌&&◌, List, [], ◌∷◌, ◌++◌, map, Option, Some, None, refl, sym, ap, ◌∙◌, inl, inr, ◌⊎◌}
use Rattle.std.specs.Prelude.{filter, filter_map, nat_lt}
use Rattle.std.specs.List.{list_all, cons_option}
use Rattle.std.proofs.lemmas.Bool.{and_parts, and_from}
use Rattle.std.proofs.lemmas.List.{map-append}
use Rattle.sal_value.specs.declared.value.Value.{Value}
use Rattle.sal_mail.specs.declared.message.Message.{Message}
use Rattle.sal_mail.specs.declared.message.Join.{Join}
use Rattle.sal_mail.specs.Message.{with_slot, with_reply, is_full}
use Rattle.sal_book.specs.Book.{Book, rise, are_below, book_numbers, message_numbers, join_numbers, may_follow, is_waiting, is_open, has_number, if_open, join_after}

-- ---- a list without some of its items

module _ {X : Type 0} (f : X → ℕ) where
  all_filter : (q : ℕ → Bool) (p : X → Bool) (xs : List X) → list_all q (map f xs) ≡ true → list_all q (map f (filter p xs)) ≡ true
  all_filter q p [] h = refl
  all_filter q p (x ∷ xs) h = let parts = and_parts (q (f x)) (list_all q (map f xs)) h in at (p x) parts.0 (all_filter q p xs parts.1)
    where
      at : (b : Bool) → q (f x) ≡ true → list_all q (map f (filter p xs)) ≡ true → list_all q (map f (cond b (x ∷ filter p xs) (filter p xs))) ≡ true
      at true first rest = and_from (q (f x)) (list_all q (map f (filter p xs))) first rest
      at false first rest = rest

  pub rise_filter : (p : X → Bool) (xs : List X) → rise (map f xs) ≡ true → rise (map f (filter p xs)) ≡ true
  rise_filter p [] h = refl
  rise_filter p (x ∷ xs) h = let parts = and_parts (list_all (nat_lt (f x)) (map f xs)) (rise (map f xs)) h in at (p x) (all_filter (nat_lt (f x)) p xs parts.0) (rise_filter p xs parts.1)
    where
      at : (b : Bool) → list_all (nat_lt (f x)) (map f (filter p xs)) ≡ true → rise (map f (filter p xs)) ≡ true → rise (map f (cond b (x ∷ filter p xs) (filter p xs))) ≡ true
      at true first rest = and_from (list_all (nat_lt (f x)) (map f (filter p xs))) (rise (map f (filter p xs))) first rest
      at false first rest = rest

  all_both : (q : ℕ → Bool) (p : X → Bool) (xs ys : List X) → list_all q (map f xs) ≡ true → list_all q (map f ys) ≡ true → list_all q (map f (xs ++ filter p ys)) ≡ true
  all_both q p [] ys a b = all_filter q p ys b
  all_both q p (x ∷ xs) ys a b =
      let parts = and_parts (q (f x)) (list_all q (map f xs)) a in
      and_from (q (f x)) (list_all q (map f (xs ++ filter p ys))) parts.0 (all_both q p xs ys parts.1 b)

  -- what may follow does so
  rise_both : (p : X → Bool) (xs ys : List X) → rise (map f xs) ≡ true → rise (map f ys) ≡ true → are_below (map f xs) (map f ys) ≡ true → rise (map f (xs ++ filter p ys)) ≡ true
  rise_both p [] ys a b c = rise_filter p ys b
  rise_both p (x ∷ xs) ys a b c =
      let old = and_parts (list_all (nat_lt (f x)) (map f xs)) (rise (map f xs)) a in
      let below = and_parts (list_all (nat_lt (f x)) (map f ys)) (are_below (map f xs) (map f ys)) c in
      and_from (list_all (nat_lt (f x)) (map f (xs ++ filter p ys))) (rise (map f (xs ++ filter p ys)))
      (all_both (nat_lt (f x)) p xs ys old.0 below.0) (rise_both p xs ys old.1 b below.1)

all_append : {X : Type 0} (q : X → Bool) (xs ys : List X) → list_all q (xs ++ ys) ≡ true → (list_all q xs ≡ true) × (list_all q ys ≡ true)
all_append q [] ys h = (refl, h)
all_append q (x ∷ xs) ys h =
    let parts = and_parts (q x) (list_all q (xs ++ ys)) h in
    let rest = all_append q xs ys parts.1 in
    (and_from (q x) (list_all q xs) parts.0 rest.0, rest.1)

-- ---- entering

follows : (numbers : List ℕ) (b : Book) → may_follow numbers b ≡ true → (rise numbers ≡ true) × (are_below (message_numbers b.messages) numbers ≡ true) × (are_below (join_numbers b.joins) numbers ≡ true)
follows numbers b h =
    let parts = and_parts (rise numbers) (are_below (book_numbers b) numbers) h in
    let below = all_append (λ n. list_all (nat_lt n) numbers) (message_numbers b.messages) (join_numbers b.joins) parts.1 in
    (parts.0, below.0, below.1)

pub messages_rise : (b : Book) (ms : List Message) → rise (message_numbers b.messages) ≡ true → may_follow (message_numbers ms) b ≡ true → rise (message_numbers (b.messages ++ filter is_waiting ms)) ≡ true
messages_rise b ms old new =
    let parts = follows (message_numbers ms) b new in
    rise_both (λ m. m.serial) is_waiting b.messages ms old parts.0 parts.1

pub joins_rise : (b : Book) (js : List Join) → rise (join_numbers b.joins) ≡ true → may_follow (join_numbers js) b ≡ true → rise (join_numbers (b.joins ++ filter is_open js)) ≡ true
joins_rise b js old new =
    let parts = follows (join_numbers js) b new in
    rise_both (λ j. j.number) is_open b.joins js old parts.0 parts.2

-- ---- giving

-- a reply changes no message's number
pub numbers_with_reply : (number : ℕ) (value : Value) (ms : List Message) → message_numbers (map (with_reply number value) ms) ≡ message_numbers ms
numbers_with_reply number value [] = refl
numbers_with_reply number value (m ∷ ms) = ap (λ l. m.serial ∷ l) (numbers_with_reply number value ms)

pub messages_rise_after : (number : ℕ) (value : Value) (ms : List Message) → rise (message_numbers ms) ≡ true → rise (message_numbers (filter is_waiting (map (with_reply number value) ms))) ≡ true
messages_rise_after number value ms h = rise_filter (λ m. m.serial) is_waiting (map (with_reply number value) ms) (ap rise (numbers_with_reply number value ms) ∙ h)

module _ (number at : ℕ) (value : Value) where
  all_after : (q : ℕ → Bool) (js : List Join) → list_all q (join_numbers js) ≡ true → list_all q (join_numbers (filter_map (join_after number at value) js)) ≡ true
  all_after q [] h = refl
  all_after q (j ∷ js) h = let parts = and_parts (q j.number) (list_all q (join_numbers js)) h in after (has_number number j) (is_full (with_slot at value j)) parts.0 (all_after q js parts.1)
    where
      after : (b full : Bool) → q j.number ≡ true → list_all q (join_numbers (filter_map (join_after number at value) js)) ≡ true
          → list_all q (join_numbers (cons_option (cond b (cond full None (Some (with_slot at value j))) (Some j)) (filter_map (join_after number at value) js))) ≡ true
      after true true first rest = rest
      after true false first rest = and_from (q j.number) (list_all q (join_numbers (filter_map (join_after number at value) js))) first rest
      after false full first rest = and_from (q j.number) (list_all q (join_numbers (filter_map (join_after number at value) js))) first rest

  pub joins_rise_after : (js : List Join) → rise (join_numbers js) ≡ true → rise (join_numbers (filter_map (join_after number at value) js)) ≡ true
  joins_rise_after [] h = refl
  joins_rise_after (j ∷ js) h =
      let parts = and_parts (list_all (nat_lt j.number) (join_numbers js)) (rise (join_numbers js)) h in
      after (has_number number j) (is_full (with_slot at value j)) (all_after (nat_lt j.number) js parts.0) (joins_rise_after js parts.1)
    where
      after : (b full : Bool) → list_all (nat_lt j.number) (join_numbers (filter_map (join_after number at value) js)) ≡ true → rise (join_numbers (filter_map (join_after number at value) js)) ≡ true
          → rise (join_numbers (cons_option (cond b (cond full None (Some (with_slot at value j))) (Some j)) (filter_map (join_after number at value) js))) ≡ true
      after true true first rest = rest
      after true false first rest = and_from (list_all (nat_lt j.number) (join_numbers (filter_map (join_after number at value) js))) (rise (join_numbers (filter_map (join_after number at value) js))) first rest
      after false full first rest = and_from (list_all (nat_lt j.number) (join_numbers (filter_map (join_after number at value) js))) (rise (join_numbers (filter_map (join_after number at value) js))) first rest
