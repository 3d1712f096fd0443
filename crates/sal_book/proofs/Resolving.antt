-- Joins of books resolve, and only once.
use Rattle.std.proofs.Common.{◌≡◌, ◌≢◌, ℕ, zero, suc, ◌<◌, Bool, true, false, not, cond, ◌&&◌, ◌||◌, List, [], ◌∷◌, map, length, Option, Some, None, is_some, refl, sym, ap, ◌∙◌, ◌⊎◌, inl, inr, arith, true≢false}
use Rattle.std.specs.Prelude.{if◌then◌else◌, filter, filter_map, nat_eq, nat_lt, slice_get, All}
use Rattle.std.specs.List.{list_all, list_any, cons_option, AllByRecursion}
use Rattle.std.proofs.lemmas.Bool.{and_parts}
use Rattle.std.proofs.lemmas.Bool.Decides.{eqb_tells}
use Rattle.sal_value.specs.declared.name.Name.{Name}
use Rattle.sal_value.specs.declared.value.Value.{Value}
use Rattle.sal_value.specs.Spelling.{is_legal}
use Rattle.sal_mail.specs.declared.message.Reply.{Reply}
use Rattle.sal_mail.specs.declared.message.Reply.TheVariants.{Place}
use Rattle.sal_mail.specs.declared.message.Join.{Join}
use Rattle.sal_mail.specs.Message.{fill_slot, with_slot, is_full}
use Rattle.sal_book.specs.Book.{Book, rise, join_numbers, is_open, has_number, if_open, join_after, filled_joins, full_replies, join_reply, is_legal_reply, none_released, book_after_legal, released_by_legal, book_after_reply}
use Rattle.sal_book.specs.Laws.{JoinsResolveOnce, JoinsResolve, has_join, book_after_each, is_given}
use Rattle.sal_book.proofs.Filling.{AreOthers, other_more, later_others, fills_first}
use Rattle.sal_book.proofs.Makers.{all_head, all_tail}

bool_cases : (b : Bool) → (b ≡ true) ⊎ (b ≡ false)
bool_cases true = inl refl
bool_cases false = inr refl

different : (a b : ℕ) → (a ≡ b → ⊥) → nat_eq a b ≡ false
different a b d = elim (eqb_tells a b) [ inl y ↦ absurd (d y.1) | inr n ↦ n.0 ]

apart : (a b : ℕ) → nat_eq a b ≡ false → a ≡ b → ⊥
apart a b e same = elim (eqb_tells a b) [ inl y ↦ true≢false (sym y.0 ∙ e) | inr n ↦ n.1 same ]

-- ---- once

no_more : {X : Type 0} (p : X → Bool) (xs : List X) → filter p xs ≡ [] → list_any p xs ≡ false
no_more p [] e = refl
no_more {X} p (x ∷ xs) e = at (p x) e (no_more p xs)
  where
    at : (b : Bool) → cond b (x ∷ filter p xs) (filter p xs) ≡ [] → (filter p xs ≡ [] → list_any p xs ≡ false) → (b || list_any p xs) ≡ false
    at true e rest = absurd (let f : x ∷ filter p xs ≡ [] = e in cc)
    at false e rest = rest e

either_none : (a b : Bool) → (a || b) ≡ false → (a ≡ false) × (b ≡ false)
either_none true b e = absurd (true≢false e)
either_none false b e = (refl, e)

module _ (number at : ℕ) (value : Value) where
  others : (js : List Join) → list_any (has_number number) js ≡ false → AreOthers number at value js
  others [] e = record { after = refl; none = refl }
  others (j ∷ js) e = let parts = either_none (has_number number j) (list_any (has_number number) js) e in other_more number at value j js parts.0 (others js parts.1)

  -- nothing is given on where the join isn't full
  none_given : (j : Join) → is_full (with_slot at value j) ≡ false → full_replies (with_slot at value j ∷ []) ≡ []
  none_given j e = ap (λ b. filter is_legal_reply (map join_reply (cond b (with_slot at value j ∷ []) []))) e

  first_gone : (j : Join) (js : List Join) → has_number number j ≡ true → rise (join_numbers (j ∷ js)) ≡ true → full_replies (filled_joins number at value (j ∷ js)) ≢ []
      → list_any (has_number number) (filter_map (join_after number at value) (j ∷ js)) ≡ false
  first_gone j js e rising some =
      let later = later_others number at value j js e rising in
      let first = fills_first number at value j js e rising in
      elim (bool_cases (is_full (with_slot at value j))) [
        | inl full ↦
            ap (λ b. list_any (has_number number) (cons_option (cond b (if_open (with_slot at value j)) (Some j)) (filter_map (join_after number at value) js))) e
            ∙ ap (λ b. list_any (has_number number) (cons_option (cond b None (Some (with_slot at value j))) (filter_map (join_after number at value) js))) full
            ∙ ap (list_any (has_number number)) later.after ∙ no_more (has_number number) js later.none
        | inr not_full ↦ absurd (some (ap full_replies first.filled ∙ none_given j not_full))
      ]

  once : (js : List Join) → rise (join_numbers js) ≡ true → full_replies (filled_joins number at value js) ≢ [] → list_any (has_number number) (filter_map (join_after number at value) js) ≡ false
  once [] rising some = refl
  once (j ∷ js) rising some =
      let parts = and_parts (list_all (nat_lt j.number) (join_numbers js)) (rise (join_numbers js)) rising in
      elim (bool_cases (has_number number j)) [
        | inl e ↦ first_gone j js e rising some
        | inr e ↦
            ap (λ b. list_any (has_number number) (cons_option (cond b (if_open (with_slot at value j)) (Some j)) (filter_map (join_after number at value) js))) e
            ∙ ap (λ b. b || list_any (has_number number) (filter_map (join_after number at value) js)) e
            ∙ once js parts.1 (λ none. some (ap (λ b. full_replies (map (with_slot at value) (cond b (j ∷ filter (has_number number) js) (filter (has_number number) js)))) e ∙ none))
      ]

  once_if_legal : (maker : Name) (b : Book) (legal : Bool) → rise (join_numbers b.joins) ≡ true
      → (if legal then released_by_legal (Place maker number at) value b else none_released).replies ≢ []
      → has_join number (if legal then book_after_legal (Place maker number at) value b else b) ≡ false
  once_if_legal maker b true rising some = once b.joins rising some
  once_if_legal maker b false rising some = absurd (some refl)

  unchanged : (maker : Name) (b : Book) (legal : Bool) → has_join number b ≡ false
      → ((if legal then book_after_legal (Place maker number at) value b else b) ≡ b)
      × ((if legal then released_by_legal (Place maker number at) value b else none_released) ≡ none_released)
  unchanged maker b true none =
      let other = others b.joins none in
      (λ i. record b { joins = other.after i }, λ i. record { messages = []; replies = full_replies (map (with_slot at value) (other.none i)) })
  unchanged maker b false none = (refl, refl)

pub resolve_once : JoinsResolveOnce
resolve_once = record {
  resolved = λ maker number at value b rising some. once_if_legal number at value maker b (is_legal value) rising some;
  gone = λ maker number at value b none. unchanged number at value maker b (is_legal value) none;
}

-- ---- at last

-- an open join of this number, to whose empty slots these values come
record Awaits (number : ℕ) (gs : List (ℕ × Value)) (j : Join) : Type 0 where
  open_yet : has_number number j ≡ true → is_full j ≡ false
  empty_given : has_number number j ≡ true → (i : ℕ) → slice_get j.places i ≡ Some None → is_given i gs ≡ true

nothing : (slot : Option Value) → None ≡ Some slot → ⊥
nothing slot e = cc

taken : (value : Value) → Some (Some value) ≡ Some None → ⊥
taken value e = cc

-- a slot that is empty after a value came to another one
fill_leaves : (at i : ℕ) (value : Value) (slots : List (Option Value)) → slice_get (fill_slot at value slots) i ≡ Some None → (slice_get slots i ≡ Some None) × (nat_eq i at ≡ false)
fill_leaves at i value [] e = absurd (nothing None e)
fill_leaves zero zero value (None ∷ slots) e = absurd (taken value e)
fill_leaves zero zero value (Some v ∷ slots) e = absurd (taken v e)
fill_leaves zero (suc i) value (None ∷ slots) e = (e, different (suc i) 0 (λ same. omega arith))
fill_leaves zero (suc i) value (Some v ∷ slots) e = (e, different (suc i) 0 (λ same. omega arith))
fill_leaves (suc at) zero value (None ∷ slots) e = (e, different 0 (suc at) (λ same. omega arith))
fill_leaves (suc at) zero value (Some v ∷ slots) e = (e, different 0 (suc at) (λ same. omega arith))
fill_leaves (suc at) (suc i) value (None ∷ slots) e = let rest = fill_leaves at i value slots e in (rest.0, different (suc i) (suc at) (λ same. apart i at rest.1 (omega arith)))
fill_leaves (suc at) (suc i) value (Some v ∷ slots) e = let rest = fill_leaves at i value slots e in (rest.0, different (suc i) (suc at) (λ same. apart i at rest.1 (omega arith)))

-- a join that isn't full has an empty slot
empty_slot : (slots : List (Option Value)) → list_all is_some slots ≡ false → (i : ℕ) × (slice_get slots i ≡ Some None)
empty_slot [] e = absurd (true≢false e)
empty_slot (None ∷ slots) e = (0, refl)
empty_slot (Some v ∷ slots) e = let rest = empty_slot slots e in (suc rest.0, rest.1)

none_left : (number : ℕ) (js : List Join) → AllByRecursion (Awaits number []) js → list_any (has_number number) js ≡ false
none_left number [] all = refl
none_left number (j ∷ js) all = elim (bool_cases (has_number number j)) [
  | inl e ↦ let empty = empty_slot j.places (all.0.open_yet e) in absurd (true≢false (sym (all.0.empty_given e empty.0 empty.1)))
  | inr e ↦ ap (λ b. b || list_any (has_number number) js) e ∙ none_left number js all.1
]

still_awaits : (number : ℕ) (g : ℕ × Value) (gs : List (ℕ × Value)) (j : Join) → is_full (with_slot g.0 g.1 j) ≡ false → Awaits number (g ∷ gs) j → Awaits number gs (with_slot g.0 g.1 j)
still_awaits number g gs j not_full awaits = record {
  open_yet = λ e. not_full;
  empty_given = λ e i empty. let before = fill_leaves g.0 i g.1 j.places empty in ap (λ b. b || is_given i gs) (sym before.1) ∙ awaits.empty_given e i before.0;
}

others_await : (number : ℕ) (gs hs : List (ℕ × Value)) (j : Join) → has_number number j ≡ false → Awaits number hs j
others_await number gs hs j other = record { open_yet = λ e. absurd (true≢false (sym e ∙ other)); empty_given = λ e. absurd (true≢false (sym e ∙ other)) }

await_step : (number : ℕ) (g : ℕ × Value) (gs : List (ℕ × Value)) (js : List Join) → AllByRecursion (Awaits number (g ∷ gs)) js → AllByRecursion (Awaits number gs) (filter_map (join_after number g.0 g.1) js)
await_step number g gs [] all = tt
await_step number g gs (j ∷ js) all = at (has_number number j) (is_full (with_slot g.0 g.1 j)) refl refl (await_step number g gs js all.1)
  where
    at : (b full : Bool) → has_number number j ≡ b → is_full (with_slot g.0 g.1 j) ≡ full → AllByRecursion (Awaits number gs) (filter_map (join_after number g.0 g.1) js)
        → AllByRecursion (Awaits number gs) (cons_option (cond b (cond full None (Some (with_slot g.0 g.1 j))) (Some j)) (filter_map (join_after number g.0 g.1) js))
    at true true e f rest = rest
    at true false e f rest = (still_awaits number g gs j f all.0, rest)
    at false full e f rest = (others_await number gs gs j e, rest)

all_resolve : (maker : Name) (number : ℕ) (gs : List (ℕ × Value)) (b : Book) → list_all (λ g. is_legal g.1) gs ≡ true → AllByRecursion (Awaits number gs) b.joins → has_join number (book_after_each maker number gs b) ≡ false
all_resolve maker number [] b legal all = none_left number b.joins all
all_resolve maker number (g ∷ gs) b legal all =
    let parts = and_parts (is_legal g.1) (list_all (λ g. is_legal g.1) gs) legal in
    ap (λ c. has_join number (book_after_each maker number gs (if c then book_after_legal (Place maker number g.0) g.1 b else b))) parts.0
    ∙ all_resolve maker number gs (book_after_legal (Place maker number g.0) g.1 b) parts.1 (await_step number g gs b.joins all)

within : (slots : List (Option Value)) (i : ℕ) → slice_get slots i ≡ Some None → i < length slots
within [] i e = absurd (nothing None e)
within (slot ∷ slots) zero e = omega arith
within (slot ∷ slots) (suc i) e = let rest = within slots i e in omega arith

open_not_full : (b : Bool) → not b ≡ true → b ≡ false
open_not_full true e = absurd (true≢false (sym e))
open_not_full false e = refl

abbrev GivesAll : ℕ → List (ℕ × Value) → Join → Type 0
GivesAll number gs j = (i : ℕ) → has_number number j ≡ true → i < length j.places → is_given i gs ≡ true

all_await : (number : ℕ) (gs : List (ℕ × Value)) (js : List Join) → list_all is_open js ≡ true → All (GivesAll number gs) js → AllByRecursion (Awaits number gs) js
all_await number gs [] open_joins given = tt
all_await number gs (j ∷ js) open_joins given =
    let parts = and_parts (is_open j) (list_all is_open js) open_joins in (
      record {
        open_yet = λ e. open_not_full (is_full j) parts.0;
        empty_given = λ e i empty. all_head (GivesAll number gs) j js given i e (within j.places i empty);
      },
      all_await number gs js parts.1 (all_tail (GivesAll number gs) j js given),
    )

pub resolve_all : JoinsResolve
resolve_all maker number gs b open_joins legal given = all_resolve maker number gs b legal (all_await number gs b.joins open_joins given)
