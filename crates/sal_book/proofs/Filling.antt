-- The join that a reply fills, as the code finds it.
use Rattle.std.proofs.Common.{◌≡◌, ℕ, zero, suc, ◌+◌, ◌<◌, Bool, true, false, cond, ◌&&◌, ◌||◌, List, [], ◌∷◌, length, Option, Some, None, is_some, refl, sym, ap, subst, ◌∙◌, ◌⊎◌, inl, inr, arith, true≢false, get_or}
use Rattle.std.specs.Prelude.{map, filter, filter_map, nat_eq, nat_lt, slice_get, slice_set, remove, IfSome, Result, Ok, Err, OnOk, IfOk}
use Rattle.std.specs.List.{list_all, cons_option, position_from, enumerate_from}
use Rattle.std.proofs.lemmas.Bool.{and_parts, and_from}
use Rattle.std.proofs.lemmas.Bool.Decides.{eqb_tells}
use borrow.Author.Tests.{ltb-true}
use Rattle.sal_value.specs.declared.value.Value.{Value}
use Rattle.sal_mail.specs.declared.message.Join.{Join}
use Rattle.sal_mail.specs.declared.message.Reply.{Reply}
use Rattle.sal_mail.specs.Message.{fill_slot, with_slot, is_full}
use Rattle.sal_book.specs.Book.{rise, join_numbers, has_number, if_open, join_after, filled_joins, full_replies, join_reply, is_legal_reply}
use Rattle.sal_book.specs.code.Slots.{are_full_but}

-- ---- the last empty slot

eq_true : (a b : ℕ) → a ≡ b → nat_eq a b ≡ true
eq_true a b e = elim (eqb_tells a b) [ inl y ↦ y.0 | inr n ↦ absurd (n.1 e) ]

eq_false : (a b : ℕ) → (a ≡ b → ⊥) → nat_eq a b ≡ false
eq_false a b d = elim (eqb_tells a b) [ inl y ↦ absurd (d y.1) | inr n ↦ n.0 ]

-- behind the slot all slots count
full_past : (m k : ℕ) (slots : List (Option Value)) → m < k → list_all (λ e. nat_eq e.0 m || is_some e.1) (enumerate_from k slots) ≡ list_all is_some slots
full_past m k [] lt = refl
full_past m k (slot ∷ slots) lt =
    ap (λ b. (b || is_some slot) && list_all (λ e. nat_eq e.0 m || is_some e.1) (enumerate_from (k + 1) slots)) (eq_false k m (λ e. omega arith))
    ∙ ap (λ b. is_some slot && b) (full_past m (k + 1) slots (omega arith))

full_from : (m k at : ℕ) (value : Value) (slots : List (Option Value)) → m ≡ k + at → list_all (λ e. nat_eq e.0 m || is_some e.1) (enumerate_from k slots) ≡ list_all is_some (fill_slot at value slots)
full_from m k at value [] e = refl
full_from m k zero value (None ∷ slots) e =
    ap (λ b. (b || false) && list_all (λ e. nat_eq e.0 m || is_some e.1) (enumerate_from (k + 1) slots)) (eq_true k m (omega arith))
    ∙ full_past m (k + 1) slots (omega arith)
full_from m k zero value (Some v ∷ slots) e =
    ap (λ b. (b || true) && list_all (λ e. nat_eq e.0 m || is_some e.1) (enumerate_from (k + 1) slots)) (eq_true k m (omega arith))
    ∙ full_past m (k + 1) slots (omega arith)
full_from m k (suc at) value (slot ∷ slots) e =
    ap (λ b. (b || is_some slot) && list_all (λ e. nat_eq e.0 m || is_some e.1) (enumerate_from (k + 1) slots)) (eq_false k m (λ same. omega arith))
    ∙ ap (λ b. is_some slot && b) (full_from m (k + 1) at value slots (omega arith))
    ∙ full_slot slot at value slots
  where
    full_slot : (slot : Option Value) (at : ℕ) (value : Value) (slots : List (Option Value)) → (is_some slot && list_all is_some (fill_slot at value slots)) ≡ list_all is_some (fill_slot (suc at) value (slot ∷ slots))
    full_slot None at value slots = refl
    full_slot (Some v) at value slots = refl

-- no slot but this one is empty: with the value there the join is full
full_but : (at : ℕ) (value : Value) (j : Join) → are_full_but at j.places ≡ is_full (with_slot at value j)
full_but at value j = full_from at 0 at value j.places (omega arith)

-- ---- no join of the number

pub record AreOthers (number at : ℕ) (value : Value) (js : List Join) : Type 0 where
  pub after : filter_map (join_after number at value) js ≡ js
  pub none : filter (has_number number) js ≡ []

pub other_more : (number at : ℕ) (value : Value) (j : Join) (js : List Join) → has_number number j ≡ false → AreOthers number at value js → AreOthers number at value (j ∷ js)
other_more number at value j js e others = record {
  after = ap (λ b. cons_option (cond b (if_open (with_slot at value j)) (Some j)) (filter_map (join_after number at value) js)) e ∙ ap (λ l. j ∷ l) others.after;
  none = ap (λ b. cond b (j ∷ filter (has_number number) js) (filter (has_number number) js)) e ∙ others.none;
}

-- greater numbers are others
greater : (number at : ℕ) (value : Value) (js : List Join) → list_all (nat_lt number) (join_numbers js) ≡ true → AreOthers number at value js
greater number at value [] h = record { after = refl; none = refl }
greater number at value (j ∷ js) h =
    let parts = and_parts (nat_lt number j.number) (list_all (nat_lt number) (join_numbers js)) h in
    let above : number < j.number = ltb-true number j.number parts.0 in
    other_more number at value j js (eq_false j.number number (λ same. omega arith)) (greater number at value js parts.1)

-- ---- the join of the number

-- what the joins are to a reply for the join at this index
pub record FillsAt (number at : ℕ) (value : Value) (js : List Join) (i : ℕ) (join : Join) : Type 0 where
  pub after : filter_map (join_after number at value) js ≡ cond (is_full (with_slot at value join)) (remove js i) (slice_set js i (with_slot at value join))
  pub filled : filled_joins number at value js ≡ with_slot at value join ∷ []

-- no later join has the number of the first one
pub later_others : (number at : ℕ) (value : Value) (j : Join) (js : List Join) → has_number number j ≡ true → rise (join_numbers (j ∷ js)) ≡ true → AreOthers number at value js
later_others number at value j js e rising =
    let parts = and_parts (list_all (nat_lt j.number) (join_numbers js)) (rise (join_numbers js)) rising in
    let same : j.number ≡ number = elim (eqb_tells j.number number) [ inl y ↦ y.1 | inr n ↦ absurd (true≢false (sym e ∙ n.0)) ] in
    greater number at value js (ap (λ n. list_all (nat_lt n) (join_numbers js)) (sym same) ∙ parts.0)

pub fills_first : (number at : ℕ) (value : Value) (j : Join) (js : List Join) → has_number number j ≡ true → rise (join_numbers (j ∷ js)) ≡ true → FillsAt number at value (j ∷ js) 0 j
fills_first number at value j js e rising =
    let others = later_others number at value j js e rising in
    record {
      after = ap (λ b. cons_option (cond b (if_open (with_slot at value j)) (Some j)) (filter_map (join_after number at value) js)) e ∙ ap (cons_option (if_open (with_slot at value j))) others.after ∙ gone (is_full (with_slot at value j));
      filled = ap (λ b. map (with_slot at value) (cond b (j ∷ filter (has_number number) js) (filter (has_number number) js))) e ∙ ap (λ l. with_slot at value j ∷ map (with_slot at value) l) others.none;
    }
  where
    gone : (full : Bool) → cons_option (cond full None (Some (with_slot at value j))) js ≡ cond full js (with_slot at value j ∷ js)
    gone true = refl
    gone false = refl

fills_later : (number at : ℕ) (value : Value) (j : Join) (js : List Join) (i : ℕ) (join : Join) → has_number number j ≡ false → FillsAt number at value js i join → FillsAt number at value (j ∷ js) (suc i) join
fills_later number at value j js i join e rest = record {
  after = ap (λ b. cons_option (cond b (if_open (with_slot at value j)) (Some j)) (filter_map (join_after number at value) js)) e ∙ ap (λ l. j ∷ l) rest.after ∙ kept (is_full (with_slot at value join));
  filled = ap (λ b. map (with_slot at value) (cond b (j ∷ filter (has_number number) js) (filter (has_number number) js))) e ∙ rest.filled;
}
  where
    kept : (full : Bool) → j ∷ cond full (remove js i) (slice_set js i (with_slot at value join)) ≡ cond full (remove (j ∷ js) (suc i)) (slice_set (j ∷ js) (suc i) (with_slot at value join))
    kept true = refl
    kept false = refl

-- what a search from this index on found
abbrev Finds : ℕ → ℕ → Value → List Join → ℕ → Option ℕ → Type 0
Finds number at value js k None = AreOthers number at value js
Finds number at value js k (Some i) = (m : ℕ) × (i ≡ k + m) × (m < length js) × ((join : Join) → slice_get js m ≡ Some join → rise (join_numbers js) ≡ true → FillsAt number at value js m join)

finds : (number at : ℕ) (value : Value) (js : List Join) (k : ℕ) → Finds number at value js k (position_from (has_number number) k js)
finds number at value [] k = record { after = refl; none = refl }
finds number at value (j ∷ js) k = here (has_number number j) refl (position_from (has_number number) (k + 1) js) (finds number at value js (k + 1))
  where
    here : (b : Bool) → has_number number j ≡ b → (o : Option ℕ) → Finds number at value js (k + 1) o → Finds number at value (j ∷ js) k (cond b (Some k) o)
    here true e o rest = (0, omega arith, omega arith, λ join at_0 rising. let same : j ≡ join = cc in let P : Join → Type 0 = λ x. FillsAt number at value (j ∷ js) 0 x in subst P same (fills_first number at value j js e rising))
    here false e None rest = other_more number at value j js e rest
    here false e (Some i) rest = (
      suc rest.0,
      omega (arith, rest.1),
      omega (arith, rest.2),
      λ join got rising.
          let parts = and_parts (list_all (nat_lt j.number) (join_numbers js)) (rise (join_numbers js)) rising in
          fills_later number at value j js rest.0 join e (rest.3 join got parts.1),
    )

-- ---- giving

-- the joins and the replies after the value came
pub record GivesPlace (number at : ℕ) (value : Value) (old new : List Join) (replies : List (Reply × Value)) : Type 0 where
  pub after : new ≡ filter_map (join_after number at value) old
  pub given : replies ≡ full_replies (filled_joins number at value old)

pub gives_none : (number at : ℕ) (value : Value) (js : List Join) → position_from (has_number number) 0 js ≡ None → GivesPlace number at value js js []
gives_none number at value js e =
    let P : Option ℕ → Type 0 = λ o. Finds number at value js 0 o in
    let others : AreOthers number at value js = subst P e (finds number at value js 0) in
    record { after = sym others.after; given = sym (ap (λ l. full_replies (map (with_slot at value) l)) others.none) }

get_is : (js : List Join) (i : ℕ) (j : Join) → i < length js → j ≡ get_or js i j → slice_get js i ≡ Some j
get_is [] i j lt e = absurd (omega arith)
get_is (x ∷ js) zero j lt e = ap (λ z. Some z) (sym e)
get_is (x ∷ js) (suc i) j lt e = get_is js i j (omega arith) e

found : (number at : ℕ) (value : Value) (js : List Join) (i : ℕ) (join : Join) → rise (join_numbers js) ≡ true → position_from (has_number number) 0 js ≡ Some i → join ≡ get_or js i join → FillsAt number at value js i join
found number at value js i join rising e is =
    let P : Option ℕ → Type 0 = λ o. Finds number at value js 0 o in
    let f : Finds number at value js 0 (Some i) = subst P e (finds number at value js 0) in
    let same : f.0 ≡ i = omega (arith, f.1) in
    let within : i < length js = omega (arith, f.2) in
    let Q : ℕ → Type 0 = λ m. FillsAt number at value js m join in
    subst Q same (f.3 join (ap (slice_get js) same ∙ get_is js i join within is) rising)

pub found_within : (number at : ℕ) (value : Value) (js : List Join) (i : ℕ) → position_from (has_number number) 0 js ≡ Some i → i < length js
found_within number at value js i e =
    let P : Option ℕ → Type 0 = λ o. Finds number at value js 0 o in
    let f : Finds number at value js 0 (Some i) = subst P e (finds number at value js 0) in
    omega (arith, f.1, f.2)

-- another slot is empty, too
pub gives_slot : (number at : ℕ) (value : Value) (js new : List Join) (i : ℕ) (join : Join) → rise (join_numbers js) ≡ true → position_from (has_number number) 0 js ≡ Some i → join ≡ get_or js i join
    → are_full_but at join.places ≡ false → IfSome (slice_get js i) (λ j. new ≡ slice_set js i (with_slot at value j)) → GivesPlace number at value js new []
gives_slot number at value js new i join rising e is but set =
    let f = found number at value js i join rising e is in
    let full : is_full (with_slot at value join) ≡ false = sym (full_but at value join) ∙ but in
    let P : Option Join → Type 0 = λ o. IfSome o (λ j. new ≡ slice_set js i (with_slot at value j)) in
    let is_set : new ≡ slice_set js i (with_slot at value join) = subst P (get_is js i join (found_within number at value js i e) is) set in
    record {
      after = is_set ∙ sym (f.after ∙ ap (λ b. cond b (remove js i) (slice_set js i (with_slot at value join))) full);
      given = sym (ap full_replies f.filled ∙ ap (λ b. filter is_legal_reply (map join_reply (cond b (with_slot at value join ∷ []) []))) full);
    }

-- it was the last empty slot
pub gives_full : (number at : ℕ) (value : Value) (js new : List Join) (replies : List (Reply × Value)) (i : ℕ) (join : Join) → rise (join_numbers js) ≡ true → position_from (has_number number) 0 js ≡ Some i → join ≡ get_or js i join
    → are_full_but at join.places ≡ true → new ≡ remove js i → IfSome (slice_get js i) (λ j. replies ≡ filter is_legal_reply (join_reply (with_slot at value j) ∷ [])) → GivesPlace number at value js new replies
gives_full number at value js new replies i join rising e is but gone given =
    let f = found number at value js i join rising e is in
    let full : is_full (with_slot at value join) ≡ true = sym (full_but at value join) ∙ but in
    let P : Option Join → Type 0 = λ o. IfSome o (λ j. replies ≡ filter is_legal_reply (join_reply (with_slot at value j) ∷ [])) in
    let are : replies ≡ filter is_legal_reply (join_reply (with_slot at value join) ∷ []) = subst P (get_is js i join (found_within number at value js i e) is) given in
    record {
      after = gone ∙ sym (f.after ∙ ap (λ b. cond b (remove js i) (slice_set js i (with_slot at value join))) full);
      given = are ∙ sym (ap full_replies f.filled ∙ ap (λ b. filter is_legal_reply (map join_reply (cond b (with_slot at value join ∷ []) []))) full);
    }

-- the same where memory may run out
pub gives_complete : {E : Type 0} (number at : ℕ) (value : Value) (js new : List Join) (r : Result (List (Reply × Value)) E) (i : ℕ) (join : Join) → rise (join_numbers js) ≡ true → position_from (has_number number) 0 js ≡ Some i → join ≡ get_or js i join
    → are_full_but at join.places ≡ true → OnOk r (new ≡ remove js i) → IfOk r (λ replies. IfSome (slice_get js i) (λ j. replies ≡ filter is_legal_reply (join_reply (with_slot at value j) ∷ [])))
    → OnOk r (new ≡ filter_map (join_after number at value) js) × IfOk r (λ replies. replies ≡ full_replies (filled_joins number at value js))
gives_complete number at value js new (Ok replies) i join rising e is but gone given = let g = gives_full number at value js new replies i join rising e is but gone given in (g.after, g.given)
gives_complete number at value js new (Err fault) i join rising e is but gone given = (tt, tt)
