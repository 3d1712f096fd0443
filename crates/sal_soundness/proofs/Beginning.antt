-- An accepted program begins with a state of its types, and with `act`, which takes the words.
use Rattle.std.proofs.Common.{◌≡◌, ℕ, suc, ◌+◌, ◌<◌, Bool, true, false, ◌&&◌, if◌then◌else◌, nat_eq, List, [], ◌∷◌, map, Option, Some, None, Ok, Err, refl, sym, ap, subst, ◌∙◌, arith}
use Rattle.std.specs.Prelude.{slice_get, nat_lt, codes}
use Rattle.std.specs.List.{find, position, position_or_len}
use Rattle.std.specs.Str.{bytes_eq}
use Rattle.std.proofs.lemmas.Bool.{and_parts, eqb-true, ltb-true}
use Rattle.sal_value.specs.declared.constants.TheConstants.{RESERVED}
use Rattle.sal_value.specs.declared.value.Base.TheVariants as meant
use Rattle.sal_value.specs.declared.value.Sort.{Sort as MeantSort}
use Rattle.sal_value.specs.declared.value.Value.{Value}
use Rattle.sal_value.specs.declared.value.Value.TheVariants.{Array}
use Rattle.sal_value.proofs.Tables.{some_is}
use Rattle.sal_ast.specs.declared.program.BaseName.{BaseName}
use Rattle.sal_ast.specs.declared.program.BaseName.TheVariants as word
use Rattle.sal_ast.specs.declared.program.Param.{Param}
use Rattle.sal_ast.specs.declared.program.Behavior.{Behavior}
use Rattle.sal_ast.specs.declared.program.Program.{Program}
use Rattle.sal_ast.specs.Members.{Handler, handlers_of, valid_number}
use Rattle.sal_ast.specs.Sorts.{base_of, sort_with, type_sort}
use Rattle.sal_types.specs.Programs.{IsAccepted}
use Rattle.sal_typing.proofs.Finding.{position_of, no_position, stands_first}
use Rattle.sal_handler.specs.Evaluation.{OrTrap}
use Rattle.sal_handler.specs.Fits as fits
use Rattle.sal_handler.specs.Fits.{fits_sort, fit_sorts, sorts_of, fits_call, fits_state, meaning_of}
use Rattle.sal_handler.specs.Handler as h
use Rattle.sal_handler.specs.WellFormed.{EachOf, Legal}
use Rattle.sal_effects.proofs.Spelling.{begin_legally}
use Rattle.sal_fitting.specs.Runs.{BeginsTyped}
use Rattle.sal_fitting.proofs.Pieces.{both}
use Rattle.sal_fitting.proofs.Running.{program_agrees}
use Rattle.sal_soundness.specs.Laws.{AreWords}
use Rattle.sal_soundness.proofs.Anywhere.{HasFields}
use Rattle.sal_soundness.proofs.Joining.{state_fits}
use Rattle.sal_soundness.proofs.Making.{start_made, valid_is}
use Rattle.sal_soundness.proofs.Signing.{no_output}

-- ---- the start

-- an item that passes the test stands there
record Passes {X : Type 0} (q : X → Bool) (xs : List X) (k : ℕ) : Type 0 where
  item : X
  there : slice_get xs k ≡ Some item
  passes : q item ≡ true

first_passes : {X : Type 0} (q : X → Bool) (xs : List X) (k : ℕ) → valid_number (position q xs) ≡ Some k → Passes q xs k
first_passes {X} q xs k e = by (find q xs) refl
  where
    by : (o : Option X) → find q xs ≡ o → Passes q xs k
    by None f = let absent : None ≡ Some k = sym (ap valid_number (no_position q xs f)) ∙ e in absurd cc
    by (Some x) f =
        let at : position_or_len q xs ≡ k = valid_is (position_or_len q xs) k (sym (ap valid_number (position_of q xs x f)) ∙ e) in
        record { item = x; there = subst (λ j. slice_get xs j ≡ Some x) at (stands_first q xs x f).there; passes = (stands_first q xs x f).passes }

-- the behaviour with the start, below 65,535, and its handler
record Starts (bs : List Behavior) (n : ℕ) (at : ℕ × ℕ) : Type 0 where
  behavior : Behavior
  place : ℕ
  number : n + place ≡ at.0
  small : at.0 < RESERVED
  there : slice_get bs place ≡ Some behavior
  act : Passes h.is_act (handlers_of behavior) at.1

start_here : (n : ℕ) (b : Behavior) (bs : List Behavior) (at : ℕ × ℕ) → n < RESERVED → (o : Option ℕ) → h.act_in b ≡ o → (later : Option (ℕ × ℕ)) → (later ≡ Some at → Starts bs (n + 1) at) → h.start_at n o later ≡ Some at → Starts (b ∷ bs) n at
start_here n b bs at low None is later more e =
    let r = more e in
    let sum : n + suc r.place ≡ at.0 = let s : n + 1 + r.place ≡ at.0 = r.number in omega (arith, s) in
    record { behavior = r.behavior; place = suc r.place; number = sum; small = r.small; there = r.there; act = r.act }
start_here n b bs at low (Some k) is later more e =
    let same : (n, k) ≡ at = some_is e in
    let one : n ≡ at.0 = ap (λ (z : ℕ × ℕ). z.0) same in
    let two : k ≡ at.1 = ap (λ (z : ℕ × ℕ). z.1) same in
    record { behavior = b; place = 0; number = omega (arith, one); small = omega (arith, one, low); there = refl; act = subst (λ j. Passes h.is_act (handlers_of b) j) two (first_passes h.is_act (handlers_of b) k is) }

start_is : (bs : List Behavior) (n : ℕ) (at : ℕ × ℕ) → h.start_from n bs ≡ Some at → Starts bs n at
start_is [] n at e = absurd cc
start_is (b ∷ bs) n at e = by (nat_lt n RESERVED) refl (λ f. start_is bs (n + 1) at f) e
  where
    by : (t : Bool) → nat_lt n RESERVED ≡ t → (h.start_from (n + 1) bs ≡ Some at → Starts bs (n + 1) at) → (if t then h.start_at n (h.act_in b) (h.start_from (n + 1) bs) else None) ≡ Some at → Starts (b ∷ bs) n at
    by true l more e = start_here n b bs at (ltb-true n RESERVED l) (h.act_in b) refl (h.start_from (n + 1) bs) more e
    by false l more e = absurd cc

-- ---- the words

abbrev words_sort : MeantSort
words_sort = record { base = meant.Str; dims = 1 }

string_base : (bs : List Behavior) (b : BaseName) (d : ℕ) → h.is_string_base b ≡ true → nat_eq d 1 ≡ true → sort_with (base_of b bs) d ≡ Some (record { base = meant.Str; dims = 1 })
string_base bs word.Str d e k = ap (λ n. sort_with (Some meant.Str) n) (eqb-true d 1 k)
string_base bs word.Int d e k = absurd cc
string_base bs word.Boolean d e k = absurd cc
string_base bs (word.Actor name) d e k = absurd cc

one_param : (bs : List Behavior) (ps : List Param) → h.is_words_params ps ≡ true → sorts_of bs (map (λ q. q.sort) ps) ≡ Some (record { base = meant.Str; dims = 1 }) ∷ []
unfolding type_sort
one_param bs [] e = absurd cc
one_param bs (q ∷ []) e =
    let k = and_parts (h.is_string_base q.sort.base) (nat_eq q.sort.dims 1) e in
    ap (λ o. o ∷ []) (string_base bs q.sort.base q.sort.dims k.0 k.1)
one_param bs (q ∷ s ∷ ps) e = absurd cc

takes_words : (bs : List Behavior) (q : Handler) → h.is_act q ≡ true → (words : List Value) → AreWords words → fits.fits_handler (Some q) bs (Array words ∷ []) ≡ true
takes_words bs q act words w =
    let k = and_parts (h.has_no_result q.result) (bytes_eq q.name (codes "act") && h.is_words_params q.params) act in
    let params = (and_parts (bytes_eq q.name (codes "act")) (h.is_words_params q.params) k.1).1 in
    ap (λ os. fit_sorts os (Array words ∷ [])) (one_param bs q.params params) ∙ both (fits_sort (Some words_sort) (Array words)) true w refl

-- ---- the program

module _ (p : Program) (a : IsAccepted p) (words : List Value) (w : AreWords words) where
  call_fits : (n k : ℕ) (b : Behavior) (q : Handler) → n < RESERVED → slice_get p.behaviors n ≡ Some b → slice_get (handlers_of b) k ≡ Some q → h.is_act q ≡ true → fits_call p n k (Array words ∷ []) ≡ true
  unfolding fits_call
  call_fits n k b q low is at act =
      ap (λ t. if t then fit_sorts (fits.text_sort ∷ []) (Array words ∷ []) else fits.fits_behavior (slice_get p.behaviors n) p.behaviors k (Array words ∷ [])) (no_output n k low)
      ∙ ap (λ o. fits.fits_behavior o p.behaviors k (Array words ∷ [])) is
      ∙ ap (λ o. fits.fits_handler o p.behaviors (Array words ∷ [])) at
      ∙ takes_words p.behaviors q act words w

  began_typed : (at : ℕ × ℕ) → Starts p.behaviors 0 at → (o : OrTrap (List Value)) → h.start_fields (slice_get p.behaviors at.0) (h.constructor_context p.behaviors at.0) ≡ o → h.begin p ≡ h.begin_with at.0 at.1 o → BeginsTyped (meaning_of p) words (h.begin_with at.0 at.1 o)
  began_typed at s (Err k) e is = tt
  began_typed at s (Ok fields) e is =
      let there : slice_get p.behaviors at.0 ≡ Some s.behavior = subst (λ j. slice_get p.behaviors j ≡ Some s.behavior) (let n : 0 + s.place ≡ at.0 = s.number in omega (arith, n)) s.there in
      let has : HasFields p.behaviors at.0 fields = start_made p a at.0 s.behavior there fields (ap (λ b. h.start_fields b (h.constructor_context p.behaviors at.0)) (sym there) ∙ e) in
      let legal : EachOf Legal fields = begin_legally p at.0 at.1 fields is in
      ((program_agrees p).states at.0 fields ∙ state_fits p.behaviors (slice_get p.behaviors at.0) has.0.0 has.0.1 fields has.1 legal, call_fits at.0 at.1 s.behavior s.act.item s.small there s.act.there s.act.passes)

  pub begins_typed : BeginsTyped (meaning_of p) words (h.begin p)
  unfolding h.begin h.start_of
  begins_typed = by (h.start_from 0 p.behaviors) refl refl
    where
      by : (o : Option (ℕ × ℕ)) → h.start_from 0 p.behaviors ≡ o → h.begin p ≡ h.begin_at o p → BeginsTyped (meaning_of p) words (h.begin_at o p)
      by None is e = tt
      by (Some at) is e = began_typed at (start_is p.behaviors 0 at is) (h.start_fields (slice_get p.behaviors at.0) (h.constructor_context p.behaviors at.0)) refl e
