-- What is read is good, and is spelled by the bytes that reading takes.
use Rattle.std.proofs.Common.{◌≡◌, ℕ, zero, suc, ◌^◌, ◌≤◌, ◌==◌, Bool, true, false, ◌&&◌, List, [], ◌∷◌, ◌++◌, length, take, drop, Option, Some, None, Result, Ok, Err, refl, sym, ap, subst, ◌∙◌, arith}
use Rattle.std.specs.Prelude.{if◌then◌else◌, nat_lt, nat_le}
use Rattle.std.specs.Int.{Width, w16, w32, w64, byte_len, from_be_bytes, to_be_bytes}
use Rattle.std.specs.List.{list_all, flat_map}
use Rattle.std.specs.Str.{bytes_eq}
use Rattle.std.proofs.lemmas.Bool.{eqb-true, ltb-false}
use Rattle.std.proofs.lemmas.Bool.Decides.{nat_tests}
use Rattle.std.proofs.lemmas.List.{take-append-drop, length-take}
use Rattle.std.proofs.lemmas.Slice.Eq.{bytes_eq-Decides}
use Rattle.sal_value.specs.declared.name.Name.{Name}
use Rattle.sal_value.specs.declared.name.Name.TheVariants as name
use Rattle.sal_value.specs.declared.name.Ual.{Ual}
use Rattle.sal_value.specs.declared.value.DecodeFault.{DecodeFault}
use Rattle.sal_value.specs.Names.{ual_text, ual_of, is_uan, is_ual}
use Rattle.sal_value.specs.Spelling.{name_spelling, name_is_spelled, spelling, is_spelled}
use Rattle.sal_value.specs.Decoding.{decoded_name, decoded_value}
use Rattle.sal_value.specs.Coding.{IsBytes}
use Rattle.sal_value.proofs.Canonical.{some_if}
use Rattle.sal_value.proofs.Decided.{names_are_decided}
use Rattle.sal_value.proofs.Found.{found_name, found_value}
use Rattle.sal_value.proofs.Readings.{locators_are_read}
use Rattle.sal_value.proofs.Takes.{IsWide, wide16, wide32, wide64, Takes, takes_then, takes_tag, bytes_drop, bytes_take, bytes_tail}
use Rattle.sal_mail.specs.declared.message.Reply.{Reply}
use Rattle.sal_mail.specs.declared.message.Reply.TheVariants.{Nobody, Tok, Place, Outside}
use Rattle.sal_envelope.specs.declared.fault.Fault.{Fault}
use Rattle.sal_envelope.specs.declared.fault.Fault.TheVariants.{Cut}
use Rattle.sal_envelope.specs.Spelling.{bytes_16, bytes_32, bytes_64, uan_spelling, locator_spelling, values_spelling, values_are_spelled, made_spelling, reply_spelling, reply_is_spelled, is_inner, handler_spelling, found_spelling, found_is_spelled}
use Rattle.sal_envelope.specs.Decoding.{Reading, ◌>>=◌, wrong, byte_at, bytes_at, number_at, bool_at, left_after, name_at, value_at, universal_or_wrong, uan_at, if_canonical, canonical_ual, locator_or_wrong, locator_at, many_at, values_at, made_at, token_at, place_at, inner_by, inner_at, reply_at, handler_at, moved_at, found_at}

-- ---- what holds of what is read

-- this holds of what is read and of the bytes that are left
pub record Holds {A : Type 0} (r : Reading A) (P : A → List ℕ → Type 0) : Type 0 where
  pub fact : (x : A × List ℕ) → r ≡ Ok x → P x.0 x.1

pub then_holds : {A B : Type 0} {r : Reading A} {P : A → List ℕ → Type 0} (f : A × List ℕ → Reading B) (Q : B → List ℕ → Type 0)
    → Holds r P → ((x : A) (rest : List ℕ) → P x rest → Holds (f (x, rest)) Q) → Holds (r >>= f) Q
then_holds {A} {B} {r} {P} f Q h k = record { fact = go r f P Q h k }
  where
    go : (r : Reading A) (f : A × List ℕ → Reading B) (P : A → List ℕ → Type 0) (Q : B → List ℕ → Type 0)
        → Holds r P → ((x : A) (rest : List ℕ) → P x rest → Holds (f (x, rest)) Q) → (y : B × List ℕ) → (r >>= f) ≡ Ok y → Q y.0 y.1
    go (Ok x) f P Q h k y e = (k x.0 x.1 (h.fact x refl)).fact y e
    go (Err d) f P Q h k y e = absurd cc

pub done_holds : {A : Type 0} (x : A) (rest : List ℕ) (P : A → List ℕ → Type 0) → P x rest → Holds (Ok (x, rest)) P
done_holds {A} x rest P p = record { fact = λ y e. let same : (x, rest) ≡ y = cc in subst (λ (y : A × List ℕ). P y.0 y.1) same p }

pub fails_holds : {A : Type 0} (d : Fault) (P : A → List ℕ → Type 0) → Holds (Err d) P
fails_holds d P = record { fact = λ x e. absurd cc }

pub wrong_holds : {A : Type 0} (field : List ℕ) (P : A → List ℕ → Type 0) → Holds (wrong field) P
wrong_holds field P = record { fact = λ x e. absurd cc }

pub if_holds : {A : Type 0} (b : Bool) (r s : Reading A) (P : A → List ℕ → Type 0) → (b ≡ true → Holds r P) → (b ≡ false → Holds s P) → Holds (if b then r else s) P
if_holds true r s P h k = h refl
if_holds false r s P h k = k refl

pub weaker : {A : Type 0} {r : Reading A} {P : A → List ℕ → Type 0} (Q : A → List ℕ → Type 0) → Holds r P → ((x : A) (rest : List ℕ) → P x rest → Q x rest) → Holds r Q
weaker Q h k = record { fact = λ x e. k x.0 x.1 (h.fact x e) }

-- after a tag that a test found
pub at_tag : {A : Type 0} (bytes rest : List ℕ) (tag k : ℕ) (r : Reading A) (P : List ℕ → A → List ℕ → Type 0) → bytes ≡ tag ∷ rest → (tag == k) ≡ true → Holds r (P (k ∷ rest)) → Holds r (P bytes)
at_tag bytes rest tag k r P e is h = subst (λ (z : List ℕ). Holds r (P z)) (sym (e ∙ ap (λ t. t ∷ rest) (eqb-true tag k is))) h

pub and_true : (a b : Bool) → a ≡ true → b ≡ true → a && b ≡ true
and_true true b h k = k
and_true false b h k = h

-- ---- bytes and numbers

pub byte_found : (bytes : List ℕ) → IsBytes bytes → Holds (byte_at bytes) (λ b rest. Takes bytes (b ∷ []) rest)
byte_found [] small = fails_holds Cut _
byte_found (b ∷ rest) small = done_holds b rest _ (record { parts = refl; rest_fits = bytes_tail b rest small })

pub bytes_found : (n : ℕ) (bytes : List ℕ) → IsBytes bytes → Holds (bytes_at n bytes) (λ t rest. Takes bytes t rest × (length t ≡ n) × IsBytes t)
unfolding bytes_at
bytes_found n bytes small =
    if_holds (nat_lt (length bytes) n) _ _ _ (λ short. fails_holds Cut _) (λ long.
    let enough : n ≤ length bytes = ltb-false _ _ long in
    done_holds (take n bytes) (drop n bytes) _ (
      record { parts = sym (take-append-drop n bytes); rest_fits = bytes_drop n bytes small },
      omega (arith, length-take n bytes),
      bytes_take n bytes small,
    ))

number_found : (w : Width) (limit : ℕ) → IsWide w limit → (bytes : List ℕ) → IsBytes bytes → Holds (number_at w bytes) (λ n rest. Takes bytes (to_be_bytes w n) rest)
unfolding number_at
number_found w limit wide bytes small =
    then_holds _ _ (bytes_found (byte_len w) bytes small) (λ t rest p.
    done_holds (from_be_bytes w t) rest _ (subst (λ z. Takes bytes z rest) (sym (wide.back t p.1 p.2)) p.0))

pub found_16 : (bytes : List ℕ) → IsBytes bytes → Holds (number_at w16 bytes) (λ n rest. Takes bytes (bytes_16 n) rest)
unfolding bytes_16
found_16 bytes small = number_found w16 (2 ^ 16) wide16 bytes small

pub found_32 : (bytes : List ℕ) → IsBytes bytes → Holds (number_at w32 bytes) (λ n rest. Takes bytes (bytes_32 n) rest)
unfolding bytes_32
found_32 bytes small = number_found w32 (2 ^ 32) wide32 bytes small

pub found_64 : (bytes : List ℕ) → IsBytes bytes → Holds (number_at w64 bytes) (λ n rest. Takes bytes (bytes_64 n) rest)
unfolding bytes_64
found_64 bytes small = number_found w64 (2 ^ 64) wide64 bytes small

pub bool_found : (bytes : List ℕ) → IsBytes bytes → Holds (bool_at bytes) (λ b rest. Takes bytes ((if b then 1 else 0) ∷ []) rest)
unfolding bool_at
bool_found bytes small =
    then_holds _ _ (byte_found bytes small) (λ b rest p.
    if_holds (b == 0) _ _ _ (λ is. done_holds false rest _ (subst (λ k. Takes bytes (k ∷ []) rest) (eqb-true b 0 is) p)) (λ not_zero.
    if_holds (b == 1) _ _ _ (λ is. done_holds true rest _ (subst (λ k. Takes bytes (k ∷ []) rest) (eqb-true b 1 is) p)) (λ not_one.
    wrong_holds bytes _)))

-- ---- names, values and locators

left_holds : {A : Type 0} (spell : A → List ℕ) (good : A → Bool) (bytes : List ℕ) (r : Result (A × ℕ) DecodeFault) → IsBytes bytes
    → ((x : A) (n : ℕ) → r ≡ Ok (x, n) → (good x ≡ true) × (n ≤ length bytes) × (take n bytes ≡ spell x))
    → Holds (left_after bytes r) (λ x rest. Takes bytes (spell x) rest × (good x ≡ true))
left_holds spell good bytes (Ok y) small h =
    let is = h y.0 y.1 refl in
    done_holds y.0 (drop y.1 bytes) _ (
      record { parts = sym (take-append-drop y.1 bytes) ∙ ap (λ (t : List ℕ). t ++ drop y.1 bytes) is.2; rest_fits = bytes_drop y.1 bytes small },
      is.0,
    )
left_holds spell good bytes (Err f) small h = fails_holds _ _

pub name_found : (bytes : List ℕ) → IsBytes bytes → Holds (name_at bytes) (λ n rest. Takes bytes (name_spelling n) rest × (name_is_spelled n ≡ true))
unfolding name_at
name_found bytes small = left_holds name_spelling name_is_spelled bytes (decoded_name bytes) small (λ n k e. found_name bytes n k small e)

pub value_found : (bytes : List ℕ) → IsBytes bytes → Holds (value_at bytes) (λ v rest. Takes bytes (spelling v) rest × (is_spelled v ≡ true))
unfolding value_at
value_found bytes small = left_holds spelling is_spelled bytes (decoded_value bytes) small (λ v k e. found_value bytes v k small e)

universal_holds : (bytes rest : List ℕ) (n : Name) → Takes bytes (name_spelling n) rest → name_is_spelled n ≡ true
    → Holds (universal_or_wrong bytes rest n) (λ u left. Takes bytes (uan_spelling u) left × (is_uan u ≡ true))
unfolding name_is_spelled
universal_holds bytes rest (name.Uan u) t s = done_holds u rest _ (t, s)
universal_holds bytes rest (name.Anon theatre number) t s = wrong_holds bytes _
universal_holds bytes rest (name.Outside number) t s = wrong_holds bytes _

pub uan_found : (bytes : List ℕ) → IsBytes bytes → Holds (uan_at bytes) (λ u rest. Takes bytes (uan_spelling u) rest × (is_uan u ≡ true))
unfolding uan_at
uan_found bytes small =
    then_holds _ _ (byte_found bytes small) (λ tag r1 p.
    if_holds (tag == 1) _ _ _
    (λ is. then_holds _ _ (name_found bytes small) (λ n rest q. universal_holds bytes rest n q.0 q.1))
    (λ other. wrong_holds bytes _))

canonical_at : (text : List ℕ) (o : Option Ual) (l : Ual) → ual_of text ≡ o → if_canonical text o ≡ Some l → (is_ual l ≡ true) × (ual_text l ≡ text)
canonical_at text None l read e = absurd cc
canonical_at text (Some m) l read e =
    let a = some_if (bytes_eq (ual_text m) text) m l e in
    let same : ual_text m ≡ text = (bytes_eq-Decides (ual_text m) text).0 a.0 in
    let good : is_ual m ≡ true = locators_are_read.given text m (names_are_decided.ual text m read) in
    subst (λ z. (is_ual z ≡ true) × (ual_text z ≡ text)) a.1 (good, same)

-- the locator of a text is good, and has this text
canonical_is : (text : List ℕ) (l : Ual) → canonical_ual text ≡ Some l → (is_ual l ≡ true) × (ual_text l ≡ text)
unfolding canonical_ual
canonical_is text l e = canonical_at text (ual_of text) l refl e

given_holds : (field rest : List ℕ) (o : Option Ual) (P : Ual → List ℕ → Type 0) → ((l : Ual) → o ≡ Some l → P l rest) → Holds (locator_or_wrong field rest o) P
given_holds field rest None P h = wrong_holds field P
given_holds field rest (Some l) P h = done_holds l rest P (h l refl)

pub locator_found : (bytes : List ℕ) → IsBytes bytes → Holds (locator_at bytes) (λ l rest. Takes bytes (locator_spelling l) rest × (is_ual l ≡ true))
unfolding locator_at locator_spelling
locator_found bytes small =
    then_holds _ _ (found_16 bytes small) (λ n r1 p.
    then_holds _ _ (bytes_found n r1 p.rest_fits) (λ t rest q.
    given_holds r1 rest (canonical_ual t) _ (λ l is.
    let c = canonical_is t l is in
    let whole : bytes_16 n ++ t ≡ bytes_16 (length (ual_text l)) ++ ual_text l =
    ap (λ k. bytes_16 k ++ t) (sym q.1) ∙ ap (λ (z : List ℕ). bytes_16 (length z) ++ z) (sym c.1) in
    (subst (λ z. Takes bytes z rest) whole (takes_then bytes (bytes_16 n) r1 t rest p q.0), c.0))))

pub many_found : (n : ℕ) (bytes : List ℕ) → IsBytes bytes
    → Holds (many_at n bytes) (λ vs rest. Takes bytes (flat_map spelling vs) rest × (length vs ≡ n) × (list_all is_spelled vs ≡ true))
many_found zero bytes small = done_holds [] bytes _ (record { parts = refl; rest_fits = small }, refl, refl)
many_found (suc n) bytes small =
    then_holds _ _ (value_found bytes small) (λ v r1 p.
    then_holds _ _ (many_found n r1 p.0.rest_fits) (λ vs rest q.
    done_holds (v ∷ vs) rest _ (takes_then bytes (spelling v) r1 (flat_map spelling vs) rest p.0 q.0, ap suc q.1, and_true _ _ p.1 q.2)))

few : (most n k : ℕ) → nat_lt most n ≡ false → k ≡ n → nat_le k most ≡ true
few most n k h e = grind (arith, nat_tests)

pub values_found : (most : ℕ) (bytes : List ℕ) → IsBytes bytes
    → Holds (values_at most bytes) (λ vs rest. Takes bytes (values_spelling vs) rest × (values_are_spelled most vs ≡ true))
unfolding values_at values_spelling
values_found most bytes small =
    then_holds _ _ (byte_found bytes small) (λ n r1 p.
    if_holds (nat_lt most n) _ _ _ (λ more. wrong_holds bytes _) (λ most_n.
    weaker _ (many_found n r1 p.rest_fits) (λ vs rest q. (
      subst (λ k. Takes bytes (k ∷ flat_map spelling vs) rest) (sym q.1) (takes_then bytes (n ∷ []) r1 (flat_map spelling vs) rest p q.0),
      and_true _ _ (few most n (length vs) most_n q.1) q.2,
    ))))

-- ---- replies

pub made_found : (bytes : List ℕ) → IsBytes bytes → Holds (made_at bytes) (λ m rest. Takes bytes (made_spelling m.0 m.1) rest × (name_is_spelled m.0 ≡ true))
unfolding made_at
made_found bytes small =
    then_holds _ _ (name_found bytes small) (λ maker r1 p.
    then_holds _ _ (found_64 r1 p.0.rest_fits) (λ serial rest q.
    done_holds (maker, serial) rest _ (takes_then bytes (name_spelling maker) r1 (bytes_64 serial) rest p.0 q, p.1)))

-- what was read of a reply
abbrev IsReply : List ℕ → Reply → List ℕ → Type 0
IsReply bytes r rest = Takes bytes (reply_spelling r) rest × (reply_is_spelled r ≡ true)

-- and of one to a token or a place
abbrev IsInner : List ℕ → Reply → List ℕ → Type 0
IsInner bytes r rest = Takes bytes (reply_spelling r) rest × (reply_is_spelled r ≡ true) × (is_inner r ≡ true)

token_found : (bytes : List ℕ) → IsBytes bytes → Holds (token_at bytes) (IsInner (1 ∷ bytes))
unfolding token_at reply_spelling reply_is_spelled
token_found bytes small =
    then_holds _ _ (made_found bytes small) (λ m rest p.
    done_holds (Tok m.0 m.1) rest _ (takes_tag 1 1 bytes (made_spelling m.0 m.1) rest refl p.0, p.1, refl))

place_found : (bytes : List ℕ) → IsBytes bytes → Holds (place_at bytes) (IsInner (2 ∷ bytes))
unfolding place_at reply_spelling reply_is_spelled
place_found bytes small =
    then_holds _ _ (made_found bytes small) (λ m r1 p.
    then_holds _ _ (found_32 r1 p.0.rest_fits) (λ k rest q.
    let body = takes_then bytes (made_spelling m.0 m.1) r1 (bytes_32 k) rest p.0 q in
    done_holds (Place m.0 m.1 k) rest _ (takes_tag 2 2 bytes (made_spelling m.0 m.1 ++ bytes_32 k) rest refl body, p.1, refl)))

inner_by_found : (bytes : List ℕ) (kind : ℕ) (rest : List ℕ) → Takes bytes (kind ∷ []) rest → Holds (inner_by bytes kind rest) (IsInner bytes)
inner_by_found bytes kind rest p =
    if_holds (kind == 1) _ _ _ (λ is. at_tag bytes rest kind 1 (token_at rest) IsInner p.parts is (token_found rest p.rest_fits)) (λ not_one.
    if_holds (kind == 2) _ _ _ (λ is. at_tag bytes rest kind 2 (place_at rest) IsInner p.parts is (place_found rest p.rest_fits)) (λ not_two.
    wrong_holds bytes _))

pub inner_found : (bytes : List ℕ) → IsBytes bytes → Holds (inner_at bytes) (λ r rest. Takes bytes (reply_spelling r) rest × (reply_is_spelled r ≡ true) × (is_inner r ≡ true))
unfolding inner_at
inner_found bytes small = then_holds _ _ (byte_found bytes small) (λ kind rest p. inner_by_found bytes kind rest p)

nobody_found : (rest : List ℕ) → IsBytes rest → Holds (Ok (Nobody, rest)) (IsReply (0 ∷ rest))
unfolding reply_spelling reply_is_spelled
nobody_found rest small = done_holds Nobody rest _ (record { parts = refl; rest_fits = small }, refl)

outside_found : (bytes : List ℕ) → IsBytes bytes → Holds (number_at w64 bytes >>= λ n. Ok (Outside n.0, n.1)) (IsReply (3 ∷ bytes))
unfolding reply_spelling reply_is_spelled
outside_found bytes small =
    then_holds _ _ (found_64 bytes small) (λ n rest p.
    done_holds (Outside n) rest _ (takes_tag 3 3 bytes (bytes_64 n) rest refl p, refl))

pub reply_found : (bytes : List ℕ) → IsBytes bytes → Holds (reply_at bytes) (λ r rest. Takes bytes (reply_spelling r) rest × (reply_is_spelled r ≡ true))
unfolding reply_at
reply_found bytes small =
    then_holds _ _ (byte_found bytes small) (λ kind rest p.
    if_holds (kind == 0) _ _ _ (λ is. at_tag bytes rest kind 0 _ IsReply p.parts is (nobody_found rest p.rest_fits)) (λ not_zero.
    if_holds (kind == 3) _ _ _ (λ is. at_tag bytes rest kind 3 _ IsReply p.parts is (outside_found rest p.rest_fits)) (λ not_three.
    weaker _ (inner_by_found bytes kind rest p) (λ r left q. (q.0, q.1)))))

-- ---- the parts of calls and of answers

pub handler_found : (bytes : List ℕ) → IsBytes bytes → Holds (handler_at bytes) (λ h rest. Takes bytes (handler_spelling h.0 h.1) rest)
unfolding handler_at
handler_found bytes small =
    then_holds _ _ (found_16 bytes small) (λ behavior r1 p.
    then_holds _ _ (found_16 r1 p.rest_fits) (λ handler rest q.
    done_holds (behavior, handler) rest _ (takes_then bytes (bytes_16 behavior) r1 (bytes_16 handler) rest p q)))

pub moved_found : (bytes : List ℕ) → IsBytes bytes → Holds (moved_at bytes) (λ m rest. Takes bytes (locator_spelling m.0 ++ bytes_64 m.1) rest × (is_ual m.0 ≡ true))
unfolding moved_at
moved_found bytes small =
    then_holds _ _ (locator_found bytes small) (λ place r1 p.
    then_holds _ _ (found_64 r1 p.0.rest_fits) (λ moves rest q.
    done_holds (place, moves) rest _ (takes_then bytes (locator_spelling place) r1 (bytes_64 moves) rest p.0 q, p.1)))

-- where a name was found, by the byte that says so
answer_found : (is_found : Bool) (bytes rest : List ℕ) → Takes bytes ((if is_found then 1 else 0) ∷ []) rest
    → Holds (if is_found then (moved_at rest >>= λ m. Ok (Some m.0, m.1)) else Ok (None, rest)) (λ o left. Takes bytes (found_spelling o) left × (found_is_spelled o ≡ true))
unfolding found_spelling found_is_spelled
answer_found true bytes rest p =
    then_holds _ _ (moved_found rest p.rest_fits) (λ m left q.
    done_holds (Some m) left _ (takes_then bytes (1 ∷ []) rest (locator_spelling m.0 ++ bytes_64 m.1) left p q.0, q.1))
answer_found false bytes rest p = done_holds None rest _ (p, refl)

pub found_found : (bytes : List ℕ) → IsBytes bytes → Holds (found_at bytes) (λ o rest. Takes bytes (found_spelling o) rest × (found_is_spelled o ≡ true))
unfolding found_at
found_found bytes small = then_holds _ _ (bool_found bytes small) (λ is_found rest p. answer_found is_found bytes rest p)
