-- What follows a packed actor, and what is cut or wrong of it.
use Rattle.std.proofs.Common.{◌≡◌, ℕ, ◌-◌, ◌+◌, ◌<◌, Bool, true, List, [], ◌∷◌, ◌++◌, length, take, drop, Result, Ok, Err, refl, sym, ap, subst, ◌∙◌, append-nil, arith}
use Rattle.std.proofs.lemmas.List.{length-append, length-drop, take-append-drop}
use Rattle.sal_value.specs.declared.value.DecodeFault.{DecodeFault}
use Rattle.sal_value.specs.declared.value.DecodeFault.TheVariants as fault
use Rattle.sal_envelope.specs.declared.fault.Fault.TheVariants.{Cut, Bad, Memory}
use Rattle.sal_envelope.specs.Decoding.{Reading, ◌>>=◌, if_none_left, with_offset}
use Rattle.sal_envelope.proofs.Extending.{Keeps, Extends}
use Rattle.sal_resident.specs.declared.resident.Resident.{Resident}
use Rattle.sal_resident.specs.Packing.{packed_actor, is_packable}
use Rattle.sal_resident.specs.Unpacking.{actor_at, whole_actor_at, unpacked_actor}
use Rattle.sal_resident.specs.Coding.{resident_in_range, PackedActorsAreDelimited}
use Rattle.sal_resident.proofs.Again.{actor_again}
use Rattle.sal_resident.proofs.Extending.{actor_extends}

-- an actor, with nothing after it
abbrev ending : Reading Resident → Reading Resident
ending r = r >>= λ x. if_none_left x.0 x.1

-- the answer for an actor
abbrev answer : List ℕ → Reading Resident → Result Resident DecodeFault
answer bytes r = with_offset bytes (ending r)

answer_is : (bytes : List ℕ) → unpacked_actor bytes ≡ answer bytes (actor_at bytes)
unfolding unpacked_actor whole_actor_at
answer_is bytes = refl

-- what follows an actor is bad where it begins
after_is_bad : (bytes : List ℕ) (x : Resident) (b : ℕ) (left more : List ℕ) → answer (bytes ++ more) (Ok (x, (b ∷ left) ++ more)) ≡ answer bytes (Ok (x, b ∷ left))
after_is_bad bytes x b left more =
    let place : length (bytes ++ more) - length ((b ∷ left) ++ more) ≡ length bytes - length (b ∷ left) = omega (arith, length-append bytes more, length-append (b ∷ left) more) in
    ap (λ n. Err (fault.Bad n)) place

-- ---- what is wrong stays so

ok_stays : (bytes more : List ℕ) (place : ℕ) (x : Resident) (rest : List ℕ) → answer bytes (Ok (x, rest)) ≡ Err (fault.Bad place) → answer (bytes ++ more) (Ok (x, rest ++ more)) ≡ Err (fault.Bad place)
ok_stays bytes more place x [] is = absurd cc
ok_stays bytes more place x (b ∷ left) is = after_is_bad bytes x b left more ∙ is

wrong_stays : (bytes more : List ℕ) (place : ℕ) (r s : Reading Resident) → Keeps more r s → answer bytes r ≡ Err (fault.Bad place) → answer (bytes ++ more) s ≡ Err (fault.Bad place)
wrong_stays bytes more place (Ok x) s h is = ap (answer (bytes ++ more)) h ∙ ok_stays bytes more place x.0 x.1 is
wrong_stays bytes more place (Err Cut) s h is = absurd cc
wrong_stays bytes more place (Err (Bad left)) s h is =
    let same : length (bytes ++ more) - (left + length more) ≡ length bytes - left = omega (arith, length-append bytes more) in
    ap (answer (bytes ++ more)) h ∙ ap (λ n. Err (fault.Bad n)) same ∙ is
wrong_stays bytes more place (Err Memory) s h is = absurd cc

stays : (bytes more : List ℕ) (place : ℕ) → unpacked_actor bytes ≡ Err (fault.Bad place) → unpacked_actor (bytes ++ more) ≡ Err (fault.Bad place)
stays bytes more place is =
    answer_is (bytes ++ more) ∙ wrong_stays bytes more place (actor_at bytes) (actor_at (bytes ++ more)) (actor_extends more bytes).fact (sym (answer_is bytes) ∙ is)

-- ---- what follows a spelling, and where it is cut

longer_is_bad : (r : Resident) (b : ℕ) (rest : List ℕ) → resident_in_range r ≡ true → is_packable r ≡ true → unpacked_actor (packed_actor r ++ b ∷ rest) ≡ Err (fault.Bad (length (packed_actor r)))
longer_is_bad r b rest ranges s =
    let bytes : List ℕ = packed_actor r in
    let more : List ℕ = b ∷ rest in
    let place : length (bytes ++ more) - length more ≡ length bytes = omega (arith, length-append bytes more) in
    answer_is (bytes ++ more) ∙ ap (answer (bytes ++ more)) (actor_again r more ranges s) ∙ ap (λ n. Err (fault.Bad n)) place

abbrev read : Resident × List ℕ → Reading Resident
read x = Ok x

read_is : (x y : Resident × List ℕ) → read x ≡ read y → x ≡ y
read_is x y e = cc

cut_at : (bytes more : List ℕ) (x : Resident) (r s : Reading Resident) → 0 < length more → Keeps more r s → s ≡ Ok (x, []) → answer bytes r ≡ Err fault.Cut
cut_at bytes more x (Ok y) s some h is =
    let same = read_is (y.0, y.1 ++ more) (x, []) (sym h ∙ is) in
    let left : y.1 ++ more ≡ [] = ap (λ (z : Resident × List ℕ). z.1) same in
    absurd (omega (arith, length-append y.1 more, ap length left))
cut_at bytes more x (Err Cut) s some h is = refl
cut_at bytes more x (Err (Bad left)) s some h is = absurd cc
cut_at bytes more x (Err Memory) s some h is = absurd cc

shorter_is_cut : (r : Resident) (size : ℕ) → resident_in_range r ≡ true → is_packable r ≡ true → size < length (packed_actor r) → unpacked_actor (take size (packed_actor r)) ≡ Err fault.Cut
shorter_is_cut r size ranges s low =
    let bytes : List ℕ = take size (packed_actor r) in
    let more : List ℕ = drop size (packed_actor r) in
    let whole : bytes ++ more ≡ packed_actor r = take-append-drop size (packed_actor r) in
    let again : actor_at (bytes ++ more) ≡ Ok (r, []) = ap actor_at (whole ∙ sym (append-nil (packed_actor r))) ∙ actor_again r [] ranges s in
    let some : 0 < length more = omega (arith, length-drop size (packed_actor r)) in
    answer_is bytes ∙ cut_at bytes more r (actor_at bytes) (actor_at (bytes ++ more)) some (actor_extends more bytes).fact again

pub delimited : PackedActorsAreDelimited
delimited = record {
  longer = longer_is_bad;
  shorter = shorter_is_cut;
  wrong = stays;
}
