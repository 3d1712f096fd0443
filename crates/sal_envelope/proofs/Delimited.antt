-- What follows an envelope, and what is cut or wrong of it.
use Rattle.std.proofs.Common.{◌≡◌, ℕ, ◌-◌, ◌+◌, ◌<◌, ◌==◌, Bool, true, false, List, [], ◌∷◌, ◌++◌, length, take, drop, Result, Ok, Err, refl, sym, ap, subst, ◌∙◌, arith, true≢false, inl, inr}
use Rattle.std.specs.Prelude.{◌⊎◌, if◌then◌else◌}
use Rattle.std.proofs.lemmas.Bool.{and_parts}
use Rattle.std.proofs.lemmas.List.{length-append, length-drop, take-append-drop}
use Rattle.sal_value.specs.declared.value.DecodeFault.{DecodeFault}
use Rattle.sal_value.specs.declared.value.DecodeFault.TheVariants as fault
use Rattle.sal_mail.specs.declared.envelope.Envelope.{Envelope}
use Rattle.sal_mail.specs.declared.envelope.Envelope.TheVariants as envelope
use Rattle.sal_envelope.specs.declared.fault.Fault.TheVariants.{Cut, Bad, Memory}
use Rattle.sal_envelope.specs.Spelling.{envelope_spelling, envelope_is_spelled}
use Rattle.sal_envelope.specs.Decoding.{Reading, ◌>>=◌, move_at, envelope_at, if_none_left, whole_at, with_offset, decoded_envelope}
use Rattle.sal_envelope.specs.Coding.{envelope_in_range, is_delimited, EnvelopesAreDelimited}
use Rattle.sal_envelope.proofs.EnvelopesAgain.{envelope_again}
use Rattle.sal_envelope.proofs.Extending.{Keeps, Extends, cut_extends, wrong_extends, call_envelope_extends, reply_envelope_extends, create_extends, put_extends, put_reply_extends, get_extends, get_reply_extends, update_extends}

-- both are packed actors
abbrev BothMove : Reading Envelope → Reading Envelope → Type 0
BothMove r s = (p : List ℕ) × (q : List ℕ) × (r ≡ Ok (envelope.Move p, [])) × (s ≡ Ok (envelope.Move q, []))

-- what an envelope becomes where more follows
record Follows (more : List ℕ) (r s : Reading Envelope) : Type 0 where
  way : Extends more r s ⊎ BothMove r s

chosen_follows : {r r' s s' : Reading Envelope} (more : List ℕ) (b : Bool) → Follows more r r' → Follows more s s' → Follows more (if b then r else s) (if b then r' else s')
chosen_follows more true h k = h
chosen_follows more false h k = k

extended : {r s : Reading Envelope} (more : List ℕ) → Extends more r s → Follows more r s
extended more h = record { way = inl h }

move_follows : (more rest : List ℕ) → Follows more (move_at rest) (move_at (rest ++ more))
move_follows more rest = record { way = inr (rest, rest ++ more, refl, refl) }

envelope_follows : (more bytes : List ℕ) → Follows more (envelope_at bytes) (envelope_at (bytes ++ more))
unfolding envelope_at
envelope_follows more [] = extended more (cut_extends more _)
envelope_follows more (tag ∷ rest) =
    chosen_follows more (tag == 1) (extended more (call_envelope_extends more rest))
    (chosen_follows more (tag == 2) (extended more (reply_envelope_extends more rest))
    (chosen_follows more (tag == 3) (extended more (create_extends more rest))
    (chosen_follows more (tag == 4) (move_follows more rest)
    (chosen_follows more (tag == 5) (extended more (put_extends more rest))
    (chosen_follows more (tag == 6) (extended more (put_reply_extends more rest))
    (chosen_follows more (tag == 7) (extended more (get_extends more rest))
    (chosen_follows more (tag == 8) (extended more (get_reply_extends more rest))
    (chosen_follows more (tag == 9) (extended more (update_extends more rest))
    (extended more (wrong_extends more (tag ∷ rest)))))))))))

-- an envelope, with nothing after it
abbrev ending : Reading Envelope → Reading Envelope
ending r = r >>= λ x. if_none_left x.0 x.1

-- the answer for an envelope
abbrev answer : List ℕ → Reading Envelope → Result Envelope DecodeFault
answer bytes r = with_offset bytes (ending r)

answer_is : (bytes : List ℕ) → decoded_envelope bytes ≡ answer bytes (envelope_at bytes)
unfolding decoded_envelope whole_at
answer_is bytes = refl

-- what follows an envelope is bad where it begins
after_is_bad : (bytes : List ℕ) (e : Envelope) (b : ℕ) (left more : List ℕ) → answer (bytes ++ more) (Ok (e, (b ∷ left) ++ more)) ≡ answer bytes (Ok (e, b ∷ left))
after_is_bad bytes e b left more =
    let place : length (bytes ++ more) - length ((b ∷ left) ++ more) ≡ length bytes - length (b ∷ left) = omega (arith, length-append bytes more, length-append (b ∷ left) more) in
    ap (λ n. Err (fault.Bad n)) place

-- ---- what is wrong stays so

ok_stays : (bytes more : List ℕ) (place : ℕ) (e : Envelope) (rest : List ℕ) → answer bytes (Ok (e, rest)) ≡ Err (fault.Bad place) → answer (bytes ++ more) (Ok (e, rest ++ more)) ≡ Err (fault.Bad place)
ok_stays bytes more place e [] is = absurd cc
ok_stays bytes more place e (b ∷ left) is = after_is_bad bytes e b left more ∙ is

wrong_stays : (bytes more : List ℕ) (place : ℕ) (r s : Reading Envelope) → Keeps more r s → answer bytes r ≡ Err (fault.Bad place) → answer (bytes ++ more) s ≡ Err (fault.Bad place)
wrong_stays bytes more place (Ok x) s h is = ap (answer (bytes ++ more)) h ∙ ok_stays bytes more place x.0 x.1 is
wrong_stays bytes more place (Err Cut) s h is = absurd cc
wrong_stays bytes more place (Err (Bad left)) s h is =
    let same : length (bytes ++ more) - (left + length more) ≡ length bytes - left = omega (arith, length-append bytes more) in
    ap (answer (bytes ++ more)) h ∙ ap (λ n. Err (fault.Bad n)) same ∙ is
wrong_stays bytes more place (Err Memory) s h is = absurd cc

move_is_good : (bytes : List ℕ) (r : Reading Envelope) (p : List ℕ) (place : ℕ) → r ≡ Ok (envelope.Move p, []) → answer bytes r ≡ Err (fault.Bad place) → ⊥
move_is_good bytes r p place e is =
    let good : answer bytes r ≡ Ok (envelope.Move p) = ap (answer bytes) e in
    cc

stays : (bytes more : List ℕ) (place : ℕ) → decoded_envelope bytes ≡ Err (fault.Bad place) → decoded_envelope (bytes ++ more) ≡ Err (fault.Bad place)
stays bytes more place is =
    let told : answer bytes (envelope_at bytes) ≡ Err (fault.Bad place) = sym (answer_is bytes) ∙ is in
    elim (envelope_follows more bytes).way [
      | inl h ↦ answer_is (bytes ++ more) ∙ wrong_stays bytes more place (envelope_at bytes) (envelope_at (bytes ++ more)) h.fact told
      | inr m ↦ absurd (move_is_good bytes (envelope_at bytes) m.0 place m.2 told)
    ]

-- ---- what follows a spelling, and where it is cut

abbrev read : Envelope × List ℕ → Reading Envelope
read x = Ok x

read_is : (x y : Envelope × List ℕ) → read x ≡ read y → x ≡ y
read_is x y e = cc

-- such an envelope is in range and has a spelling
delimited_is : (e : Envelope) → is_delimited e ≡ true → (envelope_in_range e ≡ true) × (envelope_is_spelled e ≡ true)
delimited_is (envelope.Move packed) h = absurd (true≢false (sym h))
delimited_is (envelope.Call hops m) h = and_parts (envelope_in_range (envelope.Call hops m)) (envelope_is_spelled (envelope.Call hops m)) h
delimited_is (envelope.Reply hops r v) h = and_parts (envelope_in_range (envelope.Reply hops r v)) (envelope_is_spelled (envelope.Reply hops r v)) h
delimited_is (envelope.Create a) h = and_parts (envelope_in_range (envelope.Create a)) (envelope_is_spelled (envelope.Create a)) h
delimited_is (envelope.Put maker serial n place) h = and_parts (envelope_in_range (envelope.Put maker serial n place)) (envelope_is_spelled (envelope.Put maker serial n place)) h
delimited_is (envelope.PutReply maker serial bound) h = and_parts (envelope_in_range (envelope.PutReply maker serial bound)) (envelope_is_spelled (envelope.PutReply maker serial bound)) h
delimited_is (envelope.Get n) h = and_parts (envelope_in_range (envelope.Get n)) (envelope_is_spelled (envelope.Get n)) h
delimited_is (envelope.GetReply n found) h = and_parts (envelope_in_range (envelope.GetReply n found)) (envelope_is_spelled (envelope.GetReply n found)) h
delimited_is (envelope.Update n place moves) h = and_parts (envelope_in_range (envelope.Update n place moves)) (envelope_is_spelled (envelope.Update n place moves)) h

no_move : (e : Envelope) (p : List ℕ) (r : Reading Envelope) → is_delimited e ≡ true → r ≡ Ok (e, []) → r ≡ Ok (envelope.Move p, []) → ⊥
no_move e p r good a b =
    let same = read_is (e, []) (envelope.Move p, []) (sym a ∙ b) in
    let is : e ≡ envelope.Move p = ap (λ (x : Envelope × List ℕ). x.0) same in
    true≢false (sym good ∙ ap is_delimited is)

longer_is_bad : (e : Envelope) (b : ℕ) (rest : List ℕ) → is_delimited e ≡ true
    → decoded_envelope (envelope_spelling e ++ b ∷ rest) ≡ Err (fault.Bad (length (envelope_spelling e)))
longer_is_bad e b rest good =
    let is = delimited_is e good in
    let bytes : List ℕ = envelope_spelling e in
    let more : List ℕ = b ∷ rest in
    let again : envelope_at bytes ≡ Ok (e, []) = envelope_again e is.0 is.1 in
    elim (envelope_follows more bytes).way [
      | inl h ↦
          let long : envelope_at (bytes ++ more) ≡ Ok (e, more) = subst (λ (z : Reading Envelope). Keeps more z (envelope_at (bytes ++ more))) again h.fact in
          let place : length (bytes ++ more) - length more ≡ length bytes = omega (arith, length-append bytes more) in
          answer_is (bytes ++ more) ∙ ap (answer (bytes ++ more)) long ∙ ap (λ n. Err (fault.Bad n)) place
      | inr m ↦ absurd (no_move e m.0 (envelope_at bytes) good again m.2)
    ]

cut_at : (bytes more : List ℕ) (e : Envelope) (r s : Reading Envelope) → 0 < length more → Keeps more r s → s ≡ Ok (e, []) → answer bytes r ≡ Err fault.Cut
cut_at bytes more e (Ok x) s some h is =
    let same = read_is (x.0, x.1 ++ more) (e, []) (sym h ∙ is) in
    let left : x.1 ++ more ≡ [] = ap (λ (y : Envelope × List ℕ). y.1) same in
    absurd (omega (arith, length-append x.1 more, ap length left))
cut_at bytes more e (Err Cut) s some h is = refl
cut_at bytes more e (Err (Bad left)) s some h is = absurd cc
cut_at bytes more e (Err Memory) s some h is = absurd cc

shorter_is_cut : (e : Envelope) (size : ℕ) → is_delimited e ≡ true → size < length (envelope_spelling e)
    → decoded_envelope (take size (envelope_spelling e)) ≡ Err fault.Cut
shorter_is_cut e size good low =
    let is = delimited_is e good in
    let bytes : List ℕ = take size (envelope_spelling e) in
    let more : List ℕ = drop size (envelope_spelling e) in
    let whole : bytes ++ more ≡ envelope_spelling e = take-append-drop size (envelope_spelling e) in
    let again : envelope_at (bytes ++ more) ≡ Ok (e, []) = ap envelope_at whole ∙ envelope_again e is.0 is.1 in
    let some : 0 < length more = omega (arith, length-drop size (envelope_spelling e)) in
    elim (envelope_follows more bytes).way [
      | inl h ↦ answer_is bytes ∙ cut_at bytes more e (envelope_at bytes) (envelope_at (bytes ++ more)) some h.fact again
      | inr m ↦ absurd (no_move e m.1 (envelope_at (bytes ++ more)) good again m.3)
    ]

pub delimited : EnvelopesAreDelimited
delimited = record {
  longer = longer_is_bad;
  shorter = shorter_is_cut;
  wrong = stays;
}
