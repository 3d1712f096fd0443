-- The bytes of envelopes that may be sent, and of actors that may move.
use Rattle.std.proofs.Common.{◌≡◌, ℕ, suc, Bool, true, false, ◌&&◌, List, ◌∷◌, length, Some, None, refl, sym, ap, ◌∙◌, arith}
use Rattle.std.specs.Prelude.{nat_le, if◌then◌else◌, IfSome}
use Rattle.std.proofs.lemmas.Bool.{and_parts, and_from}
use Rattle.std.proofs.lemmas.Bool.Decides.{nat_tests}
use Rattle.sal_mail.specs.declared.envelope.Envelope.{Envelope}
use Rattle.sal_mail.specs.declared.envelope.Envelope.TheVariants as envelope
use Rattle.sal_envelope.specs.Spelling.{envelope_spelling, envelope_is_spelled}
use Rattle.sal_node.specs.Offers.{IsParcel}
use Rattle.sal_resident.specs.declared.resident.Resident.{Resident}
use Rattle.sal_resident.specs.Packing.{packed_actor, is_light, is_packable}
use Rattle.sal_spelled.specs.Sending.{is_parcel, if_parcel, may_be_sent, bytes_to_send, may_move, bytes_to_move}

-- ---- envelopes

pub sent_some : (e : Envelope) → envelope_is_spelled e ≡ true → if_parcel (envelope_spelling e) ≡ bytes_to_send e
unfolding bytes_to_send may_be_sent
sent_some e h = sym (ap (λ b. if b && is_parcel (envelope_spelling e) then Some (envelope_spelling e) else None) h)

pub sent_none : (e : Envelope) → envelope_is_spelled e ≡ false → None ≡ bytes_to_send e
unfolding bytes_to_send may_be_sent
sent_none e h = sym (ap (λ b. if b && is_parcel (envelope_spelling e) then Some (envelope_spelling e) else None) h)

pub parcel_is : (bytes : List ℕ) → is_parcel bytes ≡ true → IsParcel bytes
parcel_is bytes h =
    let parts = and_parts (nat_le 1 (length bytes)) (nat_le (length bytes) 16777216) h in
    let low : nat_le 1 (length bytes) ≡ true = parts.0 in
    let high : nat_le (length bytes) 16777216 ≡ true = parts.1 in
    record { least = grind (arith, nat_tests); most = grind (arith, nat_tests) }

pub sent_parcel : (bytes : List ℕ) → IfSome (if_parcel bytes) IsParcel
sent_parcel bytes = at (is_parcel bytes) refl
  where
    at : (b : Bool) → is_parcel bytes ≡ b → IfSome (if b then Some bytes else None) IsParcel
    at true h = parcel_is bytes h
    at false h = tt

pub sent_is_parcel : (e : Envelope) → may_be_sent e ≡ true → IsParcel (envelope_spelling e)
unfolding may_be_sent
sent_is_parcel e h = parcel_is (envelope_spelling e) (and_parts (envelope_is_spelled e) (is_parcel (envelope_spelling e)) h).1

-- ---- actors

pub moved_some : (r : Resident) (bytes : List ℕ) → is_packable r ≡ true → bytes ≡ packed_actor r → is_light r ≡ true → Some bytes ≡ bytes_to_move r
unfolding bytes_to_move may_move
moved_some r bytes good is light =
    ap (λ (k : List ℕ). Some k) is
    ∙ sym (ap (λ b. if b && is_light r then Some (packed_actor r) else None) good ∙ ap (λ b. if b then Some (packed_actor r) else None) light)

pub moved_heavy : (r : Resident) → is_packable r ≡ true → is_light r ≡ false → None ≡ bytes_to_move r
unfolding bytes_to_move may_move
moved_heavy r good light =
    sym (ap (λ b. if b && is_light r then Some (packed_actor r) else None) good ∙ ap (λ b. if b then Some (packed_actor r) else None) light)

pub moved_none : (r : Resident) → is_packable r ≡ false → None ≡ bytes_to_move r
unfolding bytes_to_move may_move
moved_none r h = sym (ap (λ b. if b && is_light r then Some (packed_actor r) else None) h)

pub light_is_sent : (r : Resident) → is_light r ≡ true → may_be_sent (envelope.Move (packed_actor r)) ≡ true
unfolding may_be_sent envelope_is_spelled envelope_spelling
light_is_sent r h = at (packed_actor r) h
  where
    at : (bytes : List ℕ) → nat_le (length bytes) 16777215 ≡ true → true && is_parcel (4 ∷ bytes) ≡ true
    at bytes light =
        let low : nat_le 1 (suc (length bytes)) ≡ true = grind (arith, nat_tests) in
        let high : nat_le (suc (length bytes)) 16777216 ≡ true = grind (arith, nat_tests) in
        and_from (nat_le 1 (suc (length bytes))) (nat_le (suc (length bytes)) 16777216) low high
