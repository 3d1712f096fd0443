-- Envelopes that are read are spelled by their bytes.
use Rattle.std.proofs.Common.{◌≡◌, ℕ, ◌==◌, Bool, true, false, List, [], ◌∷◌, ◌++◌, map, Ok, Err, refl, sym, ap, subst, ◌∙◌, append-nil, lit<}
use Rattle.std.specs.Prelude.{if◌then◌else◌}
use Rattle.std.specs.List.{list_all}
use Rattle.sal_value.specs.declared.name.Name.{Name}
use Rattle.sal_value.specs.declared.name.Name.TheVariants as name
use Rattle.sal_value.specs.declared.value.Value.{Value}
use Rattle.sal_value.specs.Spelling.{name_spelling, name_is_spelled, spelling}
use Rattle.sal_value.specs.Coding.{IsBytes}
use Rattle.sal_value.proofs.Takes.{Takes, takes_then, takes_tag}
use Rattle.sal_mail.specs.declared.message.Piece.TheVariants.{Known}
use Rattle.sal_mail.specs.declared.message.Reply.{Reply}
use Rattle.sal_mail.specs.declared.envelope.Envelope.{Envelope}
use Rattle.sal_mail.specs.declared.envelope.Envelope.TheVariants as envelope
use Rattle.sal_mail.specs.Message.{is_known, is_ready, known_values}
use Rattle.sal_envelope.specs.Spelling.{bytes_16, bytes_32, bytes_64, uan_spelling, locator_spelling, values_spelling, values_are_spelled, made_spelling, reply_spelling, reply_is_spelled, callee_spelling, callee_is_spelled, handler_spelling, call_spelling, call_is_spelled, found_spelling, actor_spelling, actor_is_spelled, envelope_spelling, envelope_is_spelled}
use Rattle.sal_envelope.specs.Decoding.{Reading, call_of, call_at, call_envelope_at, reply_envelope_at, create_at, move_at, put_at, put_reply_at, get_at, get_reply_at, update_at, envelope_at, if_none_left, whole_at, with_offset, decoded_envelope}
use Rattle.sal_envelope.specs.Coding.{DecodedEnvelopesAreSpelled}
use Rattle.sal_envelope.proofs.Found.{Holds, then_holds, done_holds, wrong_holds, if_holds, at_tag, and_true, byte_found, found_16, found_32, bool_found, name_found, value_found, uan_found, locator_found, values_found, made_found, inner_found, reply_found, handler_found, moved_found, found_found}

-- ---- calls

known_again : (vs : List Value) → known_values (map Known vs) ≡ vs
known_again [] = refl
known_again (v ∷ vs) = ap (λ ws. v ∷ ws) (known_again vs)

are_known : (vs : List Value) → list_all is_known (map Known vs) ≡ true
are_known [] = refl
are_known (v ∷ vs) = are_known vs

call_is_good : (m : Name × ℕ) (n : Name) (h : ℕ × ℕ) (vs : List Value) (r : Reply) → name_is_spelled m.0 ≡ true → name_is_spelled n ≡ true → values_are_spelled 16 vs ≡ true → reply_is_spelled r ≡ true
    → call_is_spelled (call_of m n h vs r) ≡ true
unfolding call_is_spelled callee_is_spelled
call_is_good m n h vs r maker callee values reply =
    let ready : is_ready (call_of m n h vs r) ≡ true = and_true _ _ (are_known vs) refl in
    let few : values_are_spelled 16 (known_values (map Known vs)) ≡ true = ap (values_are_spelled 16) (known_again vs) ∙ values in
    and_true _ _ maker (and_true _ _ callee (and_true _ _ ready (and_true _ _ refl (and_true _ _ few reply))))

pub call_found : (bytes : List ℕ) → IsBytes bytes → Holds (call_at bytes) (λ m rest. Takes bytes (call_spelling m) rest × (call_is_spelled m ≡ true))
unfolding call_at call_spelling callee_spelling
call_found bytes small =
    then_holds _ _ (made_found bytes small) (λ m r1 p.
    then_holds _ _ (name_found r1 p.0.rest_fits) (λ n r2 q.
    then_holds _ _ (handler_found r2 q.0.rest_fits) (λ h r3 s.
    then_holds _ _ (values_found 16 r3 s.rest_fits) (λ vs r4 t.
    then_holds _ _ (reply_found r4 t.0.rest_fits) (λ r rest u.
    let made : List ℕ = made_spelling m.0 m.1 in
    let callee : List ℕ = name_spelling n in
    let code : List ℕ = handler_spelling h.0 h.1 in
    let reply : List ℕ = reply_spelling r in
    let whole = takes_then bytes made r1 (callee ++ (code ++ (values_spelling vs ++ reply))) rest p.0
    (takes_then r1 callee r2 (code ++ (values_spelling vs ++ reply)) rest q.0
    (takes_then r2 code r3 (values_spelling vs ++ reply) rest s (takes_then r3 (values_spelling vs) r4 reply rest t.0 u.0))) in
    done_holds (call_of m n h vs r) rest _ (
      subst (λ ws. Takes bytes (made ++ (callee ++ (code ++ (values_spelling ws ++ reply)))) rest) (sym (known_again vs)) whole,
      call_is_good m n h vs r p.1 q.1 t.1 u.1,
    ))))))

-- ---- envelopes, after their tags

-- what was read of an envelope
abbrev IsEnvelope : List ℕ → Envelope → List ℕ → Type 0
IsEnvelope bytes e rest = Takes bytes (envelope_spelling e) rest × (envelope_is_spelled e ≡ true)

call_envelope_found : (bytes : List ℕ) → IsBytes bytes → Holds (call_envelope_at bytes) (IsEnvelope (1 ∷ bytes))
unfolding call_envelope_at envelope_spelling envelope_is_spelled
call_envelope_found bytes small =
    then_holds _ _ (found_32 bytes small) (λ hops r1 p.
    then_holds _ _ (call_found r1 p.rest_fits) (λ m rest q.
    let body = takes_then bytes (bytes_32 hops) r1 (call_spelling m) rest p q.0 in
    done_holds (envelope.Call hops m) rest _ (takes_tag 1 1 bytes (bytes_32 hops ++ call_spelling m) rest refl body, q.1)))

reply_envelope_found : (bytes : List ℕ) → IsBytes bytes → Holds (reply_envelope_at bytes) (IsEnvelope (2 ∷ bytes))
unfolding reply_envelope_at envelope_spelling envelope_is_spelled
reply_envelope_found bytes small =
    then_holds _ _ (found_32 bytes small) (λ hops r1 p.
    then_holds _ _ (inner_found r1 p.rest_fits) (λ r r2 q.
    then_holds _ _ (value_found r2 q.0.rest_fits) (λ v rest s.
    let body = takes_then bytes (bytes_32 hops) r1 (reply_spelling r ++ spelling v) rest p (takes_then r1 (reply_spelling r) r2 (spelling v) rest q.0 s.0) in
    done_holds (envelope.Reply hops r v) rest _ (takes_tag 2 2 bytes (bytes_32 hops ++ (reply_spelling r ++ spelling v)) rest refl body, and_true _ _ q.2 (and_true _ _ q.1 s.1)))))

create_found : (bytes : List ℕ) → IsBytes bytes → Holds (create_at bytes) (IsEnvelope (3 ∷ bytes))
unfolding create_at envelope_spelling envelope_is_spelled actor_spelling actor_is_spelled name_is_spelled
create_found bytes small =
    then_holds _ _ (uan_found bytes small) (λ n r1 p.
    then_holds _ _ (found_16 r1 p.0.rest_fits) (λ behavior r2 q.
    then_holds _ _ (values_found 255 r2 q.rest_fits) (λ fields rest s.
    let body = takes_then bytes (uan_spelling n) r1 (bytes_16 behavior ++ values_spelling fields) rest p.0 (takes_then r1 (bytes_16 behavior) r2 (values_spelling fields) rest q s.0) in
    done_holds (envelope.Create (record { name = name.Uan n; behavior = behavior; fields = fields })) rest _ (
      takes_tag 3 3 bytes (uan_spelling n ++ (bytes_16 behavior ++ values_spelling fields)) rest refl body,
      and_true _ _ p.1 s.1,
    ))))

no_bytes : IsBytes []
no_bytes i = lit< tt

move_found : (bytes : List ℕ) → IsBytes bytes → Holds (move_at bytes) (IsEnvelope (4 ∷ bytes))
unfolding envelope_spelling envelope_is_spelled
move_found bytes small = done_holds (envelope.Move bytes) [] _ (record { parts = ap (λ (z : List ℕ). 4 ∷ z) (sym (append-nil bytes)); rest_fits = no_bytes }, refl)

put_found : (bytes : List ℕ) → IsBytes bytes → Holds (put_at bytes) (IsEnvelope (5 ∷ bytes))
unfolding put_at envelope_spelling envelope_is_spelled
put_found bytes small =
    then_holds _ _ (made_found bytes small) (λ m r1 p.
    then_holds _ _ (uan_found r1 p.0.rest_fits) (λ n r2 q.
    then_holds _ _ (locator_found r2 q.0.rest_fits) (λ place rest s.
    let made : List ℕ = made_spelling m.0 m.1 in
    let body = takes_then bytes made r1 (uan_spelling n ++ locator_spelling place) rest p.0 (takes_then r1 (uan_spelling n) r2 (locator_spelling place) rest q.0 s.0) in
    done_holds (envelope.Put m.0 m.1 n place) rest _ (takes_tag 5 5 bytes (made ++ (uan_spelling n ++ locator_spelling place)) rest refl body, and_true _ _ p.1 (and_true _ _ q.1 s.1)))))

-- the byte says that the name was taken
bound_byte : (taken : Bool) (bytes rest : List ℕ) → Takes bytes ((if taken then 1 else 0) ∷ []) rest → Takes bytes ((if (if taken then false else true) then 0 else 1) ∷ []) rest
bound_byte true bytes rest p = p
bound_byte false bytes rest p = p

put_reply_found : (bytes : List ℕ) → IsBytes bytes → Holds (put_reply_at bytes) (IsEnvelope (6 ∷ bytes))
unfolding put_reply_at envelope_spelling envelope_is_spelled
put_reply_found bytes small =
    then_holds _ _ (made_found bytes small) (λ m r1 p.
    then_holds _ _ (bool_found r1 p.0.rest_fits) (λ taken rest q.
    let bound : Bool = if taken then false else true in
    let made : List ℕ = made_spelling m.0 m.1 in
    let byte : List ℕ = (if bound then 0 else 1) ∷ [] in
    let body = takes_then bytes made r1 byte rest p.0 (bound_byte taken r1 rest q) in
    done_holds (envelope.PutReply m.0 m.1 bound) rest _ (takes_tag 6 6 bytes (made ++ byte) rest refl body, p.1)))

get_found : (bytes : List ℕ) → IsBytes bytes → Holds (get_at bytes) (IsEnvelope (7 ∷ bytes))
unfolding get_at envelope_spelling envelope_is_spelled
get_found bytes small =
    then_holds _ _ (uan_found bytes small) (λ n rest p.
    done_holds (envelope.Get n) rest _ (takes_tag 7 7 bytes (uan_spelling n) rest refl p.0, p.1))

get_reply_found : (bytes : List ℕ) → IsBytes bytes → Holds (get_reply_at bytes) (IsEnvelope (8 ∷ bytes))
unfolding get_reply_at envelope_spelling envelope_is_spelled
get_reply_found bytes small =
    then_holds _ _ (uan_found bytes small) (λ n r1 p.
    then_holds _ _ (found_found r1 p.0.rest_fits) (λ found rest q.
    let body = takes_then bytes (uan_spelling n) r1 (found_spelling found) rest p.0 q.0 in
    done_holds (envelope.GetReply n found) rest _ (takes_tag 8 8 bytes (uan_spelling n ++ found_spelling found) rest refl body, and_true _ _ p.1 q.1)))

update_found : (bytes : List ℕ) → IsBytes bytes → Holds (update_at bytes) (IsEnvelope (9 ∷ bytes))
unfolding update_at envelope_spelling envelope_is_spelled
update_found bytes small =
    then_holds _ _ (uan_found bytes small) (λ n r1 p.
    then_holds _ _ (moved_found r1 p.0.rest_fits) (λ m rest q.
    let place : List ℕ = locator_spelling m.0 ++ bytes_64 m.1 in
    let body = takes_then bytes (uan_spelling n) r1 place rest p.0 q.0 in
    done_holds (envelope.Update n m.0 m.1) rest _ (takes_tag 9 9 bytes (uan_spelling n ++ place) rest refl body, and_true _ _ p.1 q.1)))

envelope_found : (bytes : List ℕ) → IsBytes bytes → Holds (envelope_at bytes) (IsEnvelope bytes)
unfolding envelope_at
envelope_found bytes small =
    then_holds _ _ (byte_found bytes small) (λ tag rest p.
    let is_at = λ (k : ℕ) (r : Reading Envelope) (is : (tag == k) ≡ true) (h : Holds r (IsEnvelope (k ∷ rest))). at_tag bytes rest tag k r IsEnvelope p.parts is h in
    if_holds (tag == 1) _ _ _ (λ is. is_at 1 _ is (call_envelope_found rest p.rest_fits)) (λ n1.
    if_holds (tag == 2) _ _ _ (λ is. is_at 2 _ is (reply_envelope_found rest p.rest_fits)) (λ n2.
    if_holds (tag == 3) _ _ _ (λ is. is_at 3 _ is (create_found rest p.rest_fits)) (λ n3.
    if_holds (tag == 4) _ _ _ (λ is. is_at 4 _ is (move_found rest p.rest_fits)) (λ n4.
    if_holds (tag == 5) _ _ _ (λ is. is_at 5 _ is (put_found rest p.rest_fits)) (λ n5.
    if_holds (tag == 6) _ _ _ (λ is. is_at 6 _ is (put_reply_found rest p.rest_fits)) (λ n6.
    if_holds (tag == 7) _ _ _ (λ is. is_at 7 _ is (get_found rest p.rest_fits)) (λ n7.
    if_holds (tag == 8) _ _ _ (λ is. is_at 8 _ is (get_reply_found rest p.rest_fits)) (λ n8.
    if_holds (tag == 9) _ _ _ (λ is. is_at 9 _ is (update_found rest p.rest_fits)) (λ n9.
    wrong_holds bytes _))))))))))

-- ---- whole

end_holds : (e : Envelope) (rest : List ℕ) (P : Envelope → List ℕ → Type 0) → P e rest → Holds (if_none_left e rest) (λ x left. P x left × (left ≡ []))
end_holds e [] P p = done_holds e [] _ (p, refl)
end_holds e (b ∷ rest) P p = wrong_holds (b ∷ rest) _

whole_found : (bytes : List ℕ) → IsBytes bytes → Holds (whole_at bytes) (λ e rest. IsEnvelope bytes e rest × (rest ≡ []))
unfolding whole_at
whole_found bytes small = then_holds _ _ (envelope_found bytes small) (λ e rest p. end_holds e rest (IsEnvelope bytes) p)

decoded_is : (bytes : List ℕ) (r : Reading Envelope) (e : Envelope) → with_offset bytes r ≡ Ok e → (rest : List ℕ) × (r ≡ Ok (e, rest))
decoded_is bytes (Ok x) e is =
    let same : x.0 ≡ e = cc in
    (x.1, ap (λ y. Ok (y, x.1)) same)
decoded_is bytes (Err f) e is = absurd cc

pub decoded_spelled : DecodedEnvelopesAreSpelled
unfolding decoded_envelope
decoded_spelled bytes e small is =
    let a = decoded_is bytes (whole_at bytes) e is in
    let b = (whole_found bytes small).fact (e, a.0) a.1 in
    (b.0.1, b.0.0.parts ∙ ap (λ (z : List ℕ). envelope_spelling e ++ z) b.1 ∙ append-nil (envelope_spelling e))
