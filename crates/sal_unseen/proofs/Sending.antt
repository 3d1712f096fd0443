-- What is sent is read as what it was.
use Rattle.std.proofs.Common.{◌≡◌, ℕ, ◌+◌, Bool, true, false, ◌&&◌, [], ◌∷◌, ◌++◌, refl, sym, ap, ◌∙◌, arith}
use Rattle.std.specs.Prelude.{if◌then◌else◌, ◌%◌, ◌/◌}
use Rattle.std.proofs.lemmas.Bool.{lt-ltb}
use Rattle.sal_mail.specs.declared.envelope.Envelope.{Envelope}
use Rattle.sal_mail.specs.declared.envelope.Envelope.TheVariants as envelope
use Rattle.sal_envelope.specs.Spelling.{bytes_32, bytes_64, reply_spelling, call_spelling, uan_spelling, locator_spelling, envelope_spelling, envelope_is_spelled}
use Rattle.sal_value.specs.Spelling.{spelling}
use Rattle.sal_envelope.specs.Decoding.{decoded_envelope}
use Rattle.sal_envelope.specs.Coding.{is_u32, is_u64, envelope_in_range}
use Rattle.sal_envelope.proofs.EnvelopesAgain.{spelled_decoded}
use Rattle.sal_source.specs.Table.{total}
use Rattle.sal_source.proofs.Same.{total-append}
use Rattle.sal_source.proofs.Keeping.{split}
use Rattle.sal_spelled.specs.Sending.{is_parcel, may_be_sent}
use Rattle.sal_pieces.specs.Pieces.{Piece}
use Rattle.sal_routing.specs.State.{Desk, parcel_to, send}
use Rattle.sal_world.specs.Pieces.{envelope_pieces}
use Rattle.sal_unseen.specs.Desks.{decoded_pieces, desk_pieces, IsSentWhole, pieces_in_range, EnvelopesAreSentWhole, SendingAddsPieces}
use Rattle.sal_unseen.proofs.Sums.{of_desk, of_parcel, desk_total}

-- ---- numbers of which no piece tells

wrapped_32 : (n : ℕ) → bytes_32 n ≡ bytes_32 (n % 4294967296)
unfolding bytes_32
wrapped_32 n =
    let a : n / 16777216 % 256 ≡ n % 4294967296 / 16777216 % 256 = omega arith in
    let b : n / 65536 % 256 ≡ n % 4294967296 / 65536 % 256 = omega arith in
    let c : n / 256 % 256 ≡ n % 4294967296 / 256 % 256 = omega arith in
    let d : n % 256 ≡ n % 4294967296 % 256 = omega arith in
    λ i. a i ∷ b i ∷ c i ∷ d i ∷ []

wrapped_64 : (n : ℕ) → bytes_64 n ≡ bytes_64 (n % 18446744073709551616)
unfolding bytes_64
wrapped_64 n =
    let a : n / 72057594037927936 % 256 ≡ n % 18446744073709551616 / 72057594037927936 % 256 = omega arith in
    let b : n / 281474976710656 % 256 ≡ n % 18446744073709551616 / 281474976710656 % 256 = omega arith in
    let c : n / 1099511627776 % 256 ≡ n % 18446744073709551616 / 1099511627776 % 256 = omega arith in
    let d : n / 4294967296 % 256 ≡ n % 18446744073709551616 / 4294967296 % 256 = omega arith in
    let e : n / 16777216 % 256 ≡ n % 18446744073709551616 / 16777216 % 256 = omega arith in
    let f : n / 65536 % 256 ≡ n % 18446744073709551616 / 65536 % 256 = omega arith in
    let g : n / 256 % 256 ≡ n % 18446744073709551616 / 256 % 256 = omega arith in
    let h : n % 256 ≡ n % 18446744073709551616 % 256 = omega arith in
    λ i. a i ∷ b i ∷ c i ∷ d i ∷ e i ∷ f i ∷ g i ∷ h i ∷ []

-- the envelope with such numbers in range
in_counts : Envelope → Envelope
in_counts (envelope.Call hops m) = envelope.Call (hops % 4294967296) m
in_counts (envelope.Reply hops r v) = envelope.Reply (hops % 4294967296) r v
in_counts (envelope.Create a) = envelope.Create a
in_counts (envelope.Move packed) = envelope.Move packed
in_counts (envelope.Put maker serial n place) = envelope.Put maker serial n place
in_counts (envelope.PutReply maker serial bound) = envelope.PutReply maker serial bound
in_counts (envelope.Get n) = envelope.Get n
in_counts (envelope.GetReply n found) = envelope.GetReply n found
in_counts (envelope.Update n place moves) = envelope.Update n place (moves % 18446744073709551616)

same_bytes : (e : Envelope) → envelope_spelling e ≡ envelope_spelling (in_counts e)
unfolding envelope_spelling in_counts
same_bytes (envelope.Call hops m) = ap (λ h. 1 ∷ (h ++ call_spelling m)) (wrapped_32 hops)
same_bytes (envelope.Reply hops r v) = ap (λ h. 2 ∷ (h ++ (reply_spelling r ++ spelling v))) (wrapped_32 hops)
same_bytes (envelope.Create a) = refl
same_bytes (envelope.Move packed) = refl
same_bytes (envelope.Put maker serial n place) = refl
same_bytes (envelope.PutReply maker serial bound) = refl
same_bytes (envelope.Get n) = refl
same_bytes (envelope.GetReply n found) = refl
same_bytes (envelope.Update n place moves) = ap (λ k. 9 ∷ (uan_spelling n ++ (locator_spelling place ++ k))) (wrapped_64 moves)

same_pieces : (e : Envelope) → envelope_pieces (in_counts e) ≡ envelope_pieces e
unfolding envelope_pieces in_counts
same_pieces (envelope.Call hops m) = refl
same_pieces (envelope.Reply hops r v) = refl
same_pieces (envelope.Create a) = refl
same_pieces (envelope.Move packed) = refl
same_pieces (envelope.Put maker serial n place) = refl
same_pieces (envelope.PutReply maker serial bound) = refl
same_pieces (envelope.Get n) = refl
same_pieces (envelope.GetReply n found) = refl
same_pieces (envelope.Update n place moves) = refl

still_spelled : (e : Envelope) → envelope_is_spelled e ≡ true → envelope_is_spelled (in_counts e) ≡ true
unfolding envelope_is_spelled in_counts
still_spelled (envelope.Call hops m) h = h
still_spelled (envelope.Reply hops r v) h = h
still_spelled (envelope.Create a) h = h
still_spelled (envelope.Move packed) h = h
still_spelled (envelope.Put maker serial n place) h = h
still_spelled (envelope.PutReply maker serial bound) h = h
still_spelled (envelope.Get n) h = h
still_spelled (envelope.GetReply n found) h = h
still_spelled (envelope.Update n place moves) h = h

low_32 : (n : ℕ) → is_u32 (n % 4294967296) ≡ true
low_32 n = lt-ltb (n % 4294967296) 4294967296 (omega arith)

low_64 : (n : ℕ) → is_u64 (n % 18446744073709551616) ≡ true
low_64 n = lt-ltb (n % 18446744073709551616) 18446744073709551616 (omega arith)

now_in_range : (e : Envelope) → pieces_in_range e ≡ true → envelope_in_range (in_counts e) ≡ true
unfolding in_counts
now_in_range (envelope.Call hops m) h = λ i. low_32 hops i && h i
now_in_range (envelope.Reply hops r v) h = λ i. low_32 hops i && h i
now_in_range (envelope.Create a) h = h
now_in_range (envelope.Move packed) h = h
now_in_range (envelope.Put maker serial n place) h = h
now_in_range (envelope.PutReply maker serial bound) h = h
now_in_range (envelope.Get n) h = h
now_in_range (envelope.GetReply n found) h = h
now_in_range (envelope.Update n place moves) h = low_64 moves

-- ---- the laws

pub sent_whole : EnvelopesAreSentWhole
unfolding may_be_sent
sent_whole e may range = record {
  sent = may;
  read =
      ap (λ bytes. decoded_pieces (decoded_envelope bytes)) (same_bytes e)
      ∙ ap decoded_pieces (spelled_decoded (in_counts e) (now_in_range e range) (still_spelled e (split (envelope_is_spelled e) (is_parcel (envelope_spelling e)) may).0))
      ∙ same_pieces e;
}

module _ (f : Piece → ℕ) where
  -- whatever the envelope's pieces are, they are added where it is sent
  pub one_sent : (node : ℕ) (e : Envelope) (d : Desk) → IsSentWhole e → of_desk f (send node e d) ≡ total f (envelope_pieces e) + of_desk f d
  unfolding send
  one_sent node e d whole =
      let added = total-append (of_parcel f) d.sent (parcel_to node e ∷ []) in
      let read : of_parcel f (parcel_to node e) ≡ total f (envelope_pieces e) = ap (total f) whole.read in
      ap (λ (b : Bool). of_desk f (if b then record d { sent = d.sent ++ parcel_to node e ∷ [] } else d)) whole.sent ∙ omega (arith, added, read)

  -- an envelope of which no piece tells, sent or not
  pub none_sent : (node : ℕ) (e : Envelope) (d : Desk) → pieces_in_range e ≡ true → envelope_pieces e ≡ [] → of_desk f (send node e d) ≡ of_desk f d
  unfolding send
  none_sent node e d range none = at (may_be_sent e) refl
    where
      at : (b : Bool) → may_be_sent e ≡ b → of_desk f (if b then record d { sent = d.sent ++ parcel_to node e ∷ [] } else d) ≡ of_desk f d
      at false h = refl
      at true h =
          let added = total-append (of_parcel f) d.sent (parcel_to node e ∷ []) in
          let read : of_parcel f (parcel_to node e) ≡ 0 = ap (total f) ((sent_whole e h range).read ∙ none) in
          omega (arith, added, read)

pub adds_pieces : SendingAddsPieces
adds_pieces node e d whole = record {
  weighs = λ f. desk_total f (send node e d) ∙ one_sent f node e d whole ∙ ap (λ n. total f (envelope_pieces e) + n) (sym (desk_total f d)) ∙ sym (total-append f (envelope_pieces e) (desk_pieces d));
}
