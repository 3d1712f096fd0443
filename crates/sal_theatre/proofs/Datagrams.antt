-- Datagrams that complete an envelope, and those that don't.
use Rattle.std.proofs.Common.{◌≡◌, ℕ, true, false, List, refl, sym, ap, ◌∙◌, true≢false}
use Rattle.sal_handler.specs.Calls.{Meaning}
use Rattle.sal_envelope.specs.Decoding.{decoded_envelope}
use Rattle.sal_carriage.specs.declared.arrival.Arrival.{Arrival}
use Rattle.sal_carriage.specs.declared.datagram.Taken.{Taken}
use Rattle.sal_carriage.specs.declared.datagram.Taken.TheVariants as taken
use Rattle.sal_carriage.specs.Halves.{is_envelope}
use Rattle.sal_node.specs.Links.{Taking, sender_of, take_datagram, offer_all}
use Rattle.sal_node.specs.Halves.{Completes, complete_from}
use Rattle.sal_routing.specs.State.{Theatre, Desk, desk}
use Rattle.sal_routing.specs.Handling.{finished}
use Rattle.sal_routing.specs.Turns.{receive_decoded, receive_taken, datagram_by, datagram}
use Rattle.sal_theatre.specs.code.Turning.{framed}

brings_nothing : (p : Meaning) (k : Taken) (d : Desk) → is_envelope k ≡ false → receive_taken p k d ≡ d
brings_nothing p (taken.Envelope bytes) d e = absurd (true≢false e)
brings_nothing p taken.Part d e = refl
brings_nothing p taken.Old d e = refl
brings_nothing p taken.Ahead d e = refl
brings_nothing p taken.Acknowledged d e = refl
brings_nothing p taken.Noise d e = refl

pub framed_datagram : (p : Meaning) (bytes : List ℕ) (t : Theatre) → is_envelope (take_datagram bytes t.links).taken ≡ false → framed bytes t ≡ datagram p bytes t
unfolding datagram finished offer_all
framed_datagram p bytes t e =
    let x : Taking = take_datagram bytes t.links in
    ap (finished t x.changed) (sym (brings_nothing p x.taken (desk (record t { links = x.links })) e))

pub received : (p : Meaning) (bytes : List ℕ) (t : Theatre) (a : Arrival) (d : Desk) → Completes bytes t.links a
    → d ≡ receive_decoded p (decoded_envelope a.envelope) (desk (record t { links = complete_from (sender_of bytes) a.acknowledges t.links }))
    → finished t true d ≡ datagram p bytes t
unfolding datagram
received p bytes t a d completes is = ap (finished t true) is ∙ sym (ap (λ x. datagram_by p x t) completes.taking)
