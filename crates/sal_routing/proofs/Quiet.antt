-- Datagrams that carry nothing that is wanted.
use Rattle.std.proofs.Common.{◌≡◌, false, refl, ap, true≢false}
use Rattle.sal_carriage.specs.declared.datagram.Taken.{Taken}
use Rattle.sal_carriage.specs.declared.datagram.Taken.TheVariants as taken
use Rattle.sal_carriage.specs.Link.{is_taken}
use Rattle.sal_handler.specs.Calls.{Meaning}
use Rattle.sal_node.specs.Links.{Taking, take_datagram, offer_all}
use Rattle.sal_routing.specs.State.{Theatre, Desk, desk, silence}
use Rattle.sal_routing.specs.Handling.{finished}
use Rattle.sal_routing.specs.Turns.{receive_taken, datagram_by, datagram}
use Rattle.sal_routing.specs.Laws.{UnwantedDatagramsChangeLittle}

-- what isn't taken brings nothing to the desk
pub unwanted_brings_nothing : (p : Meaning) (k : Taken) (d : Desk) → is_taken k ≡ false → receive_taken p k d ≡ d
unwanted_brings_nothing p (taken.Envelope bytes) d e = absurd (true≢false e)
unwanted_brings_nothing p taken.Part d e = absurd (true≢false e)
unwanted_brings_nothing p taken.Old d e = refl
unwanted_brings_nothing p taken.Ahead d e = refl
unwanted_brings_nothing p taken.Acknowledged d e = refl
unwanted_brings_nothing p taken.Noise d e = refl

by : (p : Meaning) (x : Taking) (t : Theatre) → is_taken x.taken ≡ false
    → ((datagram_by p x t).theatre ≡ record t { links = x.links }) × ((datagram_by p x t).told ≡ silence)
unfolding finished offer_all
by p x t e =
    let d : Desk = desk (record t { links = x.links }) in
    let same : receive_taken p x.taken d ≡ d = unwanted_brings_nothing p x.taken d e in
    (ap (λ (y : Desk). (finished t x.changed y).theatre) same, ap (λ (y : Desk). (finished t x.changed y).told) same)

pub change_little : UnwantedDatagramsChangeLittle
unfolding datagram
change_little p bytes t e = by p (take_datagram bytes t.links) t e
