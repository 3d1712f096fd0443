-- What turns and the network do to the letters.
use Rattle.std.specs.Prelude.{◌≡◌, ℕ, ◌≤◌, true, if◌then◌else◌, nat_eq, List, [], ◌∷◌, ◌++◌, length, flat_map, filter, filter_map, slice_get, Some}
use Rattle.sal_source.specs.Table.{HasSameItems}
use Rattle.sal_mail.specs.declared.plan.Plan.{Plan}
use Rattle.sal_envelope.specs.Decoding.{decoded_envelope}
use Rattle.sal_carriage.specs.declared.datagram.Datagram.{Datagram}
use Rattle.sal_carriage.specs.declared.datagram.Taken.{Taken}
use Rattle.sal_carriage.specs.Link.{Link}
use Rattle.sal_carriage.specs.Laws.{envelope_of}
use Rattle.sal_node.specs.declared.parcel.Parcel.{Parcel}
use Rattle.sal_node.specs.Links.{node_numbers, offer_all, due_on, push_all, sender_of, take_datagram}
use Rattle.sal_world.specs.World.{Letter, letter_by, letters_to, link_to}
use Rattle.sal_transit.specs.Standing.{Ends, are_peers, NetStands}

-- ---- letters

-- the letters between all nodes of a plan
abbrev pub letters_on : Plan → Ends → List Letter
letters_on plan ends = flat_map (λ a. flat_map (λ b. letters_to b (link_to b (ends a)) (link_to a (ends b))) (node_numbers plan)) (node_numbers plan)

-- the letters that these bytes for a node make
abbrev pub letters_of : ℕ → List (List ℕ) → List Letter
letters_of node envelopes = filter_map (λ bytes. letter_by node (decoded_envelope bytes)) envelopes

-- the links of node n are these
abbrev pub with_links : ℕ → List Link → Ends → Ends
with_links n ls ends = λ m. if nat_eq m n then ls else ends m

-- The links stand, and these are the letters, in some order.
pub record StandsWith (plan : Plan) (ds : List Datagram) (ends : Ends) (ls : List Letter) : Type 0 where
  pub stands : NetStands plan ds ends
  pub letters : HasSameItems (letters_on plan ends) ls

-- ---- offers

-- a parcel that node n may offer: to a peer, and not empty
pub record IsOfferedBy (n : ℕ) (plan : Plan) (p : Parcel) : Type 0 where
  pub peer : are_peers n p.to plan ≡ true
  pub some : 1 ≤ length p.bytes

abbrev pub AreOfferedBy : ℕ → Plan → List Parcel → Type 0
AreOfferedBy n plan [] = Unit {0}
AreOfferedBy n plan (p ∷ ps) = IsOfferedBy n plan p × AreOfferedBy n plan ps

abbrev pub letters_of_parcels : List Parcel → List Letter
letters_of_parcels ps = filter_map (λ p. letter_by p.to (decoded_envelope p.bytes)) ps

-- What a turn sent are letters once it is offered.
abbrev pub OffersBecomeLetters : Type 0
OffersBecomeLetters =
    (plan : Plan) (ds : List Datagram) (ends : Ends) (n : ℕ) (ps : List Parcel) (links : List Link) → NetStands plan ds ends → AreOfferedBy n plan ps
    → offer_all ps (ends n) ≡ Some links
    → StandsWith plan ds (with_links n links ends) (letters_of_parcels ps ++ letters_on plan ends)

-- the letters from one node to another, oldest first
abbrev pub letters_from : Ends → ℕ → ℕ → List Letter
letters_from ends a b = letters_to b (link_to b (ends a)) (link_to a (ends b))

-- To each peer they come last, in their order.
abbrev pub OffersKeepOrder : Type 0
OffersKeepOrder =
    (plan : Plan) (ds : List Datagram) (ends : Ends) (n b : ℕ) (ps : List Parcel) (links : List Link) → NetStands plan ds ends → AreOfferedBy n plan ps
    → are_peers n b plan ≡ true → offer_all ps (ends n) ≡ Some links
    → letters_from (with_links n links ends) n b ≡ letters_from ends n b ++ letters_of_parcels (filter (λ p. nat_eq p.to b) ps)

-- ---- pushes

-- What is sent on its links changes no letter.
abbrev pub PushesKeepLetters : Type 0
PushesKeepLetters =
    (plan : Plan) (ds : List Datagram) (ends : Ends) (n now : ℕ) → NetStands plan ds ends
    → StandsWith plan (ds ++ due_on now (ends n)) (with_links n (push_all now (ends n)) ends) (letters_on plan ends)

-- ---- deliveries

-- Whichever datagram that was sent to a node is given to it, and however often: the envelope that it takes, if it takes one, was the
-- first one from its sender, and is a letter no more.
pub record Delivers (plan : Plan) (ds : List Datagram) (ends : Ends) (n : ℕ) (bytes : List ℕ) (taken : Taken) (links : List Link) : Type 0 where
  pub stands : NetStands plan ds (with_links n links ends)
  pub letters : HasSameItems (letters_on plan ends) (letters_of n (envelope_of taken) ++ letters_on plan (with_links n links ends))
  pub first :
      letters_to n (link_to n (ends (sender_of bytes))) (link_to (sender_of bytes) (ends n))
      ≡ letters_of n (envelope_of taken) ++ letters_to n (link_to n (ends (sender_of bytes))) (link_to (sender_of bytes) links)

abbrev pub DeliveriesTakeLetters : Type 0
DeliveriesTakeLetters =
    (plan : Plan) (ds : List Datagram) (ends : Ends) (i : ℕ) (d : Datagram) → NetStands plan ds ends → slice_get ds i ≡ Some d
    → Delivers plan ds ends d.to d.bytes (take_datagram d.bytes (ends d.to)).taken (take_datagram d.bytes (ends d.to)).links
