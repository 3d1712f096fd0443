-- The links of a node: one to each other node of its plan, in the order of their numbers.
use Rattle.std.specs.Prelude.{ℕ, zero, suc, ◌+◌, Bool, true, false, ◌&&◌, not, if◌then◌else◌, nat_eq, nat_le, List, [], ◌∷◌, ◌++◌, map, flat_map, length, slice_index, Option, Some, None, option_map, option_and_then}
use Rattle.sal_mail.specs.declared.plan.Plan.{Plan}
use Rattle.sal_carriage.specs.declared.datagram.Datagram.{Datagram}
use Rattle.sal_carriage.specs.declared.datagram.Taken.{Taken}
use Rattle.sal_carriage.specs.declared.datagram.Taken.TheVariants as taken
use Rattle.sal_carriage.specs.Link.{Link, new_link, has_room, offer, due, datagram_of, push, take_bytes, is_idle}
use Rattle.sal_node.specs.declared.constants.TheConstants.{FIRST_SERVICE}
use Rattle.sal_node.specs.declared.parcel.Parcel.{Parcel}

-- ---- the nodes of a plan

-- so many numbers, from this one on
unfoldable pub numbers_from : ℕ → ℕ → List ℕ
numbers_from n zero = []
numbers_from n (suc k) = n ∷ numbers_from (n + 1) k

-- theatres first
abbrev pub node_numbers : Plan → List ℕ
node_numbers plan = numbers_from 0 (length plan.theatres) ++ numbers_from FIRST_SERVICE (length plan.names)

-- as many theatres and naming services as a plan may have
abbrev pub has_few_nodes : Plan → Bool
has_few_nodes plan = nat_le (length plan.theatres) 8 && nat_le (length plan.names) 4

-- a link to each of these nodes but for the node itself
unfoldable pub links_to : List ℕ → ℕ → List ℕ → List Link
links_to program me [] = []
links_to program me (n ∷ ns) = if nat_eq n me then links_to program me ns else new_link program me n ∷ links_to program me ns

unfoldable pub new_links : List ℕ → ℕ → Plan → List Link
new_links program me plan = links_to program me (node_numbers plan)

-- ---- offering

-- An envelope is offered on the first link to the node; to a node without a link nothing is. None where the link is
-- spent.
unfoldable pub offer_to : ℕ → List ℕ → List Link → Option (List Link)
offer_to node bytes [] = Some []
offer_to node bytes (l ∷ ls) =
    if nat_eq l.peer node then (if has_room bytes l then Some (offer bytes l ∷ ls) else None)
    else option_map (λ ms. l ∷ ms) (offer_to node bytes ls)

-- all of them are offered in their order, or none is
unfoldable pub offer_all : List Parcel → List Link → Option (List Link)
offer_all [] links = Some links
offer_all (p ∷ ps) links = option_and_then (offer_all ps) (offer_to p.to p.bytes links)

-- ---- sending

-- what is due on each link, in the order of the peers' numbers
unfoldable pub due_on : ℕ → List Link → List Datagram
due_on now links = flat_map (λ l. map datagram_of (due now l)) links

unfoldable pub push_all : ℕ → List Link → List Link
push_all now links = map (push now) links

-- ---- taking

abbrev pub same_bool : Bool → Bool → Bool
same_bool a b = if a then b else not b

-- Taking changes what is acknowledged, what is wanted, or whether an acknowledgement is due, if anything.
abbrev pub is_same_link : Link → Link → Bool
is_same_link k l = nat_eq k.acknowledged l.acknowledged && (nat_eq k.wanted l.wanted && same_bool k.owes l.owes)

-- What was taken, whether a link changed by it, and the links after it.
pub record Taking : Type 0 where
  pub taken : Taken
  pub changed : Bool
  pub links : List Link

abbrev pub taking_on : Taken × Link → Link → List Link → Taking
taking_on t l ls = record { taken = t.0; changed = not (is_same_link t.1 l); links = t.1 ∷ ls }

-- by the first link to this peer; where there is none, it is noise
unfoldable pub take_from : ℕ → List ℕ → List Link → Taking
take_from peer bytes [] = record { taken = taken.Noise; changed = false; links = [] }
take_from peer bytes (l ∷ ls) =
    if nat_eq l.peer peer then taking_on (take_bytes bytes l) l ls
    else record (take_from peer bytes ls) { links = l ∷ (take_from peer bytes ls).links }

-- byte 8 of a frame tells the node from which it comes
abbrev pub sender_of : List ℕ → ℕ
sender_of bytes = slice_index bytes 8

unfoldable pub take_datagram : List ℕ → List Link → Taking
take_datagram bytes links = take_from (sender_of bytes) bytes links

-- ---- at rest

-- all links are idle
unfoldable pub are_idle : List Link → Bool
are_idle [] = true
are_idle (l ∷ ls) = is_idle l && are_idle ls
