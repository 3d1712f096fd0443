-- A link that takes an envelope.
use Rattle.std.proofs.Common.{◌≡◌, ℕ, zero, suc, ◌+◌, ◌≤◌, true, List, ◌++◌, length, drop, refl, ap, ◌∙◌, arith, length-append}
use Rattle.std.proofs.lemmas.Bool.{leb-true}
use Rattle.sal_carriage.specs.declared.fragment.Fragment.{Fragment}
use Rattle.sal_carriage.specs.Link.{Link, number_limit, fragment_count, cut_in, fragments, offer_count, has_room, offer}

cut_length : (n : ℕ) (bytes : List ℕ) → length (cut_in n bytes) ≡ n
unfolding cut_in
cut_length zero bytes = refl
cut_length (suc n) bytes = ap suc (cut_length n (drop 1024 bytes))

pub fragments_length : (envelope : List ℕ) → length (fragments envelope) ≡ fragment_count envelope
unfolding fragments
fragments_length envelope = cut_length (fragment_count envelope) envelope

pub room_kept : (l : Link) (envelope : List ℕ) (fs new : List Fragment) → has_room envelope l ≡ true → fs ≡ fragments envelope → new ≡ l.unacknowledged ++ fs → l.acknowledged + length new ≤ number_limit
room_kept l envelope fs new room e f =
    let fits = leb-true (offer_count l + fragment_count envelope) number_limit room in
    omega (arith, fits, ap length f, length-append l.unacknowledged fs, ap length e, fragments_length envelope)

pub link_offers : (l : Link) (envelope : List ℕ) (fs new : List Fragment) → fs ≡ fragments envelope → new ≡ l.unacknowledged ++ fs → record l { unacknowledged = new } ≡ offer envelope l
unfolding offer
link_offers l envelope fs new e f = ap (λ (gs : List Fragment). record l { unacknowledged = gs }) (f ∙ ap (λ (gs : List Fragment). l.unacknowledged ++ gs) e)
