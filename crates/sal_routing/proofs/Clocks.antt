-- Clock turns that find nothing to do.
use Rattle.std.proofs.Common.{◌≡◌, ℕ, Bool, true, false, not, cond, ◌||◌, List, [], ◌∷◌, map, Option, Some, None, refl, sym, ap, ◌∙◌, arith, true≢false}
use Rattle.std.specs.Prelude.{if◌then◌else◌, filter, max, nat_lt, nat_le}
use Rattle.std.proofs.lemmas.Bool.{ltb-false}
use Rattle.sal_mail.specs.declared.message.Message.{Message}
use Rattle.sal_handler.specs.Calls.{Meaning}
use Rattle.sal_carriage.specs.Link.{Link}
use Rattle.sal_node.specs.Links.{offer_all}
use Rattle.sal_routing.specs.State.{Theatre, Desk, desk, silence, moment}
use Rattle.sal_routing.specs.Routing.{call_made, route}
use Rattle.sal_routing.specs.Handling.{offered_or, finished}
use Rattle.sal_routing.specs.Turns.{is_reached, is_not_reached, put_by_moment, by_moment, reached, release_delayed, again_due, ask_all, at_reading, is_none, is_time, clock}
use Rattle.sal_routing.specs.Laws.{IdleClocksChangeNothing}
use Rattle.sal_routing.proofs.Ending.{route_done}

max_low : (a b : ℕ) → nat_lt a b ≡ false → max a b ≡ a
max_low a b e = let low = ltb-false a b e in omega (arith, low)

neither : (a b : Bool) → (a || b) ≡ false → (a ≡ false) × (b ≡ false)
neither true b e = absurd (true≢false e)
neither false b e = (refl, e)

-- ---- lists

emptied : {X : Type 0} (xs : List X) → not (is_none xs) ≡ false → is_none xs ≡ true
emptied [] e = refl
emptied (x ∷ xs) e = absurd (true≢false e)

none_in : {X : Type 0} (xs : List X) → is_none xs ≡ true → xs ≡ []
none_in [] e = refl
none_in (x ∷ xs) e = absurd (true≢false (sym e))

all_kept : {A : Type 0} (p : A → Bool) (xs : List A) → is_none (filter p xs) ≡ true → filter (λ x. not (p x)) xs ≡ xs
all_kept p [] e = refl
all_kept {A} p (x ∷ xs) e = at (p x) e (all_kept p xs)
  where
    at : (b : Bool) → is_none (cond b (x ∷ filter p xs) (filter p xs)) ≡ true → (is_none (filter p xs) ≡ true → filter (λ y. not (p y)) xs ≡ xs)
        → cond (not b) (x ∷ filter (λ y. not (p y)) xs) (filter (λ y. not (p y)) xs) ≡ x ∷ xs
    at true e rest = absurd (true≢false (sym e))
    at false e rest = ap (λ ys. x ∷ ys) (rest e)

put_some : (x : ℕ × Message) (ys : List (ℕ × Message)) → is_none (put_by_moment x ys) ≡ false
put_some x [] = refl
put_some x (y ∷ ys) = at (nat_le x.0 y.0)
  where
    at : (b : Bool) → is_none (if b then x ∷ y ∷ ys else y ∷ put_by_moment x ys) ≡ false
    at true = refl
    at false = refl

none_sorted : (xs : List (ℕ × Message)) → is_none (by_moment xs) ≡ true → is_none xs ≡ true
unfolding by_moment
none_sorted [] e = refl
none_sorted (x ∷ xs) e = absurd (true≢false (sym e ∙ put_some x (by_moment xs)))

-- ---- the turn

none_reached : (t : Theatre) → is_none (reached t) ≡ true → is_none (filter (is_reached t.clock) t.delayed) ≡ true
unfolding reached
none_reached t none = none_sorted (filter (is_reached t.clock) t.delayed) none

releases_none : (t : Theatre) → is_none (reached t) ≡ true → release_delayed (desk t) ≡ desk t
unfolding release_delayed
releases_none t none =
    let due : reached t ≡ [] = none_in (reached t) none in
    let kept : filter (is_not_reached t.clock) t.delayed ≡ t.delayed = all_kept (is_reached t.clock) t.delayed (none_reached t none) in
    λ i. record (desk t) { theatre = record t { delayed = kept i }; work = map (λ x. call_made x.1) (due i) }

asks_none : (t : Theatre) → is_none (again_due t) ≡ true → ask_all (again_due t) (desk t) ≡ desk t
unfolding ask_all
asks_none t none = ap (λ us. ask_all us (desk t)) (none_in (again_due t) none)

-- the desk at the end of the turn
abbrev ticked : Meaning → Theatre → Desk
ticked p t = ask_all (again_due t) (route p (release_delayed (desk t)))

-- whether something is due at the theatre's own moment
abbrev is_due : Theatre → Bool
is_due t = not (is_none (reached t)) || not (is_none (again_due t))

nothing_due : (p : Meaning) (t : Theatre) → is_due t ≡ false → ticked p t ≡ desk t
nothing_due p t e =
    let b = neither (not (is_none (reached t))) (not (is_none (again_due t))) e in
    ap (λ (d : Desk). ask_all (again_due t) (route p d)) (releases_none t (emptied (reached t) b.0))
    ∙ (ap (ask_all (again_due t)) (route_done p (desk t) refl) ∙ asks_none t (emptied (again_due t) b.1))

no_time : (p : Meaning) (ms : ℕ) (t : Theatre) → is_time ms t ≡ false → ticked p (at_reading ms t) ≡ desk t
unfolding is_time
no_time p ms t e =
    let a = neither (nat_lt t.clock (moment ms)) (is_due t) e in
    let same : at_reading ms t ≡ t = λ i. record t { clock = max_low t.clock (moment ms) a.0 i } in
    ap (ticked p) same ∙ nothing_due p t a.1

by_offer : (o : Option (List Link)) (t : Theatre) (d : Desk) → (offered_or o t true d).took ≡ false → ((offered_or o t true d).theatre ≡ t) × ((offered_or o t true d).told ≡ silence)
by_offer None t d e = (refl, refl)
by_offer (Some links) t d e = absurd (true≢false e)

idle : (t : Theatre) (d : Desk) (b : Bool) → (b ≡ false → d ≡ desk t) → (finished t b d).took ≡ false → ((finished t b d).theatre ≡ t) × ((finished t b d).told ≡ silence)
unfolding finished offer_all
idle t d true none e = by_offer (offer_all d.sent d.theatre.links) t d e
idle t d false none e = (ap (λ (x : Desk). (finished t false x).theatre) (none refl), ap (λ (x : Desk). (finished t false x).told) (none refl))

pub clocks_idle : IdleClocksChangeNothing
unfolding clock
clocks_idle p ms t e = idle t (ticked p (at_reading ms t)) (is_time ms t) (no_time p ms t) e
