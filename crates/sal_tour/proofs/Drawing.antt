-- A product and a sum that wrap, and events that are drawn one after another.
use Rattle.std.proofs.Common.{◌≡◌, ℕ, suc, ◌+◌, ◌-◌, ◌*◌, ◌%◌, ◌^◌, ◌<◌, ◌≤◌, List, [], ◌∷◌, ◌++◌, sym, ap, ◌∙◌, append_assoc, append-nil, arith}
use Rattle.std.proofs.Math.Nat.{mod-add-mod}
use Rattle.sal_events.specs.declared.event.Event.{Event}
use Rattle.sal_tour.specs.declared.constants.TheConstants.{FACTOR, ADDEND}
use Rattle.sal_tour.specs.Draws.{next_state}
use Rattle.sal_tour.specs.Events.{drawn, drawn_events}

pub wraps : (x : ℕ) → (x * FACTOR % 2 ^ 64 + ADDEND) % 2 ^ 64 ≡ next_state x
unfolding next_state
wraps x = mod-add-mod (x * FACTOR) (2 ^ 64) ADDEND

left : (n at : ℕ) → at < n → n - at ≡ suc (n - (at + 1))
left n at h = omega arith

pub on : (t found new : List Event) (n at x y : ℕ) (e : Event) → at < n → t ≡ found ++ drawn_events (n - at) x → (e, y) ≡ drawn x → new ≡ found ++ e ∷ []
    → t ≡ new ++ drawn_events (n - (at + 1)) y
unfolding drawn_events
on t found new n at x y e h given is new_is =
    given ∙ ap (λ z. found ++ drawn_events z x) (left n at h)
    ∙ ap (λ (z : Event × ℕ). found ++ z.0 ∷ drawn_events (n - (at + 1)) z.1) (sym is)
    ∙ sym (append_assoc found (e ∷ []) (drawn_events (n - (at + 1)) y))
    ∙ ap (λ z. z ++ drawn_events (n - (at + 1)) y) (sym new_is)

pub ends : (t found : List Event) (n at x : ℕ) → n ≤ at → t ≡ found ++ drawn_events (n - at) x → t ≡ found
unfolding drawn_events
ends t found n at x h given =
    let none : n - at ≡ 0 = omega arith in
    given ∙ ap (λ z. found ++ drawn_events z x) none ∙ append-nil found
