-- Addresses that occur twice, found from the front.
use Rattle.std.proofs.Common.{◌≡◌, ℕ, ◌+◌, ◌<◌, Bool, true, false, ◌||◌, List, length, get_or, drop, sym, ap, ◌∙◌}
use Rattle.std.specs.List.{list_any}
use Rattle.std.proofs.lemmas.List.{drop_more}
use Rattle.sal_value.specs.declared.name.Authority.{Authority}
use Rattle.sal_plan.specs.Rules.{is_same_address, has_repeat}

next : (xs : List Authority) (i : ℕ) (d : Authority) → i < length xs → has_repeat (drop i xs) ≡ (list_any (is_same_address (get_or xs i d)) (drop (i + 1) xs) || has_repeat (drop (i + 1) xs))
next xs i d lt = ap has_repeat (drop_more xs i d lt)

pub repeat_here : (xs : List Authority) (i : ℕ) (d : Authority) (whole : Bool) → i < length xs → list_any (is_same_address (get_or xs i d)) (drop (i + 1) xs) ≡ true
    → has_repeat (drop i xs) ≡ whole → true ≡ whole
repeat_here xs i d whole lt e h = sym (next xs i d lt ∙ ap (λ b. b || has_repeat (drop (i + 1) xs)) e) ∙ h

pub repeat_later : (xs : List Authority) (i : ℕ) (d : Authority) (whole : Bool) → i < length xs → list_any (is_same_address (get_or xs i d)) (drop (i + 1) xs) ≡ false
    → has_repeat (drop i xs) ≡ whole → has_repeat (drop (i + 1) xs) ≡ whole
repeat_later xs i d whole lt e h = sym (next xs i d lt ∙ ap (λ b. b || has_repeat (drop (i + 1) xs)) e) ∙ h
