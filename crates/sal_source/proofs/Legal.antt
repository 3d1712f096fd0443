-- Null is legal; and one reply alone.
use Rattle.std.proofs.Common.{◌≡◌, ℕ, Bool, true, ◌&&◌, cond, List, [], ◌∷◌, ◌++◌, length, refl, sym, ap, ◌∙◌}
use Rattle.std.specs.Prelude.{nat_le}
use Rattle.sal_value.specs.declared.value.Value.{Value, fold-roll-Value}
use Rattle.sal_value.specs.declared.value.Value.TheOpen.{Value-F}
use Rattle.sal_value.specs.declared.value.Value.TheVariants as v
use Rattle.sal_value.specs.Spelling.{spelling_step, spelling, fits_step, fits, is_legal}
use Rattle.sal_mail.specs.declared.message.Reply.{Reply}
use Rattle.sal_source.specs.Configuration.{Waiting}
use Rattle.sal_source.specs.Give.{give_to, replies_from, outside_answers, replies_if_legal, give_one, answers_if_legal, settle_all, settle_all_answers}
use Rattle.sal_source.proofs.Fuel.{give_first, tell_first, settled_nil, told_nil}

null_fits : fits v.Null 64 ≡ true
unfolding fits
null_fits = ap (λ w. fits w 64) (sym v.rolls-Null) ∙ ap (λ f. f 64) (fold-roll-Value (ℕ → Bool) fits_step Value-F.Null)

null_spelled : spelling v.Null ≡ 0 ∷ []
unfolding spelling
null_spelled = ap spelling (sym v.rolls-Null) ∙ fold-roll-Value (List ℕ) spelling_step Value-F.Null

pub null_legal : is_legal v.Null ≡ true
unfolding is_legal
null_legal = λ i. null_fits i && nat_le (length (null_spelled i)) 65536

-- a reply that gives nothing on
pub given_alone : (r : Reply) (value : Value) (w : Waiting) → is_legal value ≡ true → replies_from r value w ≡ [] → settle_all ((r, value) ∷ []) w ≡ give_to r value w
given_alone r value w legal none =
    let on : replies_if_legal (r, value) w ≡ [] = ap (λ b. cond b (replies_from r value w) []) legal ∙ none in
    let after : give_one (r, value) w ≡ give_to r value w = ap (λ b. cond b (give_to r value w) w) legal in
    give_first (r, value) [] w ∙ (λ i. settle_all (on i ++ []) (after i)) ∙ settled_nil (give_to r value w)

pub told_alone : (r : Reply) (value : Value) (w : Waiting) → is_legal value ≡ true → replies_from r value w ≡ [] → settle_all_answers ((r, value) ∷ []) w ≡ outside_answers r value
told_alone r value w legal none =
    let on : replies_if_legal (r, value) w ≡ [] = ap (λ b. cond b (replies_from r value w) []) legal ∙ none in
    let after : give_one (r, value) w ≡ give_to r value w = ap (λ b. cond b (give_to r value w) w) legal in
    let told : answers_if_legal (r, value) ≡ outside_answers r value = ap (λ b. cond b (outside_answers r value) []) legal in
    tell_first (r, value) [] w ∙ (λ i. told i ++ settle_all_answers (on i ++ []) (after i)) ∙ ap (λ l. outside_answers r value ++ l) (told_nil (give_to r value w)) ∙ append-nil (outside_answers r value)
  where
    append-nil : {A : Type 0} (xs : List A) → xs ++ [] ≡ xs
    append-nil [] = refl
    append-nil (x ∷ xs) = ap (λ l. x ∷ l) (append-nil xs)
