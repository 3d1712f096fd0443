-- Ready calls, where some actors left.
use Rattle.std.proofs.Common.{◌≡◌, Bool, true, false, cond, List, [], ◌∷◌, ◌++◌, filter, refl, sym, ap, ◌∙◌}
use Rattle.sal_value.specs.declared.name.Name.{Name}
use Rattle.sal_mail.specs.declared.message.Message.{Message}
use Rattle.sal_mail.specs.Message.{is_not_for}
use Rattle.sal_desk.specs.code.Drafts.{without_calls}

pub filter_both : {A : Type 0} (p : A → Bool) (xs ys : List A) → filter p (xs ++ ys) ≡ filter p xs ++ filter p ys
filter_both p [] ys = refl
filter_both p (x ∷ xs) ys = at (p x) (filter_both p xs ys)
  where
    at : (b : Bool) → filter p (xs ++ ys) ≡ filter p xs ++ filter p ys → cond b (x ∷ filter p (xs ++ ys)) (filter p (xs ++ ys)) ≡ cond b (x ∷ filter p xs) (filter p xs) ++ filter p ys
    at true rest = ap (λ zs. x ∷ zs) rest
    at false rest = rest

-- the last of those that left
without_last : (names : List Name) (n : Name) (ms : List Message) → without_calls (names ++ n ∷ []) ms ≡ filter (is_not_for n) (without_calls names ms)
unfolding without_calls
without_last [] n ms = refl
without_last (m ∷ names) n ms = without_last names n (filter (is_not_for m) ms)

-- one more leaves, and its calls that joined the list
pub leaves : (names : List Name) (n : Name) (ms more : List Message) → without_calls (names ++ n ∷ []) ms ++ filter (is_not_for n) more ≡ filter (is_not_for n) (without_calls names ms ++ more)
leaves names n ms more = ap (λ xs. xs ++ filter (is_not_for n) more) (without_last names n ms) ∙ sym (filter_both (is_not_for n) (without_calls names ms) more)
