-- Giving replies one after another.
use Rattle.std.proofs.Common.{◌≡◌, ℕ, zero, suc, ◌+◌, ◌≤◌, List, [], ◌∷◌, ◌++◌, length, refl, sym, ap, subst, ◌∙◌, arith, append_assoc, suc-add}
use Rattle.std.specs.FinMap as fm
use Rattle.sal_source.specs.Table.{HasSameItems}
use Rattle.sal_source.specs.Configuration.{Waiting, Configuration}
use Rattle.sal_source.specs.Give.{DueReply, give_one, replies_if_legal, answers_if_legal, settle, settle_answers, settle_bound, settle_all, settle_all_answers, give, give_all}
use Rattle.sal_source.specs.Laws.{IsOwedOnce, IsSameButForOrder}
use Rattle.sal_source.proofs.Same.{total-append}
use Rattle.sal_source.proofs.Commute.{commute, most_after}

-- more fuel than is wanted changes nothing
pub enough : (n m : ℕ) (gs : List DueReply) (c : Waiting) → settle_bound gs c ≤ n → settle_bound gs c ≤ m → settle n gs c ≡ settle m gs c
unfolding settle
enough zero zero gs c a b = refl
enough zero (suc m) [] c a b = refl
enough zero (suc m) (g ∷ gs) c a b = absurd (omega arith)
enough (suc n) zero [] c a b = refl
enough (suc n) zero (g ∷ gs) c a b = absurd (omega arith)
enough (suc n) (suc m) [] c a b = refl
enough (suc n) (suc m) (g ∷ gs) c a b = enough n m (replies_if_legal g c ++ gs) (give_one g c) (most_after n g gs c a) (most_after m g gs c b)

pub enough_told : (n m : ℕ) (gs : List DueReply) (c : Waiting) → settle_bound gs c ≤ n → settle_bound gs c ≤ m → settle_answers n gs c ≡ settle_answers m gs c
unfolding settle_answers
enough_told zero zero gs c a b = refl
enough_told zero (suc m) [] c a b = refl
enough_told zero (suc m) (g ∷ gs) c a b = absurd (omega arith)
enough_told (suc n) zero [] c a b = refl
enough_told (suc n) zero (g ∷ gs) c a b = absurd (omega arith)
enough_told (suc n) (suc m) [] c a b = refl
enough_told (suc n) (suc m) (g ∷ gs) c a b = ap (λ l. answers_if_legal g ++ l) (enough_told n m (replies_if_legal g c ++ gs) (give_one g c) (most_after n g gs c a) (most_after m g gs c b))

pub give_first : (g : DueReply) (gs : List DueReply) (c : Waiting) → settle_all (g ∷ gs) c ≡ settle_all (replies_if_legal g c ++ gs) (give_one g c)
unfolding settle
give_first g gs c =
    let n = length gs + fm.len c.joins in
    let e : settle_bound (g ∷ gs) c ≡ suc n = suc-add (length gs) (fm.len c.joins) in
    ap (λ k. settle k (g ∷ gs) c) e ∙ enough n (settle_bound (replies_if_legal g c ++ gs) (give_one g c)) (replies_if_legal g c ++ gs) (give_one g c) (most_after n g gs c (omega arith)) (omega arith)

pub tell_first : (g : DueReply) (gs : List DueReply) (c : Waiting) → settle_all_answers (g ∷ gs) c ≡ answers_if_legal g ++ settle_all_answers (replies_if_legal g c ++ gs) (give_one g c)
unfolding settle_answers
tell_first g gs c =
    let n = length gs + fm.len c.joins in
    let e : settle_bound (g ∷ gs) c ≡ suc n = suc-add (length gs) (fm.len c.joins) in
    ap (λ k. settle_answers k (g ∷ gs) c) e
    ∙ ap (λ l. answers_if_legal g ++ l) (enough_told n (settle_bound (replies_if_legal g c ++ gs) (give_one g c)) (replies_if_legal g c ++ gs) (give_one g c) (most_after n g gs c (omega arith)) (omega arith))

pub settled_nil : (c : Waiting) → settle_all [] c ≡ c
unfolding settle
settled_nil c = at (settle_bound [] c)
  where
    at : (n : ℕ) → settle n [] c ≡ c
    at zero = refl
    at (suc n) = refl

pub told_nil : (c : Waiting) → settle_all_answers [] c ≡ []
unfolding settle_answers
told_nil c = at (settle_bound [] c)
  where
    at : (n : ℕ) → settle_answers n [] c ≡ []
    at zero = refl
    at (suc n) = refl

both_fuel : (n : ℕ) (gs hs : List DueReply) (c : Waiting) → settle_bound gs c ≤ n → settle_all (gs ++ hs) c ≡ settle_all hs (settle n gs c)
unfolding settle
both_fuel zero [] hs c m = refl
both_fuel zero (g ∷ gs) hs c m = absurd (omega arith)
both_fuel (suc n) [] hs c m = refl
both_fuel (suc n) (g ∷ gs) hs c m =
    give_first g (gs ++ hs) c
    ∙ ap (λ l. settle_all l (give_one g c)) (sym (append_assoc (replies_if_legal g c) gs hs))
    ∙ both_fuel n (replies_if_legal g c ++ gs) hs (give_one g c) (most_after n g gs c m)

both_told : (n : ℕ) (gs hs : List DueReply) (c : Waiting) → settle_bound gs c ≤ n → settle_all_answers (gs ++ hs) c ≡ settle_answers n gs c ++ settle_all_answers hs (settle n gs c)
unfolding settle settle_answers
both_told zero [] hs c m = refl
both_told zero (g ∷ gs) hs c m = absurd (omega arith)
both_told (suc n) [] hs c m = refl
both_told (suc n) (g ∷ gs) hs c m =
    tell_first g (gs ++ hs) c
    ∙ ap (λ l. answers_if_legal g ++ settle_all_answers l (give_one g c)) (sym (append_assoc (replies_if_legal g c) gs hs))
    ∙ ap (λ l. answers_if_legal g ++ l) (both_told n (replies_if_legal g c ++ gs) hs (give_one g c) (most_after n g gs c m))
    ∙ sym (append_assoc (answers_if_legal g) (settle_answers n (replies_if_legal g c ++ gs) (give_one g c)) (settle_all_answers hs (settle n (replies_if_legal g c ++ gs) (give_one g c))))

-- one list after another
pub give_both : (gs hs : List DueReply) (c : Waiting) → settle_all (gs ++ hs) c ≡ settle_all hs (settle_all gs c)
give_both gs hs c = both_fuel (settle_bound gs c) gs hs c (omega arith)

pub tell_both : (gs hs : List DueReply) (c : Waiting) → settle_all_answers (gs ++ hs) c ≡ settle_all_answers gs c ++ settle_all_answers hs (settle_all gs c)
tell_both gs hs c = both_told (settle_bound gs c) gs hs c (omega arith)

-- ---- two replies in either order

two_waiting : (g h : DueReply) (rest : List DueReply) (w : Waiting) → IsOwedOnce (g ∷ h ∷ rest) w →
    (settle_all (h ∷ g ∷ []) w ≡ settle_all (g ∷ h ∷ []) w) × HasSameItems (settle_all_answers (h ∷ g ∷ []) w) (settle_all_answers (g ∷ h ∷ []) w)
two_waiting g h rest w once =
    let few : IsOwedOnce (h ∷ g ∷ []) w = λ r n. let o = once r n in omega arith in
    commute (h ∷ g ∷ []) (g ∷ h ∷ []) w few (record { weighs = λ f. omega arith })

-- giving h and then g, as one list
in_turn : (g h : DueReply) (c : Configuration) → give g.0 g.1 (give h.0 h.1 c) ≡ give_all (h ∷ g ∷ []) c
in_turn g h c =
    let w : settle_all (h ∷ g ∷ []) c.waiting ≡ settle_all (g ∷ []) (settle_all (h ∷ []) c.waiting) = give_both (h ∷ []) (g ∷ []) c.waiting in
    let t : settle_all_answers (h ∷ g ∷ []) c.waiting ≡ settle_all_answers (h ∷ []) c.waiting ++ settle_all_answers (g ∷ []) (settle_all (h ∷ []) c.waiting) = tell_both (h ∷ []) (g ∷ []) c.waiting in
    let a : (c.answers ++ settle_all_answers (h ∷ []) c.waiting) ++ settle_all_answers (g ∷ []) (settle_all (h ∷ []) c.waiting) ≡ c.answers ++ settle_all_answers (h ∷ g ∷ []) c.waiting =
    append_assoc c.answers (settle_all_answers (h ∷ []) c.waiting) (settle_all_answers (g ∷ []) (settle_all (h ∷ []) c.waiting)) ∙ ap (λ l. c.answers ++ l) (sym t) in
    λ i. record c { waiting = sym w i; answers = a i }

pub two_replies : (g h : DueReply) (rest : List DueReply) (c : Configuration) → IsOwedOnce (g ∷ h ∷ rest) c.waiting → IsSameButForOrder (give g.0 g.1 (give h.0 h.1 c)) (give h.0 h.1 (give g.0 g.1 c))
two_replies g h rest c once =
    let r = two_waiting g h rest c.waiting once in
    let all : IsSameButForOrder (give_all (h ∷ g ∷ []) c) (give_all (g ∷ h ∷ []) c) = record {
      rest = λ i. record c { waiting = r.0 i; answers = [] };
      answers = record { weighs = λ f. let e = r.1.weighs f in omega (arith, total-append f c.answers (settle_all_answers (h ∷ g ∷ []) c.waiting), total-append f c.answers (settle_all_answers (g ∷ h ∷ []) c.waiting)) };
    } in
    let P : Configuration → Configuration → Type 0 = λ a b. IsSameButForOrder a b in
    subst (λ (a : Configuration). P a (give h.0 h.1 (give g.0 g.1 c))) (sym (in_turn g h c)) (subst (λ (b : Configuration). P (give_all (h ∷ g ∷ []) c) b) (sym (in_turn h g c)) all)
