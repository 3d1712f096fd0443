-- Messages in their new versions.
use Rattle.std.proofs.Common.{◌≡◌, ℕ, ◌+◌, Bool, true, false, cond, ◌||◌, List, [], ◌∷◌, ◌++◌, map, drop, length, Option, Some, None, refl, sym, ap, ◌∙◌, ◌⊎◌, inl, inr, arith, true≢false, not, append_assoc}
use Rattle.std.specs.Prelude.{filter, nat_eq, unwrap_or}
use Rattle.std.specs.Option.{option_to_list, option_flatten}
use Rattle.std.specs.List.{list_any}
use Rattle.sal_value.specs.declared.value.Value.{Value}
use Rattle.sal_mail.specs.declared.message.Piece.{Piece}
use Rattle.sal_mail.specs.declared.message.Piece.TheVariants.{Known, Token}
use Rattle.sal_mail.specs.declared.message.Message.{Message}
use Rattle.sal_mail.specs.Message.{with_reply, piece_with_reply, is_other}
use Rattle.sal_book.specs.code.Versions.{is_token, awaits, new_version, newest}

either_none : (a b : Bool) → (a || b) ≡ false → (a ≡ false) × (b ≡ false)
either_none true b e = absurd (true≢false e)
either_none false b e = (refl, e)

pieces_stay : (number : ℕ) (value : Value) (pieces : List Piece) → list_any (is_token number) pieces ≡ false → map (piece_with_reply number value) pieces ≡ pieces
pieces_stay number value [] e = refl
pieces_stay number value (Known v ∷ pieces) e = ap (λ l. Known v ∷ l) (pieces_stay number value pieces e)
pieces_stay number value (Token n ∷ pieces) e =
    let parts = either_none (nat_eq n number) (list_any (is_token number) pieces) e in
    let rest = pieces_stay number value pieces parts.1 in
    λ i. cond (parts.0 i) (Known value) (Token n) ∷ rest i

numbers_stay : (number : ℕ) (numbers : List ℕ) → list_any (λ n. nat_eq n number) numbers ≡ false → filter (is_other number) numbers ≡ numbers
numbers_stay number [] e = refl
numbers_stay number (n ∷ numbers) e =
    let parts = either_none (nat_eq n number) (list_any (λ n. nat_eq n number) numbers) e in
    ap (λ b. cond (not b) (n ∷ filter (is_other number) numbers) (filter (is_other number) numbers)) parts.0 ∙ ap (λ l. n ∷ l) (numbers_stay number numbers parts.1)

-- a message that doesn't wait for the reply stays as it is
stays : (number : ℕ) (value : Value) (m : Message) → awaits number m ≡ false → m ≡ with_reply number value m
stays number value m e =
    let parts = either_none (list_any (is_token number) m.args) (list_any (λ n. nat_eq n number) m.after) e in
    let args = pieces_stay number value m.args parts.0 in
    let after = numbers_stay number m.after parts.1 in
    sym (λ i. record m { args = args i; after = after i })

-- so all messages with the reply are those in their new versions
pub versions_replied : (number : ℕ) (value : Value) (ms : List Message) → newest ms (map (new_version number value) ms) ≡ map (with_reply number value) ms
versions_replied number value [] = refl
versions_replied number value (m ∷ ms) = first (awaits number m) refl (versions_replied number value ms)
  where
    first : (b : Bool) → awaits number m ≡ b → newest ms (map (new_version number value) ms) ≡ map (with_reply number value) ms
        → unwrap_or (cond b (Some (with_reply number value m)) None) m ∷ newest ms (map (new_version number value) ms) ≡ with_reply number value m ∷ map (with_reply number value) ms
    first true e rest = ap (λ l. with_reply number value m ∷ l) rest
    first false e rest = λ i. stays number value m e i ∷ rest i

-- the next message in its new version
pub newest_next : (m : Message) (ms : List Message) (o : Option (Option Message)) (versions left : List (Option Message)) → versions ≡ option_to_list o ++ left → left ≡ drop 1 versions
    → newest (m ∷ ms) versions ≡ unwrap_or (option_flatten o) m ∷ newest ms left
newest_next m ms None [] left is rest = ap (λ l. m ∷ newest ms l) (sym rest)
newest_next m ms (Some v) [] left is rest = absurd cc
newest_next m ms None (v ∷ versions) left is rest = absurd (let same : v ∷ versions ≡ versions = is ∙ rest in let long : length (v ∷ versions) ≡ length versions = ap length same in omega arith)
newest_next m ms (Some w) (v ∷ versions) left is rest = let same : v ≡ w = cc in let others : versions ≡ left = cc in λ i. unwrap_or (same i) m ∷ newest ms (others i)

-- what is left, with the next message in its new version in front
pub newest_after : (m m' : Message) (ms rest : List Message) (o : Option (Option Message)) (versions left : List (Option Message)) → ms ≡ m ∷ rest → versions ≡ option_to_list o ++ left → left ≡ drop 1 versions
    → m' ≡ unwrap_or (option_flatten o) m → newest ms versions ≡ m' ∷ newest rest left
newest_after m m' ms rest o versions left front is drops newer =
    ap (λ l. newest l versions) front ∙ newest_next m rest o versions left is drops ∙ ap (λ x. x ∷ newest rest left) (sym newer)

-- a message that passes moves to the end of a list
pub moved : {X : Type 0} (p : X → Bool) (old new xs ys : List X) (x : X) → new ≡ old ++ x ∷ [] → p x ≡ true → xs ≡ x ∷ ys → new ++ filter p ys ≡ old ++ filter p xs
moved p old new xs ys x add passes is =
    ap (λ l. l ++ filter p ys) add ∙ append_assoc old (x ∷ []) (filter p ys)
    ∙ ap (λ l. old ++ l) (sym (ap (filter p) is ∙ ap (λ b. cond b (x ∷ filter p ys) (filter p ys)) passes))

-- and one that doesn't is passed over
pub passed_over : {X : Type 0} (p : X → Bool) (old xs ys : List X) (x : X) → p x ≡ false → xs ≡ x ∷ ys → old ++ filter p ys ≡ old ++ filter p xs
passed_over p old xs ys x fails is = ap (λ l. old ++ l) (sym (ap (filter p) is ∙ ap (λ b. cond b (x ∷ filter p ys) (filter p ys)) fails))
