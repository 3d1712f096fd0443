-- Numbers that a handler takes may follow those of the actor's book.
use Rattle.std.proofs.Common.{◌≡◌, ℕ, ◌+◌, ◌<◌, true, List, [], ◌∷◌, map, refl, arith}
use Rattle.std.specs.Prelude.{nat_lt, All}
use Rattle.std.specs.List.{list_all}
use Rattle.std.proofs.lemmas.Bool.{and_from, lt-ltb}
use Rattle.std.proofs.lemmas.List.Elements.{All-nil, All-cons, All-head, All-tail, All-append, All-map}
use Rattle.sal_mail.specs.declared.message.Message.{Message}
use Rattle.sal_mail.specs.declared.message.Join.{Join}
use Rattle.sal_handler.specs.WellFormed.{EachOf}
use Rattle.sal_effects.specs.Numbers.{Rise}
use Rattle.sal_book.specs.Book.{Book, rise, are_below, message_numbers, join_numbers, book_numbers, may_follow}

-- a number below those that rise is below each of them
all_above : (n from to : ℕ) (ns : List ℕ) → n < from → Rise from to ns → list_all (nat_lt n) ns ≡ true
all_above n from to [] lt r = refl
all_above n from to (k ∷ ks) lt r =
    and_from (nat_lt n k) (list_all (nat_lt n) ks) (lt-ltb n k (omega (arith, lt, r.0))) (all_above n (k + 1) to ks (omega (arith, lt, r.0)) r.1.1)

rises : (from to : ℕ) (ns : List ℕ) → Rise from to ns → rise ns ≡ true
rises from to [] r = refl
rises from to (k ∷ ks) r = and_from (list_all (nat_lt k) ks) (rise ks) (all_above k (k + 1) to ks (omega arith) r.1.1) (rises (k + 1) to ks r.1.1)

below : (from to : ℕ) (ns old : List ℕ) → Rise from to ns → All (λ n. n < from) old → are_below old ns ≡ true
below from to ns [] r low = refl
below from to ns (n ∷ old) r low =
    and_from (list_all (nat_lt n) ns) (are_below old ns) (all_above n from to ns (All-head (λ n. n < from) n old low) r)
    (below from to ns old r (All-tail (λ n. n < from) n old low))

-- Numbers that rise from a number above all that the book keeps may follow.
pub may_enter : (from to : ℕ) (ns : List ℕ) (b : Book) → Rise from to ns → All (λ m. m.serial < from) b.messages → All (λ j. j.number < from) b.joins → may_follow ns b ≡ true
may_enter from to ns b r messages joins =
    and_from (rise ns) (are_below (book_numbers b) ns) (rises from to ns r)
    (below from to ns (book_numbers b) r
    (All-append (λ n. n < from) (message_numbers b.messages) (join_numbers b.joins) (All-map (λ n. n < from) (λ (m : Message). m.serial) b.messages messages)
    (All-map (λ n. n < from) (λ (j : Join). j.number) b.joins joins)))

-- and are below the last number
pub rise_high : {X : Type 0} (f : X → ℕ) (from to : ℕ) (xs : List X) → Rise from to (map f xs) → All (λ x. f x < to) xs
rise_high f from to [] r = All-nil (λ x. f x < to)
rise_high f from to (x ∷ xs) r = All-cons (λ x. f x < to) x xs r.1.0 (rise_high f (f x + 1) to xs r.1.1)

-- what holds of each, as books say it
pub all_of_each : {X : Type 0} (P : X → Type 0) (xs : List X) → EachOf P xs → All P xs
all_of_each P [] each = All-nil P
all_of_each P (x ∷ xs) each = All-cons P x xs each.0 (all_of_each P xs each.1)
