-- A book that is made of what waits.
use Rattle.std.proofs.Common.{◌≡◌, ℕ, Bool, true, false, cond, ◌&&◌, List, [], ◌∷◌, refl, sym, ap, ◌∙◌}
use Rattle.std.specs.Prelude.{IsTrue, filter}
use Rattle.std.specs.List.{list_all}
use Rattle.std.proofs.lemmas.Bool.{and_parts}
use Rattle.sal_mail.specs.declared.message.Message.{Message}
use Rattle.sal_mail.specs.declared.message.Join.{Join}
use Rattle.sal_envelope.proofs.Found.{and_true}
use Rattle.sal_book.specs.Book.{Book, new_book, rise, may_follow, is_waiting, is_open, book_after_entry}
use Rattle.sal_resident.specs.Packing.{message_is_spelled, join_is_spelled}
use Rattle.sal_resident.specs.Unpacking.{book_of}
use Rattle.sal_resident.proofs.Parts.{message_good, join_good}

all_kept : {X : Type 0} (p : X → Bool) (xs : List X) → list_all p xs ≡ true → filter p xs ≡ xs
all_kept p [] h = refl
all_kept p (x ∷ xs) h =
    let parts = and_parts (p x) (list_all p xs) h in
    ap (λ b. cond b (x ∷ filter p xs) (filter p xs)) parts.0 ∙ ap (λ ys. x ∷ ys) (all_kept p xs parts.1)

pub may_enter : (ns : List ℕ) → rise ns ≡ true → may_follow ns new_book ≡ true
may_enter ns h = and_true _ _ h refl

pub all_enter : (book : Book) (messages : List Message) (joins : List Join) → list_all is_waiting messages ≡ true → list_all is_open joins ≡ true → book ≡ book_after_entry messages joins new_book → book ≡ book_of messages joins
all_enter book messages joins h k e = e ∙ (λ i. book_of (all_kept is_waiting messages h i) (all_kept is_open joins k i))

pub all_wait : (ms : List Message) → list_all message_is_spelled ms ≡ true → list_all is_waiting ms ≡ true
all_wait [] h = refl
all_wait (m ∷ ms) h =
    let parts = and_parts (message_is_spelled m) (list_all message_is_spelled ms) h in
    and_true _ _ (message_good m parts.0).waits (all_wait ms parts.1)

pub all_open : (js : List Join) → list_all join_is_spelled js ≡ true → list_all is_open js ≡ true
all_open [] h = refl
all_open (j ∷ js) h =
    let parts = and_parts (join_is_spelled j) (list_all join_is_spelled js) h in
    and_true _ _ (join_good j parts.0).still_open (all_open js parts.1)
