-- What holds of books.
use Rattle.std.specs.Prelude.{◌≡◌, ◌≢◌, ℕ, ◌<◌, Bool, true, false, ◌&&◌, nat_eq, List, [], ◌∷◌, map, length, All, Contains, Option, Some, None, slice_get}
use Rattle.std.specs.List.{list_all, list_any}
use Rattle.sal_value.specs.declared.name.Name.{Name}
use Rattle.sal_value.specs.declared.value.Value.{Value}
use Rattle.sal_value.specs.Spelling.{is_legal}
use Rattle.sal_mail.specs.declared.message.Reply.{Reply}
use Rattle.sal_mail.specs.declared.message.Reply.TheVariants.{Place}
use Rattle.sal_mail.specs.declared.message.Message.{Message}
use Rattle.sal_mail.specs.declared.message.Join.{Join}
use Rattle.sal_book.specs.Book.{Book, rise, join_numbers, is_open, is_legal_reply, has_number, none_released, released_by_entry, released_by_reply, book_after_entry, book_after_reply}

-- Replies that a book releases have legal values, whatever was entered or given.
pub record ReleasesAreLegal : Type 0 where
  pub entry : (messages : List Message) (joins : List Join) → list_all is_legal_reply (released_by_entry messages joins).replies ≡ true
  pub reply : (reply : Reply) (value : Value) (b : Book) → list_all is_legal_reply (released_by_reply reply value b).replies ≡ true

-- ---- whose book it is

-- all these messages are the actor's
abbrev pub AreMadeBy : Name → List Message → Type 0
AreMadeBy maker messages = All (λ m. m.maker ≡ maker) messages

-- What enters a book and what waits in it are of one actor, whatever is given.
pub record BooksKeepTheirMaker : Type 0 where
  pub entry : (maker : Name) (messages : List Message) (joins : List Join) (b : Book) → AreMadeBy maker b.messages → AreMadeBy maker messages → AreMadeBy maker (book_after_entry messages joins b).messages
  pub reply : (maker : Name) (reply : Reply) (value : Value) (b : Book) → AreMadeBy maker b.messages → AreMadeBy maker (book_after_reply reply value b).messages

-- ---- joins

-- there is a join with this number
abbrev pub has_join : ℕ → Book → Bool
has_join number b = list_any (has_number number) b.joins

-- A join that has given on its array is there no more, and then no reply to its slots changes anything: it
-- resolves at most once.
pub record JoinsResolveOnce : Type 0 where
  pub resolved :
      (maker : Name) (number at : ℕ) (value : Value) (b : Book) → rise (join_numbers b.joins) ≡ true
      → (released_by_reply (Place maker number at) value b).replies ≢ [] → has_join number (book_after_reply (Place maker number at) value b) ≡ false
  pub gone :
      (maker : Name) (number at : ℕ) (value : Value) (b : Book) → has_join number b ≡ false
      → (book_after_reply (Place maker number at) value b ≡ b) × (released_by_reply (Place maker number at) value b ≡ none_released)

-- the book after these values came to these slots of the join with this number, one after another
abbrev pub book_after_each : Name → ℕ → List (ℕ × Value) → Book → Book
book_after_each maker number [] b = b
book_after_each maker number (g ∷ gs) b = book_after_each maker number gs (book_after_reply (Place maker number g.0) g.1 b)

-- the slot with this index is among those to which values come
abbrev pub is_given : ℕ → List (ℕ × Value) → Bool
is_given i gs = list_any (λ g. nat_eq i g.0) gs

-- An open join has resolved once legal values came to all its slots, in any order.
abbrev pub JoinsResolve : Type 0
JoinsResolve =
    (maker : Name) (number : ℕ) (gs : List (ℕ × Value)) (b : Book) → list_all is_open b.joins ≡ true → list_all (λ g. is_legal g.1) gs ≡ true
    → All (λ j. (i : ℕ) → has_number number j ≡ true → i < length j.places → is_given i gs ≡ true) b.joins
    → has_join number (book_after_each maker number gs b) ≡ false
