-- When what a handler leaves may enter its actor's book.
use Rattle.std.specs.Prelude.{◌≡◌, ℕ, true, List}
use Rattle.sal_value.specs.declared.value.Value.{Value}
use Rattle.sal_mail.specs.declared.message.Message.{Message}
use Rattle.sal_mail.specs.declared.message.Join.{Join}
use Rattle.sal_book.specs.Book.{may_follow, message_numbers, join_numbers, book_after_entry}
use Rattle.sal_resident.specs.declared.resident.Resident.{Resident}
use Rattle.sal_tidy.specs.Tidy.{IsTidy}

-- the actor with these fields, this next number, and in its book what waits
abbrev pub after_entry : List Value → ℕ → List Message → List Join → Resident → Resident
after_entry fields serial messages joins r = record r { fields = fields; serial = serial; book = book_after_entry messages joins r.book }

-- Numbers follow those in the book, and the actor is tidy after it.
pub record MayTake (fields : List Value) (serial : ℕ) (messages : List Message) (joins : List Join) (r : Resident) : Type 0 where
  pub messages_follow : may_follow (message_numbers messages) r.book ≡ true
  pub joins_follow : may_follow (join_numbers joins) r.book ≡ true
  pub tidy : IsTidy (after_entry fields serial messages joins r)
