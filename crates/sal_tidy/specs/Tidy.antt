-- Actors whose books and next numbers go together.
use Rattle.std.specs.Prelude.{◌<◌, Bool, ◌&&◌, nat_lt, All}
use Rattle.sal_mail.specs.declared.message.Message.{Message}
use Rattle.sal_mail.specs.declared.message.Join.{Join}
use Rattle.sal_source.specs.Table.{key_eq}
use Rattle.sal_source.specs.Keys.{name_key}
use Rattle.sal_book.specs.Laws.{AreMadeBy}
use Rattle.sal_resident.specs.declared.resident.Resident.{Resident}

-- All that waits in its book is the actor's own, with numbers that it gave before its next one.
pub record IsTidy (r : Resident) : Type 0 where
  pub own : AreMadeBy r.name r.book.messages
  pub messages_low : All (λ m. m.serial < r.serial) r.book.messages
  pub joins_low : All (λ j. j.number < r.serial) r.book.joins

-- ---- tests

-- a message that this actor made, below its next number
abbrev pub is_own_message : Resident → Message → Bool
is_own_message r m = key_eq (name_key r.name) (name_key m.maker) && nat_lt m.serial r.serial

-- a join below the actor's next number
abbrev pub is_low_join : Resident → Join → Bool
is_low_join r j = nat_lt j.number r.serial
