-- A list that is routed changes no configuration.
use Rattle.std.specs.Prelude.{◌≡◌, ℕ, Bool, true, ◌&&◌, if◌then◌else◌, List, ◌∷◌, ◌++◌, Some}
use Rattle.std.specs.List.{list_all}
use Rattle.std.specs.FinMap as fm
use Rattle.sal_value.specs.declared.name.Name.{Name}
use Rattle.sal_value.specs.Coding.{in_range}
use Rattle.sal_mail.specs.declared.message.Reply.{Reply}
use Rattle.sal_mail.specs.declared.message.Message.{Message}
use Rattle.sal_mail.specs.declared.message.Join.{Join}
use Rattle.sal_mail.specs.declared.effects.Actor.{Actor}
use Rattle.sal_mail.specs.Message.{is_ready}
use Rattle.sal_handler.specs.Calls.{Meaning}
use Rattle.sal_envelope.specs.Spelling.{reply_is_spelled}
use Rattle.sal_envelope.specs.Coding.{reply_in_range}
use Rattle.sal_source.specs.Table.{TableKey, Table, total, HasSameItems}
use Rattle.sal_source.specs.Keys.{name_key}
use Rattle.sal_source.specs.Configuration.{Waiting}
use Rattle.sal_source.specs.Give.{DueReply}
use Rattle.sal_book.specs.Book.{Book}
use Rattle.sal_resident.specs.declared.resident.Resident.{Resident}
use Rattle.sal_resident.specs.Coding.{slot_in_range}
use Rattle.sal_pieces.specs.Pieces.{Piece, Body, LooseCall, OwedReply, WaitingCreation, Put, Decision, things}
use Rattle.sal_pieces.specs.Image.{History, waiting_after_replies, image}
use Rattle.sal_pieces.specs.Once.{StandOnce}
use Rattle.sal_pieces.specs.Steps.{IsBelow, count_untidy}
use Rattle.sal_routing.specs.declared.item.Item.{Item}
use Rattle.sal_routing.specs.State.{Desk}
use Rattle.sal_routing.specs.Routing.{route_item, route}
use Rattle.sal_unseen.specs.Desks.{desk_pieces}
use Rattle.sal_unseen.specs.Moving.{FitsThere}

-- ---- what is seen

-- A number of pieces that calls, replies and the contents of books don't change.
pub record IsOfTheRest (f : Piece → ℕ) : Type 0 where
  pub calls : (m : Message) → f (LooseCall m) ≡ 0
  pub replies : (g : DueReply) → f (OwedReply g) ≡ 0
  pub books : (a : Actor × ℕ) (b c : Book) → f (Body a b) ≡ f (Body a c)

-- The later pieces make the same configuration. What stood below an actor's next number stays so, and all else is there
-- as before.
pub record IsUnseen (ps qs : List Piece) : Type 0 where
  pub image : (bound : List TableKey) (h : History) → image bound ps h ≡ image bound qs h
  pub below : (n : Name) (from : ℕ) → IsBelow n from (things ps) → IsBelow n from (things qs)
  pub rest : (f : Piece → ℕ) → IsOfTheRest f → total f ps ≡ total f qs

-- ---- what routing needs

-- it has a spelling, and its numbers are in their types' ranges
abbrev pub is_sendable : Reply → Bool
is_sendable r = reply_in_range r && reply_is_spelled r

abbrev pub is_sendable_due : DueReply → Bool
is_sendable_due g = is_sendable g.0 && in_range g.1

abbrev pub is_sendable_join : Join → Bool
is_sendable_join j = is_sendable j.reply && list_all slot_in_range j.places

-- 0 where the replies that are owed, and those of joins, can be sent but for the sizes of their values; else 1
abbrev pub count_unsendable : Piece → ℕ
count_unsendable (Body a b) = if list_all is_sendable_join b.joins then 0 else 1
count_unsendable (LooseCall m) = 0
count_unsendable (OwedReply g) = if is_sendable_due g then 0 else 1
count_unsendable (WaitingCreation x) = 0
count_unsendable (Put k u) = 0
count_unsendable (Decision k b) = 0

-- each message that waits for nothing fits where it goes
abbrev pub ReadyMessagesFit : Meaning → Waiting → Type 0
ReadyMessagesFit p c = (k : TableKey) (m : Message) → fm.get c.messages k ≡ Some m → is_ready m ≡ true → FitsThere p m m.target

-- residents stand under their own names
abbrev pub AreKeyed : Table Resident → Type 0
AreKeyed t = (n : Name) (r : Resident) → fm.get t (name_key n) ≡ Some r → r.name ≡ n

-- Of the desk and all other pieces: nothing is there twice, all is tidy, replies can be sent, and calls fit.
pub record IsInOrder (p : Meaning) (d : Desk) (rest : List Piece) : Type 0 where
  pub keyed : AreKeyed d.theatre.residents
  pub once : StandOnce (things (desk_pieces d ++ rest))
  pub tidy : total count_untidy (desk_pieces d ++ rest) ≡ 0
  pub sendable : total count_unsendable (desk_pieces d ++ rest) ≡ 0
  pub fit : ReadyMessagesFit p (waiting_after_replies (things (desk_pieces d ++ rest)))

-- ---- the laws

-- Nothing is seen of what made the latter desk and other pieces of the former ones, and all is in order then.
pub record StaysInOrder (p : Meaning) (d : Desk) (rest : List Piece) (e : Desk) (others : List Piece) : Type 0 where
  pub unseen : IsUnseen (desk_pieces d ++ rest) (desk_pieces e ++ others)
  pub order : IsInOrder p e others

-- Whatever only moves pieces, also between the desk and others.
abbrev pub MovesAreUnseen : Type 0
MovesAreUnseen =
    (p : Meaning) (d e : Desk) (rest others : List Piece) → HasSameItems (desk_pieces d ++ rest) (desk_pieces e ++ others)
    → AreKeyed e.theatre.residents → IsInOrder p d rest → StaysInOrder p d rest e others

-- with this item before the others
abbrev pub with_first : Item → Desk → Desk
with_first i d = record d { work = i ∷ d.work }

-- An item that is routed, whatever becomes of it.
abbrev pub RoutedItemsAreUnseen : Type 0
RoutedItemsAreUnseen =
    (p : Meaning) (i : Item) (d : Desk) (rest : List Piece) → IsInOrder p (with_first i d) rest
    → StaysInOrder p (with_first i d) rest (route_item p i d) rest

-- A list that is routed to its end.
abbrev pub RoutesAreUnseen : Type 0
RoutesAreUnseen = (p : Meaning) (d : Desk) (rest : List Piece) → IsInOrder p d rest → StaysInOrder p d rest (route p d) rest
