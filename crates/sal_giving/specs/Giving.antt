-- Giving a reply of one actor, and giving it to the actor's book.
use Rattle.std.specs.Prelude.{◌≡◌, ◌≢◌, ℕ, true, List, [], ◌++◌, map, All}
use Rattle.sal_value.specs.declared.name.Name.{Name}
use Rattle.sal_value.specs.declared.value.Value.{Value}
use Rattle.sal_mail.specs.declared.message.Reply.{Reply}
use Rattle.sal_mail.specs.declared.message.Reply.TheVariants.{Nobody, Tok, Place, Outside}
use Rattle.sal_mail.specs.declared.message.Message.{Message}
use Rattle.sal_mail.specs.declared.message.Join.{Join}
use Rattle.sal_mail.specs.Message.{is_ready}
use Rattle.sal_source.specs.Table.{table_of}
use Rattle.sal_source.specs.Keys.{message_key, join_key}
use Rattle.sal_source.specs.Configuration.{Waiting, Configuration}
use Rattle.sal_source.specs.Give.{give, give_all}
use Rattle.sal_book.specs.Book.{Book, rise, message_numbers, join_numbers, book_after_reply, released_by_reply}
use Rattle.sal_book.specs.Laws.{AreMadeBy}

-- the joins, each with this maker
abbrev pub joins_of : Name → List Join → List (Name × Join)
joins_of maker js = map (λ j. (maker, j)) js

-- what waits for replies: what is in the actor's book, and besides these messages and joins
abbrev pub waiting_with : Name → Book → List Message → List (Name × Join) → Waiting
waiting_with maker b messages joins = record {
  messages = table_of message_key (b.messages ++ messages);
  joins = table_of join_key (joins_of maker b.joins ++ joins);
}

-- The book is this actor's: it has all messages of the actor that wait, and all its joins, both by rising
-- numbers. The other messages and joins are those of other actors, and messages that are ready.
pub record IsBookOf (maker : Name) (b : Book) (messages : List Message) (joins : List (Name × Join)) : Type 0 where
  pub own : AreMadeBy maker b.messages
  pub messages_rise : rise (message_numbers b.messages) ≡ true
  pub joins_rise : rise (join_numbers b.joins) ≡ true
  pub none_waits : All (λ m. m.maker ≡ maker → is_ready m ≡ true) messages
  pub none_open : All (λ j. j.0 ≢ maker) joins

-- The reply is owed to a token or a place of this actor.
abbrev pub IsOwedTo : Name → Reply → Type 0
IsOwedTo maker Nobody = ⊥
IsOwedTo maker (Outside number) = ⊥
IsOwedTo maker (Tok owner number) = owner ≡ maker
IsOwedTo maker (Place owner number at) = owner ≡ maker

-- what waits once the actor's book was given the reply: what it keeps, and besides what it released and the others
abbrev pub waiting_after : Name → Book → List Message → List (Name × Join) → Reply → Value → Waiting
waiting_after maker b messages joins reply value = waiting_with maker (book_after_reply reply value b) ((released_by_reply reply value b).messages ++ messages) joins

-- To give the reply is to give it to the book, and then to give what that releases. The book goes on being the
-- actor's.
pub record GivesByBook (maker : Name) (b : Book) (messages : List Message) (joins : List (Name × Join)) (reply : Reply) (value : Value) (c : Configuration) : Type 0 where
  pub gives : give reply value c ≡ give_all (released_by_reply reply value b).replies (record c { waiting = waiting_after maker b messages joins reply value })
  pub again : IsBookOf maker (book_after_reply reply value b) ((released_by_reply reply value b).messages ++ messages) joins

-- So it is with each reply that is owed to an actor, whatever its value, in each configuration in which the
-- actor has a book.
abbrev pub GivingIsByBooks : Type 0
GivingIsByBooks =
    (maker : Name) (b : Book) (messages : List Message) (joins : List (Name × Join)) (reply : Reply) (value : Value) (c : Configuration)
    → IsBookOf maker b messages joins → IsOwedTo maker reply → c.waiting ≡ waiting_with maker b messages joins
    → GivesByBook maker b messages joins reply value c
