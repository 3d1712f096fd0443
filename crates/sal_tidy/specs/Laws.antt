-- What keeps actors tidy, and what tidy actors may do.
use Rattle.std.specs.Prelude.{◌≡◌, ℕ, true}
use Rattle.std.specs.List.{list_all}
use Rattle.sal_value.specs.declared.name.Name.{Name}
use Rattle.sal_value.specs.declared.value.Value.{Value}
use Rattle.sal_ast.specs.declared.program.Program.{Program}
use Rattle.sal_mail.specs.declared.message.Reply.{Reply}
use Rattle.sal_mail.specs.declared.message.Reply.TheVariants.{Tok, Place}
use Rattle.sal_mail.specs.declared.effects.Effects.{Effects}
use Rattle.sal_handler.specs.declared.turn.Outcome.TheVariants.{Done}
use Rattle.sal_handler.specs.Calls.{Call, Meaning}
use Rattle.sal_source.specs.Runners.{CallFits, StandsFor}
use Rattle.sal_book.specs.Book.{new_book, message_numbers, join_numbers, may_follow, book_after_entry, book_after_reply, IsOwedToBook}
use Rattle.sal_resident.specs.declared.resident.Resident.{Resident}
use Rattle.sal_tidy.specs.Tidy.{IsTidy, is_own_message, is_low_join}

-- An actor in whose book nothing waits is tidy.
abbrev pub NewcomersAreTidy : Type 0
NewcomersAreTidy = (r : Resident) → r.book ≡ new_book → IsTidy r

-- Whether an actor is tidy depends only on its name, its book and its next number.
abbrev pub TidinessIsOfTheBook : Type 0
TidinessIsOfTheBook = (r s : Resident) → s.name ≡ r.name → s.book ≡ r.book → s.serial ≡ r.serial → IsTidy r → IsTidy s

-- ---- replies

-- A reply to a token or place of a tidy actor is owed to its book.
pub record TidyActorsTakeReplies : Type 0 where
  pub token : (r : Resident) (maker : Name) (number : ℕ) → IsTidy r → maker ≡ r.name → IsOwedToBook (Tok maker number) r.book
  pub place : (r : Resident) (maker : Name) (number at : ℕ) → IsTidy r → maker ≡ r.name → IsOwedToBook (Place maker number at) r.book

-- Whatever reply its book takes, the actor stays tidy.
abbrev pub RepliesLeaveActorsTidy : Type 0
RepliesLeaveActorsTidy =
    (r : Resident) (reply : Reply) (value : Value) → IsTidy r → IsTidy (record r { book = book_after_reply reply value r.book })

-- ---- handlers

-- the actor with what its handler left
abbrev pub actor_after_handler : Effects → Resident → Resident
actor_after_handler e r = record r { fields = e.fields; serial = e.serial; book = book_after_entry e.messages e.joins r.book }

-- The new messages and joins may enter the actor's book, and then it is tidy.
pub record EntersTidily (e : Effects) (r : Resident) : Type 0 where
  pub messages : may_follow (message_numbers e.messages) r.book ≡ true
  pub joins : may_follow (join_numbers e.joins) r.book ≡ true
  pub tidy : IsTidy (actor_after_handler e r)

-- So it is with what each call of a tidy actor does that fits, by what stands for a program.
abbrev pub HandlersLeaveActorsTidy : Type 0
HandlersLeaveActorsTidy =
    (m : Meaning) (p : Program) (c : Call) (e : Effects) (r : Resident) → StandsFor m p → CallFits m c → m.outcome c ≡ Done e
    → c.me ≡ r.name → c.serial ≡ r.serial → IsTidy r → EntersTidily e r

-- ---- tests

-- An actor is tidy exactly where all in its book passes the tests.
pub record TidinessIsTested : Type 0 where
  pub tidy :
      (r : Resident) → list_all (is_own_message r) r.book.messages ≡ true → list_all (is_low_join r) r.book.joins ≡ true → IsTidy r
  pub own : (r : Resident) → IsTidy r → list_all (is_own_message r) r.book.messages ≡ true
  pub low : (r : Resident) → IsTidy r → list_all (is_low_join r) r.book.joins ≡ true
