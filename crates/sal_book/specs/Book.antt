-- The book of an actor: its messages that wait, and its open joins.
use Rattle.std.specs.Prelude.{◌≡◌, ℕ, Bool, true, false, ◌&&◌, not, cond, if◌then◌else◌, nat_eq, nat_lt, List, [], ◌∷◌, ◌++◌, map, filter, filter_map, All, Option, Some, None, refl}
use Rattle.std.specs.List.{list_all}
use Rattle.std.specs.Coded.{Coded, code_by, coded×, coded_list}
use Rattle.sal_value.specs.declared.name.Name.{Name}
use Rattle.sal_value.specs.declared.value.Value.{Value}
use Rattle.sal_value.specs.Spelling.{is_legal}
use Rattle.sal_mail.specs.declared.message.Reply.{Reply}
use Rattle.sal_mail.specs.declared.message.Reply.TheVariants.{Nobody, Tok, Place, Outside}
use Rattle.sal_mail.specs.declared.message.Message.{Message}
use Rattle.sal_mail.specs.contracts.message.Message.{the_row as message_row}
use Rattle.sal_mail.specs.declared.message.Join.{Join}
use Rattle.sal_mail.specs.contracts.message.Join.{the_row as join_row}
use Rattle.sal_mail.specs.Message.{is_ready, with_reply, with_slot, is_full, join_value}
use Rattle.sal_book.specs.declared.released.Released.{Released}

-- Messages and joins, both by rising numbers.
pub record Book : Type 0 where
  pub messages : List Message
  pub joins : List Join

abbrev pub book_code : Coded Book
book_code =
    code_by
    (List Message × List Join)
    (coded× (coded_list message_row.coded) (coded_list join_row.coded))
    (λ b. (b.messages, b.joins))
    (λ p. record { messages = p.0; joins = p.1 })
    (λ _. refl)

abbrev pub new_book : Book
new_book = record { messages = []; joins = [] }

abbrev pub none_released : Released
none_released = record { messages = []; replies = [] }

-- ---- numbers

abbrev pub message_numbers : List Message → List ℕ
message_numbers = map (λ m. m.serial)

abbrev pub join_numbers : List Join → List ℕ
join_numbers = map (λ j. j.number)

-- each number is above those before it
abbrev pub rise : List ℕ → Bool
rise [] = true
rise (n ∷ ns) = list_all (nat_lt n) ns && rise ns

-- each of the latter numbers is above all of the former
abbrev pub are_below : List ℕ → List ℕ → Bool
are_below lower upper = list_all (λ n. list_all (nat_lt n) upper) lower

-- the numbers of all messages and joins that the book keeps
abbrev pub book_numbers : Book → List ℕ
book_numbers b = message_numbers b.messages ++ join_numbers b.joins

-- the numbers rise and are above those of all that the book keeps
abbrev pub may_follow : List ℕ → Book → Bool
may_follow numbers b = rise numbers && are_below (book_numbers b) numbers

-- ---- entering

abbrev pub is_waiting : Message → Bool
is_waiting m = not (is_ready m)

abbrev pub is_open : Join → Bool
is_open j = not (is_full j)

-- what a full join gives on
abbrev pub join_reply : Join → Reply × Value
join_reply j = (j.reply, join_value j)

abbrev pub is_legal_reply : Reply × Value → Bool
is_legal_reply g = is_legal g.1

-- the replies of those of the joins that are full; an array that isn't legal is given to nobody
abbrev pub full_replies : List Join → List (Reply × Value)
full_replies js = filter is_legal_reply (map join_reply (filter is_full js))

-- what waits is kept
abbrev pub book_after_entry : List Message → List Join → Book → Book
book_after_entry messages joins b = record { messages = b.messages ++ filter is_waiting messages; joins = b.joins ++ filter is_open joins }

-- and the rest is released
abbrev pub released_by_entry : List Message → List Join → Released
released_by_entry messages joins = record { messages = filter is_ready messages; replies = full_replies joins }

-- ---- giving

-- The reply is owed to a token or a place of the actor that made the book's messages.
abbrev pub IsOwedToBook : Reply → Book → Type 0
IsOwedToBook Nobody b = ⊥
IsOwedToBook (Outside number) b = ⊥
IsOwedToBook (Tok maker number) b = All (λ m. m.maker ≡ maker) b.messages
IsOwedToBook (Place maker number at) b = All (λ m. m.maker ≡ maker) b.messages

-- it is the join with this number
abbrev pub has_number : ℕ → Join → Bool
has_number number j = nat_eq j.number number

-- a full join is open no more
abbrev pub if_open : Join → Option Join
if_open j = cond (is_full j) None (Some j)

-- what is left of a join once the value came to this slot of the join with this number
abbrev pub join_after : ℕ → ℕ → Value → Join → Option Join
join_after number at value j = cond (has_number number j) (if_open (with_slot at value j)) (Some j)

-- the join with this number, with the value in this slot
abbrev pub filled_joins : ℕ → ℕ → Value → List Join → List Join
filled_joins number at value js = map (with_slot at value) (filter (has_number number) js)

-- The book after a legal value: messages that are ready, and the join that is full, leave.
abbrev pub book_after_legal : Reply → Value → Book → Book
book_after_legal Nobody value b = b
book_after_legal (Outside number) value b = b
book_after_legal (Tok maker number) value b = record b { messages = filter is_waiting (map (with_reply number value) b.messages) }
book_after_legal (Place maker number at) value b = record b { joins = filter_map (join_after number at value) b.joins }

-- and what leaves it
abbrev pub released_by_legal : Reply → Value → Book → Released
released_by_legal Nobody value b = none_released
released_by_legal (Outside number) value b = none_released
released_by_legal (Tok maker number) value b = record { messages = filter is_ready (map (with_reply number value) b.messages); replies = [] }
released_by_legal (Place maker number at) value b = record { messages = []; replies = full_replies (filled_joins number at value b.joins) }

-- a value that isn't legal changes nothing
abbrev pub book_after_reply : Reply → Value → Book → Book
book_after_reply reply value b = if is_legal value then book_after_legal reply value b else b

-- and releases nothing
abbrev pub released_by_reply : Reply → Value → Book → Released
released_by_reply reply value b = if is_legal value then released_by_legal reply value b else none_released
