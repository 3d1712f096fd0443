-- Routing: one list of calls and replies, from its front.
use Rattle.std.specs.Prelude.{ℕ, zero, suc, ◌+◌, Bool, if◌then◌else◌, nat_eq, nat_lt, List, [], ◌∷◌, ◌++◌, map, length, is_some, Option, Some, None, unwrap_or}
use Rattle.std.specs.FinMap as fm
use Rattle.sal_value.specs.declared.name.Name.{Name}
use Rattle.sal_value.specs.declared.name.Name.TheVariants as name
use Rattle.sal_value.specs.declared.name.Uan.{Uan}
use Rattle.sal_value.specs.declared.value.Value.{Value}
use Rattle.sal_value.specs.Order.{uan_key}
use Rattle.sal_value.specs.Spelling.{is_legal}
use Rattle.sal_value.specs.Table.{TableKey, Table, write}
use Rattle.sal_mail.specs.declared.message.Reply.{Reply}
use Rattle.sal_mail.specs.declared.message.Reply.TheVariants.{Nobody, Tok, Place, Outside}
use Rattle.sal_mail.specs.declared.message.Target.{Target}
use Rattle.sal_mail.specs.declared.message.Target.TheVariants as target
use Rattle.sal_mail.specs.declared.message.Message.{Message}
use Rattle.sal_mail.specs.declared.envelope.Envelope.TheVariants as envelope
use Rattle.sal_mail.specs.Message.{without_delay}
use Rattle.sal_handler.specs.Calls.{Meaning}
use Rattle.sal_source.specs.Table.{sum_values}
use Rattle.sal_source.specs.Keys.{name_key}
use Rattle.sal_book.specs.declared.released.Released.{Released}
use Rattle.sal_book.specs.Book.{Book, book_after_reply, released_by_reply}
use Rattle.sal_resident.specs.declared.resident.Resident.{Resident}
use Rattle.sal_move.specs.Places.{hop}
use Rattle.sal_node.specs.declared.constants.TheConstants.{FIRST_SERVICE}
use Rattle.sal_directory.specs.Nodes.{service_of}
use Rattle.sal_routing.specs.declared.item.Item.{Item}
use Rattle.sal_routing.specs.declared.item.Item.TheVariants.{Call, Answer}
use Rattle.sal_routing.specs.declared.pending.Asking.TheVariants.{Awaited}
use Rattle.sal_routing.specs.declared.pending.Question.{Question}
use Rattle.sal_routing.specs.State.{Theatre, Desk, envelope_of, send, tell_answer, with_work, make_ready, moment}
use Rattle.sal_routing.specs.Fits.{fits_call, fits_print}

-- ---- the next hop of a name that isn't here

-- another node than this one
abbrev pub elsewhere : ℕ → Option ℕ → Option ℕ
elsewhere me None = None
elsewhere me (Some node) = if nat_eq node me then None else Some node

-- Anonymous actors never leave their theatre, which their names tell; others are where they are known to be.
unfoldable pub next_hop : Name → Theatre → Option ℕ
next_hop (name.Anon theatre number) t = if nat_lt theatre (length t.plan.theatres) then elsewhere t.me (Some theatre) else None
next_hop (name.Uan u) t = elsewhere t.me (hop u t.places)
next_hop (name.Outside number) t = None

-- ---- holding, and asking for a name

abbrev pub was_asked : Uan → Theatre → Bool
was_asked u t = is_some (fm.get t.questions (uan_key u))

abbrev pub put_question : Question → Theatre → Theatre
put_question q t = record t { questions = write t.questions (uan_key q.name) (Some q) }

abbrev pub awaited : Uan → Question
awaited u = record { name = u; asking = Awaited }

-- this naming service of the plan is asked for the name
unfoldable pub ask : ℕ → Uan → Desk → Desk
ask service u d = send (FIRST_SERVICE + service) (envelope.Get u) (record d { theatre = put_question (awaited u) d.theatre })

-- a name whose naming service isn't in the plan is never asked for
abbrev pub ask_if_new : Option ℕ → Uan → Desk → Desk
ask_if_new None u d = d
ask_if_new (Some service) u d = if was_asked u d.theatre then d else ask service u d

-- the first time that a name is held, its naming service is asked for it
unfoldable pub ask_first : Name → Desk → Desk
ask_first (name.Uan u) d = ask_if_new (service_of d.theatre.plan u) u d
ask_first (name.Anon theatre number) d = d
ask_first (name.Outside number) d = d

-- what is held for a name, in the order in which it was held
abbrev pub held_for : TableKey → Table (List Item) → List Item
held_for key held = unwrap_or (fm.get held key) []

unfoldable pub put_held : Name → Item → Desk → Desk
put_held n i d =
    record d {
      theatre = record d.theatre { held = write d.theatre.held (name_key n) (Some (held_for (name_key n) d.theatre.held ++ i ∷ [])) };
    }

unfoldable pub hold : Name → Item → Desk → Desk
hold n i d = ask_first n (put_held n i d)

-- to the next hop, or it is held
abbrev pub send_by : Option ℕ → Name → Item → Desk → Desk
send_by (Some node) n i d = send node (envelope_of i) d
send_by None n i d = hold n i d

unfoldable pub send_on : Name → Item → Desk → Desk
send_on n i d = send_by (next_hop n d.theatre) n i d

-- ---- calls

-- a delayed message waits until the clock has gone on so far
unfoldable pub put_delayed : Message → Desk → Desk
put_delayed m d =
    record d { theatre = record d.theatre { delayed = d.theatre.delayed ++ (moment (d.theatre.clock + m.delay), without_delay m) ∷ [] } }

-- what doesn't fit is dropped
abbrev pub ready_if : Bool → Message → Desk → Desk
ready_if fits m d = if fits then make_ready m d else d

abbrev pub call_to : Meaning → Option Resident → Name → ℕ → Message → Desk → Desk
call_to p (Some r) n hops m d = ready_if (fits_call p m) m d
call_to p None n hops m d = send_on n (Call hops m) d

abbrev pub route_to : Meaning → Target → ℕ → Message → Desk → Desk
route_to p target.Output hops m d = ready_if (fits_print m) m d
route_to p (target.Actor n) hops m d = call_to p (fm.get d.theatre.residents (name_key n)) n hops m d

unfoldable pub route_call : Meaning → ℕ → Message → Desk → Desk
route_call p hops m d = if nat_lt 0 m.delay then put_delayed m d else route_to p m.target hops m d

-- ---- replies

-- What was released was made here. Messages come before replies.
abbrev pub call_made : Message → Item
call_made m = Call 0 m

abbrev pub answer_made : Reply × Value → Item
answer_made g = Answer 0 g.0 g.1

unfoldable pub released_items : Released → List Item
released_items x = map call_made x.messages ++ map answer_made x.replies

-- this resident at the name
abbrev pub put_resident_at : Name → Resident → Theatre → Theatre
put_resident_at n r t = record t { residents = write t.residents (name_key n) (Some r) }

abbrev pub put_resident : Resident → Theatre → Theatre
put_resident r t = put_resident_at r.name r t

abbrev pub with_book : Book → Resident → Resident
with_book b r = record r { book = b }

-- The reply enters its owner's book, and what it releases joins the end of the list. A value that isn't legal does
-- nothing there.
abbrev pub enter_book : Name → Reply → Value → Resident → Desk → Desk
enter_book n reply v r d =
    with_work (released_items (released_by_reply reply v r.book))
    (record d { theatre = put_resident_at n (with_book (book_after_reply reply v r.book) r) d.theatre })

abbrev pub answer_to : Option Resident → Name → ℕ → Reply → Value → Desk → Desk
answer_to (Some r) n hops reply v d = enter_book n reply v r d
answer_to None n hops reply v d = send_on n (Answer hops reply v) d

unfoldable pub give_owner : Name → ℕ → Reply → Value → Desk → Desk
give_owner n hops reply v d = answer_to (fm.get d.theatre.residents (name_key n)) n hops reply v d

-- An answer to the outside is told here, where it is legal. A reply to an actor elsewhere goes on, whatever its value:
-- only where it comes to its owner's book the value must be legal.
unfoldable pub route_answer : ℕ → Reply → Value → Desk → Desk
route_answer hops Nobody v d = d
route_answer hops (Outside number) v d = if is_legal v then tell_answer number v d else d
route_answer hops (Tok owner number) v d = give_owner owner hops (Tok owner number) v d
route_answer hops (Place owner join at) v d = give_owner owner hops (Place owner join at) v d

-- ---- the list

unfoldable pub route_item : Meaning → Item → Desk → Desk
route_item p (Call hops m) d = route_call p hops m d
route_item p (Answer hops reply v) d = route_answer hops reply v d

abbrev pub route_front : Meaning → List Item → Desk → Desk
route_front p [] d = d
route_front p (i ∷ items) d = route_item p i (record d { work = items })

-- the first item of the list is routed, if there is one
unfoldable pub route_one : Meaning → Desk → Desk
route_one p d = route_front p d.work d

unfoldable pub route_many : Meaning → ℕ → Desk → Desk
route_many p zero d = d
route_many p (suc n) d = route_many p n (route_one p d)

-- how many messages and joins a book holds back
abbrev pub held_back : Book → ℕ
held_back b = length b.messages + length b.joins

-- how many items can be routed at most: those of the list, and one for each message and join that waits here
unfoldable pub items_left : Desk → ℕ
items_left d = length d.work + sum_values (λ r. held_back r.book) d.theatre.residents

-- the list is routed to its end
unfoldable pub route : Meaning → Desk → Desk
route p d = route_many p (items_left d) d

-- ---- what is held for a name

-- what is held for the name joins the end of the list, in the order in which it was held
unfoldable pub release_held : Name → Desk → Desk
release_held n d =
    record d {
      theatre = record d.theatre { held = write d.theatre.held (name_key n) None };
      work = d.work ++ held_for (name_key n) d.theatre.held;
    }
