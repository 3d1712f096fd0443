-- Each step over pieces is a step of the image.
use Rattle.std.specs.Prelude.{◌≡◌, ℕ, ◌≤◌, Bool, true, false, ◌&&◌, if◌then◌else◌, List, [], ◌∷◌, ◌++◌, map, filter, flat_map, filter_map, Some}
use Rattle.std.specs.List.{list_all}
use Rattle.std.specs.FinMap as fm
use Rattle.std.specs.FinSet as fs
use Rattle.sal_value.specs.declared.name.Name.{Name}
use Rattle.sal_value.specs.declared.name.Name.TheVariants as name
use Rattle.sal_value.specs.declared.name.Uan.{Uan}
use Rattle.sal_value.specs.declared.name.Authority.{Authority}
use Rattle.sal_value.specs.declared.value.Value.{Value}
use Rattle.sal_value.specs.declared.value.Value.TheVariants.{Null}
use Rattle.sal_mail.specs.declared.message.Reply.{Reply}
use Rattle.sal_mail.specs.declared.message.Reply.TheVariants.{Nobody, Tok, Place, Outside}
use Rattle.sal_mail.specs.declared.message.Target.TheVariants as target
use Rattle.sal_mail.specs.declared.message.Message.{Message}
use Rattle.sal_mail.specs.declared.message.Join.{Join}
use Rattle.sal_mail.specs.declared.effects.Actor.{Actor}
use Rattle.sal_mail.specs.declared.effects.Creation.{Creation}
use Rattle.sal_mail.specs.declared.effects.Effects.{Effects}
use Rattle.sal_mail.specs.declared.fault.Fault.{Fault}
use Rattle.sal_mail.specs.declared.fault.FaultKind.{FaultKind}
use Rattle.sal_mail.specs.declared.fault.FaultKind.TheVariants.{Trap as Trapped, NoHandler, NameTaken}
use Rattle.sal_mail.specs.declared.fault.Trap.{Trap}
use Rattle.sal_mail.specs.ReplyKeys.{reply_key}
use Rattle.sal_mail.specs.Message.{is_ready}
use Rattle.sal_handler.specs.Calls.{Call}
use Rattle.sal_handler.specs.WellFormed.{IsOrderly}
use Rattle.sal_handler.specs.declared.turn.Outcome.{Outcome}
use Rattle.sal_handler.specs.declared.turn.Outcome.TheVariants as outcome
use Rattle.sal_source.specs.Table.{TableKey, key_cmp, Table, write, total, HasSameItems}
use Rattle.sal_source.specs.Keys.{name_key, made_key, join_key, creation_key}
use Rattle.sal_source.specs.Give.{DueReply, settle_all_answers}
use Rattle.sal_source.specs.Posts.{fits_post, post_message}
use Rattle.sal_source.specs.Step.{understands, call_of, message_text, answer_replies, are_fresh, is_served, print_step, post_step, handle_step, bind_step, refuse_step}
use Rattle.sal_book.specs.Book.{Book, is_open, new_book, book_after_entry, released_by_entry, full_replies}
use Rattle.sal_pieces.specs.Pieces.{Piece, Body, LooseCall, WaitingCreation, OwedReply, Put, Decision, Thing, loose_call, released_pieces, decides, things}
use Rattle.sal_pieces.specs.Image.{History, anonymous_in, waiting_after_replies, image_of}
use Rattle.sal_pieces.specs.Once.{message_key_in, join_key_in, creation_key_in, actor_key_in, count_at_key, count_owed, StandOnce}
use Rattle.sal_pieces.specs.Order.{IsAlone}
use Rattle.sal_pieces.specs.Entering.{is_own, count_strays, count_joins}

-- ---- what a step tells

-- What the later world told beyond the earlier one: texts, faults and answers; and the number of
-- its last post.
pub record Continues (w v : History) (texts : List (List ℕ)) (failures : List Fault)
    (replies : List (ℕ × Value)) (last : ℕ) : Type 0 where
  pub output : v.output ≡ w.output ++ texts
  pub faults : v.faults ≡ w.faults ++ failures
  pub answers : v.answers ≡ w.answers ++ replies
  pub posted : v.posted ≡ last

-- these joins are open besides; of two with one number the first stays
abbrev pub with_opened : List (Name × Join) → Table (Name × Join) → Table (Name × Join)
with_opened [] t = t
with_opened (j ∷ js) t = write (with_opened js t) (join_key j) (Some j)

-- the answers that a world lists for a step's replies, where these joins were open and the step
-- opened those
abbrev pub answers_of_replies : Table (Name × Join) → List (Name × Join) → List DueReply
    → List (ℕ × Value)
answers_of_replies joins opened gs = settle_all_answers gs
    (record { messages = fm.empty; joins = with_opened opened joins })

-- the joins that are open in the image of these pieces
abbrev pub open_joins_in : List Piece → Table (Name × Join)
open_joins_in ps = (waiting_after_replies (things ps)).joins

abbrev pub fault_of : FaultKind → Message → Fault
fault_of kind m = record { maker = m.maker; serial = m.serial; kind = kind }

-- ---- printing

-- The call goes, its text is told, and null is owed to its reply.
pub record PrintsAreSteps : Type 0 where
  pub step :
      (m : Message) (rest : List Piece) (bound : List TableKey) (w v : History) → is_ready m ≡ true
      → m.target ≡ target.Output
      → StandOnce (things (loose_call m ∷ rest))
      → Continues w v (message_text m ∷ []) []
      (answers_of_replies (open_joins_in (loose_call m ∷ rest)) []
      ((m.reply, Null) ∷ [])) w.posted
      → print_step m.maker m.serial (image_of bound (things (loose_call m ∷ rest)) w)
      ≡ Some (image_of bound (things (OwedReply (m.reply, Null) ∷ rest)) v)
  pub once : (m : Message) (rest : List Piece) → StandOnce (things (loose_call m ∷ rest))
      → StandOnce (things (OwedReply (m.reply, Null) ∷ rest))

-- ---- a handler that leaves nothing but a fault

-- The call goes, and its fault is told.
pub record FailuresAreSteps : Type 0 where
  pub no_handler :
      (outcomes : Call → Outcome) (m : Message) (a : Actor × ℕ) (b : Book) (rest : List Piece)
      (bound : List TableKey) (w v : History) → is_ready m ≡ true
      → m.target ≡ target.Actor a.0.name → understands a.0 m ≡ false
      → StandOnce (things (loose_call m ∷ Body a b ∷ rest))
      → Continues w v [] (fault_of NoHandler m ∷ []) [] w.posted
      → handle_step outcomes m.maker m.serial []
      (image_of bound (things (loose_call m ∷ Body a b ∷ rest)) w)
      ≡ Some (image_of bound (things (Body a b ∷ rest)) v)
  pub trap :
      (outcomes : Call → Outcome) (m : Message) (a : Actor × ℕ) (b : Book) (kind : Trap)
      (rest : List Piece) (bound : List TableKey) (w v : History) → is_ready m ≡ true
      → m.target ≡ target.Actor a.0.name → understands a.0 m ≡ true
      → outcomes (call_of m a []) ≡ outcome.Trap kind
      → StandOnce (things (loose_call m ∷ Body a b ∷ rest))
      → Continues w v [] (fault_of (Trapped kind) m ∷ []) [] w.posted
      → handle_step outcomes m.maker m.serial []
      (image_of bound (things (loose_call m ∷ Body a b ∷ rest)) w)
      ≡ Some (image_of bound (things (Body a b ∷ rest)) v)
  pub once : (m : Message) (rest : List Piece) → StandOnce (things (loose_call m ∷ rest))
      → StandOnce (things rest)

-- ---- posts

-- The call of a post that fits is there, where nothing has its number yet.
pub record PostsAreSteps : Type 0 where
  pub step :
      (fits : Bool) (number : ℕ) (to : Uan) (behavior handler : ℕ) (args : List Value)
      (rest : List Piece) (bound : List TableKey) (w v : History)
      → fits && fits_post w.posted number to behavior args ≡ true → Continues w v [] [] [] number
      → post_step fits number to behavior handler args (image_of bound (things rest) w)
      ≡ Some (image_of bound (things (loose_call
      (post_message number to behavior handler args) ∷ rest)) v)
  pub once :
      (number : ℕ) (to : Uan) (behavior handler : ℕ) (args : List Value) (rest : List Piece)
      → StandOnce (things rest)
      → count_at_key message_key_in (made_key (name.Outside number) 0) (things rest) ≡ 0
      → total (count_owed (reply_key (Outside number))) (things rest) ≡ 0
      → StandOnce (things (loose_call (post_message number to behavior handler args) ∷ rest))

-- ---- creations

-- the names that were ever given: of anonymous actors among these pieces, and these that were bound
abbrev pub names_given : List TableKey → List Piece → fs.FinSet key_cmp
names_given bound ps = fs.from_list (filter_map anonymous_in (things ps) ++ bound)

abbrev pub creation_name : Name × Creation → TableKey
creation_name x = name_key (name.Uan x.1.name)

abbrev pub refusal_fault : Name × Creation → Fault
refusal_fault x = record { maker = x.0; serial = x.1.serial; kind = NameTaken }

-- A question that is answered is a step: the creation is bound where its name was never given, else
-- it is refused.
pub record BindingsAreSteps : Type 0 where
  pub bind :
      (authorities : List Authority) (x : Name × Creation) (u : Uan) (rest : List Piece)
      (bound later : List TableKey) (w v : History) → IsAlone (creation_key x) rest
      → is_served authorities x.1.name ≡ true
      → fs.contains (names_given bound rest) (creation_name x) ≡ false
      → HasSameItems later (creation_name x ∷ bound)
      → StandOnce (things (WaitingCreation x ∷ Put (creation_key x) u ∷ rest))
      → Continues w v [] [] [] w.posted
      → bind_step authorities x.0 x.1.serial
      (image_of bound (things (WaitingCreation x ∷ Put (creation_key x) u ∷ rest)) w)
      ≡ Some (image_of later (things (WaitingCreation x ∷ Decision (creation_key x) true ∷ rest)) v)
  pub bound_once :
      (x : Name × Creation) (u : Uan) (rest : List Piece) → IsAlone (creation_key x) rest
      → count_at_key actor_key_in (creation_name x) (things rest) ≡ 0
      → StandOnce (things (WaitingCreation x ∷ Put (creation_key x) u ∷ rest))
      → StandOnce (things (WaitingCreation x ∷ Decision (creation_key x) true ∷ rest))
  pub refuse :
      (x : Name × Creation) (u : Uan) (rest : List Piece) (bound : List TableKey) (w v : History)
      → IsAlone (creation_key x) rest
      → fs.contains (names_given bound rest) (creation_name x) ≡ true
      → StandOnce (things (WaitingCreation x ∷ Put (creation_key x) u ∷ rest))
      → Continues w v [] (refusal_fault x ∷ []) [] w.posted
      → refuse_step x.0 x.1.serial (image_of bound
      (things (WaitingCreation x ∷ Put (creation_key x) u ∷ rest)) w)
      ≡ Some (image_of bound (things (WaitingCreation x ∷ Decision
      (creation_key x) false ∷ rest)) v)
  pub refused_once :
      (x : Name × Creation) (u : Uan) (rest : List Piece) → IsAlone (creation_key x) rest
      → StandOnce (things (WaitingCreation x ∷ Put (creation_key x) u ∷ rest))
      → StandOnce (things (WaitingCreation x ∷ Decision (creation_key x) false ∷ rest))

-- ---- handling

-- the actor's own token or place with a number from this one on
abbrev pub IsLate : Name → ℕ → Reply → Type 0
IsLate me from Nobody = ⊥
IsLate me from (Tok owner n) = (owner ≡ me) × (from ≤ n)
IsLate me from (Place owner join at) = (owner ≡ me) × (from ≤ join)
IsLate me from (Outside n) = ⊥

-- Nothing that the actor made has a number from this one on, and nothing is owed to such a number.
pub record IsBelow (me : Name) (from : ℕ) (ts : List Thing) : Type 0 where
  pub messages : (k : ℕ) → from ≤ k → count_at_key message_key_in (made_key me k) ts ≡ 0
  pub joins : (k : ℕ) → from ≤ k → count_at_key join_key_in (made_key me k) ts ≡ 0
  pub creations : (k : ℕ) → from ≤ k → count_at_key creation_key_in (made_key me k) ts ≡ 0
  pub replies : (r : Reply) → IsLate me from r → total (count_owed (reply_key r)) ts ≡ 0

-- no creation of the actor with a number from this one on is answered
abbrev pub NoneIsDecided : Name → ℕ → List Piece → Type 0
NoneIsDecided me from ps = (k : ℕ) (b : Bool) → from ≤ k → total (decides (made_key me k) b) ps ≡ 0

abbrev pub actor_names : List Actor → List Name
actor_names actors = map (λ a. a.name) actors

-- the joins that stay open, each with its maker
abbrev pub open_joins_of : Name → List Join → List (Name × Join)
open_joins_of maker joins = map (λ j. (maker, j)) (filter is_open joins)

-- the replies that a step gives: the arrays of full joins that are legal, by number, and then the
-- answer
abbrev pub legal_step_replies : Effects → Reply → List DueReply
legal_step_replies e reply = full_replies e.joins ++ answer_replies e.answer reply

-- the messages that wait for nothing, the arrays of full joins, and the answer
abbrev pub handler_pieces : Effects → Reply → List Piece
handler_pieces e reply = released_pieces (released_by_entry e.messages e.joins) ++ map OwedReply
    (answer_replies e.answer reply)

-- the actor after its handler, and its next number
abbrev pub actor_after : Effects → Actor × ℕ → Actor × ℕ
actor_after e a = (record a.0 { fields = e.fields }, e.serial)

abbrev pub new_actor_piece : Actor → Piece
new_actor_piece x = Body (x, 0) new_book

-- a creation waits for its theatre, and its name is asked for if there is such a service
abbrev pub creation_pieces : (Creation → Bool) → Name → Creation → List Piece
creation_pieces asks me x = WaitingCreation (me, x) ∷
    (if asks x then Put (made_key me x.serial) x.name ∷ [] else [])

-- What the handler leaves: the actor, whose book what waits has entered; the new actors; the
-- creations; and, to be
-- routed, what waits for nothing, the arrays of full joins, and the answer.
abbrev pub pieces_after : (Creation → Bool) → Effects → Message → Actor × ℕ → Book → List Piece
pieces_after asks e m a b =
    Body (actor_after e a) (book_after_entry e.messages e.joins b)
    ∷ (map new_actor_piece e.actors ++
    (flat_map (creation_pieces asks a.0.name) e.creations ++ handler_pieces e m.reply))

-- What a step needs: a ready call to the actor, which understands it and does this with just the
-- names that it takes;
-- the effects are orderly, and nothing of the actor stands from its next number on.
pub record IsHandlerStep (outcomes : Call → Outcome) (sizes : List ℕ) (e : Effects) (m : Message)
    (a : Actor × ℕ) (b : Book) (rest : List Piece) (bound : List TableKey) : Type 0 where
  pub ready : is_ready m ≡ true
  pub target : m.target ≡ target.Actor a.0.name
  pub understood : understands a.0 m ≡ true
  pub done : outcomes (call_of m a (actor_names e.actors)) ≡ outcome.Done e
  pub orderly : IsOrderly sizes (call_of m a (actor_names e.actors)) e
  pub fresh : are_fresh (actor_names e.actors) (names_given bound (loose_call m ∷ Body a b ∷ rest))
      ≡ true
  pub below : IsBelow a.0.name a.1 (things (loose_call m ∷ Body a b ∷ rest))
  pub undecided : NoneIsDecided a.0.name a.1 rest
  pub stands : StandOnce (things (loose_call m ∷ Body a b ∷ rest))

-- A handler's turn, before anything is routed, is the step.
pub record HandlersAreSteps : Type 0 where
  pub step :
      (outcomes : Call → Outcome) (sizes : List ℕ) (e : Effects) (m : Message) (a : Actor × ℕ)
      (b : Book) (asks : Creation → Bool) (rest : List Piece)
      (bound : List TableKey) (w v : History) → IsHandlerStep outcomes sizes e m a b rest bound
      → Continues w v [] [] (answers_of_replies (open_joins_in (loose_call m ∷ Body a b ∷ rest))
      (open_joins_of a.0.name e.joins) (legal_step_replies e m.reply)) w.posted
      → handle_step outcomes m.maker m.serial (actor_names e.actors)
      (image_of bound (things (loose_call m ∷ Body a b ∷ rest)) w)
      ≡ Some (image_of bound (things (pieces_after asks e m a b ++ rest)) v)
  pub once :
      (outcomes : Call → Outcome) (sizes : List ℕ) (e : Effects) (m : Message) (a : Actor × ℕ)
      (b : Book) (asks : Creation → Bool) (rest : List Piece)
      (bound : List TableKey) → IsHandlerStep outcomes sizes e m a b rest bound
      → StandOnce (things (pieces_after asks e m a b ++ rest))

-- What was below stays so: of another actor nothing new stands from any number on, and of this one
-- nothing from its new
-- next number on.
abbrev pub HandlersKeepBelow : Type 0
HandlersKeepBelow =
    (outcomes : Call → Outcome) (sizes : List ℕ) (e : Effects) (m : Message) (a : Actor × ℕ)
    (b : Book) (asks : Creation → Bool) (rest : List Piece)
    (bound : List TableKey) → IsHandlerStep outcomes sizes e m a b rest bound
    → (n : Name) (from : ℕ) → IsBelow n from (things (loose_call m ∷ Body a b ∷ rest))
    → (n ≡ a.0.name → e.serial ≤ from)
    → IsBelow n from (things (pieces_after asks e m a b ++ rest))

-- ---- tidy pieces

-- 0 where a book has its actor's own messages and open joins, and what is loose is ready; else 1
abbrev pub count_untidy : Piece → ℕ
count_untidy (Body a b) = if list_all
    (is_own a.0.name) b.messages && list_all is_open b.joins then 0 else 1
count_untidy (LooseCall m) = if is_ready m then 0 else 1
count_untidy (OwedReply g) = 0
count_untidy (WaitingCreation x) = 0
count_untidy (Put k u) = 0
count_untidy (Decision k b) = 0

-- Where all pieces are tidy, nothing of an actor waits but in its book: this is what replies that
-- enter books need.
-- And a handler leaves tidy pieces.
pub record PiecesAreTidy : Type 0 where
  pub beside :
      (a : Actor × ℕ) (b : Book) (others : List Piece) → total count_untidy (Body a b ∷ others) ≡ 0
      → StandOnce (things (Body a b ∷ others))
      → ((list_all (is_own a.0.name) b.messages ≡ true) × (list_all is_open b.joins ≡ true))
      × ((total (count_strays a.0.name) (things others) ≡ 0)
      × (total (count_joins a.0.name) (things others) ≡ 0))
  pub handled :
      (outcomes : Call → Outcome) (sizes : List ℕ) (e : Effects) (m : Message) (a : Actor × ℕ)
      (b : Book) (asks : Creation → Bool) (rest : List Piece)
      (bound : List TableKey) → IsHandlerStep outcomes sizes e m a b rest bound
      → total count_untidy (loose_call m ∷ Body a b ∷ rest) ≡ 0
      → total count_untidy (pieces_after asks e m a b ++ rest) ≡ 0
