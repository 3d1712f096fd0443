-- Each step of a theatre is a step of the image of all pieces, and what it routes isn't seen.
use Rattle.std.specs.Prelude.{◌≡◌, ℕ, Bool, true, false, ◌&&◌, List, [], ◌∷◌, ◌++◌, slice_get, Option, Some}
use Rattle.std.specs.List.{list_all}
use Rattle.std.specs.FinMap as fm
use Rattle.sal_value.specs.declared.name.Name.TheVariants as name
use Rattle.sal_value.specs.declared.name.Uan.{Uan}
use Rattle.sal_value.specs.declared.value.Value.{Value}
use Rattle.sal_value.specs.declared.value.Value.TheVariants.{Null}
use Rattle.sal_mail.specs.declared.message.Reply.{Reply}
use Rattle.sal_mail.specs.declared.message.Reply.TheVariants.{Outside}
use Rattle.sal_mail.specs.declared.message.Target.TheVariants as target
use Rattle.sal_mail.specs.declared.message.Message.{Message}
use Rattle.sal_mail.specs.declared.effects.Effects.{Effects}
use Rattle.sal_mail.specs.declared.fault.Trap.{Trap}
use Rattle.sal_mail.specs.declared.fault.FaultKind.TheVariants.{Trap as Trapped, NoHandler}
use Rattle.sal_mail.specs.ReplyKeys.{reply_key}
use Rattle.sal_handler.specs.Calls.{Meaning}
use Rattle.sal_handler.specs.declared.turn.Outcome.TheVariants as outcome
use Rattle.sal_source.specs.declared.state.Step.TheVariants.{Post}
use Rattle.sal_source.specs.Table.{TableKey, total}
use Rattle.sal_source.specs.Keys.{name_key, made_key}
use Rattle.sal_source.specs.Configuration.{Configuration}
use Rattle.sal_source.specs.Posts.{fits_post, post_message}
use Rattle.sal_source.specs.Step.{understands, call_of, message_text, answer_replies, print_step, post_step, handle_step}
use Rattle.sal_resident.specs.declared.resident.Resident.{Resident}
use Rattle.sal_pieces.specs.Pieces.{Piece, OwedReply, loose_call, things}
use Rattle.sal_pieces.specs.Image.{History, image}
use Rattle.sal_pieces.specs.Once.{message_key_in, count_at_key, count_owed}
use Rattle.sal_pieces.specs.Steps.{Continues, answers_of_replies, open_joins_in, open_joins_of, legal_step_replies, fault_of, pieces_after, IsHandlerStep}
use Rattle.sal_routing.specs.State.{Theatre, Desk, actor_of, desk, log, with_work}
use Rattle.sal_routing.specs.Routing.{call_made, route}
use Rattle.sal_routing.specs.Handling.{names_of, take_effect, fail, print_message, without_ready}
use Rattle.sal_world.specs.Pieces.{body_of}
use Rattle.sal_unseen.specs.Desks.{desk_pieces}
use Rattle.sal_unseen.specs.Unseen.{IsUnseen, is_sendable, is_sendable_due, is_sendable_join, ReadyMessagesFit, IsInOrder}
use Rattle.sal_unseen.specs.Handlers.{asks_in, others_of, AreNewHere}

-- where the step is possible, each ready message fits after it
abbrev pub FitsAfter : Meaning → Option Configuration → Type 0
FitsAfter p o = (c : Configuration) → o ≡ Some c → ReadyMessagesFit p c.waiting

-- The step leads from the former pieces to those that were stepped to. Nothing is seen of what made the desk of these,
-- beside others, and all is in order then.
pub record IsStepTurn (p : Meaning) (step : Configuration → Option Configuration) (bound : List TableKey) (before stepped : List Piece)
    (w v : History) (e : Desk) (rest : List Piece) : Type 0 where
  pub steps : step (image bound before w) ≡ Some (image bound stepped v)
  pub unseen : IsUnseen stepped (desk_pieces e ++ rest)
  pub order : IsInOrder p e rest

-- ---- printing

-- A ready message to the output is printed, and the reply null is routed.
abbrev pub PrintTurnsAreSteps : Type 0
PrintTurnsAreSteps =
    (p : Meaning) (m : Message) (i : ℕ) (t : Theatre) (rest : List Piece) (bound : List TableKey) (w v : History)
    → slice_get t.ready i ≡ Some m → m.target ≡ target.Output → is_sendable m.reply ≡ true → IsInOrder p (desk t) rest
    → FitsAfter p (print_step m.maker m.serial (image bound (desk_pieces (desk t) ++ rest) w))
    → Continues w v (message_text m ∷ []) []
    (answers_of_replies (open_joins_in (desk_pieces (desk t) ++ rest)) [] ((m.reply, Null) ∷ [])) w.posted
    → IsStepTurn p (print_step m.maker m.serial) bound (desk_pieces (desk t) ++ rest)
    (OwedReply (m.reply, Null) ∷ (desk_pieces (desk (without_ready i t)) ++ rest)) w v
    (print_message p m (desk (without_ready i t))) rest

-- ---- handling

-- the ready call at this place goes to this actor, which stands here
pub record IsCallTo (m : Message) (i : ℕ) (r : Resident) (t : Theatre) : Type 0 where
  pub ready : slice_get t.ready i ≡ Some m
  pub target : m.target ≡ target.Actor r.name
  pub here : fm.get t.residents (name_key r.name) ≡ Some r

-- the replies of the joins that a handler leaves, and its answer, can be sent but for the sizes of their values
pub record LeavesSendable (e : Effects) (reply : Reply) : Type 0 where
  pub joins : list_all is_sendable_join e.joins ≡ true
  pub answer : list_all is_sendable_due (answer_replies e.answer reply) ≡ true

-- the same effects, with this number for the next anonymous actor of a theatre
abbrev pub with_fresh : ℕ → Effects → Effects
with_fresh n e = record e { fresh = n }

-- A handler's effects are installed, and what it leaves is routed, whatever number the theatre's next anonymous actor has.
abbrev pub HandlerTurnsAreSteps : Type 0
HandlerTurnsAreSteps =
    (p : Meaning) (sizes : List ℕ) (e : Effects) (next : ℕ) (m : Message) (i : ℕ) (r : Resident) (t : Theatre) (rest : List Piece)
    (bound : List TableKey) (w v : History) → IsCallTo m i r t
    → IsHandlerStep p.outcome sizes e m (actor_of r, r.serial) r.book (others_of i r t ++ rest) bound
    → AreNewHere e r t → LeavesSendable e m.reply → IsInOrder p (desk t) rest
    → FitsAfter p (handle_step p.outcome m.maker m.serial (names_of e.actors) (image bound (desk_pieces (desk t) ++ rest) w))
    → Continues w v [] []
    (answers_of_replies (open_joins_in (desk_pieces (desk t) ++ rest)) (open_joins_of r.name e.joins) (legal_step_replies e m.reply))
    w.posted
    → IsStepTurn p (handle_step p.outcome m.maker m.serial (names_of e.actors)) bound (desk_pieces (desk t) ++ rest)
    (pieces_after (asks_in t) e m (actor_of r, r.serial) r.book ++ (others_of i r t ++ rest)) w v
    (take_effect p (with_fresh next e) m r (desk (without_ready i t))) rest

-- A call that its actor doesn't understand, or whose handler traps, leaves nothing but a fault.
pub record FailingTurnsAreSteps : Type 0 where
  pub no_handler :
      (p : Meaning) (m : Message) (i : ℕ) (r : Resident) (t : Theatre) (rest : List Piece) (bound : List TableKey) (w v : History)
      → IsCallTo m i r t → understands (actor_of r) m ≡ false → IsInOrder p (desk t) rest
      → FitsAfter p (handle_step p.outcome m.maker m.serial [] (image bound (desk_pieces (desk t) ++ rest) w))
      → Continues w v [] (fault_of NoHandler m ∷ []) [] w.posted
      → IsStepTurn p (handle_step p.outcome m.maker m.serial []) bound (desk_pieces (desk t) ++ rest)
      (body_of r ∷ (others_of i r t ++ rest)) w v (fail NoHandler m (desk (without_ready i t))) rest
  pub trap :
      (p : Meaning) (kind : Trap) (m : Message) (i : ℕ) (r : Resident) (t : Theatre) (rest : List Piece) (bound : List TableKey)
      (w v : History) → IsCallTo m i r t → understands (actor_of r) m ≡ true
      → p.outcome (call_of m (actor_of r, r.serial) []) ≡ outcome.Trap kind → IsInOrder p (desk t) rest
      → FitsAfter p (handle_step p.outcome m.maker m.serial [] (image bound (desk_pieces (desk t) ++ rest) w))
      → Continues w v [] (fault_of (Trapped kind) m ∷ []) [] w.posted
      → IsStepTurn p (handle_step p.outcome m.maker m.serial []) bound (desk_pieces (desk t) ++ rest)
      (body_of r ∷ (others_of i r t ++ rest)) w v (fail (Trapped kind) m (desk (without_ready i t))) rest

-- ---- posts

-- nothing has the maker of this post yet, and nothing is owed to it
pub record IsNewPost (number : ℕ) (ps : List Piece) : Type 0 where
  pub message : count_at_key message_key_in (made_key (name.Outside number) 0) (things ps) ≡ 0
  pub reply : total (count_owed (reply_key (Outside number))) (things ps) ≡ 0

-- The call of a post that fits is routed.
abbrev pub PostTurnsAreSteps : Type 0
PostTurnsAreSteps =
    (p : Meaning) (fits : Bool) (number : ℕ) (to : Uan) (behavior handler : ℕ) (args : List Value) (t : Theatre) (rest : List Piece)
    (bound : List TableKey) (w v : History) → fits && fits_post w.posted number to behavior args ≡ true
    → IsNewPost number (desk_pieces (desk t) ++ rest) → IsInOrder p (desk t) rest
    → FitsAfter p (post_step fits number to behavior handler args (image bound (desk_pieces (desk t) ++ rest) w))
    → Continues w v [] [] [] number
    → IsStepTurn p (post_step fits number to behavior handler args) bound (desk_pieces (desk t) ++ rest)
    (loose_call (post_message number to behavior handler args) ∷ (desk_pieces (desk t) ++ rest)) w v
    (route p (with_work (call_made (post_message number to behavior handler args) ∷ []) (log (Post number to behavior handler args) (desk t)))) rest
