-- A theatre's whole turn is nothing, or one step of the image of all pieces.
use Rattle.std.specs.Prelude.{◌≡◌, ℕ, true, false, ◌⊎◌, List, [], ◌∷◌, ◌++◌, slice_get, Some}
use Rattle.std.specs.FinMap as fm
use Rattle.sal_value.specs.declared.name.Name.TheVariants as name
use Rattle.sal_value.specs.declared.name.Uan.{Uan}
use Rattle.sal_value.specs.declared.value.Value.TheVariants.{Null}
use Rattle.sal_mail.specs.declared.message.Message.{Message}
use Rattle.sal_mail.specs.declared.message.Target.{Target}
use Rattle.sal_mail.specs.declared.message.Target.TheVariants as target
use Rattle.sal_mail.specs.declared.effects.Effects.{Effects}
use Rattle.sal_mail.specs.declared.fault.FaultKind.{FaultKind}
use Rattle.sal_mail.specs.declared.fault.FaultKind.TheVariants.{Trap as Trapped, NoHandler}
use Rattle.sal_handler.specs.Calls.{Meaning}
use Rattle.sal_handler.specs.WellFormed.{IsOldReply}
use Rattle.sal_handler.specs.Renaming.{HasNew}
use Rattle.sal_handler.specs.declared.turn.Outcome.{Outcome}
use Rattle.sal_handler.specs.declared.turn.Outcome.TheVariants as outcome
use Rattle.sal_source.specs.declared.state.Step.{Step}
use Rattle.sal_source.specs.declared.state.Setup.{Setup}
use Rattle.sal_source.specs.Table.{TableKey}
use Rattle.sal_source.specs.Keys.{name_key}
use Rattle.sal_source.specs.Step.{understands, message_text, are_fresh, print_step, handle_step, step as step_of}
use Rattle.sal_resident.specs.declared.resident.Resident.{Resident}
use Rattle.sal_resident.specs.Coding.{resident_in_range}
use Rattle.sal_pieces.specs.Pieces.{Piece, things, loose_call}
use Rattle.sal_pieces.specs.Image.{History, image}
use Rattle.sal_pieces.specs.Steps.{Continues, IsBelow, NoneIsDecided, answers_of_replies, open_joins_in, open_joins_of, legal_step_replies, fault_of, names_given}
use Rattle.sal_routing.specs.State.{Theatre, Desk, actor_of, desk, nothing}
use Rattle.sal_routing.specs.Arrivals.{leaving}
use Rattle.sal_routing.specs.Handling.{call_at, may_be_called, names_of, take_effect, without_ready, finished, step}
use Rattle.sal_routing.specs.Turns.{clock, is_time, move_actor}
use Rattle.sal_world.specs.Pieces.{body_of}
use Rattle.sal_unseen.specs.Desks.{desk_pieces}
use Rattle.sal_unseen.specs.Unseen.{is_sendable, IsInOrder, StaysInOrder}
use Rattle.sal_unseen.specs.Handlers.{others_of, AreNewHere}
use Rattle.sal_unseen.specs.Steps.{FitsAfter, IsStepTurn, LeavesSendable}
use Rattle.sal_unseen.specs.Calls.{TakesNamesOnly}

-- ---- what each way asks for

-- The ready message at this place of the theatre, beside these pieces, leads from one history to another.
module _ (p : Meaning) (m : Message) (i : ℕ) (t : Theatre) (rest : List Piece) (bound : List TableKey) (w v : History) where
  -- where it is printed
  pub record PrintsWell : Type 0 where
    pub sendable : is_sendable m.reply ≡ true
    pub fit : FitsAfter p (print_step m.maker m.serial (image bound (desk_pieces (desk t) ++ rest) w))
    pub told : Continues w v (message_text m ∷ []) []
        (answers_of_replies (open_joins_in (desk_pieces (desk t) ++ rest)) [] ((m.reply, Null) ∷ [])) w.posted

  -- where nothing is left of it but this fault
  pub record FailsWell (kind : FaultKind) : Type 0 where
    pub fit : FitsAfter p (handle_step p.outcome m.maker m.serial [] (image bound (desk_pieces (desk t) ++ rest) w))
    pub told : Continues w v [] (fault_of kind m ∷ []) [] w.posted

  -- where it is handled with these effects
  pub record EndsWell (r : Resident) (e : Effects) : Type 0 where
    pub fresh : are_fresh (names_of e.actors) (names_given bound (loose_call m ∷ body_of r ∷ (others_of i r t ++ rest))) ≡ true
    pub below : IsBelow r.name r.serial (things (loose_call m ∷ body_of r ∷ (others_of i r t ++ rest)))
    pub undecided : NoneIsDecided r.name r.serial (others_of i r t ++ rest)
    pub new : AreNewHere e r t
    pub sends : LeavesSendable e m.reply
    pub fit : FitsAfter p (handle_step p.outcome m.maker m.serial (names_of e.actors) (image bound (desk_pieces (desk t) ++ rest) w))
    pub told : Continues w v [] []
        (answers_of_replies (open_joins_in (desk_pieces (desk t) ++ rest)) (open_joins_of r.name e.joins) (legal_step_replies e m.reply))
        w.posted
    -- as it would move
    pub range : (d : Desk) → d ≡ take_effect p e m r (desk (without_ready i t)) → (q : Resident)
        → fm.get d.theatre.residents (name_key r.name) ≡ Some q → resident_in_range (leaving q d.theatre) ≡ true

  abbrev pub OutcomeIsWell : Resident → Outcome → Type 0
  OutcomeIsWell r (outcome.Done e) = EndsWell r e
  OutcomeIsWell r (outcome.Trap kind) = FailsWell (Trapped kind)

  -- where this actor gets it
  pub record HandlesWell (r : Resident) : Type 0 where
    pub old : IsOldReply r.name r.serial m.reply
    pub may : may_be_called p (call_at m r t) ≡ true
    pub new : HasNew (call_at m r t)
    pub unknown : understands (actor_of r) m ≡ false → FailsWell NoHandler
    pub known : understands (actor_of r) m ≡ true → OutcomeIsWell r (p.outcome (call_at m r t))

  abbrev pub TargetIsWell : Target → Type 0
  TargetIsWell target.Output = PrintsWell
  TargetIsWell (target.Actor n) = (r : Resident) → fm.get t.residents (name_key n) ≡ Some r → HandlesWell r

-- ---- the turn

-- The turn before it is offered: its desk, and the step of the image that it is.
pub record IsStepMade (p : Meaning) (setup : Setup) (i : ℕ) (t : Theatre) (rest : List Piece) (bound : List TableKey) (w v : History) : Type 0 where
  pub made : Desk
  pub taken : Step
  pub turn : step p i t ≡ finished t true made
  pub stepped : List Piece
  pub is : IsStepTurn p (λ c. step_of p setup c taken) bound (desk_pieces (desk t) ++ rest) stepped w v made rest

-- Whatever the turn finds: nothing changes, or it is one step, an actor's move after it included.
abbrev pub StepTurnsAreSteps : Type 0
StepTurnsAreSteps =
    (sizes : List ℕ) (p : Meaning) (setup : Setup) (i : ℕ) (t : Theatre) (rest : List Piece) (bound : List TableKey) (w v : History)
    → TakesNamesOnly sizes p → IsInOrder p (desk t) rest
    → ((m : Message) → slice_get t.ready i ≡ Some m → TargetIsWell p m i t rest bound w v m.target)
    → (step p i t ≡ nothing t) ⊎ IsStepMade p setup i t rest bound w v

-- ---- turns that are no steps

-- The turn of the clock, before it is offered.
abbrev pub ClockTurnsAreUnseen : Type 0
ClockTurnsAreUnseen =
    (p : Meaning) (ms : ℕ) (t : Theatre) (rest : List Piece) → IsInOrder p (desk t) rest
    → (d : Desk) × (clock p ms t ≡ finished t (is_time ms t) d) × StaysInOrder p (desk t) rest d rest

-- An actor that is moved from outside, where it may be.
abbrev pub MoveTurnsAreUnseen : Type 0
MoveTurnsAreUnseen =
    (p : Meaning) (u : Uan) (to : ℕ) (t : Theatre) (rest : List Piece)
    → ((r : Resident) → fm.get t.residents (name_key (name.Uan u)) ≡ Some r → resident_in_range (leaving r t) ≡ true)
    → IsInOrder p (desk t) rest
    → (move_actor u to t ≡ nothing t) ⊎ ((d : Desk) × (move_actor u to t ≡ finished t true d) × StaysInOrder p (desk t) rest d rest)
