-- What a handler's turn makes of the pieces of its theatre, before anything is routed.
use Rattle.std.specs.Prelude.{◌≡◌, ℕ, ◌≤◌, Bool, true, false, ◌&&◌, List, ◌∷◌, ◌++◌, map, remove, slice_get, Option, Some, None, is_some}
use Rattle.std.specs.FinMap as fm
use Rattle.sal_value.specs.declared.name.Name.{Name}
use Rattle.sal_value.specs.declared.name.Ual.{Ual}
use Rattle.sal_value.specs.Table.{write}
use Rattle.sal_mail.specs.declared.message.Message.{Message}
use Rattle.sal_mail.specs.declared.effects.Creation.{Creation}
use Rattle.sal_mail.specs.declared.effects.Effects.{Effects}
use Rattle.sal_mail.specs.declared.envelope.Envelope.TheVariants as envelope
use Rattle.sal_handler.specs.WellFormed.{EachOf, one_if_same}
use Rattle.sal_source.specs.Table.{total, HasSameItems}
use Rattle.sal_source.specs.Keys.{name_key, made_key}
use Rattle.sal_source.specs.Give.{DueReply}
use Rattle.sal_source.specs.Step.{are_different}
use Rattle.sal_directory.specs.Nodes.{service_of}
use Rattle.sal_resident.specs.declared.resident.Resident.{Resident}
use Rattle.sal_pieces.specs.Pieces.{Piece, loose_call}
use Rattle.sal_pieces.specs.Steps.{pieces_after}
use Rattle.sal_routing.specs.State.{Theatre, actor_of, desk, tell_given, with_work}
use Rattle.sal_routing.specs.Fits.{is_here}
use Rattle.sal_routing.specs.Handling.{destination, installed, create_all, handler_work, names_of, without_ready}
use Rattle.sal_world.specs.Pieces.{body_of, theatre_pieces}
use Rattle.sal_unseen.specs.Desks.{desk_pieces, IsSentWhole}

-- the locator under which the new actor is to stand
abbrev pub place_of : Theatre → Creation → Option Ual
place_of t x = slice_get t.plan.theatres (destination x t)

-- a creation's name is asked for where there is its naming service, and a theatre for the actor
abbrev pub asks_in : Theatre → Creation → Bool
asks_in t x = is_some (service_of t.plan x.name) && is_some (place_of t x)

-- the theatre without its ready call at this place, and without this actor
abbrev pub without_both : ℕ → Resident → Theatre → Theatre
without_both i r t = record t { ready = remove t.ready i; residents = write t.residents (name_key r.name) None }

-- what there is beside the call and the actor's body
abbrev pub others_of : ℕ → Resident → Theatre → List Piece
others_of i r t = map loose_call r.mailbox ++ theatre_pieces (λ x. true) (without_both i r t)

-- where a name is asked for, the question is sent whole
abbrev pub PutIsWhole : Name → Creation → Option ℕ → Option Ual → Type 0
PutIsWhole maker x (Some service) (Some place) = IsSentWhole (envelope.Put maker x.serial x.name place)
PutIsWhole maker x _ _ = Unit {0}

-- New actors stand nowhere here, and each is another. No creation is pending under a new number, no number comes twice, and
-- names that are asked for are sent whole.
pub record AreNewHere (e : Effects) (r : Resident) (t : Theatre) : Type 0 where
  pub actors : EachOf (λ x. is_here x.name t ≡ false) e.actors
  pub different : are_different (names_of e.actors) ≡ true
  pub creations : EachOf (λ x. fm.get t.pending (made_key r.name x.serial) ≡ None) e.creations
  pub once : (k : ℕ) → total (λ x. one_if_same k x.serial) e.creations ≤ 1
  pub puts : EachOf (λ x. PutIsWhole r.name x (service_of t.plan x.name) (place_of t x)) e.creations

-- The desk before the handler has the call, the body and the others; before anything is routed it has what the handler
-- leaves in their place.
pub record HandlersLeavePieces : Type 0 where
  pub before :
      (m : Message) (i : ℕ) (r : Resident) (t : Theatre) → slice_get t.ready i ≡ Some m
      → fm.get t.residents (name_key r.name) ≡ Some r
      → HasSameItems (desk_pieces (desk t)) (loose_call m ∷ body_of r ∷ others_of i r t)
  pub after :
      (e : Effects) (m : Message) (i : ℕ) (r : Resident) (t : Theatre) (gs : List DueReply)
      → fm.get t.residents (name_key r.name) ≡ Some r → AreNewHere e r t
      → HasSameItems
      (desk_pieces (with_work (handler_work e m.reply) (create_all r.name e.creations (tell_given gs (installed e m r (desk (without_ready i t)))))))
      (pieces_after (asks_in t) e m (actor_of r, r.serial) r.book ++ others_of i r t)
