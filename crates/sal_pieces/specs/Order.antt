-- An image hangs on which pieces there are, and not on where they are.
use Rattle.std.specs.Prelude.{◌≡◌, ℕ, true, false, if◌then◌else◌, List, ◌∷◌}
use Rattle.sal_value.specs.declared.name.Name.{Name}
use Rattle.sal_value.specs.declared.name.Uan.{Uan}
use Rattle.sal_mail.specs.declared.effects.Creation.{Creation}
use Rattle.sal_source.specs.Keys.{creation_key}
use Rattle.sal_source.specs.Table.{TableKey, key_eq, total, HasSameItems}
use Rattle.sal_source.specs.Step.{bound_actor}
use Rattle.sal_book.specs.Book.{new_book}
use Rattle.sal_pieces.specs.Pieces.{Piece, Body, LooseCall, OwedReply, WaitingCreation, Put, Decision, ActorThing, CreationThing, decides, things}
use Rattle.sal_pieces.specs.Image.{History, image_of}
use Rattle.sal_pieces.specs.Once.{StandOnce}

-- The same pieces, in any order, make the same configuration, and no thing comes twice among them.
pub record ImagesForgetOrder : Type 0 where
  pub image : (ps qs : List Piece) (bound : List TableKey) (w : History) → HasSameItems ps qs
      → StandOnce (things ps) → image_of bound (things ps) w ≡ image_of bound (things qs) w
  pub once : (ps qs : List Piece) → HasSameItems ps qs → StandOnce (things ps)
      → StandOnce (things qs)

-- ---- creations

-- 1 where the piece is a creation that waits with this key, else 0
abbrev pub count_waiting : TableKey → Piece → ℕ
count_waiting key (WaitingCreation x) = if key_eq key (creation_key x) then 1 else 0
count_waiting key (Body a b) = 0
count_waiting key (LooseCall m) = 0
count_waiting key (OwedReply g) = 0
count_waiting key (Put k u) = 0
count_waiting key (Decision k b) = 0

-- neither the creation nor an answer to it is among these pieces
pub record IsAlone (key : TableKey) (rest : List Piece) : Type 0 where
  pub count_waiting : total (count_waiting key) rest ≡ 0
  pub bound : total (decides key true) rest ≡ 0
  pub refused : total (decides key false) rest ≡ 0

-- A creation is pending while it is asked for. Once it is bound there is the actor, which stands
-- then, with an empty book.
-- Once it is refused there is nothing.
pub record CreationsAreDecided : Type 0 where
  pub pending : (x : Name × Creation) (u : Uan) (rest : List Piece) → IsAlone (creation_key x) rest
      → things (WaitingCreation x ∷ Put (creation_key x) u ∷ rest) ≡ CreationThing x ∷ things rest
  pub bound : (x : Name × Creation) (rest : List Piece) → IsAlone (creation_key x) rest
      → things (WaitingCreation x ∷ Decision (creation_key x) true ∷ rest)
      ≡ ActorThing (bound_actor x.1, 0) ∷ things rest
  pub installed : (x : Name × Creation) (rest : List Piece) → IsAlone (creation_key x) rest
      → things (WaitingCreation x ∷ Decision (creation_key x) true ∷ rest)
      ≡ things (Body (bound_actor x.1, 0) new_book ∷ rest)
  pub refused : (x : Name × Creation) (rest : List Piece) → IsAlone (creation_key x) rest
      → things (WaitingCreation x ∷ Decision (creation_key x) false ∷ rest) ≡ things rest
