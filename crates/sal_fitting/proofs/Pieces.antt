-- Typed arguments: those that are ready fit, and a reply of its type keeps them typed.
use Rattle.std.proofs.Common.{◌≡◌, ℕ, suc, ◌+◌, ◌-◌, ◌≤◌, length, Bool, true, false, cond, ◌&&◌, nat_eq, List, [], ◌∷◌, map, Option, Some, None, refl, sym, ap, subst, ◌∙◌, arith}
use Rattle.std.specs.Prelude.{nat_le}
use Rattle.std.specs.List.{list_all}
use Rattle.std.proofs.lemmas.Bool.{eqb-true, eq-eqb, le-leb}
use Rattle.sal_value.specs.declared.value.Base.{Base}
use Rattle.sal_value.specs.declared.value.Base.TheVariants as base
use Rattle.sal_value.specs.declared.value.Sort.{Sort}
use Rattle.sal_value.specs.declared.value.Value.{Value, fold-roll-Value}
use Rattle.sal_value.specs.declared.value.Value.TheOpen.{Value-F}
use Rattle.sal_value.specs.declared.value.Value.TheVariants as v
use Rattle.sal_value.specs.Membership.{belongs_step, belongs_to, belongs}
use Rattle.sal_value.proofs.Equations.{belongs_array}
use Rattle.sal_mail.specs.declared.message.Piece.{Piece}
use Rattle.sal_mail.specs.declared.message.Piece.TheVariants.{Known, Token}
use Rattle.sal_mail.specs.declared.message.Reply.{Reply}
use Rattle.sal_mail.specs.declared.message.Target.{Target}
use Rattle.sal_mail.specs.declared.message.Target.TheVariants as target
use Rattle.sal_mail.specs.declared.message.Message.{Message}
use Rattle.sal_mail.specs.declared.message.Join.{Join}
use Rattle.sal_mail.specs.Message.{is_known, is_ready, is_none_left, piece_with_reply, known_values, with_reply, without_delay, slot_values, join_value}
use Rattle.sal_handler.specs.Fits.{fits_sort}
use Rattle.sal_value.specs.Spelling.{is_legal}
use Rattle.sal_handler.specs.WellFormed.{EachOf, IsLegalPiece}
use Rattle.sal_handler.specs.Calls.{Meaning}
use Rattle.sal_types.specs.declared.signature.Signature.{Signature}
use Rattle.sal_fitting.specs.Messages.{is_printable, may_print, IsPiece, ArePieces, ArePrintable, IsTypedTo, join_sort, IsSlotOf}
use Rattle.sal_fitting.specs.Runs.{FitsTo, HasArguments}
use Rattle.sal_fitting.specs.Signatures.{Signatures, signature_at, void_sort, are_of_sorts, fits_signature, Agrees}

pub both : (a b : Bool) → a ≡ true → b ≡ true → a && b ≡ true
both true true p q = refl
both true false p q = absurd cc
both false b p q = absurd cc

pub split : (a b : Bool) → a && b ≡ true → (a ≡ true) × (b ≡ true)
split true b e = (refl, e)
split false b e = absurd cc

abbrev Waits : Type 1
Waits = ℕ → Sort → Type 0

-- ---- what is ready fits

pub known_fit : (waits : ℕ → Sort → Type 0) (ss : List Sort) (ps : List Piece) → ArePieces waits ss ps → list_all is_known ps ≡ true → are_of_sorts ss (known_values ps) ≡ true
known_fit waits [] [] h k = refl
known_fit waits [] (p ∷ ps) h k = absurd h
known_fit waits (s ∷ ss) [] h k = absurd h
known_fit waits (s ∷ ss) (Known w ∷ ps) h k = both (fits_sort (Some s) w) (are_of_sorts ss (known_values ps)) h.0 (known_fit waits ss ps h.1 k)
known_fit waits (s ∷ ss) (Token n ∷ ps) h k = absurd cc

prints_fit : (waits : ℕ → Sort → Type 0) (ps : List Piece) → ArePrintable waits ps → list_all is_known ps ≡ true → may_print (known_values ps) ≡ true
prints_fit waits [] h k = refl
prints_fit waits (Known w ∷ []) h k = h
prints_fit waits (Token n ∷ []) h k = absurd cc
prints_fit waits (p ∷ q ∷ ps) h k = absurd h

pub signed : (o : Option Signature) (g : Signature) (args : List Value) → o ≡ Some g → fits_signature o args ≡ are_of_sorts g.params args
signed o g args e = ap (λ z. fits_signature z args) e

pub ready_fits : (p : Meaning) (sigs : Signatures) → Agrees sigs p → (owes : Reply → Sort → Type 0) (waits : ℕ → Sort → Type 0) (t : Target) (m : Message) → IsTypedTo sigs owes waits t m → is_ready m ≡ true → FitsTo p t m
ready_fits p sigs agrees owes waits (target.Actor n) m h r =
    let k = split (list_all is_known m.args) (is_none_left m.after) r in
    agrees.calls m.behavior m.handler (known_values m.args) ∙ signed (signature_at sigs m.behavior m.handler) h.signature (known_values m.args) h.is ∙ known_fit waits h.signature.params m.args h.args k.0
ready_fits p sigs agrees owes waits target.Output m h r =
    let k = split (list_all is_known m.args) (is_none_left m.after) r in
    both (nat_eq m.behavior 65535 && nat_le m.handler 1) (may_print (known_values m.args)) (both (nat_eq m.behavior 65535) (nat_le m.handler 1) (eq-eqb m.behavior 65535 h.behavior) (le-leb m.handler 1 h.handler)) (prints_fit waits m.args h.args k.0)

-- ---- values that fit are typed

pub all_known : (waits : ℕ → Sort → Type 0) (ss : List Sort) (vs : List Value) → are_of_sorts ss vs ≡ true → ArePieces waits ss (map (λ w. Known w) vs)
all_known waits [] [] e = tt
all_known waits [] (w ∷ ws) e = absurd cc
all_known waits (s ∷ ss) [] e = absurd cc
all_known waits (s ∷ ss) (w ∷ ws) e = let p = split (fits_sort (Some s) w) (are_of_sorts ss ws) e in (p.0, all_known waits ss ws p.1)

-- ---- what is weaker

piece_more : (waits waits' : ℕ → Sort → Type 0) → ((n : ℕ) (s : Sort) → waits n s → waits' n s) → (wants : Value → Bool) (p : Piece) → IsPiece waits wants p → IsPiece waits' wants p
piece_more waits waits' f wants (Known w) h = h
piece_more waits waits' f wants (Token n) h = record { sort = h.sort; owed = f n h.sort h.owed; covers = h.covers }

pieces_more : (waits waits' : ℕ → Sort → Type 0) → ((n : ℕ) (s : Sort) → waits n s → waits' n s) → (ss : List Sort) (ps : List Piece) → ArePieces waits ss ps → ArePieces waits' ss ps
pieces_more waits waits' f [] [] h = tt
pieces_more waits waits' f [] (p ∷ ps) h = absurd h
pieces_more waits waits' f (s ∷ ss) [] h = absurd h
pieces_more waits waits' f (s ∷ ss) (p ∷ ps) h = (piece_more waits waits' f (fits_sort (Some s)) p h.0, pieces_more waits waits' f ss ps h.1)

printed_more : (waits waits' : ℕ → Sort → Type 0) → ((n : ℕ) (s : Sort) → waits n s → waits' n s) → (ps : List Piece) → ArePrintable waits ps → ArePrintable waits' ps
printed_more waits waits' f [] h = tt
printed_more waits waits' f (p ∷ []) h = piece_more waits waits' f is_printable p h
printed_more waits waits' f (p ∷ q ∷ ps) h = absurd h

pub message_more : (sigs : Signatures) (owes owes' : Reply → Sort → Type 0) (waits waits' : ℕ → Sort → Type 0) → ((r : Reply) (s : Sort) → owes r s → owes' r s) → ((n : ℕ) (s : Sort) → waits n s → waits' n s) →
    (t : Target) (m : Message) → IsTypedTo sigs owes waits t m → IsTypedTo sigs owes' waits' t m
message_more sigs owes owes' waits waits' f g (target.Actor n) m h = record { signature = h.signature; is = h.is; args = pieces_more waits waits' g h.signature.params m.args h.args; reply = f m.reply h.signature.result h.reply }
message_more sigs owes owes' waits waits' f g target.Output m h = record { behavior = h.behavior; handler = h.handler; args = printed_more waits waits' g m.args h.args; reply = f m.reply void_sort h.reply }

pub undelayed_typed : (sigs : Signatures) (owes : Reply → Sort → Type 0) (waits : ℕ → Sort → Type 0) (t : Target) (m : Message) → IsTypedTo sigs owes waits t m → IsTypedTo sigs owes waits t (without_delay m)
undelayed_typed sigs owes waits (target.Actor n) m h = record { signature = h.signature; is = h.is; args = h.args; reply = h.reply }
undelayed_typed sigs owes waits target.Output m h = record { behavior = h.behavior; handler = h.handler; args = h.args; reply = h.reply }

-- ---- a reply comes

module _ (waits : ℕ → Sort → Type 0) (number : ℕ) (value : Value) (right : (s : Sort) → waits number s → fits_sort (Some s) value ≡ true) where
  told_piece : (wants : Value → Bool) (p : Piece) → IsPiece waits wants p → IsPiece waits wants (piece_with_reply number value p)
  told_piece wants (Known w) h = h
  told_piece wants (Token k) h = at (nat_eq k number) refl
    where
      at : (b : Bool) → nat_eq k number ≡ b → IsPiece waits wants (cond b (Known value) (Token k))
      at true e = h.covers value (right h.sort (subst (λ z. waits z h.sort) (eqb-true k number e) h.owed))
      at false e = h

  told_pieces : (ss : List Sort) (ps : List Piece) → ArePieces waits ss ps → ArePieces waits ss (map (piece_with_reply number value) ps)
  told_pieces [] [] h = tt
  told_pieces [] (p ∷ ps) h = absurd h
  told_pieces (s ∷ ss) [] h = absurd h
  told_pieces (s ∷ ss) (p ∷ ps) h = (told_piece (fits_sort (Some s)) p h.0, told_pieces ss ps h.1)

  told_printed : (ps : List Piece) → ArePrintable waits ps → ArePrintable waits (map (piece_with_reply number value) ps)
  told_printed [] h = tt
  told_printed (p ∷ []) h = told_piece is_printable p h
  told_printed (p ∷ q ∷ ps) h = absurd h

  pub told_typed : (sigs : Signatures) (owes : Reply → Sort → Type 0) (t : Target) (m : Message) → IsTypedTo sigs owes waits t m → IsTypedTo sigs owes waits t (with_reply number value m)
  told_typed sigs owes (target.Actor n) m h = record { signature = h.signature; is = h.is; args = told_pieces h.signature.params m.args h.args; reply = h.reply }
  told_typed sigs owes target.Output m h = record { behavior = h.behavior; handler = h.handler; args = told_printed m.args h.args; reply = h.reply }

-- ---- what a join gives

pub null_void : belongs v.Null void_sort ≡ true
unfolding belongs_to
null_void = ap (λ w. belongs_to w base.Void 0) (sym v.rolls-Null) ∙ ap (λ f. f base.Void 0) (fold-roll-Value (Base → ℕ → Bool) belongs_step Value-F.Null)

all_present : (item : Sort) (d : ℕ) → d ≡ item.dims → (ps : List (Option Value)) → EachOf (IsSlotOf item) ps → list_all (λ w. belongs_to w item.base d) (slot_values ps) ≡ true
all_present item d e [] h = refl
all_present item d e (None ∷ ps) h = all_present item d e ps h.1
all_present item d e (Some w ∷ ps) h =
    both (belongs_to w item.base d) (list_all (λ w. belongs_to w item.base d) (slot_values ps)) (ap (belongs_to w item.base) e ∙ (split _ (belongs w item) h.0).1) (all_present item d e ps h.1)

pub collected_typed : (j : Join) (item : Sort) → EachOf (IsSlotOf item) j.places → belongs (join_value j) (join_sort j.void item) ≡ true
collected_typed j item h = at j.void
  where
    at : (b : Bool) → belongs (cond b v.Null (v.Array (slot_values j.places))) (join_sort b item) ≡ true
    at true = null_void
    at false = belongs_array (slot_values j.places) item.base (item.dims + 1) (omega arith) ∙ all_present item (item.dims + 1 - 1) (omega arith) j.places h

-- ---- known arguments are legal

legal_pieces : (waits : ℕ → Sort → Type 0) (ss : List Sort) (ps : List Piece) → ArePieces waits ss ps → EachOf IsLegalPiece ps
legal_pieces waits [] [] h = tt
legal_pieces waits [] (p ∷ ps) h = absurd h
legal_pieces waits (s ∷ ss) [] h = absurd h
legal_pieces waits (s ∷ ss) (Known w ∷ ps) h = ((split (is_legal w) (belongs w s) h.0).0, legal_pieces waits ss ps h.1)
legal_pieces waits (s ∷ ss) (Token n ∷ ps) h = (tt, legal_pieces waits ss ps h.1)

legal_printed : (waits : ℕ → Sort → Type 0) (ps : List Piece) → ArePrintable waits ps → EachOf IsLegalPiece ps
legal_printed waits [] h = tt
legal_printed waits (Known w ∷ []) h = ((split (is_legal w) _ h).0, tt)
legal_printed waits (Token n ∷ []) h = (tt, tt)
legal_printed waits (p ∷ q ∷ ps) h = absurd h

pub args_legal : (sigs : Signatures) (owes : Reply → Sort → Type 0) (waits : ℕ → Sort → Type 0) (t : Target) (m : Message) → IsTypedTo sigs owes waits t m → EachOf IsLegalPiece m.args
args_legal sigs owes waits (target.Actor n) m h = legal_pieces waits h.signature.params m.args h.args
args_legal sigs owes waits target.Output m h = legal_printed waits m.args h.args

-- ---- how many arguments there are

as_many : (waits : ℕ → Sort → Type 0) (ts : List Sort) (ps : List Piece) → ArePieces waits ts ps → length ps ≡ length ts
as_many waits [] [] h = refl
as_many waits [] (p ∷ ps) h = absurd h
as_many waits (t ∷ ts) [] h = absurd h
as_many waits (t ∷ ts) (p ∷ ps) h = ap suc (as_many waits ts ps h.1)

few_printed : (waits : ℕ → Sort → Type 0) (ps : List Piece) → ArePrintable waits ps → length ps ≤ 1
few_printed waits [] h = omega arith
few_printed waits (p ∷ []) h = omega arith
few_printed waits (p ∷ q ∷ ps) h = absurd h

pub has_arguments : (sigs : Signatures) (owes : Reply → Sort → Type 0) (waits : ℕ → Sort → Type 0) (t : Target) (m : Message) → IsTypedTo sigs owes waits t m → HasArguments sigs t m
has_arguments sigs owes waits (target.Actor n) m h = (h.signature, (h.is, as_many waits h.signature.params m.args h.args))
has_arguments sigs owes waits target.Output m h = few_printed waits m.args h.args
