-- What belongs and is legal fits.
use Rattle.std.proofs.Common.{◌≡◌, ℕ, true, List, [], ◌∷◌, map, Option, Some, None, refl, sym, subst, inl, inr, ◌&&◌, ◌∙◌}
use Rattle.sal_value.specs.declared.value.Sort.{Sort}
use Rattle.sal_value.specs.declared.value.Value.{Value}
use Rattle.sal_value.specs.Membership.{belongs}
use Rattle.sal_value.specs.Spelling.{is_legal}
use Rattle.sal_ast.specs.declared.program.Behavior.{Behavior}
use Rattle.sal_ast.specs.Members.{Field, fields_of}
use Rattle.sal_ast.specs.Sorts.{fields_in, type_sort}
use Rattle.sal_mail.specs.declared.message.Piece.{Piece}
use Rattle.sal_mail.specs.declared.message.Piece.TheVariants.{Known, Token}
use Rattle.sal_mail.specs.declared.message.Target.{Target}
use Rattle.sal_mail.specs.declared.message.Target.TheVariants as target
use Rattle.sal_mail.specs.declared.message.Message.{Message}
use Rattle.sal_handler.specs.Scopes.{Context}
use Rattle.sal_handler.specs.Fits.{fits_sort, sorts_of}
use Rattle.sal_handler.specs.WellFormed.{EachOf, Legal, IsLegalPiece}
use Rattle.sal_fitting.specs.Messages.{is_printable_form, is_printable, ArePieces, ArePrintable, IsTypedCallTo, IsTypedTo, IsTypedMessage}
use Rattle.sal_fitting.specs.Programs.{field_sorts}
use Rattle.sal_fitting.specs.Signatures.{Signatures, are_of_sorts, fits_sorts}
use Rattle.sal_types.specs.Signatures.{cons_some, all_some}
use Rattle.sal_types.specs.declared.signature.Signature.{Signature}
use Rattle.sal_value.specs.declared.value.Base.{Base}
use Rattle.sal_value.specs.declared.value.Base.TheVariants as base
use Rattle.sal_value.specs.declared.value.Value.{out-Value}
use Rattle.sal_value.specs.declared.value.Value.TheOpen.{Value-F}
use Rattle.sal_value.specs.Membership.{belongs_alone, belongs_to}
use Rattle.sal_value.proofs.Equations.{belongs_zero}
use Rattle.sal_fitting.proofs.Pieces.{both, split}
use Rattle.sal_preservation.specs.States.{AreFields}
use Rattle.sal_soundness.proofs.Sending.{Sorts, PrintedSort, PrintsMade, AreMade, CallMade, MadeTo, MessageMade, WaitsIn, OwesIn}

-- ---- belonging and legality together

pub pieces_fit : (waits : ℕ → Sort → Type 0) (ts : List Sort) (ps : List Piece) → AreMade waits ts ps → EachOf IsLegalPiece ps → ArePieces waits ts ps
pieces_fit waits [] [] m l = tt
pieces_fit waits [] (p ∷ ps) m l = absurd m
pieces_fit waits (t ∷ ts) [] m l = absurd m
pieces_fit waits (t ∷ ts) (Known y ∷ ps) m l = (both (is_legal y) (belongs y t) l.0 m.0, pieces_fit waits ts ps m.1 l.1)
pieces_fit waits (t ∷ ts) (Token n ∷ ps) m l = (record { sort = t; owed = m.0; covers = λ y e. e }, pieces_fit waits ts ps m.1 l.1)

module _ (bs : List Behavior) (sigs : Signatures) (g : Signature) (from : ℕ) where
  pub call_fits : (sorts : Sorts) (r : Context) (y : Message) → CallMade bs sigs g from sorts r y → EachOf IsLegalPiece y.args →
      IsTypedCallTo sigs (OwesIn bs sigs g from sorts r) (WaitsIn bs sigs g from sorts r) y
  call_fits sorts r y m l = record { signature = m.signature; is = m.is; args = pieces_fit (WaitsIn bs sigs g from sorts r) m.signature.params y.args m.args l; reply = m.reply }

fields_fit : (bs : List Behavior) (fs : List Field) (ys : List Value) → AreFields bs fs ys → EachOf Legal ys → fits_sorts (all_some (sorts_of bs (map (λ f. f.sort) fs))) ys ≡ true
fields_fit bs [] [] a l = refl
fields_fit bs [] (y ∷ ys) a l = absurd a
fields_fit bs (f ∷ fs) [] a l = absurd a
fields_fit bs (f ∷ fs) (y ∷ ys) a l = at (type_sort f.sort bs) a.0.1.0 (fields_fit bs fs ys a.1 l.1)
  where
    more : (o : Option (List Sort)) → fits_sorts o ys ≡ true → fits_sorts (cons_some (Some a.0.0) o) (y ∷ ys) ≡ true
    more None e = absurd cc
    more (Some ts) e = both (fits_sort (Some a.0.0) y) (are_of_sorts ts ys) (both (is_legal y) (belongs y a.0.0) l.0 a.0.1.1) e

    at : (o : Option Sort) → o ≡ Some a.0.0 → fits_sorts (all_some (sorts_of bs (map (λ q. q.sort) fs))) ys ≡ true → fits_sorts (all_some (o ∷ sorts_of bs (map (λ q. q.sort) fs))) (y ∷ ys) ≡ true
    at o is e = subst (λ z. fits_sorts (all_some (z ∷ sorts_of bs (map (λ q. q.sort) fs))) (y ∷ ys) ≡ true) (sym is) (more (all_some (sorts_of bs (map (λ q. q.sort) fs))) e)

-- a state of a behaviour that the program has
pub state_fits : (bs : List Behavior) (o : Option Behavior) (b : Behavior) → o ≡ Some b → (ys : List Value) → AreFields bs (fields_in o) ys → EachOf Legal ys → fits_sorts (field_sorts bs o) ys ≡ true
state_fits bs None b e ys a l = absurd cc
state_fits bs (Some q) b e ys a l = fields_fit bs (fields_of q) ys a l

-- ---- prints

printed_int : (l : Value-F Value) → belongs_alone l base.Int ≡ true → is_printable_form l ≡ true
printed_int (Value-F.Int n) e = refl
printed_int (Value-F.Bool b) e = absurd cc
printed_int (Value-F.Str w) e = absurd cc
printed_int (Value-F.Array xs) e = absurd cc
printed_int (Value-F.Ref n) e = absurd cc
printed_int Value-F.Null e = absurd cc

printed_bool : (l : Value-F Value) → belongs_alone l base.Bool ≡ true → is_printable_form l ≡ true
printed_bool (Value-F.Bool b) e = refl
printed_bool (Value-F.Int n) e = absurd cc
printed_bool (Value-F.Str w) e = absurd cc
printed_bool (Value-F.Array xs) e = absurd cc
printed_bool (Value-F.Ref n) e = absurd cc
printed_bool Value-F.Null e = absurd cc

printed_text : (l : Value-F Value) → belongs_alone l base.Str ≡ true → is_printable_form l ≡ true
printed_text (Value-F.Str w) e = refl
printed_text (Value-F.Int n) e = absurd cc
printed_text (Value-F.Bool b) e = absurd cc
printed_text (Value-F.Array xs) e = absurd cc
printed_text (Value-F.Ref n) e = absurd cc
printed_text Value-F.Null e = absurd cc

covered : (b : Base) → ((l : Value-F Value) → belongs_alone l b ≡ true → is_printable_form l ≡ true) → (y : Value) → is_legal y && belongs_to y b 0 ≡ true → is_printable y ≡ true
covered b f y e = let q = split (is_legal y) (belongs_to y b 0) e in both (is_legal y) (is_printable_form (out-Value y)) q.0 (f (out-Value y) (sym (belongs_zero y b 0 refl) ∙ q.1))

-- so a token of such a type may be printed
pub print_covers : (t : Sort) → PrintedSort t → (y : Value) → fits_sort (Some t) y ≡ true → is_printable y ≡ true
print_covers t (inl e) y h = covered base.Int printed_int y (subst (λ z. fits_sort (Some z) y ≡ true) (sym e) h)
print_covers t (inr (inl e)) y h = covered base.Bool printed_bool y (subst (λ z. fits_sort (Some z) y ≡ true) (sym e) h)
print_covers t (inr (inr e)) y h = covered base.Str printed_text y (subst (λ z. fits_sort (Some z) y ≡ true) (sym e) h)

prints_fit : (waits : ℕ → Sort → Type 0) (ps : List Piece) → PrintsMade waits ps → EachOf IsLegalPiece ps → ArePrintable waits ps
prints_fit waits [] h l = tt
prints_fit waits (Known y ∷ []) h l = print_covers h.0 h.1.0 y (both (is_legal y) (belongs y h.0) l.0 h.1.1)
prints_fit waits (Token n ∷ []) h l = record { sort = h.0; owed = h.1.1; covers = print_covers h.0 h.1.0 }
prints_fit waits (p ∷ q ∷ ps) h l = absurd h

module _ (bs : List Behavior) (sigs : Signatures) (g : Signature) (from : ℕ) where
  -- a message whose known arguments are legal
  pub message_fits : (sorts : Sorts) (r : Context) (y : Message) → MessageMade bs sigs g from sorts r y → EachOf IsLegalPiece y.args → IsTypedMessage sigs (OwesIn bs sigs g from sorts r) (WaitsIn bs sigs g from sorts r) y
  message_fits sorts r y h l = by y.target h
    where
      by : (to : Target) → MadeTo bs sigs g from sorts r to y → IsTypedTo sigs (OwesIn bs sigs g from sorts r) (WaitsIn bs sigs g from sorts r) to y
      by (target.Actor n) h = call_fits bs sigs g from sorts r y h l
      by target.Output h = record { behavior = h.behavior; handler = h.handler; args = prints_fit (WaitsIn bs sigs g from sorts r) y.args h.args l; reply = h.reply }
