-- A text is covered by tokens, or it is refused: the cut goes on until it ends or a rule is violated.
use Rattle.std.proofs.Common.{◌≡◌, inl, inr, ◌⊎◌, ℕ, zero, suc, ◌+◌, ◌-◌, ◌<◌, ◌≤◌, Bool, true, false, List, [], ◌∷◌, length, drop, refl, ap, sym, ◌∙◌, subst, length-drop, arith, true≢false}
use Rattle.std.specs.Prelude.{nat_le}
use Rattle.std.specs.Str.{IsUtf8, is_utf8}
use Rattle.std.specs.Str.Lossy.{utf8_valid_len}
use Rattle.std.proofs.lemmas.Str.{IsUtf8-from_is_utf8, is_utf8-from_IsUtf8}
use Rattle.std.proofs.lemmas.Bool.{leb-true, leb-false}
use Rattle.sal_ast.specs.declared.constants.TheConstants.{LONGEST_PROGRAM}
use Rattle.sal_text.specs.declared.token.LexRule.{LexRule}
use Rattle.sal_text.specs.declared.token.LexRule.TheVariants as rule
use Rattle.sal_text.specs.declared.token.Token.{Token}
use Rattle.sal_text.specs.declared.piece.Scan.{Scan}
use Rattle.sal_text.specs.declared.piece.Scan.TheVariants as piece
use Rattle.sal_text.specs.Tokens.{Covers}
use Rattle.sal_text.specs.Refusals.{Refuses}
use Rattle.sal_text.specs.code.Scanning.{scan_from}
use Rattle.sal_text.specs.Uniqueness.{CoveredOrRefused}
use Rattle.sal_text.specs.code.Scanned.{IsScanOf}
use Rattle.sal_text.proofs.Sound.{found}
use Rattle.sal_text.proofs.Steps.{Reached, begun, reached_between, reached_token, reached_end, reached_refusal}

abbrev Answer : List ℕ → Type 0
Answer text = ((tokens : List Token) × Covers text tokens) ⊎ ((rule : LexRule) × ((at : ℕ) × Refuses rule at text))

module _ (text : List ℕ) (u : IsUtf8 text) (short : length text ≤ LONGEST_PROGRAM) where
  -- wherever the cut has come to, with so many bytes left at most, the text has an answer
  abbrev Goes : ℕ → Type 0
  Goes n = (at : ℕ) (tokens : List Token) → length text - at ≤ n → Reached text at tokens → Answer text

  by_piece : (n : ℕ) → Goes n → (at : ℕ) (tokens : List Token) → length text - at ≤ suc n → Reached text at tokens → (p : Scan) → IsScanOf p (drop at text) → Answer text
  by_piece n more at tokens left r (piece.Between k) f =
      more (at + k) tokens (let s = f.some in let w = f.within in omega (arith, length-drop at text)) (reached_between text at k tokens r f)
  by_piece n more at tokens left r (piece.Token of k) f =
      more (at + k) _ (let s = f.some in let w = f.within in omega (arith, length-drop at text)) (reached_token text at k tokens of r f)
  by_piece n more at tokens left r (piece.Refused of place) f = inr (of, (at + place, reached_refusal of text at place tokens r f u short))

  by_front : (n : ℕ) → Goes n → (at : ℕ) (tokens : List Token) → length text - at ≤ suc n → Reached text at tokens → (front : List ℕ) → drop at text ≡ front → Answer text
  by_front n more at tokens left r [] e =
      let none : length (drop at text) ≡ 0 = ap length e in
      inl (tokens, reached_end text at tokens r (omega (arith, length-drop at text)) u)
  by_front n more at tokens left r (c ∷ cs) e = by_piece n more at tokens left r (scan_from c (c ∷ cs)) (subst (IsScanOf (scan_from c (c ∷ cs))) (sym e) (found c cs))

  goes : (n : ℕ) → Goes n
  goes zero at tokens left r = inl (tokens, reached_end text at tokens r (omega arith) u)
  goes (suc n) at tokens left r = by_front n (goes n) at tokens left r (drop at text) refl

  cut : Answer text
  cut = goes (length text) 0 [] (omega arith) (begun text)

by_encoding : (text : List ℕ) (b : Bool) → is_utf8 text ≡ b → length text ≤ LONGEST_PROGRAM → Answer text
by_encoding text true e short = cut text (IsUtf8-from_is_utf8 text e) short
by_encoding text false e short =
    inr (rule.L0, (utf8_valid_len text, inr (short, ((λ u. true≢false (sym (is_utf8-from_IsUtf8 text u) ∙ e)), refl))))

by_length : (text : List ℕ) (b : Bool) → nat_le (length text) LONGEST_PROGRAM ≡ b → Answer text
by_length text true e = by_encoding text (is_utf8 text) refl (leb-true (length text) LONGEST_PROGRAM e)
by_length text false e = inr (rule.L0, (LONGEST_PROGRAM, inl (leb-false (length text) LONGEST_PROGRAM e, refl)))

pub covered_or_refused : CoveredOrRefused
covered_or_refused text = by_length text (nat_le (length text) LONGEST_PROGRAM) refl
