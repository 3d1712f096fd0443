-- A text is cut in one way alone.
use Rattle.std.proofs.Common.{◌≡◌, inl, inr, ℕ, ◌+◌, ◌≤◌, List, [], ◌∷◌, ◌++◌, length, drop, refl, ap, sym, ◌∙◌, subst, arith}
use Rattle.std.proofs.lemmas.List.{drop_at}
use Rattle.sal_ast.specs.declared.lexeme.Kind.{Kind}
use Rattle.sal_text.specs.declared.token.LexRule.{LexRule}
use Rattle.sal_text.specs.declared.token.LexRule.TheVariants as rule
use Rattle.sal_text.specs.declared.token.Token.{Token}
use Rattle.sal_text.specs.declared.piece.Scan.TheVariants as piece
use Rattle.sal_text.specs.Tokens.{PartKind, Blank, Line, Block, Of, Part, Stands, Cuts, with_token, tokens_from, Covers}
use Rattle.sal_text.specs.Refusals.{IsNoText, Violates, IsCutShort, Refuses}
use Rattle.sal_text.specs.Uniqueness.{CoversAreUnique, NeverCoveredAndRefused, RefusalsAreUnique}
use Rattle.sal_text.proofs.Complete.{front_piece, piece_for, part_is, violation_is}

-- no part stands at the front of the text
abbrev IsStuck : List ℕ → Type 0
IsStuck text = (rule : LexRule) × ((place : ℕ) × (front_piece text ≡ piece.Refused rule place))

part_moves : (what : PartKind) (n : ℕ) (rule : LexRule) (place : ℕ) → piece_for what n ≡ piece.Refused rule place → ⊥
part_moves Blank n rule place h = cc
part_moves Line n rule place h = cc
part_moves Block n rule place h = cc
part_moves (Of of) n rule place h = cc

never : (part : Part) (rest text : List ℕ) → text ≡ part.bytes ++ rest → Stands part.what part.bytes rest → IsStuck text → ⊥
never part rest text e s k =
    part_moves part.what (length part.bytes) k.0 k.1.0 (sym (part_is part.what part.bytes rest s) ∙ (ap front_piece (sym e) ∙ k.1.1))

-- two parts that are found alike are as long, and give the same tokens
record Alike (a b : PartKind) (m n : ℕ) : Type 0 where
  long : m ≡ n
  same : (start end : ℕ) (tokens : List Token) → with_token a start end tokens ≡ with_token b start end tokens

between_long : (m n : ℕ) → piece.Between m ≡ piece.Between n → m ≡ n
between_long m n h = cc

token_long : (a b : Kind) (m n : ℕ) → piece.Token a m ≡ piece.Token b n → (a ≡ b) × (m ≡ n)
token_long a b m n h = (cc, cc)

alike : (a b : PartKind) (m n : ℕ) → piece_for a m ≡ piece_for b n → Alike a b m n
alike Blank Blank m n h = record { long = between_long m n h; same = λ s e ts. refl }
alike Blank Line m n h = record { long = between_long m n h; same = λ s e ts. refl }
alike Blank Block m n h = record { long = between_long m n h; same = λ s e ts. refl }
alike Blank (Of of) m n h = absurd (cc)
alike Line Blank m n h = record { long = between_long m n h; same = λ s e ts. refl }
alike Line Line m n h = record { long = between_long m n h; same = λ s e ts. refl }
alike Line Block m n h = record { long = between_long m n h; same = λ s e ts. refl }
alike Line (Of of) m n h = absurd (cc)
alike Block Blank m n h = record { long = between_long m n h; same = λ s e ts. refl }
alike Block Line m n h = record { long = between_long m n h; same = λ s e ts. refl }
alike Block Block m n h = record { long = between_long m n h; same = λ s e ts. refl }
alike Block (Of of) m n h = absurd (cc)
alike (Of of) Blank m n h = absurd (cc)
alike (Of of) Line m n h = absurd (cc)
alike (Of of) Block m n h = absurd (cc)
alike (Of of) (Of other) m n h =
    let p = token_long of other m n h in
    record { long = p.1; same = λ s e ts. ap (λ k. with_token (Of k) s e ts) p.0 }

-- two cuts that go as far as they can end at one place, with the same tokens
record Same (a b : List Part) (r s : List ℕ) : Type 0 where
  rest : r ≡ s
  tokens : (start : ℕ) → tokens_from start a ≡ tokens_from start b

same_next : (a b : Part) (ps qs : List Part) (r s : List ℕ) → Alike a.what b.what (length a.bytes) (length b.bytes) → Same ps qs r s → Same (a ∷ ps) (b ∷ qs) r s
same_next a b ps qs r s k t = record {
  rest = t.rest;
  tokens = λ start.
      k.same start (start + length a.bytes) (tokens_from (start + length a.bytes) ps)
      ∙ (ap (λ n. with_token b.what start (start + n) (tokens_from (start + n) ps)) k.long
      ∙ ap (with_token b.what start (start + length b.bytes)) (t.tokens (start + length b.bytes)));
}

behind_same : (x y r s : List ℕ) → length x ≡ length y → x ++ r ≡ y ++ s → r ≡ s
behind_same x y r s l e = sym (drop_at x r (length x) refl) ∙ (ap (drop (length x)) e ∙ drop_at y s (length x) (sym l))

once : (ps qs : List Part) (x y r s : List ℕ) → x ≡ y → Cuts ps x r → Cuts qs y s → IsStuck r → IsStuck s → Same ps qs r s
once [] [] x y r s e h k stuck other = record { rest = sym h ∙ (e ∙ k); tokens = λ start. refl }
once [] (b ∷ qs) x y r s e h k stuck other = absurd (never b k.0 r (sym h ∙ (e ∙ k.1.0)) k.1.1 stuck)
once (a ∷ ps) [] x y r s e h k stuck other = absurd (never a h.0 s (sym k ∙ (sym e ∙ h.1.0)) h.1.1 other)
once (a ∷ ps) (b ∷ qs) x y r s e h k stuck other =
    let whole : a.bytes ++ h.0 ≡ b.bytes ++ k.0 = sym h.1.0 ∙ (e ∙ k.1.0) in
    let like : Alike a.what b.what (length a.bytes) (length b.bytes) =
    alike a.what b.what (length a.bytes) (length b.bytes)
    (sym (part_is a.what a.bytes h.0 h.1.1) ∙ (ap front_piece whole ∙ part_is b.what b.bytes k.0 k.1.1)) in
    same_next a b ps qs r s like
    (once ps qs h.0 k.0 r s (behind_same a.bytes b.bytes h.0 k.0 like.long whole) h.1.2 k.1.2 stuck other)

end_stuck : IsStuck []
end_stuck = (rule.L0, (0, refl))

violation_stuck : (of : LexRule) (text : List ℕ) (place : ℕ) → Violates of text place → IsStuck text
violation_stuck of text place v = (of, (place, violation_is of text place v))

pub one_cover : CoversAreUnique
one_cover text tokens others a b =
    sym a.spans ∙ ((once a.parts b.parts text text [] [] refl a.cut b.cut end_stuck end_stuck).tokens 0 ∙ b.spans)

rule_same : (a b : LexRule) (m n : ℕ) → piece.Refused a m ≡ piece.Refused b n → (a ≡ b) × (m ≡ n)
rule_same a b m n h = (cc, cc)

-- nothing at the end of a text is violated
no_end : (of : LexRule) (place : ℕ) → Violates of [] place → ⊥
no_end rule.L0 place v = v
no_end rule.L1 place v = let p = rule_same _ _ _ _ (violation_is rule.L1 [] place v) in let e : rule.L0 ≡ rule.L1 = p.0 in cc
no_end rule.L2 place v = let p = rule_same _ _ _ _ (violation_is rule.L2 [] place v) in let e : rule.L0 ≡ rule.L2 = p.0 in cc
no_end rule.L3 place v = let p = rule_same _ _ _ _ (violation_is rule.L3 [] place v) in let e : rule.L0 ≡ rule.L3 = p.0 in cc
no_end rule.L4 place v = let p = rule_same _ _ _ _ (violation_is rule.L4 [] place v) in let e : rule.L0 ≡ rule.L4 = p.0 in cc
no_end rule.L5 place v = let p = rule_same _ _ _ _ (violation_is rule.L5 [] place v) in let e : rule.L0 ≡ rule.L5 = p.0 in cc

short_of_cover : (of : LexRule) (text : List ℕ) (tokens : List Token) (at : ℕ) → Covers text tokens → IsCutShort of at text → ⊥
short_of_cover of text tokens at a i =
    let k : Same a.parts i.parts [] i.rest =
    once a.parts i.parts text text [] i.rest refl a.cut i.cut end_stuck (violation_stuck of i.rest i.place i.violates) in
    no_end of i.place (subst (λ t. Violates of t i.place) (sym k.rest) i.violates)

no_text_of_cover : (text : List ℕ) (tokens : List Token) (at : ℕ) → length text ≤ 262144 → Covers text tokens → IsNoText text at → ⊥
no_text_of_cover text tokens at h a n = elim n [ inl l ↦ let k = l.0 in omega arith | inr u ↦ u.1.0 a.utf8 ]

pub none_of_both : NeverCoveredAndRefused
none_of_both text tokens rule.L0 at h a r = no_text_of_cover text tokens at h a r
none_of_both text tokens rule.L1 at h a r = short_of_cover rule.L1 text tokens at a r
none_of_both text tokens rule.L2 at h a r = short_of_cover rule.L2 text tokens at a r
none_of_both text tokens rule.L3 at h a r = short_of_cover rule.L3 text tokens at a r
none_of_both text tokens rule.L4 at h a r = short_of_cover rule.L4 text tokens at a r
none_of_both text tokens rule.L5 at h a r = short_of_cover rule.L5 text tokens at a r

both_short : (of other : LexRule) (text : List ℕ) (at place : ℕ) → IsCutShort of at text → IsCutShort other place text → (of ≡ other) × (at ≡ place)
both_short of other text at place i j =
    let k : Same i.parts j.parts i.rest j.rest =
    once i.parts j.parts text text i.rest j.rest refl i.cut j.cut (violation_stuck of i.rest i.place i.violates) (violation_stuck other j.rest j.place j.violates) in
    let p = rule_same of other i.place j.place
    (sym (violation_is of i.rest i.place i.violates) ∙ (ap front_piece k.rest ∙ violation_is other j.rest j.place j.violates)) in
    let s : length i.rest ≡ length j.rest = ap length k.rest in
    let q : i.place ≡ j.place = p.1 in
    let a = i.there in
    let b = j.there in
    (p.0, omega arith)

no_text_short : (of : LexRule) (text : List ℕ) (at place : ℕ) → IsNoText text at → IsCutShort of place text → ⊥
no_text_short of text at place n i = elim n [ inl l ↦ let k = l.0 in let f = i.fits in omega arith | inr u ↦ u.1.0 i.utf8 ]

both_no_text : (text : List ℕ) (at place : ℕ) → IsNoText text at → IsNoText text place → at ≡ place
both_no_text text at place a b =
    elim a [
      | inl l ↦ elim b [ inl m ↦ l.1 ∙ sym m.1 | inr u ↦ absurd (let k = l.0 in let f = u.0 in omega arith) ]
      | inr u ↦ elim b [ inl m ↦ absurd (let k = m.0 in let f = u.0 in omega arith) | inr v ↦ u.1.1 ∙ sym v.1.1 ]
    ]

data Cause (of : LexRule) (at : ℕ) (text : List ℕ) : Type 0 where
  NoText : of ≡ rule.L0 → IsNoText text at → Cause of at text
  Short : IsCutShort of at text → Cause of at text

cause : (of : LexRule) (at : ℕ) (text : List ℕ) → Refuses of at text → Cause of at text
cause rule.L0 at text r = NoText refl r
cause rule.L1 at text r = Short r
cause rule.L2 at text r = Short r
cause rule.L3 at text r = Short r
cause rule.L4 at text r = Short r
cause rule.L5 at text r = Short r

causes : (text : List ℕ) (of other : LexRule) (at place : ℕ) → Cause of at text → Cause other place text → (of ≡ other) × (at ≡ place)
causes text of other at place (NoText e a) (NoText f b) = (e ∙ sym f, both_no_text text at place a b)
causes text of other at place (NoText e a) (Short j) = absurd (no_text_short other text at place a j)
causes text of other at place (Short i) (NoText f b) = absurd (no_text_short of text place at b i)
causes text of other at place (Short i) (Short j) = both_short of other text at place i j

pub one_refusal : RefusalsAreUnique
one_refusal text of other at place r s = causes text of other at place (cause of at text r) (cause other place text s)
