-- Each token of a text stands in it.
use Rattle.std.proofs.Common.{◌≡◌, ℕ, zero, suc, ◌+◌, ◌-◌, ◌<◌, ◌≤◌, true, List, [], ◌∷◌, ◌++◌, length, take, Option, Some, None, refl, ap, sym, ◌∙◌, subst, append_assoc, length-append, arith}
use Rattle.std.specs.Prelude.{slice_get, slice_range}
use Rattle.std.specs.Option.{ForSome}
use Rattle.std.proofs.lemmas.List.{take_at, drop_at}
use Rattle.sal_ast.specs.declared.lexeme.Kind.{Kind}
use Rattle.sal_ast.specs.declared.lexeme.Kind.TheVariants as kind
use Rattle.sal_ast.specs.Lexemes.{is_lexeme}
use Rattle.sal_text.specs.declared.token.Token.{Token}
use Rattle.sal_text.specs.Values.{lexeme_text}
use Rattle.sal_text.specs.Tokens.{PartKind, Blank, Line, Block, Of, Part, Stands, IsToken, Cuts, with_token, tokens_from, Covers, has_form, is_valid}
use Rattle.sal_text.specs.Spans.{SpanIsInside}
use Rattle.sal_text.specs.Standing.{StandsIn, TokensStand, SpansAreInside}

abbrev AllStand : List ℕ → List Token → Type 0
AllStand text [] = Unit {0}
AllStand text (token ∷ tokens) = StandsIn text token × AllStand text tokens

lexeme_is : (of : Kind) (bytes : List ℕ) → has_form of bytes ≡ true → is_valid of bytes ≡ true → is_lexeme of (lexeme_text of bytes) ≡ true
lexeme_is kind.Word bytes h k = h
lexeme_is kind.Id bytes h k = h
lexeme_is kind.Number bytes h k = k
lexeme_is kind.Str bytes h k = refl
lexeme_is kind.Sign bytes h k = h

range_is : (front bytes rest : List ℕ) → slice_range (front ++ (bytes ++ rest)) (length front) (length front + length bytes) ≡ bytes
range_is front bytes rest =
    ap (take (length front + length bytes - length front)) (drop_at front (bytes ++ rest) (length front) refl)
    ∙ take_at bytes rest (length front + length bytes - length front) (omega arith)

stands_in : (of : Kind) (front bytes rest : List ℕ) → IsToken of bytes rest →
    StandsIn (front ++ (bytes ++ rest)) (record { kind = of; start = length front; end = length front + length bytes })
stands_in of front bytes rest t =
    let e = sym (range_is front bytes rest) in
    record {
      ordered = omega arith;
      inside = omega (arith, length-append front (bytes ++ rest), length-append bytes rest);
      form = subst (λ b. has_form of b ≡ true) e t.form;
      kept = subst (λ b. is_valid of b ≡ true) e t.kept;
      lexeme = subst (λ b. is_lexeme of (lexeme_text of b) ≡ true) e (lexeme_is of bytes t.form t.kept);
    }

one_stands : (what : PartKind) (front bytes rest : List ℕ) (tokens : List Token) → Stands what bytes rest → AllStand (front ++ (bytes ++ rest)) tokens →
    AllStand (front ++ (bytes ++ rest)) (with_token what (length front) (length front + length bytes) tokens)
one_stands Blank front bytes rest tokens s a = a
one_stands Line front bytes rest tokens s a = a
one_stands Block front bytes rest tokens s a = a
one_stands (Of of) front bytes rest tokens s a = (stands_in of front bytes rest s, a)

all_stand : (parts : List Part) (front text : List ℕ) → Cuts parts text [] → AllStand (front ++ text) (tokens_from (length front) parts)
all_stand [] front text h = tt
all_stand (p ∷ ps) front text h =
    let more : AllStand ((front ++ p.bytes) ++ h.0) (tokens_from (length (front ++ p.bytes)) ps) = all_stand ps (front ++ p.bytes) h.0 h.1.2 in
    let moved : AllStand (front ++ (p.bytes ++ h.0)) (tokens_from (length (front ++ p.bytes)) ps) =
    subst (λ t. AllStand t (tokens_from (length (front ++ p.bytes)) ps)) (append_assoc front p.bytes h.0) more in
    let counted : AllStand (front ++ (p.bytes ++ h.0)) (tokens_from (length front + length p.bytes) ps) =
    subst (λ n. AllStand (front ++ (p.bytes ++ h.0)) (tokens_from n ps)) (length-append front p.bytes) moved in
    subst (λ t. AllStand (front ++ t) (tokens_from (length front) (p ∷ ps))) (sym h.1.0)
    (one_stands p.what front p.bytes h.0 (tokens_from (length front + length p.bytes) ps) h.1.1 counted)

one_of : (text : List ℕ) (tokens : List Token) (i : ℕ) (token : Token) → AllStand text tokens → slice_get tokens i ≡ Some token → StandsIn text token
one_of text [] i token a h = absurd (let f : None ≡ Some token = h in cc)
one_of text (t ∷ ts) zero token a h = let e : t ≡ token = cc in subst (StandsIn text) e a.0
one_of text (t ∷ ts) (suc i) token a h = one_of text ts i token a.1 h

covered : (text : List ℕ) (tokens : List Token) → Covers text tokens → AllStand text tokens
covered text tokens k = subst (AllStand text) k.spans (all_stand k.parts [] text k.cut)

pub tokens_stand : TokensStand
tokens_stand text tokens i token k h = one_of text tokens i token (covered text tokens k) h

inside_at : (text : List ℕ) (tokens : List Token) (o : Option Token) → ((token : Token) → o ≡ Some token → StandsIn text token) →
    ForSome o (λ token. (token.start ≤ token.end) × (token.end ≤ length text))
inside_at text tokens None f = λ token e. absurd (cc)
inside_at text tokens (Some token) f = λ other e. let s = f other e in (s.ordered, s.inside)

pub spans_are_inside : SpansAreInside
spans_are_inside text tokens i k h = record { there = h; inside = inside_at text tokens (slice_get tokens i) (λ token e. tokens_stand text tokens i token k e) }

-- the same where the tokens hold the text
pub span_held : (text source : List ℕ) (tokens : List Token) (i : ℕ) → source ≡ text → Covers text tokens → i < length tokens → SpanIsInside source tokens i
span_held text source tokens i e k h = subst (λ t. SpanIsInside t tokens i) (sym e) (spans_are_inside text tokens i k h)
