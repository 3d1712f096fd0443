-- A text has no more tokens than bytes.
use Rattle.std.proofs.Common.{◌≡◌, ℕ, suc, ◌+◌, ◌≤◌, true, List, [], ◌∷◌, ◌++◌, length, ap, subst, length-append, arith}
use Rattle.std.proofs.lemmas.List.{length-map}
use Rattle.sal_ast.specs.declared.lexeme.Kind.{Kind}
use Rattle.sal_ast.specs.declared.lexeme.Kind.TheVariants as kind
use Rattle.sal_ast.specs.Lexemes.{is_word, is_identifier, is_sign}
use Rattle.sal_reader.specs.Source.{token_in, tokens_in}
use Rattle.sal_text.specs.declared.token.Token.{Token as Span}
use Rattle.sal_text.specs.Tokens.{PartKind, Blank, Line, Block, Of, Part, Stands, Cuts, Covers, with_token, tokens_from, has_form}

some_bytes : (of : Kind) (bytes : List ℕ) → has_form of bytes ≡ true → 1 ≤ length bytes
unfolding is_word is_identifier is_sign
some_bytes kind.Word [] h = absurd (cc)
some_bytes kind.Id [] h = absurd (cc)
some_bytes kind.Number [] h = absurd (cc)
some_bytes kind.Str [] h = absurd (cc)
some_bytes kind.Sign [] h = absurd (cc)
some_bytes of (c ∷ cs) h = omega arith

with_one : (what : PartKind) (bytes rest : List ℕ) (start end : ℕ) (spans : List Span) → Stands what bytes rest
    → length (with_token what start end spans) ≤ length bytes + length spans
with_one Blank bytes rest start end spans s = omega arith
with_one Line bytes rest start end spans s = omega arith
with_one Block bytes rest start end spans s = omega arith
with_one (Of of) bytes rest start end spans s = omega (arith, some_bytes of bytes s.form)

few_from : (parts : List Part) (start : ℕ) (text : List ℕ) → Cuts parts text [] → length (tokens_from start parts) ≤ length text
few_from [] start text h = omega arith
few_from (p ∷ ps) start text h =
    let more : length (tokens_from (start + length p.bytes) ps) ≤ length h.0 = few_from ps (start + length p.bytes) h.0 h.1.2 in
    let one : length (tokens_from start (p ∷ ps)) ≤ length p.bytes + length (tokens_from (start + length p.bytes) ps) =
    with_one p.what p.bytes h.0 start (start + length p.bytes) (tokens_from (start + length p.bytes) ps) h.1.1 in
    let whole : length text ≡ length (p.bytes ++ h.0) = ap length h.1.0 in
    omega (arith, length-append p.bytes h.0)

pub few_tokens : (text : List ℕ) (spans : List Span) → Covers text spans → length (tokens_in text spans) ≤ length text
few_tokens text spans k =
    let n : length (tokens_in text spans) ≡ length spans = length-map spans (token_in text) in
    let m : length spans ≤ length text = subst (λ (l : List Span). length l ≤ length text) k.spans (few_from k.parts 0 text k.cut) in
    omega arith
