-- The texts of a program's tokens are together no longer than its text.
use Rattle.std.proofs.Common.{◌≡◌, ℕ, ◌+◌, ◌-◌, ◌≤◌, Bool, true, false, cond, ◌&&◌, List, [], ◌∷◌, ◌++◌, length, take, refl, sym, ap, subst, ◌∙◌, arith, append_assoc, length-append}
use Rattle.std.specs.Prelude.{nat_eq, slice_range, sum_by}
use Rattle.std.specs.List.{list_all}
use Rattle.std.proofs.lemmas.List.{take_at, drop_at}
use Rattle.std.proofs.lemmas.List.Sums.{sum_by-cons}
use Rattle.sal_ast.specs.declared.lexeme.Kind.{Kind}
use Rattle.sal_ast.specs.declared.lexeme.Kind.TheVariants as kind
use Rattle.sal_ast.specs.declared.program.Program.{Program}
use Rattle.sal_ast.specs.Lexemes.{is_lexeme}
use Rattle.sal_ast.specs.Spell.{TreeToken, spell}
use Rattle.sal_text.specs.declared.token.Token.{Token as Span}
use Rattle.sal_text.specs.Tokens.{Part, PartKind, Blank, Line, Block, Of, Cuts, Covers, with_token, tokens_from}
use Rattle.sal_text.specs.Values.{inside_value, string_value, lexeme_text}
use Rattle.sal_grammar.specs.Tokens.{Token}
use Rattle.sal_grammar.specs.Refusals.{Spells}
use Rattle.sal_reader.specs.Source.{token_in, tokens_in}
use Rattle.sal_types.specs.Programs.{IsReadable}
use Rattle.salsa.specs.Programs.{IsTextOf}

-- ---- one token

value_short : (escaped : Bool) (cs : List ℕ) → length (inside_value escaped cs) ≤ length cs
value_short escaped [] = omega arith
value_short true (c ∷ cs) = omega (arith, value_short false cs)
value_short false (c ∷ cs) = at (nat_eq c 34) (nat_eq c 92) (value_short true cs) (value_short false cs)
  where
    at : (b e : Bool) → length (inside_value true cs) ≤ length cs → length (inside_value false cs) ≤ length cs
        → length (cond b [] (cond e (inside_value true cs) (c ∷ inside_value false cs))) ≤ length (c ∷ cs)
    at true e h k = omega arith
    at false true h k = omega (arith, h)
    at false false h k = omega (arith, k)

string_short : (bytes : List ℕ) → length (string_value bytes) ≤ length bytes
string_short [] = omega arith
string_short (c ∷ cs) = omega (arith, value_short false cs)

lexeme_short : (of : Kind) (bytes : List ℕ) → length (lexeme_text of bytes) ≤ length bytes
lexeme_short kind.Word bytes = omega arith
lexeme_short kind.Id bytes = omega arith
lexeme_short kind.Number bytes = omega arith
lexeme_short kind.Str bytes = string_short bytes
lexeme_short kind.Sign bytes = omega arith

-- ---- all of them

abbrev size : Token → ℕ
size t = length t.text

range_is : (front bytes rest : List ℕ) → slice_range (front ++ (bytes ++ rest)) (length front) (length front + length bytes) ≡ bytes
range_is front bytes rest =
    ap (take (length front + length bytes - length front)) (drop_at front (bytes ++ rest) (length front) refl)
    ∙ take_at bytes rest (length front + length bytes - length front) (omega arith)

-- a part's token, if it has one, before others
with_part : (what : PartKind) (front bytes behind : List ℕ) (spans : List Span) → sum_by size (tokens_in (front ++ (bytes ++ behind)) spans) ≤ length behind
    → sum_by size (tokens_in (front ++ (bytes ++ behind)) (with_token what (length front) (length front + length bytes) spans)) ≤ length (bytes ++ behind)
with_part Blank front bytes behind spans h = omega (arith, h, length-append bytes behind)
with_part Line front bytes behind spans h = omega (arith, h, length-append bytes behind)
with_part Block front bytes behind spans h = omega (arith, h, length-append bytes behind)
with_part (Of k) front bytes behind spans h =
    let text : List ℕ = front ++ (bytes ++ behind) in
    let t : Token = token_in text (record { kind = k; start = length front; end = length front + length bytes }) in
    let one : length (lexeme_text k (slice_range text (length front) (length front + length bytes))) ≤ length bytes =
    subst (λ (b : List ℕ). length (lexeme_text k b) ≤ length bytes) (sym (range_is front bytes behind)) (lexeme_short k bytes) in
    omega (arith, h, one, length-append bytes behind, sum_by-cons size t (tokens_in text spans))

sizes_short : (parts : List Part) (front text : List ℕ) → Cuts parts text [] → sum_by size (tokens_in (front ++ text) (tokens_from (length front) parts)) ≤ length text
sizes_short [] front text cut = omega arith
sizes_short (part ∷ parts) front text cut =
    let bytes : List ℕ = part.bytes in
    let behind : List ℕ = cut.0 in
    let after = sizes_short parts (front ++ bytes) behind cut.1.2 in
    let moved : sum_by size (tokens_in (front ++ (bytes ++ behind)) (tokens_from (length front + length bytes) parts)) ≤ length behind =
    subst (λ (n : ℕ). sum_by size (tokens_in (front ++ (bytes ++ behind)) (tokens_from n parts)) ≤ length behind) (length-append front bytes)
    (subst (λ (t : List ℕ). sum_by size (tokens_in t (tokens_from (length (front ++ bytes)) parts)) ≤ length behind) (append_assoc front bytes behind) after) in
    subst (λ (t : List ℕ). sum_by size (tokens_in (front ++ t) (tokens_from (length front) (part ∷ parts))) ≤ length t) (sym cut.1.0)
    (with_part part.what front bytes behind (tokens_from (length front + length bytes) parts) moved)

-- ---- the tokens of a tree

-- they have the texts of the tokens that they stand for
same_sizes : (pieces : List TreeToken) (tokens : List Token) → Spells pieces tokens → sum_by (λ (t : TreeToken). length t.text) pieces ≡ sum_by size tokens
same_sizes [] [] h = refl
same_sizes [] (t ∷ ts) h = absurd h
same_sizes (p ∷ ps) [] h = absurd h
same_sizes (p ∷ ps) (t ∷ ts) h =
    sum_by-cons (λ (t : TreeToken). length t.text) p ps
    ∙ (λ i. length (h.0.text i) + same_sizes ps ts h.1 i)
    ∙ sym (sum_by-cons size t ts)

lexical : (pieces : List TreeToken) (tokens : List Token) → Spells pieces tokens → list_all (λ (t : TreeToken). is_lexeme t.kind t.text) pieces ≡ list_all (λ (t : Token). is_lexeme t.kind t.text) tokens
lexical [] [] h = refl
lexical [] (t ∷ ts) h = absurd h
lexical (p ∷ ps) [] h = absurd h
lexical (p ∷ ps) (t ∷ ts) h = λ i. is_lexeme (h.0.kind i) (h.0.text i) && lexical ps ts h.1 i

pub spell_short : (text : List ℕ) (spans : List Span) (program : Program) → Covers text spans → Spells (spell program) (tokens_in text spans)
    → sum_by (λ (t : TreeToken). length t.text) (spell program) ≤ length text
spell_short text spans program covers spells =
    let whole : sum_by size (tokens_in text (tokens_from 0 covers.parts)) ≤ length text = sizes_short covers.parts [] text covers.cut in
    let same : sum_by size (tokens_in text spans) ≤ length text = subst (λ (ss : List Span). sum_by size (tokens_in text ss) ≤ length text) covers.spans whole in
    subst (λ (n : ℕ). n ≤ length text) (sym (same_sizes (spell program) (tokens_in text spans) spells)) same

pub spell_lexical : (tokens : List Token) (program : Program) → Spells (spell program) tokens → list_all (λ (t : Token). is_lexeme t.kind t.text) tokens ≡ true
    → list_all (λ (t : TreeToken). is_lexeme t.kind t.text) (spell program) ≡ true
spell_lexical tokens program spells good = lexical (spell program) tokens spells ∙ good

-- ---- what is asked of a tree before its types are judged

pub readable : (text : List ℕ) (program : Program) → IsTextOf text program → IsReadable program
readable text program h = record {
  regular = h.is_program.regular;
  shallow = h.is_program.fits;
  lexical = spell_lexical (tokens_in text h.spans) program h.is_program.spells h.is_program.lexemes;
  short = omega (arith, h.short, spell_short text h.spans program h.covers h.is_program.spells);
}
