-- What a symbol holds of its token.
use Rattle.std.proofs.Common.{◌≡◌, ℕ, ◌≤◌, true, List, refl, sym, ◌∙◌, ap, subst}
use Rattle.std.specs.List.{list_all}
use Rattle.std.specs.Prelude.{slice_range}
use Rattle.std.specs.Str.{IsUtf8, is_utf8}
use Rattle.std.specs.Str.Parse.{digits_value}
use Rattle.std.proofs.lemmas.Bool.{and_parts}
use Rattle.std.proofs.lemmas.Str.{IsUtf8-from_is_utf8}
use Rattle.sal_ast.specs.declared.lexeme.Kind.{Kind}
use Rattle.sal_ast.specs.declared.lexeme.Kind.TheVariants as kind
use Rattle.sal_ast.specs.Lexemes.{is_digit, is_number, is_lexeme}
use Rattle.sal_grammar.specs.declared.class.Class.{Class}
use Rattle.sal_grammar.specs.declared.class.Class.TheVariants as k
use Rattle.sal_grammar.specs.Sets as is
use Rattle.sal_grammar.specs.Tokens.{Token, class_of}
use Rattle.sal_grammar.proofs.TreesNumbers.{number_most}
use Rattle.sal_grammar.proofs.TreesTokens.{kind_in}
use Rattle.sal_text.specs.Tokens.{has_form, is_digits}
use Rattle.sal_text.specs.Values.{lexeme_text, string_value}
use Rattle.sal_reader.proofs.Values.{string_utf8}

pub value_utf8 : (of : Kind) (bytes : List ℕ) → is_utf8 bytes ≡ true → has_form of bytes ≡ true → of ≡ kind.Str → IsUtf8 (string_value bytes)
value_utf8 of bytes u h e = string_utf8 bytes (IsUtf8-from_is_utf8 bytes u) (subst (λ x. has_form x bytes ≡ true) e h)

pub record IsNumberText (of : Kind) (bytes : List ℕ) : Type 0 where
  pub digits : list_all is_digit bytes ≡ true
  pub most : digits_value 10 bytes ≤ 2147483648
  pub text : lexeme_text of bytes ≡ bytes

all_digits : (bytes : List ℕ) → is_number bytes ≡ true → list_all is_digit bytes ≡ true
unfolding is_number
all_digits bytes h = (and_parts (list_all is_digit bytes) _ (and_parts _ _ h).0).0

number_text : (of : Kind) (bytes : List ℕ) → is_lexeme of (lexeme_text of bytes) ≡ true → of ≡ kind.Number → IsNumberText of bytes
number_text of bytes h e =
    let n : is_number bytes ≡ true = subst (λ x. is_lexeme x (lexeme_text x bytes) ≡ true) e h in
    record { digits = all_digits bytes n; most = number_most bytes n; text = ap (λ x. lexeme_text x bytes) e }

pub number_of : (t : Token) (of : Kind) (bytes : List ℕ) (at : ℕ) → record { kind = of; text = lexeme_text of bytes; at = at } ≡ t → class_of t ≡ k.Number
    → is_lexeme of (lexeme_text of bytes) ≡ true → IsNumberText of bytes
number_of t of bytes at v c h =
    let n : t.kind ≡ kind.Number = kind_in is.number kind.Number refl t (ap is.number c) in
    number_text of bytes h (ap (λ (x : Token). x.kind) v ∙ n)
