-- The lexical rules: how the text of a program is cut into blanks, comments and tokens.
use Rattle.std.specs.Prelude.{◌≡◌, ℕ, ◌+◌, ◌<◌, ◌≤◌, Bool, true, false, ◌&&◌, ◌||◌, not, cond, nat_eq, List, [], ◌∷◌, ◌++◌, length, take, is_none}
use Rattle.std.specs.List.{list_all}
use Rattle.std.specs.Str.{IsUtf8}
use Rattle.sal_ast.specs.declared.lexeme.Kind.{Kind}
use Rattle.sal_ast.specs.declared.lexeme.Kind.TheVariants as kind
use Rattle.sal_ast.specs.Lexemes.{is_digit, is_name, is_word, is_identifier, is_number, is_sign}
use Rattle.sal_text.specs.declared.token.Token.{Token}
use Rattle.sal_text.specs.Values.{bad_escape}

-- space, tab, carriage return and line feed
abbrev pub is_blank : ℕ → Bool
is_blank c = nat_eq c 32 || nat_eq c 9 || nat_eq c 13 || nat_eq c 10

-- any byte but a line feed
abbrev pub is_in_line : ℕ → Bool
is_in_line c = not (nat_eq c 10)

-- the text begins with such a byte
abbrev pub begins : (ℕ → Bool) → List ℕ → Bool
begins is [] = false
begins is (c ∷ cs) = is c

abbrev pub is_empty : List ℕ → Bool
is_empty [] = true
is_empty (c ∷ cs) = false

-- ---- the form of a token

-- one digit or more
abbrev pub is_digits : List ℕ → Bool
is_digits [] = false
is_digits (c ∷ cs) = list_all is_digit (c ∷ cs)

-- after the first quote of a string: the last byte is the first quote that no backslash takes
-- with it, and there is no line feed; `escaped` says that a backslash takes the first byte
-- (of a longer character the other bytes are neither quote nor backslash nor line feed)
unfoldable pub is_string_rest : Bool → List ℕ → Bool
is_string_rest escaped [] = false
is_string_rest true (c ∷ cs) = is_in_line c && is_string_rest false cs
is_string_rest false (c ∷ cs) = cond (nat_eq c 34) (is_empty cs) (is_in_line c && is_string_rest (nat_eq c 92) cs)

-- from a quote to its closing quote
abbrev pub is_string : List ℕ → Bool
is_string [] = false
is_string (c ∷ cs) = nat_eq c 34 && is_string_rest false cs

-- the form of a token of this kind
abbrev pub has_form : Kind → List ℕ → Bool
has_form kind.Word bytes = is_word bytes
has_form kind.Id bytes = is_identifier bytes
has_form kind.Number bytes = is_digits bytes
has_form kind.Str bytes = is_string bytes
has_form kind.Sign bytes = is_sign bytes

-- the form of a token of any kind: names are the words and the identifiers
abbrev pub is_form : List ℕ → Bool
is_form bytes = is_name bytes || is_digits bytes || is_string bytes || is_sign bytes

-- of a number that its digits are in range and have no leading zero, of a string that its escapes are good
abbrev pub is_valid : Kind → List ℕ → Bool
is_valid kind.Word bytes = true
is_valid kind.Id bytes = true
is_valid kind.Number bytes = is_number bytes
is_valid kind.Str bytes = is_none (bad_escape bytes)
is_valid kind.Sign bytes = true

-- no longer token begins where this one does
abbrev pub IsLongest : List ℕ → List ℕ → Type 0
IsLongest bytes rest = (n : ℕ) → 0 < n → n ≤ length rest → is_form (bytes ++ take n rest) ≡ false

-- `//` or `/*`
abbrev pub begins_comment : List ℕ → Bool
begins_comment [] = false
begins_comment (c ∷ []) = false
begins_comment (c ∷ d ∷ cs) = nat_eq c 47 && (nat_eq d 47 || nat_eq d 42)

-- a token stands before the rest
pub record IsToken (kind : Kind) (bytes rest : List ℕ) : Type 0 where
  pub form : has_form kind bytes ≡ true
  pub longest : IsLongest bytes rest
  pub no_comment : begins_comment (bytes ++ rest) ≡ false
  pub kept : is_valid kind bytes ≡ true

-- ---- comments

-- `//` and all that stands on its line after it
pub record IsLine (bytes rest : List ℕ) : Type 0 where
  pub inside : List ℕ
  pub spelled : bytes ≡ 47 ∷ 47 ∷ inside
  pub on_line : list_all is_in_line inside ≡ true
  pub ended : begins is_in_line rest ≡ false

abbrev pub begins_slash : List ℕ → Bool
begins_slash [] = false
begins_slash (c ∷ cs) = nat_eq c 47

-- `*/` stands somewhere in the bytes
abbrev pub holds_end : List ℕ → Bool
holds_end [] = false
holds_end (c ∷ cs) = nat_eq c 42 && begins_slash cs || holds_end cs

-- `/*`, and all up to the first `*/` after it
pub record IsBlock (bytes : List ℕ) : Type 0 where
  pub inside : List ℕ
  pub spelled : bytes ≡ 47 ∷ 42 ∷ (inside ++ 42 ∷ 47 ∷ [])
  pub first : holds_end (inside ++ 42 ∷ []) ≡ false

-- ---- the cut of a text

pub data PartKind : Type 0 where
  Blank : PartKind
  Line : PartKind
  Block : PartKind
  Of : Kind → PartKind

-- a blank, a comment or a token
pub record Part : Type 0 where
  pub what : PartKind
  pub bytes : List ℕ

abbrev pub is_blanks : List ℕ → Bool
is_blanks [] = false
is_blanks (c ∷ cs) = is_blank c && is_empty cs

-- such a part stands before the rest
abbrev pub Stands : PartKind → List ℕ → List ℕ → Type 0
Stands Blank bytes rest = is_blanks bytes ≡ true
Stands Line bytes rest = IsLine bytes rest
Stands Block bytes rest = IsBlock bytes
Stands (Of kind) bytes rest = IsToken kind bytes rest

-- the text is cut into these parts and the rest
abbrev pub Cuts : List Part → List ℕ → List ℕ → Type 0
Cuts [] text rest = text ≡ rest
Cuts (part ∷ parts) text rest =
    (behind : List ℕ) × ((text ≡ part.bytes ++ behind) × Stands part.what part.bytes behind × Cuts parts behind rest)

abbrev pub with_token : PartKind → ℕ → ℕ → List Token → List Token
with_token Blank start end tokens = tokens
with_token Line start end tokens = tokens
with_token Block start end tokens = tokens
with_token (Of kind) start end tokens = record { kind = kind; start = start; end = end } ∷ tokens

-- the tokens among the parts, the first of which begins at this byte
abbrev pub tokens_from : ℕ → List Part → List Token
tokens_from start [] = []
tokens_from start (part ∷ parts) =
    with_token part.what start (start + length part.bytes) (tokens_from (start + length part.bytes) parts)

-- the tokens cover the text: it is UTF-8, and cut into these tokens, blanks and comments
pub record Covers (text : List ℕ) (tokens : List Token) : Type 0 where
  pub utf8 : IsUtf8 text
  pub parts : List Part
  pub cut : Cuts parts text []
  pub spans : tokens_from 0 parts ≡ tokens
