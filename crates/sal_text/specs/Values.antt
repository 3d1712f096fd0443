-- What the bytes of strings and numbers stand for.
use Rattle.std.specs.Prelude.{ℕ, suc, ◌-◌, Bool, true, false, ◌||◌, cond, nat_eq, List, [], ◌∷◌, Option, Some, None}
use Rattle.std.specs.Str.Parse.{digits_value}
use Rattle.sal_ast.specs.declared.lexeme.Kind.{Kind}
use Rattle.sal_ast.specs.declared.lexeme.Kind.TheVariants as kind

-- the eight letters that may stand after a backslash: `b t n f r " ' \`
abbrev pub is_escape : ℕ → Bool
is_escape c =
    nat_eq c 98 || nat_eq c 116 || nat_eq c 110 || nat_eq c 102 || nat_eq c 114 || nat_eq c 34 || nat_eq c 39 || nat_eq c 92

-- what such a letter stands for: backspace, tab, line feed, form feed, carriage return, or itself
abbrev pub escape_value : ℕ → ℕ
escape_value c =
    cond (nat_eq c 98) 8 (cond (nat_eq c 116) 9 (cond (nat_eq c 110) 10 (cond (nat_eq c 102) 12 (cond (nat_eq c 114) 13 c))))

-- what stands for itself or is an escape, up to the closing quote; `escaped` says that a backslash
-- stands before the first byte
abbrev pub inside_value : Bool → List ℕ → List ℕ
inside_value escaped [] = []
inside_value true (c ∷ cs) = escape_value c ∷ inside_value false cs
inside_value false (c ∷ cs) = cond (nat_eq c 34) [] (cond (nat_eq c 92) (inside_value true cs) (c ∷ inside_value false cs))

-- the text that a string spells, from quote to quote
abbrev pub string_value : List ℕ → List ℕ
string_value [] = []
string_value (c ∷ cs) = inside_value false cs

-- the number that digits spell
abbrev pub number_value : List ℕ → ℕ
number_value = digits_value 10

-- the text of a token's lexeme: of a string its value, else its bytes
abbrev pub lexeme_text : Kind → List ℕ → List ℕ
lexeme_text kind.Word bytes = bytes
lexeme_text kind.Id bytes = bytes
lexeme_text kind.Number bytes = bytes
lexeme_text kind.Str bytes = string_value bytes
lexeme_text kind.Sign bytes = bytes

-- the bytes are counted from `at`
unfoldable pub bad_escape_from : ℕ → Bool → List ℕ → Option ℕ
bad_escape_from at escaped [] = None
bad_escape_from at true (c ∷ cs) = cond (is_escape c) (bad_escape_from (suc at) false cs) (Some (at - 1))
bad_escape_from at false (c ∷ cs) = bad_escape_from (suc at) (nat_eq c 92) cs

-- the place of the first backslash that takes another byte than one of the eight letters with it
abbrev pub bad_escape : List ℕ → Option ℕ
bad_escape bytes = bad_escape_from 0 false bytes
