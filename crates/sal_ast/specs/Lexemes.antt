-- Which texts are tokens of the language, by kind.
use Rattle.std.specs.Prelude.{ℕ, Bool, true, false, ◌&&◌, ◌||◌, not, nat_eq, nat_le, List, [], ◌∷◌, codes}
use Rattle.std.specs.List.{list_any, list_all}
use Rattle.std.specs.Str.{bytes_eq}
use Rattle.std.specs.Str.Parse.{digits_value}
use Rattle.sal_ast.specs.declared.lexeme.Kind.{Kind}
use Rattle.sal_ast.specs.declared.lexeme.Kind.TheVariants as kind

abbrev pub is_digit : ℕ → Bool
is_digit c = nat_le 48 c && nat_le c 57

-- an ASCII letter or `_`
abbrev pub is_letter : ℕ → Bool
is_letter c = nat_le 65 c && nat_le c 90 || nat_le 97 c && nat_le c 122 || nat_eq c 95

-- a letter, `_` or a digit
abbrev pub is_name_byte : ℕ → Bool
is_name_byte c = is_letter c || is_digit c

-- the words of the language
abbrev pub reserved_words : List (List ℕ)
reserved_words =
    codes "behavior" ∷ codes "new" ∷ codes "int" ∷ codes "boolean" ∷ codes "String" ∷ codes "void" ∷ codes "long"
    ∷ codes "Object" ∷ codes "token" ∷ codes "join" ∷ codes "if" ∷ codes "else" ∷ codes "while" ∷ codes "for"
    ∷ codes "return" ∷ codes "true" ∷ codes "false" ∷ codes "null" ∷ codes "self" ∷ codes "this"
    ∷ codes "currentContinuation" ∷ codes "standardOutput" ∷ []

unfoldable pub is_word : List ℕ → Bool
is_word text = list_any (bytes_eq text) reserved_words

-- what is spelled as words and identifiers are: a letter, then letters and digits
abbrev pub is_name : List ℕ → Bool
is_name [] = false
is_name (c ∷ cs) = is_letter c && list_all is_name_byte cs

-- a name that is no word of the language; `at`, `delay`, `waitfor`, `length` and `getReferenceByName` are identifiers
unfoldable pub is_identifier : List ℕ → Bool
is_identifier text = is_name text && not (is_word text)

-- two digits or more don't begin with 0
abbrev pub is_short : List ℕ → Bool
is_short [] = false
is_short (c ∷ []) = true
is_short (c ∷ d ∷ cs) = not (nat_eq c 48)

-- a decimal number of at most 2,147,483,648
unfoldable pub is_number : List ℕ → Bool
is_number text = list_all is_digit text && is_short text && nat_le (digits_value 10 text) 2147483648

abbrev pub signs : List (List ℕ)
signs =
    codes "{" ∷ codes "}" ∷ codes "(" ∷ codes ")" ∷ codes "[" ∷ codes "]" ∷ codes ";" ∷ codes "," ∷ codes "."
    ∷ codes "=" ∷ codes "==" ∷ codes "!=" ∷ codes "<" ∷ codes "<=" ∷ codes ">" ∷ codes ">=" ∷ codes "+" ∷ codes "-"
    ∷ codes "*" ∷ codes "/" ∷ codes "%" ∷ codes "!" ∷ codes "&&" ∷ codes "||" ∷ codes "@" ∷ codes ":" ∷ codes "<-" ∷ []

unfoldable pub is_sign : List ℕ → Bool
is_sign text = list_any (bytes_eq text) signs

-- whether a token of this kind may have this text; a string's text is its value, which may be any
abbrev pub is_lexeme : Kind → List ℕ → Bool
is_lexeme kind.Word text = is_word text
is_lexeme kind.Id text = is_identifier text
is_lexeme kind.Number text = is_number text
is_lexeme kind.Str text = true
is_lexeme kind.Sign text = is_sign text
