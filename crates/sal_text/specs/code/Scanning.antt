-- What the functions of `src/` find at the front of a text. What tokens and refusals are stands in
-- `Tokens` and `Refusals`; nothing here has to be believed.
use Rattle.std.specs.Prelude.{ℕ, suc, ◌+◌, Bool, true, false, ◌&&◌, ◌||◌, cond, nat_eq, List, [], ◌∷◌, take, drop, codes, Option, Some, None, option_map}
use Rattle.std.specs.Str.{bytes_eq}
use Rattle.sal_ast.specs.declared.lexeme.Kind.TheVariants as kind
use Rattle.sal_ast.specs.Lexemes.{is_letter, is_digit, is_name_byte, is_word, is_number}
use Rattle.sal_text.specs.declared.token.LexRule.TheVariants as rule
use Rattle.sal_text.specs.declared.piece.Scan.{Scan}
use Rattle.sal_text.specs.declared.piece.Scan.TheVariants as piece
use Rattle.sal_text.specs.Values.{bad_escape}
use Rattle.sal_text.specs.Tokens.{is_blank, is_in_line, begins_slash}

-- how many such bytes stand at the front
abbrev pub run_length : (ℕ → Bool) → List ℕ → ℕ
run_length is [] = 0
run_length is (c ∷ cs) = cond (is c) (suc (run_length is cs)) 0

-- how many bytes stand up to the first `*/`, with it
abbrev pub block_length : List ℕ → Option ℕ
block_length [] = None
block_length (c ∷ cs) = cond (nat_eq c 42 && begins_slash cs) (Some 2) (option_map (λ n. n + 1) (block_length cs))

-- how many bytes stand up to the quote that closes a string, with it
unfoldable pub length_to_quote : Bool → List ℕ → Option ℕ
length_to_quote escaped [] = None
length_to_quote true (c ∷ cs) = cond (nat_eq c 10) None (option_map (λ n. n + 1) (length_to_quote false cs))
length_to_quote false (c ∷ cs) =
    cond (nat_eq c 10) None (cond (nat_eq c 34) (Some 1) (option_map (λ n. n + 1) (length_to_quote (nat_eq c 92) cs)))

abbrev pub short_sign : ℕ → Bool
short_sign c =
    nat_eq c 123 || nat_eq c 125 || nat_eq c 40 || nat_eq c 41 || nat_eq c 91 || nat_eq c 93 || nat_eq c 59 || nat_eq c 44
    || nat_eq c 46 || nat_eq c 61 || nat_eq c 60 || nat_eq c 62 || nat_eq c 43 || nat_eq c 45 || nat_eq c 42 || nat_eq c 47
    || nat_eq c 37 || nat_eq c 33 || nat_eq c 64 || nat_eq c 58

abbrev pub long_sign : ℕ → ℕ → Bool
long_sign c d =
    nat_eq c 61 && nat_eq d 61
    || nat_eq c 33 && nat_eq d 61
    || nat_eq c 60 && nat_eq d 61
    || nat_eq c 62 && nat_eq d 61
    || nat_eq c 38 && nat_eq d 38
    || nat_eq c 124 && nat_eq d 124
    || nat_eq c 60 && nat_eq d 45

abbrev pub short_length : ℕ → ℕ
short_length c = cond (short_sign c) 1 0

-- how many bytes the longest sign at the front has
abbrev pub sign_length : List ℕ → ℕ
sign_length [] = 0
sign_length (c ∷ []) = short_length c
sign_length (c ∷ d ∷ cs) = cond (long_sign c d) 2 (short_length c)

abbrev pub first_words : List ℕ → Bool
first_words name =
    bytes_eq name (codes "behavior")
    || bytes_eq name (codes "new")
    || bytes_eq name (codes "int")
    || bytes_eq name (codes "boolean")
    || bytes_eq name (codes "String")
    || bytes_eq name (codes "void")

abbrev pub second_words : List ℕ → Bool
second_words name =
    bytes_eq name (codes "long")
    || bytes_eq name (codes "Object")
    || bytes_eq name (codes "token")
    || bytes_eq name (codes "join")
    || bytes_eq name (codes "if")
    || bytes_eq name (codes "else")

abbrev pub third_words : List ℕ → Bool
third_words name =
    bytes_eq name (codes "while")
    || bytes_eq name (codes "for")
    || bytes_eq name (codes "return")
    || bytes_eq name (codes "true")
    || bytes_eq name (codes "false")

abbrev pub last_words : List ℕ → Bool
last_words name =
    bytes_eq name (codes "null")
    || bytes_eq name (codes "self")
    || bytes_eq name (codes "this")
    || bytes_eq name (codes "currentContinuation")
    || bytes_eq name (codes "standardOutput")

-- ---- the part at the front

unfoldable pub scan_name : List ℕ → Scan
scan_name text =
    piece.Token
    (cond (is_word (take (run_length is_name_byte text) text)) kind.Word kind.Id)
    (run_length is_name_byte text)

unfoldable pub scan_number : List ℕ → Scan
scan_number text =
    cond (is_number (take (run_length is_digit text) text)) (piece.Token kind.Number (run_length is_digit text)) (piece.Refused rule.L3 0)

abbrev pub scan_escapes : ℕ → Option ℕ → Scan
scan_escapes n None = piece.Token kind.Str n
scan_escapes n (Some at) = piece.Refused rule.L5 at

abbrev pub scan_closed_string : List ℕ → Option ℕ → Scan
scan_closed_string text None = piece.Refused rule.L2 0
scan_closed_string text (Some n) = scan_escapes (n + 1) (bad_escape (take (n + 1) text))

unfoldable pub scan_string : List ℕ → Scan
scan_string text = scan_closed_string text (length_to_quote false (drop 1 text))

unfoldable pub scan_line : List ℕ → Scan
scan_line text = piece.Between (run_length is_in_line (drop 2 text) + 2)

abbrev pub scan_closed_block : Option ℕ → Scan
scan_closed_block None = piece.Refused rule.L4 0
scan_closed_block (Some n) = piece.Between (n + 2)

unfoldable pub scan_block : List ℕ → Scan
scan_block text = scan_closed_block (block_length (drop 2 text))

unfoldable pub scan_sign : List ℕ → Scan
scan_sign text = cond (nat_eq (sign_length text) 0) (piece.Refused rule.L1 0) (piece.Token kind.Sign (sign_length text))

abbrev pub begins_line : List ℕ → Bool
begins_line [] = false
begins_line (c ∷ []) = false
begins_line (c ∷ d ∷ cs) = nat_eq c 47 && nat_eq d 47

abbrev pub begins_block : List ℕ → Bool
begins_block [] = false
begins_block (c ∷ []) = false
begins_block (c ∷ d ∷ cs) = nat_eq c 47 && nat_eq d 42

unfoldable pub scan_other : List ℕ → Scan
scan_other text = cond (begins_line text) (scan_line text) (cond (begins_block text) (scan_block text) (scan_sign text))

-- the part that begins with this byte, with which the text begins
unfoldable pub scan_from : ℕ → List ℕ → Scan
scan_from c text =
    cond (is_blank c) (piece.Between 1)
    (cond (is_letter c) (scan_name text) (cond (is_digit c) (scan_number text) (cond (nat_eq c 34) (scan_string text) (scan_other text))))
