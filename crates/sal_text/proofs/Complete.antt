-- Where a part or a violation stands, it is found.
use Rattle.std.proofs.Common.{◌≡◌, ℕ, suc, ◌+◌, Bool, true, false, not, ◌&&◌, ◌||◌, nat_eq, cond, is_none, List, [], ◌∷◌, ◌++◌, length, take, Option, Some, None, refl, ap, sym, ◌∙◌, subst, add-one, append_assoc, length-append, arith}
use Rattle.std.specs.List.{list_all}
use Rattle.std.proofs.lemmas.Bool.{both_ways, false_from_ne_true, and_parts, and_from, and_left, or_parts, or_left, or_right, not-true, eqb-true, ne_eqb}
use Rattle.std.proofs.lemmas.List.{take_at}
use Rattle.std.proofs.Math.Bool.{and-true}
use Rattle.sal_ast.specs.declared.lexeme.Kind.{Kind}
use Rattle.sal_ast.specs.declared.lexeme.Kind.TheVariants as kind
use Rattle.sal_ast.specs.Lexemes.{is_letter, is_digit, is_name_byte, is_name, is_word, is_number, is_sign}
use Rattle.sal_text.specs.declared.token.LexRule.{LexRule}
use Rattle.sal_text.specs.declared.token.LexRule.TheVariants as rule
use Rattle.sal_text.specs.declared.piece.Scan.{Scan}
use Rattle.sal_text.specs.declared.piece.Scan.TheVariants as piece
use Rattle.sal_text.specs.Values.{bad_escape}
use Rattle.sal_text.specs.Tokens.{is_blank, is_in_line, begins, is_digits, is_string, is_string_rest, is_form, is_blanks, IsLongest, begins_comment, IsToken, IsLine, IsBlock, holds_end, PartKind, Blank, Line, Block, Of, Stands}
use Rattle.sal_text.specs.Refusals.{Violates, IsStrange, IsUnclosedString, IsBadNumber, IsUnclosedComment, IsBadString}
use Rattle.sal_text.specs.code.Scanning.{run_length, block_length, length_to_quote, short_sign, long_sign, short_length, sign_length, scan_name, scan_number, scan_escapes, scan_closed_string, scan_string, scan_line, scan_closed_block, scan_block, scan_sign, begins_line, begins_block, scan_other, scan_from}
use Rattle.sal_text.proofs.Runs.{run_over}
use Rattle.sal_text.proofs.Blocks.{block_over, block_never}
use Rattle.sal_text.proofs.Closings.{closed_is, closed_over}
use Rattle.sal_text.proofs.Forms.{word_name, identifier_parts, sign_one, sign_two, sign_more, sign_plain, letter_no_blank, digit_no_blank, digit_no_letter, longest_next, all_more}

-- what is found at the front of a text, if it has a front
abbrev pub front_piece : List ℕ → Scan
front_piece [] = piece.Refused rule.L0 0
front_piece (c ∷ cs) = scan_from c (c ∷ cs)

abbrev pub piece_for : PartKind → ℕ → Scan
piece_for Blank n = piece.Between n
piece_for Line n = piece.Between n
piece_for Block n = piece.Between n
piece_for (Of of) n = piece.Token of n

route : (c : ℕ) (text : List ℕ) (b l d q : Bool) → is_blank c ≡ b → is_letter c ≡ l → is_digit c ≡ d → nat_eq c 34 ≡ q →
    scan_from c text ≡ cond b (piece.Between 1) (cond l (scan_name text) (cond d (scan_number text) (cond q (scan_string text) (scan_other text))))
unfolding scan_from
route c text b l d q e f g h = rw (e, f, g, h) refl

route_letter : (c : ℕ) (text : List ℕ) → is_letter c ≡ true → scan_from c text ≡ scan_name text
route_letter c text h = route c text false true (is_digit c) (nat_eq c 34) (letter_no_blank c h) h refl refl

route_digit : (c : ℕ) (text : List ℕ) → is_digit c ≡ true → scan_from c text ≡ scan_number text
route_digit c text h = route c text false false true (nat_eq c 34) (digit_no_blank c h) (digit_no_letter c h) h refl

-- ---- blanks and comments

blank_is : (bytes rest : List ℕ) → is_blanks bytes ≡ true → front_piece (bytes ++ rest) ≡ piece.Between (length bytes)
blank_is [] rest h = absurd (let f : false ≡ true = h in cc)
blank_is (c ∷ d ∷ ds) rest h = absurd (let p = and_parts (is_blank c) false h in let f : false ≡ true = p.1 in cc)
blank_is (c ∷ []) rest h =
    let p = and_parts (is_blank c) true h in
    route c (c ∷ rest) true (is_letter c) (is_digit c) (nat_eq c 34) p.0 refl refl refl

two : (n : ℕ) → n + 2 ≡ suc (suc n)
two n = omega arith

line_inside : (inside rest : List ℕ) → list_all is_in_line inside ≡ true → begins is_in_line rest ≡ false →
    front_piece ((47 ∷ 47 ∷ inside) ++ rest) ≡ piece.Between (suc (suc (length inside)))
unfolding scan_from scan_other scan_line
line_inside inside rest h e = ap (λ n. piece.Between (n + 2)) (run_over is_in_line inside rest h e) ∙ ap (λ n. piece.Between n) (two (length inside))

line_is : (bytes rest : List ℕ) → IsLine bytes rest → front_piece (bytes ++ rest) ≡ piece.Between (length bytes)
line_is bytes rest i =
    subst (λ b. front_piece (b ++ rest) ≡ piece.Between (length b)) (sym i.spelled) (line_inside i.inside rest i.on_line i.ended)

block_inside : (inside rest : List ℕ) → holds_end (inside ++ 42 ∷ []) ≡ false →
    front_piece ((47 ∷ 42 ∷ (inside ++ 42 ∷ 47 ∷ [])) ++ rest) ≡ piece.Between (suc (suc (length (inside ++ 42 ∷ 47 ∷ []))))
unfolding scan_from scan_other scan_block
block_inside inside rest h =
    ap (λ t. scan_closed_block (block_length t)) (append_assoc inside (42 ∷ 47 ∷ []) rest)
    ∙ (ap scan_closed_block (block_over inside rest h)
    ∙ ap (λ n. piece.Between n) (two (length inside + 2) ∙ ap (λ n. suc (suc n)) (sym (length-append inside (42 ∷ 47 ∷ [])))))

block_is : (bytes rest : List ℕ) → IsBlock bytes → front_piece (bytes ++ rest) ≡ piece.Between (length bytes)
block_is bytes rest i =
    subst (λ b. front_piece (b ++ rest) ≡ piece.Between (length b)) (sym i.spelled) (block_inside i.inside rest i.first)

-- ---- names

name_bytes : (c : ℕ) (ws : List ℕ) → is_name (c ∷ ws) ≡ true → list_all is_name_byte (c ∷ ws) ≡ true
name_bytes c ws h =
    let p = and_parts (is_letter c) (list_all is_name_byte ws) h in
    and_from (is_name_byte c) _ (or_left (is_letter c) (is_digit c) p.0) p.1

name_more : (c : ℕ) (ws : List ℕ) (d : ℕ) → is_name (c ∷ ws) ≡ true → is_name_byte d ≡ true → is_form ((c ∷ ws) ++ d ∷ []) ≡ true
name_more c ws d h e =
    let p = and_parts (is_letter c) (list_all is_name_byte ws) h in
    or_left _ _ (or_left _ _ (or_left _ _ (and_from (is_letter c) _ p.0 (all_more is_name_byte ws d p.1 e))))

name_ended : (c : ℕ) (ws rest : List ℕ) → is_name (c ∷ ws) ≡ true → IsLongest (c ∷ ws) rest → begins is_name_byte rest ≡ false
name_ended c ws [] h k = refl
name_ended c ws (d ∷ ds) h k =
    false_from_ne_true (is_name_byte d) (λ e. both_ways _ (longest_next (c ∷ ws) d ds k) (name_more c ws d h e))

name_at : (bytes rest : List ℕ) (n : ℕ) → n ≡ length bytes →
    piece.Token (cond (is_word (take n (bytes ++ rest))) kind.Word kind.Id) n ≡ piece.Token (cond (is_word bytes) kind.Word kind.Id) (length bytes)
name_at bytes rest n e =
    ap (λ t. piece.Token (cond (is_word t) kind.Word kind.Id) n) (take_at bytes rest n (sym e))
    ∙ ap (λ m. piece.Token (cond (is_word bytes) kind.Word kind.Id) m) e

name_is : (bytes rest : List ℕ) → is_name bytes ≡ true → IsLongest bytes rest →
    front_piece (bytes ++ rest) ≡ piece.Token (cond (is_word bytes) kind.Word kind.Id) (length bytes)
unfolding scan_name
name_is [] rest h k = absurd (let f : false ≡ true = h in cc)
name_is (c ∷ ws) rest h k =
    let p = and_parts (is_letter c) (list_all is_name_byte ws) h in
    route_letter c ((c ∷ ws) ++ rest) p.0
    ∙ name_at (c ∷ ws) rest (run_length is_name_byte ((c ∷ ws) ++ rest)) (run_over is_name_byte (c ∷ ws) rest (name_bytes c ws h) (name_ended c ws rest h k))

-- ---- numbers

digits_ended : (c : ℕ) (ws rest : List ℕ) → is_digits (c ∷ ws) ≡ true → IsLongest (c ∷ ws) rest → begins is_digit rest ≡ false
digits_ended c ws [] h k = refl
digits_ended c ws (d ∷ ds) h k =
    false_from_ne_true (is_digit d)
    (λ e. both_ways _ (longest_next (c ∷ ws) d ds k) (or_left _ _ (or_left _ _ (or_right _ _ (all_more is_digit (c ∷ ws) d h e)))))

abbrev number_judged : List ℕ → ℕ → Scan
number_judged digits n = cond (is_number digits) (piece.Token kind.Number n) (piece.Refused rule.L3 0)

number_at : (bytes rest : List ℕ) (n : ℕ) → n ≡ length bytes → number_judged (take n (bytes ++ rest)) n ≡ number_judged bytes (length bytes)
number_at bytes rest n e = ap (λ t. number_judged t n) (take_at bytes rest n (sym e)) ∙ ap (number_judged bytes) e

number_is : (bytes rest : List ℕ) → is_digits bytes ≡ true → IsLongest bytes rest → front_piece (bytes ++ rest) ≡ number_judged bytes (length bytes)
unfolding scan_number
number_is [] rest h k = absurd (let f : false ≡ true = h in cc)
number_is (c ∷ ws) rest h k =
    route_digit c ((c ∷ ws) ++ rest) (and_parts (is_digit c) (list_all is_digit ws) h).0
    ∙ number_at (c ∷ ws) rest (run_length is_digit ((c ∷ ws) ++ rest)) (run_over is_digit (c ∷ ws) rest h (digits_ended c ws rest h k))

-- ---- strings

string_at : (cs rest : List ℕ) → is_string_rest false cs ≡ true → front_piece ((34 ∷ cs) ++ rest) ≡ scan_escapes (suc (length cs)) (bad_escape (34 ∷ cs))
unfolding scan_from scan_string
string_at cs rest h =
    ap (scan_closed_string (34 ∷ (cs ++ rest))) (closed_over false cs rest h)
    ∙ (ap (λ n. scan_escapes n (bad_escape (take n (34 ∷ (cs ++ rest))))) (add-one (length cs))
    ∙ ap (λ t. scan_escapes (suc (length cs)) (bad_escape (34 ∷ t))) (take_at cs rest (length cs) refl))

string_is : (bytes rest : List ℕ) → is_string bytes ≡ true → front_piece (bytes ++ rest) ≡ scan_escapes (length bytes) (bad_escape bytes)
string_is [] rest h = absurd (let f : false ≡ true = h in cc)
string_is (c ∷ cs) rest h =
    let p = and_parts (nat_eq c 34) (is_string_rest false cs) h in
    subst (λ x. front_piece ((x ∷ cs) ++ rest) ≡ scan_escapes (suc (length cs)) (bad_escape (x ∷ cs))) (sym (eqb-true c 34 p.0)) (string_at cs rest p.1)

none_is : (o : Option ℕ) → is_none o ≡ true → o ≡ None
none_is None h = refl
none_is (Some n) h = absurd (let f : false ≡ true = h in cc)

-- ---- signs

-- a byte with which a sign begins
record Plain (c : ℕ) : Type 0 where
  blank : is_blank c ≡ false
  letter : is_letter c ≡ false
  digit : is_digit c ≡ false
  quote : nat_eq c 34 ≡ false

plain : (c : ℕ) (cs : List ℕ) → is_sign (c ∷ cs) ≡ true → Plain c
plain c cs h =
    let p = and_parts (not (is_letter c) && not (is_digit c) && not (nat_eq c 34)) (not (is_blank c)) (sign_plain c cs h) in
    let q = and_parts (not (is_letter c) && not (is_digit c)) (not (nat_eq c 34)) p.0 in
    let r = and_parts (not (is_letter c)) (not (is_digit c)) q.0 in
    record { blank = not-true _ p.1; letter = not-true _ r.0; digit = not-true _ r.1; quote = not-true _ q.1 }

no_line_at : (a b c : Bool) → (a && (b || c)) ≡ false → ((a && b) ≡ false) × ((a && c) ≡ false)
no_line_at true b c h = or_parts b c h
no_line_at false b c h = (refl, refl)

no_line : (text : List ℕ) → begins_comment text ≡ false → (begins_line text ≡ false) × (begins_block text ≡ false)
no_line [] h = (refl, refl)
no_line (c ∷ []) h = (refl, refl)
no_line (c ∷ d ∷ cs) h = no_line_at (nat_eq c 47) (nat_eq d 47) (nat_eq d 42) h

route_other : (c : ℕ) (cs : List ℕ) → Plain c → begins_line (c ∷ cs) ≡ false → begins_block (c ∷ cs) ≡ false → front_piece (c ∷ cs) ≡ scan_sign (c ∷ cs)
unfolding scan_other
route_other c cs p l b =
    route c (c ∷ cs) false false false false p.blank p.letter p.digit p.quote
    ∙ (ap (λ x. cond x (scan_line (c ∷ cs)) (cond (begins_block (c ∷ cs)) (scan_block (c ∷ cs)) (scan_sign (c ∷ cs)))) l
    ∙ ap (λ x. cond x (scan_block (c ∷ cs)) (scan_sign (c ∷ cs))) b)

abbrev judged : ℕ → Scan
judged n = cond (nat_eq n 0) (piece.Refused rule.L1 0) (piece.Token kind.Sign n)

no_long : (c d : ℕ) (ds : List ℕ) → IsLongest (c ∷ []) (d ∷ ds) → long_sign c d ≡ false
no_long c d ds k = sym (sign_two c d) ∙ (or_parts _ (is_sign (c ∷ d ∷ [])) (longest_next (c ∷ []) d ds k)).1

short_is : (c : ℕ) → is_sign (c ∷ []) ≡ true → short_length c ≡ 1
short_is c h = ap (λ b. cond b 1 0) (sym (sign_one c) ∙ h)

sign_measured : (c : ℕ) (cs rest : List ℕ) → is_sign (c ∷ cs) ≡ true → IsLongest (c ∷ cs) rest → sign_length ((c ∷ cs) ++ rest) ≡ suc (length cs)
sign_measured c [] [] h k = short_is c h
sign_measured c [] (d ∷ ds) h k = ap (λ b. cond b 2 (short_length c)) (no_long c d ds k) ∙ short_is c h
sign_measured c (d ∷ []) rest h k = ap (λ b. cond b 2 (short_length c)) (sym (sign_two c d) ∙ h)
sign_measured c (d ∷ e ∷ es) rest h k = absurd (both_ways _ (sign_more c d e es) h)

judged_some : (n : ℕ) → judged (suc n) ≡ piece.Token kind.Sign (suc n)
judged_some n = ap (λ b. cond b (piece.Refused rule.L1 0) (piece.Token kind.Sign (suc n))) (ne_eqb (suc n) 0 (λ e. omega arith))

no_empty_sign : is_sign [] ≡ true → ⊥
unfolding is_sign
no_empty_sign h = let f : false ≡ true = h in cc

sign_is : (bytes rest : List ℕ) → is_sign bytes ≡ true → IsLongest bytes rest → begins_comment (bytes ++ rest) ≡ false →
    front_piece (bytes ++ rest) ≡ piece.Token kind.Sign (length bytes)
unfolding scan_sign
sign_is [] rest h k n = absurd (no_empty_sign h)
sign_is (c ∷ cs) rest h k n =
    let l = no_line ((c ∷ cs) ++ rest) n in
    route_other c (cs ++ rest) (plain c cs h) l.0 l.1 ∙ (ap judged (sign_measured c cs rest h k) ∙ judged_some (length cs))

-- ---- parts

token_is : (of : Kind) (bytes rest : List ℕ) → IsToken of bytes rest → front_piece (bytes ++ rest) ≡ piece.Token of (length bytes)
token_is kind.Word bytes rest t =
    name_is bytes rest (word_name bytes t.form) t.longest ∙ ap (λ b. piece.Token (cond b kind.Word kind.Id) (length bytes)) t.form
token_is kind.Id bytes rest t =
    let p = identifier_parts bytes t.form in
    name_is bytes rest p.0 t.longest ∙ ap (λ b. piece.Token (cond b kind.Word kind.Id) (length bytes)) p.1
token_is kind.Number bytes rest t =
    number_is bytes rest t.form t.longest ∙ ap (λ b. cond b (piece.Token kind.Number (length bytes)) (piece.Refused rule.L3 0)) t.kept
token_is kind.Str bytes rest t = string_is bytes rest t.form ∙ ap (scan_escapes (length bytes)) (none_is (bad_escape bytes) t.kept)
token_is kind.Sign bytes rest t = sign_is bytes rest t.form t.longest t.no_comment

-- a part that stands at the front is found there
pub part_is : (what : PartKind) (bytes rest : List ℕ) → Stands what bytes rest → front_piece (bytes ++ rest) ≡ piece_for what (length bytes)
part_is Blank bytes rest s = blank_is bytes rest s
part_is Line bytes rest s = line_is bytes rest s
part_is Block bytes rest s = block_is bytes rest s
part_is (Of of) bytes rest s = token_is of bytes rest s

-- ---- violations

first_form : (c : ℕ) → is_form (c ∷ []) ≡ false → (is_letter c ≡ false) × ((is_digit c ≡ false) × (short_sign c ≡ false))
first_form c h =
    let p = or_parts _ (is_sign (c ∷ [])) h in
    let q = or_parts _ (is_string (c ∷ [])) p.0 in
    let r = or_parts (is_name (c ∷ [])) (is_digits (c ∷ [])) q.0 in
    (sym (and-true (is_letter c)) ∙ r.0, (sym (and-true (is_digit c)) ∙ r.1, sym (sign_one c) ∙ p.1))

strange_measured : (c : ℕ) (cs : List ℕ) → short_sign c ≡ false → ((n : ℕ) → is_form (take n (c ∷ cs)) ≡ false) → sign_length (c ∷ cs) ≡ 0
strange_measured c [] s none = ap (λ b. cond b 1 0) s
strange_measured c (d ∷ ds) s none =
    let l : long_sign c d ≡ false = sym (sign_two c d) ∙ (or_parts _ (is_sign (c ∷ d ∷ [])) (none 2)).1 in
    ap (λ b. cond b 2 (short_length c)) l ∙ ap (λ b. cond b 1 0) s

no_slash : (c : ℕ) → short_sign c ≡ false → nat_eq c 47 ≡ false
no_slash c s = false_from_ne_true (nat_eq c 47) (λ e. both_ways (short_sign c) s (ap short_sign (eqb-true c 47 e)))

line_without : (c : ℕ) (cs : List ℕ) → nat_eq c 47 ≡ false → begins_comment (c ∷ cs) ≡ false
line_without c [] e = refl
line_without c (d ∷ ds) e = and_left (nat_eq c 47) _ e

strange_is : (text : List ℕ) → IsStrange text → front_piece text ≡ piece.Refused rule.L1 0
unfolding scan_sign
strange_is [] i = absurd (let f : false ≡ true = i.other in cc)
strange_is (c ∷ cs) i =
    let p = and_parts (not (is_blank c)) (not (nat_eq c 34)) i.other in
    let f = first_form c (i.none 1) in
    let l = no_line (c ∷ cs) (line_without c cs (no_slash c f.1.1)) in
    route_other c cs record { blank = not-true _ p.0; letter = f.0; digit = f.1.0; quote = not-true _ p.1 } l.0 l.1
    ∙ ap judged (strange_measured c cs f.1.1 i.none)

open_at : (cs : List ℕ) (o : Option ℕ) → length_to_quote false cs ≡ o → ((n : ℕ) → is_string (take n (34 ∷ cs)) ≡ false) → o ≡ None
open_at cs None e none = refl
open_at cs (Some n) e none = absurd (both_ways _ (none (suc n)) (closed_is false cs n e).is)

unclosed_at : (cs : List ℕ) → ((n : ℕ) → is_string (take n (34 ∷ cs)) ≡ false) → front_piece (34 ∷ cs) ≡ piece.Refused rule.L2 0
unfolding scan_from scan_string
unclosed_at cs none = ap (scan_closed_string (34 ∷ cs)) (open_at cs (length_to_quote false cs) refl none)

unclosed_is : (text : List ℕ) → IsUnclosedString text → front_piece text ≡ piece.Refused rule.L2 0
unclosed_is [] i = absurd (let f : false ≡ true = i.quote in cc)
unclosed_is (c ∷ cs) i =
    let e : 34 ≡ c = sym (eqb-true c 34 i.quote) in
    let none : (n : ℕ) → is_string (take n (34 ∷ cs)) ≡ false = λ n. ap (λ x. is_string (take n (x ∷ cs))) e ∙ i.none n in
    subst (λ x. front_piece (x ∷ cs) ≡ piece.Refused rule.L2 0) e (unclosed_at cs none)

bad_number_is : (text : List ℕ) → IsBadNumber text → front_piece text ≡ piece.Refused rule.L3 0
bad_number_is text i =
    ap front_piece i.spelled
    ∙ (number_is i.digits i.behind i.form i.longest
    ∙ ap (λ b. cond b (piece.Token kind.Number (length i.digits)) (piece.Refused rule.L3 0)) i.bad)

comment_at : (inside : List ℕ) → holds_end inside ≡ false → front_piece (47 ∷ 42 ∷ inside) ≡ piece.Refused rule.L4 0
unfolding scan_from scan_other scan_block
comment_at inside h = ap scan_closed_block (block_never inside h)

comment_is : (text : List ℕ) → IsUnclosedComment text → front_piece text ≡ piece.Refused rule.L4 0
comment_is text i = ap front_piece i.spelled ∙ comment_at i.inside i.none

bad_string_is : (text : List ℕ) (place : ℕ) → IsBadString text place → front_piece text ≡ piece.Refused rule.L5 place
bad_string_is text place i =
    ap front_piece i.spelled ∙ (string_is i.string i.behind i.form ∙ ap (scan_escapes (length i.string)) i.bad)

at_zero : (of : LexRule) (place : ℕ) (p : Scan) → place ≡ 0 → p ≡ piece.Refused of 0 → p ≡ piece.Refused of place
at_zero of place p e h = h ∙ ap (λ n. piece.Refused of n) (sym e)

-- a violation that stands at the front is found there
pub violation_is : (of : LexRule) (text : List ℕ) (place : ℕ) → Violates of text place → front_piece text ≡ piece.Refused of place
violation_is rule.L0 text place v = absurd v
violation_is rule.L1 text place v = at_zero rule.L1 place (front_piece text) v.0 (strange_is text v.1)
violation_is rule.L2 text place v = at_zero rule.L2 place (front_piece text) v.0 (unclosed_is text v.1)
violation_is rule.L3 text place v = at_zero rule.L3 place (front_piece text) v.0 (bad_number_is text v.1)
violation_is rule.L4 text place v = at_zero rule.L4 place (front_piece text) v.0 (comment_is text v.1)
violation_is rule.L5 text place v = bad_string_is text place v
