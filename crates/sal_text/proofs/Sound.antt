-- What is found at the front of a text is a part of it, or a violation.
use Rattle.std.proofs.Common.{◌≡◌, ℕ, zero, suc, ◌+◌, ◌-◌, ◌<◌, Bool, true, false, not, ◌&&◌, ◌||◌, nat_eq, cond, List, [], ◌∷◌, ◌++◌, length, take, drop, Option, Some, None, refl, ap, sym, ◌∙◌, subst, add-one, append_assoc, length-append, length-drop, get_or, arith}
use Rattle.std.proofs.lemmas.Bool.{and_parts, and_from, and_left, and_right, or_from, or_left, eqb-true, not_from_false}
use Rattle.std.proofs.lemmas.List.{take-append-drop, take_at, take_rest}
use Rattle.sal_ast.specs.declared.lexeme.Kind.TheVariants as kind
use Rattle.sal_ast.specs.Lexemes.{is_letter, is_digit, is_name_byte, is_name, is_word, is_number, is_sign}
use Rattle.sal_text.specs.declared.token.LexRule.TheVariants as rule
use Rattle.sal_text.specs.declared.piece.Scan.{Scan}
use Rattle.sal_text.specs.declared.piece.Scan.TheVariants as piece
use Rattle.sal_text.specs.Values.{bad_escape}
use Rattle.sal_text.specs.Tokens.{is_blank, is_in_line, begins, is_string_rest, has_form, is_form, is_valid, IsLongest, begins_comment, Blank, Line, Block}
use Rattle.sal_text.specs.Refusals.{Violates}
use Rattle.sal_text.specs.code.Scanned.{IsBetween, IsTokenAtFront, IsScanOf}
use Rattle.sal_text.specs.code.Scanning.{run_length, block_length, length_to_quote, short_sign, long_sign, short_length, scan_name, scan_number, scan_escapes, scan_closed_string, scan_string, scan_line, scan_closed_block, scan_block, scan_sign, begins_line, begins_block, scan_other, scan_from}
use Rattle.sal_text.proofs.Runs.{run_all, run_ended, run_within}
use Rattle.sal_text.proofs.Blocks.{Ended, block_is, block_open}
use Rattle.sal_text.proofs.Closings.{Closed, closed_is, never_closed, closed_once}
use Rattle.sal_text.proofs.Forms.{identifier_from, sign_one, sign_two, sign_more, no_slash, letter_no_slash, digit_no_slash, form_letter, form_digit, form_quote, longest_from, not_all}

-- ---- blanks

blank_found : (c : ℕ) (cs : List ℕ) → is_blank c ≡ true → IsScanOf (piece.Between 1) (c ∷ cs)
blank_found c cs h =
    record { what = Blank; quiet = λ s e ts. refl; some = omega arith; within = omega arith; stands = and_from (is_blank c) true h refl }

-- ---- names

letter_byte : (c : ℕ) → is_letter c ≡ true → is_name_byte c ≡ true
letter_byte c h = or_left (is_letter c) (is_digit c) h

-- a run after its first byte
run_next : (is : ℕ → Bool) (c : ℕ) (cs : List ℕ) → is c ≡ true → run_length is (c ∷ cs) ≡ suc (run_length is cs)
run_next is c cs h = ap (λ b. cond b (suc (run_length is cs)) 0) h

name_longest : (c : ℕ) (ws rest : List ℕ) → is_letter c ≡ true → begins is_name_byte rest ≡ false → IsLongest (c ∷ ws) rest
name_longest c ws rest h e =
    longest_from (c ∷ ws) rest
    (λ d tail ds s. form_letter c (ws ++ d ∷ ds) h (and_right (is_letter c) _ (not_all is_name_byte ws d ds (ap (begins is_name_byte) (sym s) ∙ e))))

name_form : (bytes : List ℕ) (b : Bool) → is_word bytes ≡ b → is_name bytes ≡ true → has_form (cond b kind.Word kind.Id) bytes ≡ true
name_form bytes true e h = e
name_form bytes false e h = identifier_from bytes h e

name_kept : (bytes : List ℕ) (b : Bool) → is_valid (cond b kind.Word kind.Id) bytes ≡ true
name_kept bytes true = refl
name_kept bytes false = refl

name_at : (c : ℕ) (cs : List ℕ) → is_letter c ≡ true →
    IsTokenAtFront (cond (is_word (take (suc (run_length is_name_byte cs)) (c ∷ cs))) kind.Word kind.Id) (suc (run_length is_name_byte cs)) (c ∷ cs)
name_at c cs h =
    let n : ℕ = run_length is_name_byte cs in
    let named : is_name (c ∷ take (run_length is_name_byte cs) cs) ≡ true = and_from (is_letter c) _ h (run_all is_name_byte cs) in
    record {
      some = omega arith;
      within = let w = run_within is_name_byte cs in omega arith;
      stands = record {
        form = name_form (c ∷ take (run_length is_name_byte cs) cs) (is_word (c ∷ take (run_length is_name_byte cs) cs)) refl named;
        longest = name_longest c (take (run_length is_name_byte cs) cs) (drop (run_length is_name_byte cs) cs) h (run_ended is_name_byte cs);
        no_comment = no_slash c _ (letter_no_slash c h);
        kept = name_kept (c ∷ take (run_length is_name_byte cs) cs) (is_word (c ∷ take (run_length is_name_byte cs) cs));
      };
    }

name_found : (c : ℕ) (cs : List ℕ) → is_letter c ≡ true → IsScanOf (scan_name (c ∷ cs)) (c ∷ cs)
unfolding scan_name
name_found c cs h =
    subst (λ n. IsTokenAtFront (cond (is_word (take n (c ∷ cs))) kind.Word kind.Id) n (c ∷ cs)) (sym (run_next is_name_byte c cs (letter_byte c h))) (name_at c cs h)

-- ---- numbers

digits_longest : (c : ℕ) (ws rest : List ℕ) → is_digit c ≡ true → begins is_digit rest ≡ false → IsLongest (c ∷ ws) rest
digits_longest c ws rest h e =
    longest_from (c ∷ ws) rest
    (λ d tail ds s. form_digit c (ws ++ d ∷ ds) h (and_right (is_digit c) _ (not_all is_digit ws d ds (ap (begins is_digit) (sym s) ∙ e))))

number_judged : (c : ℕ) (cs : List ℕ) (b : Bool) → is_digit c ≡ true → is_number (c ∷ take (run_length is_digit cs) cs) ≡ b →
    IsScanOf (cond b (piece.Token kind.Number (suc (run_length is_digit cs))) (piece.Refused rule.L3 0)) (c ∷ cs)
number_judged c cs true h e = record {
  some = omega arith;
  within = let w = run_within is_digit cs in omega arith;
  stands = record {
    form = and_from (is_digit c) _ h (run_all is_digit cs);
    longest = digits_longest c (take (run_length is_digit cs) cs) (drop (run_length is_digit cs) cs) h (run_ended is_digit cs);
    no_comment = no_slash c _ (digit_no_slash c h);
    kept = e;
  };
}
number_judged c cs false h e = (
  refl,
  record {
    digits = c ∷ take (run_length is_digit cs) cs;
    behind = drop (run_length is_digit cs) cs;
    spelled = ap (λ t. c ∷ t) (sym (take-append-drop (run_length is_digit cs) cs));
    form = and_from (is_digit c) _ h (run_all is_digit cs);
    longest = digits_longest c (take (run_length is_digit cs) cs) (drop (run_length is_digit cs) cs) h (run_ended is_digit cs);
    bad = e;
  },
)

number_found : (c : ℕ) (cs : List ℕ) → is_digit c ≡ true → IsScanOf (scan_number (c ∷ cs)) (c ∷ cs)
unfolding scan_number
number_found c cs h =
    subst (λ n. IsScanOf (cond (is_number (take n (c ∷ cs))) (piece.Token kind.Number n) (piece.Refused rule.L3 0)) (c ∷ cs))
    (sym (run_next is_digit c cs h)) (number_judged c cs (is_number (c ∷ take (run_length is_digit cs) cs)) h refl)

-- ---- strings

string_longest : (text rest : List ℕ) → is_string_rest false text ≡ true → IsLongest (34 ∷ text) rest
string_longest text rest h = longest_from (34 ∷ text) rest (λ d tail ds s. form_quote (text ++ d ∷ ds) ∙ closed_once text d ds h)

escapes_found : (n : ℕ) (cs : List ℕ) (o : Option ℕ) → Closed false cs n → bad_escape (34 ∷ take n cs) ≡ o → IsScanOf (scan_escapes (suc n) o) (34 ∷ cs)
escapes_found n cs None i e = record {
  some = omega arith;
  within = let w = i.within in omega arith;
  stands = record {
    form = i.is;
    longest = string_longest (take n cs) (drop n cs) i.is;
    no_comment = no_slash 34 _ refl;
    kept = rw e refl;
  };
}
escapes_found n cs (Some at) i e = record {
  string = 34 ∷ take n cs;
  behind = drop n cs;
  spelled = ap (λ t. 34 ∷ t) (sym (take-append-drop n cs));
  form = i.is;
  bad = e;
}

string_found_at : (cs : List ℕ) (o : Option ℕ) → length_to_quote false cs ≡ o → IsScanOf (scan_closed_string (34 ∷ cs) o) (34 ∷ cs)
string_found_at cs None e = (refl, record { quote = refl; none = never_closed cs e })
string_found_at cs (Some n) e =
    subst (λ m. IsScanOf (scan_escapes m (bad_escape (take m (34 ∷ cs)))) (34 ∷ cs)) (sym (add-one n))
    (escapes_found n cs (bad_escape (34 ∷ take n cs)) (closed_is false cs n e) refl)

string_found : (cs : List ℕ) → IsScanOf (scan_string (34 ∷ cs)) (34 ∷ cs)
unfolding scan_string
string_found cs = string_found_at cs (length_to_quote false cs) refl

-- ---- comments

two : (n : ℕ) → n + 2 ≡ suc (suc n)
two n = omega arith

line_found : (cs : List ℕ) → IsScanOf (scan_line (47 ∷ 47 ∷ cs)) (47 ∷ 47 ∷ cs)
unfolding scan_line
line_found cs =
    subst (λ n. IsBetween n (47 ∷ 47 ∷ cs)) (sym (two (run_length is_in_line cs)))
    record {
      what = Line;
      quiet = λ s e ts. refl;
      some = omega arith;
      within = let w = run_within is_in_line cs in omega arith;
      stands = record { inside = take (run_length is_in_line cs) cs; spelled = refl; on_line = run_all is_in_line cs; ended = run_ended is_in_line cs };
    }

block_ended : (cs : List ℕ) (n : ℕ) → Ended cs n → IsBetween (suc (suc n)) (47 ∷ 42 ∷ cs)
block_ended cs n i =
    let whole : cs ≡ (i.inside ++ 42 ∷ 47 ∷ []) ++ i.rest = i.spelled ∙ sym (append_assoc i.inside (42 ∷ 47 ∷ []) i.rest) in
    let long : length (i.inside ++ 42 ∷ 47 ∷ []) ≡ n = length-append i.inside (42 ∷ 47 ∷ []) ∙ i.counted in
    let front : take n cs ≡ i.inside ++ 42 ∷ 47 ∷ [] = ap (take n) whole ∙ take_at (i.inside ++ 42 ∷ 47 ∷ []) i.rest n long in
    record {
      what = Block;
      quiet = λ s e ts. refl;
      some = omega arith;
      within = let l : length cs ≡ length (i.inside ++ 42 ∷ 47 ∷ []) + length i.rest = ap length whole ∙ length-append (i.inside ++ 42 ∷ 47 ∷ []) i.rest in omega arith;
      stands = record { inside = i.inside; spelled = ap (λ t. 47 ∷ 42 ∷ t) front; first = i.first };
    }

block_found_at : (cs : List ℕ) (o : Option ℕ) → block_length cs ≡ o → IsScanOf (scan_closed_block o) (47 ∷ 42 ∷ cs)
block_found_at cs None e = (refl, record { inside = cs; spelled = refl; none = block_open cs e })
block_found_at cs (Some n) e = subst (λ m. IsBetween m (47 ∷ 42 ∷ cs)) (sym (two n)) (block_ended cs n (block_is cs n e))

block_found : (cs : List ℕ) → IsScanOf (scan_block (47 ∷ 42 ∷ cs)) (47 ∷ 42 ∷ cs)
unfolding scan_block
block_found cs = block_found_at cs (block_length cs) refl

-- ---- signs

-- neither a blank nor a letter nor a digit nor a quote
pub record Other (c : ℕ) : Type 0 where
  pub blank : is_blank c ≡ false
  pub letter : is_letter c ≡ false
  pub digit : is_digit c ≡ false
  pub quote : nat_eq c 34 ≡ false

other_form : (c : ℕ) (cs : List ℕ) → Other c → is_sign (c ∷ cs) ≡ false → is_form (c ∷ cs) ≡ false
other_form c cs o h =
    or_from _ _ (or_from _ _ (or_from _ _ (and_left (is_letter c) _ o.letter) (and_left (is_digit c) _ o.digit)) (and_left (nat_eq c 34) _ o.quote)) h

nothing : is_form [] ≡ false
unfolding is_sign
nothing = refl

-- a sign of one byte, after which another makes no sign of two
one_found : (c : ℕ) (cs : List ℕ) → short_sign c ≡ true → IsLongest (c ∷ []) cs → begins_comment (c ∷ cs) ≡ false → IsTokenAtFront kind.Sign 1 (c ∷ cs)
one_found c cs s l n = record { some = omega arith; within = omega arith; stands = record { form = sign_one c ∙ s; longest = l; no_comment = n; kept = refl } }

two_found : (c d : ℕ) (cs : List ℕ) → Other c → long_sign c d ≡ true → begins_comment (c ∷ d ∷ cs) ≡ false → IsTokenAtFront kind.Sign 2 (c ∷ d ∷ cs)
two_found c d cs o s n = record {
  some = omega arith;
  within = omega arith;
  stands = record {
    form = sign_two c d ∙ s;
    longest = longest_from (c ∷ d ∷ []) cs (λ e tail es k. other_form c (d ∷ e ∷ es) o (sign_more c d e es));
    no_comment = n;
    kept = refl;
  };
}

one_longest : (c d : ℕ) (cs : List ℕ) → Other c → long_sign c d ≡ false → IsLongest (c ∷ []) (d ∷ cs)
one_longest c d cs o h zero lt le = absurd (omega arith)
one_longest c d cs o h (suc zero) lt le = other_form c (d ∷ []) o (sign_two c d ∙ h)
one_longest c d [] o h (suc (suc n)) lt le = absurd (omega arith)
one_longest c d (e ∷ es) o h (suc (suc n)) lt le = other_form c (d ∷ e ∷ take n es) o (sign_more c d e (take n es))

last_longest : (c : ℕ) → IsLongest (c ∷ []) []
last_longest c = longest_from (c ∷ []) [] (λ d tail ds s. absurd (cc))

strange : (c : ℕ) (cs : List ℕ) → Other c → ((n : ℕ) → is_form (take n (c ∷ cs)) ≡ false) → Violates rule.L1 (c ∷ cs) 0
strange c cs o none = (refl, record { other = and_from (not (is_blank c)) _ (not_from_false (is_blank c) o.blank) (not_from_false (nat_eq c 34) o.quote); none = none })

one_strange : (c : ℕ) → Other c → short_sign c ≡ false → (n : ℕ) → is_form (take n (c ∷ [])) ≡ false
one_strange c o h zero = nothing
one_strange c o h (suc zero) = other_form c [] o (sign_one c ∙ h)
one_strange c o h (suc (suc n)) = other_form c [] o (sign_one c ∙ h)

two_strange : (c d : ℕ) (cs : List ℕ) → Other c → long_sign c d ≡ false → short_sign c ≡ false → (n : ℕ) → is_form (take n (c ∷ d ∷ cs)) ≡ false
two_strange c d cs o l h zero = nothing
two_strange c d cs o l h (suc zero) = other_form c [] o (sign_one c ∙ h)
two_strange c d cs o l h (suc (suc zero)) = other_form c (d ∷ []) o (sign_two c d ∙ l)
two_strange c d [] o l h (suc (suc (suc n))) = other_form c (d ∷ []) o (sign_two c d ∙ l)
two_strange c d (e ∷ es) o l h (suc (suc (suc n))) = other_form c (d ∷ e ∷ take n es) o (sign_more c d e (take n es))

abbrev judged : ℕ → Scan
judged n = cond (nat_eq n 0) (piece.Refused rule.L1 0) (piece.Token kind.Sign n)

last_sign : (c : ℕ) (b : Bool) → Other c → short_sign c ≡ b → IsScanOf (judged (cond b 1 0)) (c ∷ [])
last_sign c true o e = one_found c [] e (last_longest c) refl
last_sign c false o e = strange c [] o (one_strange c o e)

short_found : (c d : ℕ) (cs : List ℕ) (b : Bool) → Other c → begins_comment (c ∷ d ∷ cs) ≡ false → long_sign c d ≡ false → short_sign c ≡ b →
    IsScanOf (judged (cond b 1 0)) (c ∷ d ∷ cs)
short_found c d cs true o n l e = one_found c (d ∷ cs) e (one_longest c d cs o l) n
short_found c d cs false o n l e = strange c (d ∷ cs) o (two_strange c d cs o l e)

long_found : (c d : ℕ) (cs : List ℕ) (b : Bool) → Other c → begins_comment (c ∷ d ∷ cs) ≡ false → long_sign c d ≡ b →
    IsScanOf (judged (cond b 2 (short_length c))) (c ∷ d ∷ cs)
long_found c d cs true o n e = two_found c d cs o e n
long_found c d cs false o n e = short_found c d cs (short_sign c) o n e refl

sign_found : (c : ℕ) (cs : List ℕ) → Other c → begins_comment (c ∷ cs) ≡ false → IsScanOf (scan_sign (c ∷ cs)) (c ∷ cs)
unfolding scan_sign
sign_found c [] o n = last_sign c (short_sign c) o refl
sign_found c (d ∷ ds) o n = long_found c d ds (long_sign c d) o n refl

-- ---- all of them

neither : (a b c : Bool) → (a && b) ≡ false → (a && c) ≡ false → (a && (b || c)) ≡ false
neither true b c e f = or_from b c e f
neither false b c e f = refl

no_comment_of : (c d : ℕ) (cs : List ℕ) → begins_line (c ∷ d ∷ cs) ≡ false → begins_block (c ∷ d ∷ cs) ≡ false → begins_comment (c ∷ d ∷ cs) ≡ false
no_comment_of c d cs l b = neither (nat_eq c 47) (nat_eq d 47) (nat_eq d 42) l b

line_case : (c d : ℕ) (cs : List ℕ) → begins_line (c ∷ d ∷ cs) ≡ true → IsScanOf (scan_line (c ∷ d ∷ cs)) (c ∷ d ∷ cs)
line_case c d cs h =
    let p = and_parts (nat_eq c 47) (nat_eq d 47) h in
    let s : 47 ∷ 47 ∷ cs ≡ c ∷ d ∷ cs = ap (λ x. x ∷ 47 ∷ cs) (sym (eqb-true c 47 p.0)) ∙ ap (λ x. c ∷ x ∷ cs) (sym (eqb-true d 47 p.1)) in
    subst (λ t. IsScanOf (scan_line t) t) s (line_found cs)

block_case : (c d : ℕ) (cs : List ℕ) → begins_block (c ∷ d ∷ cs) ≡ true → IsScanOf (scan_block (c ∷ d ∷ cs)) (c ∷ d ∷ cs)
block_case c d cs h =
    let p = and_parts (nat_eq c 47) (nat_eq d 42) h in
    let s : 47 ∷ 42 ∷ cs ≡ c ∷ d ∷ cs = ap (λ x. x ∷ 42 ∷ cs) (sym (eqb-true c 47 p.0)) ∙ ap (λ x. c ∷ x ∷ cs) (sym (eqb-true d 42 p.1)) in
    subst (λ t. IsScanOf (scan_block t) t) s (block_found cs)

other_at : (c d : ℕ) (cs : List ℕ) (l b : Bool) → Other c → begins_line (c ∷ d ∷ cs) ≡ l → begins_block (c ∷ d ∷ cs) ≡ b →
    IsScanOf (cond l (scan_line (c ∷ d ∷ cs)) (cond b (scan_block (c ∷ d ∷ cs)) (scan_sign (c ∷ d ∷ cs)))) (c ∷ d ∷ cs)
other_at c d cs true b o e f = line_case c d cs e
other_at c d cs false true o e f = block_case c d cs f
other_at c d cs false false o e f = sign_found c (d ∷ cs) o (no_comment_of c d cs e f)

other_found : (c : ℕ) (cs : List ℕ) → Other c → IsScanOf (scan_other (c ∷ cs)) (c ∷ cs)
unfolding scan_other
other_found c [] o = sign_found c [] o refl
other_found c (d ∷ ds) o = other_at c d ds (begins_line (c ∷ d ∷ ds)) (begins_block (c ∷ d ∷ ds)) o refl refl

quote_found : (c : ℕ) (cs : List ℕ) → nat_eq c 34 ≡ true → IsScanOf (scan_string (c ∷ cs)) (c ∷ cs)
quote_found c cs h = subst (λ x. IsScanOf (scan_string (x ∷ cs)) (x ∷ cs)) (sym (eqb-true c 34 h)) (string_found cs)

found_at : (c : ℕ) (cs : List ℕ) (b l d q : Bool) → is_blank c ≡ b → is_letter c ≡ l → is_digit c ≡ d → nat_eq c 34 ≡ q →
    IsScanOf (cond b (piece.Between 1) (cond l (scan_name (c ∷ cs)) (cond d (scan_number (c ∷ cs)) (cond q (scan_string (c ∷ cs)) (scan_other (c ∷ cs)))))) (c ∷ cs)
found_at c cs true l d q e f g h = blank_found c cs e
found_at c cs false true d q e f g h = name_found c cs f
found_at c cs false false true q e f g h = number_found c cs g
found_at c cs false false false true e f g h = quote_found c cs h
found_at c cs false false false false e f g h = other_found c cs record { blank = e; letter = f; digit = g; quote = h }

pub found : (c : ℕ) (cs : List ℕ) → IsScanOf (scan_from c (c ∷ cs)) (c ∷ cs)
unfolding scan_from
found c cs = found_at c cs (is_blank c) (is_letter c) (is_digit c) (nat_eq c 34) refl refl refl refl

some_first : (text : List ℕ) → 0 < length text → IsScanOf (scan_from (get_or text 0 0) text) text
some_first [] h = absurd (omega arith)
some_first (c ∷ cs) h = found c cs

-- what is found after so many bytes
pub found_behind : (text : List ℕ) (at : ℕ) (of : Scan) → at < length text →
    of ≡ scan_from (get_or (take (length text - at) (drop at text)) 0 0) (take (length text - at) (drop at text)) → IsScanOf of (drop at text)
found_behind text at of h e =
    let s : take (length text - at) (drop at text) ≡ drop at text = take_rest text at in
    let k : of ≡ scan_from (get_or (drop at text) 0 0) (drop at text) = e ∙ ap (λ t. scan_from (get_or t 0 0) t) s in
    subst (λ p. IsScanOf p (drop at text)) (sym k) (some_first (drop at text) (omega (arith, length-drop at text)))
