-- What the whole parser answers, by trees and their spellings.
use Rattle.std.proofs.Common.{◌≡◌, ◌⊎◌, inl, inr, ℕ, zero, suc, ◌-◌, ◌≤◌, ◌<◌, Bool, true, false, ◌&&◌, List, [], ◌∷◌, ◌++◌, length, take, drop, refl, sym, ◌∙◌, ap, subst, append_assoc, append-nil, length-append, arith}
use Rattle.std.specs.Prelude.{Ok, Err}
use Rattle.std.specs.List.{list_all}
use Rattle.std.proofs.lemmas.List.{take-append-le, take-append-drop}
use Rattle.sal_ast.specs.declared.program.Program.{Program}
use Rattle.sal_ast.specs.Lexemes.{is_lexeme}
use Rattle.sal_grammar.specs.declared.reason.Reason.{Reason}
use Rattle.sal_grammar.specs.declared.reason.Reason.TheVariants.{Form, Depth}
use Rattle.sal_grammar.specs.declared.reason.ParseRule.TheVariants.{P3}
use Rattle.sal_grammar.specs.Tokens.{Token, Lexemes, next}
use Rattle.sal_grammar.specs.Parsers.{Outcome}
use Rattle.sal_grammar.specs.Programs.{top, rule_of}
use Rattle.sal_grammar.specs.Refusals.{IsProgram, Begins, IsRule, Refuses}
use Rattle.sal_grammar.proofs.Exactness.{differ, Begun, Dead, Refused, lexemes_append}
use Rattle.sal_grammar.proofs.Top.{going_on, every, accepted, refused, deeper, deeper_most, form_stays, GoesOn, depth_goes_on}
use Rattle.sal_grammar.proofs.ProgramWords.{ProgramWord}

-- the words of programs are the spellings of their trees
pub record Linked : Type 0 where
  pub to : (d : ℕ) (p : Program) (u : List Token) → Lexemes u → ProgramWord d p u → IsProgram d p u
  pub from : (d : ℕ) (p : Program) (u : List Token) → IsProgram d p u → ProgramWord d p u

-- ---- accepted

pub accepts : Linked → (p : Program) (ts r : List Token) → Lexemes ts → top 64 ts ≡ Ok (p, r) → IsProgram 64 p ts
accepts l p ts r h e = l.to 64 p ts h (accepted 64 p ts r e)

abbrev value_or : Program → Outcome Program → Program
value_or x (Ok p) = p.0
value_or x (Err e) = x

pub only : Linked → (p q : Program) (ts r : List Token) → IsProgram 64 p ts → top 64 ts ≡ Ok (q, r) → p ≡ q
only l p q ts r w e = ap (value_or p) (sym (every 64 p ts (l.from 64 p ts w)) ∙ e)

abbrev is_ok : Outcome Program → Bool
is_ok (Ok p) = true
is_ok (Err e) = false

pub never : Linked → (p : Program) (why : Reason) (ts r : List Token) → IsProgram 64 p ts → top 64 ts ≡ Err (why, r) → ⊥
never l p why ts r w e = differ (ap is_ok (sym (every 64 p ts (l.from 64 p ts w)) ∙ e))

-- ---- lists

take_before : (before r : List Token) → take (length before) (before ++ r) ≡ before
take_before [] r = refl
take_before (b ∷ before) r = ap (λ z. b ∷ z) (take_before before r)

take_more : (before r : List Token) (t : Token) → take (suc (length before)) (before ++ t ∷ r) ≡ before ++ t ∷ []
take_more [] r t = refl
take_more (b ∷ before) r t = ap (λ z. b ∷ z) (take_more before r t)

length_before : (before r ts : List Token) → before ++ r ≡ ts → length ts - length r ≡ length before
length_before before r ts e = omega (arith, length-append before r, ap length e)

front : (before r ts : List Token) → before ++ r ≡ ts → take (length ts - length r) ts ≡ before
front before r ts e = ap (λ n. take n ts) (length_before before r ts e) ∙ (ap (λ z. take (length before) z) (sym e) ∙ take_before before r)

one_more : (before r ts : List Token) (t : Token) → before ++ t ∷ r ≡ ts → take (suc (length ts - length (t ∷ r))) ts ≡ before ++ t ∷ []
one_more before r ts t e = ap (λ n. take (suc n) ts) (length_before before (t ∷ r) ts e) ∙ (ap (λ z. take (suc (length before)) z) (sym e) ∙ take_more before r t)

less : (before r ts : List Token) (t : Token) → before ++ t ∷ r ≡ ts → length ts - length (t ∷ r) < length ts
less before r ts t e = omega (arith, length-append before (t ∷ r), ap length e)

and_left : (a b : Bool) → a && b ≡ true → a ≡ true
and_left true b e = refl
and_left false b e = e

and_right : (a b : Bool) → a && b ≡ true → b ≡ true
and_right true b e = e
and_right false b e = absurd (differ (sym e))

and_both : (a b : Bool) → a ≡ true → b ≡ true → a && b ≡ true
and_both true b e h = h
and_both false b e h = e

abbrev legal : Token → Bool
legal t = is_lexeme t.kind t.text

lexemes_front : (u v : List Token) → Lexemes (u ++ v) → Lexemes u
lexemes_front [] v h = refl
lexemes_front (t ∷ u) v h = and_both (legal t) (list_all legal u) (and_left (legal t) (list_all legal (u ++ v)) h) (lexemes_front u v (and_right (legal t) (list_all legal (u ++ v)) h))

-- a longer front of the tokens is the shorter one, the refused token and more
take_long : (before r : List Token) (t : Token) (n : ℕ) → length before < n → take n (before ++ t ∷ r) ≡ before ++ t ∷ take (n - suc (length before)) r
take_long [] r t zero h = absurd (omega (arith, h))
take_long [] r t (suc n) h = ap (λ m. t ∷ take m r) (omega arith)
take_long (b ∷ before) r t zero h = absurd (omega (arith, h))
take_long (b ∷ before) r t (suc n) h = ap (λ z. b ∷ z) (take_long before r t n (omega (arith, h)) ∙ ap (λ m. before ++ t ∷ take m r) (omega arith))

-- ---- refused

begun : Linked → (d : ℕ) (before r ts : List Token) → before ++ r ≡ ts → Lexemes ts → Begun (ProgramWord d) before → Begins (IsProgram d) before
begun l d before r ts e h b = record {
  item = b.item;
  more = b.more;
  holds = l.to d b.item (before ++ b.more) (lexemes_append before b.more (lexemes_front before r (subst (λ z. Lexemes z) (sym e) h)) b.legal) b.holds;
}

-- what begins a program doesn't go on with the refused token
not_on : Linked → (d : ℕ) (before r rest : List Token) (t : Token) → Dead (ProgramWord d) going_on before (next (t ∷ r)) → Begins (IsProgram d) (before ++ t ∷ rest) → ⊥
not_on l d before r rest t dead b =
    dead b.item ((before ++ t ∷ rest) ++ b.more) [] (t ∷ (rest ++ b.more)) (l.from d b.item ((before ++ t ∷ rest) ++ b.more) b.holds) refl
    (append-nil ((before ++ t ∷ rest) ++ b.more) ∙ append_assoc before (t ∷ rest) b.more) refl

long_or : (n m : ℕ) → (n ≤ m) ⊎ (m < n)
long_or zero m = inl (omega arith)
long_or (suc n) zero = inr (omega arith)
long_or (suc n) (suc m) = elim (long_or n m) [ inl h ↦ inl (omega (arith, h)) | inr h ↦ inr (omega (arith, h)) ]

greatest_at : Linked → (ts r : List Token) → (h : Refused (ProgramWord 64) going_on ts r) → (n : ℕ) → n ≤ length ts → Begins (IsProgram 64) (take n ts) → n ≤ length ts - length r
greatest_at l ts [] h n le b = omega (arith, le)
greatest_at l ts (t ∷ r) h n le b = elim (long_or n (length h.before)) [
  | inl small ↦ let e = length_before h.before (t ∷ r) ts h.rest in omega (arith, small, e)
  | inr long ↦ absurd (not_on l 64 h.before r (take (n - suc (length h.before)) r) t h.dead
      (subst (λ z. Begins (IsProgram 64) z) (ap (take n) (sym h.rest) ∙ take_long h.before r t n long) b))
]

wider_program : (d n : ℕ) (p : Program) (u : List Token) → n ≤ d → IsProgram n p u → IsProgram d p u
wider_program d n p u le w = record { lexemes = w.lexemes; regular = w.regular; fits = (let f = w.fits in omega (arith, f, le)); spells = w.spells }

wider_begins : (d n : ℕ) (u : List Token) → n ≤ d → Begins (IsProgram n) u → Begins (IsProgram d) u
wider_begins d n u le b = record { item = b.item; more = b.more; holds = wider_program d n b.item (u ++ b.more) le b.holds }

form_rule : Linked → (ts r : List Token) → top 64 ts ≡ Err (Form, r) → Refused (ProgramWord 64) going_on ts r → IsRule (rule_of Form r) ts (length ts - length r)
form_rule l ts [] e h = omega arith
form_rule l ts (t ∷ r) e h = (
  less h.before r ts t h.rest,
  λ most b.
      let d = deeper most 64 in
      let j = refused d Form ts (t ∷ r) (form_stays most 64 ts (t ∷ r) e) in
      not_on l d j.before r [] t j.dead
      (subst (λ z. Begins (IsProgram d) z) (one_more j.before r ts t j.rest) (wider_begins d most (take (suc (length ts - length (t ∷ r))) ts) (deeper_most most 64) b)),
)

shorter_begins : (d n : ℕ) (u : List Token) → Begins (IsProgram d) u → n ≤ length u → Begins (IsProgram d) (take n u)
shorter_begins d n u b h = record {
  item = b.item;
  more = drop n u ++ b.more;
  holds = subst (λ z. IsProgram d b.item z) (ap (λ z. z ++ b.more) (sym (take-append-drop n u)) ∙ append_assoc (take n u) (drop n u) b.more) b.holds;
}

take_of : (n : ℕ) (u v : List Token) → n ≤ length u → take n (u ++ v) ≡ take n u
take_of n u v h = rw take-append-le

depth_rule : Linked → (ts r : List Token) → Lexemes ts → GoesOn 66 ts r → Refused (ProgramWord 64) going_on ts r → IsRule P3 ts (length ts - length r)
depth_rule l ts [] lx g h = absurd (let f = g.longer in omega (arith, f))
depth_rule l ts (t ∷ r) lx g h =
    let n = suc (length ts - length (t ∷ r)) in
    let le : n ≤ length g.before = (let f = g.longer in omega (arith, f, length-append g.before g.more, ap length g.joined, length-append h.before (t ∷ r), ap length h.rest)) in (
      less h.before r ts t h.rest,
      (
        66,
        subst (λ z. Begins (IsProgram 66) z) (sym (take_of n g.before g.more le) ∙ ap (take n) g.joined)
            (shorter_begins 66 n g.before (begun l 66 g.before g.more ts g.joined lx g.begins) le),
      ),
    )

rule_at : Linked → (why : Reason) (ts r : List Token) → Lexemes ts → top 64 ts ≡ Err (why, r) → Refused (ProgramWord 64) going_on ts r → IsRule (rule_of why r) ts (length ts - length r)
rule_at l Form ts r lx e h = form_rule l ts r e h
rule_at l Depth ts r lx e h = depth_rule l ts r lx (depth_goes_on 64 ts r e) h

pub refuses : Linked → (why : Reason) (ts r : List Token) → Lexemes ts → top 64 ts ≡ Err (why, r) → Refuses ts (rule_of why r) (length ts - length r)
refuses l why ts r lx e =
    let h = refused 64 why ts r e in
    record {
      none = λ p w. never l p why ts r w e;
      inside = omega arith;
      begins = subst (λ z. Begins (IsProgram 64) z) (sym (front h.before r ts h.rest)) (begun l 64 h.before r ts h.rest lx h.begins);
      greatest = greatest_at l ts r h;
      reason = rule_at l why ts r lx e h;
    }
