-- The whole parser reads programs exactly.
use Rattle.std.proofs.Common.{◌≡◌, ℕ, zero, suc, ◌≤◌, ◌<◌, Bool, true, false, ◌&&◌, not, cond, if◌then◌else◌, List, [], ◌∷◌, ◌++◌, length, refl, sym, ◌∙◌, ap, subst, append-nil, arith}
use Rattle.std.specs.Prelude.{Ok, Err}
use Rattle.std.specs.List.{list_all}
use Rattle.std.specs.Str.{bytes_eq}
use Rattle.sal_ast.specs.declared.lexeme.Kind.{Kind}
use Rattle.sal_ast.specs.declared.lexeme.Kind.TheVariants as kind
use Rattle.sal_ast.specs.declared.program.Program.{Program}
use Rattle.sal_grammar.specs.declared.class.Class.{Class}
use Rattle.sal_grammar.specs.declared.class.Class.TheVariants as k
use Rattle.sal_grammar.specs.declared.reason.Reason.{Reason}
use Rattle.sal_grammar.specs.declared.reason.Reason.TheVariants.{Form, Depth}
use Rattle.sal_grammar.specs.Tokens.{Token, Set, Entry, class_of, class_in, class_by, word_class, sign_class, identifier_class, words, signs, identifiers, next, none, outside}
use Rattle.sal_grammar.specs.Sets as is
use Rattle.sal_grammar.specs.Parsers.{Outcome, pure, refuse, where_sees, rest_of}
use Rattle.sal_grammar.specs.Programs.{top}
use Rattle.sal_grammar.proofs.Languages.{Seq, Just}
use Rattle.sal_grammar.proofs.Exactness.{differ, Begun, Starts, Took, Refused, Judged, Same, Clear, Good, seq_good}
use Rattle.sal_grammar.proofs.Classes.{sub}
use Rattle.sal_grammar.proofs.Choices.{lang_judged}
use Rattle.sal_grammar.proofs.Steps.{no}
use Rattle.sal_grammar.proofs.GoodPrograms.{program_good}
use Rattle.sal_grammar.proofs.Wider.{WiderOut}
use Rattle.sal_grammar.proofs.WiderPrograms.{wider_top}
use Rattle.sal_grammar.proofs.ProgramWords.{ProgramWord}

-- ---- the end of the tokens

and_left : (a b : Bool) → a && b ≡ true → a ≡ true
and_left true b e = refl
and_left false b e = e

and_right : (a b : Bool) → a && b ≡ true → b ≡ true
and_right true b e = e
and_right false b e = absurd (differ (sym e))

not_true : (b : Bool) → not b ≡ true → b ≡ false
not_true false e = refl
not_true true e = absurd (differ (sym e))

in_entry : (f : Set) (c last : Class) (b : Bool) → f c ≡ false → f last ≡ false → f (cond b c last) ≡ false
in_entry f c last true h g = h
in_entry f c last false h g = g

in_table : (f : Set) (es : List Entry) (last : Class) (text : List ℕ) → list_all (λ (e : Entry). not (f e.class)) es ≡ true → f last ≡ false → f (class_in es last text) ≡ false
in_table f [] last text h g = g
in_table f (e ∷ es) last text h g =
    in_entry f e.class (class_in es last text) (bytes_eq text e.text) (not_true (f e.class) (and_left (not (f e.class)) (list_all (λ (e : Entry). not (f e.class)) es) h))
    (in_table f es last text (and_right (not (f e.class)) (list_all (λ (e : Entry). not (f e.class)) es) h) g)

never_end : (kind : Kind) (text : List ℕ) → is.end (class_by kind text) ≡ false
unfolding word_class sign_class identifier_class
never_end kind.Word text = in_table is.end words k.Unused text refl refl
never_end kind.Id text = in_table is.end identifiers k.Id text refl refl
never_end kind.Number text = refl
never_end kind.Str text = refl
never_end kind.Sign text = in_table is.end signs k.Unused text refl refl

no_end : (t : Token) → is.end (class_of t) ≡ false
unfolding class_of
no_end t = never_end t.kind t.text

-- anything but the end goes on
abbrev pub going_on : Program → Set
going_on _ = outside is.end

not_false : (b : Bool) → not b ≡ false → b ≡ true
not_false true e = refl
not_false false e = absurd (differ e)

pub ended : (r : List Token) → outside is.end (next r) ≡ false → r ≡ []
ended [] h = refl
ended (t ∷ r) h = absurd (differ (sym (not_false (is.end (class_of t)) h) ∙ no_end t))

-- ---- the whole parser

end_judged : (p : Program) (i : List Token) (b : Bool) → is.end (next i) ≡ b → Judged (Just p) going_on i (if b then Ok (p, i) else Err (Form, i))
end_judged p i true e = record { word = []; holds = record { same = refl; empty = refl }; rest = refl; stops = ap not e }
end_judged p i false e = record {
  before = [];
  rest = refl;
  begins = record { item = p; more = []; legal = refl; holds = record { same = refl; empty = refl } };
  dead = λ a u c d w hc h hk.
      let f : c ≡ d = ap (λ z. z ++ c) w.empty ∙ h in
      differ (sym (not_false (is.end (next c)) hc) ∙ (ap (λ z. is.end (next z)) f ∙ (ap is.end hk ∙ e)));
}

just_clear : (p : Program) → Clear (Just p) going_on
just_clear p b c u v r s x y hr hs e = record {
  item = sym x.same ∙ y.same;
  word = sym x.empty ∙ y.empty;
  rest = ap (λ z. z ++ r) x.empty ∙ (e ∙ ap (λ z. z ++ s) (sym y.empty));
}

end_good : {pre : Set} (p : Program) → Good pre none true (Just p) going_on (where_sees is.end (pure p) refuse)
end_good p = record {
  judged = λ i hp. end_judged p i (is.end (next i)) refl;
  clear = just_clear p;
  some = record { item = p; more = []; legal = refl; holds = record { same = refl; empty = refl } };
  starts = λ a u h. subst (λ z. Starts none true z) h.empty refl;
}

abbrev Whole : ℕ → Program → List Token → Type 0
Whole d = Seq (ProgramWord d) (λ p. Just p)

to_whole : (d : ℕ) (p : Program) (u : List Token) → ProgramWord d p u → Whole d p u
to_whole d p u w = record { item = p; left = u; right = []; first = w; second = record { same = refl; empty = refl }; joined = append-nil u }

from_whole : (d : ℕ) (p : Program) (u : List Token) → Whole d p u → ProgramWord d p u
from_whole d p u w =
    let e : w.left ≡ u = sym (append-nil w.left) ∙ (ap (λ z. w.left ++ z) w.second.empty ∙ w.joined) in
    subst (λ z. ProgramWord d z u) w.second.same (subst (λ z. ProgramWord d w.item z) e w.first)

whole_good : (d : ℕ) → Good none is.behavior false (Whole d) going_on (top d)
unfolding top
whole_good d = seq_good (program_good d) (λ p. end_good p) (λ p. no) (λ p q v. sub refl)

pub top_judged : (d : ℕ) (i : List Token) → Judged (ProgramWord d) going_on i (top d i)
top_judged d i = lang_judged (Whole d) (ProgramWord d) going_on (from_whole d) (to_whole d) i (top d i) ((whole_good d).judged i refl)

top_clear : (d : ℕ) → Clear (ProgramWord d) going_on
top_clear d a b u v r s x y = (whole_good d).clear a b u v r s (to_whole d a u x) (to_whole d b v y)

complete_at : (d : ℕ) (a : Program) (u : List Token) → ProgramWord d a u → (o : Outcome Program) → Judged (ProgramWord d) going_on (u ++ []) o → o ≡ Ok (a, [])
complete_at d a u w (Ok p) j =
    let f : Same p.0 a j.word u p.1 [] = top_clear d p.0 a j.word u p.1 [] j.holds w j.stops refl j.rest in
    ap (λ z. Ok (z, p.1)) f.item ∙ ap (λ z. Ok (a, z)) f.rest
complete_at d a u w (Err x) j = absurd (j.dead a u [] x.1 w refl (sym j.rest) refl)

-- each program is the answer
pub every : (d : ℕ) (p : Program) (ts : List Token) → ProgramWord d p ts → top d ts ≡ Ok (p, [])
every d p ts w = ap (top d) (sym (append-nil ts)) ∙ complete_at d p ts w (top d (ts ++ [])) (top_judged d (ts ++ []))

-- the answer is a program
pub accepted : (d : ℕ) (p : Program) (ts r : List Token) → top d ts ≡ Ok (p, r) → ProgramWord d p ts
accepted d p ts r e =
    let t : Took (ProgramWord d) going_on ts p r = subst (λ z. Judged (ProgramWord d) going_on ts z) e (top_judged d ts) in
    let w : t.word ≡ ts = sym (append-nil t.word) ∙ (ap (λ z. t.word ++ z) (sym (ended r t.stops)) ∙ t.rest) in
    subst (λ z. ProgramWord d p z) w t.holds

pub refused : (d : ℕ) (why : Reason) (ts r : List Token) → top d ts ≡ Err (why, r) → Refused (ProgramWord d) going_on ts r
refused d why ts r e = subst (λ z. Judged (ProgramWord d) going_on ts z) e (top_judged d ts)

-- ---- more depth

-- so many times two constructs more
abbrev pub deeper : ℕ → ℕ → ℕ
deeper zero d = d
deeper (suc n) d = suc (suc (deeper n d))

pub deeper_most : (n d : ℕ) → n ≤ deeper n d
deeper_most zero d = omega arith
deeper_most (suc n) d = let h = deeper_most n d in omega (arith, h)

pub form_stays : (n d : ℕ) (ts r : List Token) → top d ts ≡ Err (Form, r) → top (deeper n d) ts ≡ Err (Form, r)
form_stays zero d ts r e = e
form_stays (suc n) d ts r e =
    subst (λ z. WiderOut z (top (deeper (suc n) d) ts)) (form_stays n d ts r e) ((wider_top (deeper n d)).at ts)

-- what is refused for depth is taken by a parser that allows two constructs more, and it reads on
pub record GoesOn (d : ℕ) (ts r : List Token) : Type 0 where
  pub before : List Token
  pub more : List Token
  pub joined : before ++ more ≡ ts
  pub longer : length more < length r
  pub begins : Begun (ProgramWord d) before

goes_on : (d : ℕ) (ts r : List Token) (o : Outcome Program) → Judged (ProgramWord d) going_on ts o → length (rest_of o) < length r → GoesOn d ts r
goes_on d ts r (Ok p) j h = record {
  before = j.word;
  more = p.1;
  joined = j.rest;
  longer = h;
  begins = record { item = p.0; more = []; legal = refl; holds = subst (λ z. ProgramWord d p.0 z) (sym (append-nil j.word)) j.holds };
}
goes_on d ts r (Err x) j h = record { before = j.before; more = x.1; joined = j.rest; longer = h; begins = j.begins }

pub depth_goes_on : (d : ℕ) (ts r : List Token) → top d ts ≡ Err (Depth, r) → GoesOn (suc (suc d)) ts r
depth_goes_on d ts r e =
    goes_on (suc (suc d)) ts r (top (suc (suc d)) ts) (top_judged (suc (suc d)) ts) (subst (λ z. WiderOut z (top (suc (suc d)) ts)) e ((wider_top d).at ts))
