-- Reading line by line, beside the lines that are wanted: the line that is refused is the first that isn't as wanted.
use Rattle.std.proofs.Common.{◌≡◌, ℕ, zero, suc, ◌+◌, Option, Some, None, List, [], ◌∷◌, ◌++◌, Result, Ok, Err, refl, sym, ap, subst, ◌∙◌, arith}
use Rattle.std.specs.Prelude.{replicate}
use Rattle.sal_value.specs.Names.{NonePass}
use Rattle.sal_ast.specs.declared.program.Program.{Program}
use Rattle.sal_literals.specs.Reading.{number_of}
use Rattle.sal_schedule.specs.Lines.{words_of}
use Rattle.sal_document.specs.Documents.{Words, count_words}
use Rattle.sal_document.specs.Parts.{IsNumber}
use Rattle.sal_document.specs.Refusals.{lines_of, Form, IsOf, Wanted, one, counted, Agree}
use Rattle.sal_document.specs.code.Reading.{Place, OfLines, ◌>>>◌, is_line_feed, or_refuse, line_at, cons_ok, many_at, field_of, section_at, end_at}
use Rattle.sal_document.proofs.OneWord.{IsOne}
use Rattle.sal_document.proofs.Sentences.{IsLine, count_line}
use Rattle.sal_document.proofs.CutLines.{cut, line_by, is_cut, NoneEnds, cut_none, HasLine, has_line, Shows, line_found, line_told, line_ends}

-- What is answered where lines from this number on are wanted: what is refused is the first line that isn't as wanted, and
-- nothing is refused where all are.
pub record Follows {X : Type 0} (p : Program) (wanted : List Wanted) (n : ℕ) (lines : List (List ℕ)) (r : Result X ℕ) : Type 0 where
  pub refused : (m : ℕ) → r ≡ Err m → (k : ℕ) × (m ≡ n + k) × Agree p k wanted lines × (Agree p (suc k) wanted lines → ⊥)
  pub agree : (y : X) → r ≡ Ok y → (k : ℕ) → Agree p k wanted lines

-- what the first line that is wanted tells, and what is wanted after it
pub record Leads {A B : Type 0} (p : Program) (Is : A → Type 0) (words : A → Words) (kept : A → B) (first : Wanted) (wanted : List Wanted) (next : A → List Wanted) : Type 0 where
  pub into : (n : ℕ) (line : List ℕ) (lines : List (List ℕ)) (x : A) → Shows Is words line x → Agree p n (next x) lines → Agree p (suc n) (first ∷ wanted) (line ∷ lines)
  pub out : (n : ℕ) (line : List ℕ) (lines : List (List ℕ)) → Agree p (suc n) (first ∷ wanted) (line ∷ lines) → (x : A) × Shows Is words line x × Agree p n (next x) lines
  pub none : (n : ℕ) → Agree p (suc n) (first ∷ wanted) [] → ⊥
  pub same : (x y : A) → kept x ≡ kept y → next x ≡ next y

err_same : {X : Type 0} (r : Result X ℕ) (m n : ℕ) → r ≡ Err m → r ≡ Err n → m ≡ n
err_same r m n e f = cc

some_same : {A : Type 0} (x y : A) → Some x ≡ Some y → x ≡ y
some_same x y e = cc

module _ {A B : Type 0} {p : Program} {Is : A → Type 0} {words : A → Words} {kept : A → B} {f : Words → Option B} {first : Wanted} {wanted : List Wanted} {next : A → List Wanted}
    (law : IsLine Is words kept f) (leads : Leads p Is words kept first wanted next) where
  no_line : (lines : List (List ℕ)) → NoneEnds lines → Agree p 1 (first ∷ wanted) lines → ⊥
  no_line [] ends agree = leads.none 0 agree
  no_line (line ∷ lines) ends agree = let is = leads.out 0 line lines agree in line_ends line is.0 ends is.1

  other_line : (body : List ℕ) (lines : List (List ℕ)) → NonePass is_line_feed body → f (words_of body) ≡ None → Agree p 1 (first ∷ wanted) ((body ++ 10 ∷ []) ∷ lines) → ⊥
  other_line body lines none read agree =
      let is = leads.out 0 (body ++ 10 ∷ []) lines agree in
      let told = line_told law body is.0 none is.1 in
      absurd cc

module _ {A B X : Type 0} {p : Program} {Is : A → Type 0} {words : A → Words} {kept : A → B} {f : Words → Option B} {first : Wanted} {wanted : List Wanted} {next : A → List Wanted}
    (law : IsLine Is words kept f) (leads : Leads p Is words kept first wanted next) where
  -- nothing is as wanted from here on
  stops : (n : ℕ) (lines : List (List ℕ)) → (Agree p 1 (first ∷ wanted) lines → ⊥) → Follows {X = X} p (first ∷ wanted) n lines (Err n)
  stops n lines wrong = record {
    refused = λ m e. let same = err_same {X = X} (Err n) n m refl e in (0, omega arith, tt, wrong);
    agree = λ y e. absurd cc;
  }

  goes_on : (n : ℕ) (body : List ℕ) (lines : List (List ℕ)) (y : B) (r : Result X ℕ) → NonePass is_line_feed body → f (words_of body) ≡ Some y
      → ((x : A) → Is x → kept x ≡ y → Follows p (next x) (n + 1) lines r) → Follows p (first ∷ wanted) n ((body ++ 10 ∷ []) ∷ lines) r
  goes_on n body lines y r none read more =
      let line : List ℕ = body ++ 10 ∷ [] in
      let is = line_found law body y read in
      let after = more is.0 is.1.good is.2 in
      record {
        refused = λ m e.
            let at = after.refused m e in
            let number = at.1 in (
              suc at.0,
              omega arith,
              leads.into at.0 line lines is.0 is.1 at.2,
              λ agree.
                  let other = leads.out (suc at.0) line lines agree in
                  let told = line_told law body other.0 none other.1 in
                  let kept_same : kept other.0 ≡ kept is.0 = some_same (kept other.0) (kept is.0) (sym told ∙ read ∙ ap Some (sym is.2)) in
                  at.3 (subst (λ w. Agree p (suc at.0) w lines) (leads.same other.0 is.0 kept_same) other.2),
            );
        agree = λ z e k. go (λ j. leads.into j line lines is.0 is.1 (after.agree z e j)) k;
      }
    where
      go : ((j : ℕ) → Agree p (suc j) (first ∷ wanted) ((body ++ 10 ∷ []) ∷ lines)) → (k : ℕ) → Agree p k (first ∷ wanted) ((body ++ 10 ∷ []) ∷ lines)
      go h zero = tt
      go h (suc j) = h j

  line_follows : (place : Place) (k : B × Place → Result X ℕ) → ((x : A) (after : Place) → Is x → Follows p (next x) after.0 (lines_of after.1) (k (kept x, after)))
      → Follows p (first ∷ wanted) place.0 (lines_of place.1) (line_at f place >>> k)
  line_follows place k more = at (cut place.1) refl
    where
      read : (body rest : List ℕ) (o : Option B) → cut place.1 ≡ Some (body, rest) → f (words_of body) ≡ o
          → Follows {X = X} p (first ∷ wanted) place.0 (lines_of place.1) (or_refuse place.0 (place.0 + 1, rest) o >>> k)
      read body rest None e eo =
          let is = is_cut place.1 body rest e in
          subst (λ ls. Follows {X = X} p (first ∷ wanted) place.0 ls (Err place.0)) (sym is.lines) (stops place.0 ((body ++ 10 ∷ []) ∷ lines_of rest) (other_line law leads body (lines_of rest) is.none eo))
      read body rest (Some y) e eo =
          let is = is_cut place.1 body rest e in
          let after : Place = (place.0 + 1, rest) in
          subst (λ ls. Follows {X = X} p (first ∷ wanted) place.0 ls (k (y, after))) (sym is.lines)
          (goes_on place.0 body (lines_of rest) y (k (y, after)) is.none eo (λ x good same. subst (λ z. Follows {X = X} p (next x) (place.0 + 1) (lines_of rest) (k (z, after))) same (more x after good)))

      at : (c : Option (List ℕ × List ℕ)) → cut place.1 ≡ c → Follows {X = X} p (first ∷ wanted) place.0 (lines_of place.1) (line_at f place >>> k)
      at None e =
          subst (λ r. Follows {X = X} p (first ∷ wanted) place.0 (lines_of place.1) (r >>> k)) (sym (line_by f place None e)) (stops place.0 (lines_of place.1) (no_line law leads (lines_of place.1) (cut_none place.1 e)))
      at (Some (body, rest)) e =
          subst (λ r. Follows {X = X} p (first ∷ wanted) place.0 (lines_of place.1) (r >>> k)) (sym (line_by f place (Some (body, rest)) e)) (read body rest (f (words_of body)) e refl)

-- ---- lines of one form

-- the lines of a form are those that are printed so
pub record IsFormOf {A : Type 0} (p : Program) (form : Form) (Is : A → Type 0) (words : A → Words) : Type 0 where
  pub into : (line : List ℕ) (x : A) → Shows Is words line x → IsOf p form line
  pub out : (line : List ℕ) → IsOf p form line → (x : A) × Shows Is words line x

pub one_leads : {A B : Type 0} {p : Program} {form : Form} {Is : A → Type 0} {words : A → Words} (kept : A → B) (wanted : List Wanted) → IsFormOf p form Is words → Leads p Is words kept (one form) wanted (λ x. wanted)
one_leads kept wanted forms = record {
  into = λ n line lines x h agree. (forms.into line x h, agree);
  out = λ n line lines agree. let is = forms.out line agree.0 in (is.0, is.1, agree.1);
  none = λ n agree. agree;
  same = λ x y e. refl;
}

pub one_follows : {A B X : Type 0} {p : Program} {form : Form} {Is : A → Type 0} {words : A → Words} {kept : A → B} {f : Words → Option B} (wanted : List Wanted) → IsLine Is words kept f → IsFormOf p form Is words
    → (place : Place) (k : B × Place → Result X ℕ) → ((y : B) (after : Place) → Follows p wanted after.0 (lines_of after.1) (k (y, after)))
    → Follows p (one form ∷ wanted) place.0 (lines_of place.1) (line_at f place >>> k)
one_follows {kept = kept} wanted law forms place k more = line_follows law (one_leads kept wanted forms) place k (λ x after good. more (kept x) after)

pub assoc : {A B C : Type 0} (r : OfLines A) (g : A × Place → OfLines B) (k : B × Place → Result C ℕ) → ((r >>> g) >>> k) ≡ (r >>> λ x. g x >>> k)
assoc (Ok x) g k = refl
assoc (Err n) g k = refl

pub many_follows : {A B X : Type 0} {p : Program} {form : Form} {Is : A → Type 0} {words : A → Words} {kept : A → B} {f : Words → Option B} (wanted : List Wanted) → IsLine Is words kept f → IsFormOf p form Is words
    → (count : ℕ) (place : Place) (k : List B × Place → Result X ℕ) → ((ys : List B) (after : Place) → Follows p wanted after.0 (lines_of after.1) (k (ys, after)))
    → Follows p (replicate count (one form) ++ wanted) place.0 (lines_of place.1) (many_at f count place >>> k)
many_follows wanted law forms zero place k more = more [] place
many_follows {B = B} {p = p} {form = form} {f = f} wanted law forms (suc count) place k more =
    let rest : List Wanted = replicate count (one form) ++ wanted in
    subst (Follows p (one form ∷ rest) place.0 (lines_of place.1)) (sym (assoc (line_at f place) (λ first. many_at f count first.1 >>> cons_ok first.0) k))
    (one_follows rest law forms place (λ first. (many_at f count first.1 >>> cons_ok first.0) >>> k) (λ y after.
    subst (Follows p rest after.0 (lines_of after.1)) (sym (assoc (many_at f count after) (cons_ok y) k))
    (many_follows wanted law forms count after (λ (others : List B × Place). k (y ∷ others.0, others.1)) (λ ys. more (y ∷ ys)))))

-- ---- sections

count_leads : (p : Program) (name : List ℕ) (form : Form) (wanted : List Wanted) → Leads p IsNumber (count_words name) (λ y. y) (counted name form) wanted (λ count. replicate count (one form) ++ wanted)
count_leads p name form wanted = record {
  into = λ n line lines count h agree. (count, h.good, h.is, agree);
  out = λ n line lines agree. (agree.0, record { good = agree.1; is = agree.2 }, agree.3);
  none = λ n agree. agree;
  same = λ x y e. ap (λ count. replicate count (one form) ++ wanted) e;
}

pub section_follows : {A B X : Type 0} {p : Program} {form : Form} {Is : A → Type 0} {words : A → Words} {kept : A → B} {f : Words → Option B} (name : List ℕ) (wanted : List Wanted)
    → IsOne name → IsLine Is words kept f → IsFormOf p form Is words
    → (place : Place) (k : List B × Place → Result X ℕ) → ((ys : List B) (after : Place) → Follows p wanted after.0 (lines_of after.1) (k (ys, after)))
    → Follows p (counted name form ∷ wanted) place.0 (lines_of place.1) (section_at name f place >>> k)
unfolding section_at
section_follows {p = p} {form = form} {f = f} name wanted alone law forms place k more =
    subst (Follows p (counted name form ∷ wanted) place.0 (lines_of place.1)) (sym (assoc (line_at (field_of name number_of) place) (λ count. many_at f count.0 count.1) k))
    (line_follows (count_line name alone) (count_leads p name form wanted) place (λ count. many_at f count.0 count.1 >>> k) (λ count after good.
    many_follows wanted law forms count after k more))

-- ---- the end

pub end_follows : {X : Type 0} (p : Program) (place : Place) (x : X) → Follows p [] place.0 (lines_of place.1) (end_at place >>> λ over. Ok x)
end_follows {X} p (n, []) x = record { refused = λ m e. absurd cc; agree = λ y e k. go k }
  where
    go : (k : ℕ) → Agree p k [] []
    go zero = tt
    go (suc k) = tt
end_follows {X} p (n, b ∷ bytes) x = record {
  refused = λ m e. let same = err_same {X = X} (Err n) n m refl e in (0, omega arith, tt, wrong (lines_of (b ∷ bytes)) (has_line b bytes));
  agree = λ y e. absurd cc;
}
  where
    wrong : (lines : List (List ℕ)) → HasLine lines → Agree p 1 [] lines → ⊥
    wrong lines some agree = subst (λ ls. Agree p 1 [] ls) some.is agree
