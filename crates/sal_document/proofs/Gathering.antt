-- Reading line by line, beside the text that is printed: what is read was printed, and what is printed is read.
use Rattle.std.proofs.Common.{◌≡◌, ℕ, zero, suc, ◌+◌, Option, Some, None, List, [], ◌∷◌, ◌++◌, length, map, Result, Ok, refl, sym, ap, subst, ◌∙◌, append_assoc}
use Rattle.std.specs.List.{AllByRecursion, flat_map}
use Rattle.sal_literals.specs.Reading.{number_of}
use Rattle.sal_schedule.specs.Lines.{words_of}
use Rattle.sal_document.specs.Documents.{Words, line_text, count_words, section_text}
use Rattle.sal_document.specs.Parts.{IsNumber, AreParts}
use Rattle.sal_document.specs.code.Reading.{Place, OfLines, ◌>>>◌, or_refuse, line_at, cons_ok, many_at, field_of, section_at, end_at}
use Rattle.sal_document.proofs.OneWord.{IsOne}
use Rattle.sal_document.proofs.Sentences.{IsLine, count_line}
use Rattle.sal_document.proofs.CutLines.{cut, line_by, is_cut, line_found, line_again}
use Rattle.sal_document.proofs.Following.{assoc}

-- ---- what is read was printed

-- what holds of the text where this is read of it
pub record Reads {X : Type 0} (bytes : List ℕ) (r : Result X ℕ) (P : List ℕ → X → Type 0) : Type 0 where
  pub fact : (y : X) → r ≡ Ok y → P bytes y

pub line_reads : {A B X : Type 0} {Is : A → Type 0} {words : A → Words} {kept : A → B} {f : Words → Option B} → IsLine Is words kept f → (place : Place) (k : B × Place → Result X ℕ) (P : List ℕ → X → Type 0)
    → ((x : A) (after : Place) → Is x → Reads after.1 (k (kept x, after)) (λ bytes y. P (line_text (words x) ++ bytes) y)) → Reads place.1 (line_at f place >>> k) P
line_reads {A} {B} {X} {Is} {words} {kept} {f} law place k P more = at (cut place.1) refl
  where
    read : (body rest : List ℕ) (o : Option B) → cut place.1 ≡ Some (body, rest) → f (words_of body) ≡ o → Reads {X = X} place.1 (or_refuse place.0 (place.0 + 1, rest) o >>> k) P
    read body rest None e eo = record { fact = λ y h. absurd cc }
    read body rest (Some z) e eo =
        let is = is_cut place.1 body rest e in
        let shown = line_found law body z eo in
        let whole : place.1 ≡ line_text (words shown.0) ++ rest =
        is.whole ∙ sym (append_assoc body (10 ∷ []) rest) ∙ ap (λ (t : List ℕ). t ++ rest) shown.1.is in
        record {
          fact = λ y h.
              let after : Place = (place.0 + 1, rest) in
              subst (λ (t : List ℕ). P t y) (sym whole) ((more shown.0 after shown.1.good).fact y (ap (λ w. k (w, after)) shown.2 ∙ h));
        }

    at : (c : Option (List ℕ × List ℕ)) → cut place.1 ≡ c → Reads {X = X} place.1 (line_at f place >>> k) P
    at None e = subst (λ r. Reads {X = X} place.1 (r >>> k) P) (sym (line_by f place None e)) (record { fact = λ y h. absurd cc })
    at (Some (body, rest)) e = subst (λ r. Reads {X = X} place.1 (r >>> k) P) (sym (line_by f place (Some (body, rest)) e)) (read body rest (f (words_of body)) e refl)

-- the lines of some items
abbrev pub lines_text : {A : Type 0} → (A → Words) → List A → List ℕ
lines_text words items = flat_map (λ x. line_text (words x)) items

pub many_reads : {A B X : Type 0} {Is : A → Type 0} {words : A → Words} {kept : A → B} {f : Words → Option B} → IsLine Is words kept f
    → (count : ℕ) (place : Place) (k : List B × Place → Result X ℕ) (P : List ℕ → X → Type 0)
    → ((items : List A) (after : Place) → length items ≡ count → AllByRecursion Is items → Reads after.1 (k (map kept items, after)) (λ bytes y. P (lines_text words items ++ bytes) y))
    → Reads place.1 (many_at f count place >>> k) P
many_reads law zero place k P more = more [] place refl tt
many_reads {A} {B} {X} {words = words} {kept = kept} {f = f} law (suc count) place k P more =
    subst (λ r. Reads {X = X} place.1 r P) (sym (assoc (line_at f place) (λ first. many_at f count first.1 >>> cons_ok first.0) k))
    (line_reads law place (λ first. (many_at f count first.1 >>> cons_ok first.0) >>> k) P (λ x after good.
    subst (λ r. Reads {X = X} after.1 r (λ bytes y. P (line_text (words x) ++ bytes) y)) (sym (assoc (many_at f count after) (cons_ok (kept x)) k))
    (many_reads law count after (λ (others : List B × Place). k (kept x ∷ others.0, others.1)) (λ bytes y. P (line_text (words x) ++ bytes) y) (λ items last size all. record {
      fact = λ y h.
          let whole : line_text (words x) ++ lines_text words items ≡ lines_text words (x ∷ items) = refl in
          subst (λ (t : List ℕ). P t y) (append_assoc (line_text (words x)) (lines_text words items) last.1) ((more (x ∷ items) last (ap suc size) (good, all)).fact y h);
    }))))

pub section_reads : {A B X : Type 0} {Is : A → Type 0} {words : A → Words} {kept : A → B} {f : Words → Option B} (name : List ℕ) → IsOne name → IsLine Is words kept f
    → (place : Place) (k : List B × Place → Result X ℕ) (P : List ℕ → X → Type 0)
    → ((items : List A) (after : Place) → AreParts Is items → Reads after.1 (k (map kept items, after)) (λ bytes y. P (section_text name words items ++ bytes) y))
    → Reads place.1 (section_at name f place >>> k) P
unfolding section_at section_text
section_reads {A} {B} {X} {words = words} {f = f} name alone law place k P more =
    subst (λ r. Reads {X = X} place.1 r P) (sym (assoc (line_at (field_of name number_of) place) (λ count. many_at f count.0 count.1) k))
    (line_reads (count_line name alone) place (λ count. many_at f count.0 count.1 >>> k) P (λ count after good.
    many_reads law count after k (λ bytes y. P (line_text (count_words name count) ++ bytes) y) (λ items last size all. record {
      fact = λ y h.
          let number : IsNumber (length items) = subst IsNumber (sym size) good in
          let front : List ℕ = line_text (count_words name (length items)) in
          subst (λ n. P (line_text (count_words name n) ++ (lines_text words items ++ last.1)) y) size
          (subst (λ (t : List ℕ). P t y) (append_assoc front (lines_text words items) last.1) ((more items last (number, all)).fact y h));
    })))

pub end_reads : {X : Type 0} (place : Place) (x : X) (P : List ℕ → X → Type 0) → P [] x → Reads place.1 (end_at place >>> λ over. Ok x) P
end_reads {X} (n, []) x P h = record { fact = λ y e. let same = ok_same (Ok x) x y refl e in subst (P []) same h }
  where
    ok_same : (r : Result X ℕ) (x y : X) → r ≡ Ok x → r ≡ Ok y → x ≡ y
    ok_same r x y e f = cc
end_reads (n, b ∷ bytes) x P h = record { fact = λ y e. absurd cc }

-- ---- what is printed is read

-- it is read, and this is left
pub record IsRead {A : Type 0} (r : OfLines A) (x : A) (rest : List ℕ) : Type 0 where
  pub line : ℕ
  pub is : r ≡ Ok (x, (line, rest))

pub many_again : {A B : Type 0} {Is : A → Type 0} {words : A → Words} {kept : A → B} {f : Words → Option B} → IsLine Is words kept f → (items : List A) (n : ℕ) (rest : List ℕ) → AllByRecursion Is items
    → IsRead (many_at f (length items) (n, lines_text words items ++ rest)) (map kept items) rest
many_again law [] n rest h = record { line = n; is = refl }
many_again {B = B} {words = words} {kept = kept} {f = f} law (x ∷ items) n rest h =
    let more = many_again law items (n + 1) rest h.1 in
    record {
      line = more.line;
      is = ap (λ (t : List ℕ). many_at f (suc (length items)) (n, t)) (append_assoc (line_text (words x)) (lines_text words items) rest)
          ∙ ap (λ r. r >>> λ first. many_at f (length items) first.1 >>> cons_ok first.0) (line_again law x n (lines_text words items ++ rest) h.0)
          ∙ ap (λ r. r >>> cons_ok (kept x)) more.is;
    }

pub section_again : {A B : Type 0} {Is : A → Type 0} {words : A → Words} {kept : A → B} {f : Words → Option B} (name : List ℕ) → IsOne name → IsLine Is words kept f → (items : List A) (n : ℕ) (rest : List ℕ) → AreParts Is items
    → IsRead (section_at name f (n, section_text name words items ++ rest)) (map kept items) rest
unfolding section_at section_text
section_again {words = words} {f = f} name alone law items n rest h =
    let count : List ℕ = line_text (count_words name (length items)) in
    let more = many_again law items (n + 1) rest h.1 in
    record {
      line = more.line;
      is = ap (λ (t : List ℕ). line_at (field_of name number_of) (n, t) >>> λ count. many_at f count.0 count.1) (append_assoc count (lines_text words items) rest)
          ∙ ap (λ r. r >>> λ count. many_at f count.0 count.1) (line_again (count_line name alone) (length items) n (lines_text words items ++ rest) h.0)
          ∙ more.is;
    }
