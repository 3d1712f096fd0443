-- Lines, cut from the front: a line that is read is one that is printed.
use Rattle.std.proofs.Common.{◌≡◌, ℕ, suc, ◌+◌, Bool, true, false, cond, not, Option, Some, None, List, [], ◌∷◌, ◌++◌, length, Ok, Err, refl, sym, ap, subst, ◌∙◌, append_assoc, arith}
use Rattle.std.specs.Prelude.{if◌then◌else◌, nat_lt}
use Rattle.std.specs.List.{position, position_or_len}
use Rattle.std.specs.Option.{option_map}
use Rattle.std.proofs.lemmas.Bool.Decides.{nat_tests}
use Rattle.sal_value.specs.Names.{NonePass}
use Rattle.sal_schedule.specs.Lines.{before_first, words_of}
use Rattle.sal_document.specs.Documents.{Words, line_text}
use Rattle.sal_document.specs.Refusals.{lines_of}
use Rattle.sal_document.specs.code.Reading.{Place, OfLines, ◌>>>◌, is_line_feed, line_end, next_line, or_refuse, line_at}
use Rattle.sal_document.proofs.OneWord.{spaced, line_is, words_joined, words_cut, spaced_none}
use Rattle.sal_document.proofs.Sentences.{AreLine, IsLine}

-- ---- cutting at the first line feed

abbrev cut_more : ℕ → Option (List ℕ × List ℕ) → Option (List ℕ × List ℕ)
cut_more b None = None
cut_more b (Some (body, rest)) = Some (b ∷ body, rest)

-- the bytes before the first line feed and those after it
abbrev pub cut : List ℕ → Option (List ℕ × List ℕ)
cut [] = None
cut (b ∷ bytes) = if is_line_feed b then Some ([], bytes) else cut_more b (cut bytes)

abbrev pub of_cut : ℕ → Option (List ℕ × List ℕ) → OfLines (List ℕ)
of_cut n None = Err n
of_cut n (Some (body, rest)) = Ok (body, (n + 1, rest))

test_same : (m n : ℕ) → nat_lt (1 + m) (suc n) ≡ nat_lt m n
test_same m n = grind (arith, nat_tests)

test_zero : (n : ℕ) → nat_lt 0 (suc n) ≡ true
test_zero n = grind (arith, nat_tests)

one_more : (t : Bool) (m : ℕ) → cond t (Some (1 + m)) None ≡ option_map suc (cond t (Some m) None)
one_more true m = ap Some (omega arith)
one_more false m = refl

position_plain : (b : ℕ) (bytes : List ℕ) → is_line_feed b ≡ false → position is_line_feed (b ∷ bytes) ≡ option_map suc (position is_line_feed bytes)
position_plain b bytes e =
    let m : ℕ = position_or_len is_line_feed bytes in
    ap (λ t. let k : ℕ = cond (not t) (1 + m) 0 in cond (nat_lt k (suc (length bytes))) (Some k) None) e
    ∙ ap (λ t. cond t (Some (1 + m)) None) (test_same m (length bytes)) ∙ one_more (nat_lt m (length bytes)) m

position_feed : (b : ℕ) (bytes : List ℕ) → is_line_feed b ≡ true → position is_line_feed (b ∷ bytes) ≡ Some 0
position_feed b bytes e =
    let m : ℕ = position_or_len is_line_feed bytes in
    ap (λ t. let k : ℕ = cond (not t) (1 + m) 0 in cond (nat_lt k (suc (length bytes))) (Some k) None) e
    ∙ ap (λ t. cond t (Some 0) None) (test_zero (length bytes))

-- a byte before the line
abbrev longer : ℕ → OfLines (List ℕ) → OfLines (List ℕ)
longer b r = r >>> λ x. Ok (b ∷ x.0, x.1)

end_longer : (n b : ℕ) (bytes : List ℕ) (o : Option ℕ) → line_end n (b ∷ bytes) (option_map suc o) ≡ longer b (line_end n bytes o)
end_longer n b bytes None = refl
end_longer n b bytes (Some at) = refl

cut_longer : (n b : ℕ) (c : Option (List ℕ × List ℕ)) → of_cut n (cut_more b c) ≡ longer b (of_cut n c)
cut_longer n b None = refl
cut_longer n b (Some (body, rest)) = refl

end_by : (n b : ℕ) (bytes : List ℕ) (t : Bool) → is_line_feed b ≡ t → line_end n bytes (position is_line_feed bytes) ≡ of_cut n (cut bytes)
    → line_end n (b ∷ bytes) (position is_line_feed (b ∷ bytes)) ≡ of_cut n (if t then Some ([], bytes) else cut_more b (cut bytes))
end_by n b bytes true e more = ap (line_end n (b ∷ bytes)) (position_feed b bytes e)
end_by n b bytes false e more =
    ap (line_end n (b ∷ bytes)) (position_plain b bytes e) ∙ end_longer n b bytes (position is_line_feed bytes) ∙ ap (longer b) more ∙ sym (cut_longer n b (cut bytes))

end_is : (n : ℕ) (bytes : List ℕ) → line_end n bytes (position is_line_feed bytes) ≡ of_cut n (cut bytes)
end_is n [] = refl
end_is n (b ∷ bytes) = end_by n b bytes (is_line_feed b) refl (end_is n bytes)

next_is : (place : Place) → next_line place ≡ of_cut place.0 (cut place.1)
unfolding next_line
next_is place = end_is place.0 place.1

-- what the next line gives, by the cut
pub line_by : {A : Type 0} (f : Words → Option A) (place : Place) (c : Option (List ℕ × List ℕ)) → cut place.1 ≡ c
    → line_at f place ≡ (of_cut place.0 c >>> λ line. or_refuse place.0 line.1 (f (words_of line.0)))
unfolding line_at
line_by {A} f place c e = ap (λ (r : OfLines (List ℕ)). r >>> λ line. or_refuse place.0 line.1 (f (words_of line.0))) (next_is place ∙ ap (of_cut place.0) e)

-- ---- what is cut

-- the first line, and the lines after it
pub record IsCut (bytes body rest : List ℕ) : Type 0 where
  pub whole : bytes ≡ body ++ 10 ∷ rest
  pub lines : lines_of bytes ≡ (body ++ 10 ∷ []) ∷ lines_of rest
  pub none : NonePass is_line_feed body

feed_is : (b : ℕ) → is_line_feed b ≡ true → b ≡ 10
feed_is b e = grind (arith, nat_tests)

some_same : {A : Type 0} (x y : A) → Some x ≡ Some y → x ≡ y
some_same x y e = cc

cut_some : (bytes body rest : List ℕ) → cut bytes ≡ Some (body, rest) → IsCut bytes body rest
cut_some [] body rest e = absurd cc
cut_some (b ∷ bytes) body rest e = at (is_line_feed b) (cut bytes) refl (λ body' rest' e'. cut_some bytes body' rest' e') refl e
  where
    at : (t : Bool) (c : Option (List ℕ × List ℕ)) → is_line_feed b ≡ t → ((body' rest' : List ℕ) → cut bytes ≡ Some (body', rest') → IsCut bytes body' rest') → cut bytes ≡ c
        → (if t then Some ([], bytes) else cut_more b c) ≡ Some (body, rest) → IsCut (b ∷ bytes) body rest
    at true c et more ec e =
        let same : ([], bytes) ≡ (body, rest) = some_same ([], bytes) (body, rest) e in
        subst (λ (x : List ℕ × List ℕ). IsCut (b ∷ bytes) x.0 x.1) same (record {
          whole = ap (λ z. z ∷ bytes) (feed_is b et);
          lines = ap (λ t. if t then (10 ∷ []) ∷ lines_of bytes else before_first b (lines_of bytes)) et;
          none = tt;
        })
    at false None et more ec e = absurd cc
    at false (Some (body', rest')) et more ec e =
        let same : (b ∷ body', rest') ≡ (body, rest) = some_same (b ∷ body', rest') (body, rest) e in
        let is = more body' rest' ec in
        subst (λ (x : List ℕ × List ℕ). IsCut (b ∷ bytes) x.0 x.1) same (record {
          whole = ap (λ (z : List ℕ). b ∷ z) is.whole;
          lines = ap (λ t. if t then (10 ∷ []) ∷ lines_of bytes else before_first b (lines_of bytes)) et ∙ ap (before_first b) is.lines;
          none = (et, is.none);
        })

pub is_cut : (bytes body rest : List ℕ) → cut bytes ≡ Some (body, rest) → IsCut bytes body rest
is_cut = cut_some

-- the first line, if there is one, has no line feed
abbrev pub NoneEnds : List (List ℕ) → Type 0
NoneEnds [] = Unit {0}
NoneEnds (line ∷ lines) = NonePass is_line_feed line

before_none : (b : ℕ) (lines : List (List ℕ)) → is_line_feed b ≡ false → NoneEnds lines → NoneEnds (before_first b lines)
before_none b [] e h = (e, tt)
before_none b (line ∷ lines) e h = (e, h)

pub cut_none : (bytes : List ℕ) → cut bytes ≡ None → NoneEnds (lines_of bytes)
cut_none [] e = tt
cut_none (b ∷ bytes) e = at (is_line_feed b) (cut bytes) refl (cut_none bytes) refl e
  where
    at : (t : Bool) (c : Option (List ℕ × List ℕ)) → is_line_feed b ≡ t → (cut bytes ≡ None → NoneEnds (lines_of bytes)) → cut bytes ≡ c
        → (if t then Some ([], bytes) else cut_more b c) ≡ None → NoneEnds (if t then (10 ∷ []) ∷ lines_of bytes else before_first b (lines_of bytes))
    at true c et more ec e = absurd cc
    at false None et more ec e = before_none b (lines_of bytes) et (more ec)
    at false (Some x) et more ec e = absurd cc

pub cut_again : (body rest : List ℕ) → NonePass is_line_feed body → cut (body ++ 10 ∷ rest) ≡ Some (body, rest)
cut_again [] rest h = refl
cut_again (b ∷ body) rest h =
    ap (λ t. if t then Some ([], body ++ 10 ∷ rest) else cut_more b (cut (body ++ 10 ∷ rest))) h.0 ∙ ap (cut_more b) (cut_again body rest h.1)

-- a text that isn't empty has a line
pub record HasLine (lines : List (List ℕ)) : Type 0 where
  pub first : List ℕ
  pub others : List (List ℕ)
  pub is : lines ≡ first ∷ others

before_line : (b : ℕ) (lines : List (List ℕ)) → HasLine (before_first b lines)
before_line b [] = record { first = b ∷ []; others = []; is = refl }
before_line b (line ∷ lines) = record { first = b ∷ line; others = lines; is = refl }

line_where : (t : Bool) (b : ℕ) (lines : List (List ℕ)) → HasLine (if t then (10 ∷ []) ∷ lines else before_first b lines)
line_where true b lines = record { first = 10 ∷ []; others = lines; is = refl }
line_where false b lines = before_line b lines

pub has_line : (b : ℕ) (bytes : List ℕ) → HasLine (lines_of (b ∷ bytes))
has_line b bytes = line_where (is_line_feed b) b (lines_of bytes)

-- ---- printed lines

cut_words : (words : Words) → AreLine words → words_of (spaced words) ≡ words
cut_words [] h = absurd h
cut_words (w ∷ ws) h = words_cut w ws h

words_none : (words : Words) → AreLine words → NonePass is_line_feed (spaced words)
words_none [] h = absurd h
words_none (w ∷ ws) h = spaced_none (w ∷ ws) h

-- a line is printed
pub record Shows {A : Type 0} (Is : A → Type 0) (words : A → Words) (line : List ℕ) (x : A) : Type 0 where
  pub good : Is x
  pub is : line ≡ line_text (words x)

-- what is read of a line is what was printed
pub line_found : {A B : Type 0} {Is : A → Type 0} {words : A → Words} {kept : A → B} {f : Words → Option B} → IsLine Is words kept f → (body : List ℕ) (y : B) → f (words_of body) ≡ Some y
    → (x : A) × Shows Is words (body ++ 10 ∷ []) x × (kept x ≡ y)
line_found {words = words} law body y e =
    let is = law.found (words_of body) y e in (
      is.item,
      record { good = is.good; is = ap (λ (z : List ℕ). z ++ 10 ∷ []) (sym (words_joined body) ∙ ap spaced is.is) ∙ sym (line_is (words is.item)) },
      is.same,
    )

body_is : (body : List ℕ) (words : Words) → NonePass is_line_feed body → AreLine words → body ++ 10 ∷ [] ≡ line_text words → body ≡ spaced words
body_is body words none one e =
    let same : cut (body ++ 10 ∷ []) ≡ cut (spaced words ++ 10 ∷ []) = ap cut (e ∙ line_is words) in
    ap (λ (x : List ℕ × List ℕ). x.0) (some_same (body, []) (spaced words, []) (sym (cut_again body [] none) ∙ same ∙ cut_again (spaced words) [] (words_none words one)))

-- a line that is printed is read
pub line_told : {A B : Type 0} {Is : A → Type 0} {words : A → Words} {kept : A → B} {f : Words → Option B} → IsLine Is words kept f → (body : List ℕ) (x : A) → NonePass is_line_feed body
    → Shows Is words (body ++ 10 ∷ []) x → f (words_of body) ≡ Some (kept x)
line_told {words = words} {f = f} law body x none h =
    let one = law.one x h.good in
    ap (λ (z : List ℕ). f (words_of z)) (body_is body (words x) none one h.is) ∙ ap f (cut_words (words x) one) ∙ law.again x h.good

feed_last : (body : List ℕ) → NonePass is_line_feed (body ++ 10 ∷ []) → ⊥
feed_last [] h = let e : true ≡ false = h.0 in absurd cc
feed_last (b ∷ body) h = feed_last body h.1

-- a line without a line feed isn't printed
pub line_ends : {A : Type 0} {Is : A → Type 0} {words : A → Words} (line : List ℕ) (x : A) → NonePass is_line_feed line → Shows Is words line x → ⊥
line_ends {words = words} line x none h = feed_last (spaced (words x)) (subst (NonePass is_line_feed) (h.is ∙ line_is (words x)) none)

pub line_again : {A B : Type 0} {Is : A → Type 0} {words : A → Words} {kept : A → B} {f : Words → Option B} → IsLine Is words kept f → (x : A) (n : ℕ) (rest : List ℕ) → Is x
    → line_at f (n, line_text (words x) ++ rest) ≡ Ok (kept x, (n + 1, rest))
line_again {words = words} {kept = kept} {f = f} law x n rest h =
    let body : List ℕ = spaced (words x) in
    let one = law.one x h in
    let whole : line_text (words x) ++ rest ≡ body ++ 10 ∷ rest = ap (λ (z : List ℕ). z ++ rest) (line_is (words x)) ∙ append_assoc body (10 ∷ []) rest in
    let read : f (words_of body) ≡ Some (kept x) = ap f (cut_words (words x) one) ∙ law.again x h in
    line_by f (n, line_text (words x) ++ rest) (Some (body, rest)) (ap cut whole ∙ cut_again body rest (words_none (words x) one)) ∙ ap (or_refuse n (n + 1, rest)) read
