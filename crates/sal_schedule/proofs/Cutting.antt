-- Lines and words, cut from the front.
use Rattle.std.proofs.Common.{◌≡◌, ℕ, zero, suc, ◌+◌, ◌-◌, ◌<◌, ◌≤◌, Bool, true, false, Option, Some, None, List, [], ◌∷◌, ◌++◌, length, get_or, take, drop, refl, sym, ap, subst, ◌∙◌, append_assoc, append-nil, length-drop, arith}
use Rattle.std.proofs.lemmas.Bool.Decides.{nat_tests}
use Rattle.std.specs.Prelude.{if◌then◌else◌}
use Rattle.std.proofs.lemmas.List.{drop_more, drop_all, take_more, take-append-drop}
use Rattle.sal_value.specs.Names.{NonePass, FirstPasses}
use Rattle.sal_schedule.specs.declared.words.Mode.{Mode}
use Rattle.sal_schedule.specs.declared.words.Mode.TheVariants.{Plain}
use Rattle.sal_schedule.specs.Lines.{before_first, is_line_feed, lines_of, next_mode, separates, words_from, words_of}
use Rattle.sal_schedule.specs.code.Words.{first_word, after_word, words_left, IsFirstSpace}

-- ---- words

first_or : (t : Bool) (b : ℕ) (bytes word : List ℕ) (rest : Option (List ℕ)) (words : List (List ℕ)) → words ≡ word ∷ words_left rest
    → (if t then [] ∷ words_from Plain bytes else before_first b words) ≡ (if t then [] else b ∷ word) ∷ words_left (if t then Some bytes else rest)
unfolding words_of
first_or true b bytes word rest words e = refl
first_or false b bytes word rest words e = ap (before_first b) e

split : (mode : Mode) (bytes : List ℕ) → words_from mode bytes ≡ first_word mode bytes ∷ words_left (after_word mode bytes)
split mode [] = refl
split mode (b ∷ bytes) =
    first_or (separates mode b) b bytes (first_word (next_mode mode b) bytes) (after_word (next_mode mode b) bytes) (words_from (next_mode mode b) bytes) (split (next_mode mode b) bytes)

pub cut_at : (line : List ℕ) (at : ℕ) → IsFirstSpace line (Some at) → words_of line ≡ take at line ∷ words_left (Some (drop (at + 1) line))
unfolding words_of
cut_at line at h = split Plain line ∙ ap (λ w. w ∷ words_left (after_word Plain line)) h.1 ∙ ap (λ o. take at line ∷ words_left o) h.2

pub one_word : (line : List ℕ) → IsFirstSpace line None → words_of line ≡ line ∷ words_left None
unfolding words_of
one_word line h = split Plain line ∙ ap (λ w. w ∷ words_left (after_word Plain line)) h.0 ∙ ap (λ o. line ∷ words_left o) h.1

-- so far no byte separates, and what follows stands in this mode
pub record IsInside (line : List ℕ) (mode : Mode) (at : ℕ) : Type 0 where
  pub front : first_word Plain line ≡ take at line ++ first_word mode (drop at line)
  pub rest : after_word Plain line ≡ after_word mode (drop at line)

pub begins : (line : List ℕ) → IsInside line Plain 0
begins line = record { front = refl; rest = refl }

first_at : (mode : Mode) (b : ℕ) (bytes : List ℕ) (t : Bool) → separates mode b ≡ t → first_word mode (b ∷ bytes) ≡ (if t then [] else b ∷ first_word (next_mode mode b) bytes)
first_at mode b bytes t e = ap (λ t. if t then [] else b ∷ first_word (next_mode mode b) bytes) e

after_at : (mode : Mode) (b : ℕ) (bytes : List ℕ) (t : Bool) → separates mode b ≡ t → after_word mode (b ∷ bytes) ≡ (if t then Some bytes else after_word (next_mode mode b) bytes)
after_at mode b bytes t e = ap (λ t. if t then Some bytes else after_word (next_mode mode b) bytes) e

pub goes_on : (line : List ℕ) (mode : Mode) (at : ℕ) → at < length line → separates mode (get_or line at 0) ≡ false → IsInside line mode at → IsInside line (next_mode mode (get_or line at 0)) (at + 1)
goes_on line mode at lt e h =
    let b : ℕ = get_or line at 0 in
    let more : List ℕ = drop (at + 1) line in
    record {
      front = h.front ∙ ap (λ (z : List ℕ). take at line ++ first_word mode z) (drop_more line at 0 lt) ∙ ap (λ (z : List ℕ). take at line ++ z) (first_at mode b more false e)
          ∙ sym (append_assoc (take at line) (b ∷ []) (first_word (next_mode mode b) more)) ∙ ap (λ (z : List ℕ). z ++ first_word (next_mode mode b) more) (sym (take_more line at 0 lt));
      rest = h.rest ∙ ap (after_word mode) (drop_more line at 0 lt) ∙ after_at mode b more false e;
    }

pub space_here : (line : List ℕ) (mode : Mode) (at : ℕ) → at < length line → separates mode (get_or line at 0) ≡ true → IsInside line mode at → IsFirstSpace line (Some at)
space_here line mode at lt e h =
    let b : ℕ = get_or line at 0 in
    let more : List ℕ = drop (at + 1) line in (
      lt,
      h.front ∙ ap (λ (z : List ℕ). take at line ++ first_word mode z) (drop_more line at 0 lt) ∙ ap (λ (z : List ℕ). take at line ++ z) (first_at mode b more true e) ∙ append-nil (take at line),
      h.rest ∙ ap (after_word mode) (drop_more line at 0 lt) ∙ after_at mode b more true e,
    )

take_whole : (xs : List ℕ) (n : ℕ) → length xs ≤ n → take n xs ≡ xs
take_whole xs n le = sym (append-nil (take n xs)) ∙ ap (λ (z : List ℕ). take n xs ++ z) (sym (drop_all n xs le)) ∙ take-append-drop n xs

-- what follows, as a slice to the end
pub rest_is : (xs : List ℕ) (n : ℕ) → take (length xs - n) (drop n xs) ≡ drop n xs
rest_is xs n = take_whole (drop n xs) (length xs - n) (omega (arith, length-drop n xs))

pub no_space : (line : List ℕ) (mode : Mode) (at : ℕ) → length line ≤ at → IsInside line mode at → IsFirstSpace line None
no_space line mode at le h = (
  h.front ∙ ap (λ (z : List ℕ). take at line ++ first_word mode z) (drop_all at line le) ∙ append-nil (take at line) ∙ take_whole line at le,
  h.rest ∙ ap (after_word mode) (drop_all at line le),
)

-- ---- lines

line_at : (h t : List ℕ) → NonePass is_line_feed h → lines_of (h ++ 10 ∷ t) ≡ h ∷ lines_of t
line_at [] t none = refl
line_at (b ∷ h) t none =
    ap (λ c. if c then [] ∷ lines_of (h ++ 10 ∷ t) else before_first b (lines_of (h ++ 10 ∷ t))) none.0 ∙ ap (before_first b) (line_at h t none.1)

line_end : (b : ℕ) (h : List ℕ) → NonePass is_line_feed (b ∷ h) → lines_of (b ∷ h) ≡ (b ∷ h) ∷ []
line_end b [] none = ap (λ c. if c then [] ∷ [] else before_first b []) none.0
line_end b (c ∷ h) none =
    ap (λ t. if t then [] ∷ lines_of (c ∷ h) else before_first b (lines_of (c ∷ h))) none.0 ∙ ap (before_first b) (line_end c h none.1)

pub last_line : (text : List ℕ) (at : ℕ) → 0 < length text → at ≡ length text → NonePass is_line_feed (take at text) → lines_of text ≡ text ∷ lines_of []
last_line [] at some e none = absurd (omega arith)
last_line (b ∷ text) at some e none =
    let le : length (b ∷ text) ≤ at = omega arith in
    line_end b text (subst_none (take_whole (b ∷ text) at le) none)
  where
    subst_none : {xs ys : List ℕ} → xs ≡ ys → NonePass is_line_feed xs → NonePass is_line_feed ys
    subst_none e n = subst (NonePass is_line_feed) e n

is_feed : (b : ℕ) → is_line_feed b ≡ true → b ≡ 10
is_feed b e = grind (arith, nat_tests)

first_passes : (text : List ℕ) (at : ℕ) → at < length text → FirstPasses is_line_feed (drop at text) → get_or text at 0 ≡ 10
first_passes [] at lt h = absurd (omega arith)
first_passes (b ∷ text) zero lt h = is_feed b h
first_passes (b ∷ text) (suc at) lt h = first_passes text at (omega arith) h

pub first_line : (text : List ℕ) (at : ℕ) → at < length text → NonePass is_line_feed (take at text) → FirstPasses is_line_feed (drop at text)
    → lines_of text ≡ take at text ∷ lines_of (drop (at + 1) text)
first_line text at lt none first =
    let whole : text ≡ take at text ++ 10 ∷ drop (at + 1) text =
    sym (take-append-drop at text) ∙ ap (λ (z : List ℕ). take at text ++ z) (drop_more text at 0 lt ∙ ap (λ c. c ∷ drop (at + 1) text) (first_passes text at lt first)) in
    ap lines_of whole ∙ line_at (take at text) (drop (at + 1) text) none
