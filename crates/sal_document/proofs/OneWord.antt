-- Lines and their words: a printed word is one word, and a printed line is one line.
use Rattle.std.proofs.Common.{◌≡◌, ℕ, ◌==◌, Bool, true, false, ◌||◌, Option, Some, None, List, [], ◌∷◌, ◌++◌, refl, sym, ap, ◌∙◌, append_assoc, append-nil, arith}
use Rattle.std.specs.Prelude.{if◌then◌else◌}
use Rattle.std.specs.List.{flat_map}
use Rattle.std.proofs.lemmas.Bool.{eqb-true}
use Rattle.std.proofs.lemmas.Bool.Decides.{nat_tests}
use Rattle.sal_value.specs.Names.{NonePass}
use Rattle.sal_value.proofs.Bytes.{both}
use Rattle.sal_schedule.specs.declared.words.Mode.{Mode}
use Rattle.sal_schedule.specs.declared.words.Mode.TheVariants.{Plain, Quoted, Escaped}
use Rattle.sal_schedule.specs.Lines.{before_first, next_mode, separates, words_from, words_of}
use Rattle.sal_document.specs.Documents.{Words, line_text}
use Rattle.sal_document.specs.Parts.{is_plain_byte, is_plain}
use Rattle.sal_document.specs.code.Reading.{is_line_feed}

-- ---- words

-- what the byte after these stands in, if none of them is a line feed or a space that separates
abbrev pub run : Mode → List ℕ → Option Mode
run mode [] = Some mode
run mode (b ∷ bytes) = if is_line_feed b || separates mode b then None else run (next_mode mode b) bytes

-- the bytes are one word of a line
pub record IsOne (word : List ℕ) : Type 0 where
  pub runs : run Plain word ≡ Some Plain

-- what one byte more does
pub step : (mode : Mode) (b : ℕ) (bytes : List ℕ) (t : Bool) → is_line_feed b || separates mode b ≡ t → run mode (b ∷ bytes) ≡ (if t then None else run (next_mode mode b) bytes)
step mode b bytes t e = ap (λ t. if t then None else run (next_mode mode b) bytes) e

abbrev then_run : Option Mode → List ℕ → Option Mode
then_run None bytes = None
then_run (Some mode) bytes = run mode bytes

append_by : (t : Bool) (o p : Option Mode) (ys : List ℕ) → p ≡ then_run o ys → (if t then None else p) ≡ then_run (if t then None else o) ys
append_by true o p ys e = refl
append_by false o p ys e = e

run_append : (mode : Mode) (xs ys : List ℕ) → run mode (xs ++ ys) ≡ then_run (run mode xs) ys
run_append mode [] ys = refl
run_append mode (b ∷ xs) ys = append_by (is_line_feed b || separates mode b) (run (next_mode mode b) xs) (run (next_mode mode b) (xs ++ ys)) ys (run_append (next_mode mode b) xs ys)

-- two runs one after the other
pub runs_on : (mode next : Mode) (xs ys : List ℕ) → run mode xs ≡ Some next → run mode (xs ++ ys) ≡ run next ys
runs_on mode next xs ys e = run_append mode xs ys ∙ ap (λ o. then_run o ys) e

plain_step : (b : ℕ) → is_plain_byte b ≡ true → is_line_feed b || b == 32 ≡ false
plain_step b h = grind (arith, nat_tests)

plain_mode : (b : ℕ) → is_plain_byte b ≡ true → next_mode Plain b ≡ Plain
plain_mode b h = let q : (b == 34) ≡ false = grind (arith, nat_tests) in ap (λ t. if t then Quoted else Plain) q

plain_runs : (word : List ℕ) → is_plain word ≡ true → run Plain word ≡ Some Plain
plain_runs [] h = refl
plain_runs (b ∷ word) h =
    let parts = both (is_plain_byte b) (is_plain word) h in
    step Plain b word false (plain_step b parts.0) ∙ ap (λ m. run m word) (plain_mode b parts.0) ∙ plain_runs word parts.1

pub plain_is_one : (word : List ℕ) → is_plain word ≡ true → IsOne word
plain_is_one word h = record { runs = plain_runs word h }

-- ---- several words

abbrev pub AreOne : Words → Type 0
AreOne [] = Unit {0}
AreOne (w ∷ ws) = IsOne w × AreOne ws

-- each after a space
abbrev pub after_spaces : Words → List ℕ
after_spaces words = flat_map (λ w. 32 ∷ w) words

-- the words with a space between two of them
abbrev pub spaced : Words → List ℕ
spaced [] = []
spaced (word ∷ words) = word ++ after_spaces words

pub line_is : (words : Words) → line_text words ≡ spaced words ++ 10 ∷ []
unfolding line_text
line_is [] = refl
line_is (word ∷ words) = sym (append_assoc word (after_spaces words) (10 ∷ []))

-- ---- what is cut is joined again

-- there is a word
record IsSome (words : Words) : Type 0 where
  first : List ℕ
  others : Words
  is : words ≡ first ∷ others

before_some : (b : ℕ) (words : Words) → IsSome (before_first b words)
before_some b [] = record { first = b ∷ []; others = []; is = refl }
before_some b (word ∷ words) = record { first = b ∷ word; others = words; is = refl }

some_by : (t : Bool) (b : ℕ) (more words : Words) → IsSome (if t then [] ∷ more else before_first b words)
some_by true b more words = record { first = []; others = more; is = refl }
some_by false b more words = before_some b words

some_words : (mode : Mode) (bytes : List ℕ) → IsSome (words_from mode bytes)
some_words mode [] = record { first = []; others = []; is = refl }
some_words mode (b ∷ bytes) = some_by (separates mode b) b (words_from Plain bytes) (words_from (next_mode mode b) bytes)

spaced_before : (b : ℕ) (words : Words) → spaced (before_first b words) ≡ b ∷ spaced words
spaced_before b [] = refl
spaced_before b (word ∷ words) = refl

spaced_empty : (words : Words) → IsSome words → spaced ([] ∷ words) ≡ 32 ∷ spaced words
spaced_empty words some = ap (λ ws. spaced ([] ∷ ws)) some.is ∙ ap (λ ws. 32 ∷ spaced ws) (sym some.is)

is_space : (mode : Mode) (b : ℕ) → separates mode b ≡ true → b ≡ 32
is_space Plain b e = eqb-true b 32 e
is_space Quoted b e = absurd cc
is_space Escaped b e = absurd cc

joined_by : (mode : Mode) (b : ℕ) (bytes : List ℕ) (t : Bool) → separates mode b ≡ t → spaced (words_from Plain bytes) ≡ bytes → spaced (words_from (next_mode mode b) bytes) ≡ bytes
    → spaced (if t then [] ∷ words_from Plain bytes else before_first b (words_from (next_mode mode b) bytes)) ≡ b ∷ bytes
joined_by mode b bytes true e plain next =
    spaced_empty (words_from Plain bytes) (some_words Plain bytes) ∙ ap (λ (z : List ℕ). 32 ∷ z) plain ∙ ap (λ (n : ℕ). n ∷ bytes) (sym (is_space mode b e))
joined_by mode b bytes false e plain next = spaced_before b (words_from (next_mode mode b) bytes) ∙ ap (λ (z : List ℕ). b ∷ z) next

joined : (mode : Mode) (bytes : List ℕ) → spaced (words_from mode bytes) ≡ bytes
joined mode [] = refl
joined mode (b ∷ bytes) = joined_by mode b bytes (separates mode b) refl (joined Plain bytes) (joined (next_mode mode b) bytes)

pub words_joined : (line : List ℕ) → spaced (words_of line) ≡ line
unfolding words_of
words_joined line = joined Plain line

-- ---- what is joined is cut again

-- these bytes before the first word
abbrev before_word : List ℕ → Words → Words
before_word [] words = words
before_word (b ∷ bytes) words = before_first b (before_word bytes words)

before_cons : (bytes word : List ℕ) (words : Words) → before_word bytes (word ∷ words) ≡ (bytes ++ word) ∷ words
before_cons [] word words = refl
before_cons (b ∷ bytes) word words = ap (before_first b) (before_cons bytes word words)

neither : (a b : Bool) → a || b ≡ false → (a ≡ false) × (b ≡ false)
neither true b e = absurd cc
neither false b e = (refl, e)

else_some : {A : Type 0} (t : Bool) (o : Option A) (x : A) → (if t then None else o) ≡ Some x → (t ≡ false) × (o ≡ Some x)
else_some true o x e = absurd cc
else_some false o x e = (refl, e)

some_same : {A : Type 0} (x y : A) → Some x ≡ Some y → x ≡ y
some_same x y e = cc

cut_on : (mode next : Mode) (word rest : List ℕ) → run mode word ≡ Some next → words_from mode (word ++ rest) ≡ before_word word (words_from next rest)
cut_on mode next [] rest e = ap (λ m. words_from m rest) (some_same mode next e)
cut_on mode next (b ∷ word) rest e =
    let here = else_some (is_line_feed b || separates mode b) (run (next_mode mode b) word) next e in
    let plain = neither (is_line_feed b) (separates mode b) here.0 in
    ap (λ t. if t then [] ∷ words_from Plain (word ++ rest) else before_first b (words_from (next_mode mode b) (word ++ rest))) plain.1
    ∙ ap (before_first b) (cut_on (next_mode mode b) next word rest here.1)

cut_word : (word : List ℕ) (words : Words) → IsOne word → AreOne words → words_from Plain (word ++ after_spaces words) ≡ word ∷ words
cut_word word [] one ones =
    cut_on Plain Plain word [] one.runs ∙ before_cons word [] [] ∙ ap (λ (z : List ℕ). z ∷ []) (append-nil word)
cut_word word (next ∷ words) one ones =
    let more : List ℕ = next ++ after_spaces words in
    cut_on Plain Plain word (32 ∷ more) one.runs ∙ before_cons word [] (words_from Plain more)
    ∙ ap (λ (z : List ℕ). z ∷ words_from Plain more) (append-nil word)
    ∙ ap (λ (ws : Words). word ∷ ws) (cut_word next words ones.0 ones.1)

pub words_cut : (word : List ℕ) (words : Words) → AreOne (word ∷ words) → words_of (spaced (word ∷ words)) ≡ word ∷ words
unfolding words_of
words_cut word words ones = cut_word word words ones.0 ones.1

-- ---- no line feed

run_none : (mode next : Mode) (word : List ℕ) → run mode word ≡ Some next → NonePass is_line_feed word
run_none mode next [] e = tt
run_none mode next (b ∷ word) e =
    let here = else_some (is_line_feed b || separates mode b) (run (next_mode mode b) word) next e in
    let plain = neither (is_line_feed b) (separates mode b) here.0 in
    (plain.0, run_none (next_mode mode b) next word here.1)

pub none_append : (xs ys : List ℕ) → NonePass is_line_feed xs → NonePass is_line_feed ys → NonePass is_line_feed (xs ++ ys)
none_append [] ys h k = k
none_append (x ∷ xs) ys h k = (h.0, none_append xs ys h.1 k)

spaces_none : (words : Words) → AreOne words → NonePass is_line_feed (after_spaces words)
spaces_none [] ones = tt
spaces_none (word ∷ words) ones = (refl, none_append word (after_spaces words) (run_none Plain Plain word ones.0.runs) (spaces_none words ones.1))

pub spaced_none : (words : Words) → AreOne words → NonePass is_line_feed (spaced words)
spaced_none [] ones = tt
spaced_none (word ∷ words) ones = none_append word (after_spaces words) (run_none Plain Plain word ones.0.runs) (spaces_none words ones.1)
