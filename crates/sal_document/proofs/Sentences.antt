-- What the words of each line tell, and how they are printed, both ways.
use Rattle.std.proofs.Common.{◌≡◌, ℕ, Bool, true, false, Option, Some, None, List, [], ◌∷◌, map, refl, sym, ap, subst, ◌∙◌}
use Rattle.std.specs.Prelude.{if◌then◌else◌, codes}
use Rattle.std.specs.Fmt.{decimal}
use Rattle.std.specs.List.{AllByRecursion}
use Rattle.std.specs.Option.{option_map}
use Rattle.std.specs.Str.{bytes_eq}
use Rattle.std.proofs.lemmas.Slice.Eq.{bytes_eq-Decides}
use Rattle.sal_value.specs.declared.name.Name.{Name}
use Rattle.sal_value.specs.declared.value.Value.{Value}
use Rattle.sal_value.specs.Names.{name_text, uan_text}
use Rattle.sal_mail.specs.declared.effects.Actor.{Actor}
use Rattle.sal_mail.specs.declared.fault.Fault.{Fault}
use Rattle.sal_mail.specs.Lines.{kind_text}
use Rattle.sal_ast.specs.declared.program.Program.{Program}
use Rattle.sal_source.specs.declared.state.Step.{Step}
use Rattle.sal_source.specs.declared.state.Step.TheVariants as step
use Rattle.sal_literals.specs.Reading.{number_of}
use Rattle.sal_literals.specs.Texts.{value_text, quoted_text}
use Rattle.sal_document.specs.declared.shown.End.{End}
use Rattle.sal_document.specs.Documents.{Words, behavior_name, handler_name, step_words, output_words, fault_words, answer_words, actor_words, heading_words, hash_words, count_words, pending_words, packets_words, end_words}
use Rattle.sal_document.specs.Parts.{IsNumber, IsHandler, IsMade, IsStep, IsPrinted, IsFault, IsAnswer, IsShownActor, IsHash, ArePending, named_handler}
use Rattle.sal_document.specs.code.Keeping.{printed_of, actor_kept}
use Rattle.sal_document.specs.code.Reading.{OfWords, ◌>>=◌, with_rest, next_of, word_at, if_over, cons_some, each_of, end_of, fixed_of, hash_of, made_at, made_alone, handle_of, print_of, bind_of, refuse_of, call_at, post_of, step_by, step_of, output_of, fault_of, answer_of, actor_of, field_of, pending_of}
use Rattle.sal_document.proofs.OneWord.{IsOne, AreOne, plain_is_one}
use Rattle.sal_document.proofs.Told.{IsWord, number_word, theatre_word, name_word, universal_word, value_word, text_word, kind_word, end_word, fixed_word, hash_word, behavior_word, call_found}

-- ---- what holds of what is read

record Tells {A : Type 0} (o : Option A) (P : A → Type 0) : Type 0 where
  fact : (x : A) → o ≡ Some x → P x

some_same : {A : Type 0} (x y : A) → Some x ≡ Some y → x ≡ y
some_same x y e = cc

then_tells : {A B : Type 0} {o : OfWords A} {P : A × Words → Type 0} (f : A × Words → Option B) (Q : B → Type 0)
    → Tells o P → ((x : A × Words) → P x → Tells (f x) Q) → Tells (o >>= f) Q
then_tells {A} {B} {o} {P} f Q h k = record { fact = go o h k }
  where
    go : (o : OfWords A) → Tells o P → ((x : A × Words) → P x → Tells (f x) Q) → (y : B) → (o >>= f) ≡ Some y → Q y
    go (Some x) h k y e = (k x (h.fact x refl)).fact y e
    go None h k y e = absurd cc

done_tells : {A : Type 0} (x : A) (P : A → Type 0) → P x → Tells (Some x) P
done_tells x P p = record { fact = λ y e. subst P (some_same x y e) p }

none_tells : {A : Type 0} (P : A → Type 0) → Tells {A = A} None P
none_tells P = record { fact = λ y e. absurd cc }

if_tells : {A : Type 0} (b : Bool) (o p : Option A) (P : A → Type 0) → (b ≡ true → Tells o P) → (b ≡ false → Tells p P) → Tells (if b then o else p) P
if_tells true o p P h k = h refl
if_tells false o p P h k = k refl

map_tells : {A B : Type 0} {o : Option A} {P : A → Type 0} (g : A → B) (Q : B → Type 0) → Tells o P → ((x : A) → P x → Q (g x)) → Tells (option_map g o) Q
map_tells {A} {B} {o} {P} g Q h k = record { fact = go o h }
  where
    go : (o : Option A) → Tells o P → (y : B) → option_map g o ≡ Some y → Q y
    go (Some x) h y e = subst Q (some_same (g x) y e) (k x (h.fact x refl))
    go None h y e = absurd cc

over_tells : {A : Type 0} (rest : Words) (x : A) (P : A → Type 0) → (rest ≡ [] → P x) → Tells (if_over rest x) P
over_tells [] x P h = done_tells x P (h refl)
over_tells (w ∷ rest) x P h = none_tells P

next_tells : (ws : Words) → Tells (next_of ws) (λ x. ws ≡ x.0 ∷ x.1)
next_tells [] = none_tells _
next_tells (w ∷ ws) = done_tells (w, ws) _ refl

-- some word, and what it gives
record Gives {A : Type 0} (f : List ℕ → Option A) (ws : Words) (x : A × Words) : Type 0 where
  word : List ℕ
  read : f word ≡ Some x.0
  is : ws ≡ word ∷ x.1

any_tells : {A : Type 0} (f : List ℕ → Option A) (ws : Words) → Tells (word_at f ws) (Gives f ws)
unfolding word_at
any_tells f [] = none_tells _
any_tells {A} f (w ∷ ws) = record { fact = at (f w) refl }
  where
    at : (o : Option A) → f w ≡ o → (x : A × Words) → with_rest ws o ≡ Some x → Gives f (w ∷ ws) x
    at None eo x e = absurd cc
    at (Some y) eo x e =
        let same : (y, ws) ≡ x = some_same (y, ws) x e in
        subst (Gives f (w ∷ ws)) same (record { word = w; read = eo; is = refl })

word_tells : {A : Type 0} {Is : A → Type 0} {text : A → List ℕ} {f : List ℕ → Option A} → IsWord Is text f → (ws : Words) → Tells (word_at f ws) (λ x. Is x.0 × (ws ≡ text x.0 ∷ x.1))
word_tells {f = f} law ws = record {
  fact = λ x e.
      let given = (any_tells f ws).fact x e in
      let is = law.found given.word x.0 given.read in
      (is.0, given.is ∙ ap (λ (z : List ℕ). z ∷ x.1) is.1);
}

each_tells : {A : Type 0} {Is : A → Type 0} {text : A → List ℕ} {f : List ℕ → Option A} → IsWord Is text f → (ws : Words) → Tells (each_of f ws) (λ xs. AllByRecursion Is xs × (ws ≡ map text xs))
each_tells law [] = done_tells [] _ (tt, refl)
each_tells {A} {Is} {text} {f} law (w ∷ ws) = record { fact = at (f w) (each_of f ws) refl (each_tells law ws) }
  where
    at : (o : Option A) (more : Option (List A)) → f w ≡ o → Tells more (λ xs. AllByRecursion Is xs × (ws ≡ map text xs)) → (xs : List A) → cons_some o more ≡ Some xs
        → AllByRecursion Is xs × (w ∷ ws ≡ map text xs)
    at None more eo h xs e = absurd cc
    at (Some x) None eo h xs e = absurd cc
    at (Some x) (Some others) eo h xs e =
        let here = law.found w x eo in
        let rest = h.fact others refl in
        let same : x ∷ others ≡ xs = some_same (x ∷ others) xs e in
        subst (λ (zs : List A). AllByRecursion Is zs × (w ∷ ws ≡ map text zs)) same
        ((here.0, rest.0), ap (λ (z : List ℕ). z ∷ ws) here.1 ∙ ap (λ (zs : Words). text x ∷ zs) rest.1)

-- ---- what is printed is read

word_again : {A : Type 0} {Is : A → Type 0} {text : A → List ℕ} {f : List ℕ → Option A} → IsWord Is text f → (x : A) (rest : Words) → Is x → word_at f (text x ∷ rest) ≡ Some (x, rest)
unfolding word_at
word_again law x rest h = ap (with_rest rest) (law.again x h)

each_again : {A : Type 0} {Is : A → Type 0} {text : A → List ℕ} {f : List ℕ → Option A} → IsWord Is text f → (xs : List A) → AllByRecursion Is xs → each_of f (map text xs) ≡ Some xs
each_again law [] h = refl
each_again {text = text} {f = f} law (x ∷ xs) h = ap (λ o. cons_some o (each_of f (map text xs))) (law.again x h.0) ∙ ap (cons_some (Some x)) (each_again law xs h.1)

all_one : {A : Type 0} {Is : A → Type 0} {text : A → List ℕ} {f : List ℕ → Option A} → IsWord Is text f → (xs : List A) → AllByRecursion Is xs → AreOne (map text xs)
all_one law [] h = tt
all_one law (x ∷ xs) h = (law.one x h.0, all_one law xs h.1)

-- ---- lines

-- the words tell this
pub record Told {A B : Type 0} (Is : A → Type 0) (words : A → Words) (kept : A → B) (ws : Words) (y : B) : Type 0 where
  pub item : A
  pub good : Is item
  pub same : kept item ≡ y
  pub is : ws ≡ words item

-- there is a word, and each is one
abbrev pub AreLine : Words → Type 0
AreLine [] = ⊥
AreLine (w ∷ ws) = IsOne w × AreOne ws

-- what is read of a line's words, and the words that are printed of it
pub record IsLine {A B : Type 0} (Is : A → Type 0) (words : A → Words) (kept : A → B) (f : Words → Option B) : Type 0 where
  pub found : (ws : Words) (y : B) → f ws ≡ Some y → Told Is words kept ws y
  pub again : (x : A) → Is x → f (words x) ≡ Some (kept x)
  pub one : (x : A) → Is x → AreLine (words x)

-- a line that keeps all it tells
abbrev told : {A : Type 0} {Is : A → Type 0} {words : A → Words} (x : A) (ws : Words) → Is x → ws ≡ words x → Told Is words (λ y. y) ws x
told x ws h is = record { item = x; good = h; same = refl; is = is }

-- a word that is fixed, and one more
abbrev two_words : {A : Type 0} → List ℕ → (A → List ℕ) → A → Words
two_words name text x = name ∷ text x ∷ []

field_tells : {A : Type 0} {Is : A → Type 0} {text : A → List ℕ} {f : List ℕ → Option A} (name : List ℕ) → IsOne name → IsWord Is text f → (ws : Words)
    → Tells (field_of name f ws) (Told Is (two_words name text) (λ y. y) ws)
unfolding field_of
field_tells {text = text} name one law ws =
    then_tells _ _ (word_tells (fixed_word name one) ws) (λ first p.
    then_tells _ _ (word_tells law first.1) (λ x q.
    over_tells x.1 x.0 _ (λ none. record {
      item = x.0;
      good = q.0;
      same = refl;
      is = p.1 ∙ ap (λ (z : Words). name ∷ z) (q.1 ∙ ap (λ (z : Words). text x.0 ∷ z) none);
    })))

field_again : {A : Type 0} {Is : A → Type 0} {text : A → List ℕ} {f : List ℕ → Option A} (name : List ℕ) → IsOne name → IsWord Is text f → (x : A) → Is x → field_of name f (two_words name text x) ≡ Some x
unfolding field_of
field_again {text = text} name one law x h = rw (word_again (fixed_word name one) tt (text x ∷ []) tt, word_again law x [] h) refl

field_line : {A : Type 0} {Is : A → Type 0} {text : A → List ℕ} {f : List ℕ → Option A} (name : List ℕ) → IsOne name → IsWord Is text f → IsLine Is (two_words name text) (λ y. y) (field_of name f)
field_line name one law = record {
  found = λ ws. (field_tells name one law ws).fact;
  again = field_again name one law;
  one = λ x h. (one, (law.one x h, tt));
}

pub heading_line : IsLine {A = Unit {0}} (λ x. Unit {0}) (λ x. heading_words) (λ y. y) (field_of (codes "salsa-replay") (fixed_of (codes "1")))
heading_line = field_line (codes "salsa-replay") (plain_is_one _ refl) (fixed_word (codes "1") (plain_is_one _ refl))

pub hash_line : IsLine IsHash hash_words (λ y. y) (field_of (codes "program") hash_of)
hash_line = field_line (codes "program") (plain_is_one _ refl) hash_word

pub count_line : (name : List ℕ) → IsOne name → IsLine IsNumber (count_words name) (λ y. y) (field_of name number_of)
count_line name one = field_line name one number_word

pub packets_line : IsLine IsNumber packets_words (λ y. y) (field_of (codes "packets") number_of)
packets_line = field_line (codes "packets") (plain_is_one _ refl) number_word

pub end_line : IsLine {A = End} (λ e. Unit {0}) end_words (λ y. y) (field_of (codes "end") end_of)
end_line = field_line (codes "end") (plain_is_one _ refl) end_word

-- ---- how many are pending

pending_one : IsOne (codes "pending")
pending_one = plain_is_one _ refl

pending_tells : (ws : Words) → Tells (pending_of ws) (Told ArePending pending_words (λ y. y) ws)
unfolding pending_of
pending_tells ws =
    then_tells _ _ (word_tells (fixed_word (codes "pending") pending_one) ws) (λ first p.
    then_tells _ _ (word_tells number_word first.1) (λ messages q.
    then_tells _ _ (word_tells number_word messages.1) (λ creations r.
    then_tells _ _ (word_tells number_word creations.1) (λ joins s.
    over_tells joins.1 (messages.0, creations.0, joins.0) _ (λ none. record {
      item = (messages.0, creations.0, joins.0);
      good = (q.0, r.0, s.0);
      same = refl;
      is = p.1 ∙ ap (λ (z : Words). codes "pending" ∷ z) (q.1 ∙ ap (λ (z : Words). decimal messages.0 ∷ z) (r.1 ∙ ap (λ (z : Words). decimal creations.0 ∷ z) (s.1 ∙ ap (λ (z : Words). decimal joins.0 ∷ z) none)));
    })))))

pending_again : (x : ℕ × ℕ × ℕ) → ArePending x → pending_of (pending_words x) ≡ Some x
unfolding pending_of
pending_again x h =
    rw (
      word_again (fixed_word (codes "pending") pending_one) tt (decimal x.0 ∷ decimal x.1 ∷ decimal x.2 ∷ []) tt,
      word_again number_word x.0 (decimal x.1 ∷ decimal x.2 ∷ []) h.0,
      word_again number_word x.1 (decimal x.2 ∷ []) h.1,
      word_again number_word x.2 [] h.2,
    ) refl

pub pending_line : IsLine ArePending pending_words (λ y. y) pending_of
pending_line = record {
  found = λ ws. (pending_tells ws).fact;
  again = pending_again;
  one = λ x h. (pending_one, (number_word.one x.0 h.0, (number_word.one x.1 h.1, (number_word.one x.2 h.2, tt))));
}

-- ---- steps

made_tells : (ws : Words) → Tells (made_at ws) (λ x. IsMade x.0.0 x.0.1 × (ws ≡ name_text x.0.0 ∷ decimal x.0.1 ∷ x.1))
made_tells ws =
    then_tells _ _ (word_tells name_word ws) (λ maker p.
    then_tells _ _ (word_tells number_word maker.1) (λ serial q.
    done_tells ((maker.0, serial.0), serial.1) _ ((p.0, q.0), p.1 ∙ ap (λ (z : Words). name_text maker.0 ∷ z) q.1)))

made_again : (maker : Name) (serial : ℕ) (rest : Words) → IsMade maker serial → made_at (name_text maker ∷ decimal serial ∷ rest) ≡ Some ((maker, serial), rest)
made_again maker serial rest h = rw (word_again name_word maker (decimal serial ∷ rest) h.0, word_again number_word serial rest h.1) refl

alone_tells : (ws : Words) → Tells (made_alone ws) (λ x. IsMade x.0 x.1 × (ws ≡ name_text x.0 ∷ decimal x.1 ∷ []))
alone_tells ws =
    then_tells _ _ (made_tells ws) (λ made p.
    over_tells made.1 made.0 _ (λ none. (p.0, p.1 ∙ ap (λ (z : Words). name_text made.0.0 ∷ decimal made.0.1 ∷ z) none)))

alone_again : (maker : Name) (serial : ℕ) → IsMade maker serial → made_alone (name_text maker ∷ decimal serial ∷ []) ≡ Some (maker, serial)
alone_again maker serial h = rw (made_again maker serial [] h) refl

call_tells : (p : Program) (ws : Words) → Tells (call_at p ws) (λ x. IsHandler p x.0.0 x.0.1 × (ws ≡ behavior_name p x.0.0 ∷ handler_name p x.0.0 x.0.1 ∷ x.1))
call_tells p ws =
    then_tells _ _ (next_tells ws) (λ behavior is. record {
      fact = λ x e.
          let given = (any_tells (named_handler p behavior.0) behavior.1).fact x e in
          let call = call_found p behavior.0 given.word x.0.0 x.0.1 given.read in (
            ap (λ (z : List ℕ). named_handler p z (handler_name p x.0.0 x.0.1)) call.first ∙ ap (named_handler p behavior.0) call.second ∙ given.read,
            is ∙ ap (λ (z : Words). behavior.0 ∷ z) given.is ∙ ap (λ (z : List ℕ). z ∷ given.word ∷ x.1) (sym call.first)
                ∙ ap (λ (z : List ℕ). behavior_name p x.0.0 ∷ z ∷ x.1) (sym call.second),
          );
    })

call_again : (p : Program) (b h : ℕ) (rest : Words) → IsHandler p b h → call_at p (behavior_name p b ∷ handler_name p b h ∷ rest) ≡ Some ((b, h), rest)
unfolding word_at
call_again p b h rest is = ap (with_rest rest) is

same_bytes : (xs ys : List ℕ) → bytes_eq xs ys ≡ true → xs ≡ ys
same_bytes xs ys e = (bytes_eq-Decides xs ys).0 e

-- the step that these words tell after their first
abbrev StepOf : Program → List ℕ → Words → Step → Type 0
StepOf p word ws s = IsStep p s × (word ∷ ws ≡ step_words p s)

handle_tells : (p : Program) (ws : Words) → Tells (handle_of ws) (StepOf p (codes "handle") ws)
unfolding step_words
handle_tells p ws =
    then_tells _ _ (made_tells ws) (λ made q.
    map_tells (step.Handle made.0.0 made.0.1) _ (each_tells name_word made.1) (λ fresh r.
    ((q.0, r.0), ap (λ (z : Words). codes "handle" ∷ z) (q.1 ∙ ap (λ (z : Words). name_text made.0.0 ∷ decimal made.0.1 ∷ z) r.1))))

print_tells : (p : Program) (ws : Words) → Tells (print_of ws) (StepOf p (codes "print") ws)
unfolding step_words
print_tells p ws = map_tells (λ x. step.Print x.0 x.1) _ (alone_tells ws) (λ x q. (q.0, ap (λ (z : Words). codes "print" ∷ z) q.1))

bind_tells : (p : Program) (ws : Words) → Tells (bind_of ws) (StepOf p (codes "bind") ws)
unfolding step_words
bind_tells p ws = map_tells (λ x. step.Bind x.0 x.1) _ (alone_tells ws) (λ x q. (q.0, ap (λ (z : Words). codes "bind" ∷ z) q.1))

refuse_tells : (p : Program) (ws : Words) → Tells (refuse_of ws) (StepOf p (codes "refuse") ws)
unfolding step_words
refuse_tells p ws = map_tells (λ x. step.Refuse x.0 x.1) _ (alone_tells ws) (λ x q. (q.0, ap (λ (z : Words). codes "refuse" ∷ z) q.1))

post_tells : (p : Program) (ws : Words) → Tells (post_of p ws) (StepOf p (codes "post") ws)
unfolding step_words
post_tells p ws =
    then_tells _ _ (word_tells number_word ws) (λ number q.
    then_tells _ _ (word_tells universal_word number.1) (λ target r.
    then_tells _ _ (call_tells p target.1) (λ call s.
    map_tells (step.Post number.0 target.0 call.0.0 call.0.1) _ (each_tells value_word call.1) (λ args t. (
      (q.0, r.0, s.0, t.0),
      ap (λ (z : Words). codes "post" ∷ z) (q.1 ∙ ap (λ (z : Words). decimal number.0 ∷ z) (r.1 ∙ ap (λ (z : Words). uan_text target.0 ∷ z)
          (s.1 ∙ ap (λ (z : Words). behavior_name p call.0.0 ∷ handler_name p call.0.0 call.0.1 ∷ z) t.1))),
    )))))

at_word : (p : Program) (word name : List ℕ) (ws : Words) (o : Option Step) → bytes_eq word name ≡ true → Tells o (StepOf p name ws) → Tells o (StepOf p word ws)
at_word p word name ws o e h = subst (λ (z : List ℕ). Tells o (StepOf p z ws)) (sym (same_bytes word name e)) h

by_tells : (p : Program) (word : List ℕ) (ws : Words) → Tells (step_by p word ws) (StepOf p word ws)
by_tells p word ws =
    if_tells (bytes_eq word (codes "handle")) _ _ _ (λ e. at_word p word (codes "handle") ws _ e (handle_tells p ws)) (λ other1.
    if_tells (bytes_eq word (codes "print")) _ _ _ (λ e. at_word p word (codes "print") ws _ e (print_tells p ws)) (λ other2.
    if_tells (bytes_eq word (codes "bind")) _ _ _ (λ e. at_word p word (codes "bind") ws _ e (bind_tells p ws)) (λ other3.
    if_tells (bytes_eq word (codes "refuse")) _ _ _ (λ e. at_word p word (codes "refuse") ws _ e (refuse_tells p ws)) (λ other4.
    if_tells (bytes_eq word (codes "post")) _ _ _ (λ e. at_word p word (codes "post") ws _ e (post_tells p ws)) (λ other5.
    none_tells _)))))

step_tells : (p : Program) (ws : Words) → Tells (step_of p ws) (Told (IsStep p) (step_words p) (λ y. y) ws)
unfolding step_of
step_tells p ws =
    then_tells _ _ (next_tells ws) (λ word q. record {
      fact = λ s e. let is = (by_tells p word.0 word.1).fact s e in record { item = s; good = is.0; same = refl; is = q ∙ is.1 };
    })

step_again : (p : Program) (s : Step) → IsStep p s → step_of p (step_words p s) ≡ Some s
unfolding step_of step_words
step_again p (step.Handle maker serial fresh) h = rw (made_again maker serial (map name_text fresh) h.0, each_again name_word fresh h.1) refl
step_again p (step.Print maker serial) h = ap (option_map (λ x. step.Print x.0 x.1)) (alone_again maker serial h)
step_again p (step.Bind maker serial) h = ap (option_map (λ x. step.Bind x.0 x.1)) (alone_again maker serial h)
step_again p (step.Refuse maker serial) h = ap (option_map (λ x. step.Refuse x.0 x.1)) (alone_again maker serial h)
step_again p (step.Post number target behavior handler args) h =
    rw (
      word_again number_word number (uan_text target ∷ behavior_name p behavior ∷ handler_name p behavior handler ∷ map value_text args) h.0,
      word_again universal_word target (behavior_name p behavior ∷ handler_name p behavior handler ∷ map value_text args) h.1,
      call_again p behavior handler (map value_text args) h.2,
      each_again value_word args h.3,
    ) refl

call_one : (p : Program) (b h : ℕ) → IsHandler p b h → IsOne (behavior_name p b) × IsOne (handler_name p b h)
call_one p b h is =
    let call = call_found p (behavior_name p b) (handler_name p b h) b h is in
    (plain_is_one (behavior_name p b) call.first_plain, plain_is_one (handler_name p b h) call.second_plain)

step_one : (p : Program) (s : Step) → IsStep p s → AreLine (step_words p s)
unfolding step_words
step_one p (step.Handle maker serial fresh) h = (plain_is_one _ refl, (name_word.one maker h.0.0, (number_word.one serial h.0.1, all_one name_word fresh h.1)))
step_one p (step.Print maker serial) h = (plain_is_one _ refl, (name_word.one maker h.0, (number_word.one serial h.1, tt)))
step_one p (step.Bind maker serial) h = (plain_is_one _ refl, (name_word.one maker h.0, (number_word.one serial h.1, tt)))
step_one p (step.Refuse maker serial) h = (plain_is_one _ refl, (name_word.one maker h.0, (number_word.one serial h.1, tt)))
step_one p (step.Post number target behavior handler args) h =
    let call = call_one p behavior handler h.2 in
    (plain_is_one _ refl, (number_word.one number h.0, (universal_word.one target h.1, (call.0, (call.1, all_one value_word args h.3)))))

pub step_line : (p : Program) → IsLine (IsStep p) (step_words p) (λ y. y) (step_of p)
step_line p = record { found = λ ws. (step_tells p ws).fact; again = step_again p; one = step_one p }

-- ---- what came of the steps

-- a line without one of its parts
part_line : {A B : Type 0} {Is : A → Type 0} {words : A → Words} {f : Words → Option A} (g : A → B) → IsLine Is words (λ y. y) f → IsLine Is words g (λ ws. option_map g (f ws))
part_line {A} {B} {Is} {words} {f} g law = record { found = λ ws y e. at ws y (f ws) refl e; again = λ x h. ap (option_map g) (law.again x h); one = law.one }
  where
    at : (ws : Words) (y : B) (o : Option A) → f ws ≡ o → option_map g o ≡ Some y → Told Is words g ws y
    at ws y None eo e = absurd cc
    at ws y (Some x) eo e =
        let is = law.found ws x eo in
        record { item = is.item; good = is.good; same = ap g is.same ∙ some_same (g x) y e; is = is.is }

output_tells : (ws : Words) → Tells (output_of ws) (Told IsPrinted output_words (λ y. y) ws)
unfolding output_of output_words
output_tells ws =
    then_tells _ _ (word_tells theatre_word ws) (λ theatre q.
    then_tells _ _ (word_tells text_word theatre.1) (λ text r.
    over_tells text.1 (theatre.0, text.0) _ (λ none. record {
      item = (theatre.0, text.0);
      good = (q.0, r.0);
      same = refl;
      is = q.1 ∙ ap (λ (z : Words). decimal theatre.0 ∷ z) (r.1 ∙ ap (λ (z : Words). quoted_text text.0 ∷ z) none);
    })))

output_again : (x : ℕ × List ℕ) → IsPrinted x → output_of (output_words x) ≡ Some x
unfolding output_of output_words
output_again x h = rw (word_again theatre_word x.0 (quoted_text x.1 ∷ []) h.0, word_again text_word x.1 [] h.1) refl

output_one : (x : ℕ × List ℕ) → IsPrinted x → AreLine (output_words x)
unfolding output_words
output_one x h = (theatre_word.one x.0 h.0, (text_word.one x.1 h.1, tt))

pub output_line : IsLine IsPrinted output_words (λ x. x.1) printed_of
output_line = part_line (λ x. x.1) (record { found = λ ws. (output_tells ws).fact; again = output_again; one = output_one })

fault_tells : (ws : Words) → Tells (fault_of ws) (Told IsFault fault_words (λ y. y) ws)
unfolding fault_of fault_words
fault_tells ws =
    then_tells _ _ (made_tells ws) (λ made q.
    then_tells _ _ (word_tells kind_word made.1) (λ kind r.
    over_tells kind.1 (record { maker = made.0.0; serial = made.0.1; kind = kind.0 }) _ (λ none. record {
      item = record { maker = made.0.0; serial = made.0.1; kind = kind.0 };
      good = q.0;
      same = refl;
      is = q.1 ∙ ap (λ (z : Words). name_text made.0.0 ∷ decimal made.0.1 ∷ z) (r.1 ∙ ap (λ (z : Words). kind_text kind.0 ∷ z) none);
    })))

fault_again : (f : Fault) → IsFault f → fault_of (fault_words f) ≡ Some f
unfolding fault_of fault_words
fault_again f h = rw (made_again f.maker f.serial (kind_text f.kind ∷ []) h, word_again kind_word f.kind [] tt) refl

fault_one : (f : Fault) → IsFault f → AreLine (fault_words f)
unfolding fault_words
fault_one f h = (name_word.one f.maker h.0, (number_word.one f.serial h.1, (kind_word.one f.kind tt, tt)))

pub fault_line : IsLine IsFault fault_words (λ y. y) fault_of
fault_line = record { found = λ ws. (fault_tells ws).fact; again = fault_again; one = fault_one }

answer_tells : (ws : Words) → Tells (answer_of ws) (Told IsAnswer answer_words (λ y. y) ws)
unfolding answer_of answer_words
answer_tells ws =
    then_tells _ _ (word_tells number_word ws) (λ number q.
    then_tells _ _ (word_tells value_word number.1) (λ value r.
    over_tells value.1 (number.0, value.0) _ (λ none. record {
      item = (number.0, value.0);
      good = (q.0, r.0);
      same = refl;
      is = q.1 ∙ ap (λ (z : Words). decimal number.0 ∷ z) (r.1 ∙ ap (λ (z : Words). value_text value.0 ∷ z) none);
    })))

answer_again : (x : ℕ × Value) → IsAnswer x → answer_of (answer_words x) ≡ Some x
unfolding answer_of answer_words
answer_again x h = rw (word_again number_word x.0 (value_text x.1 ∷ []) h.0, word_again value_word x.1 [] h.1) refl

answer_one : (x : ℕ × Value) → IsAnswer x → AreLine (answer_words x)
unfolding answer_words
answer_one x h = (number_word.one x.0 h.0, (value_word.one x.1 h.1, tt))

pub answer_line : IsLine IsAnswer answer_words (λ y. y) answer_of
answer_line = record { found = λ ws. (answer_tells ws).fact; again = answer_again; one = answer_one }

actor_tells : (p : Program) (ws : Words) → Tells (actor_of p ws) (Told (IsShownActor p) (actor_words p) (λ y. y) ws)
unfolding actor_of actor_words
actor_tells p ws =
    then_tells _ _ (word_tells name_word ws) (λ named q.
    then_tells _ _ (word_tells theatre_word named.1) (λ theatre r.
    then_tells _ _ (word_tells (behavior_word p) theatre.1) (λ behavior s.
    then_tells _ _ (word_tells number_word behavior.1) (λ serial t.
    map_tells _ _ (each_tells value_word serial.1) (λ fields u. record {
      item = (record { name = named.0; behavior = behavior.0; fields = fields }, serial.0, theatre.0);
      good = (q.0, r.0, s.0, t.0, u.0);
      same = refl;
      is = q.1 ∙ ap (λ (z : Words). name_text named.0 ∷ z) (r.1 ∙ ap (λ (z : Words). decimal theatre.0 ∷ z)
          (s.1 ∙ ap (λ (z : Words). behavior_name p behavior.0 ∷ z) (t.1 ∙ ap (λ (z : Words). decimal serial.0 ∷ z) u.1)));
    })))))

actor_again : (p : Program) (x : Actor × ℕ × ℕ) → IsShownActor p x → actor_of p (actor_words p x) ≡ Some x
unfolding actor_of actor_words
actor_again p x h =
    rw (
      word_again name_word x.0.name (decimal x.2 ∷ behavior_name p x.0.behavior ∷ decimal x.1 ∷ map value_text x.0.fields) h.0,
      word_again theatre_word x.2 (behavior_name p x.0.behavior ∷ decimal x.1 ∷ map value_text x.0.fields) h.1,
      word_again (behavior_word p) x.0.behavior (decimal x.1 ∷ map value_text x.0.fields) h.2,
      word_again number_word x.1 (map value_text x.0.fields) h.3,
      each_again value_word x.0.fields h.4,
    ) refl

actor_one : (p : Program) (x : Actor × ℕ × ℕ) → IsShownActor p x → AreLine (actor_words p x)
unfolding actor_words
actor_one p x h =
    (name_word.one x.0.name h.0, (theatre_word.one x.2 h.1, ((behavior_word p).one x.0.behavior h.2, (number_word.one x.1 h.3, all_one value_word x.0.fields h.4))))

pub actor_line : (p : Program) → IsLine (IsShownActor p) (actor_words p) (λ x. (x.0, x.1)) (actor_kept p)
actor_line p = part_line (λ x. (x.0, x.1)) (record { found = λ ws. (actor_tells p ws).fact; again = actor_again p; one = actor_one p })
