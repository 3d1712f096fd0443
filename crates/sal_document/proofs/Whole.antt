-- A whole document: it is read exactly where it is printed, and else the first line that isn't as wanted is refused.
use Rattle.std.proofs.Common.{◌≡◌, ◌⊎◌, inl, inr, ℕ, zero, suc, ◌+◌, ◌≤◌, ◌<◌, Bool, true, false, List, [], ◌∷◌, ◌++◌, length, map, Result, Ok, Err, refl, sym, ap, subst, ◌∙◌, append_assoc, append-nil, arith}
use Rattle.std.specs.Prelude.{if◌then◌else◌, ◌-◌, nat_lt, codes, replicate}
use Rattle.std.proofs.lemmas.Bool.{cases_lt}
use Rattle.std.proofs.lemmas.Bool.Decides.{nat_tests}
use Rattle.sal_ast.specs.declared.program.Program.{Program}
use Rattle.sal_literals.specs.Reading.{number_of}
use Rattle.sal_document.specs.declared.constants.TheConstants.{LONGEST_DOCUMENT}
use Rattle.sal_document.specs.declared.shown.End.{End}
use Rattle.sal_document.specs.declared.shown.Replay.{Replay}
use Rattle.sal_document.specs.declared.shown.ReplayFault.{ReplayFault}
use Rattle.sal_document.specs.declared.shown.ReplayFault.TheVariants as fault
use Rattle.sal_document.specs.Documents as spec
use Rattle.sal_document.specs.Documents.{Document, Words, line_text, section_text, head_text, tail_text, results_text, document_text}
use Rattle.sal_document.specs.Parts as parts
use Rattle.sal_document.specs.Refusals as want
use Rattle.sal_document.specs.Refusals.{lines_of, Form, Tells, IsOf, Wanted, one, counted, whole, Agree, IsFirstWrong, kept, IsTextOf, IsRefusedAt, Reads}
use Rattle.sal_document.specs.code.Keeping.{replay_at, replay_of}
use Rattle.sal_document.specs.code.Reading.{Place, OfLines, ◌>>>◌, line_at, hash_of, fixed_of, pending_of, end_of, field_of, head_at, tail_at}
use Rattle.sal_document.specs.Laws.{PrintedDocumentsAreRead, TextsAreReadOneWay}
use Rattle.sal_document.specs.code.Reads.{ReadsLines}
use Rattle.sal_document.proofs.OneWord.{IsOne, plain_is_one}
use Rattle.sal_document.proofs.Sentences.{heading_line, hash_line, packets_line, end_line, pending_line, step_line, output_line, fault_line, answer_line, actor_line}
use Rattle.sal_document.proofs.CutLines.{line_again}
use Rattle.sal_document.proofs.Following.{Follows, IsFormOf, one_follows, section_follows, end_follows, assoc}
use Rattle.sal_document.proofs.Gathering as gather

-- ---- forms

shown : {A : Type 0} (p : Program) (form : Form) (Is : A → Type 0) (words : A → Words) → ((line : List ℕ) → Tells Is words line → IsOf p form line) → ((line : List ℕ) → IsOf p form line → Tells Is words line)
    → IsFormOf p form Is words
shown p form Is words into out = record {
  into = λ line x h. into line (x, h.good, h.is);
  out = λ line h. let is = out line h in (is.0, record { good = is.1; is = is.2 });
}

heading_form : (p : Program) → IsFormOf {A = Unit {0}} p want.heading (λ x. Unit {0}) (λ x. spec.heading_words)
heading_form p = shown p want.heading (λ x. Unit {0}) (λ x. spec.heading_words) (λ line h. h.2) (λ line h. (tt, tt, h))

hash_form : (p : Program) → IsFormOf p want.hash parts.IsHash spec.hash_words
hash_form p = shown p want.hash parts.IsHash spec.hash_words (λ line h. h) (λ line h. h)

step_form : (p : Program) → IsFormOf p want.step (parts.IsStep p) (spec.step_words p)
step_form p = shown p want.step (parts.IsStep p) (spec.step_words p) (λ line h. h) (λ line h. h)

output_form : (p : Program) → IsFormOf p want.output parts.IsPrinted spec.output_words
output_form p = shown p want.output parts.IsPrinted spec.output_words (λ line h. h) (λ line h. h)

fault_form : (p : Program) → IsFormOf p want.fault parts.IsFault spec.fault_words
fault_form p = shown p want.fault parts.IsFault spec.fault_words (λ line h. h) (λ line h. h)

answer_form : (p : Program) → IsFormOf p want.answer parts.IsAnswer spec.answer_words
answer_form p = shown p want.answer parts.IsAnswer spec.answer_words (λ line h. h) (λ line h. h)

actor_form : (p : Program) → IsFormOf p want.actor (parts.IsShownActor p) (spec.actor_words p)
actor_form p = shown p want.actor (parts.IsShownActor p) (spec.actor_words p) (λ line h. h) (λ line h. h)

pending_form : (p : Program) → IsFormOf p want.pending parts.ArePending spec.pending_words
pending_form p = shown p want.pending parts.ArePending spec.pending_words (λ line h. h) (λ line h. h)

packets_form : (p : Program) → IsFormOf p want.packets parts.IsNumber spec.packets_words
packets_form p = shown p want.packets parts.IsNumber spec.packets_words (λ line h. h) (λ line h. h)

end_form : (p : Program) → IsFormOf {A = End} p want.end (λ e. Unit {0}) spec.end_words
end_form p = shown p want.end (λ e. Unit {0}) spec.end_words (λ line h. h) (λ line h. h)

trace_one : IsOne (codes "trace")
trace_one = plain_is_one _ refl

output_one : IsOne (codes "output")
output_one = plain_is_one _ refl

faults_one : IsOne (codes "faults")
faults_one = plain_is_one _ refl

answers_one : IsOne (codes "answers")
answers_one = plain_is_one _ refl

actors_one : IsOne (codes "actors")
actors_one = plain_is_one _ refl

-- ---- what is refused

head_follows : {X : Type 0} (p : Program) (wanted : List Wanted) (place : Place) (k : List ℕ × Place → Result X ℕ) → ((y : List ℕ) (after : Place) → Follows p wanted after.0 (lines_of after.1) (k (y, after)))
    → Follows p (one want.heading ∷ one want.hash ∷ wanted) place.0 (lines_of place.1) (head_at place >>> k)
unfolding head_at
head_follows {X} p wanted place k more =
    subst (Follows {X = X} p (one want.heading ∷ one want.hash ∷ wanted) place.0 (lines_of place.1))
    (sym (assoc (line_at (field_of (codes "salsa-replay") (fixed_of (codes "1"))) place) (λ heading. line_at (field_of (codes "program") hash_of) heading.1) k))
    (one_follows (one want.hash ∷ wanted) heading_line (heading_form p) place (λ heading. line_at (field_of (codes "program") hash_of) heading.1 >>> k) (λ y after.
    one_follows wanted hash_line (hash_form p) after k more))

-- what the last lines give
abbrev Tail : Type 0
Tail = (ℕ × ℕ × ℕ) × ℕ × End

tail_is : {X : Type 0} (place : Place) (k : Tail × Place → Result X ℕ) → (tail_at place >>> k) ≡ (line_at pending_of place >>> λ pending.
    line_at (field_of (codes "packets") number_of) pending.1 >>> λ packets.
    line_at (field_of (codes "end") end_of) packets.1 >>> λ how.
    k ((pending.0, packets.0, how.0), how.1))
unfolding tail_at
tail_is {X} place k = at (line_at pending_of place)
  where
    last : (pending : (ℕ × ℕ × ℕ) × Place) (packets : ℕ × Place) (r : OfLines End) → ((r >>> λ how. Ok ((pending.0, packets.0, how.0), how.1)) >>> k) ≡ (r >>> λ how. k ((pending.0, packets.0, how.0), how.1))
    last pending packets (Ok x) = refl
    last pending packets (Err n) = refl

    middle : (pending : (ℕ × ℕ × ℕ) × Place) (r : OfLines ℕ) → ((r >>> λ packets. line_at (field_of (codes "end") end_of) packets.1 >>> λ how. Ok ((pending.0, packets.0, how.0), how.1)) >>> k)
        ≡ (r >>> λ packets. line_at (field_of (codes "end") end_of) packets.1 >>> λ how. k ((pending.0, packets.0, how.0), how.1))
    middle pending (Ok x) = last pending x (line_at (field_of (codes "end") end_of) x.1)
    middle pending (Err n) = refl

    at : (r : OfLines (ℕ × ℕ × ℕ)) → ((r >>> λ pending. line_at (field_of (codes "packets") number_of) pending.1 >>> λ packets. line_at (field_of (codes "end") end_of) packets.1 >>> λ how. Ok ((pending.0, packets.0, how.0), how.1)) >>> k)
        ≡ (r >>> λ pending. line_at (field_of (codes "packets") number_of) pending.1 >>> λ packets. line_at (field_of (codes "end") end_of) packets.1 >>> λ how. k ((pending.0, packets.0, how.0), how.1))
    at (Ok x) = middle x (line_at (field_of (codes "packets") number_of) x.1)
    at (Err n) = refl

tail_follows : {X : Type 0} (p : Program) (wanted : List Wanted) (place : Place) (k : Tail × Place → Result X ℕ) → ((y : Tail) (after : Place) → Follows p wanted after.0 (lines_of after.1) (k (y, after)))
    → Follows p (one want.pending ∷ one want.packets ∷ one want.end ∷ wanted) place.0 (lines_of place.1) (tail_at place >>> k)
tail_follows {X} p wanted place k more =
    subst (Follows {X = X} p (one want.pending ∷ one want.packets ∷ one want.end ∷ wanted) place.0 (lines_of place.1)) (sym (tail_is place k))
    (one_follows (one want.packets ∷ one want.end ∷ wanted) pending_line (pending_form p) place _ (λ pending place2.
    one_follows (one want.end ∷ wanted) packets_line (packets_form p) place2 _ (λ packets place3.
    one_follows wanted end_line (end_form p) place3 _ (λ how place4. more (pending, packets, how) place4))))

replay_follows : (p : Program) (place : Place) → Follows p whole place.0 (lines_of place.1) (replay_at p place)
unfolding replay_at
replay_follows p place =
    head_follows p _ place _ (λ hash place1.
    section_follows (codes "trace") _ trace_one (step_line p) (step_form p) place1 _ (λ trace place2.
    section_follows (codes "output") _ output_one output_line (output_form p) place2 _ (λ output place3.
    section_follows (codes "faults") _ faults_one fault_line (fault_form p) place3 _ (λ faults place4.
    section_follows (codes "answers") _ answers_one answer_line (answer_form p) place4 _ (λ answers place5.
    section_follows (codes "actors") _ actors_one (actor_line p) (actor_form p) place5 _ (λ actors place6.
    tail_follows p [] place6 _ (λ last place7.
    end_follows p place7 _)))))))

-- ---- what is read

head_reads : {X : Type 0} (place : Place) (k : List ℕ × Place → Result X ℕ) (P : List ℕ → X → Type 0)
    → ((hash : List ℕ) (after : Place) → parts.IsHash hash → gather.Reads after.1 (k (hash, after)) (λ bytes y. P (head_text hash ++ bytes) y)) → gather.Reads place.1 (head_at place >>> k) P
unfolding head_at head_text
head_reads {X} place k P more =
    subst (λ r. gather.Reads {X = X} place.1 r P)
    (sym (assoc (line_at (field_of (codes "salsa-replay") (fixed_of (codes "1"))) place) (λ heading. line_at (field_of (codes "program") hash_of) heading.1) k))
    (gather.line_reads heading_line place (λ heading. line_at (field_of (codes "program") hash_of) heading.1 >>> k) P (λ x after good.
    gather.line_reads hash_line after k (λ bytes y. P (line_text spec.heading_words ++ bytes) y) (λ hash last is. record {
      fact = λ y h. subst (λ (t : List ℕ). P t y) (append_assoc (line_text spec.heading_words) (line_text (spec.hash_words hash)) last.1) ((more hash last is).fact y h);
    })))

tail_reads : {X : Type 0} (place : Place) (k : Tail × Place → Result X ℕ) (P : List ℕ → X → Type 0)
    → ((x : Tail) (after : Place) → parts.ArePending x.0 → parts.IsNumber x.1 → gather.Reads after.1 (k (x, after)) (λ bytes y. P (tail_text x.0 x.1 x.2 ++ bytes) y))
    → gather.Reads place.1 (tail_at place >>> k) P
unfolding tail_text
tail_reads {X} place k P more =
    subst (λ r. gather.Reads {X = X} place.1 r P) (sym (tail_is place k))
    (gather.line_reads pending_line place _ P (λ pending place2 good2.
    gather.line_reads packets_line place2 _ _ (λ packets place3 good3.
    gather.line_reads end_line place3 _ _ (λ how place4 good4. record {
      fact = λ y h.
          let a : List ℕ = line_text (spec.pending_words pending) in
          let b : List ℕ = line_text (spec.packets_words packets) in
          let c : List ℕ = line_text (spec.end_words how) in
          let same : (a ++ (b ++ c)) ++ place4.1 ≡ a ++ (b ++ (c ++ place4.1)) = append_assoc a (b ++ c) place4.1 ∙ ap (λ (t : List ℕ). a ++ t) (append_assoc b c place4.1) in
          subst (λ (t : List ℕ). P t y) same ((more (pending, packets, how) place4 good2 good3).fact y h);
    }))))

map_same : {A : Type 0} (xs : List A) → map (λ x. x) xs ≡ xs
map_same [] = refl
map_same (x ∷ xs) = ap (λ zs. x ∷ zs) (map_same xs)

-- the document whose text this is
record IsFound (p : Program) (bytes : List ℕ) (r : Replay) : Type 0 where
  document : Document
  good : parts.IsDocument p document
  text : bytes ≡ document_text p document
  same : r ≡ kept document

text_is : (p : Program) (d : Document) → head_text d.hash ++ (section_text (codes "trace") (spec.step_words p) d.trace ++ (section_text (codes "output") spec.output_words d.output
    ++ (section_text (codes "faults") spec.fault_words d.faults ++ (section_text (codes "answers") spec.answer_words d.answers
    ++ (section_text (codes "actors") (spec.actor_words p) d.actors ++ (tail_text d.pending d.packets d.ending ++ [])))))) ≡ document_text p d
unfolding document_text results_text
text_is p d =
    ap (λ (t : List ℕ). head_text d.hash ++ (section_text (codes "trace") (spec.step_words p) d.trace ++ (section_text (codes "output") spec.output_words d.output
    ++ (section_text (codes "faults") spec.fault_words d.faults ++ (section_text (codes "answers") spec.answer_words d.answers
    ++ (section_text (codes "actors") (spec.actor_words p) d.actors ++ t)))))) (append-nil (tail_text d.pending d.packets d.ending))

replay_reads : (p : Program) (place : Place) → gather.Reads place.1 (replay_at p place) (IsFound p)
unfolding replay_at
replay_reads p place =
    head_reads place _ (IsFound p) (λ hash place1 good1.
    gather.section_reads (codes "trace") trace_one (step_line p) place1 _ _ (λ trace place2 good2.
    gather.section_reads (codes "output") output_one output_line place2 _ _ (λ output place3 good3.
    gather.section_reads (codes "faults") faults_one fault_line place3 _ _ (λ faults place4 good4.
    gather.section_reads (codes "answers") answers_one answer_line place4 _ _ (λ answers place5 good5.
    gather.section_reads (codes "actors") actors_one (actor_line p) place5 _ _ (λ actors place6 good6.
    tail_reads place6 _ _ (λ last place7 good7 good8.
    gather.end_reads place7 _ _ (
    let d : Document = record {
      hash = hash;
      trace = trace;
      output = output;
      faults = faults;
      answers = answers;
      actors = actors;
      pending = last.0;
      packets = last.1;
      ending = last.2;
    } in
    record {
      document = d;
      good = record { hash = good1; trace = good2; output = good3; faults = good4; answers = good5; actors = good6; pending = good7; packets = good8 };
      text = text_is p d;
      same = rw (map_same trace, map_same faults, map_same answers) refl;
    }
    ))))))))

-- ---- what is printed is read

head_again : (hash : List ℕ) (n : ℕ) (rest : List ℕ) → parts.IsHash hash → gather.IsRead (head_at (n, head_text hash ++ rest)) hash rest
unfolding head_at head_text
head_again hash n rest h =
    let a : List ℕ = line_text spec.heading_words in
    let b : List ℕ = line_text (spec.hash_words hash) in
    record {
      line = n + 1 + 1;
      is = ap (λ (t : List ℕ). line_at (field_of (codes "salsa-replay") (fixed_of (codes "1"))) (n, t) >>> λ heading. line_at (field_of (codes "program") hash_of) heading.1) (append_assoc a b rest)
          ∙ ap (λ r. r >>> λ heading. line_at (field_of (codes "program") hash_of) heading.1) (line_again heading_line tt n (b ++ rest) tt)
          ∙ line_again hash_line hash (n + 1) rest h;
    }

tail_again : (x : Tail) (n : ℕ) (rest : List ℕ) → parts.ArePending x.0 → parts.IsNumber x.1 → gather.IsRead (tail_at (n, tail_text x.0 x.1 x.2 ++ rest)) x rest
unfolding tail_at tail_text
tail_again x n rest h k =
    let a : List ℕ = line_text (spec.pending_words x.0) in
    let b : List ℕ = line_text (spec.packets_words x.1) in
    let c : List ℕ = line_text (spec.end_words x.2) in
    let same : (a ++ (b ++ c)) ++ rest ≡ a ++ (b ++ (c ++ rest)) = append_assoc a (b ++ c) rest ∙ ap (λ (t : List ℕ). a ++ t) (append_assoc b c rest) in
    record {
      line = n + 1 + 1 + 1;
      is = rw (same, line_again pending_line x.0 n (b ++ (c ++ rest)) h, line_again packets_line x.1 (n + 1) (c ++ rest) k, line_again end_line x.2 (n + 1 + 1) rest tt) refl;
    }

replay_again : (p : Program) (d : Document) → parts.IsDocument p d → (n : ℕ) → replay_at p (n, document_text p d) ≡ Ok (kept d)
unfolding replay_at
replay_again p d h n =
    let rest6 : List ℕ = tail_text d.pending d.packets d.ending ++ [] in
    let rest5 : List ℕ = section_text (codes "actors") (spec.actor_words p) d.actors ++ rest6 in
    let rest4 : List ℕ = section_text (codes "answers") spec.answer_words d.answers ++ rest5 in
    let rest3 : List ℕ = section_text (codes "faults") spec.fault_words d.faults ++ rest4 in
    let rest2 : List ℕ = section_text (codes "output") spec.output_words d.output ++ rest3 in
    let rest1 : List ℕ = section_text (codes "trace") (spec.step_words p) d.trace ++ rest2 in
    let a = head_again d.hash n rest1 h.hash in
    let b = gather.section_again (codes "trace") trace_one (step_line p) d.trace a.line rest2 h.trace in
    let c = gather.section_again (codes "output") output_one output_line d.output b.line rest3 h.output in
    let e = gather.section_again (codes "faults") faults_one fault_line d.faults c.line rest4 h.faults in
    let f = gather.section_again (codes "answers") answers_one answer_line d.answers e.line rest5 h.answers in
    let g = gather.section_again (codes "actors") actors_one (actor_line p) d.actors f.line rest6 h.actors in
    let i = tail_again (d.pending, d.packets, d.ending) g.line [] h.pending h.packets in
    rw (← text_is p d, a.is, b.is, c.is, e.is, f.is, g.is, i.is, map_same d.trace, map_same d.faults, map_same d.answers) refl

-- ---- lines that agree

agree_less : (p : Program) (n : ℕ) (wanted : List Wanted) (lines : List (List ℕ)) → Agree p (suc n) wanted lines → Agree p n wanted lines
agree_less p zero wanted lines h = tt
agree_less p (suc n) [] [] h = tt
agree_less p (suc n) [] (line ∷ lines) h = absurd h
agree_less p (suc n) (one form ∷ wanted) [] h = absurd h
agree_less p (suc n) (counted name form ∷ wanted) [] h = absurd h
agree_less p (suc n) (one form ∷ wanted) (line ∷ lines) h = (h.0, agree_less p n wanted lines h.1)
agree_less p (suc n) (counted name form ∷ wanted) (line ∷ lines) h = (h.0, h.1, h.2, agree_less p n (replicate h.0 (one form) ++ wanted) lines h.3)

agree_down : (p : Program) (k n : ℕ) (wanted : List Wanted) (lines : List (List ℕ)) → Agree p (k + n) wanted lines → Agree p n wanted lines
agree_down p zero n wanted lines h = subst (λ m. Agree p m wanted lines) (omega arith) h
agree_down p (suc k) n wanted lines h =
    let e : suc k + n ≡ suc (k + n) = omega arith in
    agree_down p k n wanted lines (agree_less p (k + n) wanted lines (subst (λ m. Agree p m wanted lines) e h))

-- no line below the first wrong one is wrong
not_below : (p : Program) (wanted : List Wanted) (lines : List (List ℕ)) (m n : ℕ) → (Agree p (suc m) wanted lines → ⊥) → Agree p n wanted lines → m < n → ⊥
not_below p wanted lines m n wrong right lt =
    let e : n ≡ (n - suc m) + suc m = omega arith in
    wrong (agree_down p (n - suc m) (suc m) wanted lines (subst (λ z. Agree p z wanted lines) e right))

first_same : (p : Program) (wanted : List Wanted) (lines : List (List ℕ)) (m n : ℕ) → Agree p m wanted lines → (Agree p (suc m) wanted lines → ⊥) → Agree p n wanted lines → (Agree p (suc n) wanted lines → ⊥) → m ≡ n
first_same p wanted lines m n rm wm rn wn =
    let a : m < n → ⊥ = not_below p wanted lines m n wm rn in
    let b : n < m → ⊥ = not_below p wanted lines n m wn rm in
    by_order (cases_lt m n) (cases_lt n m) a b
  where
    by_order : (m < n) ⊎ (n ≤ m) → (n < m) ⊎ (m ≤ n) → (m < n → ⊥) → (n < m → ⊥) → m ≡ n
    by_order (inl lt) other a b = absurd (a lt)
    by_order (inr le) (inl lt) a b = absurd (b lt)
    by_order (inr le) (inr ge) a b = omega arith

-- ---- what reading answers

is_long : (m n : ℕ) → nat_lt m n ≡ true → m < n
is_long m n e = grind (arith, nat_tests)

is_short : (m n : ℕ) → nat_lt m n ≡ false → n ≤ m
is_short m n e = grind (arith, nat_tests)

short_is : (m n : ℕ) → n ≤ m → nat_lt m n ≡ false
short_is m n le = grind (arith, nat_tests)

long_is : (m n : ℕ) → m < n → nat_lt m n ≡ true
long_is m n lt = grind (arith, nat_tests)

err_same : {X : Type 0} (r : Result X ℕ) (m n : ℕ) → r ≡ Err m → r ≡ Err n → m ≡ n
err_same r m n e f = cc

ok_found : (p : Program) (text : List ℕ) (r : Replay) → replay_of p text ≡ Ok r → (d : Document) × IsTextOf p text d × (r ≡ kept d)
unfolding replay_of
ok_found p text r e = at (nat_lt LONGEST_DOCUMENT (length text)) refl e
  where
    at : (t : Bool) → nat_lt LONGEST_DOCUMENT (length text) ≡ t → (if t then Err 1 else replay_at p (1, text)) ≡ Ok r → (d : Document) × IsTextOf p text d × (r ≡ kept d)
    at true et e = absurd cc
    at false et e =
        let is = (replay_reads p (1, text)).fact r e in
        (is.document, (is.good, is.text, is_short LONGEST_DOCUMENT (length text) et), is.same)

err_found : (p : Program) (text : List ℕ) (n : ℕ) → replay_of p text ≡ Err n → IsRefusedAt p text n
unfolding replay_of
err_found p text n e = at (nat_lt LONGEST_DOCUMENT (length text)) refl e
  where
    at : (t : Bool) → nat_lt LONGEST_DOCUMENT (length text) ≡ t → (if t then Err 1 else replay_at p (1, text)) ≡ Err n → IsRefusedAt p text n
    at true et e = inl (is_long LONGEST_DOCUMENT (length text) et, err_same {X = Replay} (Err 1) n 1 e refl)
    at false et e =
        let is = (replay_follows p (1, text)).refused n e in
        let number = is.1 in
        inr (is_short LONGEST_DOCUMENT (length text) et, (is.0, omega arith, is.2, is.3))

pub reads : (p : Program) (text : List ℕ) (result : Result Replay ReplayFault) → ReadsLines (λ x. x) result (replay_of p text) → Reads p text result
reads p text (Ok r) h = ok_found p text r h
reads p text (Err (fault.Refused n)) h = err_found p text n h
reads p text (Err fault.Memory) h = tt

ok_again : (p : Program) (text : List ℕ) (d : Document) → IsTextOf p text d → replay_of p text ≡ Ok (kept d)
unfolding replay_of
ok_again p text d h =
    ap (λ t. if t then Err 1 else replay_at p (1, text)) (short_is LONGEST_DOCUMENT (length text) h.2)
    ∙ ap (λ (t : List ℕ). replay_at p (1, t)) h.1 ∙ replay_again p d h.0 1

wrong_again : (p : Program) (text : List ℕ) (n : ℕ) → IsFirstWrong p (lines_of text) n → replay_at p (1, text) ≡ Err n
wrong_again p text n h = at (replay_at p (1, text)) refl
  where
    at : (r : Result Replay ℕ) → replay_at p (1, text) ≡ r → replay_at p (1, text) ≡ Err n
    at (Ok y) e = absurd (h.3 ((replay_follows p (1, text)).agree y e (suc h.0)))
    at (Err m) e =
        let is = (replay_follows p (1, text)).refused m e in
        let number = is.1 in
        let wanted = h.1 in
        let same = first_same p whole (lines_of text) is.0 h.0 is.2 is.3 h.2 h.3 in
        let all : m ≡ n = omega arith in
        e ∙ ap Err all

err_again : (p : Program) (text : List ℕ) (n : ℕ) → IsRefusedAt p text n → replay_of p text ≡ Err n
unfolding replay_of
err_again p text n (inl h) = ap (λ t. if t then Err 1 else replay_at p (1, text)) (long_is LONGEST_DOCUMENT (length text) h.0) ∙ ap Err (sym h.1)
err_again p text n (inr h) = ap (λ t. if t then Err 1 else replay_at p (1, text)) (short_is LONGEST_DOCUMENT (length text) h.0) ∙ wrong_again p text n h.1

pub exactly : (p : Program) (text : List ℕ) (result : Result Replay ReplayFault) → Reads p text result → ReadsLines (λ x. x) result (replay_of p text)
exactly p text (Ok r) h = ok_again p text h.0 h.1 ∙ ap Ok (sym h.2)
exactly p text (Err (fault.Refused n)) h = err_again p text n h
exactly p text (Err fault.Memory) h = tt

-- ---- the laws

ok_same : {X : Type 0} (r : Result X ℕ) (x y : X) → r ≡ Ok x → r ≡ Ok y → x ≡ y
ok_same r x y e f = cc

one_way : (r : Result Replay ℕ) (first second : Result Replay ReplayFault) → ReadsLines (λ x. x) first r → ReadsLines (λ x. x) second r
    → (first ≡ second) ⊎ ((first ≡ Err fault.Memory) ⊎ (second ≡ Err fault.Memory))
one_way r (Ok x) (Ok y) e f = inl (ap Ok (ok_same r x y e f))
one_way r (Ok x) (Err (fault.Refused n)) e f = absurd cc
one_way r (Ok x) (Err fault.Memory) e f = inr (inr refl)
one_way r (Err fault.Memory) second e f = inr (inl refl)
one_way r (Err (fault.Refused m)) (Ok y) e f = absurd cc
one_way r (Err (fault.Refused m)) (Err (fault.Refused n)) e f = inl (ap (λ k. Err (fault.Refused k)) (err_same r m n e f))
one_way r (Err (fault.Refused m)) (Err fault.Memory) e f = inr (inr refl)

pub texts_are_read_one_way : TextsAreReadOneWay
texts_are_read_one_way p text first second h k = one_way (replay_of p text) first second (exactly p text first h) (exactly p text second k)

printed : (r : Result Replay ℕ) (x : Replay) (result : Result Replay ReplayFault) → r ≡ Ok x → ReadsLines (λ y. y) result r → (result ≡ Ok x) ⊎ (result ≡ Err fault.Memory)
printed r x (Ok y) e f = inl (ap Ok (ok_same r y x f e))
printed r x (Err (fault.Refused n)) e f = absurd cc
printed r x (Err fault.Memory) e f = inr refl

pub printed_documents_are_read : PrintedDocumentsAreRead
printed_documents_are_read p text d result h k = printed (replay_of p text) (kept d) result (ok_again p text d h) (exactly p text result k)
