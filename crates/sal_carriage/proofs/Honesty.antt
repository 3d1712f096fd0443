-- What links send was offered, and stays so.
use Rattle.std.proofs.Common.{◌≡◌, ◌⊎◌, inl, inr, ℕ, zero, suc, ◌+◌, ◌-◌, ◌≤◌, ◌<◌, Bool, true, false, ◌&&◌, not, List, [], ◌∷◌, ◌++◌, map, length, take, drop, Option, Some, None, refl, sym, ap, ◌∙◌, arith, length-drop, true≢false}
use Rattle.std.specs.Prelude.{nat_lt, if◌then◌else◌, slice_get}
use Rattle.std.proofs.lemmas.Bool.{cases_lt}
use Rattle.std.proofs.lemmas.List.{drop-drop, drop-map, drop-append-le, map-append, length-map, take-append-drop}
use Rattle.sal_carriage.specs.Frames.{Frame, frame_of}
use Rattle.sal_carriage.specs.declared.fragment.Fragment.{Fragment}
use Rattle.sal_carriage.specs.Link.{Link, new_link, window, fragments, offer, is_due, data_frame, acknowledgement, due_data, or_acknowledgement, due, mark, push, acknowledge, is_for, is_too_much, take_frame, take_bytes}
use Rattle.sal_carriage.specs.Transit.{IsInStep, CarriesOffered, IsHonest}
use Rattle.sal_carriage.specs.Laws.{load_of, HasOffered, WasSent, WereSent, NetworksStayHonest}
use Rattle.sal_carriage.proofs.Taking.{Acknowledges, acknowledges, wanted_by, data_by, good_by, frame_by}
use Rattle.sal_carriage.proofs.Due.{some_apart, some_same}

abbrev Load : Type 0
Load = List ℕ × Bool

-- ---- lists

get_append : {A : Type 0} (xs ys : List A) (n : ℕ) (x : A) → slice_get xs n ≡ Some x → slice_get (xs ++ ys) n ≡ Some x
get_append [] ys n x e = some_apart e
get_append (z ∷ xs) ys zero x e = e
get_append (z ∷ xs) ys (suc n) x e = get_append xs ys n x e

get_drop : {A : Type 0} (xs : List A) (a k : ℕ) → slice_get (drop a xs) k ≡ slice_get xs (a + k)
get_drop xs zero k = ap (slice_get xs) (omega arith)
get_drop {A} [] (suc a) k = none k (suc a + k)
  where
    none : (i j : ℕ) → slice_get {X = A} [] i ≡ slice_get {X = A} [] j
    none i j = refl
get_drop (x ∷ xs) (suc a) k = get_drop xs a k ∙ ap (slice_get (x ∷ xs)) (more a k)
  where
    more : (b c : ℕ) → suc (b + c) ≡ suc b + c
    more b c = omega arith

get_map : {A B : Type 0} (f : A → B) (xs : List A) (k : ℕ) (y : B) → slice_get (map f xs) k ≡ Some y → (x : A) × (slice_get xs k ≡ Some x) × (f x ≡ y)
get_map f [] k y e = some_apart e
get_map f (x ∷ xs) zero y e = (x, refl, some_same e)
get_map f (x ∷ xs) (suc k) y e = get_map f xs k y e

first_at : {A : Type 0} (xs : List A) (n : ℕ) (x : A) (ys : List A) → drop n xs ≡ x ∷ ys → slice_get xs n ≡ Some x
first_at xs n x ys e = ap (slice_get xs) (plus n) ∙ sym (get_drop xs n 0) ∙ ap (λ zs. slice_get zs 0) e
  where
    plus : (m : ℕ) → m ≡ m + 0
    plus m = omega arith

rest_at : {A : Type 0} (xs : List A) (n : ℕ) (x : A) (ys : List A) → drop n xs ≡ x ∷ ys → drop (n + 1) xs ≡ ys
rest_at xs n x ys e = sym (drop-drop 1 n xs) ∙ ap (drop 1) e

-- ---- offering

offers : (all : List Load) (s : Link) (envelope : List ℕ) → HasOffered all s → HasOffered (all ++ map load_of (fragments envelope)) (offer envelope s)
unfolding offer
offers all s envelope h =
    let more : List Load = map load_of (fragments envelope) in
    record {
      rest = map-append load_of s.unacknowledged (fragments envelope) ∙ ap (λ zs. zs ++ more) h.rest ∙ sym (drop-append-le s.acknowledged all more h.known);
      known = (let k = h.known in longer s.acknowledged all more k);
    }
  where
    longer : (n : ℕ) (xs ys : List Load) → n ≤ length xs → n ≤ length (xs ++ ys)
    longer n [] ys k = omega arith
    longer zero (x ∷ xs) ys k = omega arith
    longer (suc n) (x ∷ xs) ys k = let m = longer n xs ys (omega arith) in omega arith

-- ---- pushing

sent_same : (now : ℕ) (f : Fragment) → load_of (mark now f) ≡ load_of f
sent_same now f = at (is_due now f)
  where
    at : (b : Bool) → load_of (if b then record f { sent = Some now } else f) ≡ load_of f
    at true = refl
    at false = refl

pub all_same : (now : ℕ) (fs : List Fragment) → map load_of (map (mark now) fs) ≡ map load_of fs
all_same now [] = refl
all_same now (f ∷ fs) = λ i. sent_same now f i ∷ all_same now fs i

pushes_keep : (all : List Load) (s : Link) (now : ℕ) → HasOffered all s → HasOffered all (push now s)
unfolding push
pushes_keep all s now h = record {
  rest = map-append load_of (map (mark now) (take window s.unacknowledged)) (drop window s.unacknowledged)
      ∙ ap (λ zs. zs ++ map load_of (drop window s.unacknowledged)) (all_same now (take window s.unacknowledged))
      ∙ sym (map-append load_of (take window s.unacknowledged) (drop window s.unacknowledged))
      ∙ ap (map load_of) (take-append-drop window s.unacknowledged) ∙ h.rest;
  known = h.known;
}

data_sent : (all : List Load) (s : Link) (f : Fragment) (n : ℕ) → slice_get all n ≡ Some (load_of f) → WasSent all s (data_frame s n f)
data_sent all s f n e = record { wanted = omega arith; carries = λ is. e }

due_sent : (all : List Load) (s : Link) (now n : ℕ) (fs : List Fragment) (rest : List Load) → drop n all ≡ map load_of fs ++ rest → WereSent all s (due_data now s n fs)
unfolding due_data
due_sent all s now n [] rest e = tt
due_sent all s now n (f ∷ fs) rest e =
    at (is_due now f) (due_sent all s now (n + 1) fs rest (rest_at all n (load_of f) (map load_of fs ++ rest) e))
  where
    at : (b : Bool) → WereSent all s (due_data now s (n + 1) fs)
        → WereSent all s ((if b then data_frame s n f ∷ [] else []) ++ due_data now s (n + 1) fs)
    at true others = (data_sent all s f n (first_at all n (load_of f) (map load_of fs ++ rest) e), others)
    at false others = others

acknowledgement_sent : (all : List Load) (s : Link) → WasSent all s (acknowledgement s)
acknowledgement_sent all s = record { wanted = omega arith; carries = λ is. absurd (true≢false (sym is)) }

or_sent : (all : List Load) (s : Link) (fs : List Frame) → WereSent all s fs → WereSent all s (or_acknowledgement s fs)
or_sent all s [] h = at s.owes
  where
    at : (b : Bool) → WereSent all s (if b then acknowledgement s ∷ [] else [])
    at true = (acknowledgement_sent all s, tt)
    at false = tt
or_sent all s (f ∷ fs) h = h

pub data_send : (all : List Load) (s : Link) (now : ℕ) → HasOffered all s → WereSent all s (due_data now s s.acknowledged (take window s.unacknowledged))
data_send all s now h =
    due_sent all s now s.acknowledged (take window s.unacknowledged) (map load_of (drop window s.unacknowledged))
    (sym h.rest ∙ ap (map load_of) (sym (take-append-drop window s.unacknowledged)) ∙ map-append load_of (take window s.unacknowledged) (drop window s.unacknowledged))

pushes_send : (all : List Load) (s : Link) (now : ℕ) → HasOffered all s → WereSent all s (due now s)
unfolding due
pushes_send all s now h = or_sent all s (due_data now s s.acknowledged (take window s.unacknowledged)) (data_send all s now h)

-- ---- taking

-- acknowledged fragments go, and the wanted number only rises
pub record Advances (old new : Link) : Type 0 where
  pub count : ℕ
  pub known : count ≤ length old.unacknowledged
  pub acknowledged : new.acknowledged ≡ old.acknowledged + count
  pub unacknowledged : new.unacknowledged ≡ drop count old.unacknowledged
  pub wanted : old.wanted ≤ new.wanted

told_more : (w : ℕ) (l k : Link) → Acknowledges w l k → Advances l k
told_more w l k a = record {
  count = a.count;
  known = a.known;
  acknowledged = ap (λ (x : Link). x.acknowledged) a.link;
  unacknowledged = ap (λ (x : Link). x.unacknowledged) a.link;
  wanted = (let e : k.wanted ≡ l.wanted = ap (λ (x : Link). x.wanted) a.link in omega (arith, e));
}

still : (l : Link) → Advances l l
still l = record { count = 0; known = omega arith; acknowledged = omega arith; unacknowledged = refl; wanted = omega arith }

wanted_on : (b : Bool) (f : Frame) (l k : Link) → Advances l k → Advances l (wanted_by b f k).1
wanted_on true f l k a = record { count = a.count; known = a.known; acknowledged = a.acknowledged; unacknowledged = a.unacknowledged; wanted = (let w = a.wanted in omega arith) }
wanted_on false f l k a = record { count = a.count; known = a.known; acknowledged = a.acknowledged; unacknowledged = a.unacknowledged; wanted = (let w = a.wanted in omega arith) }

data_on : (b c : Bool) (f : Frame) (l k : Link) → Advances l k → Advances l (data_by b c f k).1
data_on true c f l k a = record { count = a.count; known = a.known; acknowledged = a.acknowledged; unacknowledged = a.unacknowledged; wanted = a.wanted }
data_on false true f l k a = record { count = a.count; known = a.known; acknowledged = a.acknowledged; unacknowledged = a.unacknowledged; wanted = a.wanted }
data_on false false f l k a = wanted_on f.last f l k a

good_on : (b : Bool) (f : Frame) (l : Link) → Advances l (good_by b f l).1
good_on true f l =
    data_on (nat_lt f.number (acknowledge f.wanted l).wanted) (nat_lt (acknowledge f.wanted l).wanted f.number) f l (acknowledge f.wanted l)
    (told_more f.wanted l (acknowledge f.wanted l) (acknowledges f.wanted l))
good_on false f l = told_more f.wanted l (acknowledge f.wanted l) (acknowledges f.wanted l)

frame_on : (b : Bool) (f : Frame) (l : Link) → Advances l (frame_by b f l).1
frame_on true f l = good_on f.is_data f l
frame_on false f l = still l

pub advances : (o : Option Frame) (l : Link) → Advances l (take_frame o l).1
advances None l = still l
advances (Some f) l = frame_on (is_for f l && not (is_too_much f l)) f l

takes_keep : (all : List Load) (s t : Link) → Advances s t → HasOffered all s → HasOffered all t
takes_keep all s t a h =
    let long : length s.unacknowledged ≡ length all - s.acknowledged = sym (length-map s.unacknowledged load_of) ∙ ap length h.rest ∙ length-drop s.acknowledged all in
    let few = a.known in
    let known = h.known in
    record {
      rest = ap (map load_of) a.unacknowledged ∙ sym (drop-map load_of a.count s.unacknowledged) ∙ ap (drop a.count) h.rest
          ∙ drop-drop a.count s.acknowledged all ∙ ap (λ n. drop n all) (sym a.acknowledged);
      known = (let e = a.acknowledged in omega (arith, e, long, few, known));
    }

takes : (all : List Load) (s : Link) (bytes : List ℕ) → HasOffered all s → HasOffered all (take_bytes bytes s).1 × (s.wanted ≤ (take_bytes bytes s).1.wanted)
unfolding take_bytes
takes all s bytes h = let a = advances (frame_of bytes) s in (takes_keep all s (take_frame (frame_of bytes) s).1 a h, a.wanted)

-- ---- honesty

later : (all more : List Load) (s t : Link) (f : Frame) → s.wanted ≤ t.wanted → WasSent all s f → WasSent (all ++ more) t f
later all more s t f up h = record {
  wanted = (let w = h.wanted in omega arith);
  carries = λ is. get_append all more f.number (f.payload, f.last) (h.carries is);
}

carries_offered : (all : List Load) (s : Link) (f : Frame) → HasOffered all s → s.acknowledged ≤ f.number → slice_get all f.number ≡ Some (f.payload, f.last) → CarriesOffered s f
carries_offered all s f h low e =
    let there : s.acknowledged + (f.number - s.acknowledged) ≡ f.number = omega arith in
    let got = get_map load_of s.unacknowledged (f.number - s.acknowledged) (f.payload, f.last)
    (ap (λ zs. slice_get zs (f.number - s.acknowledged)) h.rest ∙ get_drop all s.acknowledged (f.number - s.acknowledged) ∙ ap (slice_get all) there ∙ e) in
    (got.0, got.1, ap (λ (x : Load). x.0) got.2, ap (λ (x : Load). x.1) got.2)

honest : (all : List Load) (s r : Link) (f : Frame) → HasOffered all s → IsInStep s r → WasSent all s f → IsHonest s r f
honest all s r f h step sent = record {
  wanted = sent.wanted;
  carries = λ is. at is (cases_lt f.number r.wanted);
}
  where
    at : f.is_data ≡ true → (f.number < r.wanted) ⊎ (r.wanted ≤ f.number) → (f.number < r.wanted) ⊎ ((s.acknowledged ≤ f.number) × CarriesOffered s f)
    at is (inl less) = inl less
    at is (inr more) = let low = step.taken in let above : s.acknowledged ≤ f.number = omega arith in inr (above, carries_offered all s f h above (sent.carries is))

new : (program : List ℕ) (me peer : ℕ) → HasOffered [] (new_link program me peer)
new program me peer = record { rest = refl; known = omega arith }

pub stay_honest : NetworksStayHonest
stay_honest = record {
  new = new;
  offers = offers;
  pushes = λ all s now h. (pushes_keep all s now h, pushes_send all s now h);
  takes = takes;
  later = later;
  honest = honest;
}
