-- What taking does to a link, step by step.
use Rattle.std.proofs.Common.{◌≡◌, ℕ, ◌+◌, ◌-◌, ◌<◌, Bool, true, false, List, [], ◌++◌, drop, Option, Some, None, refl, sym, ap, ◌∙◌, arith}
use Rattle.std.specs.Prelude.{nat_lt, if◌then◌else◌, not, Result, Ok, Err, OnErr}
use Rattle.std.proofs.lemmas.Bool.{and_parts}
use Rattle.std.proofs.lemmas.Bool.Decides.{nat_tests}
use Rattle.sal_carriage.specs.declared.fragment.Fragment.{Fragment}
use Rattle.sal_carriage.specs.declared.datagram.Taken.{Taken}
use Rattle.sal_carriage.specs.declared.datagram.Taken.TheVariants as taken
use Rattle.sal_carriage.specs.Frames.{Frame, frame_of}
use Rattle.sal_carriage.specs.Link.{Link, number_limit, tells_more, acknowledge, is_for, is_too_much, accepts, take_wanted, take_data, take_accepted, take_frame, take_bytes, is_taken}

abbrev told : ℕ → Link → Link
told wanted l = record l { acknowledged = wanted; unacknowledged = drop (wanted - l.acknowledged) l.unacknowledged }

pub nothing_more : (wanted : ℕ) (l : Link) → tells_more wanted l ≡ false → l ≡ acknowledge wanted l
unfolding acknowledge
nothing_more wanted l e = ap (λ b. if b then told wanted l else l) (sym e)

pub something_more : (wanted : ℕ) (l : Link) (us : List Fragment) → tells_more wanted l ≡ true → us ≡ drop (wanted - l.acknowledged) l.unacknowledged
    → record l { acknowledged = wanted; unacknowledged = us } ≡ acknowledge wanted l
unfolding acknowledge
something_more wanted l us e u =
    (λ i. record l { acknowledged = wanted; unacknowledged = u i })
    ∙ ap (λ b. if b then told wanted l else l) (sym e)

-- ---- an acknowledgement changes nothing else

pub same_wanted : (w : ℕ) (l : Link) → (acknowledge w l).wanted ≡ l.wanted
unfolding acknowledge
same_wanted w l = at (tells_more w l)
  where
    at : (b : Bool) → (if b then told w l else l).wanted ≡ l.wanted
    at true = refl
    at false = refl

pub same_part : (w : ℕ) (l : Link) → (acknowledge w l).part ≡ l.part
unfolding acknowledge
same_part w l = at (tells_more w l)
  where
    at : (b : Bool) → (if b then told w l else l).part ≡ l.part
    at true = refl
    at false = refl

with_part : (w : ℕ) (l : Link) (p : List ℕ) → acknowledge w (record l { part = p }) ≡ record (acknowledge w l) { part = p }
unfolding acknowledge
with_part w l p = at (tells_more w l)
  where
    at : (b : Bool) → (if b then told w (record l { part = p }) else record l { part = p }) ≡ record (if b then told w l else l) { part = p }
    at true = refl
    at false = refl

-- ---- the wanted fragment

-- the link once it has the bytes and knows what the frame acknowledges
abbrev pub with_payload : Frame → Link → List ℕ → Link
with_payload f l p = record (acknowledge f.wanted (record l { part = p })) { owes = true }

payload_is : (f : Frame) (l m : Link) (p : List ℕ) → m ≡ with_payload f l p → m ≡ record (acknowledge f.wanted l) { part = p; owes = true }
payload_is f l m p e = e ∙ ap (λ (k : Link). record k { owes = true }) (with_part f.wanted l p)

pub payload_wanted : (f : Frame) (l m : Link) (p : List ℕ) → m ≡ with_payload f l p → m.wanted ≡ l.wanted
payload_wanted f l m p e = ap (λ (k : Link). k.wanted) (payload_is f l m p e) ∙ same_wanted f.wanted l

pub takes_part : (f : Frame) (l m : Link) (p : List ℕ) → p ≡ l.part ++ f.payload → m ≡ with_payload f l p → f.last ≡ false
    → (taken.Part, record m { wanted = m.wanted + 1 }) ≡ take_wanted f (acknowledge f.wanted l)
takes_part f l m p e is last =
    let k : Link = acknowledge f.wanted l in
    let full : p ≡ k.part ++ f.payload = e ∙ ap (λ (z : List ℕ). z ++ f.payload) (sym (same_part f.wanted l)) in
    ap (λ (x : Link). (taken.Part, record x { wanted = x.wanted + 1 })) (payload_is f l m p is)
    ∙ (λ i. (taken.Part, record k { wanted = k.wanted + 1; part = full i; owes = true }))
    ∙ ap (λ b. if b then (taken.Envelope (k.part ++ f.payload), record k { wanted = k.wanted + 1; part = []; owes = true }) else (taken.Part, record k { wanted = k.wanted + 1; part = k.part ++ f.payload; owes = true })) (sym last)

pub takes_whole : (f : Frame) (l m : Link) (p bytes rest : List ℕ) → p ≡ l.part ++ f.payload → m ≡ with_payload f l p → f.last ≡ true → bytes ≡ m.part → rest ≡ []
    → (taken.Envelope bytes, record m { wanted = m.wanted + 1; part = rest }) ≡ take_wanted f (acknowledge f.wanted l)
takes_whole f l m p bytes rest e is last b r =
    let k : Link = acknowledge f.wanted l in
    let same = payload_is f l m p is in
    let full : bytes ≡ k.part ++ f.payload = b ∙ ap (λ (x : Link). x.part) same ∙ e ∙ ap (λ (z : List ℕ). z ++ f.payload) (sym (same_part f.wanted l)) in
    (λ i. (taken.Envelope (full i), record (same i) { wanted = (same i).wanted + 1; part = r i }))
    ∙ ap (λ b. if b then (taken.Envelope (k.part ++ f.payload), record k { wanted = k.wanted + 1; part = []; owes = true }) else (taken.Part, record k { wanted = k.wanted + 1; part = k.part ++ f.payload; owes = true })) (sym last)

-- ---- what is accepted

abbrev data_by : Bool → Bool → Frame → Link → Taken × Link
data_by b c f k = if b then (taken.Old, record k { owes = true }) else if c then (taken.Ahead, record k { owes = true }) else take_wanted f k

is_data : (f : Frame) (l : Link) (b c : Bool) → f.is_data ≡ true → nat_lt f.number l.wanted ≡ b → nat_lt l.wanted f.number ≡ c → data_by b c f (acknowledge f.wanted l) ≡ take_accepted f l
is_data f l b c is d e =
    let k : Link = acknowledge f.wanted l in
    let same : l.wanted ≡ k.wanted = sym (same_wanted f.wanted l) in
    (λ i. data_by (sym d i) (sym e i) f k)
    ∙ ap (λ w. data_by (nat_lt f.number w) (nat_lt w f.number) f k) same
    ∙ ap (λ x. if x then take_data f k else (taken.Acknowledged, k)) (sym is)

pub takes_old : (f : Frame) (l m : Link) → f.is_data ≡ true → f.number < l.wanted → m ≡ record (acknowledge f.wanted l) { owes = true } → (taken.Old, m) ≡ take_accepted f l
takes_old f l m is lt e =
    let b : nat_lt f.number l.wanted ≡ true = grind (arith, nat_tests) in
    ap (λ (k : Link). (taken.Old, k)) e ∙ is_data f l true (nat_lt l.wanted f.number) is b refl

pub takes_ahead : (f : Frame) (l m : Link) → f.is_data ≡ true → l.wanted < f.number → m ≡ record (acknowledge f.wanted l) { owes = true } → (taken.Ahead, m) ≡ take_accepted f l
takes_ahead f l m is lt e =
    let b : nat_lt f.number l.wanted ≡ false = grind (arith, nat_tests) in
    let c : nat_lt l.wanted f.number ≡ true = grind (arith, nat_tests) in
    ap (λ (k : Link). (taken.Ahead, k)) e ∙ is_data f l false true is b c

pub takes_wanted : (f : Frame) (l : Link) → f.is_data ≡ true → f.number ≡ l.wanted → take_wanted f (acknowledge f.wanted l) ≡ take_accepted f l
takes_wanted f l is same =
    let b : nat_lt f.number l.wanted ≡ false = grind (arith, nat_tests) in
    let c : nat_lt l.wanted f.number ≡ false = grind (arith, nat_tests) in
    is_data f l false false is b c

pub wanted_low : (f : Frame) (l : Link) → is_too_much f l ≡ false → f.is_data ≡ true → f.number ≡ l.wanted → l.wanted < number_limit
wanted_low f l few is same = grind (arith, nat_tests)

-- ---- bytes

pub no_frame_taken : (bytes : List ℕ) (l : Link) → None ≡ frame_of bytes → (taken.Noise, l) ≡ take_bytes bytes l
unfolding take_bytes
no_frame_taken bytes l e = ap (λ (o : Option Frame). take_frame o l) e

pub not_accepted : (bytes : List ℕ) (f : Frame) (l : Link) → Some f ≡ frame_of bytes → accepts f l ≡ false → (taken.Noise, l) ≡ take_bytes bytes l
unfolding take_bytes
not_accepted bytes f l is no' =
    ap (λ b. if b then take_accepted f l else (taken.Noise, l)) (sym no')
    ∙ ap (λ (o : Option Frame). take_frame o l) is

pub bytes_accepted : (bytes : List ℕ) (f : Frame) (l : Link) → Some f ≡ frame_of bytes → accepts f l ≡ true → take_accepted f l ≡ take_bytes bytes l
unfolding take_bytes
bytes_accepted bytes f l is yes' =
    ap (λ b. if b then take_accepted f l else (taken.Noise, l)) (sym yes')
    ∙ ap (λ (o : Option Frame). take_frame o l) is

pub not_too_much : (f : Frame) (l : Link) → accepts f l ≡ true → is_too_much f l ≡ false
not_too_much f l yes' = at (is_too_much f l) (and_parts (is_for f l) (not (is_too_much f l)) yes').1
  where
    at : (b : Bool) → not b ≡ true → b ≡ false
    at true e = absurd cc
    at false e = refl

abbrev wanted_by : Bool → Frame → Link → Taken × Link
wanted_by b f k =
    if b then (taken.Envelope (k.part ++ f.payload), record k { wanted = k.wanted + 1; part = []; owes = true })
    else (taken.Part, record k { wanted = k.wanted + 1; part = k.part ++ f.payload; owes = true })

always_taken : (b : Bool) (f : Frame) (k : Link) → is_taken (wanted_by b f k).0 ≡ true
always_taken true f k = refl
always_taken false f k = refl

both_err : {A E : Type 0} (P Q : Type 0) (r : Result A E) → OnErr r P → Q → OnErr r (P × Q)
both_err P Q (Ok x) p q = tt
both_err P Q (Err e) p q = (p, q)

pub wanted_fails : {A E : Type 0} (P : Type 0) (r : Result A E) (f : Frame) (l : Link) → f.is_data ≡ true → f.number ≡ l.wanted → OnErr r P → OnErr r (P × (is_taken (take_accepted f l).0 ≡ true))
wanted_fails P r f l is same p =
    both_err P (is_taken (take_accepted f l).0 ≡ true) r p
    (ap (λ (x : Taken × Link). is_taken x.0) (sym (takes_wanted f l is same)) ∙ always_taken f.last f (acknowledge f.wanted l))
