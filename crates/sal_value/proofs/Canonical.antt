-- Canonical texts and their names.
use Rattle.std.proofs.Common.{◌≡◌, ℕ, ◌+◌, Bool, true, false, ◌&&◌, Option, Some, None, List, [], ◌∷◌, ◌++◌, length, take, drop, Ok, Err, refl, sym, ap, subst, ◌∙◌, append_assoc, arith}
use Rattle.std.specs.Prelude.{IsTrue, ◌↔◌, not, if◌then◌else◌}
use Rattle.std.specs.Fmt.{decimal}
use Rattle.std.specs.List.{list_all, position_or_len, before_first, after_first}
use Rattle.std.specs.Str.{bytes_eq}
use Rattle.std.specs.Str.Parse.{digits_value}
use Rattle.std.proofs.lemmas.Bool.Decides.{nat_tests}
use Rattle.std.proofs.lemmas.Fmt.{decimal_is_IsNumeral}
use Rattle.std.proofs.lemmas.List.{take_at, drop_at, length-append}
use Rattle.std.proofs.lemmas.Slice.Eq.{bytes_eq-Decides}
use Rattle.sal_value.specs.declared.name.Uan.{Uan}
use Rattle.sal_value.specs.declared.name.NameFault.{NameFault}
use Rattle.sal_value.specs.declared.name.NameFault.TheVariants as fault
use Rattle.sal_value.specs.Names.{lower_case, uan_text, is_host_byte, is_host, is_port, is_uan_path, NonePass, is_colon, is_slash, ReadsUan, is_uan}
use Rattle.sal_value.specs.Decoding.{cut_uan, canonical_uan}
use Rattle.sal_value.proofs.Bytes.{both, host_parts}
use Rattle.sal_value.proofs.Readings.{host_stays, digits_inside, port_range, names_are_read}

-- ---- cutting at the first byte that passes a test

place_of : (test : ℕ → Bool) (h : List ℕ) (b : ℕ) (rest : List ℕ) → NonePass test h → test b ≡ true → position_or_len test (h ++ b ∷ rest) ≡ length h
place_of test [] b rest none passes = ap (λ t. if not t then 1 + position_or_len test rest else 0) passes
place_of test (x ∷ h) b rest none passes =
    let more = place_of test h b rest none.1 passes in
    ap (λ t. if not t then 1 + position_or_len test (h ++ b ∷ rest) else 0) none.0 ∙ ap (λ n. 1 + n) more ∙ omega arith

before_at : (test : ℕ → Bool) (h : List ℕ) (b : ℕ) (rest : List ℕ) → NonePass test h → test b ≡ true → before_first test (h ++ b ∷ rest) ≡ h
before_at test h b rest none passes = ap (λ n. take n (h ++ b ∷ rest)) (place_of test h b rest none passes) ∙ take_at h (b ∷ rest) (length h) refl

after_at : (test : ℕ → Bool) (h : List ℕ) (b : ℕ) (rest : List ℕ) → NonePass test h → test b ≡ true → after_first test (h ++ b ∷ rest) ≡ rest
after_at test h b rest none passes =
    let front : length (h ++ b ∷ []) ≡ length h + 1 = length-append h (b ∷ []) in
    ap (λ n. drop (n + 1) (h ++ b ∷ rest)) (place_of test h b rest none passes)
    ∙ ap (drop (length h + 1)) (sym (append_assoc h (b ∷ []) rest))
    ∙ drop_at (h ++ b ∷ []) rest (length h + 1) front

-- ---- a good name is cut out of its text

no_colon : (b : ℕ) → is_host_byte b ≡ true → is_colon b ≡ false
no_colon b h = grind (arith, nat_tests)

host_no_colon : (host : List ℕ) → list_all is_host_byte host ≡ true → NonePass is_colon host
host_no_colon [] h = tt
host_no_colon (b ∷ host) h =
    let parts = both (is_host_byte b) (list_all is_host_byte host) h in
    (no_colon b parts.0, host_no_colon host parts.1)

-- the parts of a canonical text after the scheme
address_is : (u : Uan) → is_host u.host ≡ true → drop 6 (uan_text u) ≡ u.host ++ 58 ∷ (decimal u.port ++ 47 ∷ u.path)
unfolding uan_text
address_is u h =
    append_assoc (lower_case u.host) (58 ∷ decimal u.port) (47 ∷ u.path)
    ∙ ap (λ (z : List ℕ). z ++ 58 ∷ (decimal u.port ++ 47 ∷ u.path)) (host_stays u.host (host_parts u.host h).2)

cut_again : (u : Uan) → is_uan u ≡ true → cut_uan (uan_text u) ≡ u
unfolding is_uan
cut_again u h =
    let a = both (is_host u.host) (is_port u.port && is_uan_path (47 ∷ u.path)) h in
    let b = both (is_port u.port) (is_uan_path (47 ∷ u.path)) a.1 in
    let range = port_range u.port b.0 in
    let numeral = decimal_is_IsNumeral u.port (omega (arith, range.1)) in
    let behind : List ℕ = decimal u.port ++ 47 ∷ u.path in
    let address = address_is u a.0 in
    let free = host_no_colon u.host (host_parts u.host a.0).2 in
    let host : before_first is_colon (drop 6 (uan_text u)) ≡ u.host = ap (before_first is_colon) address ∙ before_at is_colon u.host 58 behind free refl in
    let rest : after_first is_colon (drop 6 (uan_text u)) ≡ behind = ap (after_first is_colon) address ∙ after_at is_colon u.host 58 behind free refl in
    let digits : before_first is_slash (after_first is_colon (drop 6 (uan_text u))) ≡ decimal u.port = ap (before_first is_slash) rest ∙ before_at is_slash (decimal u.port) 47 u.path (digits_inside (decimal u.port) numeral.0.1) refl in
    let port : digits_value 10 (before_first is_slash (after_first is_colon (drop 6 (uan_text u)))) ≡ u.port = ap (digits_value 10) digits ∙ numeral.1 in
    let path : after_first is_slash (after_first is_colon (drop 6 (uan_text u))) ≡ u.path = ap (after_first is_slash) rest ∙ after_at is_slash (decimal u.port) 47 u.path (digits_inside (decimal u.port) numeral.0.1) refl in
    λ i. record { host = host i; port = port i; path = path i }

-- what is chosen only where a test passes
pub some_if : {A : Type 0} (b : Bool) (x y : A) → (if b then Some x else None) ≡ Some y → (b ≡ true) × (x ≡ y)
some_if true x y e = (refl, cc)
some_if false x y e = absurd cc

-- the name of a text is good, and has this text
pub uan_of_is : (text : List ℕ) (u : Uan) → canonical_uan text ≡ Some u → (is_uan u ≡ true) × (uan_text u ≡ text)
unfolding canonical_uan
uan_of_is text u e =
    let a = some_if (is_uan (cut_uan text) && bytes_eq (uan_text (cut_uan text)) text) (cut_uan text) u e in
    let b = both (is_uan (cut_uan text)) (bytes_eq (uan_text (cut_uan text)) text) a.0 in
    let same : uan_text (cut_uan text) ≡ text = (bytes_eq-Decides (uan_text (cut_uan text)) text).0 b.1 in
    subst (λ z. (is_uan z ≡ true) × (uan_text z ≡ text)) a.1 (b.0, same)

-- a good name is the name of its text
pub uan_of_text : (u : Uan) → is_uan u ≡ true → canonical_uan (uan_text u) ≡ Some u
unfolding canonical_uan
uan_of_text u h =
    let cut = cut_again u h in
    let good : is_uan (cut_uan (uan_text u)) ≡ true = ap is_uan cut ∙ h in
    let same : bytes_eq (uan_text (cut_uan (uan_text u))) (uan_text u) ≡ true = (bytes_eq-Decides (uan_text (cut_uan (uan_text u))) (uan_text u)).1 (ap uan_text cut) in
    ap (λ b. if b && bytes_eq (uan_text (cut_uan (uan_text u))) (uan_text u) then Some (cut_uan (uan_text u)) else None) good
    ∙ ap (λ b. if b then Some (cut_uan (uan_text u)) else None) same
    ∙ ap Some cut

-- ---- what reading says of the name of a text

pub canonical_text : (text : List ℕ) (u : Uan) → ReadsUan text (Ok u) → uan_text u ≡ text → Some u ≡ canonical_uan text
canonical_text text u reads same = sym (uan_of_text u (names_are_read.given text u reads)) ∙ ap canonical_uan same

again : (text : List ℕ) (v : Uan) → canonical_uan text ≡ Some v → ReadsUan text (Ok v)
again text v e =
    let is = uan_of_is text v e in
    subst (λ (z : List ℕ). ReadsUan z (Ok v)) is.1 (names_are_read.again v is.0)

other_at : (text : List ℕ) (u : Uan) (o : Option Uan) → canonical_uan text ≡ o → ReadsUan text (Ok u) → (uan_text u ≡ text → ⊥) → None ≡ o
other_at text u None e reads other = refl
other_at text u (Some v) e reads other =
    let same : u ≡ v = names_are_read.one text u v reads (again text v e) in
    absurd (other (ap uan_text same ∙ (uan_of_is text v e).1))

pub other_text : (text : List ℕ) (u : Uan) → ReadsUan text (Ok u) → (uan_text u ≡ text → ⊥) → None ≡ canonical_uan text
other_text text u reads other = other_at text u (canonical_uan text) refl reads other

refused_at : (text : List ℕ) (f : NameFault) (o : Option Uan) → canonical_uan text ≡ o → ReadsUan text (Err f) → (f ≡ fault.Memory → ⊥) → None ≡ o
refused_at text f None e reads other = refl
refused_at text f (Some v) e reads other = absurd (other (names_are_read.sure text v f (again text v e) reads))

pub refused_text : (text : List ℕ) (f : NameFault) → ReadsUan text (Err f) → (f ≡ fault.Memory → ⊥) → None ≡ canonical_uan text
refused_text text f reads other = refused_at text f (canonical_uan text) refl reads other

pub same_bytes : (r : Bool) (xs ys : List ℕ) → r ≡ bytes_eq xs ys → IsTrue r ↔ (xs ≡ ys)
same_bytes r xs ys e =
    let d = bytes_eq-Decides xs ys in
    (λ t. d.0 (sym e ∙ t), λ s. e ∙ d.1 s)
