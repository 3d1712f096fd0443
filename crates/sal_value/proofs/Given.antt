-- The functions of texts give the names that reading gives.
use Rattle.std.proofs.Common.{◌≡◌, ℕ, ◌^◌, ◌<◌, ◌≤◌, Bool, true, false, ◌&&◌, Option, Some, None, List, [], ◌∷◌, ◌++◌, length, take, drop, Ok, Err, refl, sym, ap, subst, ◌∙◌, arith}
use Rattle.std.specs.Prelude.{if◌then◌else◌}
use Rattle.std.specs.Char.{to_ascii_lowercase}
use Rattle.std.specs.Fmt.{decimal}
use Rattle.std.specs.Str.{bytes_eq}
use Rattle.std.specs.Str.Parse.{digits_value}
use Rattle.std.proofs.lemmas.Bool.Decides.{nat_tests}
use Rattle.std.proofs.lemmas.Fmt.{decimal_is_IsNumeral}
use Rattle.std.proofs.lemmas.List.{length-map, take_at, drop_at, take-append-drop}
use Rattle.std.proofs.lemmas.Slice.Eq.{bytes_eq-Decides}
use Rattle.sal_value.specs.declared.name.Uan.{Uan}
use Rattle.sal_value.specs.declared.name.Ual.{Ual}
use Rattle.sal_value.specs.declared.name.NameFault.{NameFault}
use Rattle.sal_value.specs.declared.name.NameFault.TheVariants as fault
use Rattle.sal_value.specs.Names.{lower_case, is_host, NonePass, FirstPasses, is_slash, ends_host, AddressForm, name_form, locator_form, Parts, IsPort, Writes, IsRefused, ReadsUan, ReadsUal, is_port, until, from_first, port_of, after_scheme, good_parts, parts_after_scheme, uan_from, ual_from, uan_of, ual_of, NamesAreGiven}
use Rattle.sal_value.proofs.Bytes.{both}
use Rattle.sal_value.proofs.Canonical.{some_if}
use Rattle.sal_value.proofs.Readings.{first_ends, port_range}

-- ---- cutting at the first byte that passes

until_at : (test : ℕ → Bool) (h x : List ℕ) → NonePass test h → FirstPasses test x → until test (h ++ x) ≡ h
until_at test [] [] none first = refl
until_at test [] (b ∷ x) none first = ap (λ t. if t then [] else b ∷ until test x) first
until_at test (b ∷ h) x none first =
    ap (λ t. if t then [] else b ∷ until test (h ++ x)) none.0 ∙ ap (λ (z : List ℕ). b ∷ z) (until_at test h x none.1 first)

onward_at : (test : ℕ → Bool) (h x : List ℕ) → NonePass test h → FirstPasses test x → from_first test (h ++ x) ≡ x
onward_at test [] [] none first = refl
onward_at test [] (b ∷ x) none first = ap (λ t. if t then b ∷ x else from_first test x) first
onward_at test (b ∷ h) x none first =
    ap (λ t. if t then b ∷ (h ++ x) else from_first test (h ++ x)) none.0 ∙ onward_at test h x none.1 first

-- ---- schemes

-- what no test lets pass
none_unless : {A : Type 0} (b : Bool) (x : A) → (b ≡ true → ⊥) → (if b then Some x else None) ≡ None
none_unless true x no' = absurd (no' refl)
none_unless false x no' = refl

pub behind_given : (scheme written rest : List ℕ) → lower_case written ≡ scheme → after_scheme scheme (written ++ rest) ≡ Some rest
behind_given scheme written rest e =
    let same : length written ≡ length scheme = omega (arith, length-map written to_ascii_lowercase, ap length e) in
    let front = take_at written rest (length scheme) same in
    let is : bytes_eq (lower_case (take (length scheme) (written ++ rest))) scheme ≡ true = (bytes_eq-Decides (lower_case (take (length scheme) (written ++ rest))) scheme).1 (ap lower_case front ∙ e) in
    ap (λ b. if b then Some (drop (length scheme) (written ++ rest)) else None) is ∙ ap Some (drop_at written rest (length scheme) same)

behind_none : (kind : AddressForm) (text : List ℕ) → IsRefused kind text fault.Scheme → after_scheme kind.scheme text ≡ None
behind_none kind text refused =
    let n : ℕ = length kind.scheme in
    let front : List ℕ = lower_case (take n text) in
    none_unless (bytes_eq front kind.scheme) (drop n text)
    (λ e. refused (take n text) (drop n text) (sym (take-append-drop n text)) ((bytes_eq-Decides front kind.scheme).0 e))

-- ---- ports

is_port_in : (n : ℕ) → 1 ≤ n → n ≤ 65535 → is_port n ≡ true
is_port_in n low high = grind (arith, nat_tests)

pub port_given : (usual : ℕ) (p : List ℕ) (n : ℕ) → IsPort usual p n → port_of usual p ≡ Some n
port_given usual [] n e = ap Some (sym e)
port_given usual (c ∷ ds) n (e, low, high) =
    let v : ℕ = digits_value 10 ds in
    let small : n < 2 ^ 64 = omega arith in
    let value : v ≡ n = ap (digits_value 10) e ∙ (decimal_is_IsNumeral n small).1 in
    let is : bytes_eq (decimal v) ds ≡ true = (bytes_eq-Decides (decimal v) ds).1 (ap decimal value ∙ sym e) in
    let good : is_port v ≡ true = ap is_port value ∙ is_port_in n low high in
    ap (λ b. if b && is_port v then Some v else None) is ∙ ap (λ b. if b then Some v else None) good ∙ ap Some value

pub port_is : (usual : ℕ) (p : List ℕ) (n : ℕ) → port_of usual p ≡ Some n → IsPort usual p n
port_is usual [] n e = cc
port_is usual (c ∷ ds) n e =
    let v : ℕ = digits_value 10 ds in
    let chosen = some_if (bytes_eq (decimal v) ds && is_port v) v n e in
    let tests = both (bytes_eq (decimal v) ds) (is_port v) chosen.0 in
    let same : decimal v ≡ ds = (bytes_eq-Decides (decimal v) ds).0 tests.0 in
    let range = port_range v tests.1 in
    subst (λ m. IsPort usual (c ∷ ds) m) chosen.1 (sym same, range.0, range.1)

port_none_at : (usual : ℕ) (p : List ℕ) (o : Option ℕ) → port_of usual p ≡ o → ((n : ℕ) → IsPort usual p n → ⊥) → o ≡ None
port_none_at usual p None e bad = refl
port_none_at usual p (Some n) e bad = absurd (bad n (port_is usual p n e))

-- ---- parts

parts_given : (kind : AddressForm) (text h p x : List ℕ) → Parts kind.scheme text h p x
    → parts_after_scheme kind (after_scheme kind.scheme text) ≡ good_parts kind (lower_case h) (port_of kind.usual p) x
parts_given kind text h p x parts =
    let rest : List ℕ = h ++ (p ++ x) in
    let ends = first_ends p x parts.port_begins parts.path_begins in
    let host = until_at ends_host h (p ++ x) parts.host_ends ends in
    let behind = onward_at ends_host h (p ++ x) parts.host_ends ends in
    let port = until_at is_slash p x parts.port_ends parts.path_begins in
    let path = onward_at is_slash p x parts.port_ends parts.path_begins in
    ap (λ (t : List ℕ). parts_after_scheme kind (after_scheme kind.scheme t)) parts.whole
    ∙ ap (parts_after_scheme kind) (behind_given kind.scheme parts.written rest parts.is_scheme)
    ∙ ap (λ (t : List ℕ). good_parts kind (lower_case t) (port_of kind.usual (until is_slash (from_first ends_host rest))) (from_first is_slash (from_first ends_host rest))) host
    ∙ ap (λ (t : List ℕ). good_parts kind (lower_case h) (port_of kind.usual (until is_slash t)) (from_first is_slash t)) behind
    ∙ ap (λ (t : List ℕ). good_parts kind (lower_case h) (port_of kind.usual t) (from_first is_slash (p ++ x))) port
    ∙ ap (λ (t : List ℕ). good_parts kind (lower_case h) (port_of kind.usual p) t) path

chosen_if : {A : Type 0} (a b : Bool) (x : A) → a ≡ true → b ≡ true → (if a && b then Some x else None) ≡ Some x
chosen_if true true x p q = refl
chosen_if false b x p q = absurd cc
chosen_if true false x p q = absurd cc

written_given : (kind : AddressForm) (text h : List ℕ) (n : ℕ) (x : List ℕ) → Writes kind text h n x
    → parts_after_scheme kind (after_scheme kind.scheme text) ≡ Some (lower_case h, (n, x))
written_given kind text h n x w =
    parts_given kind text h w.port x w.parts
    ∙ ap (λ (o : Option ℕ). good_parts kind (lower_case h) o x) (port_given kind.usual w.port n w.is_port)
    ∙ chosen_if (is_host (lower_case h)) (kind.path x) (lower_case h, (n, x)) w.is_host w.is_path

bad_host : (kind : AddressForm) (host : List ℕ) (o : Option ℕ) (x : List ℕ) → is_host host ≡ false → good_parts kind host o x ≡ None
bad_host kind host None x bad = refl
bad_host kind host (Some n) x bad = ap (λ b. if b && kind.path x then Some (host, (n, x)) else None) bad

bad_path : (kind : AddressForm) (host : List ℕ) (o : Option ℕ) (x : List ℕ) → is_host host ≡ true → kind.path x ≡ false → good_parts kind host o x ≡ None
bad_path kind host None x good bad = refl
bad_path kind host (Some n) x good bad =
    ap (λ b. if b && kind.path x then Some (host, (n, x)) else None) good ∙ ap (λ b. if b then Some (host, (n, x)) else None) bad

refused_given : (kind : AddressForm) (text : List ℕ) (f : NameFault) → (f ≡ fault.Memory → ⊥) → IsRefused kind text f → parts_after_scheme kind (after_scheme kind.scheme text) ≡ None
refused_given kind text fault.Scheme m refused = ap (parts_after_scheme kind) (behind_none kind text refused)
refused_given kind text fault.Host m (h, p, x, parts, bad) = parts_given kind text h p x parts ∙ bad_host kind (lower_case h) (port_of kind.usual p) x bad
refused_given kind text fault.Port m (h, p, x, parts, host, bad) =
    parts_given kind text h p x parts
    ∙ ap (λ (o : Option ℕ). good_parts kind (lower_case h) o x) (port_none_at kind.usual p (port_of kind.usual p) refl bad)
refused_given kind text fault.Path m (h, p, x, parts, host, port, bad) =
    parts_given kind text h p x parts ∙ bad_path kind (lower_case h) (port_of kind.usual p) x host bad
refused_given kind text fault.Memory m refused = absurd (m refl)

-- ---- the law

pub uan_given : (text : List ℕ) (u : Uan) → ReadsUan text (Ok u) → uan_of text ≡ Some u
unfolding uan_of
uan_given text u (h, w, e) =
    ap uan_from (written_given name_form text h u.port (47 ∷ u.path) w)
    ∙ ap (λ (host : List ℕ). uan_from (Some (host, (u.port, 47 ∷ u.path)))) (sym e)

pub uan_refused : (text : List ℕ) (f : NameFault) → (f ≡ fault.Memory → ⊥) → ReadsUan text (Err f) → uan_of text ≡ None
unfolding uan_of
uan_refused text f m refused = ap uan_from (refused_given name_form text f m refused)

pub ual_given : (text : List ℕ) (l : Ual) → ReadsUal text (Ok l) → ual_of text ≡ Some l
unfolding ual_of
ual_given text l (h, x, w, e) =
    ap ual_from (written_given locator_form text h l.port x w)
    ∙ ap (λ (host : List ℕ). ual_from (Some (host, (l.port, x)))) (sym e)

pub ual_refused : (text : List ℕ) (f : NameFault) → (f ≡ fault.Memory → ⊥) → ReadsUal text (Err f) → ual_of text ≡ None
unfolding ual_of
ual_refused text f m refused = ap ual_from (refused_given locator_form text f m refused)

pub names_are_given : NamesAreGiven
names_are_given = record { uan = uan_given; no_uan = uan_refused; ual = ual_given; no_ual = ual_refused }
