-- Each text is read or refused.
use Rattle.std.proofs.Common.{◌≡◌, ℕ, Bool, true, false, ◌||◌, Option, Some, None, List, [], ◌∷◌, ◌++◌, length, take, drop, Ok, Err, refl, sym, ap, subst, ◌∙◌}
use Rattle.std.specs.Prelude.{if◌then◌else◌}
use Rattle.std.specs.Str.{bytes_eq}
use Rattle.std.proofs.lemmas.Bool.{eqb-true}
use Rattle.std.proofs.lemmas.List.{take-append-drop}
use Rattle.std.proofs.lemmas.Slice.Eq.{bytes_eq-Decides}
use Rattle.sal_value.specs.declared.name.Uan.{Uan}
use Rattle.sal_value.specs.declared.name.Ual.{Ual}
use Rattle.sal_value.specs.declared.name.NameFault.{NameFault}
use Rattle.sal_value.specs.declared.name.NameFault.TheVariants as fault
use Rattle.sal_value.specs.Names.{lower_case, is_host, NonePass, FirstPasses, is_colon, is_slash, ends_host, is_uan_path, AddressForm, name_form, locator_form, Parts, IsPort, Writes, IsRefused, ReadsUan, ReadsUal, until, from_first, port_of, after_scheme, uan_of, ual_of, NamesAreDecided}
use Rattle.sal_value.proofs.Canonical.{some_if}
use Rattle.sal_value.proofs.Given.{behind_given, port_given, port_is, uan_given, uan_refused, ual_given, ual_refused}

-- ---- each text is cut

not_some : {A : Type 0} (x : A) → Some x ≡ None → ⊥
not_some x e = cc

cut_whole_at : (test : ℕ → Bool) (b : ℕ) (xs : List ℕ) (t : Bool) → until test xs ++ from_first test xs ≡ xs
    → (if t then [] else b ∷ until test xs) ++ (if t then b ∷ xs else from_first test xs) ≡ b ∷ xs
cut_whole_at test b xs true e = refl
cut_whole_at test b xs false e = ap (λ (z : List ℕ). b ∷ z) e

cut_whole : (test : ℕ → Bool) (xs : List ℕ) → until test xs ++ from_first test xs ≡ xs
cut_whole test [] = refl
cut_whole test (b ∷ xs) = cut_whole_at test b xs (test b) (cut_whole test xs)

until_none_at : (test : ℕ → Bool) (b : ℕ) (xs : List ℕ) (t : Bool) → test b ≡ t → NonePass test (until test xs) → NonePass test (if t then [] else b ∷ until test xs)
until_none_at test b xs true e none = tt
until_none_at test b xs false e none = (e, none)

until_none : (test : ℕ → Bool) (xs : List ℕ) → NonePass test (until test xs)
until_none test [] = tt
until_none test (b ∷ xs) = until_none_at test b xs (test b) refl (until_none test xs)

onward_first_at : (test : ℕ → Bool) (b : ℕ) (xs : List ℕ) (t : Bool) → test b ≡ t → FirstPasses test (from_first test xs) → FirstPasses test (if t then b ∷ xs else from_first test xs)
onward_first_at test b xs true e first = e
onward_first_at test b xs false e first = first

onward_first : (test : ℕ → Bool) (xs : List ℕ) → FirstPasses test (from_first test xs)
onward_first test [] = tt
onward_first test (b ∷ xs) = onward_first_at test b xs (test b) refl (onward_first test xs)

second_of : (a b : Bool) → a || b ≡ true → b ≡ false → a ≡ true
second_of true b p q = refl
second_of false b p q = absurd cc

port_first_at : (b : ℕ) (xs : List ℕ) (t : Bool) → is_slash b ≡ t → ends_host b ≡ true → FirstPasses is_colon (if t then [] else b ∷ until is_slash xs)
port_first_at b xs true e first = tt
port_first_at b xs false e first = second_of (is_colon b) (is_slash b) first e

port_first : (xs : List ℕ) → FirstPasses ends_host xs → FirstPasses is_colon (until is_slash xs)
port_first [] first = tt
port_first (b ∷ xs) first = port_first_at b xs (is_slash b) refl first

-- ---- each text is good or has a first part that isn't

-- it's of this kind, or refused
data Answer (kind : AddressForm) (text : List ℕ) : Type 0 where
  good : (h : List ℕ) (n : ℕ) (x : List ℕ) → Writes kind text h n x → Answer kind text
  bad : (f : NameFault) → (f ≡ fault.Memory → ⊥) → IsRefused kind text f → Answer kind text

by_path : (kind : AddressForm) (text h p x : List ℕ) (n : ℕ) (t : Bool) → kind.path x ≡ t → Parts kind.scheme text h p x → is_host (lower_case h) ≡ true → IsPort kind.usual p n → Answer kind text
by_path kind text h p x n true e parts host port = good h n x (record { port = p; parts = parts; is_host = host; is_port = port; is_path = e })
by_path kind text h p x n false e parts host port = bad fault.Path (λ m. cc) (h, p, x, parts, host, (n, port), e)

by_port : (kind : AddressForm) (text h p x : List ℕ) (o : Option ℕ) → port_of kind.usual p ≡ o → Parts kind.scheme text h p x → is_host (lower_case h) ≡ true → Answer kind text
by_port kind text h p x (Some n) e parts host = by_path kind text h p x n (kind.path x) refl parts host (port_is kind.usual p n e)
by_port kind text h p x None e parts host = bad fault.Port (λ m. cc) (h, p, x, parts, host, λ n port. not_some n (sym (port_given kind.usual p n port) ∙ e))

by_host : (kind : AddressForm) (text h p x : List ℕ) (t : Bool) → is_host (lower_case h) ≡ t → Parts kind.scheme text h p x → Answer kind text
by_host kind text h p x true e parts = by_port kind text h p x (port_of kind.usual p) refl parts e
by_host kind text h p x false e parts = bad fault.Host (λ m. cc) (h, p, x, parts, e)

by_parts : (kind : AddressForm) (text written rest : List ℕ) → lower_case written ≡ kind.scheme → text ≡ written ++ rest → Answer kind text
by_parts kind text written rest scheme whole =
    let h : List ℕ = until ends_host rest in
    let behind : List ℕ = from_first ends_host rest in
    let p : List ℕ = until is_slash behind in
    let x : List ℕ = from_first is_slash behind in
    let parts : Parts kind.scheme text h p x = record {
      written = written;
      is_scheme = scheme;
      whole = whole ∙ ap (λ (z : List ℕ). written ++ z) (sym (cut_whole ends_host rest)) ∙ ap (λ (z : List ℕ). written ++ (h ++ z)) (sym (cut_whole is_slash behind));
      host_ends = until_none ends_host rest;
      port_begins = port_first behind (onward_first ends_host rest);
      port_ends = until_none is_slash behind;
      path_begins = onward_first is_slash behind;
    } in
    by_host kind text h p x (is_host (lower_case h)) refl parts

by_scheme : (kind : AddressForm) (text : List ℕ) (o : Option (List ℕ)) → after_scheme kind.scheme text ≡ o → Answer kind text
by_scheme kind text None e = bad fault.Scheme (λ m. cc)
    (λ written rest whole low. not_some rest (sym (behind_given kind.scheme written rest low) ∙ ap (after_scheme kind.scheme) (sym whole) ∙ e))
by_scheme kind text (Some rest) e =
    let n : ℕ = length kind.scheme in
    let front : List ℕ = take n text in
    let chosen = some_if (bytes_eq (lower_case front) kind.scheme) (drop n text) rest e in
    by_parts kind text front (drop n text) ((bytes_eq-Decides (lower_case front) kind.scheme).0 chosen.0) (sym (take-append-drop n text))

answer : (kind : AddressForm) (text : List ℕ) → Answer kind text
answer kind text = by_scheme kind text (after_scheme kind.scheme text) refl

-- ---- names

-- a name's path has a byte `/` and more
behind_slash : (x : List ℕ) → FirstPasses is_slash x → is_uan_path x ≡ true → (path : List ℕ) × (x ≡ 47 ∷ path)
behind_slash [] first is = absurd cc
behind_slash (b ∷ path) first is = (path, ap (λ (c : ℕ). c ∷ path) (eqb-true b 47 first))

name_read : (text h : List ℕ) (n : ℕ) (x : List ℕ) → Writes name_form text h n x → (u : Uan) × ReadsUan text (Ok u)
name_read text h n x w =
    let path = behind_slash x w.parts.path_begins w.is_path in
    (record { host = lower_case h; port = n; path = path.0 }, (h, subst (λ (y : List ℕ). Writes name_form text h n y) path.1 w, refl))

some_same : {A : Type 0} (o : Option A) (x y : A) → o ≡ Some x → o ≡ Some y → x ≡ y
some_same o x y e f = cc

none_or : {A : Type 0} (o : Option A) (x : A) → o ≡ None → o ≡ Some x → ⊥
none_or o x e f = cc

uan_reads : (text : List ℕ) (u : Uan) → uan_of text ≡ Some u → Answer name_form text → ReadsUan text (Ok u)
uan_reads text u e (good h n x w) =
    let read = name_read text h n x w in
    subst (λ (v : Uan). ReadsUan text (Ok v)) (some_same (uan_of text) read.0 u (uan_given text read.0 read.1) e) read.1
uan_reads text u e (bad f m refused) = absurd (none_or (uan_of text) u (uan_refused text f m refused) e)

uan_refuses : (text : List ℕ) → uan_of text ≡ None → Answer name_form text → (f : NameFault) × (f ≡ fault.Memory → ⊥) × ReadsUan text (Err f)
uan_refuses text e (good h n x w) =
    let read = name_read text h n x w in
    absurd (none_or (uan_of text) read.0 e (uan_given text read.0 read.1))
uan_refuses text e (bad f m refused) = (f, m, refused)

-- ---- locators

locator_read : (text h : List ℕ) (n : ℕ) (x : List ℕ) → Writes locator_form text h n x → (l : Ual) × ReadsUal text (Ok l)
locator_read text h n x w = (record { host = lower_case h; port = n }, (h, x, w, refl))

ual_reads : (text : List ℕ) (l : Ual) → ual_of text ≡ Some l → Answer locator_form text → ReadsUal text (Ok l)
ual_reads text l e (good h n x w) =
    let read = locator_read text h n x w in
    subst (λ (v : Ual). ReadsUal text (Ok v)) (some_same (ual_of text) read.0 l (ual_given text read.0 read.1) e) read.1
ual_reads text l e (bad f m refused) = absurd (none_or (ual_of text) l (ual_refused text f m refused) e)

ual_refuses : (text : List ℕ) → ual_of text ≡ None → Answer locator_form text → (f : NameFault) × (f ≡ fault.Memory → ⊥) × ReadsUal text (Err f)
ual_refuses text e (good h n x w) =
    let read = locator_read text h n x w in
    absurd (none_or (ual_of text) read.0 e (ual_given text read.0 read.1))
ual_refuses text e (bad f m refused) = (f, m, refused)

pub names_are_decided : NamesAreDecided
names_are_decided = record {
  uan = λ text u e. uan_reads text u e (answer name_form text);
  no_uan = λ text e. uan_refuses text e (answer name_form text);
  ual = λ text l e. ual_reads text l e (answer locator_form text);
  no_ual = λ text e. ual_refuses text e (answer locator_form text);
}
