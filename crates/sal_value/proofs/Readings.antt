-- Good names are those that reading gives.
use Rattle.std.proofs.Common.{◌≡◌, ℕ, ◌≤◌, Bool, true, false, ◌&&◌, ◌||◌, List, [], ◌∷◌, ◌++◌, length, Ok, refl, sym, ap, subst, ◌∙◌, append_assoc, arith}
use Rattle.std.specs.Char.{to_ascii_lowercase}
use Rattle.std.specs.List.{list_all}
use Rattle.std.specs.Fmt.{decimal}
use Rattle.std.specs.Str.Parse.{AllDigits}
use Rattle.std.proofs.lemmas.Bool.Decides.{nat_tests}
use Rattle.std.proofs.lemmas.Fmt.{decimal_is_IsNumeral, decimal_injective}
use Rattle.std.proofs.lemmas.List.{length-map}
use Rattle.std.proofs.lemmas.Str.Parse.{digit_from_value}
use Rattle.sal_value.specs.declared.name.Uan.{Uan}
use Rattle.sal_value.specs.declared.name.Ual.{Ual}
use Rattle.sal_value.specs.declared.name.NameFault.{NameFault}
use Rattle.sal_value.specs.declared.name.NameFault.TheVariants as fault
use Rattle.sal_value.specs.Names.{lower_case, address_text, uan_text, ual_text, is_host_byte, is_host, is_path, is_uan_path, NonePass, FirstPasses, is_colon, is_slash, ends_host, AddressForm, name_form, locator_form, Parts, IsPort, Writes, IsRefused, ReadsUan, ReadsUal, is_port, is_uan, is_ual, NamesAreRead, LocatorsAreRead}
use Rattle.sal_value.proofs.Bytes.{both, host_parts}
use Rattle.sal_value.proofs.Cuts.{cut_same, front_same}

-- ---- parts are cut in one way

or_second : (a b : Bool) → b ≡ true → a || b ≡ true
or_second true b h = refl
or_second false b h = h

or_first : (a b : Bool) → a ≡ true → a || b ≡ true
or_first true b h = refl
or_first false b h = absurd cc

pub first_ends : (p q : List ℕ) → FirstPasses is_colon p → FirstPasses is_slash q → FirstPasses ends_host (p ++ q)
first_ends [] [] f g = tt
first_ends [] (b ∷ q) f g = or_second (is_colon b) (is_slash b) g
first_ends (b ∷ p) q f g = or_first (is_colon b) (is_slash b) f

same_length : (s written other : List ℕ) → lower_case written ≡ s → lower_case other ≡ s → length written ≡ length other
same_length s written other e f =
    omega (arith, length-map written to_ascii_lowercase, length-map other to_ascii_lowercase, ap length e, ap length f)

pub parts_one : (s text h p x k q y : List ℕ) → Parts s text h p x → Parts s text k q y → (h ≡ k) × (p ≡ q) × (x ≡ y)
parts_one s text h p x k q y a b =
    let fronts = front_same a.written b.written (h ++ (p ++ x)) (k ++ (q ++ y)) (same_length s a.written b.written a.is_scheme b.is_scheme) (sym a.whole ∙ b.whole) in
    let hosts = cut_same ends_host h k (p ++ x) (q ++ y) a.host_ends b.host_ends (first_ends p x a.port_begins a.path_begins) (first_ends q y b.port_begins b.path_begins) fronts.1 in
    let ports = cut_same is_slash p q x y a.port_ends b.port_ends a.path_begins b.path_begins hosts.1 in
    (hosts.0, ports.0, ports.1)

port_one : (usual : ℕ) (p : List ℕ) (m n : ℕ) → IsPort usual p m → IsPort usual p n → m ≡ n
port_one usual [] m n a b = a ∙ sym b
port_one usual (c ∷ ds) m n a b = decimal_injective m n (omega (arith, a.2)) (omega (arith, b.2)) (sym a.0 ∙ b.0)

-- what is read is read in one way
written_one : (kind : AddressForm) (text h : List ℕ) (m : ℕ) (x k : List ℕ) (n : ℕ) (y : List ℕ) → Writes kind text h m x → Writes kind text k n y → (h ≡ k) × (m ≡ n) × (x ≡ y)
written_one kind text h m x k n y a b =
    let same = parts_one kind.scheme text h a.port x k b.port y a.parts b.parts in
    let ports : IsPort kind.usual b.port m = subst (λ p. IsPort kind.usual p m) same.1 a.is_port in
    (same.0, port_one kind.usual b.port m n ports b.is_port, same.2)

-- what is read isn't refused
written_sure : (kind : AddressForm) (text h : List ℕ) (m : ℕ) (x : List ℕ) (f : NameFault) → Writes kind text h m x → IsRefused kind text f → f ≡ fault.Memory
written_sure kind text h m x fault.Scheme a r = absurd (r a.parts.written (h ++ (a.port ++ x)) a.parts.whole a.parts.is_scheme)
written_sure kind text h m x fault.Host a (k, q, y, parts, bad) =
    let same = parts_one kind.scheme text h a.port x k q y a.parts parts in
    let good : is_host (lower_case k) ≡ true = subst (λ z. is_host (lower_case z) ≡ true) same.0 a.is_host in
    absurd cc
written_sure kind text h m x fault.Port a (k, q, y, parts, host, bad) =
    let same = parts_one kind.scheme text h a.port x k q y a.parts parts in
    absurd (bad m (subst (λ p. IsPort kind.usual p m) same.1 a.is_port))
written_sure kind text h m x fault.Path a (k, q, y, parts, host, port, bad) =
    let same = parts_one kind.scheme text h a.port x k q y a.parts parts in
    let good : kind.path y ≡ true = subst (λ z. kind.path z ≡ true) same.2 a.is_path in
    absurd cc
written_sure kind text h m x fault.Memory a r = refl

-- ---- what is read is good

port_good : (usual : ℕ) (p : List ℕ) (n : ℕ) → 1 ≤ usual → usual ≤ 65535 → IsPort usual p n → is_port n ≡ true
port_good usual [] n low high e = ap is_port e ∙ grind (arith, nat_tests)
port_good usual (c ∷ ds) n low high e =
    let above = e.1 in
    let below = e.2 in
    grind (arith, nat_tests)

all_true : (a b c : Bool) → a ≡ true → b ≡ true → c ≡ true → a && (b && c) ≡ true
all_true true true true p q r = refl
all_true false b c p q r = p
all_true true false c p q r = q
all_true true true false p q r = r

both_true : (a b : Bool) → a ≡ true → b ≡ true → a && b ≡ true
both_true true b p q = q
both_true false b p q = p

good_name : (text : List ℕ) (u : Uan) → ReadsUan text (Ok u) → is_uan u ≡ true
unfolding is_uan
good_name text u (host, w, same) =
    all_true (is_host u.host) (is_port u.port) (is_uan_path (47 ∷ u.path)) (ap is_host same ∙ w.is_host)
    (port_good 3030 w.port u.port (omega arith) (omega arith) w.is_port) w.is_path

good_locator : (text : List ℕ) (l : Ual) → ReadsUal text (Ok l) → is_ual l ≡ true
unfolding is_ual
good_locator text l (host, path, w, same) =
    both_true (is_host l.host) (is_port l.port) (ap is_host same ∙ w.is_host)
    (port_good 4040 w.port l.port (omega arith) (omega arith) w.is_port)

-- ---- what is good is read again

host_byte_stays : (b : ℕ) → is_host_byte b ≡ true → to_ascii_lowercase b ≡ b
host_byte_stays b h = grind (arith, nat_tests)

host_byte_inside : (b : ℕ) → is_host_byte b ≡ true → ends_host b ≡ false
host_byte_inside b h = grind (arith, nat_tests)

pub host_stays : (host : List ℕ) → list_all is_host_byte host ≡ true → lower_case host ≡ host
host_stays [] h = refl
host_stays (b ∷ host) h =
    let parts = both (is_host_byte b) (list_all is_host_byte host) h in
    let first = host_byte_stays b parts.0 in
    let rest = host_stays host parts.1 in
    λ i. first i ∷ rest i

host_inside : (host : List ℕ) → list_all is_host_byte host ≡ true → NonePass ends_host host
host_inside [] h = tt
host_inside (b ∷ host) h =
    let parts = both (is_host_byte b) (list_all is_host_byte host) h in
    (host_byte_inside b parts.0, host_inside host parts.1)

digit_inside : (c : ℕ) → 48 ≤ c → c ≤ 57 → is_slash c ≡ false
digit_inside c low high = grind (arith, nat_tests)

pub digits_inside : (ds : List ℕ) → AllDigits 10 ds → NonePass is_slash ds
digits_inside [] h = tt
digits_inside (c ∷ ds) h =
    let range = digit_from_value c h.0 in
    (digit_inside c range.0 range.1, digits_inside ds h.1)

pub port_range : (n : ℕ) → is_port n ≡ true → (1 ≤ n) × (n ≤ 65535)
port_range n h = grind (arith, nat_tests)

again : (scheme host : List ℕ) (port : ℕ) (path : List ℕ) → lower_case scheme ≡ scheme → is_host host ≡ true → is_port port ≡ true → FirstPasses is_slash path
    → Parts scheme (scheme ++ (address_text host port ++ path)) host (58 ∷ decimal port) path
again scheme host port path low good number slash =
    let bytes = (host_parts host good).2 in
    let range = port_range port number in
    record {
      written = scheme;
      is_scheme = low;
      whole = ap (λ (x : List ℕ). scheme ++ x) (append_assoc (lower_case host) (58 ∷ decimal port) path ∙ ap (λ (h : List ℕ). h ++ (58 ∷ decimal port ++ path)) (host_stays host bytes));
      host_ends = host_inside host bytes;
      port_begins = refl;
      port_ends = (refl, digits_inside (decimal port) (decimal_is_IsNumeral port (omega (arith, range.1))).0.1);
      path_begins = slash;
    }

written_again : (kind : AddressForm) (host : List ℕ) (port : ℕ) (path : List ℕ) → lower_case kind.scheme ≡ kind.scheme → is_host host ≡ true → is_port port ≡ true → FirstPasses is_slash path → kind.path path ≡ true
    → Writes kind (kind.scheme ++ (address_text host port ++ path)) host port path × (host ≡ lower_case host)
written_again kind host port path low good number slash is =
    let bytes = (host_parts host good).2 in
    let range = port_range port number in
    let stays = host_stays host bytes in (
      record {
        port = 58 ∷ decimal port;
        parts = again kind.scheme host port path low good number slash;
        is_host = ap is_host stays ∙ good;
        is_port = (refl, range.0, range.1);
        is_path = is;
      },
      sym stays,
    )

name_again : (u : Uan) → is_uan u ≡ true → ReadsUan (uan_text u) (Ok u)
unfolding is_uan uan_text
name_again u h =
    let a = both (is_host u.host) (is_port u.port && is_uan_path (47 ∷ u.path)) h in
    let b = both (is_port u.port) (is_uan_path (47 ∷ u.path)) a.1 in
    let w = written_again name_form u.host u.port (47 ∷ u.path) refl a.0 b.0 refl b.1 in
    (u.host, w.0, w.1)

locator_again : (l : Ual) → is_ual l ≡ true → ReadsUal (ual_text l) (Ok l)
unfolding is_ual ual_text is_path
locator_again l h =
    let a = both (is_host l.host) (is_port l.port) h in
    let w = written_again locator_form l.host l.port (47 ∷ []) refl a.0 a.1 refl refl in
    (l.host, 47 ∷ [], w.0, w.1)

-- ---- the laws

same_tail : (a b : ℕ) (x y : List ℕ) → a ∷ x ≡ b ∷ y → x ≡ y
same_tail a b x y e = cc

one_name : (text : List ℕ) (u v : Uan) → ReadsUan text (Ok u) → ReadsUan text (Ok v) → u ≡ v
one_name text u v (h, a, e) (k, b, f) =
    let same = written_one name_form text h u.port (47 ∷ u.path) k v.port (47 ∷ v.path) a b in
    let host : u.host ≡ v.host = e ∙ ap lower_case same.0 ∙ sym f in
    let path = same_tail 47 47 u.path v.path same.2 in
    λ i. record { host = host i; port = same.1 i; path = path i }

one_locator : (text : List ℕ) (l m : Ual) → ReadsUal text (Ok l) → ReadsUal text (Ok m) → l ≡ m
one_locator text l m (h, x, a, e) (k, y, b, f) =
    let same = written_one locator_form text h l.port x k m.port y a b in
    let host : l.host ≡ m.host = e ∙ ap lower_case same.0 ∙ sym f in
    λ i. record { host = host i; port = same.1 i }

pub names_are_read : NamesAreRead
names_are_read = record {
  given = good_name;
  again = name_again;
  one = one_name;
  sure = λ text u f a r. written_sure name_form text a.0 u.port (47 ∷ u.path) f a.1 r;
}

pub locators_are_read : LocatorsAreRead
locators_are_read = record {
  given = good_locator;
  again = locator_again;
  one = one_locator;
  sure = λ text l f a r. written_sure locator_form text a.0 l.port a.1 f a.2 r;
}
