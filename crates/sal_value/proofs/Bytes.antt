-- The bytes of hosts and paths.
use Rattle.std.proofs.Common.{◌≡◌, ℕ, ◌≤◌, ◌<◌, Bool, true, false, ◌&&◌, List, [], ◌∷◌, length, map, refl, ap, ◌∙◌, arith}
use Rattle.std.specs.Prelude.{nat_le}
use Rattle.std.specs.Char.{to_ascii_lowercase}
use Rattle.std.specs.List.{list_all}
use Rattle.std.specs.Str.{IsAscii, IsUtf8}
use Rattle.std.proofs.lemmas.Str.{IsUtf8-from_ascii}
use Rattle.std.proofs.lemmas.Bool.Decides.{nat_tests}
use Rattle.std.proofs.lemmas.List.{length-map}
use Rattle.std.proofs.lemmas.Str.Ascii.{IsAscii-nil, IsAscii-cons}
use Rattle.sal_value.specs.Names.{lower_case, is_host_byte, is_host, is_path_byte, is_path}

all_map : (p : ℕ → Bool) (f : ℕ → ℕ) (xs : List ℕ) → list_all p (map f xs) ≡ list_all (λ x. p (f x)) xs
all_map p f [] = refl
all_map p f (x ∷ xs) = ap (λ b. p (f x) && b) (all_map p f xs)

-- the tests of a host on the bytes as they are written
pub is_host_of : (host : List ℕ) → is_host (lower_case host) ≡ nat_le 1 (length host) && (nat_le (length host) 255 && list_all (λ b. is_host_byte (to_ascii_lowercase b)) host)
unfolding is_host
is_host_of host = rw (length-map host to_ascii_lowercase, all_map is_host_byte to_ascii_lowercase host) refl

pub host_empty : (host : List ℕ) → length host ≡ 0 → is_host (lower_case host) ≡ false
host_empty host e = is_host_of host ∙ grind (arith, nat_tests)

pub host_long : (host : List ℕ) → 255 < length host → is_host (lower_case host) ≡ false
host_long host l = is_host_of host ∙ grind (arith, nat_tests)

pub host_fits : (host : List ℕ) → 1 ≤ length host → length host ≤ 255 → is_host (lower_case host) ≡ list_all (λ b. is_host_byte (to_ascii_lowercase b)) host
host_fits host low high = is_host_of host ∙ grind (arith, nat_tests)

pub path_long : (path : List ℕ) → 1024 < length path → is_path path ≡ false
unfolding is_path
path_long path l = grind (arith, nat_tests)

pub path_fits : (path : List ℕ) → length path ≤ 1024 → is_path path ≡ list_all is_path_byte path
unfolding is_path
path_fits path l = grind (arith, nat_tests)

host_byte_is_ascii : (b : ℕ) → is_host_byte b ≡ true → b < 128
host_byte_is_ascii b h = grind (arith, nat_tests)

path_byte_is_ascii : (b : ℕ) → is_path_byte b ≡ true → b < 128
path_byte_is_ascii b h = grind (arith, nat_tests)

pub both : (a b : Bool) → a && b ≡ true → (a ≡ true) × (b ≡ true)
both true b h = (refl, h)
both false b h = absurd cc

pub all_ascii : (p : ℕ → Bool) → ((b : ℕ) → p b ≡ true → b < 128) → (xs : List ℕ) → list_all p xs ≡ true → IsAscii xs
all_ascii p low [] h = IsAscii-nil
all_ascii p low (x ∷ xs) h =
    let parts = both (p x) (list_all p xs) h in
    IsAscii-cons x xs (low x parts.0) (all_ascii p low xs parts.1)

pub host_parts : (host : List ℕ) → is_host host ≡ true → (nat_le 1 (length host) ≡ true) × (nat_le (length host) 255 ≡ true) × (list_all is_host_byte host ≡ true)
unfolding is_host
host_parts host h =
    let a = both (nat_le 1 (length host)) (nat_le (length host) 255 && list_all is_host_byte host) h in
    let b = both (nat_le (length host) 255) (list_all is_host_byte host) a.1 in
    (a.0, b.0, b.1)

pub path_parts : (path : List ℕ) → is_path path ≡ true → (nat_le (length path) 1024 ≡ true) × (list_all is_path_byte path ≡ true)
unfolding is_path
path_parts path h = both (nat_le (length path) 1024) (list_all is_path_byte path) h

pub host_is_ascii : (host : List ℕ) → is_host host ≡ true → IsAscii host
host_is_ascii host h = all_ascii is_host_byte host_byte_is_ascii host (host_parts host h).2

pub path_is_ascii : (path : List ℕ) → is_path path ≡ true → IsAscii path
path_is_ascii path h = all_ascii is_path_byte path_byte_is_ascii path (path_parts path h).1

pub text_of_ascii : (bytes : List ℕ) → IsAscii bytes → IsUtf8 bytes
text_of_ascii = IsUtf8-from_ascii
