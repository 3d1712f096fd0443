-- The texts of names and locators.
use Rattle.std.specs.Prelude.{◌≡◌, ℕ, ◌≤◌, ◌==◌, nat_le, Bool, true, false, ◌&&◌, ◌||◌, if◌then◌else◌, IsTrue, List, [], ◌∷◌, ◌++◌, length, map, take, drop, codes, Option, Some, None, Result, Ok, Err}
use Rattle.std.specs.Char.{to_ascii_lowercase, is_ascii_lowercase, is_ascii_uppercase, is_ascii_digit}
use Rattle.std.specs.List.{list_all}
use Rattle.std.specs.Fmt.{decimal}
use Rattle.std.specs.Str.{bytes_eq}
use Rattle.std.specs.Str.Parse.{digits_value}
use Rattle.sal_value.specs.declared.name.Uan.{Uan}
use Rattle.sal_value.specs.declared.name.Ual.{Ual}
use Rattle.sal_value.specs.declared.name.Name.{Name}
use Rattle.sal_value.specs.declared.name.Name.TheVariants as name
use Rattle.sal_value.specs.declared.name.NameFault.{NameFault}
use Rattle.sal_value.specs.declared.name.NameFault.TheVariants as fault
use Rattle.sal_value.specs.declared.constants.TheConstants.{NAME_PORT, LOCATOR_PORT}

-- ---- canonical texts

abbrev pub lower_case : List ℕ → List ℕ
lower_case bytes = map to_ascii_lowercase bytes

-- host and port as canonical texts have them: `host:port`
abbrev pub address_text : List ℕ → ℕ → List ℕ
address_text host port = lower_case host ++ 58 ∷ decimal port

-- the canonical text of a name: `uan://host:port/path`
unfoldable pub uan_text : Uan → List ℕ
uan_text u = codes "uan://" ++ (address_text u.host u.port ++ 47 ∷ u.path)

-- the text of any name: `anon:theatre:number`, `outside:number`, or the canonical text
unfoldable pub name_text : Name → List ℕ
name_text (name.Anon theatre number) = codes "anon:" ++ (decimal theatre ++ 58 ∷ decimal number)
name_text (name.Outside number) = codes "outside:" ++ decimal number
name_text (name.Uan u) = uan_text u

-- the canonical text of a locator: `rmsp://host:port/`
unfoldable pub ual_text : Ual → List ℕ
ual_text l = codes "rmsp://" ++ (address_text l.host l.port ++ 47 ∷ [])

-- ---- what hosts and paths are made of

-- a letter in lower case, a digit, `-` or `.`
abbrev pub is_host_byte : ℕ → Bool
is_host_byte b = is_ascii_lowercase b || (is_ascii_digit b || (b == 45 || b == 46))

-- 1 to 255 of them
unfoldable pub is_host : List ℕ → Bool
is_host host = nat_le 1 (length host) && (nat_le (length host) 255 && list_all is_host_byte host)

-- a letter, a digit, or one of `/ . _ - ~ + = % @ : ?`
abbrev pub is_path_byte : ℕ → Bool
is_path_byte b = is_ascii_lowercase b || (is_ascii_uppercase b || (is_ascii_digit b || (b == 47 || (b == 46 || (b == 95
    || (b == 45 || (b == 126 || (b == 43 || (b == 61 || (b == 37 || (b == 64 || (b == 58 || b == 63))))))))))))

-- at most 1,024 of them
unfoldable pub is_path : List ℕ → Bool
is_path path = nat_le (length path) 1024 && list_all is_path_byte path

-- ---- texts as they may be written

-- none of the bytes passes the test
abbrev pub NonePass : (ℕ → Bool) → List ℕ → Type 0
NonePass test [] = Unit {0}
NonePass test (b ∷ bytes) = (test b ≡ false) × NonePass test bytes

-- there is no byte, or the first one passes the test
abbrev pub FirstPasses : (ℕ → Bool) → List ℕ → Type 0
FirstPasses test [] = Unit {0}
FirstPasses test (b ∷ bytes) = test b ≡ true

abbrev pub is_colon : ℕ → Bool
is_colon b = b == 58

abbrev pub is_slash : ℕ → Bool
is_slash b = b == 47

abbrev pub ends_host : ℕ → Bool
ends_host b = is_colon b || is_slash b

-- How one kind of text is written: its scheme, the port where none stands, and which paths are good.
pub record AddressForm : Type 0 where
  pub scheme : List ℕ
  pub usual : ℕ
  pub path : List ℕ → Bool

-- The path of a name begins with `/` and isn't empty.
abbrev pub is_uan_path : List ℕ → Bool
is_uan_path [] = false
is_uan_path (slash ∷ path) = nat_le 1 (length path) && is_path path

-- That of a locator may be left out or be empty.
abbrev pub is_ual_path : List ℕ → Bool
is_ual_path [] = true
is_ual_path (slash ∷ path) = is_path path

abbrev pub name_form : AddressForm
name_form = record { scheme = codes "uan://"; usual = NAME_PORT; path = is_uan_path }

abbrev pub locator_form : AddressForm
locator_form = record { scheme = codes "rmsp://"; usual = LOCATOR_PORT; path = is_ual_path }

-- texts of this scheme, whatever their paths
abbrev pub any_path : List ℕ → ℕ → AddressForm
any_path scheme usual = record { scheme = scheme; usual = usual; path = λ _. true }

-- A text cut into its parts. The scheme may be in either case. The host goes to the first `:` or `/` or to
-- the end. A port begins with `:` and goes to the first `/` or to the end. The path is the rest, with its `/`.
pub record Parts (scheme text host port path : List ℕ) : Type 0 where
  pub written : List ℕ
  pub is_scheme : lower_case written ≡ scheme
  pub whole : text ≡ written ++ (host ++ (port ++ path))
  pub host_ends : NonePass ends_host host
  pub port_begins : FirstPasses is_colon port
  pub port_ends : NonePass is_slash port
  pub path_begins : FirstPasses is_slash path

-- The number that a port's part writes: from 1 to 65,535, in decimal. No part writes the usual one.
abbrev pub IsPort : ℕ → List ℕ → ℕ → Type 0
IsPort usual [] n = n ≡ usual
IsPort usual (colon ∷ digits) n = (digits ≡ decimal n) × (1 ≤ n) × (n ≤ 65535)

-- each part of the text is good, and its port is n
pub record Writes (kind : AddressForm) (text host : List ℕ) (n : ℕ) (path : List ℕ) : Type 0 where
  pub port : List ℕ
  pub parts : Parts kind.scheme text host port path
  pub is_host : is_host (lower_case host) ≡ true
  pub is_port : IsPort kind.usual port n
  pub is_path : kind.path path ≡ true

-- The text is refused for its first part that isn't good.
abbrev pub IsRefused : AddressForm → List ℕ → NameFault → Type 0
IsRefused kind text fault.Scheme = (scheme rest : List ℕ) → text ≡ scheme ++ rest → lower_case scheme ≡ kind.scheme → ⊥
IsRefused kind text fault.Host = (host port path : List ℕ) × Parts kind.scheme text host port path × (is_host (lower_case host) ≡ false)
IsRefused kind text fault.Port = (host port path : List ℕ) × Parts kind.scheme text host port path × (is_host (lower_case host) ≡ true) × ((n : ℕ) → IsPort kind.usual port n → ⊥)
IsRefused kind text fault.Path = (host port path : List ℕ) × Parts kind.scheme text host port path × (is_host (lower_case host) ≡ true) × ((n : ℕ) × IsPort kind.usual port n) × (kind.path path ≡ false)
IsRefused kind text fault.Memory = Unit {0}

-- what reading a name answers
abbrev pub ReadsUan : List ℕ → Result Uan NameFault → Type 0
ReadsUan text (Ok u) = (host : List ℕ) × Writes name_form text host u.port (47 ∷ u.path) × (u.host ≡ lower_case host)
ReadsUan text (Err f) = IsRefused name_form text f

-- what reading a locator answers, whose path is dropped
abbrev pub ReadsUal : List ℕ → Result Ual NameFault → Type 0
ReadsUal text (Ok l) = (host path : List ℕ) × Writes locator_form text host l.port path × (l.host ≡ lower_case host)
ReadsUal text (Err f) = IsRefused locator_form text f

-- ---- names that reading gives

abbrev pub is_port : ℕ → Bool
is_port n = nat_le 1 n && nat_le n 65535

-- a name with a good host in lower case, a good port and a good path
unfoldable pub is_uan : Uan → Bool
is_uan u = is_host u.host && (is_port u.port && is_uan_path (47 ∷ u.path))

unfoldable pub is_ual : Ual → Bool
is_ual l = is_host l.host && is_port l.port

-- ---- reading as a function

-- the bytes before the first that passes the test
abbrev pub until : (ℕ → Bool) → List ℕ → List ℕ
until test [] = []
until test (b ∷ bytes) = if test b then [] else b ∷ until test bytes

-- the bytes from the first that passes the test
abbrev pub from_first : (ℕ → Bool) → List ℕ → List ℕ
from_first test [] = []
from_first test (b ∷ bytes) = if test b then b ∷ bytes else from_first test bytes

-- the port that these digits are the decimal text of
abbrev pub port_of_digits : List ℕ → Option ℕ
port_of_digits digits = if bytes_eq (decimal (digits_value 10 digits)) digits && is_port (digits_value 10 digits) then Some (digits_value 10 digits) else None

-- the number that a port's part writes
abbrev pub port_of : ℕ → List ℕ → Option ℕ
port_of usual [] = Some usual
port_of usual (colon ∷ digits) = port_of_digits digits

-- what stands after a scheme
abbrev pub after_scheme : List ℕ → List ℕ → Option (List ℕ)
after_scheme scheme text = if bytes_eq (lower_case (take (length scheme) text)) scheme then Some (drop (length scheme) text) else None

-- host, port and path, if all three are good
abbrev pub good_parts : AddressForm → List ℕ → Option ℕ → List ℕ → Option (List ℕ × (ℕ × List ℕ))
good_parts kind host None path = None
good_parts kind host (Some port) path = if is_host host && kind.path path then Some (host, (port, path)) else None

-- the parts of what stands after the scheme, with the host in lower case
abbrev pub parts_after_scheme : AddressForm → Option (List ℕ) → Option (List ℕ × (ℕ × List ℕ))
parts_after_scheme kind None = None
parts_after_scheme kind (Some text) =
    good_parts kind (lower_case (until ends_host text)) (port_of kind.usual (until is_slash (from_first ends_host text))) (from_first is_slash (from_first ends_host text))

-- a path without its first byte
abbrev pub without_slash : List ℕ → List ℕ
without_slash [] = []
without_slash (slash ∷ path) = path

-- the name of these parts
abbrev pub uan_from : Option (List ℕ × (ℕ × List ℕ)) → Option Uan
uan_from None = None
uan_from (Some parts) = Some (record { host = parts.0; port = parts.1.0; path = without_slash parts.1.1 })

-- the locator of these parts, without the path
abbrev pub ual_from : Option (List ℕ × (ℕ × List ℕ)) → Option Ual
ual_from None = None
ual_from (Some parts) = Some (record { host = parts.0; port = parts.1.0 })

-- the name that a text writes, if it writes one
unfoldable pub uan_of : List ℕ → Option Uan
uan_of text = uan_from (parts_after_scheme name_form (after_scheme name_form.scheme text))

-- the locator that a text writes, if it writes one
unfoldable pub ual_of : List ℕ → Option Ual
ual_of text = ual_from (parts_after_scheme locator_form (after_scheme locator_form.scheme text))

-- They are the names that reading gives, and each is read again from its canonical text. A text that is
-- read is read in one way, and isn't refused.
pub record NamesAreRead : Type 0 where
  pub given : (text : List ℕ) (u : Uan) → ReadsUan text (Ok u) → IsTrue (is_uan u)
  pub again : (u : Uan) → IsTrue (is_uan u) → ReadsUan (uan_text u) (Ok u)
  pub one : (text : List ℕ) (u v : Uan) → ReadsUan text (Ok u) → ReadsUan text (Ok v) → u ≡ v
  pub sure : (text : List ℕ) (u : Uan) (f : NameFault) → ReadsUan text (Ok u) → ReadsUan text (Err f) → f ≡ fault.Memory

-- the same of locators
pub record LocatorsAreRead : Type 0 where
  pub given : (text : List ℕ) (l : Ual) → ReadsUal text (Ok l) → IsTrue (is_ual l)
  pub again : (l : Ual) → IsTrue (is_ual l) → ReadsUal (ual_text l) (Ok l)
  pub one : (text : List ℕ) (l m : Ual) → ReadsUal text (Ok l) → ReadsUal text (Ok m) → l ≡ m
  pub sure : (text : List ℕ) (l : Ual) (f : NameFault) → ReadsUal text (Ok l) → ReadsUal text (Err f) → f ≡ fault.Memory

-- The functions give what reading gives, and nothing where it refuses.
pub record NamesAreGiven : Type 0 where
  pub uan : (text : List ℕ) (u : Uan) → ReadsUan text (Ok u) → uan_of text ≡ Some u
  pub no_uan : (text : List ℕ) (f : NameFault) → (f ≡ fault.Memory → ⊥) → ReadsUan text (Err f) → uan_of text ≡ None
  pub ual : (text : List ℕ) (l : Ual) → ReadsUal text (Ok l) → ual_of text ≡ Some l
  pub no_ual : (text : List ℕ) (f : NameFault) → (f ≡ fault.Memory → ⊥) → ReadsUal text (Err f) → ual_of text ≡ None

-- A text is refused for one reason, apart from lack of memory.
pub record NamesAreRefusedOnce : Type 0 where
  pub uan : (text : List ℕ) (f g : NameFault) → (f ≡ fault.Memory → ⊥) → (g ≡ fault.Memory → ⊥) → ReadsUan text (Err f) → ReadsUan text (Err g) → f ≡ g
  pub ual : (text : List ℕ) (f g : NameFault) → (f ≡ fault.Memory → ⊥) → (g ≡ fault.Memory → ⊥) → ReadsUal text (Err f) → ReadsUal text (Err g) → f ≡ g

-- What the functions give is read, and where they give nothing the text is refused for a reason.
pub record NamesAreDecided : Type 0 where
  pub uan : (text : List ℕ) (u : Uan) → uan_of text ≡ Some u → ReadsUan text (Ok u)
  pub no_uan : (text : List ℕ) → uan_of text ≡ None → (f : NameFault) × (f ≡ fault.Memory → ⊥) × ReadsUan text (Err f)
  pub ual : (text : List ℕ) (l : Ual) → ual_of text ≡ Some l → ReadsUal text (Ok l)
  pub no_ual : (text : List ℕ) → ual_of text ≡ None → (f : NameFault) × (f ≡ fault.Memory → ⊥) × ReadsUal text (Err f)
