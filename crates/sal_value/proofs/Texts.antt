-- Canonical texts, part by part.
use Rattle.std.proofs.Common.{◌≡◌, ℕ, ◌≤◌, true, ◌&&◌, List, [], ◌∷◌, ◌++◌, ◌+◌, length, refl, ap, append_assoc, arith}
use Rattle.std.specs.Prelude.{codes, nat_le}
use Rattle.std.specs.Char.{to_ascii_lowercase}
use Rattle.std.proofs.lemmas.Bool.Decides.{nat_tests}
use Rattle.std.proofs.lemmas.List.{length-append, length-map}
use Rattle.std.specs.Fmt.{decimal}
use Rattle.std.specs.Ordering.{nat_cmp}
use Rattle.std.specs.Cmp.Lexicographic.{slice_cmp}
use Rattle.sal_value.specs.declared.name.Uan.{Uan}
use Rattle.sal_value.specs.Names.{lower_case, uan_text, is_uan, is_host, is_port, is_path, is_uan_path}
use Rattle.sal_value.proofs.Bytes.{both, host_parts, path_parts}

-- from its host on: host, port between its signs, path
pub uan_parts : (u : Uan) → uan_text u ≡ codes "uan://" ++ (lower_case u.host ++ (58 ∷ (decimal u.port ++ 47 ∷ []) ++ u.path))
unfolding uan_text
uan_parts u = simp append_assoc

-- texts are compared from their hosts on
pub cmp_texts : (u v : Uan) (p q : List ℕ) → p ≡ 58 ∷ (decimal u.port ++ 47 ∷ []) → q ≡ 58 ∷ (decimal v.port ++ 47 ∷ [])
    → slice_cmp nat_cmp (lower_case u.host ++ (p ++ u.path)) (lower_case v.host ++ (q ++ v.path)) ≡ slice_cmp nat_cmp (uan_text u) (uan_text v)
cmp_texts u v p q ep eq = rw (ep, eq, uan_parts u, uan_parts v) refl

pub length_uan_text : (u : Uan) → length (uan_text u) ≡ 8 + length u.host + length (decimal u.port) + length u.path
length_uan_text u =
    omega (
      arith,
      ap length (uan_parts u),
      length-append (lower_case u.host) (58 ∷ (decimal u.port ++ 47 ∷ []) ++ u.path),
      length-append (decimal u.port ++ 47 ∷ []) u.path,
      length-append (decimal u.port) (47 ∷ []),
      length-map u.host to_ascii_lowercase,
    )

-- a good name's host and path are short
uan_bounds : (u : Uan) → is_uan u ≡ true → (length u.host ≤ 255) × (length u.path ≤ 1024)
unfolding is_uan
uan_bounds u h =
    let a = both (is_host u.host) (is_port u.port && is_uan_path (47 ∷ u.path)) h in
    let b = both (is_port u.port) (is_uan_path (47 ∷ u.path)) a.1 in
    let c = both (nat_le 1 (length u.path)) (is_path u.path) b.1 in
    let host : nat_le (length u.host) 255 ≡ true = (host_parts u.host a.0).1 in
    let path : nat_le (length u.path) 1024 ≡ true = (path_parts u.path c.1).0 in
    (grind (arith, nat_tests), grind (arith, nat_tests))

pub host_short : (u : Uan) → is_uan u ≡ true → length u.host ≤ 255
host_short u h = (uan_bounds u h).0

pub path_short : (u : Uan) → is_uan u ≡ true → length u.path ≤ 1024
path_short u h = (uan_bounds u h).1
