-- Locators and services, by what reading names and locators answers.
use Rattle.std.proofs.Common.{◌≡◌, ℕ, Bool, true, false, ◌&&◌, Option, Some, None, List, [], ◌∷◌, ◌++◌, length, codes, Ok, Err, refl, sym, ap, subst, ◌∙◌, append_assoc, arith, length-append, true≢false}
use Rattle.std.specs.Prelude.{if◌then◌else◌}
use Rattle.std.specs.Str.{bytes_eq}
use Rattle.std.proofs.lemmas.Slice.Eq.{bytes_eq-Decides}
use Rattle.sal_value.specs.declared.name.Authority.{Authority}
use Rattle.sal_value.specs.declared.name.Uan.{Uan}
use Rattle.sal_value.specs.declared.name.Ual.{Ual}
use Rattle.sal_value.specs.declared.name.NameFault.{NameFault}
use Rattle.sal_value.specs.declared.name.NameFault.TheVariants as fault
use Rattle.sal_value.specs.declared.constants.TheConstants.{NAME_PORT}
use Rattle.sal_value.specs.Names.{lower_case, is_host, is_path, is_slash, ends_host, name_form, ReadsUan, ReadsUal, until, from_first, port_of, good_parts, parts_after_scheme, uan_from, uan_of, ual_of}
use Rattle.sal_value.proofs.Given.{names_are_given, behind_given}
use Rattle.sal_plan.specs.Services.{service_form, authority_from, authority_of}

pub locator_is : (text : List ℕ) (l : Ual) → ReadsUal text (Ok l) → Some l ≡ ual_of text
locator_is text l reads = sym (names_are_given.ual text l reads)

pub no_locator : (text : List ℕ) (f : NameFault) → ReadsUal text (Err f) → (f ≡ fault.Memory → ⊥) → None ≡ ual_of text
no_locator text f reads other = sym (names_are_given.no_ual text f other reads)

-- ---- cutting before a byte that passes the test

until_before : (test : ℕ → Bool) (xs rest : List ℕ) (b : ℕ) → test b ≡ true → until test (xs ++ b ∷ rest) ≡ until test xs
until_before test [] rest b e = ap (λ t. if t then [] else b ∷ until test rest) e
until_before test (x ∷ xs) rest b e = ap (λ (r : List ℕ). if test x then [] else x ∷ r) (until_before test xs rest b e)

first_or : (t : Bool) (x b : ℕ) (xs ys zs rest : List ℕ) → ys ≡ zs ++ b ∷ rest → (if t then x ∷ (xs ++ b ∷ rest) else ys) ≡ (if t then x ∷ xs else zs) ++ b ∷ rest
first_or true x b xs ys zs rest e = refl
first_or false x b xs ys zs rest e = e

rest_before : (test : ℕ → Bool) (xs rest : List ℕ) (b : ℕ) → test b ≡ true → from_first test (xs ++ b ∷ rest) ≡ from_first test xs ++ b ∷ rest
rest_before test [] rest b e = ap (λ t. if t then b ∷ rest else from_first test rest) e
rest_before test (x ∷ xs) rest b e = first_or (test x) x b xs (from_first test (xs ++ b ∷ rest)) (from_first test xs) rest (rest_before test xs rest b e)

-- ---- a service's text between `uan://` and `/x`

abbrev end : List ℕ
end = 47 ∷ 120 ∷ []

abbrev host_of : List ℕ → List ℕ
host_of text = lower_case (until ends_host text)

abbrev port_in : List ℕ → Option ℕ
port_in text = port_of NAME_PORT (until is_slash (from_first ends_host text))

abbrev path_of : List ℕ → List ℕ
path_of text = from_first is_slash (from_first ends_host text)

cut : (text : List ℕ) → parts_after_scheme name_form (Some (text ++ end)) ≡ good_parts name_form (host_of text) (port_in text) (path_of text ++ end)
cut text =
    let y : List ℕ = from_first ends_host text in
    ap (λ (h : List ℕ). good_parts name_form (lower_case h) (port_of NAME_PORT (until is_slash (from_first ends_host (text ++ end)))) (from_first is_slash (from_first ends_host (text ++ end)))) (until_before ends_host text (120 ∷ []) 47 refl)
    ∙ ap (λ (z : List ℕ). good_parts name_form (host_of text) (port_of NAME_PORT (until is_slash z)) (from_first is_slash z)) (rest_before ends_host text (120 ∷ []) 47 refl)
    ∙ ap (λ (z : List ℕ). good_parts name_form (host_of text) (port_of NAME_PORT z) (from_first is_slash (y ++ end))) (until_before is_slash y (120 ∷ []) 47 refl)
    ∙ ap (λ (z : List ℕ). good_parts name_form (host_of text) (port_in text) z) (rest_before is_slash y (120 ∷ []) 47 refl)

name_is : (text : List ℕ) → uan_of (codes "uan://" ++ (text ++ end)) ≡ uan_from (good_parts name_form (host_of text) (port_in text) (path_of text ++ end))
unfolding uan_of
name_is text =
    ap (λ o. uan_from (parts_after_scheme name_form o)) (behind_given name_form.scheme (codes "uan://") (text ++ end) refl)
    ∙ ap uan_from (cut text)

-- the path `x` is a good one
good_end : is_path (120 ∷ []) ≡ true
unfolding is_path
good_end = refl

-- with no path of its own, both are judged by host and port
plain_name : (h : List ℕ) (port : ℕ) → uan_from (good_parts name_form h (Some port) end) ≡ (if is_host h then Some (record { host = h; port = port; path = 120 ∷ [] }) else None)
plain_name h port = ap (λ t. uan_from (if is_host h && t then Some (h, (port, end)) else None)) good_end ∙ at (is_host h)
  where
    at : (b : Bool) → uan_from (if b && true then Some (h, (port, end)) else None) ≡ (if b then Some (record { host = h; port = port; path = 120 ∷ [] }) else None)
    at true = refl
    at false = refl

plain_service : (h : List ℕ) (port : ℕ) → authority_from (good_parts service_form h (Some port) []) ≡ (if is_host h then Some (record { host = h; port = port }) else None)
plain_service h port = at (is_host h)
  where
    at : (b : Bool) → authority_from (if b && true then Some (h, (port, [])) else None) ≡ (if b then Some (record { host = h; port = port }) else None)
    at true = refl
    at false = refl

-- a text with a path is no service
with_path : (h : List ℕ) (port c : ℕ) (path : List ℕ) → authority_from (good_parts service_form h (Some port) (c ∷ path)) ≡ None
with_path h port c path = at (is_host h)
  where
    at : (b : Bool) → authority_from (if b && false then Some (h, (port, c ∷ path)) else None) ≡ None
    at true = refl
    at false = refl

-- and the name has a longer path than `x`
longer : (h : List ℕ) (port c : ℕ) (path : List ℕ) (u : Uan) (t : Bool) → uan_from (if t then Some (h, (port, c ∷ (path ++ end))) else None) ≡ Some u → u.path ≡ 120 ∷ [] → ⊥
longer h port c path u false e s = absurd cc
longer h port c path u true e s =
    let same : path ++ end ≡ u.path = cc in
    omega (arith, ap length (same ∙ s), length-append path end)

same : (h : List ℕ) (p : Option ℕ) (path : List ℕ) (u : Uan) → uan_from (good_parts name_form h p (path ++ end)) ≡ Some u → u.path ≡ 120 ∷ []
    → Some (record { host = u.host; port = u.port }) ≡ authority_from (good_parts service_form h p path)
same h None path u e s = absurd cc
same h (Some port) [] u e s = at (is_host h) (sym (plain_name h port) ∙ e) ∙ sym (plain_service h port)
  where
    at : (b : Bool) → (if b then Some (record { host = h; port = port; path = 120 ∷ [] }) else None) ≡ Some u
        → ◌≡◌ {A = Option Authority} (Some (record { host = u.host; port = u.port })) (if b then Some (record { host = h; port = port }) else None)
    at true e = let is : record { host = h; port = port; path = 120 ∷ [] } ≡ u = cc in sym (ap (λ (v : Uan). Some (record { host = v.host; port = v.port })) is)
    at false e = absurd cc
same h (Some port) (c ∷ path) u e s = absurd (longer h port c path u _ e s)

other : (h : List ℕ) (p : Option ℕ) (path : List ℕ) (u : Uan) → uan_from (good_parts name_form h p (path ++ end)) ≡ Some u → (u.path ≡ 120 ∷ [] → ⊥)
    → None ≡ authority_from (good_parts service_form h p path)
other h None path u e s = refl
other h (Some port) [] u e s = at (is_host h) (sym (plain_name h port) ∙ e) ∙ sym (plain_service h port)
  where
    at : (b : Bool) → (if b then Some (record { host = h; port = port; path = 120 ∷ [] }) else None) ≡ Some u
        → ◌≡◌ {A = Option Authority} None (if b then Some (record { host = h; port = port }) else None)
    at true e = let is : record { host = h; port = port; path = 120 ∷ [] } ≡ u = cc in absurd (s (sym (ap (λ (v : Uan). v.path) is)))
    at false e = refl
other h (Some port) (c ∷ path) u e s = sym (with_path h port c path)

none : (h : List ℕ) (p : Option ℕ) (path : List ℕ) → uan_from (good_parts name_form h p (path ++ end)) ≡ None → None ≡ authority_from (good_parts service_form h p path)
none h None path e = refl
none h (Some port) [] e = at (is_host h) (sym (plain_name h port) ∙ e) ∙ sym (plain_service h port)
  where
    at : (b : Bool) → ◌≡◌ {A = Option Uan} (if b then Some (record { host = h; port = port; path = 120 ∷ [] }) else None) None
        → ◌≡◌ {A = Option Authority} None (if b then Some (record { host = h; port = port }) else None)
    at true e = absurd cc
    at false e = refl
none h (Some port) (c ∷ path) e = sym (with_path h port c path)

-- ---- what the code asks

pub authority_is : (text : List ℕ) (u : Uan) → ReadsUan (codes "uan://" ++ (text ++ codes "/x")) (Ok u) → u.path ≡ codes "x" → Some (record { host = u.host; port = u.port }) ≡ authority_of text
unfolding authority_of
authority_is text u reads s = same (host_of text) (port_in text) (path_of text) u (sym (name_is text) ∙ names_are_given.uan _ u reads) s

pub other_path : (text : List ℕ) (u : Uan) → ReadsUan (codes "uan://" ++ (text ++ codes "/x")) (Ok u) → (u.path ≡ codes "x" → ⊥) → None ≡ authority_of text
unfolding authority_of
other_path text u reads s = other (host_of text) (port_in text) (path_of text) u (sym (name_is text) ∙ names_are_given.uan _ u reads) s

pub no_authority : (text : List ℕ) (f : NameFault) → ReadsUan (codes "uan://" ++ (text ++ codes "/x")) (Err f) → (f ≡ fault.Memory → ⊥) → None ≡ authority_of text
unfolding authority_of
no_authority text f reads s = none (host_of text) (port_in text) (path_of text) (sym (name_is text) ∙ names_are_given.no_uan _ f s reads)

pub authority_at : (text name : List ℕ) (u : Uan) (path : List ℕ) (t : Bool) → name ≡ (codes "uan://" ++ text) ++ codes "/x" → ReadsUan name (Ok u) → path ≡ u.path
    → t ≡ bytes_eq path (codes "x") → t ≡ true → Some (record { host = u.host; port = u.port }) ≡ authority_of text
authority_at text name u path t whole reads same test passes =
    authority_is text u (subst (λ n. ReadsUan n (Ok u)) (whole ∙ append_assoc (codes "uan://") text (codes "/x")) reads)
    (sym same ∙ (bytes_eq-Decides path (codes "x")).0 (sym test ∙ passes))

pub authority_not : (text name : List ℕ) (u : Uan) (path : List ℕ) (t : Bool) → name ≡ (codes "uan://" ++ text) ++ codes "/x" → ReadsUan name (Ok u) → path ≡ u.path
    → t ≡ bytes_eq path (codes "x") → t ≡ false → None ≡ authority_of text
authority_not text name u path t whole reads same test fails =
    other_path text u (subst (λ n. ReadsUan n (Ok u)) (whole ∙ append_assoc (codes "uan://") text (codes "/x")) reads)
    (λ e. true≢false (sym (test ∙ (bytes_eq-Decides path (codes "x")).1 (same ∙ e)) ∙ fails))
