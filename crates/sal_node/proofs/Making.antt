-- The links of a new node.
use Rattle.std.proofs.Common.{◌≡◌, ℕ, zero, suc, ◌+◌, ◌-◌, ◌<◌, ◌≤◌, Bool, true, false, List, [], ◌∷◌, ◌++◌, map, length, take, drop, set, get_or, refl, sym, ap, ◌∙◌, arith, append_assoc, append-nil}
use Rattle.std.proofs.lemmas.List.{take_all, drop_all}
use Rattle.std.specs.Prelude.{nat_eq, if◌then◌else◌}
use Rattle.sal_carriage.specs.Link.{Link, new_link, push}
use Rattle.sal_node.specs.Links.{numbers_from, links_to, push_all}

pub links_append : (program : List ℕ) (me : ℕ) (ms ns : List ℕ) → links_to program me (ms ++ ns) ≡ links_to program me ms ++ links_to program me ns
unfolding links_to
links_append program me [] ns = refl
links_append program me (m ∷ ms) ns = at (links_append program me ms ns) (nat_eq m me)
  where
    at : (links_to program me (ms ++ ns) ≡ links_to program me ms ++ links_to program me ns)
        → (b : Bool) → (if b then links_to program me (ms ++ ns) else new_link program me m ∷ links_to program me (ms ++ ns))
        ≡ (if b then links_to program me ms else new_link program me m ∷ links_to program me ms) ++ links_to program me ns
    at more true = more
    at more false = ap (λ (ls : List Link). new_link program me m ∷ ls) more

one_number : (n k : ℕ) → n ∷ numbers_from (n + 1) k ≡ numbers_from n (suc k)
unfolding numbers_from
one_number n k = refl

-- what a loop has still to add at a place
abbrev pub links_left : List ℕ → ℕ → ℕ → ℕ → ℕ → List Link
links_left program me first count at = links_to program me (numbers_from (first + at) (count - at))

pub left_one : (program : List ℕ) (me first count at : ℕ) (ls new all : List Link) → at < count → new ≡ ls ++ links_to program me ((first + at) ∷ [])
    → ls ++ links_left program me first count at ≡ all → new ++ links_left program me first count (at + 1) ≡ all
left_one program me first count at ls new all lt n h =
    let k : ℕ = count - (at + 1) in
    let more : count - at ≡ suc k = omega (arith, lt) in
    let next : first + at + 1 ≡ first + (at + 1) = omega arith in
    let rest : List Link = links_left program me first count (at + 1) in
    ap (λ (ms : List Link). ms ++ rest) n
    ∙ append_assoc ls (links_to program me ((first + at) ∷ [])) rest
    ∙ ap (λ (ms : List Link). ls ++ ms) (sym (links_append program me ((first + at) ∷ []) (numbers_from (first + (at + 1)) k)))
    ∙ ap (λ m. ls ++ links_to program me ((first + at) ∷ numbers_from m k)) (sym next)
    ∙ ap (λ (ns : List ℕ). ls ++ links_to program me ns) (one_number (first + at) k)
    ∙ ap (λ m. ls ++ links_to program me (numbers_from (first + at) m)) (sym more)
    ∙ h

pub left_all : (program : List ℕ) (me first count : ℕ) → links_left program me first count 0 ≡ links_to program me (numbers_from first count)
left_all program me first count =
    let here : first + 0 ≡ first = omega arith in
    let whole : count - 0 ≡ count = omega arith in
    λ i. links_to program me (numbers_from (here i) (whole i))

pub left_none : (program : List ℕ) (me first count at : ℕ) (ls all : List Link) → count ≤ at → ls ++ links_left program me first count at ≡ all → ls ≡ all
unfolding numbers_from links_to
left_none program me first count at ls all past h =
    let none : 0 ≡ count - at = omega (arith, past) in
    sym (append-nil ls) ∙ ap (λ n. ls ++ links_to program me (numbers_from (first + at) n)) none ∙ h

pub new_is : (program : List ℕ) (me theatres services : ℕ) (none ms ns : List Link) → none ≡ [] → ms ≡ none ++ links_to program me (numbers_from 0 theatres)
    → ns ≡ ms ++ links_to program me (numbers_from 8 services) → ns ≡ links_to program me (numbers_from 0 theatres ++ numbers_from 8 services)
new_is program me theatres services none ms ns e m n =
    n
    ∙ ap (λ (ls : List Link). ls ++ links_to program me (numbers_from 8 services)) (m ∙ ap (λ (ls : List Link). ls ++ links_to program me (numbers_from 0 theatres)) e)
    ∙ sym (links_append program me (numbers_from 0 theatres) (numbers_from 8 services))

-- ---- what is sent

-- the links once what is due on the first so many of them is sent
abbrev pub pushed_first : ℕ → ℕ → List Link → List Link
pushed_first n now ls = map (push now) (take n ls) ++ drop n ls

one_pushed : (n now : ℕ) (ls : List Link) (l m : Link) → n < length ls → l ≡ get_or (pushed_first n now ls) n l → m ≡ push now l
    → set (pushed_first n now ls) n m ≡ pushed_first (suc n) now ls
one_pushed n now [] l m lt is e = absurd (omega (arith, lt))
one_pushed zero now (x ∷ ls) l m lt is e = ap (λ y. y ∷ ls) (e ∙ ap (push now) is)
one_pushed (suc n) now (x ∷ ls) l m lt is e = ap (λ ys. push now x ∷ ys) (one_pushed n now ls l m (omega (arith, lt)) is e)

pub pushes_one : (n now : ℕ) (ls : List Link) (l m : Link) → n < length ls → l ≡ get_or (pushed_first n now ls) n l → m ≡ push now l
    → set (pushed_first n now ls) n m ≡ pushed_first (n + 1) now ls
pushes_one n now ls l m lt is e =
    let more : suc n ≡ n + 1 = omega arith in
    one_pushed n now ls l m lt is e ∙ ap (λ k. pushed_first k now ls) more

pub pushes_all : (n now : ℕ) (ls new : List Link) → length ls ≤ n → new ≡ pushed_first n now ls → new ≡ push_all now ls
unfolding push_all
pushes_all n now ls new past e =
    e ∙ (λ i. map (push now) (take_all n ls past i) ++ drop_all n ls past i) ∙ append-nil (map (push now) ls)
