-- Where a string is closed.
use Rattle.std.proofs.Common.{◌≡◌, ℕ, zero, suc, ◌+◌, ◌≤◌, Bool, true, false, not, ◌&&◌, nat_eq, cond, List, [], ◌∷◌, ◌++◌, length, take, drop, Some, None, option_map, refl, ap, sym, ◌∙◌, subst, add-one, append-nil, length-append, arith}
use Rattle.std.proofs.lemmas.Bool.{false_from_ne_true, and_parts, and_from, not-true, eqb-true}
use Rattle.std.proofs.lemmas.List.{take-append-drop}
use Rattle.sal_text.specs.Tokens.{is_string_rest, is_string, is_in_line, is_empty}
use Rattle.sal_text.specs.code.Scanning.{length_to_quote}
use Rattle.sal_text.proofs.Blocks.{map_is}

-- a string is closed after n bytes
pub record Closed (escaped : Bool) (text : List ℕ) (n : ℕ) : Type 0 where
  pub is : is_string_rest escaped (take n text) ≡ true
  pub within : n ≤ length text

next_true : (c n m : ℕ) (cs : List ℕ) → nat_eq c 10 ≡ false → m + 1 ≡ n → Closed false cs m → Closed true (c ∷ cs) n
unfolding is_string_rest
next_true c n m cs e k i =
    let s : suc m ≡ n = sym (add-one m) ∙ k in
    subst (Closed true (c ∷ cs)) s
    record { is = and_from (is_in_line c) _ (ap not e) i.is; within = let w = i.within in omega arith }

next_false : (c n m : ℕ) (cs : List ℕ) → nat_eq c 34 ≡ false → nat_eq c 10 ≡ false → m + 1 ≡ n → Closed (nat_eq c 92) cs m → Closed false (c ∷ cs) n
unfolding is_string_rest
next_false c n m cs q e k i =
    let s : suc m ≡ n = sym (add-one m) ∙ k in
    subst (Closed false (c ∷ cs)) s
    record {
      is = ap (λ b. cond b (is_empty (take m cs)) (is_in_line c && is_string_rest (nat_eq c 92) (take m cs))) q ∙ and_from (is_in_line c) _ (ap not e) i.is;
      within = let w = i.within in omega arith;
    }

here : (c n : ℕ) (cs : List ℕ) → nat_eq c 34 ≡ true → 1 ≡ n → Closed false (c ∷ cs) n
unfolding is_string_rest
here c n cs q k =
    subst (Closed false (c ∷ cs)) k
    record { is = ap (λ b. cond b true (is_in_line c && is_string_rest (nat_eq c 92) [])) q; within = omega arith }

at_true : (c n : ℕ) (cs : List ℕ) (b : Bool) → nat_eq c 10 ≡ b → ((m : ℕ) → length_to_quote false cs ≡ Some m → Closed false cs m) →
    cond b None (option_map (λ m. m + 1) (length_to_quote false cs)) ≡ Some n → Closed true (c ∷ cs) n
at_true c n cs true e more h = absurd (cc)
at_true c n cs false e more h =
    let m = map_is (length_to_quote false cs) n h in
    next_true c n m.0 cs e m.2 (more m.0 m.1)

at_false : (c n : ℕ) (cs : List ℕ) (b q : Bool) → nat_eq c 10 ≡ b → nat_eq c 34 ≡ q → ((m : ℕ) → length_to_quote (nat_eq c 92) cs ≡ Some m → Closed (nat_eq c 92) cs m) →
    cond b None (cond q (Some 1) (option_map (λ m. m + 1) (length_to_quote (nat_eq c 92) cs))) ≡ Some n → Closed false (c ∷ cs) n
at_false c n cs true q e f more h = absurd (cc)
at_false c n cs false true e f more h = here c n cs f (cc)
at_false c n cs false false e f more h =
    let m = map_is (length_to_quote (nat_eq c 92) cs) n h in
    next_false c n m.0 cs f e m.2 (more m.0 m.1)

pub closed_is : (escaped : Bool) (text : List ℕ) (n : ℕ) → length_to_quote escaped text ≡ Some n → Closed escaped text n
unfolding length_to_quote
closed_is escaped [] n h = absurd (cc)
closed_is true (c ∷ cs) n h = at_true c n cs (nat_eq c 10) refl (closed_is false cs) h
closed_is false (c ∷ cs) n h = at_false c n cs (nat_eq c 10) (nat_eq c 34) refl refl (closed_is (nat_eq c 92) cs) h

-- ---- what is closed is found

over_true : (c : ℕ) (cs rest : List ℕ) → is_in_line c ≡ true → length_to_quote false (cs ++ rest) ≡ Some (length cs) →
    length_to_quote true ((c ∷ cs) ++ rest) ≡ Some (suc (length cs))
unfolding length_to_quote
over_true c cs rest e h =
    let l : nat_eq c 10 ≡ false = not-true (nat_eq c 10) e in
    ap (λ b. cond b None (option_map (λ n. n + 1) (length_to_quote false (cs ++ rest)))) l
    ∙ (ap (option_map (λ n. n + 1)) h ∙ ap (λ n. Some n) (add-one (length cs)))

over_false : (c : ℕ) (cs rest : List ℕ) → nat_eq c 34 ≡ false → is_in_line c ≡ true → length_to_quote (nat_eq c 92) (cs ++ rest) ≡ Some (length cs) →
    length_to_quote false ((c ∷ cs) ++ rest) ≡ Some (suc (length cs))
unfolding length_to_quote
over_false c cs rest q e h =
    let l : nat_eq c 10 ≡ false = not-true (nat_eq c 10) e in
    ap (λ b. cond b None (cond (nat_eq c 34) (Some 1) (option_map (λ n. n + 1) (length_to_quote (nat_eq c 92) (cs ++ rest))))) l
    ∙ (ap (λ b. cond b (Some 1) (option_map (λ n. n + 1) (length_to_quote (nat_eq c 92) (cs ++ rest)))) q
    ∙ (ap (option_map (λ n. n + 1)) h ∙ ap (λ n. Some n) (add-one (length cs))))

over_here : (c : ℕ) (cs rest : List ℕ) → nat_eq c 34 ≡ true → is_empty cs ≡ true → length_to_quote false ((c ∷ cs) ++ rest) ≡ Some (suc (length cs))
unfolding length_to_quote
over_here c (d ∷ ds) rest q e = absurd (let f : false ≡ true = e in cc)
over_here c [] rest q e =
    let l : nat_eq c 10 ≡ false = ap (λ x. nat_eq x 10) (eqb-true c 34 q) in
    ap (λ b. cond b None (cond (nat_eq c 34) (Some 1) (option_map (λ n. n + 1) (length_to_quote (nat_eq c 92) rest)))) l
    ∙ ap (λ b. cond b (Some 1) (option_map (λ n. n + 1) (length_to_quote (nat_eq c 92) rest))) q

over_at : (c : ℕ) (cs rest : List ℕ) (q : Bool) → nat_eq c 34 ≡ q → (is_string_rest (nat_eq c 92) cs ≡ true → length_to_quote (nat_eq c 92) (cs ++ rest) ≡ Some (length cs)) →
    cond q (is_empty cs) (is_in_line c && is_string_rest (nat_eq c 92) cs) ≡ true → length_to_quote false ((c ∷ cs) ++ rest) ≡ Some (suc (length cs))
over_at c cs rest true q more h = over_here c cs rest q h
over_at c cs rest false q more h =
    let p = and_parts (is_in_line c) (is_string_rest (nat_eq c 92) cs) h in
    over_false c cs rest q p.0 (more p.1)

pub closed_over : (escaped : Bool) (text rest : List ℕ) → is_string_rest escaped text ≡ true → length_to_quote escaped (text ++ rest) ≡ Some (length text)
unfolding is_string_rest
closed_over escaped [] rest h = absurd (let f : false ≡ true = h in cc)
closed_over true (c ∷ cs) rest h =
    let p = and_parts (is_in_line c) (is_string_rest false cs) h in
    over_true c cs rest p.0 (closed_over false cs rest p.1)
closed_over false (c ∷ cs) rest h = over_at c cs rest (nat_eq c 34) refl (closed_over (nat_eq c 92) cs rest) h

-- ---- strings

-- no string begins where none is closed
pub never_closed : (text : List ℕ) → length_to_quote false text ≡ None → (n : ℕ) → is_string (take n (34 ∷ text)) ≡ false
never_closed text h zero = refl
never_closed text h (suc n) =
    false_from_ne_true (is_string_rest false (take n text))
    (λ e.
    let f : length_to_quote false (take n text ++ drop n text) ≡ Some (length (take n text)) = closed_over false (take n text) (drop n text) e in
    let g : length_to_quote false text ≡ Some (length (take n text)) = ap (length_to_quote false) (sym (take-append-drop n text)) ∙ f in
    cc)

some_same : (m n : ℕ) → Some m ≡ Some n → m ≡ n
some_same m n h = cc

-- no string begins like a shorter one
pub closed_once : (text : List ℕ) (d : ℕ) (ds : List ℕ) → is_string_rest false text ≡ true → is_string_rest false (text ++ d ∷ ds) ≡ false
closed_once text d ds h =
    false_from_ne_true (is_string_rest false (text ++ d ∷ ds))
    (λ e.
    let f : length_to_quote false (text ++ d ∷ ds) ≡ Some (length text) = closed_over false text (d ∷ ds) h in
    let g : length_to_quote false ((text ++ d ∷ ds) ++ []) ≡ Some (length (text ++ d ∷ ds)) = closed_over false (text ++ d ∷ ds) [] e in
    let k : Some (length text) ≡ Some (length (text ++ d ∷ ds)) = sym f ∙ (ap (length_to_quote false) (sym (append-nil (text ++ d ∷ ds))) ∙ g) in
    omega (arith, some_same (length text) (length (text ++ d ∷ ds)) k, length-append text (d ∷ ds)))
