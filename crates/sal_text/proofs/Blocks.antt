-- The end of a comment, byte by byte.
use Rattle.std.proofs.Common.{◌≡◌, ℕ, suc, ◌+◌, ◌<◌, Bool, true, false, ◌&&◌, nat_eq, cond, List, [], ◌∷◌, ◌++◌, length, drop, get_or, drop-cons, Option, Some, None, option_map, refl, ap, sym, ◌∙◌, add-one, arith}
use Rattle.std.proofs.lemmas.Bool.{and_parts, or_from, or_parts, eqb-true}
use Rattle.sal_text.specs.Tokens.{begins_slash, holds_end}
use Rattle.sal_text.specs.code.Scanning.{block_length}

pub map_more : (o : Option ℕ) (i : ℕ) → option_map (λ n. n + i) (option_map (λ n. n + 1) o) ≡ option_map (λ n. n + (i + 1)) o
map_more None i = refl
map_more (Some n) i = ap (λ m. Some m) (let e : n + 1 + i ≡ n + (i + 1) = omega arith in e)

block_at : (c : ℕ) (cs : List ℕ) → (nat_eq c 42 && begins_slash cs) ≡ false → block_length (c ∷ cs) ≡ option_map (λ n. n + 1) (block_length cs)
block_at c cs e = ap (λ b. cond b (Some 2) (option_map (λ n. n + 1) (block_length cs))) e

-- where no comment ends at a byte, the search goes on after it
pub block_step : (text : List ℕ) (i : ℕ) → i < length text → (nat_eq (get_or text i 0) 42 && begins_slash (drop (i + 1) text)) ≡ false →
    block_length text ≡ option_map (λ n. n + i) (block_length (drop i text)) → block_length text ≡ option_map (λ n. n + (i + 1)) (block_length (drop (i + 1) text))
block_step text i lt e h =
    let d : drop i text ≡ get_or text i 0 ∷ drop (i + 1) text = drop-cons text i 0 lt ∙ ap (λ k. get_or text i 0 ∷ drop k text) (sym (add-one i)) in
    h
    ∙ (ap (λ t. option_map (λ n. n + i) (block_length t)) d
    ∙ (ap (option_map (λ n. n + i)) (block_at (get_or text i 0) (drop (i + 1) text) e) ∙ map_more (block_length (drop (i + 1) text)) i))

-- ---- what is found

pub map_is : (o : Option ℕ) (n : ℕ) → option_map (λ m. m + 1) o ≡ Some n → (m : ℕ) × (o ≡ Some m) × (m + 1 ≡ n)
map_is None n h = absurd (cc)
map_is (Some m) n h = (m, refl, cc)

pub map_none : (o : Option ℕ) → option_map (λ m. m + 1) o ≡ None → o ≡ None
map_none None h = refl
map_none (Some m) h = absurd (cc)

-- the first `*/` ends after n bytes
pub record Ended (text : List ℕ) (n : ℕ) : Type 0 where
  pub inside : List ℕ
  pub rest : List ℕ
  pub spelled : text ≡ inside ++ 42 ∷ 47 ∷ rest
  pub counted : length inside + 2 ≡ n
  pub first : holds_end (inside ++ 42 ∷ []) ≡ false

slash_front : (inside rest : List ℕ) → begins_slash (inside ++ 42 ∷ rest) ≡ begins_slash (inside ++ 42 ∷ [])
slash_front [] rest = refl
slash_front (c ∷ cs) rest = refl

ended_here : (c n : ℕ) (cs : List ℕ) → nat_eq c 42 ≡ true → begins_slash cs ≡ true → 2 ≡ n → Ended (c ∷ cs) n
ended_here c n [] e f k = absurd (let g : false ≡ true = f in cc)
ended_here c n (d ∷ ds) e f k =
    let x : c ≡ 42 = eqb-true c 42 e in
    let y : d ≡ 47 = eqb-true d 47 f in
    record { inside = []; rest = ds; spelled = ap (λ z. z ∷ d ∷ ds) x ∙ ap (λ z. 42 ∷ z ∷ ds) y; counted = k; first = refl }

ended_more : (c n m : ℕ) (cs : List ℕ) → (nat_eq c 42 && begins_slash cs) ≡ false → m + 1 ≡ n → Ended cs m → Ended (c ∷ cs) n
ended_more c n m cs e k i =
    let here : (nat_eq c 42 && begins_slash (i.inside ++ 42 ∷ [])) ≡ false =
    ap (λ b. nat_eq c 42 && b) (sym (slash_front i.inside (47 ∷ i.rest)) ∙ ap begins_slash (sym i.spelled)) ∙ e in
    record {
      inside = c ∷ i.inside;
      rest = i.rest;
      spelled = ap (λ t. c ∷ t) i.spelled;
      counted = let s = i.counted in omega arith;
      first = or_from _ _ here i.first;
    }

ended_at : (c n : ℕ) (cs : List ℕ) (b : Bool) → (nat_eq c 42 && begins_slash cs) ≡ b → ((m : ℕ) → block_length cs ≡ Some m → Ended cs m) →
    cond b (Some 2) (option_map (λ m. m + 1) (block_length cs)) ≡ Some n → Ended (c ∷ cs) n
ended_at c n cs true e more h =
    let p = and_parts (nat_eq c 42) (begins_slash cs) e in
    ended_here c n cs p.0 p.1 (cc)
ended_at c n cs false e more h =
    let m = map_is (block_length cs) n h in
    ended_more c n m.0 cs e m.2 (more m.0 m.1)

pub block_is : (text : List ℕ) (n : ℕ) → block_length text ≡ Some n → Ended text n
block_is [] n h = absurd (cc)
block_is (c ∷ cs) n h = ended_at c n cs (nat_eq c 42 && begins_slash cs) refl (block_is cs) h

open_at : (c : ℕ) (cs : List ℕ) (b : Bool) → (nat_eq c 42 && begins_slash cs) ≡ b → (block_length cs ≡ None → holds_end cs ≡ false) →
    cond b (Some 2) (option_map (λ m. m + 1) (block_length cs)) ≡ None → holds_end (c ∷ cs) ≡ false
open_at c cs true e more h = absurd (cc)
open_at c cs false e more h = or_from _ _ e (more (map_none (block_length cs) h))

pub block_open : (text : List ℕ) → block_length text ≡ None → holds_end text ≡ false
block_open [] h = refl
block_open (c ∷ cs) h = open_at c cs (nat_eq c 42 && begins_slash cs) refl (block_open cs) h

-- ---- what is there is found

pub block_over : (inside rest : List ℕ) → holds_end (inside ++ 42 ∷ []) ≡ false → block_length (inside ++ 42 ∷ 47 ∷ rest) ≡ Some (length inside + 2)
block_over [] rest h = refl
block_over (c ∷ cs) rest h =
    let p = or_parts (nat_eq c 42 && begins_slash (cs ++ 42 ∷ [])) (holds_end (cs ++ 42 ∷ [])) h in
    block_at c (cs ++ 42 ∷ 47 ∷ rest) (ap (λ b. nat_eq c 42 && b) (slash_front cs (47 ∷ rest)) ∙ p.0)
    ∙ (ap (option_map (λ n. n + 1)) (block_over cs rest p.1) ∙ ap (λ n. Some n) (let e : length cs + 2 + 1 ≡ suc (length cs) + 2 = omega arith in e))

pub block_never : (text : List ℕ) → holds_end text ≡ false → block_length text ≡ None
block_never [] h = refl
block_never (c ∷ cs) h =
    let p = or_parts (nat_eq c 42 && begins_slash cs) (holds_end cs) h in
    block_at c cs p.0 ∙ ap (option_map (λ n. n + 1)) (block_never cs p.1)
