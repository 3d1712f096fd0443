-- The open brackets, token by token.
use Rattle.std.proofs.Common.{◌≡◌, ℕ, zero, suc, ◌+◌, ◌-◌, ◌<◌, ◌≤◌, List, [], ◌∷◌, ◌++◌, length, take, drop, get_or, Option, Some, None, refl, sym, ◌∙◌, ap, add-one, arith}
use Rattle.std.proofs.Math.Seq.{take-suc}
use Rattle.sal_ast.specs.Brackets.{TokenRole, Opens, Closes, Waits, Keeps, kind_role}
use Rattle.sal_grammar.specs.Refusals.{opened_by, open_after, without_first, first_place, bracket_before}
use Rattle.sal_grammar.specs.Tokens.{Token}
use Rattle.sal_reader.specs.declared.brackets.Effect.{Effect}
use Rattle.sal_reader.specs.declared.brackets.Effect.TheVariants as e
use Rattle.sal_reader.specs.code.Brackets.{effect_of}

open_append : (places : List ℕ) (ts us : List Token) → open_after places (ts ++ us) ≡ open_after (open_after places ts) us
open_append places [] us = refl
open_append places (t ∷ ts) us = open_append (opened_by (kind_role t.kind t.text) t.at places) ts us

open_one : (places : List ℕ) (ts us : List Token) (t : Token) → us ≡ ts ++ t ∷ [] → open_after places us ≡ opened_by (kind_role t.kind t.text) t.at (open_after places ts)
open_one places ts us t h = ap (open_after places) h ∙ open_append places ts (t ∷ [])

drop_none : (n : ℕ) → drop {A = ℕ} n [] ≡ []
drop_none zero = refl
drop_none (suc n) = refl

drop_rest : (n : ℕ) (places : List ℕ) → drop n (without_first places) ≡ drop (n + 1) places
drop_rest n [] = drop_none n ∙ sym (drop_none (n + 1))
drop_rest n (p ∷ ps) = sym (ap (λ k. drop k (p ∷ ps)) (add-one n))

after_open : (role : TokenRole) (at n : ℕ) (places : List ℕ) → effect_of role ≡ e.Opens → 0 < n → drop n (opened_by role at places) ≡ drop (n - 1) places
after_open (Opens b) at zero places h lt = absurd (omega arith)
after_open (Opens b) at (suc n) places h lt = ap (λ k. drop k places) (omega arith)
after_open (Closes b) at n places h lt = absurd (cc)
after_open Waits at n places h lt = absurd (cc)
after_open Keeps at n places h lt = absurd (cc)

found_open : (role : TokenRole) (at n : ℕ) (places : List ℕ) → effect_of role ≡ e.Opens → n ≡ 0 → first_place (drop n (opened_by role at places)) ≡ Some at
found_open (Opens b) at n places h z = ap (λ k. first_place (drop k (at ∷ places))) z
found_open (Closes b) at n places h z = absurd (cc)
found_open Waits at n places h z = absurd (cc)
found_open Keeps at n places h z = absurd (cc)

after_close : (role : TokenRole) (at n : ℕ) (places : List ℕ) → effect_of role ≡ e.Closes → drop n (opened_by role at places) ≡ drop (n + 1) places
after_close (Opens b) at n places h = absurd (cc)
after_close (Closes b) at n places h = drop_rest n places
after_close Waits at n places h = absurd (cc)
after_close Keeps at n places h = absurd (cc)

after_other : (role : TokenRole) (at n : ℕ) (places : List ℕ) → effect_of role ≡ e.Keeps → drop n (opened_by role at places) ≡ drop n places
after_other (Opens b) at n places h = absurd (cc)
after_other (Closes b) at n places h = absurd (cc)
after_other Waits at n places h = refl
after_other Keeps at n places h = refl

-- ---- the turns of a scan from the last token to the first

abbrev pub role : Token → TokenRole
role t = kind_role t.kind t.text

-- of the first i tokens, so many closing brackets after them are still to be opened
abbrev pub Reached : List Token → ℕ → ℕ → ℕ → Type 0
Reached tokens count closed i = bracket_before tokens count ≡ first_place (drop closed (open_after [] (take i tokens)))

open_at : (tokens : List Token) (i : ℕ) (t : Token) → 0 < i → i ≤ length tokens → t ≡ get_or tokens (i - 1) t
    → open_after [] (take i tokens) ≡ opened_by (role t) t.at (open_after [] (take (i - 1) tokens))
open_at tokens zero t lt le e = absurd (omega arith)
open_at tokens (suc i) t lt le e =
    let z : suc i - 1 ≡ i = omega arith in
    let g : get_or tokens i t ≡ t = sym (e ∙ ap (λ k. get_or tokens k t) z) in
    open_one [] (take i tokens) (take (suc i) tokens) t (take-suc tokens i t (omega arith) ∙ ap (λ x. take i tokens ++ x ∷ []) g)
    ∙ ap (λ k. opened_by (role t) t.at (open_after [] (take k tokens))) (sym z)

back_to : (tokens : List Token) (count closed n i : ℕ) (t : Token) → 0 < i → i ≤ length tokens → t ≡ get_or tokens (i - 1) t → Reached tokens count closed i
    → drop closed (opened_by (role t) t.at (open_after [] (take (i - 1) tokens))) ≡ drop n (open_after [] (take (i - 1) tokens))
    → Reached tokens count n (i - 1)
back_to tokens count closed n i t lt le e h step =
    h ∙ ap (λ p. first_place (drop closed p)) (open_at tokens i t lt le e) ∙ ap first_place step

pub opens_found : (tokens : List Token) (count closed i : ℕ) (t : Token) → 0 < i → i ≤ length tokens → t ≡ get_or tokens (i - 1) t
    → effect_of (role t) ≡ e.Opens → closed ≡ 0 → Reached tokens count closed i → Some t.at ≡ bracket_before tokens count
opens_found tokens count closed i t lt le e f z h =
    sym (h ∙ ap (λ p. first_place (drop closed p)) (open_at tokens i t lt le e) ∙ found_open (role t) t.at closed (open_after [] (take (i - 1) tokens)) f z)

pub opens_step : (tokens : List Token) (count closed i : ℕ) (t : Token) → 0 < i → i ≤ length tokens → t ≡ get_or tokens (i - 1) t
    → effect_of (role t) ≡ e.Opens → 0 < closed → Reached tokens count closed i → Reached tokens count (closed - 1) (i - 1)
opens_step tokens count closed i t lt le e f z h =
    back_to tokens count closed (closed - 1) i t lt le e h (after_open (role t) t.at closed (open_after [] (take (i - 1) tokens)) f z)

pub closes_step : (tokens : List Token) (count closed i : ℕ) (t : Token) → 0 < i → i ≤ length tokens → t ≡ get_or tokens (i - 1) t
    → effect_of (role t) ≡ e.Closes → Reached tokens count closed i → Reached tokens count (closed + 1) (i - 1)
closes_step tokens count closed i t lt le e f h =
    back_to tokens count closed (closed + 1) i t lt le e h (after_close (role t) t.at closed (open_after [] (take (i - 1) tokens)) f)

pub keeps_step : (tokens : List Token) (count closed i : ℕ) (t : Token) → 0 < i → i ≤ length tokens → t ≡ get_or tokens (i - 1) t
    → effect_of (role t) ≡ e.Keeps → Reached tokens count closed i → Reached tokens count closed (i - 1)
keeps_step tokens count closed i t lt le e f h =
    back_to tokens count closed closed i t lt le e h (after_other (role t) t.at closed (open_after [] (take (i - 1) tokens)) f)
