-- What holds of plans that are read.
use Rattle.std.proofs.Common.{◌≡◌, ℕ, suc, ◌+◌, ◌≤◌, nat_le, nat_lt, Bool, true, false, ◌&&◌, not, ◌||◌, Option, Some, None, List, [], ◌∷◌, ◌++◌, length, map, refl, sym, ap, subst, ◌∙◌, arith}
use Rattle.std.specs.Prelude.{if◌then◌else◌}
use Rattle.std.specs.List.{list_all}
use Rattle.std.specs.Str.{bytes_eq}
use Rattle.std.specs.Str.Parse.{digits_value}
use Rattle.std.specs.Fmt.{decimal}
use Rattle.std.proofs.lemmas.Bool.Decides.{nat_tests}
use Rattle.toml.specs.Data.{Members}
use Rattle.sal_value.specs.declared.name.Authority.{Authority}
use Rattle.sal_value.specs.declared.name.Ual.{Ual}
use Rattle.sal_value.specs.declared.value.Value.TheVariants.{Str, Array}
use Rattle.sal_value.specs.declared.constants.TheConstants.{NAME_PORT}
use Rattle.sal_value.specs.Names.{is_host, is_port, is_ual, ual_of, port_of, good_parts, lower_case, until, from_first, ends_host, is_slash}
use Rattle.sal_value.specs.Spelling.{is_legal}
use Rattle.sal_value.proofs.Decided.{names_are_decided}
use Rattle.sal_value.proofs.Readings.{locators_are_read}
use Rattle.sal_plan.specs.declared.constants.TheConstants.{MOST_THEATRES, MOST_SERVICES}
use Rattle.sal_plan.specs.Services.{service_form, is_nothing, authority_from, authority_of}
use Rattle.sal_plan.specs.Rules.{cons_some, each, or_empty, is_missing, locators_of, authorities_of, theatre_texts, service_texts, word_texts, words_of, has_repeat, locator_address, has_other_key}
use Rattle.sal_plan.specs.Plans.{lowest_from, lowest_by, plan_by, plan_of, table_rules, table_of, lowest_rule, plan_written, is_authority, is_text, IsPlan}

-- ---- what each item gives

-- so many are given
counts_by : {B : Type 0} (o : Option B) (r : Option (List B)) (n : ℕ) (ys : List B) → cons_some o r ≡ Some ys → ((rest : List B) → r ≡ Some rest → length rest ≡ n) → length ys ≡ suc n
counts_by None r n ys e h = absurd cc
counts_by (Some y) None n ys e h = absurd cc
counts_by (Some y) (Some rest) n ys e h = let same : y ∷ rest ≡ ys = cc in sym (ap length same) ∙ ap suc (h rest refl)

counts : {A B : Type 0} (f : A → Option B) (xs : List A) (ys : List B) → each f xs ≡ Some ys → length ys ≡ length xs
counts f [] ys e = let same : [] ≡ ys = cc in sym (ap length same)
counts f (x ∷ xs) ys e = counts_by (f x) (each f xs) (length xs) ys e (λ rest is. counts f xs rest is)

-- what holds of all that is given one by one holds of all
all_by : {B : Type 0} (test : B → Bool) (o : Option B) (r : Option (List B)) (ys : List B) → cons_some o r ≡ Some ys
    → ((y : B) → o ≡ Some y → test y ≡ true) → ((rest : List B) → r ≡ Some rest → list_all test rest ≡ true) → list_all test ys ≡ true
all_by test None r ys e h k = absurd cc
all_by test (Some y) None ys e h k = absurd cc
all_by test (Some y) (Some rest) ys e h k =
    let same : y ∷ rest ≡ ys = cc in
    subst (λ zs. list_all test zs ≡ true) same (ap (λ b. b && list_all test rest) (h y refl) ∙ k rest refl)

all_given : {A B : Type 0} (test : B → Bool) (f : A → Option B) → ((x : A) (y : B) → f x ≡ Some y → test y ≡ true) → (xs : List A) (ys : List B) → each f xs ≡ Some ys → list_all test ys ≡ true
all_given test f h [] ys e = let same : [] ≡ ys = cc in subst (λ zs. list_all test zs ≡ true) same refl
all_given test f h (x ∷ xs) ys e = all_by test (f x) (each f xs) ys e (h x) (λ rest is. all_given test f h xs rest is)

-- ---- addresses

locator_good : (text : List ℕ) (l : Ual) → ual_of text ≡ Some l → is_ual l ≡ true
locator_good text l e = locators_are_read.given text l (names_are_decided.ual text l e)

digits_good : (b c : Bool) (n m : ℕ) → c ≡ is_port n → (if b && c then Some n else None) ≡ Some m → is_port m ≡ true
digits_good true true n m is e = let same : n ≡ m = cc in subst (λ z. is_port z ≡ true) same (sym is)
digits_good true false n m is e = absurd cc
digits_good false c n m is e = absurd cc

port_good : (part : List ℕ) (m : ℕ) → port_of NAME_PORT part ≡ Some m → is_port m ≡ true
port_good [] m e = let same : NAME_PORT ≡ m = cc in subst (λ z. is_port z ≡ true) same refl
port_good (colon ∷ digits) m e =
    let n : ℕ = digits_value 10 digits in
    digits_good (bytes_eq (decimal n) digits) (is_port n) n m refl e

parts_good : (h : List ℕ) (p : Option ℕ) (path : List ℕ) (a : Authority) → ((m : ℕ) → p ≡ Some m → is_port m ≡ true) → authority_from (good_parts service_form h p path) ≡ Some a → is_authority a ≡ true
parts_good h None path a good e = absurd cc
parts_good h (Some port) path a good e = at (is_host h) (is_nothing path) refl e
  where
    at : (b c : Bool) → is_host h ≡ b → authority_from (if b && c then Some (h, (port, path)) else None) ≡ Some a → is_authority a ≡ true
    at true true host e =
        let same : record { host = h; port = port } ≡ a = cc in
        subst (λ z. is_authority z ≡ true) same (ap (λ b. b && is_port port) host ∙ good port refl)
    at true false host e = absurd cc
    at false c host e = absurd cc

authority_good : (text : List ℕ) (a : Authority) → authority_of text ≡ Some a → is_authority a ≡ true
unfolding authority_of
authority_good text a e =
    parts_good (lower_case (until ends_host text)) (port_of NAME_PORT (until is_slash (from_first ends_host text))) (from_first is_slash (from_first ends_host text)) a
    (λ m is. port_good (until is_slash (from_first ends_host text)) m is) e

-- ---- rules that aren't broken

head_passes : (n : ℕ) (broken : Bool) (rules : List Bool) → lowest_from n (broken ∷ rules) ≡ None → (broken ≡ false) × (lowest_from (n + 1) rules ≡ None)
head_passes n true rules e = absurd cc
head_passes n false rules e = (refl, e)

not_missing : {A : Type 0} (o : Option (List A)) → is_missing o ≡ false → o ≡ Some (or_empty o)
not_missing None e = absurd cc
not_missing (Some xs) e = refl

locators_given : (texts : Option (List (List ℕ))) → is_missing (locators_of texts) ≡ false → each ual_of (or_empty texts) ≡ Some (or_empty (locators_of texts))
unfolding locators_of
locators_given texts e = not_missing (locators_of texts) e

authorities_given : (texts : Option (List (List ℕ))) → is_missing (authorities_of texts) ≡ false → each authority_of (or_empty texts) ≡ Some (or_empty (authorities_of texts))
unfolding authorities_of
authorities_given texts e = not_missing (authorities_of texts) e

in_range : (n : ℕ) → not (nat_le 1 n && nat_le n 8) ≡ false → (1 ≤ n) × (n ≤ 8)
in_range n e = (grind (arith, nat_tests), grind (arith, nat_tests))

few : (n : ℕ) → nat_lt 4 n ≡ false → n ≤ 4
few n e = grind (arith, nat_tests)

all_texts : (xs : List (List ℕ)) → list_all is_text (map Str xs) ≡ true
all_texts [] = refl
all_texts (x ∷ xs) = all_texts xs

legal_by : (a b c : Bool) → (a || (not b || c)) ≡ false → b ≡ true
legal_by true b c e = absurd cc
legal_by false true c e = refl
legal_by false false c e = absurd cc

-- none of eight rules is broken
record AllPass (q1 q2 q3 q4 q5 q6 q7 q8 : Bool) : Type 0 where
  second : q2 ≡ false
  third : q3 ≡ false
  fifth : q5 ≡ false
  sixth : q6 ≡ false
  seventh : q7 ≡ false
  eighth : q8 ≡ false

all_pass : (q1 q2 q3 q4 q5 q6 q7 q8 : Bool) → lowest_from 1 (q1 ∷ q2 ∷ q3 ∷ q4 ∷ q5 ∷ q6 ∷ q7 ∷ q8 ∷ []) ≡ None → AllPass q1 q2 q3 q4 q5 q6 q7 q8
all_pass q1 q2 q3 q4 q5 q6 q7 q8 e =
    let r1 = head_passes 1 q1 (q2 ∷ q3 ∷ q4 ∷ q5 ∷ q6 ∷ q7 ∷ q8 ∷ []) e in
    let r2 = head_passes 2 q2 (q3 ∷ q4 ∷ q5 ∷ q6 ∷ q7 ∷ q8 ∷ []) r1.1 in
    let r3 = head_passes 3 q3 (q4 ∷ q5 ∷ q6 ∷ q7 ∷ q8 ∷ []) r2.1 in
    let r4 = head_passes 4 q4 (q5 ∷ q6 ∷ q7 ∷ q8 ∷ []) r3.1 in
    let r5 = head_passes 5 q5 (q6 ∷ q7 ∷ q8 ∷ []) r4.1 in
    let r6 = head_passes 6 q6 (q7 ∷ q8 ∷ []) r5.1 in
    let r7 = head_passes 7 q7 (q8 ∷ []) r6.1 in
    let r8 = head_passes 8 q8 [] r7.1 in
    record { second = r2.0; third = r3.0; fifth = r5.0; sixth = r6.0; seventh = r7.0; eighth = r8.0 }

table_keeps : (t : Members) → lowest_from 1 (table_rules t) ≡ None → IsPlan (plan_of t)
unfolding table_rules plan_of
table_keeps t e =
    let theatres : Option (List (List ℕ)) = theatre_texts t in
    let services : Option (List (List ℕ)) = service_texts t in
    let words : Option (List (List ℕ)) = word_texts t in
    let q = all_pass (is_missing theatres) (not (nat_le 1 (length (or_empty theatres)) && nat_le (length (or_empty theatres)) MOST_THEATRES)) (is_missing (locators_of theatres))
    (is_missing services) (nat_lt MOST_SERVICES (length (or_empty services))) (is_missing (authorities_of services))
    (has_repeat (map locator_address (or_empty (locators_of theatres)) ++ or_empty (authorities_of services)))
    (is_missing words || (not (is_legal (Array (words_of words))) || has_other_key t)) e in
    let range = in_range (length (or_empty theatres)) q.second in
    let many = counts ual_of (or_empty theatres) (or_empty (locators_of theatres)) (locators_given theatres q.third) in
    let others = counts authority_of (or_empty services) (or_empty (authorities_of services)) (authorities_given services q.sixth) in
    record {
      some_theatre = subst (λ n. 1 ≤ n) (sym many) range.0;
      theatres = subst (λ n. n ≤ 8) (sym many) range.1;
      services = subst (λ n. n ≤ 4) (sym others) (few (length (or_empty services)) q.fifth);
      addresses = q.seventh;
      locators = all_given is_ual ual_of locator_good (or_empty theatres) (or_empty (locators_of theatres)) (locators_given theatres q.third);
      authorities = all_given is_authority authority_of authority_good (or_empty services) (or_empty (authorities_of services)) (authorities_given services q.sixth);
      texts = all_texts (or_empty words);
      words = legal_by (is_missing words) (is_legal (Array (words_of words))) (has_other_key t) q.eighth;
    }

keeps_by : (o : Option Members) → lowest_by o ≡ None → IsPlan (plan_by o)
keeps_by None e = absurd cc
keeps_by (Some t) e = table_keeps t e

-- a plan that is read keeps the rules
pub keeps : (text : List ℕ) → lowest_rule text ≡ None → IsPlan (plan_written text)
keeps text e = keeps_by (table_of text) e
