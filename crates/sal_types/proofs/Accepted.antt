-- What holds of a program in which nothing is violated.
use Rattle.std.proofs.Common.{◌≡◌, ℕ, ◌+◌, ◌<◌, ◌≤◌, Bool, true, false, nat_lt, zero, suc, List, [], ◌∷◌, ◌++◌, length, slice_get, Option, Some, None, Result, Ok, Err, sym, subst, ◌∙◌, refl, arith}
use Rattle.std.proofs.lemmas.Bool.{ltb-true}
use Rattle.std.proofs.lemmas.List.{length-append}
use Rattle.sal_ast.specs.declared.program.Member.{Member}
use Rattle.sal_ast.specs.declared.program.Member.TheVariants as m
use Rattle.sal_ast.specs.declared.program.Behavior.{Behavior}
use Rattle.sal_ast.specs.declared.program.Program.{Program}
use Rattle.sal_ast.specs.Members.{Handler, as_handler}
use Rattle.sal_sorts.specs.Verdicts.{Violation, Verdict, Good, Bad, rule, violations}
use Rattle.sal_sorts.specs.Refusals.{first, fine, and_then}
use Rattle.sal_types.specs.Members.{count_rules, handler_names, second_rules, is_among, migrate_rules, end_rules}
use Rattle.sal_types.specs.Programs.{behavior_name_rules, program_verdict, violations_of, IsTyped, BeginsWith}
use Rattle.sal_types.specs.code.Checks.{check_behavior, check_behaviors, check_member, check_members, check_program, behavior_rules}
use Rattle.sal_types.proofs.MemberChecks.{behaviors_next, members_next, check-behavior, handler_fine}

-- ---- verdicts and the first violation

none_of : {A : Type 0} (v : Verdict A) (a : A) → first v ≡ Ok a → violations v ≡ []
none_of (Good b) a h = refl
none_of (Bad w ws) a h = absurd cc

first_of_all : {A : Type 0} (v : Verdict A) (w : Violation) → first v ≡ Err w → BeginsWith (violations v) w
first_of_all (Good a) w h = absurd cc
first_of_all (Bad v vs) w h = (vs, cc)

pub accepted : (p : Program) → check_program p ≡ Ok tt → IsTyped p
unfolding check_program violations_of
accepted p h = none_of (program_verdict p) tt h

pub refused : (p : Program) (w : Violation) → check_program p ≡ Err w → BeginsWith (violations_of p) w
unfolding check_program violations_of
refused p w h = first_of_all (program_verdict p) w h

good_of : (v : Verdict (Unit {0})) → violations v ≡ [] → first v ≡ Ok tt
good_of (Good u) h = refl
good_of (Bad w ws) h = absurd cc

pub checked : (p : Program) → IsTyped p → check_program p ≡ Ok tt
unfolding check_program violations_of
checked p h = good_of (program_verdict p) h

-- ---- going on

pub came : {A B : Type 0} (r : Result A Violation) (f : A → Result B Violation) (b : B) → and_then r f ≡ Ok b → (a : A) × (r ≡ Ok a) × (f a ≡ Ok b)
came (Ok a) f b h = (a, refl, h)
came (Err v) f b h = absurd cc

fine_left : (rs qs : List Violation) → fine (rs ++ qs) ≡ Ok tt → fine rs ≡ Ok tt
fine_left [] qs h = refl
fine_left (v ∷ vs) qs h = absurd cc

pub fine_right : (rs qs : List Violation) → fine (rs ++ qs) ≡ Ok tt → fine qs ≡ Ok tt
fine_right [] qs h = h
fine_right (v ∷ vs) qs h = absurd cc

pub holds : (number at : ℕ) (b : Bool) → fine (rule number at b) ≡ Ok tt → b ≡ true
holds number at true h = refl
holds number at false h = absurd cc

-- ---- at most 64 behaviours

pub behaviors_few : (behaviors before bs : List Behavior) → length before ≤ 64 → check_behaviors behaviors before bs ≡ Ok tt → length before + length bs ≤ 64
behaviors_few behaviors before [] few h = omega arith
behaviors_few behaviors before (b ∷ bs) few h =
    let r = came (check_behavior behaviors before b) (λ u. check_behaviors behaviors (before ++ b ∷ []) bs) tt (sym (behaviors_next behaviors before b bs) ∙ h) in
    let rules = came (check_members behaviors b.name.text [] b.members) (λ u. fine (behavior_rules before b)) tt (sym (check-behavior behaviors before b) ∙ r.1) in
    let count : nat_lt (length before) 64 ≡ true = holds 2 b.name.at (nat_lt (length before) 64) (fine_right (behavior_name_rules b.name before) (count_rules 64 (length before) b.name.at) rules.2) in
    let lt : length before < 64 = ltb-true (length before) 64 count in
    let more : length (before ++ b ∷ []) ≡ length before + 1 = length-append before (b ∷ []) in
    let few_more : length (before ++ b ∷ []) ≤ 64 = omega arith in
    let all : length (before ++ b ∷ []) + length bs ≤ 64 = behaviors_few behaviors (before ++ b ∷ []) bs few_more r.2 in
    omega arith

-- each behaviour was checked
pub behavior_checked : (behaviors before bs : List Behavior) (n : ℕ) (b : Behavior) → check_behaviors behaviors before bs ≡ Ok tt → slice_get bs n ≡ Some b → check_members behaviors b.name.text [] b.members ≡ Ok tt
behavior_checked behaviors before [] n b h g = absurd cc
behavior_checked behaviors before (x ∷ bs) zero b h g =
    let r = came (check_behavior behaviors before x) (λ u. check_behaviors behaviors (before ++ x ∷ []) bs) tt (sym (behaviors_next behaviors before x bs) ∙ h) in
    let members = came (check_members behaviors x.name.text [] x.members) (λ u. fine (behavior_rules before x)) tt (sym (check-behavior behaviors before x) ∙ r.1) in
    let same : x ≡ b = cc in
    let P : Behavior → Type 0 = λ y. check_members behaviors y.name.text [] y.members ≡ Ok tt in
    subst P same members.1
behavior_checked behaviors before (x ∷ bs) (suc n) b h g =
    let r = came (check_behavior behaviors before x) (λ u. check_behaviors behaviors (before ++ x ∷ []) bs) tt (sym (behaviors_next behaviors before x bs) ∙ h) in
    behavior_checked behaviors (before ++ x ∷ []) bs n b r.2 g

-- ---- at most 64 handlers

-- how many handlers this is
abbrev one_if_handler : Option Handler → ℕ
one_if_handler None = 0
one_if_handler (Some h) = 1

names_more : (before : List Member) (x : Member) → length (handler_names (before ++ x ∷ [])) ≡ length (handler_names before) + one_if_handler (as_handler x)
names_more [] x = first_name (as_handler x) refl
  where
    first_name : (o : Option Handler) → as_handler x ≡ o → length (handler_names (x ∷ [])) ≡ 0 + one_if_handler (as_handler x)
    first_name None e = rw e refl
    first_name (Some h) e = rw e refl
names_more (y ∷ before) x = next_name (as_handler y) refl (names_more before x)
  where
    next_name : (o : Option Handler) → as_handler y ≡ o → length (handler_names (before ++ x ∷ [])) ≡ length (handler_names before) + one_if_handler (as_handler x) → length (handler_names (y ∷ before ++ x ∷ [])) ≡ length (handler_names (y ∷ before)) + one_if_handler (as_handler x)
    next_name None e h = rw e h
    next_name (Some z) e h = rw e (omega arith)

names_here : (x : Member) (ms : List Member) → length (handler_names (x ∷ ms)) ≡ one_if_handler (as_handler x) + length (handler_names ms)
names_here x ms = here (as_handler x) refl
  where
    here : (o : Option Handler) → as_handler x ≡ o → length (handler_names (x ∷ ms)) ≡ one_if_handler (as_handler x) + length (handler_names ms)
    here None e = rw e (omega arith)
    here (Some z) e = rw e (omega arith)

member_few : (behaviors : List Behavior) (own : List ℕ) (before : List Member) (x : Member) → check_member behaviors own before x ≡ Ok tt → length (handler_names before) ≤ 64 → length (handler_names before) + one_if_handler (as_handler x) ≤ 64
member_few behaviors own before (m.Field sort name init) h few = omega arith
member_few behaviors own before (m.Constructor name params body) h few = omega arith
member_few behaviors own before (m.Handler result name params body) h few =
    let r = handler_fine behaviors own before result name params body h in
    let second : fine (count_rules 64 (length (handler_names before)) name.at ++ second_rules name.at (is_among name.text (handler_names before))) ≡ Ok tt =
    fine_left (count_rules 64 (length (handler_names before)) name.at ++ second_rules name.at (is_among name.text (handler_names before))) (migrate_rules name)
    (fine_left (count_rules 64 (length (handler_names before)) name.at ++ second_rules name.at (is_among name.text (handler_names before)) ++ migrate_rules name) (end_rules name r.0 body) r.1) in
    let count : nat_lt (length (handler_names before)) 64 ≡ true =
    holds 2 name.at (nat_lt (length (handler_names before)) 64) (fine_left (count_rules 64 (length (handler_names before)) name.at) (second_rules name.at (is_among name.text (handler_names before))) second) in
    let lt : length (handler_names before) < 64 = ltb-true (length (handler_names before)) 64 count in
    omega arith

pub handlers_few : (behaviors : List Behavior) (own : List ℕ) (before ms : List Member) → length (handler_names before) ≤ 64 → check_members behaviors own before ms ≡ Ok tt → length (handler_names before) + length (handler_names ms) ≤ 64
handlers_few behaviors own before [] few h = omega arith
handlers_few behaviors own before (x ∷ ms) few h =
    let r = came (check_member behaviors own before x) (λ u. check_members behaviors own (before ++ x ∷ []) ms) tt (sym (members_next behaviors own before x ms) ∙ h) in
    let one = member_few behaviors own before x r.1 few in
    let more = names_more before x in
    let here = names_here x ms in
    let few_more : length (handler_names (before ++ x ∷ [])) ≤ 64 = omega (arith, one, more) in
    let all = handlers_few behaviors own (before ++ x ∷ []) ms few_more r.2 in
    omega (arith, all, more, here)
