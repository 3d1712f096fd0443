-- What the steps of reading a plan answer, put together.
use Rattle.std.proofs.Common.{◌≡◌, ℕ, ◌<◌, ◌≤◌, nat_le, Bool, true, false, ◌&&◌, Option, Some, None, List, ◌++◌, length, map, Result, Ok, Err, refl, sym, ap, subst, ◌∙◌, arith}
use Rattle.std.specs.Prelude.{if◌then◌else◌}
use Rattle.std.specs.Result.{IfOk}
use Rattle.std.specs.Str.{IsUtf8, is_utf8}
use Rattle.std.proofs.lemmas.Bool.Decides.{nat_tests}
use Rattle.toml.specs.Data.{Members}
use Rattle.toml.specs.Parse.{parse_document}
use Rattle.sal_value.specs.declared.name.Authority.{Authority}
use Rattle.sal_value.specs.declared.name.Ual.{Ual}
use Rattle.sal_value.specs.declared.value.Value.{Value}
use Rattle.sal_value.proofs.Utf8 as utf8
use Rattle.sal_mail.specs.declared.plan.Plan.{Plan}
use Rattle.sal_plan.specs.declared.constants.TheConstants.{LONGEST_PLAN}
use Rattle.sal_plan.specs.declared.fault.PlanFault.{PlanFault}
use Rattle.sal_plan.specs.declared.fault.PlanFault.TheVariants as fault
use Rattle.sal_plan.specs.Rules.{or_empty, theatre_texts, service_texts, word_texts, locators_of, authorities_of, words_of, theatre_rules, service_rules, word_rules, has_repeat, locator_address}
use Rattle.sal_plan.specs.Plans.{Answers, IsPlan, lowest_from, lowest_by, lowest_rule, plan_by, plan_of, plan_written, table_of, table_rules}
use Rattle.sal_plan.proofs.Keeping.{keeps}
use Rattle.sal_plan.proofs.Lowest.{at_theatres, at_services, at_addresses, at_words}

-- ---- the table

none_by : (b c : Bool) (o : Option Members) → (b && c) ≡ false → (if b && c then o else None) ≡ None
none_by b c o e = ap (λ t. if t then o else None) e

pub long : (bytes : List ℕ) → LONGEST_PLAN < length bytes → table_of bytes ≡ None
unfolding table_of
long bytes lt =
    let over : nat_le (length bytes) 65536 ≡ false = grind (arith, nat_tests) in
    ap (λ t. if t && is_utf8 bytes then parse_document bytes else None) over

second_false : (b c : Bool) → c ≡ false → (b && c) ≡ false
second_false true c e = e
second_false false c e = refl

pub not_text : (bytes : List ℕ) → (IsUtf8 bytes → ⊥) → table_of bytes ≡ None
unfolding table_of
not_text bytes other = none_by (nat_le (length bytes) LONGEST_PLAN) (is_utf8 bytes) (parse_document bytes) (second_false (nat_le (length bytes) LONGEST_PLAN) (is_utf8 bytes) (utf8.utf8_false bytes other))

pub is_table : (bytes text : List ℕ) (o : Option Members) → length bytes ≤ LONGEST_PLAN → IsUtf8 bytes → text ≡ bytes → parse_document text ≡ o → table_of bytes ≡ o
unfolding table_of
is_table bytes text o le is same h =
    let within : nat_le (length bytes) 65536 ≡ true = grind (arith, nat_tests) in
    ap (λ t. if t && is_utf8 bytes then parse_document bytes else None) within
    ∙ ap (λ t. if t then parse_document bytes else None) (utf8.utf8_true bytes is)
    ∙ sym (ap parse_document same) ∙ h

-- ---- steps over a table

pub theatres_read : (t : Members) (texts : Option (List (List ℕ))) (theatres : List Ual) → texts ≡ theatre_texts t
    → (lowest_from 1 (theatre_rules texts) ≡ None) × (theatres ≡ or_empty (locators_of texts))
    → (lowest_from 1 (theatre_rules (theatre_texts t)) ≡ None) × (theatres ≡ or_empty (locators_of (theatre_texts t)))
theatres_read t texts theatres same h = subst (λ x. (lowest_from 1 (theatre_rules x) ≡ None) × (theatres ≡ or_empty (locators_of x))) same h

pub services_read : (t : Members) (texts : Option (List (List ℕ))) (names : List Authority) → texts ≡ service_texts t
    → (lowest_from 4 (service_rules texts) ≡ None) × (names ≡ or_empty (authorities_of texts))
    → (lowest_from 4 (service_rules (service_texts t)) ≡ None) × (names ≡ or_empty (authorities_of (service_texts t)))
services_read t texts names same h = subst (λ x. (lowest_from 4 (service_rules x) ≡ None) × (names ≡ or_empty (authorities_of x))) same h

pub theatres_refused : (t : Members) (texts : Option (List (List ℕ))) (value : List Ual) (e : PlanFault) (r : Result Plan PlanFault) (plan : Plan) → texts ≡ theatre_texts t
    → Answers {A = List Ual} (lowest_from 1 (theatre_rules texts)) value (Err e) → r ≡ Err e → Answers {A = Plan} (lowest_from 1 (table_rules t)) plan r
theatres_refused t texts value (fault.Refused rule) r plan same h is =
    subst (λ x. Answers {A = Plan} (lowest_from 1 (table_rules t)) plan x) (sym is) (at_theatres t rule (sym (ap (λ x. lowest_from 1 (theatre_rules x)) same) ∙ h))
theatres_refused t texts value fault.Memory r plan same h is = subst (λ x. Answers {A = Plan} (lowest_from 1 (table_rules t)) plan x) (sym is) tt

pub services_refused : (t : Members) (texts : Option (List (List ℕ))) (value : List Authority) (e : PlanFault) (r : Result Plan PlanFault) (plan : Plan)
    → lowest_from 1 (theatre_rules (theatre_texts t)) ≡ None → texts ≡ service_texts t
    → Answers {A = List Authority} (lowest_from 4 (service_rules texts)) value (Err e) → r ≡ Err e → Answers {A = Plan} (lowest_from 1 (table_rules t)) plan r
services_refused t texts value (fault.Refused rule) r plan passes same h is =
    subst (λ x. Answers {A = Plan} (lowest_from 1 (table_rules t)) plan x) (sym is) (at_services t rule passes (sym (ap (λ x. lowest_from 4 (service_rules x)) same) ∙ h))
services_refused t texts value fault.Memory r plan passes same h is = subst (λ x. Answers {A = Plan} (lowest_from 1 (table_rules t)) plan x) (sym is) tt

-- what stands before the words
pub record IsBegun (t : Members) (theatres : List Ual) (names : List Authority) : Type 0 where
  pub first : (lowest_from 1 (theatre_rules (theatre_texts t)) ≡ None) × (theatres ≡ or_empty (locators_of (theatre_texts t)))
  pub second : (lowest_from 4 (service_rules (service_texts t)) ≡ None) × (names ≡ or_empty (authorities_of (service_texts t)))

repeats_is : (t : Members) (theatres : List Ual) (names : List Authority) → IsBegun t theatres names
    → has_repeat (map locator_address theatres ++ names) ≡ has_repeat (map locator_address (or_empty (locators_of (theatre_texts t))) ++ or_empty (authorities_of (service_texts t)))
repeats_is t theatres names h =
    ap (λ (ls : List Ual). has_repeat (map locator_address ls ++ names)) h.first.1
    ∙ ap (λ (zs : List Authority). has_repeat (map locator_address (or_empty (locators_of (theatre_texts t))) ++ zs)) h.second.1

pub shared : (t : Members) (theatres : List Ual) (names : List Authority) (b : Bool) → IsBegun t theatres names
    → b ≡ has_repeat (map locator_address theatres ++ names) → b ≡ true → lowest_from 1 (table_rules t) ≡ Some 7
shared t theatres names b h is passes = at_addresses t h.first.0 h.second.0 (sym (is ∙ repeats_is t theatres names h) ∙ passes)

pub words_refused : (t : Members) (theatres : List Ual) (names : List Authority) (b : Bool) (texts : Option (List (List ℕ))) (value : List Value) (e : PlanFault) (r : Result Plan PlanFault) (plan : Plan)
    → IsBegun t theatres names → b ≡ has_repeat (map locator_address theatres ++ names) → b ≡ false → texts ≡ word_texts t
    → Answers {A = List Value} (lowest_from 8 (word_rules texts t)) value (Err e) → r ≡ Err e → Answers {A = Plan} (lowest_from 1 (table_rules t)) plan r
words_refused t theatres names b texts value (fault.Refused rule) r plan h is fails same g e =
    subst (λ x. Answers {A = Plan} (lowest_from 1 (table_rules t)) plan x) (sym e)
    (at_words t (Some rule) h.first.0 h.second.0 (sym (is ∙ repeats_is t theatres names h) ∙ fails) (sym (ap (λ x. lowest_from 8 (word_rules x t)) same) ∙ g))
words_refused t theatres names b texts value fault.Memory r plan h is fails same g e = subst (λ x. Answers {A = Plan} (lowest_from 1 (table_rules t)) plan x) (sym e) tt

same_plan : {theatres theatres' : List Ual} {names names' : List Authority} {words words' : List Value} → theatres ≡ theatres' → names ≡ names' → words ≡ words'
    → ◌≡◌ {A = Plan} (record { theatres = theatres; names = names; words = words }) (record { theatres = theatres'; names = names'; words = words' })
same_plan a b c = λ i. record { theatres = a i; names = b i; words = c i }

pub plan_read : (t : Members) (theatres : List Ual) (names : List Authority) (b : Bool) (texts : Option (List (List ℕ))) (words : List Value)
    → IsBegun t theatres names → b ≡ has_repeat (map locator_address theatres ++ names) → b ≡ false → texts ≡ word_texts t
    → (lowest_from 8 (word_rules texts t) ≡ None) × (words ≡ words_of texts)
    → (lowest_from 1 (table_rules t) ≡ None) × (◌≡◌ {A = Plan} (record { theatres = theatres; names = names; words = words }) (plan_of t))
unfolding plan_of
plan_read t theatres names b texts words h is fails same g = (
  at_words t None h.first.0 h.second.0 (sym (is ∙ repeats_is t theatres names h) ∙ fails) (sym (ap (λ x. lowest_from 8 (word_rules x t)) same) ∙ g.0),
  same_plan h.first.1 h.second.1 (g.1 ∙ ap words_of same),
)

-- ---- the plan

pub answers_of_table : (bytes : List ℕ) (t : Members) (r : Result Plan PlanFault) → table_of bytes ≡ Some t → Answers {A = Plan} (lowest_from 1 (table_rules t)) (plan_of t) r
    → Answers {A = Plan} (lowest_rule bytes) (plan_written bytes) r
answers_of_table bytes t r is h = subst (λ o. Answers {A = Plan} (lowest_by o) (plan_by o) r) (sym is) h

pub no_table : (bytes : List ℕ) (rule : ℕ) → (table_of bytes ≡ None) × (rule ≡ 0) → lowest_rule bytes ≡ Some rule
no_table bytes rule h = ap lowest_by h.0 ∙ ap Some (sym h.1)

pub kept : (bytes : List ℕ) (r : Result Plan PlanFault) → Answers {A = Plan} (lowest_rule bytes) (plan_written bytes) r → IfOk r IsPlan
kept bytes (Ok p) h = subst IsPlan (sym h.1) (keeps bytes h.0)
kept bytes (Err e) h = tt
