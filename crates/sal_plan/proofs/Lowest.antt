-- The lowest rule that is broken, over lists of rules.
use Rattle.std.proofs.Common.{◌≡◌, ℕ, suc, ◌+◌, Bool, true, false, Option, Some, None, List, [], ◌∷◌, ◌++◌, length, map, ap, ◌∙◌, arith}
use Rattle.std.specs.Prelude.{if◌then◌else◌}
use Rattle.toml.specs.Data.{Members}
use Rattle.sal_plan.specs.Rules.{or_empty, theatre_texts, service_texts, word_texts, locators_of, authorities_of, theatre_rules, service_rules, address_rules, word_rules, has_repeat, locator_address}
use Rattle.sal_plan.specs.Plans.{table_rules, lowest_from}

stays : (n : ℕ) (rules more : List Bool) (rule : ℕ) → lowest_from n rules ≡ Some rule → lowest_from n (rules ++ more) ≡ Some rule
stays n [] more rule e = absurd cc
stays n (true ∷ rules) more rule e = e
stays n (false ∷ rules) more rule e = stays (n + 1) rules more rule e

passed : (n : ℕ) (rules more : List Bool) → lowest_from n rules ≡ None → lowest_from n (rules ++ more) ≡ lowest_from (n + length rules) more
passed n [] more e = let z : n ≡ n + 0 = omega arith in ap (λ m. lowest_from m more) z
passed n (true ∷ rules) more e = absurd cc
passed n (false ∷ rules) more e = let z : n + 1 + length rules ≡ n + suc (length rules) = omega arith in passed (n + 1) rules more e ∙ ap (λ m. lowest_from m more) z

from_services : (t : Members) → lowest_from 1 (theatre_rules (theatre_texts t)) ≡ None
    → lowest_from 1 (table_rules t) ≡ lowest_from 4 (service_rules (service_texts t) ++ (address_rules (or_empty (locators_of (theatre_texts t))) (or_empty (authorities_of (service_texts t))) ++ word_rules (word_texts t) t))
unfolding table_rules
from_services t e = passed 1 (theatre_rules (theatre_texts t)) (service_rules (service_texts t) ++ (address_rules (or_empty (locators_of (theatre_texts t))) (or_empty (authorities_of (service_texts t))) ++ word_rules (word_texts t) t)) e

from_addresses : (t : Members) → lowest_from 1 (theatre_rules (theatre_texts t)) ≡ None → lowest_from 4 (service_rules (service_texts t)) ≡ None
    → lowest_from 1 (table_rules t) ≡ (if has_repeat (map locator_address (or_empty (locators_of (theatre_texts t))) ++ or_empty (authorities_of (service_texts t))) then Some 7 else lowest_from 8 (word_rules (word_texts t) t))
from_addresses t e f = from_services t e ∙ passed 4 (service_rules (service_texts t)) (address_rules (or_empty (locators_of (theatre_texts t))) (or_empty (authorities_of (service_texts t))) ++ word_rules (word_texts t) t) f

pub at_theatres : (t : Members) (rule : ℕ) → lowest_from 1 (theatre_rules (theatre_texts t)) ≡ Some rule → lowest_from 1 (table_rules t) ≡ Some rule
unfolding table_rules
at_theatres t rule e = stays 1 (theatre_rules (theatre_texts t)) (service_rules (service_texts t) ++ (address_rules (or_empty (locators_of (theatre_texts t))) (or_empty (authorities_of (service_texts t))) ++ word_rules (word_texts t) t)) rule e

pub at_services : (t : Members) (rule : ℕ) → lowest_from 1 (theatre_rules (theatre_texts t)) ≡ None → lowest_from 4 (service_rules (service_texts t)) ≡ Some rule → lowest_from 1 (table_rules t) ≡ Some rule
at_services t rule e f = from_services t e ∙ stays 4 (service_rules (service_texts t)) (address_rules (or_empty (locators_of (theatre_texts t))) (or_empty (authorities_of (service_texts t))) ++ word_rules (word_texts t) t) rule f

-- the test on addresses decides between Q7 and the rest
pub at_addresses : (t : Members) → lowest_from 1 (theatre_rules (theatre_texts t)) ≡ None → lowest_from 4 (service_rules (service_texts t)) ≡ None
    → has_repeat (map locator_address (or_empty (locators_of (theatre_texts t))) ++ or_empty (authorities_of (service_texts t))) ≡ true → lowest_from 1 (table_rules t) ≡ Some 7
at_addresses t e f b = from_addresses t e f ∙ ap (λ c. if c then Some 7 else lowest_from 8 (word_rules (word_texts t) t)) b

pub at_words : (t : Members) (o : Option ℕ) → lowest_from 1 (theatre_rules (theatre_texts t)) ≡ None → lowest_from 4 (service_rules (service_texts t)) ≡ None
    → has_repeat (map locator_address (or_empty (locators_of (theatre_texts t))) ++ or_empty (authorities_of (service_texts t))) ≡ false
    → lowest_from 8 (word_rules (word_texts t) t) ≡ o → lowest_from 1 (table_rules t) ≡ o
at_words t o e f b g = from_addresses t e f ∙ ap (λ c. if c then Some 7 else lowest_from 8 (word_rules (word_texts t) t)) b ∙ g
