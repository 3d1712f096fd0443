-- The plan that a text is, and the lowest rule that it breaks.
use Rattle.std.specs.Prelude.{◌≡◌, ℕ, ◌+◌, ◌≤◌, nat_le, Bool, true, false, ◌&&◌, if◌then◌else◌, List, [], ◌∷◌, ◌++◌, length, map, Option, Some, None, Result, Ok, Err}
use Rattle.std.specs.List.{list_all}
use Rattle.std.specs.Str.{is_utf8}
use Rattle.toml.specs.Data.{Members}
use Rattle.toml.specs.Parse.{parse_document}
use Rattle.sal_value.specs.declared.name.Authority.{Authority}
use Rattle.sal_value.specs.declared.value.Value.{Value}
use Rattle.sal_value.specs.declared.value.Value.TheVariants as value
use Rattle.sal_value.specs.Names.{is_host, is_port, is_ual}
use Rattle.sal_value.specs.Spelling.{is_legal}
use Rattle.sal_mail.specs.declared.plan.Plan.{Plan}
use Rattle.sal_plan.specs.declared.constants.TheConstants.{LONGEST_PLAN, MOST_THEATRES, MOST_SERVICES}
use Rattle.sal_plan.specs.declared.fault.PlanFault.{PlanFault}
use Rattle.sal_plan.specs.declared.fault.PlanFault.TheVariants as fault
use Rattle.sal_plan.specs.Rules.{or_empty, has_repeat, locator_address, theatre_texts, service_texts, word_texts, locators_of, authorities_of, words_of, theatre_rules, service_rules, address_rules, word_rules}

-- ---- tables

-- the plan that a table is
unfoldable pub plan_of : Members → Plan
plan_of t = record {
  theatres = or_empty (locators_of (theatre_texts t));
  names = or_empty (authorities_of (service_texts t));
  words = words_of (word_texts t);
}

-- Q1 to Q8, and whether the table breaks each
unfoldable pub table_rules : Members → List Bool
table_rules t =
    theatre_rules (theatre_texts t)
    ++ (service_rules (service_texts t)
    ++ (address_rules (or_empty (locators_of (theatre_texts t))) (or_empty (authorities_of (service_texts t)))
    ++ word_rules (word_texts t) t))

-- the first of these rules that is broken, where the first has number n
abbrev pub lowest_from : ℕ → List Bool → Option ℕ
lowest_from n [] = None
lowest_from n (broken ∷ rules) = if broken then Some n else lowest_from (n + 1) rules

-- ---- texts

-- the table of a text that isn't too long, is UTF-8 and is TOML
unfoldable pub table_of : List ℕ → Option Members
table_of text = if nat_le (length text) LONGEST_PLAN && is_utf8 text then parse_document text else None

-- Q0: there is no table
abbrev pub lowest_by : Option Members → Option ℕ
lowest_by None = Some 0
lowest_by (Some t) = lowest_from 1 (table_rules t)

abbrev pub plan_by : Option Members → Plan
plan_by None = record { theatres = []; names = []; words = [] }
plan_by (Some t) = plan_of t

-- the lowest rule that a text breaks
abbrev pub lowest_rule : List ℕ → Option ℕ
lowest_rule text = lowest_by (table_of text)

-- the plan that a text is, where it breaks none
abbrev pub plan_written : List ℕ → Plan
plan_written text = plan_by (table_of text)

-- What is answered where this is the lowest rule that is broken: the value where there is none, and else the rule,
-- unless memory ran out.
abbrev pub Answers : {A : Type 0} → Option ℕ → A → Result A PlanFault → Type 0
Answers broken value (Ok x) = (broken ≡ None) × (x ≡ value)
Answers broken value (Err (fault.Refused rule)) = broken ≡ Some rule
Answers broken value (Err fault.Memory) = Unit {0}

-- ---- what plans keep

-- a host in lower case, and a port
abbrev pub is_authority : Authority → Bool
is_authority a = is_host a.host && is_port a.port

abbrev pub is_text : Value → Bool
is_text (value.Str text) = true
is_text _ = false

-- What holds of a plan that was read: 1 to 8 theatres and at most 4 naming services, of different addresses, which can be
-- read; and the words are texts and make a legal array.
pub record IsPlan (p : Plan) : Type 0 where
  pub some_theatre : 1 ≤ length p.theatres
  pub theatres : length p.theatres ≤ MOST_THEATRES
  pub services : length p.names ≤ MOST_SERVICES
  pub addresses : has_repeat (map locator_address p.theatres ++ p.names) ≡ false
  pub locators : list_all is_ual p.theatres ≡ true
  pub authorities : list_all is_authority p.names ≡ true
  pub texts : list_all is_text p.words ≡ true
  pub words : is_legal (value.Array p.words) ≡ true
