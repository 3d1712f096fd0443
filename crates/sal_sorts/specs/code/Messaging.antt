-- What the checker's loops over parts of a message answer.
use Rattle.std.specs.Prelude.{false, ◌++◌, List, [], ◌∷◌, Option, Result, Ok}
use Rattle.sal_ast.specs.declared.statement.Arg.{Arg}
use Rattle.sal_ast.specs.declared.statement.Send.{Send}
use Rattle.sal_sorts.specs.declared.sort.Sort.{Sort}
use Rattle.sal_sorts.specs.Environments.{Environment}
use Rattle.sal_sorts.specs.Verdicts.{Violation, Verdict, Good, no_rules, fold_nodes, verdict_of_all}
use Rattle.sal_sorts.specs.Refusals.{first, and_then}
use Rattle.sal_sorts.specs.Messages.{arg_verdict, send_rules, repetition_rules, repetition_offset}

-- arguments from here on
unfoldable pub args_result : List Sort → List Arg → Option Sort → Environment → Result (List Sort) Violation
args_result done args before env = first (fold_nodes (arg_verdict env before) (λ p s. no_rules s) (λ p s. s.0 ++ s.1 ∷ []) (Good done) args)

-- nothing is violated in these parts
abbrev pub all_fine : List (Unit {0}) → Result (Unit {0}) Violation
all_fine parts = Ok tt

-- parts that are nothing but judged
unfoldable pub units_result : {P : Type 0} → (P → Verdict (Unit {0})) → List P → Result (Unit {0}) Violation
units_result part ps = and_then (first (verdict_of_all part ps)) all_fine

-- the rules of a message, once its parts are judged
unfoldable pub message_rules : Send → Option Sort → List Sort → Environment → List Violation
message_rules m target args env = send_rules m target args env ++ repetition_rules (repetition_offset false false m.properties)
