use Rattle.std.proofs.Common.{Some, None, refl, arith}
use Rattle.std.proofs.lemmas.Bool.{false≢true}
use Rattle.toml.specs.View.{table_view}
use Rattle.sal_plan.proofs.Answering.{long, not_text, is_table}
use Rattle.sal_plan.proofs.reading.read_table.Goals as goal

pub returns-then-bytes-gt-LONGEST_PLAN : goal.returns-then-bytes-gt-LONGEST_PLAN
returns-then-bytes-gt-LONGEST_PLAN c = (long c.args.bytes.now (omega arith), refl)

pub returns-in_default : goal.returns-in_default
returns-in_default c = (not_text c.args.bytes.now c.in_default.ensures.cases.0, refl)

pub returns-in-Ok-table_from_str : goal.returns-in-Ok-table_from_str
returns-in-Ok-table_from_str c =
    is_table c.args.bytes.now c.in-Ok.text.now (Some (table_view c.in-Ok-table_from_str.table)) (omega arith) c.in-Ok.ensures.cases.1 c.in-Ok.ensures.cases.0 c.in-Ok-table_from_str.ensures.ok

pub returns-else-is_memory : goal.returns-else-is_memory
returns-else-is_memory c = (
  is_table c.args.bytes.now c.in-Ok.text.now None (omega arith) c.in-Ok.ensures.cases.1 c.in-Ok.ensures.cases.0
      (c.in-Err.ensures.refused (λ m. false≢true (c.if-is_memory.ensures.1 m))),
  refl,
)
