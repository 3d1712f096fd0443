use Rattle.toml.specs.View.{table_view}
use Rattle.sal_plan.proofs.Answering.{answers_of_table, kept}
use Rattle.sal_plan.proofs.reading.read_plan.Goals as goal

pub returns-clause-kept : goal.returns-clause-kept
returns-clause-kept c = kept c.args.bytes.now c.table_plan.result (answers_of_table c.args.bytes.now (table_view c.in_ok-table.table) c.table_plan.result c.in_ok-table.ensures c.table_plan.ensures)
