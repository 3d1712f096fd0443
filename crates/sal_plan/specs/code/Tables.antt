-- What reading a table answers.
use Rattle.std.specs.Prelude.{◌≡◌, Option, Some, None, Result, Ok, Err, String}
use Rattle.std.specs.BTreeMap.{BTreeMap}
use Rattle.std.specs.declared.alloc.Global.{Global}
use Rattle.toml.specs.declared.value.Value.{Value}
use Rattle.toml.specs.Data.{Members}
use Rattle.toml.specs.View.{table_view}
use Rattle.sal_plan.specs.declared.fault.PlanFault.{PlanFault}
use Rattle.sal_plan.specs.declared.fault.PlanFault.TheVariants as fault

-- the table that there is, and else Q0, unless memory ran out
abbrev pub ReadsTable : Option Members → Result (BTreeMap (String Global) Value) PlanFault → Type 0
ReadsTable table (Ok t) = table ≡ Some (table_view t)
ReadsTable table (Err (fault.Refused rule)) = (table ≡ None) × (rule ≡ 0)
ReadsTable table (Err fault.Memory) = Unit {0}
