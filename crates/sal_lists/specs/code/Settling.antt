-- The open joins of a world, and as they will be once replies are given.
use Rattle.std.specs.Prelude.{refl}
use Rattle.std.specs.Coded.{Coded, code_by, coded×}
use Rattle.std.specs.FinMap as fm
use Rattle.sal_value.specs.declared.name.Name.{Name}
use Rattle.sal_value.specs.Table.{Table}
use Rattle.sal_mail.specs.declared.message.Join.{Join}
use Rattle.sal_source.specs.Configuration.{Waiting, joins_code}

abbrev pub Joins : Type 0
Joins = Table (Name × Join)

-- The joins before, and after what was given so far.
pub record Settling : Type 0 where
  pub before : Joins
  pub joins : Joins

abbrev pub settling : Joins → Joins → Settling
settling before joins = record { before = before; joins = joins }

abbrev pub settling_code : Coded Settling
settling_code = code_by (Joins × Joins) (coded× joins_code joins_code) (λ s. (s.before, s.joins)) (λ p. settling p.0 p.1) (λ _. refl)

-- what replies are given to: no messages, which give nothing on
abbrev pub waiting_on : Joins → Waiting
waiting_on joins = record { messages = fm.empty; joins = joins }

abbrev pub waiting_in : Settling → Waiting
waiting_in s = waiting_on s.joins
