use Rattle.sal_value.proofs.Numbers.{decimals_are_texts}
use Rattle.sal_value.proofs.reading.port_number.Goals as goal

pub returns-in-Err : goal.returns-in-Err
returns-in-Err c = λ n e low most. c.in-Err.ensures.cases.0 (decimals_are_texts c.args.digits.now n e most)
