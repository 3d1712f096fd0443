use Rattle.std.proofs.Common.{arith}
use Rattle.sal_reader.proofs.Digits.{value_step}
use Rattle.sal_reader.proofs.text.number_value.Goals as goal

pub overflow_mul-value : goal.overflow_mul-value
overflow_mul-value c =
    let s = value_step c.bytes.value c.args.digits.now c.bytes.i c.requires.digits (omega arith) c.requires.most c.bytes.invariant in omega arith

pub overflow_add-value : goal.overflow_add-value
overflow_add-value c =
    let s = value_step c.bytes.value c.args.digits.now c.bytes.i c.requires.digits (omega arith) c.requires.most c.bytes.invariant in omega arith

pub bytes-preserved : goal.bytes-preserved
bytes-preserved c =
    (value_step c.bytes.value c.args.digits.now c.bytes.i c.requires.digits (omega arith) c.requires.most c.bytes.invariant).next
