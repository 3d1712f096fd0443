use Rattle.std.proofs.Common.{◌≡◌, [], drop, length}
use Rattle.sal_sorts.specs.code.Messaging.{args_result}
use Rattle.sal_sorts.proofs.message.judge_args.Given as goal

abbrev pub invariant-loop-arg : goal.invariant-loop-arg
invariant-loop-arg l = record {
  same : args_result l.done (drop l.arg-index l.args) l.before l.env ≡ args_result [] l.fn.args l.before l.env;
  so_far : length l.done ≡ l.arg-index;
}
