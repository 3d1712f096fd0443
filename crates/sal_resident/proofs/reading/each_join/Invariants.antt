use Rattle.std.proofs.Common.{◌≡◌, ◌-◌, Some}
use Rattle.sal_mail.specs.declared.message.Join.{Join}
use Rattle.sal_resident.specs.Unpacking.{each_from, each_numbered_at, join_at}
use Rattle.sal_resident.proofs.Rows.{after_items}
use Rattle.sal_resident.proofs.reading.each_join.Given as goal

abbrev pub invariant-loop : goal.invariant-loop
invariant-loop l =
    after_items l.joins (each_from (λ (x : Join). Some x.number) join_at l.before (l.count - l.counter) l.rest) ≡ each_numbered_at (λ (x : Join). x.number) join_at l.fn.count l.fn.bytes
