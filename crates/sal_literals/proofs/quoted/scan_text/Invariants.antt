use Rattle.std.proofs.Common.{◌≡◌, length}
use Rattle.sal_literals.specs.declared.quoted.Position.TheVariants.{Plain}
use Rattle.sal_literals.specs.code.Scanning.{after_text, scan_at}
use Rattle.sal_literals.proofs.quoted.scan_text.Given as goal

abbrev pub decreases-bytes : goal.decreases-bytes
decreases-bytes l = length l.rest

abbrev pub invariant-bytes : goal.invariant-bytes
invariant-bytes l = after_text l.text (scan_at l.at l.rest) ≡ scan_at Plain l.fn.bytes
