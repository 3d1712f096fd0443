use Rattle.std.proofs.Common.{◌≡◌, ◌+◌, drop}
use Rattle.sal_text.specs.Tokens.{is_in_line}
use Rattle.sal_text.specs.code.Scanning.{run_length}
use Rattle.sal_text.proofs.comments.line_length.Given as goal

abbrev pub invariant-bytes : goal.invariant-bytes
invariant-bytes l = run_length is_in_line l.text ≡ l.i + run_length is_in_line (drop l.i l.text)
