use Rattle.std.proofs.Common.{◌≡◌, ◌+◌, drop}
use Rattle.sal_ast.specs.Lexemes.{is_digit}
use Rattle.sal_text.specs.code.Scanning.{run_length}
use Rattle.sal_text.proofs.bytes.digits_length.Given as goal

abbrev pub invariant-bytes : goal.invariant-bytes
invariant-bytes l = run_length is_digit l.text ≡ l.i + run_length is_digit (drop l.i l.text)
