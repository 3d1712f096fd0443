use Rattle.std.proofs.Common.{◌≡◌, ◌+◌, drop, false, option_map}
use Rattle.sal_text.specs.code.Scanning.{length_to_quote}
use Rattle.sal_text.proofs.strings.length_to_quote.Given as goal

abbrev pub invariant-bytes : goal.invariant-bytes
invariant-bytes l = length_to_quote false l.text ≡ option_map (λ n. n + l.i) (length_to_quote l.escaped (drop l.i l.text))
