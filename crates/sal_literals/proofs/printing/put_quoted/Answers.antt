use Rattle.std.proofs.Common.{List, ℕ, subst, sym, ◌∙◌}
use Rattle.std.specs.Str.{IsUtf8}
use Rattle.sal_literals.proofs.Quotes.{escapes_are_text}
use Rattle.sal_literals.proofs.printing.put_quoted.Goals as goal

pub unreachable-requires : goal.unreachable-requires
unreachable-requires c =
    let P : List ℕ → Type 0 = λ z. IsUtf8 z in
    c.in-Err.ensures.cases.0 (subst P (sym (c.as_slice.ensures ∙ c.in_ok-bytes.ensures)) (escapes_are_text c.as_bytes.result.now c.as_bytes.ensures.utf8))
