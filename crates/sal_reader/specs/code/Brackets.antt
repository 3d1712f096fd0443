-- What a token does to the open brackets.
use Rattle.std.specs.Prelude.{ℕ}
use Rattle.sal_ast.specs.Brackets.{TokenRole, Opens, Closes, Waits, Keeps}
use Rattle.sal_reader.specs.declared.brackets.Effect.{Effect}
use Rattle.sal_reader.specs.declared.brackets.Effect.TheVariants as e

abbrev pub effect_of : TokenRole → Effect
effect_of (Opens b) = e.Opens
effect_of (Closes b) = e.Closes
effect_of Waits = e.Keeps
effect_of Keeps = e.Keeps
