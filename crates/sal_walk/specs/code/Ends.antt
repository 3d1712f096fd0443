-- How the code counts a chain's stages.
use Rattle.std.specs.Prelude.{ℕ, zero, suc}
use Rattle.sal_handler.specs.declared.state.End.{End}
use Rattle.sal_handler.specs.declared.state.End.TheVariants as end

-- to whom a stage owes its reply, where so many stages come after it
abbrev pub stage_end : ℕ → End → End
stage_end zero last = last
stage_end (suc left) last = end.Token
