-- An item of a list is taken out, and the new one is put into its place; past the end nothing changes.
use Rattle.std.proofs.lemmas.List.{set-set, set_past}
use Rattle.std.proofs.lemmas.Option.{slice_get_past}

pub ruleset sets = (set-set, set_past, slice_get_past)
