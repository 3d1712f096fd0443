-- What the first bytes of a file say of the file.
use Rattle.std.proofs.Common.{List, ℕ, Some, None, Option}
use Rattle.salsa.specs.Outside.{Held, OnFile}

pub on_file : (held : Option Held) (name : List ℕ) (P Q : List ℕ → Type 0) → ((whole : List ℕ) → P whole → Q whole) → OnFile held name P → OnFile held name Q
on_file None name P Q f p = p
on_file (Some held) name P Q f p = (p.0, (p.1.0, f p.0 p.1.1))
