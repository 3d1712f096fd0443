-- The lists of signatures, as the code's loops make them.
use Rattle.std.specs.Prelude.{List, ◌++◌, Option, Some, None}

-- these before the others, if the others are there
abbrev pub with_front : {A : Type 0} → List A → Option (List A) → Option (List A)
with_front done None = None
with_front done (Some rest) = Some (done ++ rest)
