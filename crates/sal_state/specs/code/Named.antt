-- Where a field stands, as the code counts it.
use Rattle.std.specs.Prelude.{ℕ, ◌+◌, if◌then◌else◌, List, [], ◌∷◌, Option, Some, None}
use Rattle.std.specs.Str.{bytes_eq}
use Rattle.sal_ast.specs.declared.program.Member.{Member}
use Rattle.sal_ast.specs.declared.program.Member.TheVariants as member

-- the number of the field of this name among these members, where the first field has this number
abbrev pub field_position : List ℕ → ℕ → List Member → Option ℕ
field_position name i [] = None
field_position name i (member.Field sort own init ∷ rest) = if bytes_eq own.text name then Some i else field_position name (i + 1) rest
field_position name i (member.Constructor own params body ∷ rest) = field_position name i rest
field_position name i (member.Handler result own params body ∷ rest) = field_position name i rest
