-- What new actors get.
use Rattle.std.specs.Prelude.{Bool, List, Option, Some, None, if◌then◌else◌}
use Rattle.sal_value.specs.declared.name.Name.{Name}
use Rattle.sal_handler.specs.Expressions.{FieldMaker}

-- The names that new actors take, in this order; whether there are new actors at all; and the fields with which they start.
pub record Supply : Type 0 where
  pub names : List Name
  pub makes : Bool
  pub fields : FieldMaker

-- what makes the fields of new actors, where there are any
abbrev pub field_maker : Supply → Option FieldMaker
field_maker a = if a.makes then Some a.fields else None
