-- Calls whose new actors take other names.
use Rattle.std.specs.Prelude.{List}
use Rattle.sal_value.specs.declared.name.Name.{Name}
use Rattle.sal_handler.specs.declared.turn.Turn.{Turn}
use Rattle.sal_handler.specs.Calls.{Call, call}

-- the call of this turn, whose new actors take these names
abbrev pub call_with : List Name → Turn → Call
call_with names t = record (call t) { names = names }
