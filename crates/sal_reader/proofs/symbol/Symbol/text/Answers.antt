use Rattle.std.proofs.lemmas.Str.{IsUtf8-from_is_utf8}
use Rattle.sal_reader.proofs.Symbols.{value_utf8}
use Rattle.sal_reader.proofs.symbol.Symbol.text.Goals as goal

pub string_text-requires : goal.string_text-requires
string_text-requires c = value_utf8 c.self.inside.kind c.self.inside.bytes.now c.self.invariant.utf8 c.self.invariant.form c.in-Str.is

pub bytes_text-requires : goal.bytes_text-requires
bytes_text-requires c = IsUtf8-from_is_utf8 c.self.inside.bytes.now c.self.invariant.utf8
