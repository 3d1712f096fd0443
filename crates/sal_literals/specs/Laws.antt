-- Laws of texts of values.
use Rattle.std.specs.Prelude.{◌≡◌, List, ℕ, IsTrue, Some}
use Rattle.sal_value.specs.declared.value.Value.{Value}
use Rattle.sal_literals.specs.Texts.{value_text, is_literal}
use Rattle.sal_literals.specs.Reading.{value_of}

-- What is printed is read.
abbrev pub PrintedValuesAreRead : Type 0
PrintedValuesAreRead = (v : Value) → IsTrue (is_literal v) → value_of (value_text v) ≡ Some v

-- What is read is what was printed.
abbrev pub ReadValuesArePrinted : Type 0
ReadValuesArePrinted = (text : List ℕ) (v : Value) → value_of text ≡ Some v → IsTrue (is_literal v) × (text ≡ value_text v)

-- Texts of different values differ.
abbrev pub ValuesHaveOwnTexts : Type 0
ValuesHaveOwnTexts = (v w : Value) → IsTrue (is_literal v) → IsTrue (is_literal w) → value_text v ≡ value_text w → v ≡ w
