-- Locators, by what reading them answers.
use Rattle.std.proofs.Common.{◌≡◌, ℕ, List, Some, None, Ok, Err, sym}
use Rattle.sal_value.specs.declared.name.Ual.{Ual}
use Rattle.sal_value.specs.declared.name.NameFault.{NameFault}
use Rattle.sal_value.specs.declared.name.NameFault.TheVariants as fault
use Rattle.sal_value.specs.Names.{ReadsUal, ual_of}
use Rattle.sal_value.proofs.Given.{names_are_given}

pub locator_is : (text : List ℕ) (l : Ual) → ReadsUal text (Ok l) → Some l ≡ ual_of text
locator_is text l reads = sym (names_are_given.ual text l reads)

pub no_locator : (text : List ℕ) (f : NameFault) → ReadsUal text (Err f) → (f ≡ fault.Memory → ⊥) → None ≡ ual_of text
no_locator text f reads other = sym (names_are_given.no_ual text f other reads)
