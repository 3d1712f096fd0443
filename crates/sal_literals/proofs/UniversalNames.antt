-- Universal names and their texts.
use Rattle.std.proofs.Common.{◌≡◌, ℕ, Bool, Some, None, List, Ok, Err, sym, ap}
use Rattle.std.specs.Prelude.{IsTrue, ◌↔◌}
use Rattle.std.specs.Option.{option_map}
use Rattle.std.specs.Str.{bytes_eq}
use Rattle.sal_value.specs.declared.name.Uan.{Uan}
use Rattle.sal_value.specs.declared.name.Name.TheVariants as name
use Rattle.sal_value.specs.declared.name.NameFault.{NameFault}
use Rattle.sal_value.specs.declared.name.NameFault.TheVariants as fault
use Rattle.sal_value.specs.Names.{uan_text, ReadsUan}
use Rattle.sal_value.specs.Decoding.{canonical_uan}
use Rattle.sal_value.proofs.Canonical as canonical
use Rattle.sal_value.proofs.Given.{names_are_given}
use Rattle.sal_literals.specs.Reading.{schedule_name_of}

pub same_text : (r : Bool) (xs ys : List ℕ) → r ≡ bytes_eq xs ys → IsTrue r ↔ (xs ≡ ys)
same_text r xs ys e = canonical.same_bytes r xs ys e

pub canonical_is : (text : List ℕ) (u : Uan) → ReadsUan text (Ok u) → uan_text u ≡ text → Some (name.Uan u) ≡ option_map name.Uan (canonical_uan text)
canonical_is text u reads same = ap (option_map name.Uan) (canonical.canonical_text text u reads same)

pub other_is : (text : List ℕ) (u : Uan) → ReadsUan text (Ok u) → (uan_text u ≡ text → ⊥) → None ≡ option_map name.Uan (canonical_uan text)
other_is text u reads other = ap (option_map name.Uan) (canonical.other_text text u reads other)

pub refused_is : (text : List ℕ) (f : NameFault) → ReadsUan text (Err f) → (f ≡ fault.Memory → ⊥) → None ≡ option_map name.Uan (canonical_uan text)
refused_is text f reads other = ap (option_map name.Uan) (canonical.refused_text text f reads other)

pub given_is : (text : List ℕ) (u : Uan) → ReadsUan text (Ok u) → Some (name.Uan u) ≡ schedule_name_of text
unfolding schedule_name_of
given_is text u reads = ap (option_map name.Uan) (sym (names_are_given.uan text u reads))

pub none_is : (text : List ℕ) (f : NameFault) → ReadsUan text (Err f) → (f ≡ fault.Memory → ⊥) → None ≡ schedule_name_of text
unfolding schedule_name_of
none_is text f reads other = ap (option_map name.Uan) (sym (names_are_given.no_uan text f other reads))
