-- Universal names, by what reading them answers, and names that are no text.
use Rattle.std.proofs.Common.{◌≡◌, ℕ, Bool, true, false, ◌&&◌, Option, Some, None, List, Ok, Err, sym, refl}
use Rattle.std.specs.Prelude.{if◌then◌else◌}
use Rattle.std.specs.Str.{IsUtf8, is_utf8}
use Rattle.sal_value.specs.declared.name.Uan.{Uan}
use Rattle.sal_value.specs.declared.name.NameFault.{NameFault}
use Rattle.sal_value.specs.declared.name.NameFault.TheVariants as fault
use Rattle.sal_value.specs.Names.{ReadsUan, uan_of}
use Rattle.sal_value.proofs.Given.{names_are_given}
use Rattle.sal_value.proofs.Utf8 as utf8
use Rattle.sal_ast.specs.declared.program.Program.{Program}
use Rattle.sal_types.specs.Signatures.{numbers_by_name}
use Rattle.sal_schedule.specs.Events.{numbers_of}

pub given : (text : List ℕ) (u : Uan) → ReadsUan text (Ok u) → Some u ≡ uan_of text
given text u reads = sym (names_are_given.uan text u reads)

pub none : (text : List ℕ) (f : NameFault) → ReadsUan text (Err f) → (f ≡ fault.Memory → ⊥) → None ≡ uan_of text
none text f reads other = sym (names_are_given.no_uan text f other reads)

none_where : (b c : Bool) (o : Option (ℕ × ℕ)) → b ≡ false → None ≡ (if b && c then o else None)
none_where true c o e = absurd cc
none_where false c o e = refl

none_where_second : (b c : Bool) (o : Option (ℕ × ℕ)) → c ≡ false → None ≡ (if b && c then o else None)
none_where_second true true o e = absurd cc
none_where_second true false o e = refl
none_where_second false c o e = refl

some_where : (b c : Bool) (o : Option (ℕ × ℕ)) → b ≡ true → c ≡ true → o ≡ (if b && c then o else None)
some_where true true o e f = refl
some_where true false o e f = absurd cc
some_where false c o e f = absurd cc

pub first_no_text : (p : Program) (behavior handler : List ℕ) → (IsUtf8 behavior → ⊥) → None ≡ numbers_of p behavior handler
unfolding numbers_of
first_no_text p behavior handler other = none_where (is_utf8 behavior) (is_utf8 handler) (numbers_by_name behavior handler p) (utf8.utf8_false behavior other)

pub second_no_text : (p : Program) (behavior handler : List ℕ) → (IsUtf8 handler → ⊥) → None ≡ numbers_of p behavior handler
unfolding numbers_of
second_no_text p behavior handler other = none_where_second (is_utf8 behavior) (is_utf8 handler) (numbers_by_name behavior handler p) (utf8.utf8_false handler other)

pub both_texts : (p : Program) (behavior handler : List ℕ) → IsUtf8 behavior → IsUtf8 handler → numbers_by_name behavior handler p ≡ numbers_of p behavior handler
unfolding numbers_of
both_texts p behavior handler b h = some_where (is_utf8 behavior) (is_utf8 handler) (numbers_by_name behavior handler p) (utf8.utf8_true behavior b) (utf8.utf8_true handler h)
