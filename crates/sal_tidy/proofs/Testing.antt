-- Whether an actor is tidy is tested.
use Rattle.std.proofs.Common.{◌≡◌, ◌<◌, Bool, true, List, [], ◌∷◌, refl, sym, ap, ◌∙◌}
use Rattle.std.specs.Prelude.{nat_lt, All}
use Rattle.std.specs.List.{list_all}
use Rattle.std.proofs.lemmas.Bool.{and_parts, and_from, lt-ltb, ltb-true}
use Rattle.std.proofs.lemmas.List.Elements.{All-nil, All-cons, All-head, All-tail}
use Rattle.sal_value.proofs.Keys.{same_names}
use Rattle.sal_value.proofs.Tables.{same_words, words_refl}
use Rattle.sal_mail.specs.declared.message.Message.{Message}
use Rattle.sal_source.specs.Table.{key_eq}
use Rattle.sal_source.specs.Keys.{name_key}
use Rattle.sal_resident.specs.declared.resident.Resident.{Resident}
use Rattle.sal_tidy.specs.Tidy.{is_own_message, is_low_join}
use Rattle.sal_tidy.specs.Laws.{TidinessIsTested}

-- what passes one test passes a weaker one
pub pass_weaker : {X : Type 0} (p q : X → Bool) → ((x : X) → p x ≡ true → q x ≡ true) → (xs : List X) → list_all p xs ≡ true → list_all q xs ≡ true
pass_weaker p q weaker [] e = refl
pass_weaker p q weaker (x ∷ xs) e =
    let parts = and_parts (p x) (list_all p xs) e in
    and_from (q x) (list_all q xs) (weaker x parts.0) (pass_weaker p q weaker xs parts.1)

-- a test tells a property of each
all_told : {X : Type 0} (p : X → Bool) (P : X → Type 0) → ((x : X) → p x ≡ true → P x) → (xs : List X) → list_all p xs ≡ true → All P xs
all_told p P tells [] e = All-nil P
all_told p P tells (x ∷ xs) e =
    let parts = and_parts (p x) (list_all p xs) e in
    All-cons P x xs (tells x parts.0) (all_told p P tells xs parts.1)

all_pass : {X : Type 0} (p : X → Bool) (P : X → Type 0) → ((x : X) → P x → p x ≡ true) → (xs : List X) → All P xs → list_all p xs ≡ true
all_pass p P passes [] all = refl
all_pass p P passes (x ∷ xs) all = and_from (p x) (list_all p xs) (passes x (All-head P x xs all)) (all_pass p P passes xs (All-tail P x xs all))

own_parts : (r : Resident) (m : Message) → is_own_message r m ≡ true → (key_eq (name_key r.name) (name_key m.maker) ≡ true) × (nat_lt m.serial r.serial ≡ true)
own_parts r m e = and_parts (key_eq (name_key r.name) (name_key m.maker)) (nat_lt m.serial r.serial) e

own_made : (r : Resident) (m : Message) → is_own_message r m ≡ true → m.maker ≡ r.name
own_made r m e = sym (same_names r.name m.maker (same_words (name_key r.name) (name_key m.maker) (own_parts r m e).0))

own_low : (r : Resident) (m : Message) → is_own_message r m ≡ true → m.serial < r.serial
own_low r m e = ltb-true m.serial r.serial (own_parts r m e).1

both_pass : (r : Resident) (ms : List Message) → All (λ m. m.maker ≡ r.name) ms → All (λ m. m.serial < r.serial) ms → list_all (is_own_message r) ms ≡ true
both_pass r [] own low = refl
both_pass r (m ∷ ms) own low =
    and_from (is_own_message r m) (list_all (is_own_message r) ms)
    (and_from (key_eq (name_key r.name) (name_key m.maker)) (nat_lt m.serial r.serial)
    (ap (λ n. key_eq (name_key r.name) (name_key n)) (All-head (λ m. m.maker ≡ r.name) m ms own) ∙ words_refl (name_key r.name))
    (lt-ltb m.serial r.serial (All-head (λ m. m.serial < r.serial) m ms low)))
    (both_pass r ms (All-tail (λ m. m.maker ≡ r.name) m ms own) (All-tail (λ m. m.serial < r.serial) m ms low))

pub tested : TidinessIsTested
tested = record {
  tidy = λ r messages joins. record {
    own = all_told (is_own_message r) (λ m. m.maker ≡ r.name) (own_made r) r.book.messages messages;
    messages_low = all_told (is_own_message r) (λ m. m.serial < r.serial) (own_low r) r.book.messages messages;
    joins_low = all_told (is_low_join r) (λ j. j.number < r.serial) (λ j e. ltb-true j.number r.serial e) r.book.joins joins;
  };
  own = λ r tidy. both_pass r r.book.messages tidy.own tidy.messages_low;
  low = λ r tidy. all_pass (is_low_join r) (λ j. j.number < r.serial) (λ j lt. lt-ltb j.number r.serial lt) r.book.joins tidy.joins_low;
}
