-- Bytes that are written piece by piece.
use Rattle.std.proofs.Common.{◌≡◌, ℕ, zero, suc, ◌<◌, ◌≤◌, Bool, true, ◌&&◌, List, [], ◌∷◌, ◌++◌, length, get_or, ap, ◌∙◌, append_assoc, arith}
use Rattle.std.specs.Prelude.{codes, nat_le, nat_eq}
use Rattle.std.specs.Char.{to_ascii_lowercase}
use Rattle.std.specs.Fmt.{decimal}
use Rattle.std.specs.List.{list_all}
use Rattle.std.proofs.lemmas.Bool.{and_parts}
use Rattle.std.proofs.lemmas.Bool.Decides.{nat_tests}
use Rattle.std.proofs.lemmas.Fmt.{length-decimal-le}
use Rattle.std.proofs.lemmas.List.{length-append, length-map}
use Rattle.sal_value.specs.declared.name.Name.TheVariants as name
use Rattle.sal_value.specs.declared.name.Uan.{Uan}
use Rattle.sal_value.specs.declared.name.Ual.{Ual}
use Rattle.sal_value.specs.declared.value.Value.{Value}
use Rattle.sal_value.specs.Names.{lower_case, address_text, ual_text, is_uan, is_ual, is_host, is_port}
use Rattle.sal_value.specs.Spelling.{name_is_spelled, is_spelled}
use Rattle.sal_value.proofs.Bytes.{host_parts}
use Rattle.sal_value.proofs.Readings.{port_range}
use Rattle.sal_mail.specs.declared.message.Message.{Message}
use Rattle.sal_mail.specs.declared.effects.Actor.{Actor}
use Rattle.sal_mail.specs.Message.{is_ready, known_values}
use Rattle.sal_envelope.specs.Spelling.{callee_is_spelled, reply_is_spelled, values_are_spelled, call_is_spelled, is_universal, actor_is_spelled}

pub two_parts : (old a b : List ℕ) → (old ++ a) ++ b ≡ old ++ (a ++ b)
two_parts old a b = append_assoc old a b

pub three_parts : (old a b c : List ℕ) → ((old ++ a) ++ b) ++ c ≡ old ++ (a ++ (b ++ c))
three_parts old a b c = append_assoc (old ++ a) b c ∙ append_assoc old a (b ++ c)

four_parts : (old a b c d : List ℕ) → (((old ++ a) ++ b) ++ c) ++ d ≡ old ++ (a ++ (b ++ (c ++ d)))
four_parts old a b c d = append_assoc ((old ++ a) ++ b) c d ∙ three_parts old a b (c ++ d)

pub five_parts : (old a b c d e : List ℕ) → ((((old ++ a) ++ b) ++ c) ++ d) ++ e ≡ old ++ (a ++ (b ++ (c ++ (d ++ e))))
five_parts old a b c d e = append_assoc (((old ++ a) ++ b) ++ c) d e ∙ four_parts old a b c (d ++ e)

-- the same behind a tag
pub tagged : (old : List ℕ) (t : ℕ) (a : List ℕ) → (old ++ t ∷ []) ++ a ≡ old ++ t ∷ a
tagged old t a = append_assoc old (t ∷ []) a

pub tagged_two : (old : List ℕ) (t : ℕ) (a b : List ℕ) → ((old ++ t ∷ []) ++ a) ++ b ≡ old ++ t ∷ (a ++ b)
tagged_two old t a b = append_assoc (old ++ t ∷ []) a b ∙ tagged old t (a ++ b)

pub tagged_three : (old : List ℕ) (t : ℕ) (a b c : List ℕ) → (((old ++ t ∷ []) ++ a) ++ b) ++ c ≡ old ++ t ∷ (a ++ (b ++ c))
tagged_three old t a b c = three_parts (old ++ t ∷ []) a b c ∙ tagged old t (a ++ (b ++ c))

-- ---- what has a spelling

pub both : (a b : Bool) → (a && b) ≡ true → (a ≡ true) × (b ≡ true)
both a b e = and_parts a b e

pub uan_is_spelled : (u : Uan) → is_uan u ≡ true → name_is_spelled (name.Uan u) ≡ true
unfolding name_is_spelled
uan_is_spelled u e = e

-- a good locator's text is short
pub ual_short : (l : Ual) → is_ual l ≡ true → length (ual_text l) ≤ 65535
unfolding is_ual ual_text
ual_short l h =
    let parts = and_parts (is_host l.host) (is_port l.port) h in
    let range = port_range l.port parts.1 in
    let host : nat_le (length l.host) 255 ≡ true = (host_parts l.host parts.0).1 in
    let short : length l.host ≤ 255 = grind (arith, nat_tests) in
    omega (
      arith,
      length-append (codes "rmsp://") (address_text l.host l.port ++ 47 ∷ []),
      length-append (address_text l.host l.port) (47 ∷ []),
      length-append (lower_case l.host) (58 ∷ decimal l.port),
      length-map l.host to_ascii_lowercase,
      length-decimal-le 5 l.port (omega arith) (omega (arith, range.1)) (omega (arith, range.1)),
    )

at_most : (n most : ℕ) → nat_le n most ≡ true → most ≤ 255 → n ≤ 255
at_most n most h le = grind (arith, nat_tests)

-- ---- the parts of a call and of an actor

pub record CallParts (m : Message) : Type 0 where
  pub maker : name_is_spelled m.maker ≡ true
  pub callee : callee_is_spelled m.target ≡ true
  pub few : length (known_values m.args) ≤ 255
  pub values : list_all is_spelled (known_values m.args) ≡ true
  pub reply : reply_is_spelled m.reply ≡ true

pub call_parts : (m : Message) → call_is_spelled m ≡ true → CallParts m
unfolding call_is_spelled
call_parts m h =
    let a = and_parts (name_is_spelled m.maker) (callee_is_spelled m.target && (is_ready m && (nat_eq m.delay 0 && (values_are_spelled 16 (known_values m.args) && reply_is_spelled m.reply)))) h in
    let b = and_parts (callee_is_spelled m.target) (is_ready m && (nat_eq m.delay 0 && (values_are_spelled 16 (known_values m.args) && reply_is_spelled m.reply))) a.1 in
    let c = and_parts (is_ready m) (nat_eq m.delay 0 && (values_are_spelled 16 (known_values m.args) && reply_is_spelled m.reply)) b.1 in
    let d = and_parts (nat_eq m.delay 0) (values_are_spelled 16 (known_values m.args) && reply_is_spelled m.reply) c.1 in
    let e = and_parts (values_are_spelled 16 (known_values m.args)) (reply_is_spelled m.reply) d.1 in
    let f = and_parts (nat_le (length (known_values m.args)) 16) (list_all is_spelled (known_values m.args)) e.0 in
    record { maker = a.0; callee = b.0; few = at_most (length (known_values m.args)) 16 f.0 (omega arith); values = f.1; reply = e.1 }

pub record ActorParts (a : Actor) : Type 0 where
  pub name : name_is_spelled a.name ≡ true
  pub few : length a.fields ≤ 255
  pub fields : list_all is_spelled a.fields ≡ true

pub actor_parts : (a : Actor) → actor_is_spelled a ≡ true → ActorParts a
unfolding actor_is_spelled
actor_parts a h =
    let b = and_parts (is_universal a.name) (name_is_spelled a.name && values_are_spelled 255 a.fields) h in
    let c = and_parts (name_is_spelled a.name) (values_are_spelled 255 a.fields) b.1 in
    let d = and_parts (nat_le (length a.fields) 255) (list_all is_spelled a.fields) c.1 in
    record { name = c.0; few = at_most (length a.fields) 255 d.0 (omega arith); fields = d.1 }

-- each of a list of values has a spelling
pub value_at : (vs : List Value) (i : ℕ) (v : Value) → i < length vs → v ≡ get_or vs i v → list_all is_spelled vs ≡ true → is_spelled v ≡ true
value_at [] i v lt at h = absurd (omega arith)
value_at (w ∷ vs) zero v lt at h = ap is_spelled at ∙ (and_parts (is_spelled w) (list_all is_spelled vs) h).0
value_at (w ∷ vs) (suc i) v lt at h = value_at vs i v (omega arith) at (and_parts (is_spelled w) (list_all is_spelled vs) h).1
