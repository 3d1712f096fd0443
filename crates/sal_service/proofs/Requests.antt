-- What is known of an envelope that has a spelling.
use Rattle.std.proofs.Common.{◌≡◌, ℕ, true, ◌&&◌}
use Rattle.std.proofs.lemmas.Bool.{and_parts}
use Rattle.sal_value.specs.declared.name.Name.{Name}
use Rattle.sal_value.specs.declared.name.Uan.{Uan}
use Rattle.sal_value.specs.declared.name.Ual.{Ual}
use Rattle.sal_value.specs.Names.{is_uan, is_ual}
use Rattle.sal_value.specs.Spelling.{name_is_spelled}
use Rattle.sal_mail.specs.declared.envelope.Envelope.TheVariants as envelope
use Rattle.sal_envelope.specs.Spelling.{envelope_is_spelled}

pub put_maker : (maker : Name) (serial : ℕ) (u : Uan) (place : Ual) → envelope_is_spelled (envelope.Put maker serial u place) ≡ true → name_is_spelled maker ≡ true
unfolding envelope_is_spelled
put_maker maker serial u place h = (and_parts (name_is_spelled maker) (is_uan u && is_ual place) h).0

pub put_place : (maker : Name) (serial : ℕ) (u : Uan) (place : Ual) → envelope_is_spelled (envelope.Put maker serial u place) ≡ true → is_ual place ≡ true
unfolding envelope_is_spelled
put_place maker serial u place h = (and_parts (is_uan u) (is_ual place) (and_parts (name_is_spelled maker) (is_uan u && is_ual place) h).1).1

pub get_name : (u : Uan) → envelope_is_spelled (envelope.Get u) ≡ true → is_uan u ≡ true
unfolding envelope_is_spelled
get_name u h = h

pub update_place : (u : Uan) (place : Ual) (moves : ℕ) → envelope_is_spelled (envelope.Update u place moves) ≡ true → is_ual place ≡ true
unfolding envelope_is_spelled
update_place u place moves h = (and_parts (is_uan u) (is_ual place) h).1
