-- Answers are short.
use Rattle.std.proofs.Common.{◌≡◌, ℕ, ◌≤◌, Bool, true, ◌&&◌, [], ◌∷◌, length, Option, Some, None, arith}
use Rattle.std.specs.Prelude.{if◌then◌else◌}
use Rattle.std.proofs.lemmas.Bool.{and_parts}
use Rattle.std.proofs.lemmas.Fmt.{length-decimal-le}
use Rattle.std.proofs.lemmas.List.{length-append}
use Rattle.sal_value.specs.declared.name.Name.{Name}
use Rattle.sal_value.specs.declared.name.Name.TheVariants as name
use Rattle.sal_value.specs.declared.name.Uan.{Uan}
use Rattle.sal_value.specs.declared.name.Ual.{Ual}
use Rattle.sal_value.specs.Names.{uan_text, ual_text, is_uan, is_ual, is_host, is_port, is_uan_path}
use Rattle.sal_value.specs.Spelling.{name_spelling, name_is_spelled, anon_bytes}
use Rattle.sal_value.proofs.Texts.{length_uan_text, host_short, path_short}
use Rattle.sal_value.proofs.Readings.{port_range}
use Rattle.sal_mail.specs.declared.envelope.Envelope.TheVariants as envelope
use Rattle.sal_envelope.specs.Spelling.{bytes_16, bytes_64, uan_spelling, locator_spelling, made_spelling, found_spelling, found_is_spelled, envelope_spelling}
use Rattle.sal_envelope.proofs.Parts.{ual_short, uan_is_spelled}
use Rattle.sal_node.specs.Offers.{IsParcel}

uan_short : (u : Uan) → is_uan u ≡ true → length (uan_text u) ≤ 65535
unfolding is_uan
uan_short u h =
    let a = and_parts (is_host u.host) (is_port u.port && is_uan_path (47 ∷ u.path)) h in
    let range = port_range u.port (and_parts (is_port u.port) (is_uan_path (47 ∷ u.path)) a.1).0 in
    omega (arith, length_uan_text u, host_short u h, path_short u h, length-decimal-le 5 u.port (omega arith) (omega (arith, range.1)) (omega (arith, range.1)))

name_short : (n : Name) → name_is_spelled n ≡ true → length (name_spelling n) ≤ 65538
unfolding name_spelling name_is_spelled anon_bytes
name_short (name.Uan u) h = omega (arith, uan_short u h)
name_short (name.Anon theatre number) h = omega arith
name_short (name.Outside number) h = omega arith

made_short : (maker : Name) (serial : ℕ) → name_is_spelled maker ≡ true → length (made_spelling maker serial) ≤ 65546
unfolding bytes_64
made_short maker serial h = omega (arith, name_short maker h, length-append (name_spelling maker) (bytes_64 serial))

locator_short : (l : Ual) → is_ual l ≡ true → length (locator_spelling l) ≤ 65537
unfolding locator_spelling bytes_16
locator_short l h = omega (arith, ual_short l h, length-append (bytes_16 (length (ual_text l))) (ual_text l))

found_short : (found : Option (Ual × ℕ)) → found_is_spelled found ≡ true → length (found_spelling found) ≤ 65546
unfolding found_spelling found_is_spelled bytes_64
found_short None h = omega arith
found_short (Some found) h = omega (arith, locator_short found.0 h, length-append (locator_spelling found.0) (bytes_64 found.1))

pub put_reply_short : (maker : Name) (serial : ℕ) (bound : Bool) → name_is_spelled maker ≡ true → IsParcel (envelope_spelling (envelope.PutReply maker serial bound))
unfolding envelope_spelling
put_reply_short maker serial bound h =
    let made = made_short maker serial h in
    let all = length-append (made_spelling maker serial) ((if bound then 0 else 1) ∷ []) in
    record { least = omega (arith, made, all); most = omega (arith, made, all) }

pub get_reply_short : (u : Uan) (found : Option (Ual × ℕ)) → is_uan u ≡ true → found_is_spelled found ≡ true → IsParcel (envelope_spelling (envelope.GetReply u found))
unfolding envelope_spelling
get_reply_short u found h f =
    let first = name_short (name.Uan u) (uan_is_spelled u h) in
    let last = found_short found f in
    let all = length-append (uan_spelling u) (found_spelling found) in
    record { least = omega (arith, first, last, all); most = omega (arith, first, last, all) }
