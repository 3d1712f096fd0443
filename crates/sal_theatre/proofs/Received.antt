-- Answers to questions, and actors that may move here.
use Rattle.std.proofs.Common.{◌≡◌, ℕ, Bool, true, ◌&&◌, Option, Some, None, length, refl, sym, ap, ◌∙◌}
use Rattle.std.specs.Prelude.{option_map, nat_le, nat_lt}
use Rattle.std.specs.List.{list_all}
use Rattle.std.proofs.lemmas.Bool.{and_parts, and_from}
use Rattle.std.proofs.lemmas.Option.{none-some, same_Some}
use Rattle.sal_value.specs.declared.name.Uan.{Uan}
use Rattle.sal_value.specs.declared.name.Ual.{Ual}
use Rattle.sal_mail.specs.declared.message.Message.{Message}
use Rattle.sal_handler.specs.Calls.{Meaning}
use Rattle.sal_resident.specs.declared.resident.Resident.{Resident}
use Rattle.sal_tidy.specs.Tidy.{IsTidy, is_own_message}
use Rattle.sal_tidy.proofs.Testing.{pass_weaker, tested}
use Rattle.sal_routing.specs.declared.pending.Asking.{Asking}
use Rattle.sal_routing.specs.declared.pending.Question.{Question}
use Rattle.sal_routing.specs.State.{Theatre, Desk}
use Rattle.sal_routing.specs.Fits.{is_same_name, is_legal_piece, fits_arrival, fits_waiting, fits_join, fits_mailbox, fits_move}
use Rattle.sal_routing.specs.Turns.{answer_by}
use Rattle.sal_theatre.specs.code.Asked.{question}

-- ---- questions

abbrev asking_of : Option Question → Option Asking
asking_of o = option_map (λ q. q.asking) o

pub not_asked : (p : Meaning) (u : Uan) (o : Option Question) (found : Option (Ual × ℕ)) (d : Desk) → None ≡ asking_of o → d ≡ answer_by p u o found d
not_asked p u None found d e = refl
not_asked p u (Some q) found d e = absurd (none-some q.asking e)

same_asking : (p : Meaning) (u : Uan) (q : Question) (found : Option (Ual × ℕ)) (d : Desk) → answer_by p u (Some (question u q.asking)) found d ≡ answer_by p u (Some q) found d
same_asking p u q None d = refl
same_asking p u q (Some x) d = refl

pub asked : (p : Meaning) (u : Uan) (a : Asking) (o : Option Question) (found : Option (Ual × ℕ)) (d : Desk) → Some a ≡ asking_of o → answer_by p u (Some (question u a)) found d ≡ answer_by p u o found d
asked p u a None found d e = absurd (none-some a (sym e))
asked p u a (Some q) found d e = ap (λ x. answer_by p u (Some (question u x)) found d) (same_Some a q.asking e) ∙ same_asking p u q found d

-- ---- actors that move here

own_of_waiting : (r : Resident) (m : Message) → fits_waiting r m ≡ true → is_own_message r m ≡ true
unfolding fits_waiting
own_of_waiting r m e =
    let few : Bool = nat_le (length m.args) 16 && list_all is_legal_piece m.args in
    let first = and_parts (is_same_name r.name m.maker) (nat_lt m.serial r.serial && few) e in
    and_from (is_same_name r.name m.maker) (nat_lt m.serial r.serial) first.0 (and_parts (nat_lt m.serial r.serial) few first.1).0

pub fits_tidy : (p : Meaning) (t : Theatre) (r : Resident) → fits_move p t r ≡ true → IsTidy r
unfolding fits_move
fits_tidy p t r e =
    let calls : Bool = list_all (fits_mailbox p r) r.mailbox in
    let joins : Bool = list_all (fits_join r) r.book.joins in
    let waiting : Bool = list_all (fits_waiting r) r.book.messages in
    let book = (and_parts (fits_arrival p t r) (waiting && (joins && calls)) e).1 in
    let rest = and_parts waiting (joins && calls) book in
    tested.tidy r (pass_weaker (fits_waiting r) (is_own_message r) (own_of_waiting r) r.book.messages rest.0) (and_parts joins calls rest.1).0
