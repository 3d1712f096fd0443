-- The codes of theatres and residents, so that types of the program can stand for them.
use Rattle.std.specs.Prelude.{ℕ, List, refl}
use Rattle.std.specs.Coded.{Coded, code_by, coded×, coded_ℕ, coded_list}
use Rattle.std.specs.FinMap as fm
use Rattle.sal_value.specs.Table.{Table}
use Rattle.sal_mail.specs.declared.message.Message.{Message}
use Rattle.sal_mail.specs.contracts.message.Message.{the_row as message_row}
use Rattle.sal_mail.specs.declared.plan.Plan.{Plan}
use Rattle.sal_mail.specs.contracts.plan.Plan.{the_row as plan_row}
use Rattle.sal_carriage.specs.Link.{Link}
use Rattle.sal_carriage.specs.contracts.link.Link.{the_row as link_row}
use Rattle.sal_resident.specs.declared.resident.Resident.{Resident}
use Rattle.sal_resident.specs.contracts.resident.Resident.{the_row as resident_row}
use Rattle.sal_move.specs.Places.{Places, places_code}
use Rattle.sal_routing.specs.declared.item.Item.{Item}
use Rattle.sal_routing.specs.contracts.item.Item.{the_row as item_row}
use Rattle.sal_routing.specs.declared.pending.Pending.{Pending}
use Rattle.sal_routing.specs.contracts.pending.Pending.{the_row as pending_row}
use Rattle.sal_routing.specs.declared.pending.Question.{Question}
use Rattle.sal_routing.specs.contracts.pending.Question.{the_row as question_row}
use Rattle.sal_routing.specs.State.{Theatre}

abbrev pub resident_code : Coded Resident
resident_code = resident_row.coded

-- the code of tables of these
abbrev pub table_code : {X : Type 0} → Coded X → Coded (Table X)
table_code x = fm.code (coded_list coded_ℕ) x

abbrev pub theatre_code : Coded Theatre
theatre_code =
    code_by
    (ℕ × (Plan × (Table Resident × (List Message × (List (ℕ × Message) × (Table (List Item) × (Table Pending × (Places × (Table Question × (List Link × (ℕ × ℕ)))))))))))
    (coded× coded_ℕ (coded× plan_row.coded (coded× (table_code resident_code) (coded× (coded_list message_row.coded) (coded× (coded_list (coded× coded_ℕ message_row.coded)) (coded× (table_code (coded_list item_row.coded)) (coded× (table_code pending_row.coded) (coded× places_code (coded× (table_code question_row.coded) (coded× (coded_list link_row.coded) (coded× coded_ℕ coded_ℕ)))))))))))
    (λ t. (t.me, (t.plan, (t.residents, (t.ready, (t.delayed, (t.held, (t.pending, (t.places, (t.questions, (t.links, (t.clock, t.next_anon))))))))))))
    (λ p. record { me = p.0; plan = p.1.0; residents = p.1.1.0; ready = p.1.1.1.0; delayed = p.1.1.1.1.0; held = p.1.1.1.1.1.0; pending = p.1.1.1.1.1.1.0; places = p.1.1.1.1.1.1.1.0; questions = p.1.1.1.1.1.1.1.1.0; links = p.1.1.1.1.1.1.1.1.1.0; clock = p.1.1.1.1.1.1.1.1.1.1.0; next_anon = p.1.1.1.1.1.1.1.1.1.1.1 })
    (λ _. refl)
