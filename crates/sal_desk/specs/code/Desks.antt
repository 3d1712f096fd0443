-- What stands for a desk: the theatre beside which a turn works, the envelope that begins the turn, if one does, and the
-- desk on which it works. That theatre stays, so that the changes can be made of it at the end.
use Rattle.std.specs.Prelude.{ℕ, List, Option, Some, None, refl}
use Rattle.std.specs.Coded.{Coded, code_by, coded×, coded_ℕ, coded_list, coded_option}
use Rattle.sal_node.specs.declared.parcel.Parcel.{Parcel}
use Rattle.sal_node.specs.contracts.parcel.Parcel.{the_row as parcel_row}
use Rattle.sal_routing.specs.declared.item.Item.{Item}
use Rattle.sal_routing.specs.contracts.item.Item.{the_row as item_row}
use Rattle.sal_routing.specs.declared.told.Told.{Told}
use Rattle.sal_routing.specs.contracts.told.Told.{the_row as told_row}
use Rattle.sal_routing.specs.State.{Theatre, Desk}
use Rattle.sal_desk.specs.code.Codes.{theatre_code}

-- An envelope is told by the node that it comes from and by how many fragments more are acknowledged with it.
pub record Turning : Type 0 where
  pub before : Theatre
  pub arrived : Option (ℕ × ℕ)
  pub desk : Desk

abbrev pub turning_by : Option (ℕ × ℕ) → Theatre → Desk → Turning
turning_by arrived t d = record { before = t; arrived = arrived; desk = d }

-- a turn that no envelope begins
abbrev pub turning : Theatre → Desk → Turning
turning t d = turning_by None t d

-- one that an envelope begins
abbrev pub turning_on : ℕ → ℕ → Theatre → Desk → Turning
turning_on peer count t d = turning_by (Some (peer, count)) t d

-- the change is made on the desk
abbrev pub on_desk : (Desk → Desk) → Turning → Turning
on_desk f x = record x { desk = f x.desk }

-- the change is made of the theatre on the desk
abbrev pub on_theatre : (Theatre → Theatre) → Desk → Desk
on_theatre f d = record d { theatre = f d.theatre }

abbrev pub desk_code : Coded Desk
desk_code =
    code_by
    (Theatre × (List Item × (List Parcel × Told)))
    (coded× theatre_code (coded× (coded_list item_row.coded) (coded× (coded_list parcel_row.coded) told_row.coded)))
    (λ d. (d.theatre, (d.work, (d.sent, d.told))))
    (λ p. record { theatre = p.0; work = p.1.0; sent = p.1.1.0; told = p.1.1.1 })
    (λ _. refl)

-- the code of these, so that a type of the program can stand for them
abbrev pub turning_code : Coded Turning
turning_code =
    code_by
    (Theatre × (Option (ℕ × ℕ) × Desk))
    (coded× theatre_code (coded× (coded_option (coded× coded_ℕ coded_ℕ)) desk_code))
    (λ x. (x.before, (x.arrived, x.desk)))
    (λ p. turning_by p.1.0 p.0 p.1.1)
    (λ _. refl)
