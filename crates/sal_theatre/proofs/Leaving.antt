-- Actors that leave, or don't.
use Rattle.std.proofs.Common.{◌≡◌, ℕ, ◌<◌, Bool, true, false, ◌&&◌, not, List, Option, Some, None, refl, sym, ap, subst, ◌∙◌}
use Rattle.std.specs.Prelude.{if◌then◌else◌, nat_eq, nat_lt, Result, IfOk}
use Rattle.std.specs.FinMap as fm
use Rattle.std.proofs.lemmas.Bool.{and_parts, ltb-true}
use Rattle.std.proofs.lemmas.Option.{none-some, cond_some}
use Rattle.sal_value.specs.declared.name.Name.TheVariants as name
use Rattle.sal_value.specs.declared.name.Uan.{Uan}
use Rattle.sal_source.specs.Keys.{name_key}
use Rattle.sal_resident.specs.declared.resident.Resident.{Resident}
use Rattle.sal_resident.specs.Packing.{packed_actor}
use Rattle.sal_spelled.specs.Sending.{may_move, bytes_to_move}
use Rattle.sal_routing.specs.State.{Theatre, Desk}
use Rattle.sal_routing.specs.Arrivals.{leaving, may_leave, goes_as, goes, tell_moved, depart_as, depart_by, depart, move_to}

-- ---- its bytes

abbrev pub packed_if : Resident → ℕ → Theatre → Option (List ℕ)
packed_if r to t = if may_leave r to t then Some (packed_actor (leaving r t)) else None

leaves : (r : Resident) (to : ℕ) (t : Theatre) (packed : List ℕ) → Some packed ≡ packed_if r to t → (may_leave r to t ≡ true) × (packed_actor (leaving r t) ≡ packed)
leaves r to t packed e = cond_some (may_leave r to t) (packed_actor (leaving r t)) packed (sym e)

pub bytes : (r : Resident) (to : ℕ) (t : Theatre) (packed : List ℕ) → Some packed ≡ packed_if r to t → packed ≡ packed_actor (leaving r t)
bytes r to t packed e = sym (leaves r to t packed e).1

pub moves : (r : Resident) (to : ℕ) (t : Theatre) (packed : List ℕ) → Some packed ≡ packed_if r to t → r.moves < 18446744073709551615
unfolding may_leave
moves r to t packed e =
    let rest : Bool = nat_lt r.moves 18446744073709551615 && may_move (leaving r t) in
    ltb-true r.moves 18446744073709551615 (and_parts (nat_lt r.moves 18446744073709551615) (may_move (leaving r t)) (and_parts (not (nat_eq to t.me)) rest (leaves r to t packed e).0).1).0

pub may : (r : Resident) (to : ℕ) (t : Theatre) (packed : List ℕ) → Some packed ≡ packed_if r to t → true ≡ may_leave r to t
may r to t packed e = sym (leaves r to t packed e).0

pub may_not : (r : Resident) (to : ℕ) (t : Theatre) → None ≡ packed_if r to t → false ≡ may_leave r to t
may_not r to t e = at (may_leave r to t) e
  where
    at : (b : Bool) → None ≡ (if b then Some (packed_actor (leaving r t)) else None) → false ≡ b
    at true e = absurd (none-some (packed_actor (leaving r t)) e)
    at false e = refl

-- what may count a move leaves where it has bytes to move
pub leaves_by : (r : Resident) (to : ℕ) (t : Theatre) → (not (nat_eq to t.me) && nat_lt r.moves 18446744073709551615) ≡ true → bytes_to_move (leaving r t) ≡ packed_if r to t
unfolding bytes_to_move may_leave
leaves_by r to t e =
    let both = and_parts (not (nat_eq to t.me)) (nat_lt r.moves 18446744073709551615) e in
    let f : Bool → Bool → Option (List ℕ) = λ a b. if a && (b && may_move (leaving r t)) then Some (packed_actor (leaving r t)) else None in
    ap (f true) (sym both.1) ∙ ap (λ a. f a (nat_lt r.moves 18446744073709551615)) (sym both.0)

pub if_ok : {A E : Type 0} (x : Result A E) (a b : A) → a ≡ b → IfOk x (λ y. y ≡ a) → IfOk x (λ y. y ≡ b)
if_ok x a b e h = subst (λ o. IfOk x (λ y. y ≡ o)) e h

-- ---- the move

abbrev moved_if : Bool → Uan → Resident → ℕ → Desk → Desk
moved_if b u r to d = if b then depart_as u r to (tell_moved (name.Uan u) to d) else d

pub left : (u : Uan) (r : Resident) (to : ℕ) (d : Desk) (packed : List ℕ) → Some packed ≡ packed_if r to d.theatre → depart_as u r to (tell_moved (name.Uan u) to d) ≡ moved_if (may_leave r to d.theatre) u r to d
left u r to d packed e = ap (λ b. moved_if b u r to d) (may r to d.theatre packed e)

pub stayed : (u : Uan) (r : Resident) (to : ℕ) (d : Desk) → None ≡ packed_if r to d.theatre → d ≡ moved_if (may_leave r to d.theatre) u r to d
stayed u r to d e = ap (λ b. moved_if b u r to d) (may_not r to d.theatre e)

-- ---- by name

abbrev moved_by : Option Resident → Uan → ℕ → Desk → Desk
moved_by o u to d = if goes_as o to d.theatre then depart_by o u to d else d

pub some_moves : (u : Uan) (r : Resident) (to : ℕ) (d : Desk) → Some r ≡ fm.get d.theatre.residents (name_key (name.Uan u)) → moved_if (may_leave r to d.theatre) u r to d ≡ move_to (name.Uan u) to d
unfolding move_to goes depart
some_moves u r to d e = ap (λ o. moved_by o u to d) e

pub none_moves : (u : Uan) (to : ℕ) (d : Desk) → None ≡ fm.get d.theatre.residents (name_key (name.Uan u)) → d ≡ move_to (name.Uan u) to d
unfolding move_to goes depart
none_moves u to d e = ap (λ o. moved_by o u to d) e

pub some_goes : (u : Uan) (r : Resident) (to : ℕ) (t : Theatre) → Some r ≡ fm.get t.residents (name_key (name.Uan u)) → may_leave r to t ≡ goes (name.Uan u) to t
unfolding goes
some_goes u r to t e = ap (λ o. goes_as o to t) e

pub none_goes : (u : Uan) (to : ℕ) (t : Theatre) → None ≡ fm.get t.residents (name_key (name.Uan u)) → false ≡ goes (name.Uan u) to t
unfolding goes
none_goes u to t e = ap (λ o. goes_as o to t) e
