-- Each part of a node that a turn keeps, for the code that asks for it: `plans_kept` and the like.
use Rattle.std.proofs.Common.{◌≡◌, ℕ, List, ap}
use Rattle.sal_value.specs.declared.name.Name.{Name}
use Rattle.sal_value.specs.declared.name.Uan.{Uan}
use Rattle.sal_mail.specs.declared.message.Message.{Message}
use Rattle.sal_mail.specs.declared.effects.Actor.{Actor}
use Rattle.sal_mail.specs.declared.effects.Creation.{Creation}
use Rattle.sal_mail.specs.declared.effects.Effects.{Effects}
use Rattle.sal_mail.specs.declared.envelope.Envelope.{Envelope}
use Rattle.sal_mail.specs.declared.plan.Plan.{Plan}
use Rattle.sal_handler.specs.Calls.{Meaning}
use Rattle.sal_carriage.specs.Link.{Link}
use Rattle.sal_resident.specs.declared.resident.Resident.{Resident}
use Rattle.sal_routing.specs.declared.item.Item.{Item}
use Rattle.sal_routing.specs.declared.pending.Pending.{Pending}
use Rattle.sal_routing.specs.State.{Theatre, Desk, send}
use Rattle.sal_routing.specs.Routing.{ask, put_held, hold, send_on, route_item, route, release_held}
use Rattle.sal_routing.specs.Arrivals.{stand, arrive, put_place, learn, depart, move_to}
use Rattle.sal_routing.specs.Handling.{create, create_all, put_newcomers, installed, take_effect, migrate_after}
use Rattle.sal_routing.specs.Turns.{drop_pending, place_new, receive, ask_all}
use Rattle.sal_routing.specs.Laws.{TheatreNode}
use Rattle.sal_routing.proofs.Nodes.{route-node, arrive-node, learn-node, depart-node, create_all-node, take_effect-node, receive-node, send-node, ask-node, put_held-node, hold-node, send_on-node, route_item-node, release_held-node, put_place-node, move_to-node, create-node, installed-node, migrate_after-node, drop_pending-node, place_new-node, ask_all-node, stand-node, put_newcomers-node}

abbrev plan_of : TheatreNode → Plan
plan_of n = n.plan

abbrev me_of : TheatreNode → ℕ
me_of n = n.me

abbrev links_of : TheatreNode → List Link
links_of n = n.links

abbrev clock_of : TheatreNode → ℕ
clock_of n = n.clock

abbrev anon_of : TheatreNode → ℕ
anon_of n = n.next_anon

-- ---- the plan

pub route-plan : (p : Meaning) (d : Desk) → (route p d).theatre.plan ≡ d.theatre.plan
route-plan p d = ap plan_of (route-node p d)

pub arrive-plan : (p : Meaning) (r : Resident) (d : Desk) → (arrive p r d).theatre.plan ≡ d.theatre.plan
arrive-plan p r d = ap plan_of (arrive-node p r d)

pub learn-plan : (p : Meaning) (u : Uan) (to moves : ℕ) (d : Desk) → (learn p u to moves d).theatre.plan ≡ d.theatre.plan
learn-plan p u to moves d = ap plan_of (learn-node p u to moves d)

pub depart-plan : (n : Name) (to : ℕ) (d : Desk) → (depart n to d).theatre.plan ≡ d.theatre.plan
depart-plan n to d = ap plan_of (depart-node n to d)

pub create_all-plan : (maker : Name) (xs : List Creation) (d : Desk) → (create_all maker xs d).theatre.plan ≡ d.theatre.plan
create_all-plan maker xs d = ap plan_of (create_all-node maker xs d)

pub take_effect-plan : (p : Meaning) (e : Effects) (m : Message) (r : Resident) (d : Desk) → (take_effect p e m r d).theatre.plan ≡ d.theatre.plan
take_effect-plan p e m r d = ap plan_of (take_effect-node p e m r d)

pub receive-plan : (p : Meaning) (e : Envelope) (d : Desk) → (receive p e d).theatre.plan ≡ d.theatre.plan
receive-plan p e d = ap plan_of (receive-node p e d)

pub send-plan : (node : ℕ) (e : Envelope) (d : Desk) → (send node e d).theatre.plan ≡ d.theatre.plan
send-plan node e d = ap plan_of (send-node node e d)

pub ask-plan : (service : ℕ) (u : Uan) (d : Desk) → (ask service u d).theatre.plan ≡ d.theatre.plan
ask-plan service u d = ap plan_of (ask-node service u d)

pub put_held-plan : (n : Name) (i : Item) (d : Desk) → (put_held n i d).theatre.plan ≡ d.theatre.plan
put_held-plan n i d = ap plan_of (put_held-node n i d)

pub hold-plan : (n : Name) (i : Item) (d : Desk) → (hold n i d).theatre.plan ≡ d.theatre.plan
hold-plan n i d = ap plan_of (hold-node n i d)

pub send_on-plan : (n : Name) (i : Item) (d : Desk) → (send_on n i d).theatre.plan ≡ d.theatre.plan
send_on-plan n i d = ap plan_of (send_on-node n i d)

pub route_item-plan : (p : Meaning) (i : Item) (d : Desk) → (route_item p i d).theatre.plan ≡ d.theatre.plan
route_item-plan p i d = ap plan_of (route_item-node p i d)

pub release_held-plan : (n : Name) (d : Desk) → (release_held n d).theatre.plan ≡ d.theatre.plan
release_held-plan n d = ap plan_of (release_held-node n d)

pub put_place-plan : (u : Uan) (to moves : ℕ) (d : Desk) → (put_place u to moves d).theatre.plan ≡ d.theatre.plan
put_place-plan u to moves d = ap plan_of (put_place-node u to moves d)

pub move_to-plan : (n : Name) (to : ℕ) (d : Desk) → (move_to n to d).theatre.plan ≡ d.theatre.plan
move_to-plan n to d = ap plan_of (move_to-node n to d)

pub create-plan : (x : Pending) (d : Desk) → (create x d).theatre.plan ≡ d.theatre.plan
create-plan x d = ap plan_of (create-node x d)

pub installed-plan : (e : Effects) (m : Message) (r : Resident) (d : Desk) → (installed e m r d).theatre.plan ≡ d.theatre.plan
installed-plan e m r d = ap plan_of (installed-node e m r d)

pub migrate_after-plan : (m : Message) (r : Resident) (d : Desk) → (migrate_after m r d).theatre.plan ≡ d.theatre.plan
migrate_after-plan m r d = ap plan_of (migrate_after-node m r d)

pub drop_pending-plan : (maker : Name) (serial : ℕ) (d : Desk) → (drop_pending maker serial d).theatre.plan ≡ d.theatre.plan
drop_pending-plan maker serial d = ap plan_of (drop_pending-node maker serial d)

pub place_new-plan : (p : Meaning) (x : Pending) (d : Desk) → (place_new p x d).theatre.plan ≡ d.theatre.plan
place_new-plan p x d = ap plan_of (place_new-node p x d)

pub ask_all-plan : (us : List Uan) (d : Desk) → (ask_all us d).theatre.plan ≡ d.theatre.plan
ask_all-plan us d = ap plan_of (ask_all-node us d)

pub stand-plan : (r : Resident) (t : Theatre) → (stand r t).plan ≡ t.plan
stand-plan r t = ap plan_of (stand-node r t)

pub put_newcomers-plan : (actors : List Actor) (t : Theatre) → (put_newcomers actors t).plan ≡ t.plan
put_newcomers-plan actors t = ap plan_of (put_newcomers-node actors t)

pub ruleset plans_kept = (route-plan, arrive-plan, learn-plan, depart-plan, create_all-plan, take_effect-plan, receive-plan, send-plan, ask-plan, put_held-plan, hold-plan, send_on-plan, route_item-plan, release_held-plan, put_place-plan, move_to-plan, create-plan, installed-plan, migrate_after-plan, drop_pending-plan, place_new-plan, ask_all-plan, stand-plan, put_newcomers-plan)

-- ---- the theatre's number

pub route-me : (p : Meaning) (d : Desk) → (route p d).theatre.me ≡ d.theatre.me
route-me p d = ap me_of (route-node p d)

pub arrive-me : (p : Meaning) (r : Resident) (d : Desk) → (arrive p r d).theatre.me ≡ d.theatre.me
arrive-me p r d = ap me_of (arrive-node p r d)

pub learn-me : (p : Meaning) (u : Uan) (to moves : ℕ) (d : Desk) → (learn p u to moves d).theatre.me ≡ d.theatre.me
learn-me p u to moves d = ap me_of (learn-node p u to moves d)

pub depart-me : (n : Name) (to : ℕ) (d : Desk) → (depart n to d).theatre.me ≡ d.theatre.me
depart-me n to d = ap me_of (depart-node n to d)

pub create_all-me : (maker : Name) (xs : List Creation) (d : Desk) → (create_all maker xs d).theatre.me ≡ d.theatre.me
create_all-me maker xs d = ap me_of (create_all-node maker xs d)

pub take_effect-me : (p : Meaning) (e : Effects) (m : Message) (r : Resident) (d : Desk) → (take_effect p e m r d).theatre.me ≡ d.theatre.me
take_effect-me p e m r d = ap me_of (take_effect-node p e m r d)

pub receive-me : (p : Meaning) (e : Envelope) (d : Desk) → (receive p e d).theatre.me ≡ d.theatre.me
receive-me p e d = ap me_of (receive-node p e d)

pub send-me : (node : ℕ) (e : Envelope) (d : Desk) → (send node e d).theatre.me ≡ d.theatre.me
send-me node e d = ap me_of (send-node node e d)

pub ask-me : (service : ℕ) (u : Uan) (d : Desk) → (ask service u d).theatre.me ≡ d.theatre.me
ask-me service u d = ap me_of (ask-node service u d)

pub put_held-me : (n : Name) (i : Item) (d : Desk) → (put_held n i d).theatre.me ≡ d.theatre.me
put_held-me n i d = ap me_of (put_held-node n i d)

pub hold-me : (n : Name) (i : Item) (d : Desk) → (hold n i d).theatre.me ≡ d.theatre.me
hold-me n i d = ap me_of (hold-node n i d)

pub send_on-me : (n : Name) (i : Item) (d : Desk) → (send_on n i d).theatre.me ≡ d.theatre.me
send_on-me n i d = ap me_of (send_on-node n i d)

pub route_item-me : (p : Meaning) (i : Item) (d : Desk) → (route_item p i d).theatre.me ≡ d.theatre.me
route_item-me p i d = ap me_of (route_item-node p i d)

pub release_held-me : (n : Name) (d : Desk) → (release_held n d).theatre.me ≡ d.theatre.me
release_held-me n d = ap me_of (release_held-node n d)

pub put_place-me : (u : Uan) (to moves : ℕ) (d : Desk) → (put_place u to moves d).theatre.me ≡ d.theatre.me
put_place-me u to moves d = ap me_of (put_place-node u to moves d)

pub move_to-me : (n : Name) (to : ℕ) (d : Desk) → (move_to n to d).theatre.me ≡ d.theatre.me
move_to-me n to d = ap me_of (move_to-node n to d)

pub create-me : (x : Pending) (d : Desk) → (create x d).theatre.me ≡ d.theatre.me
create-me x d = ap me_of (create-node x d)

pub installed-me : (e : Effects) (m : Message) (r : Resident) (d : Desk) → (installed e m r d).theatre.me ≡ d.theatre.me
installed-me e m r d = ap me_of (installed-node e m r d)

pub migrate_after-me : (m : Message) (r : Resident) (d : Desk) → (migrate_after m r d).theatre.me ≡ d.theatre.me
migrate_after-me m r d = ap me_of (migrate_after-node m r d)

pub drop_pending-me : (maker : Name) (serial : ℕ) (d : Desk) → (drop_pending maker serial d).theatre.me ≡ d.theatre.me
drop_pending-me maker serial d = ap me_of (drop_pending-node maker serial d)

pub place_new-me : (p : Meaning) (x : Pending) (d : Desk) → (place_new p x d).theatre.me ≡ d.theatre.me
place_new-me p x d = ap me_of (place_new-node p x d)

pub ask_all-me : (us : List Uan) (d : Desk) → (ask_all us d).theatre.me ≡ d.theatre.me
ask_all-me us d = ap me_of (ask_all-node us d)

pub stand-me : (r : Resident) (t : Theatre) → (stand r t).me ≡ t.me
stand-me r t = ap me_of (stand-node r t)

pub put_newcomers-me : (actors : List Actor) (t : Theatre) → (put_newcomers actors t).me ≡ t.me
put_newcomers-me actors t = ap me_of (put_newcomers-node actors t)

pub ruleset numbers_kept = (route-me, arrive-me, learn-me, depart-me, create_all-me, take_effect-me, receive-me, send-me, ask-me, put_held-me, hold-me, send_on-me, route_item-me, release_held-me, put_place-me, move_to-me, create-me, installed-me, migrate_after-me, drop_pending-me, place_new-me, ask_all-me, stand-me, put_newcomers-me)

-- ---- the links

pub route-links : (p : Meaning) (d : Desk) → (route p d).theatre.links ≡ d.theatre.links
route-links p d = ap links_of (route-node p d)

pub arrive-links : (p : Meaning) (r : Resident) (d : Desk) → (arrive p r d).theatre.links ≡ d.theatre.links
arrive-links p r d = ap links_of (arrive-node p r d)

pub learn-links : (p : Meaning) (u : Uan) (to moves : ℕ) (d : Desk) → (learn p u to moves d).theatre.links ≡ d.theatre.links
learn-links p u to moves d = ap links_of (learn-node p u to moves d)

pub depart-links : (n : Name) (to : ℕ) (d : Desk) → (depart n to d).theatre.links ≡ d.theatre.links
depart-links n to d = ap links_of (depart-node n to d)

pub create_all-links : (maker : Name) (xs : List Creation) (d : Desk) → (create_all maker xs d).theatre.links ≡ d.theatre.links
create_all-links maker xs d = ap links_of (create_all-node maker xs d)

pub take_effect-links : (p : Meaning) (e : Effects) (m : Message) (r : Resident) (d : Desk) → (take_effect p e m r d).theatre.links ≡ d.theatre.links
take_effect-links p e m r d = ap links_of (take_effect-node p e m r d)

pub receive-links : (p : Meaning) (e : Envelope) (d : Desk) → (receive p e d).theatre.links ≡ d.theatre.links
receive-links p e d = ap links_of (receive-node p e d)

pub ruleset links_kept = (route-links, arrive-links, learn-links, depart-links, create_all-links, take_effect-links, receive-links)

-- ---- the clock

pub route-clock : (p : Meaning) (d : Desk) → (route p d).theatre.clock ≡ d.theatre.clock
route-clock p d = ap clock_of (route-node p d)

pub arrive-clock : (p : Meaning) (r : Resident) (d : Desk) → (arrive p r d).theatre.clock ≡ d.theatre.clock
arrive-clock p r d = ap clock_of (arrive-node p r d)

pub learn-clock : (p : Meaning) (u : Uan) (to moves : ℕ) (d : Desk) → (learn p u to moves d).theatre.clock ≡ d.theatre.clock
learn-clock p u to moves d = ap clock_of (learn-node p u to moves d)

pub depart-clock : (n : Name) (to : ℕ) (d : Desk) → (depart n to d).theatre.clock ≡ d.theatre.clock
depart-clock n to d = ap clock_of (depart-node n to d)

pub create_all-clock : (maker : Name) (xs : List Creation) (d : Desk) → (create_all maker xs d).theatre.clock ≡ d.theatre.clock
create_all-clock maker xs d = ap clock_of (create_all-node maker xs d)

pub take_effect-clock : (p : Meaning) (e : Effects) (m : Message) (r : Resident) (d : Desk) → (take_effect p e m r d).theatre.clock ≡ d.theatre.clock
take_effect-clock p e m r d = ap clock_of (take_effect-node p e m r d)

pub receive-clock : (p : Meaning) (e : Envelope) (d : Desk) → (receive p e d).theatre.clock ≡ d.theatre.clock
receive-clock p e d = ap clock_of (receive-node p e d)

pub ruleset clocks_kept = (route-clock, arrive-clock, learn-clock, depart-clock, create_all-clock, take_effect-clock, receive-clock)

-- ---- the next number of an anonymous actor

pub route-anon : (p : Meaning) (d : Desk) → (route p d).theatre.next_anon ≡ d.theatre.next_anon
route-anon p d = ap anon_of (route-node p d)

pub arrive-anon : (p : Meaning) (r : Resident) (d : Desk) → (arrive p r d).theatre.next_anon ≡ d.theatre.next_anon
arrive-anon p r d = ap anon_of (arrive-node p r d)

pub learn-anon : (p : Meaning) (u : Uan) (to moves : ℕ) (d : Desk) → (learn p u to moves d).theatre.next_anon ≡ d.theatre.next_anon
learn-anon p u to moves d = ap anon_of (learn-node p u to moves d)

pub depart-anon : (n : Name) (to : ℕ) (d : Desk) → (depart n to d).theatre.next_anon ≡ d.theatre.next_anon
depart-anon n to d = ap anon_of (depart-node n to d)

pub create_all-anon : (maker : Name) (xs : List Creation) (d : Desk) → (create_all maker xs d).theatre.next_anon ≡ d.theatre.next_anon
create_all-anon maker xs d = ap anon_of (create_all-node maker xs d)

pub take_effect-anon : (p : Meaning) (e : Effects) (m : Message) (r : Resident) (d : Desk) → (take_effect p e m r d).theatre.next_anon ≡ e.fresh
take_effect-anon p e m r d = ap anon_of (take_effect-node p e m r d)

pub receive-anon : (p : Meaning) (e : Envelope) (d : Desk) → (receive p e d).theatre.next_anon ≡ d.theatre.next_anon
receive-anon p e d = ap anon_of (receive-node p e d)

pub ruleset names_kept = (route-anon, arrive-anon, learn-anon, depart-anon, create_all-anon, take_effect-anon, receive-anon)
