-- How the changes of a draft are made.
use Rattle.std.proofs.Common.{◌≡◌, ℕ, ◌+◌, ◌<◌, ◌≤◌, List, ◌∷◌, ◌++◌, length, drop, get_or, Option, Some, None, refl, sym, ap, subst, ◌∙◌}
use Rattle.std.proofs.lemmas.List.{drop_more, drop_all}
use Rattle.sal_value.specs.declared.name.Name.{Name}
use Rattle.sal_value.specs.Table.{Table, write}
use Rattle.sal_mail.specs.declared.message.Message.{Message}
use Rattle.sal_source.specs.Keys.{name_key}
use Rattle.sal_carriage.specs.Link.{Link}
use Rattle.sal_resident.specs.declared.resident.Resident.{Resident}
use Rattle.sal_move.specs.Places.{Places}
use Rattle.std.specs.Prelude.{option_map}
use Rattle.sal_node.specs.declared.parcel.Parcel.{Parcel}
use Rattle.sal_node.specs.Links.{offer_all}
use Rattle.sal_node.proofs.Halves.{between}
use Rattle.sal_entries.specs.Entries.{values, overlaid}
use Rattle.sal_queues.specs.Queues.{Queues, filled, joined, HasRoomFor, KeepsRoom}
use Rattle.sal_routing.specs.declared.item.Item.{Item}
use Rattle.sal_routing.specs.declared.pending.Pending.{Pending}
use Rattle.sal_routing.specs.declared.pending.Question.{Question}
use Rattle.sal_routing.specs.declared.told.Told.{Told}
use Rattle.sal_routing.specs.State.{Theatre}
use Rattle.sal_desk.specs.declared.draft.Draft.{Draft}
use Rattle.sal_desk.specs.declared.lists.Lists.{Lists}
use Rattle.sal_desk.specs.code.Rooms.{LooksSame, AreChanged}
use Rattle.sal_desk.specs.code.Drafts.{without_taken, without_calls, without_reached, without_held, links_after, CanFinish, theatre_with, desk_with, CommitsTo, Commits}

-- ---- room in queues

module _ {X : Type 0} where
  pub keeps_through : (a b c : Queues X) → KeepsRoom a b → KeepsRoom b c → KeepsRoom a c
  unfolding KeepsRoom
  keeps_through a b c f g more had = g more (f more had)

  pub room_after : (a b more : Queues X) → KeepsRoom a b → HasRoomFor a more → HasRoomFor b more
  unfolding KeepsRoom
  room_after a b more f had = f more had

-- ---- queues of released names

-- the next name of a loop
pub held_step : (names : List Name) (i : ℕ) (n : Name) (t u v : Table (List Item)) → i < length names → n ≡ get_or names i n → u ≡ write t (name_key n) None → without_held (drop i names) t ≡ v → without_held (drop (i + 1) names) u ≡ v
unfolding without_held
held_step names i n t u v lt is new before =
    ap (without_held (drop (i + 1) names)) new
    ∙ ap (λ ns. without_held ns t) (sym (drop_more names i n lt ∙ ap (λ x. x ∷ drop (i + 1) names) (sym is))) ∙ before

-- no name is left
pub held_end : (names : List Name) (i : ℕ) (t v : Table (List Item)) → length names ≤ i → without_held (drop i names) t ≡ v → t ≡ v
unfolding without_held
held_end names i t v le before = ap (λ ns. without_held ns t) (sym (drop_all i names le)) ∙ before

-- ---- a theatre after the changes

-- the theatre with these lists
abbrev pub theatre_in : Lists → Theatre → Theatre
theatre_in l t = record t { residents = values l.residents; ready = l.ready.items; delayed = l.delayed.items; held = filled l.held; pending = values l.pending; places = values l.places; questions = values l.questions }

-- the same is seen of the lists, and the links are as they were
pub unchanged : (t : Theatre) (old new : Lists) (links : List Link) → LooksSame old new → links ≡ t.links →
    record (theatre_in old t) { residents = values new.residents; ready = new.ready.items; delayed = new.delayed.items; held = filled new.held; pending = values new.pending; places = values new.places; questions = values new.questions; links = links }
    ≡ theatre_in old t
unchanged t old new links s l =
    λ i. record t { residents = s.residents i; ready = s.ready i; delayed = s.delayed i; held = s.held i; pending = s.pending i; places = s.places i; questions = s.questions i; links = l i }

-- lists that look the same are changed
pub changed_from : (t : Theatre) (d : Draft) (old mid new : Lists) (links after : List Link) → LooksSame old mid → AreChanged d mid new → links ≡ after →
    record (theatre_in new t) { links = links; clock = d.clock; next_anon = d.next_anon } ≡ record (theatre_with (theatre_in old t) d) { links = after }
changed_from t d old mid new links after s a l =
    let residents = a.residents ∙ ap (overlaid d.residents) s.residents in
    let ready = a.ready ∙ ap (λ ms. without_calls d.left (without_taken d.taken ms) ++ d.ready) s.ready in
    let delayed = a.delayed ∙ ap (λ ms. without_reached d.reached ms ++ d.delayed) s.delayed in
    let held = a.held ∙ ap (λ h. joined d.held (without_held d.released h)) s.held in
    let pending = a.pending ∙ ap (overlaid d.pending) s.pending in
    let places = a.places ∙ ap (overlaid d.places) s.places in
    let questions = a.questions ∙ ap (overlaid d.questions) s.questions in
    λ i. record t {
      residents = residents i;
      ready = ready i;
      delayed = delayed i;
      held = held i;
      pending = pending i;
      places = places i;
      questions = questions i;
      links = l i;
      clock = d.clock;
      next_anon = d.next_anon;
    }

-- ---- offers, where an envelope is taken after them

pub offers_before : (ps : List Parcel) (arrived : Option (ℕ × ℕ)) (links : List Link) → CanFinish arrived links → offer_all ps (links_after arrived links) ≡ option_map (links_after arrived) (offer_all ps links)
offers_before ps None links can = same (offer_all ps links)
  where
    same : (o : Option (List Link)) → o ≡ option_map (λ ls. ls) o
    same None = refl
    same (Some ls) = refl
offers_before ps (Some x) links can = between.offers ps x.0 x.1 links can

pub can_after : (ps : List Parcel) (arrived : Option (ℕ × ℕ)) (links after : List Link) → CanFinish arrived links → offer_all ps links ≡ Some after → CanFinish arrived after
can_after ps None links after can is = tt
can_after ps (Some x) links after can is = between.can ps x.0 x.1 links after can is

pub committed : (t : Theatre) (d : Draft) (links : List Link) (told : Told) (new : Theatre) → CanFinish d.arrived t.links → offer_all d.sent t.links ≡ Some links → told ≡ d.told →
    new ≡ record (theatre_with t d) { links = links_after d.arrived links } → Commits t (desk_with t d) (Some told) new
committed t d links told new can is says changed =
    subst (λ o. CommitsTo o t (desk_with t d) (Some told) new) (sym (offers_before d.sent d.arrived t.links can ∙ ap (option_map (links_after d.arrived)) is)) (ap Some says, changed)

pub spent : (t : Theatre) (d : Draft) (new : Theatre) → CanFinish d.arrived t.links → offer_all d.sent t.links ≡ None → new ≡ t → Commits t (desk_with t d) None new
spent t d new can is same =
    subst (λ o. CommitsTo o t (desk_with t d) None new) (sym (offers_before d.sent d.arrived t.links can ∙ ap (option_map (links_after d.arrived)) is)) (refl, same)
