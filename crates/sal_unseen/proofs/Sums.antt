-- A sum over the pieces of a desk, part by part.
use Rattle.std.proofs.Common.{◌≡◌, ℕ, ◌+◌, true, List, [], ◌∷◌, ◌++◌, map, filter, refl, ap, ◌∙◌, arith}
use Rattle.std.specs.Prelude.{flat_map}
use Rattle.std.specs.FinMap as fm
use Rattle.sal_mail.specs.declared.message.Message.{Message}
use Rattle.sal_envelope.specs.Decoding.{decoded_envelope}
use Rattle.sal_source.specs.Table.{Table, total, sum_values}
use Rattle.sal_source.proofs.Same.{total-append, total-map}
use Rattle.sal_resident.specs.declared.resident.Resident.{Resident}
use Rattle.sal_node.specs.declared.parcel.Parcel.{Parcel}
use Rattle.sal_pieces.specs.Pieces.{Piece, loose_call}
use Rattle.sal_pieces.proofs.Order.{total_flat}
use Rattle.sal_routing.specs.declared.item.Item.{Item}
use Rattle.sal_routing.specs.declared.pending.Pending.{Pending}
use Rattle.sal_routing.specs.State.{Theatre, Desk}
use Rattle.sal_world.specs.Pieces.{item_piece, resident_pieces, pending_piece, held_items, held_pieces, theatre_pieces}
use Rattle.sal_unseen.specs.Desks.{decoded_pieces, sent_pieces, desk_pieces}

all_kept : (items : List Item) → filter (λ i. true) items ≡ items
all_kept [] = refl
all_kept (i ∷ items) = ap (λ is. i ∷ is) (all_kept items)

module _ (f : Piece → ℕ) where
  abbrev pub of_calls : List Message → ℕ
  of_calls ms = total (λ m. f (loose_call m)) ms

  abbrev pub of_delayed : List (ℕ × Message) → ℕ
  of_delayed ms = total (λ x. f (loose_call x.1)) ms

  abbrev pub of_items : List Item → ℕ
  of_items is = total (λ i. f (item_piece i)) is

  abbrev pub of_resident : Resident → ℕ
  of_resident r = total f (resident_pieces r)

  abbrev pub of_residents : Table Resident → ℕ
  of_residents t = sum_values of_resident t

  abbrev pub of_held : Table (List Item) → ℕ
  of_held t = sum_values of_items t

  abbrev pub of_pending : Table Pending → ℕ
  of_pending t = sum_values (λ x. f (pending_piece x)) t

  abbrev pub of_parcel : Parcel → ℕ
  of_parcel x = total f (decoded_pieces (decoded_envelope x.bytes))

  abbrev pub of_sent : List Parcel → ℕ
  of_sent xs = total of_parcel xs

  abbrev pub of_theatre : Theatre → ℕ
  of_theatre t = of_residents t.residents + (of_calls t.ready + (of_delayed t.delayed + (of_held t.held + of_pending t.pending)))

  abbrev pub of_desk : Desk → ℕ
  of_desk d = of_items d.work + (of_theatre d.theatre + of_sent d.sent)

  held_total : (t : Table (List Item)) → total f (held_pieces (λ i. true) t) ≡ of_held t
  held_total t =
      ap (λ is. total f (map item_piece is)) (all_kept (held_items t))
      ∙ total-map f item_piece (held_items t)
      ∙ total_flat (λ (i : Item). f (item_piece i)) (λ (is : List Item). is) (fm.values t)
      ∙ total-map of_items (λ e. e.1) (fm.entries t)

  pub theatre_total : (t : Theatre) → total f (theatre_pieces (λ i. true) t) ≡ of_theatre t
  unfolding theatre_pieces
  theatre_total t =
      let residents : List Piece = flat_map resident_pieces (fm.values t.residents) in
      let ready : List Piece = map loose_call t.ready in
      let delayed : List Piece = map (λ x. loose_call x.1) t.delayed in
      let held : List Piece = held_pieces (λ i. true) t.held in
      let pending : List Piece = map pending_piece (fm.values t.pending) in
      let r : total f residents ≡ of_residents t.residents = total_flat f resident_pieces (fm.values t.residents) ∙ total-map of_resident (λ e. e.1) (fm.entries t.residents) in
      let c : total f ready ≡ of_calls t.ready = total-map f loose_call t.ready in
      let l : total f delayed ≡ of_delayed t.delayed = total-map f (λ x. loose_call x.1) t.delayed in
      let p : total f pending ≡ of_pending t.pending = total-map f pending_piece (fm.values t.pending) ∙ total-map (λ x. f (pending_piece x)) (λ e. e.1) (fm.entries t.pending) in
      omega (
        arith,
        total-append f residents (ready ++ (delayed ++ (held ++ pending))),
        total-append f ready (delayed ++ (held ++ pending)),
        total-append f delayed (held ++ pending),
        total-append f held pending,
        r,
        c,
        l,
        held_total t.held,
        p,
      )

  pub desk_total : (d : Desk) → total f (desk_pieces d) ≡ of_desk d
  desk_total d =
      let work : List Piece = map item_piece d.work in
      let there : List Piece = theatre_pieces (λ i. true) d.theatre in
      let sent : List Piece = sent_pieces d.sent in
      let w : total f work ≡ of_items d.work = total-map f item_piece d.work in
      let s : total f sent ≡ of_sent d.sent = total_flat f (λ x. decoded_pieces (decoded_envelope x.bytes)) d.sent in
      omega (arith, total-append f work (there ++ sent), total-append f there sent, w, s, theatre_total d.theatre)
