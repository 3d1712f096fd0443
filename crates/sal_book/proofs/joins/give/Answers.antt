use Rattle.std.proofs.Common.{ap, sym, ◌∙◌, length, arith}
use Rattle.std.specs.List.{position_from}
use Rattle.sal_book.specs.Book.{has_number}
use Rattle.sal_book.specs.code.Slots.{are_full_but}
use Rattle.sal_book.proofs.Filling.{gives_none, gives_slot, gives_complete, found_within}
use Rattle.sal_book.proofs.joins.give.Goals as goal

pub returns-in_default-clause-joins : goal.returns-in_default-clause-joins
returns-in_default-clause-joins c =
    (gives_none c.args.number c.args.at c.args.value c.args.joins.now.items
    (ap (position_from (has_number c.args.number) 0) (sym c.as_slice.ensures.value) ∙ sym c.index_of.ensures ∙ c.in_default.is)).after

pub returns-in_default-clause-replies : goal.returns-in_default-clause-replies
returns-in_default-clause-replies c =
    c.new.ensures
    ∙ (gives_none c.args.number c.args.at c.args.value c.args.joins.now.items
    (ap (position_from (has_number c.args.number) 0) (sym c.as_slice.ensures.value) ∙ sym c.index_of.ensures ∙ c.in_default.is)).given

pub index-requires : goal.index-requires
index-requires c =
    let within = found_within c.args.number c.args.at c.args.value c.args.joins.now.items c.in-Some.i
    (ap (position_from (has_number c.args.number) 0) (sym c.as_slice.ensures.value) ∙ sym c.index_of.ensures ∙ c.in-Some.is) in
    let same = ap length c.as_slice.ensures.value in
    omega arith

pub complete-requires : goal.complete-requires
complete-requires c =
    let within = found_within c.args.number c.args.at c.args.value c.args.joins.now.items c.in-Some.i
    (ap (position_from (has_number c.args.number) 0) (sym c.as_slice.ensures.value) ∙ sym c.index_of.ensures ∙ c.in-Some.is) in
    let same = ap length c.as_slice.ensures.value in
    omega arith

pub returns-then-is_full_but-clause-joins : goal.returns-then-is_full_but-clause-joins
returns-then-is_full_but-clause-joins c =
    (gives_complete c.args.number c.args.at c.args.value c.args.joins.now.items c.complete.new.joins.items c.complete.result c.in-Some.i c.index.result.now c.requires
    (ap (position_from (has_number c.args.number) 0) (sym c.as_slice.ensures.value) ∙ sym c.index_of.ensures ∙ c.in-Some.is)
    c.index.ensures (sym c.is_full_but.ensures ∙ c.if-is_full_but.true) c.complete.ensures.joins c.complete.ensures.replies).0

pub returns-then-is_full_but-clause-replies : goal.returns-then-is_full_but-clause-replies
returns-then-is_full_but-clause-replies c =
    (gives_complete c.args.number c.args.at c.args.value c.args.joins.now.items c.complete.new.joins.items c.complete.result c.in-Some.i c.index.result.now c.requires
    (ap (position_from (has_number c.args.number) 0) (sym c.as_slice.ensures.value) ∙ sym c.index_of.ensures ∙ c.in-Some.is)
    c.index.ensures (sym c.is_full_but.ensures ∙ c.if-is_full_but.true) c.complete.ensures.joins c.complete.ensures.replies).1

pub fill_at-requires : goal.fill_at-requires
fill_at-requires c =
    let within = found_within c.args.number c.args.at c.args.value c.args.joins.now.items c.in-Some.i
    (ap (position_from (has_number c.args.number) 0) (sym c.as_slice.ensures.value) ∙ sym c.index_of.ensures ∙ c.in-Some.is) in
    let same = ap length c.as_slice.ensures.value in
    omega arith

pub returns-clause-joins : goal.returns-clause-joins
returns-clause-joins c =
    (gives_slot c.args.number c.args.at c.args.value c.args.joins.now.items c.fill_at.new.joins.items c.in-Some.i c.index.result.now c.requires
    (ap (position_from (has_number c.args.number) 0) (sym c.as_slice.ensures.value) ∙ sym c.index_of.ensures ∙ c.in-Some.is)
    c.index.ensures (sym c.is_full_but.ensures ∙ c.if-is_full_but.false) c.fill_at.ensures).after

pub returns-clause-replies : goal.returns-clause-replies
returns-clause-replies c =
    c.new-2.ensures
    ∙ (gives_slot c.args.number c.args.at c.args.value c.args.joins.now.items c.fill_at.new.joins.items c.in-Some.i c.index.result.now c.requires
    (ap (position_from (has_number c.args.number) 0) (sym c.as_slice.ensures.value) ∙ sym c.index_of.ensures ∙ c.in-Some.is)
    c.index.ensures (sym c.is_full_but.ensures ∙ c.if-is_full_but.false) c.fill_at.ensures).given
