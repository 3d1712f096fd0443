use Rattle.sal_desk.proofs.lists.Lists.change.Goals as goal

pub change_ready-requires : goal.change_ready-requires
change_ready-requires c = c.requires.ready

pub change_delayed-requires : goal.change_delayed-requires
change_delayed-requires c = c.requires.delayed

pub change_held-requires : goal.change_held-requires
change_held-requires c = c.requires.held

pub absorb-requires : goal.absorb-requires
absorb-requires c = c.requires.residents

pub absorb-requires-2 : goal.absorb-requires-2
absorb-requires-2 c = c.requires.pending

pub absorb-requires-3 : goal.absorb-requires-3
absorb-requires-3 c = c.requires.places

pub absorb-requires-4 : goal.absorb-requires-4
absorb-requires-4 c = c.requires.questions
