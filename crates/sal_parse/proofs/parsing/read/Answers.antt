use Rattle.std.proofs.Common.{◌≡◌, ◌∙◌, ap, sym}
use Rattle.sal_grammar.specs.Programs.{top}
use Rattle.sal_parse.proofs.Answering.{accepted, only, never, refused}
use Rattle.sal_parse.proofs.parsing.read.Goals as goal

pub returns-in-Ok-clause-tree : goal.returns-in-Ok-clause-tree
returns-in-Ok-clause-tree c =
    accepted c.args.symbols.now c.top.new.cursor c.in-Ok.program c.requires.lexemes (ap (top 64) (sym c.new-cursor.ensures) ∙ c.in-Ok.ensures)

pub returns-in-Ok-clause-only : goal.returns-in-Ok-clause-only
returns-in-Ok-clause-only c = λ p h.
    only c.args.symbols.now c.top.new.cursor c.in-Ok.program p h (ap (top 64) (sym c.new-cursor.ensures) ∙ c.in-Ok.ensures)

pub returns-in-Err-Refused-clause-only : goal.returns-in-Err-Refused-clause-only
returns-in-Err-Refused-clause-only c = λ p h.
    let e = rw c.in-Err-Refused.field-0-is at c.in-Err-Refused.ensures in
    absurd (never c.args.symbols.now c.top.new.cursor p c.in-Err-Refused.reason h (ap (top 64) (sym c.new-cursor.ensures) ∙ e))

pub returns-in-Err-Refused-clause-refused : goal.returns-in-Err-Refused-clause-refused
returns-in-Err-Refused-clause-refused c =
    let e = rw c.in-Err-Refused.field-0-is at c.in-Err-Refused.ensures in
    rw (c.refusal.ensures, c.rest.ensures)
    (refused c.args.size c.args.symbols.now c.top.new.cursor c.in-Err-Refused.reason c.requires.lexemes (ap (top 64) (sym c.new-cursor.ensures) ∙ e))
