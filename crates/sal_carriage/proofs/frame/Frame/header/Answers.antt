use Rattle.std.proofs.Common.{rules, refl, ap, ◌∙◌}
use Rattle.sal_carriage.specs.Frames.{frame_header}
use Rattle.sal_carriage.proofs.Cells.{header_cells}
use Rattle.sal_carriage.proofs.Views.{frame_in}
use Rattle.sal_carriage.proofs.frame.Frame.header.Goals as goal

pub returns : goal.returns
returns c =
    header_cells (frame_in c.self.inside) c.self.inside.program c.to_be_bytes-n.result c.to_be_bytes-w.result c.to_be_bytes-s.result c.from.result c.from-2.result
    (search rules) refl c.to_be_bytes-n.ensures c.to_be_bytes-w.ensures c.to_be_bytes-s.ensures (search rules) (search rules)
    ∙ ap frame_header c.self.view_is
