use Rattle.draw_ops.proofs.KeptColors.{drawing_keeps, drawings_keep, opening_has}
use Rattle.draw_ops.proofs.laws.drawing_keeps_colors.Goals as goal

pub returns : goal.returns
returns c = record { drawing = drawing_keeps; drawings = drawings_keep; opening = opening_has }
