use Rattle.std.proofs.Common.{◌∙◌, ap, refl}
use Rattle.draw_ops.specs.Slots.{empty_slots}
use Rattle.pointer_share.proofs.Outlined.{empty_outlines}
use Rattle.pointer_share.proofs.view.opened.Goals as goal

pub returns : goal.returns
returns c = record {
  form = refl;
  opens = record { cells = c.in_ok-cells.ensures ∙ ap empty_slots c.from.ensures ∙ empty_outlines c.args.wide c.args.cells; shown = refl };
}
