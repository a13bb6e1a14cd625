use Rattle.std.proofs.Common.{◌*◌, take, sym, ap, ◌∙◌}
use Rattle.px_core.specs.Picture.{skipped}
use Rattle.px_core.proofs.Pictures.{front-take, skipped-drop, item-get_or}
use Rattle.draw_ops.specs.Drawing.{drawn_row}
use Rattle.draw_ops.proofs.Rows.{pixels_make_row, drawn_in_row, row_length, kept_row}
use Rattle.draw_ops.proofs.laws.drawn_pixels_are_the_row.Goals as goal

pub returns : goal.returns
returns c = record {
  pixels = pixels_make_row;
  pixel = λ size st d x y left. sym (item-get_or (drawn_row size st d y) x 0) ∙ drawn_in_row size st d y x left;
  sized = row_length;
  kept = λ size st d y e above none. kept_row size st d y e above none ∙ front-take size.w (skipped (size.w * y) st.picture) ∙ ap (take size.w) (skipped-drop (size.w * y) st.picture);
}
