use Rattle.std.proofs.Common.{[], ◌*◌, take, ap, ◌∙◌}
use Rattle.px_core.specs.Picture.{skipped}
use Rattle.px_core.proofs.Pictures.{rows_joined, joined_rows, row-rows_of, pixel-rows_of, joined_more, front-take, skipped-drop}
use Rattle.px_core.proofs.laws.pictures_are_their_rows.Goals as goal

pub returns : goal.returns
returns c = record {
  joined = rows_joined;
  parted = joined_rows;
  stretch = λ w h ps y below. row-rows_of w h ps y [] below ∙ front-take w (skipped (w * y) ps) ∙ ap (take w) (skipped-drop (w * y) ps);
  more = joined_more;
  pixel = λ size ps x y left above. pixel-rows_of size.w size.h ps x y 0 left above;
}
