use Rattle.std.proofs.Common.{◌∙◌, w64, to_z, of_z}
use Rattle.std.specs.Prelude.{pos}
use Rattle.std.proofs.lemmas.Int.{to_z-of_z}
use Rattle.px_core.specs.Picture.{both}
use Rattle.px_core.specs.Rectangle.{boxed, in_rect, in_clip}
use Rattle.client_picture.proofs.Flags.{adds_rows, widens}
use Rattle.client_picture.proofs.Frames.{same_box}
use Rattle.client_picture.proofs.touched.touch_at.Goals as goal

pub returns-clause-rows : goal.returns-clause-rows
returns-clause-rows c = let x = c.args.x in let y = c.args.y in
    adds_rows c.args.size (both (in_clip c.args.bounds) (in_rect (boxed x y c.args.w c.args.h))) c.part_at-part.result c.args.touched.now c.touch_part.new.touched c.touch_part.ensures
    (λ u v left above. c.part_at-part.ensures.pixels u v left above
    ∙ same_box (in_clip c.args.bounds (pos u) (pos v)) (to_z w64 (of_z w64 x)) (to_z w64 (of_z w64 y)) x y c.args.w c.args.h (pos u) (pos v) (to_z-of_z w64 x c.ranges.x) (to_z-of_z w64 y c.ranges.y))

pub returns-clause-frame : goal.returns-clause-frame
returns-clause-frame c = let x = c.args.x in let y = c.args.y in
    widens c.args.size (both (in_clip c.args.bounds) (in_rect (boxed x y c.args.w c.args.h))) c.part_at-part.result c.args.frame.now c.widened.result c.part_at-part.ensures.inside c.widened.ensures.within c.widened.ensures.pixels
    (λ u v left above. c.part_at-part.ensures.pixels u v left above
    ∙ same_box (in_clip c.args.bounds (pos u) (pos v)) (to_z w64 (of_z w64 x)) (to_z w64 (of_z w64 y)) x y c.args.w c.args.h (pos u) (pos v) (to_z-of_z w64 x c.ranges.x) (to_z-of_z w64 y c.ranges.y))
