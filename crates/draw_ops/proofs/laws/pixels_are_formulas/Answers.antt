use Rattle.px_core.specs.Rectangle.{in_clip}
use Rattle.draw_ops.specs.Formulas.{painted_area}
use Rattle.draw_ops.specs.Drawing.{painting_of}
use Rattle.draw_ops.proofs.Painted.{length-painted_from, pixel_at-painted}
use Rattle.draw_ops.proofs.laws.pixels_are_formulas.Goals as goal

pub returns : goal.returns
returns c = record {
  pixel = λ size st d x y is_whole left above. let p = painting_of size st d.shape in pixel_at-painted size (painted_area (in_clip d.clip) p) p.formula st.picture x y 0 is_whole left above;
  sized = λ size st d. let p = painting_of size st d.shape in length-painted_from size.w 0 (painted_area (in_clip d.clip) p) p.formula st.picture;
}
