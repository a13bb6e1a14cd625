use Rattle.std.proofs.Common.{◌∙◌, pos}
use Rattle.px_core.specs.Picture.{everywhere, rows_of}
use Rattle.px_core.specs.Rectangle.{in_clip}
use Rattle.rop3_core.specs.Palette.{client_colors}
use Rattle.draw_ops.specs.Formulas.{replaced, imaged}
use Rattle.client_picture.proofs.Kept.{kept_after}
use Rattle.client_picture.proofs.picture.ClientPicture.write.Goals as goal

pub invariant_of-self : goal.invariant_of-self
invariant_of-self c = let i = c.self.inside in (
  kept_after i.size i.touched i.frame i.picture i.marked.items c.self.invariant.0 (in_clip c.args.bounds) c.args.rect everywhere (replaced (imaged client_colors (rows_of c.args.w c.args.h c.args.pixels.now) c.args.rect (pos 0) (pos 0)))
      _ c.touch_rect.new.touched c.touch_rect.new.frame _ c.write_rect.new.pixels (c.touch_rect.auto.touched ∙ c.as_mut_slice-touched.ensures.len) (c.write_rect.auto.pixels ∙ c.as_mut_slice-pixels.ensures.len)
      c.as_mut_slice-touched.ensures.value c.as_mut_slice-pixels.ensures.value c.touch_rect.ensures.rows c.touch_rect.ensures.frame c.write_rect.ensures,
  c.self.invariant.1,
)
