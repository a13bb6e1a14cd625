use Rattle.std.proofs.Common.{◌∙◌}
use Rattle.px_core.specs.Picture.{everywhere}
use Rattle.px_core.specs.Rectangle.{in_clip}
use Rattle.rop3_core.specs.Palette.{client_colors}
use Rattle.draw_ops.specs.Formulas.{solid}
use Rattle.client_picture.proofs.Kept.{kept_after}
use Rattle.client_picture.proofs.picture.ClientPicture.fill.Goals as goal

pub invariant_of-self : goal.invariant_of-self
invariant_of-self c = let i = c.self.inside in (
  kept_after i.size i.touched i.frame i.picture i.marked.items c.self.invariant.0 (in_clip c.args.bounds) c.args.rect everywhere (solid client_colors c.args.color)
      _ c.touch_found.new.touched c.touch_found.new.frame _ c.fill_rect.new.pixels (c.touch_found.auto.touched ∙ c.as_mut_slice-touched.ensures.len) (c.fill_rect.auto.pixels ∙ c.as_mut_slice-pixels.ensures.len)
      c.as_mut_slice-touched.ensures.value c.as_mut_slice-pixels.ensures.value c.touch_found.ensures.rows c.touch_found.ensures.frame c.fill_rect.ensures,
  c.self.invariant.1,
)
