use Rattle.std.proofs.Common.{◌∙◌, pos}
use Rattle.std.specs.Prelude.{None}
use Rattle.px_core.specs.Picture.{everywhere, rows_of}
use Rattle.px_core.specs.Rectangle.{in_clip}
use Rattle.draw_ops.specs.Formulas.{replaced, shifted}
use Rattle.client_picture.proofs.Kept.{kept_after}
use Rattle.client_picture.proofs.picture.ClientPicture.restore.Goals as goal

pub invariant_of-self : goal.invariant_of-self
invariant_of-self c = let i = c.self.inside in (
  kept_after i.size i.touched i.frame i.picture i.marked.items c.self.invariant.0 (in_clip c.args.bounds) c.args.rect everywhere (replaced (shifted (rows_of c.args.rect.w c.args.rect.h c.args.pixels.now) None c.args.rect (pos 0) (pos 0)))
      _ c.touch_rect.new.touched c.touch_rect.new.frame _ c.restore_rect.new.pixels (c.touch_rect.auto.touched ∙ c.as_mut_slice-touched.ensures.len) (c.restore_rect.auto.pixels ∙ c.as_mut_slice.ensures.len)
      c.as_mut_slice-touched.ensures.value c.as_mut_slice.ensures.value c.touch_rect.ensures.rows c.touch_rect.ensures.frame c.restore_rect.ensures,
  c.self.invariant.1,
)
