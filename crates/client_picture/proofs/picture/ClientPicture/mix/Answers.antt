use Rattle.std.proofs.Common.{◌∙◌}
use Rattle.std.specs.Prelude.{option_copied}
use Rattle.px_core.specs.Picture.{everywhere}
use Rattle.px_core.specs.Rectangle.{in_clip}
use Rattle.draw_ops.specs.Depths.{client_colors_at}
use Rattle.draw_ops.specs.Formulas.{rastered}
use Rattle.client_picture.specs.Pictures.{brush_operand, source_operand}
use Rattle.client_picture.proofs.Kept.{kept_after}
use Rattle.client_picture.proofs.picture.ClientPicture.mix.Goals as goal

pub invariant_of-self : goal.invariant_of-self
invariant_of-self c = let i = c.self.inside in (
  kept_after i.size i.touched i.frame i.picture i.marked.items c.self.invariant.0 (in_clip c.args.bounds) c.args.rect everywhere (rastered (client_colors_at i.depth) c.args.rop (brush_operand (option_copied c.args.brush)) (source_operand c.args.rect c.args.source))
      _ c.touch_rect.new.touched c.touch_rect.new.frame _ c.mix_rect.new.pixels (c.touch_rect.auto.touched ∙ c.as_mut_slice-touched.ensures.len) (c.mix_rect.auto.pixels ∙ c.as_mut_slice-pixels.ensures.len)
      c.as_mut_slice-touched.ensures.value c.as_mut_slice-pixels.ensures.value c.touch_rect.ensures.rows c.touch_rect.ensures.frame c.mix_rect.ensures,
  c.self.invariant.1,
)
