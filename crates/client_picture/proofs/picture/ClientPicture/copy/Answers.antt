use Rattle.std.proofs.Common.{◌≡◌, ℕ, List, length, ap, ◌∙◌, subst, w32, to_z, of_z}
use Rattle.std.specs.Prelude.{Option, None, ℤ}
use Rattle.std.proofs.lemmas.List.{with_items_is}
use Rattle.std.proofs.lemmas.Int.{to_z-of_z}
use Rattle.std.specs.Vec.{with_items}
use Rattle.px_core.specs.Picture.{everywhere, rows_of}
use Rattle.px_core.specs.Rectangle.{in_clip}
use Rattle.draw_ops.specs.Depths.{client_colors_at}
use Rattle.draw_ops.specs.Formulas.{rastered, shifted, picture_after}
use Rattle.order_means.specs.ClientState.{no_operand, mixing}
use Rattle.client_picture.specs.Pictures.{Pictures, painted_within}
use Rattle.client_picture.proofs.Kept.{kept_after, pictures, value_is}
use Rattle.client_picture.proofs.picture.ClientPicture.copy.Goals as goal

pub invariant_of-self : goal.invariant_of-self
invariant_of-self c = let i = c.self.inside in (
  kept_after i.size i.touched i.frame i.picture i.marked.items c.self.invariant.0 (in_clip c.args.bounds) c.args.rect everywhere
      (rastered (client_colors_at i.depth) c.args.rop no_operand (shifted (rows_of i.size.w i.size.h c.as_mut_slice.result.now) None c.args.rect (to_z w32 (of_z w32 c.args.sx)) (to_z w32 (of_z w32 c.args.sy))))
      _ c.touch_rect.new.touched c.touch_rect.new.frame _ c.copy_rect.new.pixels (c.touch_rect.auto.touched ∙ c.as_mut_slice-touched.ensures.len) (c.copy_rect.auto.pixels ∙ c.as_mut_slice.ensures.len)
      c.as_mut_slice-touched.ensures.value c.as_mut_slice.ensures.value c.touch_rect.ensures.rows c.touch_rect.ensures.frame c.copy_rect.ensures,
  ap (λ (ps : List (Option ℕ)). length ps) (with_items_is i.row c.copy_rect.new.row (c.copy_rect.auto.row ∙ c.as_mut_slice-2.ensures.len)) ∙ c.copy_rect.auto.row ∙ ap (λ (ps : List (Option ℕ)). length ps) c.as_mut_slice-2.ensures.value ∙ c.self.invariant.1,
)

pub returns : goal.returns
returns c = let i = c.self.inside in let r = c.args.rect in let clip = in_clip c.args.bounds in
    let X : ℤ = to_z w32 (of_z w32 c.args.sx) in let Y : ℤ = to_z w32 (of_z w32 c.args.sy) in
    let ex : to_z w32 (of_z w32 c.args.sx) ≡ c.args.sx = to_z-of_z w32 c.args.sx c.ranges.sx in
    let ey : to_z w32 (of_z w32 c.args.sy) ≡ c.args.sy = to_z-of_z w32 c.args.sy c.ranges.sy in
    let now = c.as_mut_slice.result.now in
    let done : c.copy_rect.new.pixels ≡ picture_after i.size clip (mixing i.depth r c.args.rop no_operand (shifted (rows_of i.size.w i.size.h i.picture.items) None r c.args.sx c.args.sy)) i.picture.items
    = c.copy_rect.ensures
    ∙ ap (λ (z : ℤ). picture_after i.size clip (mixing i.depth r c.args.rop no_operand (shifted (rows_of i.size.w i.size.h now) None r z Y)) now) ex
    ∙ ap (λ (z : ℤ). picture_after i.size clip (mixing i.depth r c.args.rop no_operand (shifted (rows_of i.size.w i.size.h now) None r c.args.sx z)) now) ey
    ∙ ap (λ (ps : List (Option ℕ)). picture_after i.size clip (mixing i.depth r c.args.rop no_operand (shifted (rows_of i.size.w i.size.h ps) None r c.args.sx c.args.sy)) ps) c.as_mut_slice.ensures.value in
    subst (λ (v : Pictures). pictures i.depth i.size (with_items i.picture c.copy_rect.new.pixels).items i.marked.items ≡ painted_within c.args.bounds (mixing v.depth r c.args.rop no_operand (shifted (rows_of v.size.w v.size.h v.picture) None r c.args.sx c.args.sy)) v) c.self.view_is
    (value_is i.depth i.size i.picture i.marked.items c.copy_rect.new.pixels _ (c.copy_rect.auto.pixels ∙ c.as_mut_slice.ensures.len) done)
