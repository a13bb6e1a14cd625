use Rattle.std.proofs.Common.{◌≡◌, ℕ, List, ap, ◌∙◌, subst, w64, to_z, of_z}
use Rattle.std.specs.Prelude.{Option, Some, ℤ, ◌-ℤ◌}
use Rattle.std.proofs.lemmas.Int.{to_z-of_z}
use Rattle.std.specs.Vec.{with_items}
use Rattle.px_core.specs.Picture.{both, nat_of, painted}
use Rattle.px_core.specs.Rectangle.{in_clip}
use Rattle.rop3_core.specs.Palette.{client_colors}
use Rattle.draw_ops.specs.Formulas.{solid, glyph_area, glyph_cell, is_bit_set}
use Rattle.client_picture.specs.Pictures.{Pictures, drawn_within}
use Rattle.client_picture.proofs.Kept.{kept_after, pictures, value_is}
use Rattle.client_picture.proofs.picture.ClientPicture.write_glyph.Goals as goal

pub invariant_of-self : goal.invariant_of-self
invariant_of-self c = let i = c.self.inside in let g = c.args.glyph.now in let cell = glyph_cell g (to_z w64 (of_z w64 c.args.x)) (to_z w64 (of_z w64 c.args.y)) in (
  kept_after i.size i.touched i.frame i.picture i.marked.items c.self.invariant.0 (in_clip c.args.bounds) cell (λ u v. is_bit_set cell.w g.bits (nat_of (u -ℤ cell.x)) (nat_of (v -ℤ cell.y))) (solid client_colors c.args.color)
      _ c.touch_glyph.new.touched c.touch_glyph.new.frame _ c.draw_glyph.new.pixels (c.touch_glyph.auto.touched ∙ c.as_mut_slice-touched.ensures.len) (c.draw_glyph.auto.pixels ∙ c.as_mut_slice-pixels.ensures.len)
      c.as_mut_slice-touched.ensures.value c.as_mut_slice-pixels.ensures.value c.touch_glyph.ensures.rows c.touch_glyph.ensures.frame c.draw_glyph.ensures,
  c.self.invariant.1,
)

pub returns : goal.returns
returns c = let i = c.self.inside in let g = c.args.glyph.now in let clip = in_clip c.args.bounds in let f = solid client_colors c.args.color in
    let X : ℤ = to_z w64 (of_z w64 c.args.x) in let Y : ℤ = to_z w64 (of_z w64 c.args.y) in
    let ex : to_z w64 (of_z w64 c.args.x) ≡ c.args.x = to_z-of_z w64 c.args.x c.ranges.x in
    let ey : to_z w64 (of_z w64 c.args.y) ≡ c.args.y = to_z-of_z w64 c.args.y c.ranges.y in
    let now = c.as_mut_slice-pixels.result.now in
    let done : c.draw_glyph.new.pixels ≡ painted i.size (both clip (glyph_area (Some g) c.args.x c.args.y)) f i.picture.items
    = c.draw_glyph.ensures
    ∙ ap (λ (z : ℤ). painted i.size (both clip (glyph_area (Some g) z Y)) f now) ex
    ∙ ap (λ (z : ℤ). painted i.size (both clip (glyph_area (Some g) c.args.x z)) f now) ey
    ∙ ap (λ (ps : List (Option ℕ)). painted i.size (both clip (glyph_area (Some g) c.args.x c.args.y)) f ps) c.as_mut_slice-pixels.ensures.value in
    subst (λ (v : Pictures). pictures i.depth i.size (with_items i.picture c.draw_glyph.new.pixels).items i.marked.items ≡ drawn_within c.args.bounds (glyph_area (Some g) c.args.x c.args.y) c.args.color v) c.self.view_is
    (value_is i.depth i.size i.picture i.marked.items c.draw_glyph.new.pixels _ (c.draw_glyph.auto.pixels ∙ c.as_mut_slice-pixels.ensures.len) done)
