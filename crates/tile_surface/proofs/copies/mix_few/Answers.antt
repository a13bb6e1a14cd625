use Rattle.std.proofs.Common.{◌≡◌, ◌+◌, ◌*◌, refl, ap, arith}
use Rattle.surface_parts.specs.Parts.{in_part}
use Rattle.surface_parts.specs.Textures.{copied_color}
use Rattle.surface_parts.proofs.Repaint.{same_mix}
use Rattle.tile_surface.specs.Cells.{picture_of}
use Rattle.tile_surface.proofs.Pasted.{color_read, painted_alike}
use Rattle.tile_surface.proofs.copies.mix_few.Goals as goal

pub blend_part-requires-clause-texture : goal.blend_part-requires-clause-texture
blend_part-requires-clause-texture c = let p = c.args.part in let none : 0 + p.h ≡ p.h = omega arith in record {
  columns = omega arith;
  rows = let same : p.w * (0 + p.h) ≡ p.w * p.h = ap (λ n. p.w * n) none in omega (arith, same, c.cut_part.auto.out, c.requires.room);
  narrow = omega (arith, c.requires.inside.columns, c.requires.tiled.small.wide);
  low = omega (arith, c.requires.inside.rows, c.requires.tiled.small.high);
}

pub returns-clause-painted : goal.returns-clause-painted
returns-clause-painted c = let p = c.args.part in let copy = c.args.copy in let size = c.args.size in let old = picture_of size c.args.cells.now in let read = c.cut_part.new.out in
    painted_alike size (in_part p) _ (copied_color size old p copy) old (picture_of size c.blend_part.new.cells) c.blend_part.ensures.painted
    (λ x y left above h. same_mix copy.rop _ _ _ _ _ _ refl (color_read size old read c.args.read.now p copy.x copy.y c.cut_part.ensures x y h) refl)
