use Rattle.std.proofs.Common.{◌+◌, ◌*◌, ◌-◌, get_or, sym, ap, ◌∙◌, arith}
use Rattle.px_core.proofs.Pictures.{item-get_or}
use Rattle.surface_parts.specs.Parts.{in_part}
use Rattle.tile_surface.proofs.Pasted.{painted_alike}
use Rattle.tile_surface.proofs.tile.Tile.cut.Goals as goal

pub paste_part-requires-clause-texture : goal.paste_part-requires-clause-texture
paste_part-requires-clause-texture c = record {
  columns = c.requires.columns;
  rows = omega (arith, c.requires.rows, c.pixels.ensures.sized);
  narrow = omega arith;
  low = omega (arith, c.requires.rows);
}

pub returns : goal.returns
returns c = let x = c.args.x in let y = c.args.y in let s = c.args.spot in
    painted_alike c.args.sides (in_part s) _ _ c.args.out.now c.paste_part.new.pixels c.paste_part.ensures
    (λ u v left above h. ap (λ ps. get_or ps (64 * (y + (v - s.y)) + (x + (u - s.x))) 0) c.pixels.ensures.pixels ∙ sym (item-get_or c.args.self.now (64 * (y + (v - s.y)) + (x + (u - s.x))) 0))
