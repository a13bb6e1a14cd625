use Rattle.std.proofs.Common.{◌≡◌, ℕ, ◌+◌, ◌*◌, ◌<◌, ◌^◌, List, ap, sym, subst, ◌∙◌, arith}
use Rattle.px_core.specs.Picture.{pixel_at}
use Rattle.px_core.proofs.Colors.{colors_are_below}
use Rattle.px_core.proofs.Pictures.{item-get_or}
use Rattle.surface_parts.specs.Surfaces.{SurfaceOf}
use Rattle.tile_surface.specs.declared.cell.Cell.{Cell}
use Rattle.tile_surface.specs.Cells.{picture_of}
use Rattle.tile_surface.proofs.Tiled.{place_below, tiled_length}
use Rattle.tile_surface.proofs.tiles.Tiles.pixel.Goals as goal

pub returns-clause-color : goal.returns-clause-color
returns-clause-color c = let i = c.self.inside in let ps = picture_of i.size i.cells.items in
    let at = i.size.w * c.args.y + (c.args.x + 0) in
    let wide : i.size.w ≡ c.args.self.now.size.w = ap (λ (v : SurfaceOf). v.size.w) c.self.view_is in
    let high : i.size.h ≡ c.args.self.now.size.h = ap (λ (v : SurfaceOf). v.size.h) c.self.view_is in
    let inside = place_below i.size.w (c.args.x + 0) c.args.y i.size.h (omega (arith, wide, c.requires.column)) (omega (arith, high, c.requires.row)) in
    let is = c.read_row.ensures 0 (omega arith) ∙ ap (λ (cells : List Cell). pixel_at i.size (picture_of i.size cells) 0 (c.args.x + 0) c.args.y) c.as_slice.ensures.value ∙ item-get_or ps at 0 in
    let P : ℕ → Type 0 = λ n. n < 2 ^ 24 in
    subst P (sym is) (colors_are_below ps c.self.invariant.0.colors.picture at 0 (omega (arith, inside, tiled_length i.size i.cells.items)))
