use Rattle.std.proofs.Common.{◌≡◌, subst}
use Rattle.draw_ops.specs.Fits.{slot_misfit}
use Rattle.surface_parts.specs.Surfaces.{SurfaceOf}
use Rattle.surface_parts.specs.Refused.{misfit_said}
use Rattle.tile_surface.specs.Cells.{picture_of}
use Rattle.tile_surface.proofs.tiles.Tiles.fit.Goals as goal

pub returns : goal.returns
returns c = let i = c.self.inside in
    subst (λ (v : SurfaceOf). misfit_said c.fit.result ≡ slot_misfit v.size v.state c.args.d.now.shape) c.self.view_is (c.fit.ensures (picture_of i.size i.cells.items) i.count)
