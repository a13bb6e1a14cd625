use Rattle.std.proofs.Common.{◌≡◌, subst}
use Rattle.draw_ops.specs.Fits.{slot_misfit}
use Rattle.surface_parts.specs.Surfaces.{SurfaceOf}
use Rattle.surface_parts.specs.Refused.{misfit_said}
use Rattle.surface_flat.proofs.surface.Surface.fit.Goals as goal

pub returns : goal.returns
returns c = subst (λ (v : SurfaceOf). misfit_said c.fit.result ≡ slot_misfit v.size v.state c.args.d.now.shape) c.self.view_is (c.fit.ensures c.self.inside.pixels.items c.self.inside.count)
