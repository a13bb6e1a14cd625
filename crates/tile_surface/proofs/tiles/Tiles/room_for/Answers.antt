use Rattle.std.proofs.Common.{◌+◌, ap}
use Rattle.std.proofs.lemmas.Result.{IfOk-weaker}
use Rattle.surface_parts.specs.Surfaces.{SurfaceOf}
use Rattle.tile_surface.proofs.tiles.Tiles.room_for.Goals as goal

pub returns-clause-room : goal.returns-clause-room
returns-clause-room c = IfOk-weaker c.new.result _ _ (λ room ready. ready c.args.self.now.state.count (ap (λ (v : SurfaceOf). v.state.count + 1) c.self.view_is)) c.new.ensures
