use Rattle.surface_parts.proofs.Many.{small_saves}
use Rattle.tile_surface.proofs.tiles.Tiles.rooms_for.Goals as goal

pub take_rooms-requires-clause-saves : goal.take_rooms-requires-clause-saves
take_rooms-requires-clause-saves c = small_saves c.args.self.now.size c.args.self.now.state c.args.ds.now c.requires
