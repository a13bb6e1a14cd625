use Rattle.tile_surface.proofs.Pasted.{covers_there, color_there}
use Rattle.tile_surface.proofs.pastes.texture_there.Goals as goal

pub returns-clause-covers : goal.returns-clause-covers
returns-clause-covers c = covers_there c.args.part c.args.texture c.args.piece c.requires.piece c.requires.covers

pub returns-clause-colors : goal.returns-clause-colors
returns-clause-colors c = color_there c.args.part c.args.texture c.args.piece c.requires.piece
