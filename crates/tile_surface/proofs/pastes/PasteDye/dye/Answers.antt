use Rattle.tile_surface.proofs.Pasted.{painted_alike}
use Rattle.tile_surface.proofs.pastes.PasteDye.dye.Goals as goal

pub returns-clause-painted : goal.returns-clause-painted
returns-clause-painted c = painted_alike _ _ _ _ _ _ c.paste.ensures.painted (λ u v wide high here. c.texture_there.ensures.colors u v)
