use Rattle.std.proofs.Common.{rules}
use Rattle.surface_flat.proofs.surface.Surface.draw.Goals as goal

pub returns-in_err-room-clause-unchanged : goal.returns-in_err-room-clause-unchanged
returns-in_err-room-clause-unchanged c = search rules

pub returns-clause-drawn : goal.returns-clause-drawn
returns-clause-drawn c = search rules
