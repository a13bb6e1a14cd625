use Rattle.px_core.specs.TileFlags.{tiles}
use Rattle.session_core.specs.Marking.{past}
use Rattle.session_core.proofs.Adding.{IsAddedUpTo}
use Rattle.session_core.proofs.marks.Marks.add_past.Given as goal

abbrev pub invariant-loop-tile : goal.invariant-loop-tile
invariant-loop-tile l = IsAddedUpTo (tiles l.fn.set) (past l.before l.self.tiles) l.tile (tiles l.set)
