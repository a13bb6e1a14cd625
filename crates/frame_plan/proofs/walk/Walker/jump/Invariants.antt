use Rattle.std.proofs.Common.{◌≡◌, length}
use Rattle.px_core.specs.Tiles.{either_tiles}
use Rattle.px_core.specs.TileFlags.{tiles}
use Rattle.session_rules.specs.Pending.{pending_between}
use Rattle.session_core.specs.Touching.{touched_by, saved_by}
use Rattle.frame_plan.proofs.Jumping.{without_those, up_to}
use Rattle.frame_plan.proofs.walk.Walker.jump.Given as goal

-- the tiles are dirty, and the slots so far are given up
abbrev pub invariant-loop-slot : goal.invariant-loop-slot
invariant-loop-slot l = record {
  dirty : tiles l.self.dirty ≡ either_tiles (tiles l.fn.self.dirty) (touched_by l.session.head.size (pending_between l.session.head.size l.session.journal l.before (length l.session.journal)));
  held : l.self.held ≡ without_those (up_to (saved_by (pending_between l.session.head.size l.session.journal l.before (length l.session.journal))) l.slot) l.fn.self.held;
}
