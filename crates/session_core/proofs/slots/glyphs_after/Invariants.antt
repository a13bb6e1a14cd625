use Rattle.std.proofs.Common.{◌≡◌, take}
use Rattle.draw_ops.specs.Drawing.{state_after_drawings}
use Rattle.session_rules.specs.Pending.{run_glyphs}
use Rattle.session_core.proofs.slots.glyphs_after.Given as goal

-- the glyphs of so many pairs
abbrev pub invariant-loop-pair : goal.invariant-loop-pair
invariant-loop-pair l = l.glyphs.items ≡ run_glyphs (state_after_drawings l.surface.size l.surface.state l.before).glyphs l.font (take l.pair-index l.pairs)
