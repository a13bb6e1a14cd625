use Rattle.std.proofs.Common.{◌≡◌, ◌+◌, ◌*◌, ◌≤◌, drop}
use Rattle.tile_surface.specs.Later.{moved_by}
use Rattle.tile_surface.proofs.own_all.move_of.Given as goal

-- what is left of the run moves the pen the rest of the way, and it went no further than it may
abbrev pub invariant-loop-pair : goal.invariant-loop-pair
invariant-loop-pair l = record {
  left : l.moved + moved_by (drop l.pair-index l.run) ≡ moved_by l.run;
  far : l.moved ≤ 255 * l.pair-index;
}
