use Rattle.std.proofs.Common.{◌≡◌, map, take}
use Rattle.frame_plan.specs.Takes.{tile_taken}
use Rattle.frame_plan.specs.TileParts.{picture_by}
use Rattle.frame_plan.proofs.tiles.lend_tiles.Given as goal

-- the tiles so far were lent by the session as it was
abbrev pub invariant-loop-tile : goal.invariant-loop-tile
invariant-loop-tile l = record {
  same : l.session ≡ l.fn.session;
  lent : l.all.items ≡ map (tile_taken l.fn.session.head.size (picture_by l.fn.session)) (take l.tile-index l.due);
}
