use Rattle.std.proofs.Common.{◌≡◌, ◌++◌, take, drop, flat_map}
use Rattle.px_core.specs.Tiles.{tile_on}
use Rattle.caps_sets.specs.Confirmed.{depth_of}
use Rattle.order_means.specs.UpdateBodies.{tile_packet}
use Rattle.viewer_sender.specs.Goes.{TilesGo}
use Rattle.viewer_sender.proofs.frame.put_tiles.Given as goal

abbrev pub invariant-loop-tile : goal.invariant-loop-tile
invariant-loop-tile l = record {
  wrote : l.writer ≡ record l.fn.writer {
    updates = record l.fn.writer.updates {
      packets = l.fn.writer.updates.packets ++ flat_map (λ tile. tile_packet (depth_of l.fn.writer.confirmed) l.fn.writer.updates.fast l.fn.writer.confirmed.no_header (tile_on l.size tile.0) tile.1) (take l.tile-index l.tiles);
    };
  };
  fit : TilesGo l.size (drop l.tile-index l.tiles);
}
