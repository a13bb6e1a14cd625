use Rattle.std.proofs.Common.{take, drop}
use Rattle.order_means.specs.FrameMarks.{View, view_after_tiles}
use Rattle.update_read.specs.Told.{told_tiles}
use Rattle.client_view.specs.Views.{StandsFor, SameViewer}
use Rattle.client_view.proofs.TilesObeyed.{LeftTiles}
use Rattle.client_view.proofs.tiles.obey_tiles.Given as goal

-- what is left comes to what all came to, and what was written to a view
abbrev pub invariant-loop-t : goal.invariant-loop-t
invariant-loop-t l = record {
  left : (v : View) → StandsFor v l.fn.viewer → LeftTiles l.fn.viewer.pictures.size v (view_after_tiles l.fn.viewer.pictures.size v (told_tiles l.body l.tiles)) (told_tiles l.body (take l.t-index l.tiles)) (told_tiles l.body (drop l.t-index l.tiles)) l.viewer;
  same : SameViewer l.fn.viewer l.viewer;
}
