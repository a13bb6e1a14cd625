use Rattle.std.proofs.Common.{◌∙◌}
use Rattle.std.proofs.lemmas.Result.{err_from_is_err_and}
use Rattle.std.proofs.lemmas.List.{take-map, map_more}
use Rattle.update_read.specs.Told.{told_tile, told_tiles}
use Rattle.client_view.proofs.TilesObeyed.{tiles_left, one_tile_less, one_tile_stopped}
use Rattle.client_view.proofs.tiles.obey_tiles.Goals as goal

pub returns-in_err-obey_tile-clause-stopped : goal.returns-in_err-obey_tile-clause-stopped
returns-in_err-obey_tile-clause-stopped c = λ v s.
    let i = c.loop-t.t-index in
    let p = err_from_is_err_and c.from_residual.result c.from_residual.ensures.1 in
    rw p.1 (one_tile_stopped c.args.viewer.now.pictures.size v _ i (told_tiles c.args.body.now c.args.tiles.now) _ _ c.loop-t.viewer c.obey_tile.new.viewer (c.loop-t.invariant.left v s) (take-map (told_tile c.args.body.now) i c.args.tiles.now)
    c.in_err-obey_tile.ensures.same c.in_err-obey_tile.ensures.kept)

pub loop-t-preserved : goal.loop-t-preserved
loop-t-preserved c =
    let body = c.args.body.now in
    let tiles = c.args.tiles.now in
    let i = c.loop-t.t-index in
    let same = c.loop-t.invariant.same in
    record {
      left = λ v s.
          let l = c.loop-t.invariant.left v s in
          let obeyed = rw same.size at (c.in_ok-obey_tile.ensures.obeyed l.view l.stands) in
          one_tile_less c.args.viewer.now.pictures.size v _ _ _ _ _ _ _ _ l (tiles_left body tiles i _ c.loop-t-test.true) (map_more (told_tile body) tiles i _ c.loop-t-test.true) obeyed;
      same = record { confirmed = c.in_ok-obey_tile.ensures.same.confirmed ∙ same.confirmed; size = c.in_ok-obey_tile.ensures.same.size ∙ same.size };
    }
