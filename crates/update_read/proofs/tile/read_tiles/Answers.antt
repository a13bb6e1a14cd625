use Rattle.std.proofs.Common.{◌≡◌, ◌∙◌, subst, List, ℕ}
use Rattle.std.specs.Prelude.{Ok}
use Rattle.std.proofs.lemmas.Result.{err_from_is_err_and}
use Rattle.wire_num.specs.Cursor.{rest}
use Rattle.order_means.specs.FrameMarks.{tile_at}
use Rattle.update_read.specs.Told.{told_tile}
use Rattle.update_read.proofs.Tiles.{more_pushed, tile_refused, all_pushed}
use Rattle.update_read.proofs.tile.read_tiles.Goals as goal

pub returns-in_err-tile : goal.returns-in_err-tile
returns-in_err-tile c =
    let p = err_from_is_err_and c.from_residual.result c.from_residual.ensures.1 in
    let read = c.in_err-tile.ensures in
    rw (p.1, p.2) (tile_refused c.args.count c.loop.counter _ _ _ _ _ _ c.loop-test.true c.loop.invariant.pushed read.0, read.1 ∙ c.loop.invariant.bytes, read.2)

pub loop-preserved : goal.loop-preserved
loop-preserved c =
    let read = c.in_ok-tile.ensures in
    let told = subst (λ (bs : List ℕ). tile_at (rest c.loop.cursor) ≡ Ok (told_tile bs c.in_ok-tile.tile, rest c.read_tile.new.cursor)) c.loop.invariant.bytes read.0 in
    record {
      pushed = more_pushed c.args.count c.loop.counter _ _ _ _ _ _ _ c.in_ok-tile.tile c.loop-test.true c.loop.invariant.pushed told c.in_ok-push.ensures.items;
      bytes = read.1 ∙ c.loop.invariant.bytes;
    }

pub returns : goal.returns
returns c =
    let p = c.loop.invariant.pushed in
    (p.sent, all_pushed c.args.count c.loop.counter _ _ _ _ _ c.loop-test.false p, c.loop.invariant.bytes, p.told)
