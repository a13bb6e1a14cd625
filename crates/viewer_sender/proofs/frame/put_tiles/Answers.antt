use Rattle.std.proofs.Common.{◌≡◌, ◌∙◌, ◌++◌, ◌∷◌, [], List, ℕ, ◌+◌, ◌<◌, get_or, take, refl, ap, sym, subst}
use Rattle.px_core.specs.Tiles.{tile_on}
use Rattle.viewer_sender.specs.declared.writer.FrameWriter.{FrameWriter}
use Rattle.viewer_sender.specs.Goes.{TilesGo}
use Rattle.viewer_sender.proofs.Loops.{drop_next, take_next, with_tiles, tiles_more}
use Rattle.viewer_sender.proofs.TileShort.{tile_below}
use Rattle.viewer_sender.proofs.frame.put_tiles.Goals as goal

pub tile_on-r-requires : goal.tile_on-r-requires
tile_on-r-requires c =
    let ts = c.args.tiles.now in
    let i = c.loop-tile.tile-index in
    let t = c.tile-item.result in
    let goes = (subst (λ (xs : List (ℕ × List ℕ)). TilesGo c.args.size xs) (drop_next ts i t c.loop-tile-test.true) c.loop-tile.invariant.fit).0 in
    subst (λ (n : ℕ). n < 1024) (sym (c.number.ensures ∙ ap (λ (x : ℕ × List ℕ). x.0) c.tile-item.is)) (tile_below c.args.size (get_or ts i t).0 goes.place)

pub loop-tile-preserved : goal.loop-tile-preserved
loop-tile-preserved c =
    let ts = c.args.tiles.now in
    let i = c.loop-tile.tile-index in
    let t = c.tile-item.result in
    let a = c.args.writer.now in
    let next : take i ts ++ t ∷ [] ≡ take (i + 1) ts = ap (λ x. take i ts ++ x ∷ []) c.tile-item.is ∙ sym (take_next ts i t c.loop-tile-test.true) in
    let end : FrameWriter = record c.loop-tile.writer { updates = c.put_tile.new.updates } in
    record {
      wrote = subst (λ (xs : List (ℕ × List ℕ)). end ≡ with_tiles a c.args.size xs) next
          (tiles_more a c.loop-tile.writer c.put_tile.new.updates c.args.size (take i ts) t c.tile_on-r.result t.1 c.loop-tile.invariant.wrote c.in_ok-put_tile.ensures
          (c.tile_on-r.ensures ∙ ap (tile_on c.args.size) c.number.ensures) refl);
      fit = (subst (λ (xs : List (ℕ × List ℕ)). TilesGo c.args.size xs) (drop_next ts i t c.loop-tile-test.true) c.loop-tile.invariant.fit).1;
    }
