use Rattle.std.proofs.Common.{◌≡◌, ℕ, ◌+◌, arith, subst, sym, ◌∙◌, ap}
use Rattle.px_core.specs.declared.rectangle.Rect.{Rect}
use Rattle.px_core.specs.Tiles.{Tiles, either_tiles, tiles_of}
use Rattle.px_core.specs.TileFlags.{tiles}
use Rattle.std.specs.Prelude.{true}
use Rattle.session_core.specs.Marking.{past}
use Rattle.session_core.proofs.Adding.{IsAddedUpTo, one_added, none_more, all_added}
use Rattle.session_core.proofs.marks.Marks.add_past.Goals as goal
use Rattle.session_core.proofs.marks.Marks.add_past.Goals.{then-is_touched_past, else-is_touched_past}

pub loop-tile-preserved : goal.loop-tile-preserved
loop-tile-preserved c =
    let old : Tiles = tiles c.args.set.now in
    let more : Tiles = past c.args.before c.args.self.now.tiles in
    let set : Tiles = tiles c.loop-tile.set in
    let u : ℕ = c.loop-tile.tile in
    elim c.if-is_touched_past.branch [
      | then-is_touched_past w ↦ let here : more u ≡ true = sym c.is_touched_past.ensures ∙ w.if-is_touched_past.true in
          one_added c.args.s old more set (tiles c.if-is_touched_past.set) u here (c.requires.on_picture u here)
          (ap tiles w.set-is ∙ (w.add.ensures ∙ ap (λ (r : Rect). either_tiles set (tiles_of c.args.s r)) w.tile_rect.ensures.pixels)) c.loop-tile.invariant
      | else-is_touched_past w ↦ subst (IsAddedUpTo old more (u + 1)) (sym (ap tiles w.set-is))
          (none_more old more set u (sym c.is_touched_past.ensures ∙ w.if-is_touched_past.false) c.loop-tile.invariant)
    ]

pub returns : goal.returns
returns c =
    let end : c.loop-tile.tile ≡ 1024 = omega arith in
    all_added (tiles c.args.set.now) (tiles c.loop-tile.set) c.args.self.now.tiles c.args.before c.loop-tile.tile (λ t far. c.recall_ends.ensures.tiles t (omega (arith, end, far))) c.loop-tile.invariant
