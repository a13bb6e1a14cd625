use Rattle.std.proofs.Common.{◌≡◌, ℕ, true, arith, subst}
use Rattle.std.specs.Prelude.{Bool, List}
use Rattle.px_core.specs.TileFlags.{tiles, box_tiles, row_tiles, IsShared}
use Rattle.px_core.proofs.TileFlags.{NoneShared, row_apart, shares, shares_none}
use Rattle.px_core.proofs.tile_set.TileSet.meets.Goals as goal

pub returns-then-is_row_met : goal.returns-then-is_row_met
returns-then-is_row_met c = shares c.args.s c.args.r (tiles c.args.self.now) c.touched_rows-rows.result.from c.touched_rows-rows.result.end c.touched_columns-columns.result.from c.touched_columns-columns.result.end c.loop-row.row
    c.touched_rows-rows.ensures.touched c.touched_columns-columns.ensures.touched (omega arith) (omega arith)
    (subst (λ (flags : List Bool). IsShared true (tiles flags) (row_tiles c.loop-row.row c.touched_columns-columns.result.from c.touched_columns-columns.result.end)) c.self.view_is c.if-is_row_met.ensures)

pub loop-row-preserved : goal.loop-row-preserved
loop-row-preserved c = row_apart (tiles c.args.self.now) c.touched_rows-rows.result.from c.loop-row.row c.touched_columns-columns.result.from c.touched_columns-columns.result.end (omega arith)
    c.loop-row.invariant
    (subst (λ (flags : List Bool). NoneShared (tiles flags) (row_tiles c.loop-row.row c.touched_columns-columns.result.from c.touched_columns-columns.result.end)) c.self.view_is c.if-is_row_met.ensures)

pub returns : goal.returns
returns c =
    let end : c.loop-row.row ≡ c.touched_rows-rows.result.end = omega arith in
    shares_none c.args.s c.args.r (tiles c.args.self.now) c.touched_rows-rows.result.from c.touched_rows-rows.result.end c.touched_columns-columns.result.from c.touched_columns-columns.result.end
    c.touched_rows-rows.ensures.touched c.touched_columns-columns.ensures.touched
    (subst (λ (n : ℕ). NoneShared (tiles c.args.self.now) (box_tiles c.touched_rows-rows.result.from n c.touched_columns-columns.result.from c.touched_columns-columns.result.end)) end c.loop-row.invariant)
