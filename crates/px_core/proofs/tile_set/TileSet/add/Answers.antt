use Rattle.std.proofs.Common.{◌≡◌, ℕ, arith, ◌∙◌, subst}
use Rattle.std.specs.Prelude.{Bool, List}
use Rattle.px_core.specs.TileFlags.{tiles, box_tiles, EndsBelow}
use Rattle.px_core.proofs.TileFlags.{IsAdded, row_added, box_added, ends_behind}
use Rattle.px_core.proofs.tile_set.TileSet.add.Goals as goal

pub loop-row-preserved : goal.loop-row-preserved
loop-row-preserved c = record {
  added = row_added c.args.self.now c.loop-row.self-inside.flags c.set_row.new.flags c.touched_rows-rows.result.from c.loop-row.row c.touched_columns-columns.result.from c.touched_columns-columns.result.end
      (omega arith) c.set_row.ensures.set c.loop-row.invariant.added;
  whole = c.set_row.auto.flags ∙ c.loop-row.invariant.whole;
}

pub returns : goal.returns
returns c =
    let end : c.loop-row.row ≡ c.touched_rows-rows.result.end = omega arith in
    box_added c.args.s c.args.r c.args.self.now c.loop-row.self-inside.flags c.touched_rows-rows.result.from c.touched_rows-rows.result.end c.touched_columns-columns.result.from c.touched_columns-columns.result.end
    c.touched_rows-rows.ensures.touched c.touched_columns-columns.ensures.touched
    (subst (λ (n : ℕ). IsAdded c.args.self.now (box_tiles c.touched_rows-rows.result.from n c.touched_columns-columns.result.from c.touched_columns-columns.result.end) c.loop-row.self-inside.flags) end c.loop-row.invariant.added)

pub invariant_of-self : goal.invariant_of-self
invariant_of-self c =
    let end : c.loop-row.row ≡ c.touched_rows-rows.result.end = omega arith in
    ends_behind c.args.self.now c.loop-row.self-inside.flags c.touched_rows-rows.result.from c.loop-row.row c.touched_columns-columns.result.from c.touched_columns-columns.result.end
    c.self.inside.end c.max-end.result (subst (λ (flags : List Bool). EndsBelow (tiles flags) c.self.inside.end) c.self.view_is c.self.invariant) (omega arith) (omega (arith, end)) c.loop-row.invariant.added
