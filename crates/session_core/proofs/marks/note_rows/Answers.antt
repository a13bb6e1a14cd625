use Rattle.std.proofs.Common.{◌≡◌, ℕ, ◌∙◌, arith, subst}
use Rattle.px_core.specs.TileFlags.{box_tiles}
use Rattle.session_core.proofs.MarkLemmas.{IsMarkedIn, row_marked}
use Rattle.session_core.proofs.marks.note_rows.Goals as goal

pub loop-row-preserved : goal.loop-row-preserved
loop-row-preserved c = record {
  marked = row_marked c.args.numbers.now c.loop-row.numbers c.note_row.new.numbers c.args.rows.from c.loop-row.row c.args.columns.from c.args.columns.end c.args.number
      (omega arith) c.note_row.ensures c.loop-row.invariant.marked;
  whole = c.note_row.auto.numbers ∙ c.loop-row.invariant.whole;
}

pub returns : goal.returns
returns c =
    let end : c.loop-row.row ≡ c.args.rows.end = omega arith in
    subst (λ (n : ℕ). IsMarkedIn c.args.numbers.now (box_tiles c.args.rows.from n c.args.columns.from c.args.columns.end) c.args.number c.loop-row.numbers) end c.loop-row.invariant.marked
