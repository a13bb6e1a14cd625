use Rattle.std.proofs.Common.{◌≡◌, ℕ, List, subst, rules}
use Rattle.px_core.specs.TileFlags.{box_tiles, touches}
use Rattle.px_core.proofs.TileFlags.{AreTouched}
use Rattle.session_core.proofs.MarkLemmas.{IsMarkedIn, box_marked}
use Rattle.session_core.proofs.marks.Marks.note_tiles.Goals as goal

pub returns-clause-tiles : goal.returns-clause-tiles
returns-clause-tiles c =
    let rows : AreTouched c.touched_rows-rows.result.from c.touched_rows-rows.result.end (touches c.args.r.y c.args.r.h c.args.s.h) = search rules in
    let columns : AreTouched c.touched_columns-columns.result.from c.touched_columns-columns.result.end (touches c.args.r.x c.args.r.w c.args.s.w) = search rules in
    let old : c.as_mut_slice.result.now ≡ c.args.self.now.tiles = search rules in
    box_marked c.args.s c.args.r c.args.self.now.tiles c.note_rows.new.numbers c.touched_rows-rows.result.from c.touched_rows-rows.result.end c.touched_columns-columns.result.from c.touched_columns-columns.result.end c.args.number
    rows columns
    (subst (λ (xs : List ℕ). IsMarkedIn xs (box_tiles c.touched_rows-rows.result.from c.touched_rows-rows.result.end c.touched_columns-columns.result.from c.touched_columns-columns.result.end) c.args.number c.note_rows.new.numbers) old c.note_rows.ensures)
