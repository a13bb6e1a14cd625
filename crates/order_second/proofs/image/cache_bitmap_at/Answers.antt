use Rattle.std.proofs.Common.{◌≡◌, ◌∙◌, ap, length, map, sym, rules, arith}
use Rattle.std.proofs.lemmas.Grind.{common_steps}
use Rattle.px_core.specs.Depth.{shown, shown_colors}
use Rattle.px_core.specs.Picture.{rows_of, turned_over, joined}
use Rattle.run_lengths.specs.WirePixels.{padded, padded_row}
use Rattle.px_core.proofs.Turned.{turned_over-map}
use Rattle.order_second.proofs.Whole.{whole_rows}
use Rattle.order_second.proofs.image.cache_bitmap_at.Goals as goal

pub pixel_data-requires-clause-rows : goal.pixel_data-requires-clause-rows
pixel_data-requires-clause-rows c = whole_rows c.padded_width-padded.result c.h.result (length c.deref-2.result.now) (ap length c.deref-2.ensures.value ∙ c.show_all-wire.ensures.number ∙ c.in_ok-turn_over.ensures.number)

pub returns-clause-ok : goal.returns-clause-ok
returns-clause-ok c =
    let i = c.args.image.now in
    let rows = joined (map (padded_row i.w) (rows_of i.w i.h i.pixels)) in
    let wire : c.in_ok-turn_over.field-0.items ≡ turned_over (padded i.w) i.h rows = search rules in
    let shown_ = c.show_all-wire.ensures.shown ∙ ap (shown_colors c.args.depth) wire ∙ sym (turned_over-map (shown c.args.depth) (padded i.w) i.h rows) in
    search rules

pub returns-clause-memory : goal.returns-clause-memory
returns-clause-memory c =
    let i = c.args.image.now in
    let rows = joined (map (padded_row i.w) (rows_of i.w i.h i.pixels)) in
    let wire : c.in_ok-turn_over.field-0.items ≡ turned_over (padded i.w) i.h rows = search rules in
    let shown_ = c.show_all-wire.ensures.shown ∙ ap (shown_colors c.args.depth) wire ∙ sym (turned_over-map (shown c.args.depth) (padded i.w) i.h rows) in
    grind (arith, common_steps, shown_)
