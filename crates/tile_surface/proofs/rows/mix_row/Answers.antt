use Rattle.std.proofs.Common.{◌≡◌, ◌-◌, length, get_or, refl, ap, sym, ◌∙◌, arith}
use Rattle.px_core.specs.Picture.{pixel_at}
use Rattle.rop3_core.specs.Rop3.{ternary_raster}
use Rattle.rop3_core.proofs.WholeWords.{copy_is_raster, pattern_is_raster}
use Rattle.tile_surface.specs.Cells.{picture_of}
use Rattle.tile_surface.specs.Rows.{row_mixed}
use Rattle.tile_surface.proofs.Colored.{color_whole}
use Rattle.tile_surface.proofs.Copied.{row_again}
use Rattle.tile_surface.proofs.rows.mix_row.Goals as goal

pub returns-in-204-clause-painted : goal.returns-in-204-clause-painted
returns-in-204-clause-painted c = let size = c.args.size in let old = picture_of size c.args.cells.now in let x = c.args.x in let y = c.args.y in let pattern = c.args.pattern.now in let source = c.args.source.now in
    let code : c.args.rop ≡ 0xCC = c.in-204.is in
    row_again size x y (length pattern) (length source) (row_mixed size old c.args.rop pattern source x) (λ u v. get_or source (u - x) 0) old (picture_of size c.write_row.new.cells) c.requires.source c.write_row.ensures.painted
    (λ u more less. color_whole (get_or source (u - x) 0) (c.requires.source_colors (u - x) (omega (arith, more, less, c.requires.source)))
    ∙ copy_is_raster (get_or pattern (u - x) 0) (get_or source (u - x) 0) (pixel_at size old 0 u y)
    ∙ ap (λ r. ternary_raster r (get_or pattern (u - x) 0) (get_or source (u - x) 0) (pixel_at size old 0 u y)) (sym code))

pub returns-in-240-clause-painted : goal.returns-in-240-clause-painted
returns-in-240-clause-painted c = let size = c.args.size in let old = picture_of size c.args.cells.now in let x = c.args.x in let y = c.args.y in let pattern = c.args.pattern.now in let source = c.args.source.now in
    let code : c.args.rop ≡ 0xF0 = c.in-240.is in
    row_again size x y (length pattern) (length pattern) (row_mixed size old c.args.rop pattern source x) (λ u v. get_or pattern (u - x) 0) old (picture_of size c.write_row-in-240.new.cells) refl c.write_row-in-240.ensures.painted
    (λ u more less. color_whole (get_or pattern (u - x) 0) (c.requires.pattern_colors (u - x) (omega (arith, more, less)))
    ∙ pattern_is_raster (get_or pattern (u - x) 0) (get_or source (u - x) 0) (pixel_at size old 0 u y)
    ∙ ap (λ r. ternary_raster r (get_or pattern (u - x) 0) (get_or source (u - x) 0) (pixel_at size old 0 u y)) (sym code))
