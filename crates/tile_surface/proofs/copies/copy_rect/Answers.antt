use Rattle.std.proofs.Common.{arith}
use Rattle.std.proofs.lemmas.Int.{ints}
use Rattle.px_core.specs.Picture.{both, rows_of}
use Rattle.px_core.specs.Rectangle.{in_clip, in_rect}
use Rattle.rop3_core.specs.Palette.{session_colors}
use Rattle.draw_ops.specs.Formulas.{rastered, absent, shifted}
use Rattle.surface_parts.proofs.Paintings.{unseen}
use Rattle.tile_surface.specs.Cells.{picture_of}
use Rattle.tile_surface.proofs.Colored.{pixels_colored}
use Rattle.tile_surface.proofs.Copied.{source_inside, copied_is}
use Rattle.tile_surface.proofs.Owning.{owns_part}
use Rattle.tile_surface.proofs.Tiled.{tiled_canvas, tiled_length}
use Rattle.tile_surface.proofs.copies.copy_rect.Goals as goal

pub copy_part-requires-clause-from : goal.copy_part-requires-clause-from
copy_part-requires-clause-from c = source_inside c.args.window.size c.args.rect c.in-Some.part c.args.rop c.source_place.result c.source_place-in-Some.result c.args.sx c.args.sy c.in-Some.ensures.within c.requires.inside
    (omega (arith, ints, c.source_place.ensures)) (omega (arith, ints, c.source_place-in-Some.ensures))

pub copy_part-requires-clause-colors : goal.copy_part-requires-clause-colors
copy_part-requires-clause-colors c = pixels_colored c.args.window.size (picture_of c.args.window.size c.args.cells.now) c.requires.colors

pub copy_part-requires-clause-own : goal.copy_part-requires-clause-own
copy_part-requires-clause-own c = owns_part c.args.window.size c.args.cells.now (both (in_clip c.args.window.clip) (in_rect c.args.rect)) c.in-Some.part c.in-Some.ensures.inside c.requires.own c.in-Some.ensures.pixels

pub returns-in-Some-clause-painted : goal.returns-in-Some-clause-painted
returns-in-Some-clause-painted c = copied_is c.args.window.size c.args.rect c.in-Some.part c.args.rop c.source_place.result c.source_place-in-Some.result c.args.sx c.args.sy c.in-Some.ensures.within c.requires.inside
    (omega (arith, ints, c.source_place.ensures)) (omega (arith, ints, c.source_place-in-Some.ensures)) c.args.window.clip (picture_of c.args.window.size c.args.cells.now) (picture_of c.args.window.size c.copy_part.new.cells) (tiled_canvas c.args.window.size c.args.cells.now c.requires.tiled)
    c.copy_part.ensures.painted c.in-Some.ensures.pixels

pub returns-in-None-clause-painted : goal.returns-in-None-clause-painted
returns-in-None-clause-painted c = let size = c.args.window.size in let old = picture_of size c.args.cells.now in
    unseen size (in_clip c.args.window.clip) c.args.rect (rastered session_colors c.args.rop (absent session_colors) (shifted (rows_of size.w size.h old) 0 c.args.rect c.args.sx c.args.sy)) old (tiled_length size c.args.cells.now)
    (λ x y left above. c.in-None.ensures.pixels x y left above)
