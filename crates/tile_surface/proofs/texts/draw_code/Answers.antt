use Rattle.std.proofs.Common.{ap, sym, ◌∙◌, subst}
use Rattle.std.specs.Prelude.{Option, Some}
use Rattle.px_core.specs.Picture.{both, painted}
use Rattle.px_core.specs.Rectangle.{in_clip}
use Rattle.rop3_core.specs.Palette.{session_colors}
use Rattle.draw_ops.specs.Content.{GlyphOf}
use Rattle.draw_ops.specs.Slots.{Loaded}
use Rattle.draw_ops.specs.Drawing.{content_of}
use Rattle.draw_ops.specs.Formulas.{glyph_area, solid}
use Rattle.surface_parts.proofs.Runs.{painted_nowhere}
use Rattle.tile_surface.specs.Cells.{picture_of}
use Rattle.tile_surface.specs.Needed.{OwnsGlyph}
use Rattle.tile_surface.proofs.texts.draw_code.Goals as goal

pub draw_glyph-requires-clause-own : goal.draw_glyph-requires-clause-own
draw_glyph-requires-clause-own c = let p = c.args.pen in let size = c.args.window.size in let clip = in_clip c.args.window.clip in let cells = c.args.cells.now in
    subst (λ (content : GlyphOf). OwnsGlyph size cells clip (Some content) p.x p.y) (sym c.content.ensures)
    (subst (λ (o : Option (Loaded GlyphOf)). OwnsGlyph size cells clip (content_of o) p.x p.y) (sym c.in-Some.ensures) c.requires.own)

pub returns-in-None-clause-painted : goal.returns-in-None-clause-painted
returns-in-None-clause-painted c = let p = c.args.pen in let size = c.args.window.size in let old = picture_of size c.args.cells.now in
    sym (painted_nowhere size.w 0 (in_clip c.args.window.clip) (solid session_colors p.color) old)
    ∙ ap (λ (o : Option (Loaded GlyphOf)). painted size (both (in_clip c.args.window.clip) (glyph_area (content_of o) p.x p.y)) (solid session_colors p.color) old) c.in-None.ensures

pub returns-in-Some-clause-painted : goal.returns-in-Some-clause-painted
returns-in-Some-clause-painted c = let p = c.args.pen in let size = c.args.window.size in let old = picture_of size c.args.cells.now in
    c.draw_glyph.ensures.painted
    ∙ ap (λ (content : GlyphOf). painted size (both (in_clip c.args.window.clip) (glyph_area (Some content) p.x p.y)) (solid session_colors p.color) old) c.content.ensures
    ∙ ap (λ (o : Option (Loaded GlyphOf)). painted size (both (in_clip c.args.window.clip) (glyph_area (content_of o) p.x p.y)) (solid session_colors p.color) old) c.in-Some.ensures
