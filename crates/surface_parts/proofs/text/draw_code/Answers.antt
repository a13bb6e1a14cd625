use Rattle.std.proofs.Common.{ap, sym, ◌∙◌}
use Rattle.std.specs.Prelude.{Option, Some}
use Rattle.px_core.specs.Picture.{both, painted}
use Rattle.px_core.specs.Rectangle.{in_clip}
use Rattle.rop3_core.specs.Palette.{session_colors}
use Rattle.draw_ops.specs.Content.{GlyphOf}
use Rattle.draw_ops.specs.Slots.{Loaded}
use Rattle.draw_ops.specs.Drawing.{content_of}
use Rattle.draw_ops.specs.Formulas.{glyph_area, solid}
use Rattle.surface_parts.proofs.Runs.{painted_nowhere}
use Rattle.surface_parts.proofs.text.draw_code.Goals as goal

pub returns-in-None : goal.returns-in-None
returns-in-None c = let p = c.args.pen in let size = c.args.window.size in
    sym (painted_nowhere size.w 0 (in_clip c.args.window.clip) (solid session_colors p.color) c.args.pixels.now)
    ∙ ap (λ (o : Option (Loaded GlyphOf)). painted size (both (in_clip c.args.window.clip) (glyph_area (content_of o) p.x p.y)) (solid session_colors p.color) c.args.pixels.now) c.in-None.ensures

pub returns-in-Some : goal.returns-in-Some
returns-in-Some c = let p = c.args.pen in let size = c.args.window.size in
    c.draw_glyph.ensures
    ∙ ap (λ (content : GlyphOf). painted size (both (in_clip c.args.window.clip) (glyph_area (Some content) p.x p.y)) (solid session_colors p.color) c.args.pixels.now) c.content.ensures
    ∙ ap (λ (o : Option (Loaded GlyphOf)). painted size (both (in_clip c.args.window.clip) (glyph_area (content_of o) p.x p.y)) (solid session_colors p.color) c.args.pixels.now) c.in-Some.ensures
