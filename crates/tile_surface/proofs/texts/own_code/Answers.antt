use Rattle.std.proofs.Common.{subst}
use Rattle.std.specs.Prelude.{Option, Some, OnOk}
use Rattle.px_core.specs.Rectangle.{in_clip}
use Rattle.draw_ops.specs.Content.{GlyphOf}
use Rattle.draw_ops.specs.Slots.{Loaded}
use Rattle.draw_ops.specs.Drawing.{content_of}
use Rattle.tile_surface.specs.Needed.{OwnsGlyph}
use Rattle.tile_surface.proofs.texts.own_code.Goals as goal

pub returns-in-None-clause-own : goal.returns-in-None-clause-own
returns-in-None-clause-own c = let p = c.args.pen in
    subst (λ (o : Option (Loaded GlyphOf)). OwnsGlyph c.args.window.size c.args.cells.now (in_clip c.args.window.clip) (content_of o) p.x p.y) c.in-None.ensures tt

pub returns-in-Some-clause-own : goal.returns-in-Some-clause-own
returns-in-Some-clause-own c = let p = c.args.pen in let size = c.args.window.size in let clip = in_clip c.args.window.clip in let new = c.own_glyph.new.cells in
    subst (λ (o : Option (Loaded GlyphOf)). OnOk c.own_glyph.result (OwnsGlyph size new clip (content_of o) p.x p.y)) c.in-Some.ensures
    (subst (λ (content : GlyphOf). OnOk c.own_glyph.result (OwnsGlyph size new clip (Some content) p.x p.y)) c.content.ensures c.own_glyph.ensures.own)
