use Rattle.std.proofs.Common.{◌≡◌, ℕ, ℤ, List, Option, ap, sym, subst, ◌∙◌, rules, w32, to_z, of_z}
use Rattle.std.specs.Prelude.{IfSome, IsTrue}
use Rattle.std.proofs.lemmas.Int.{to_z-of_z}
use Rattle.px_core.specs.Colors.{are_colors}
use Rattle.px_core.specs.Rectangle.{in_clip}
use Rattle.draw_ops.specs.declared.shape.Shape.{Shape}
use Rattle.draw_ops.specs.Content.{ImageOf}
use Rattle.draw_ops.specs.Drawing.{painting_of, writing}
use Rattle.draw_ops.specs.Formulas.{picture_after}
use Rattle.surface_parts.specs.Held.{state_of}
use Rattle.surface_parts.specs.Lined.{lined}
use Rattle.surface_parts.specs.Texts.{glyphs_held}
use Rattle.surface_parts.proofs.Paintings.{nothing_is}
use Rattle.tile_surface.specs.Cells.{picture_of}
use Rattle.tile_surface.proofs.Colored.{content_colored}
use Rattle.tile_surface.proofs.Tiled.{tiled_length}
use Rattle.tile_surface.proofs.paint.paint.Goals as goal

pub mix_rect-requires-in-Pat-clause-brush_colors : goal.mix_rect-requires-in-Pat-clause-brush_colors
mix_rect-requires-in-Pat-clause-brush_colors c = let colored = content_colored (λ (brush : List ℕ). brush) c.args.slots.now.brushes c.in-Pat.brush c.requires.colors.brushes in
    subst (λ (o : Option (List ℕ)). IfSome o (λ brush. IsTrue (are_colors (brush)))) (sym c.bare_brush.ensures) colored

pub mix_rect-requires-in-Blit-clause-image_colors : goal.mix_rect-requires-in-Blit-clause-image_colors
mix_rect-requires-in-Blit-clause-image_colors c = let colored = content_colored (λ (image : ImageOf). image.pixels) c.args.slots.now.images c.in-Blit.image c.requires.colors.images in
    subst (λ (o : Option ImageOf). IfSome o (λ image. IsTrue (are_colors (image.pixels)))) (sym c.bare_image.ensures) colored

pub mix_rect-requires-in-Blit3-clause-image_colors : goal.mix_rect-requires-in-Blit3-clause-image_colors
mix_rect-requires-in-Blit3-clause-image_colors c = let colored = content_colored (λ (image : ImageOf). image.pixels) c.args.slots.now.images c.in-Blit3.image c.requires.colors.images in
    subst (λ (o : Option ImageOf). IfSome o (λ image. IsTrue (are_colors (image.pixels)))) (sym c.bare_image-in-Blit3.ensures) colored

pub mix_rect-requires-in-Blit3-clause-brush_colors : goal.mix_rect-requires-in-Blit3-clause-brush_colors
mix_rect-requires-in-Blit3-clause-brush_colors c = let colored = content_colored (λ (brush : List ℕ). brush) c.args.slots.now.brushes c.in-Blit3.brush c.requires.colors.brushes in
    subst (λ (o : Option (List ℕ)). IfSome o (λ brush. IsTrue (are_colors (brush)))) (sym c.bare_brush-in-Blit3.ensures) colored

pub returns-in-Text-clause-painted : goal.returns-in-Text-clause-painted
returns-in-Text-clause-painted c = λ count.
    let t = c.in-Text in let size = c.args.window.size in let old = picture_of size c.args.cells.now in let clip = in_clip c.args.window.clip in
    let G = glyphs_held c.args.slots.now t.font in
    let X = to_z w32 (of_z w32 t.x) in
    let Y = to_z w32 (of_z w32 t.y) in
    let ex : to_z w32 (of_z w32 t.x) ≡ t.x = search (rules, to_z-of_z) in
    let ey : to_z w32 (of_z w32 t.y) ≡ t.y = search (rules, to_z-of_z) in
    let made : picture_of size c.write_run.new.cells ≡ picture_after size (in_clip c.args.window.clip) (writing G X Y t.color c.pairs.result.now) old = c.write_run.ensures.painted in
    made
    ∙ ap (λ (z : ℤ). picture_after size (in_clip c.args.window.clip) (writing G z Y t.color c.pairs.result.now) old) ex
    ∙ ap (λ (z : ℤ). picture_after size (in_clip c.args.window.clip) (writing G t.x z t.color c.pairs.result.now) old) ey
    ∙ ap (λ (run : List (ℕ × ℕ)). picture_after size (in_clip c.args.window.clip) (writing G t.x t.y t.color run) old) c.pairs.ensures
    ∙ ap (λ (shape : Shape). picture_after size (in_clip c.args.window.clip) (painting_of size (state_of old c.args.slots.now count) shape) old) (sym t.is)

pub returns-in-Line-clause-painted : goal.returns-in-Line-clause-painted
returns-in-Line-clause-painted c = λ count.
    let l = c.in-Line in let size = c.args.window.size in let old = picture_of size c.args.cells.now in
    let e0 : to_z w32 (of_z w32 l.x0) ≡ l.x0 = search (rules, to_z-of_z) in
    let f0 : to_z w32 (of_z w32 l.y0) ≡ l.y0 = search (rules, to_z-of_z) in
    let e1 : to_z w32 (of_z w32 l.x1) ≡ l.x1 = search (rules, to_z-of_z) in
    let f1 : to_z w32 (of_z w32 l.y1) ≡ l.y1 = search (rules, to_z-of_z) in
    let at : ℤ → ℤ → ℤ → ℤ → List ℕ = λ x0 y0 x1 y1. picture_after size (in_clip c.args.window.clip) (lined (record { x0 = x0; y0 = y0; x1 = x1; y1 = y1 }) l.color) old in
    let made : picture_of size c.draw_line.new.cells ≡ at (to_z w32 (of_z w32 l.x0)) (to_z w32 (of_z w32 l.y0)) (to_z w32 (of_z w32 l.x1)) (to_z w32 (of_z w32 l.y1)) = c.draw_line.ensures.painted in
    made
    ∙ ap (λ (z : ℤ). at z (to_z w32 (of_z w32 l.y0)) (to_z w32 (of_z w32 l.x1)) (to_z w32 (of_z w32 l.y1))) e0
    ∙ ap (λ (z : ℤ). at l.x0 z (to_z w32 (of_z w32 l.x1)) (to_z w32 (of_z w32 l.y1))) f0
    ∙ ap (λ (z : ℤ). at l.x0 l.y0 z (to_z w32 (of_z w32 l.y1))) e1
    ∙ ap (λ (z : ℤ). at l.x0 l.y0 l.x1 z) f1
    ∙ ap (λ (shape : Shape). picture_after size (in_clip c.args.window.clip) (painting_of size (state_of old c.args.slots.now count) shape) old) (sym l.is)

pub returns-in-Save-clause-painted : goal.returns-in-Save-clause-painted
returns-in-Save-clause-painted c = λ count. let size = c.args.window.size in let old = picture_of size c.args.cells.now in
    nothing_is size (in_clip c.args.window.clip) old (tiled_length size c.args.cells.now)
    ∙ ap (λ (shape : Shape). picture_after size (in_clip c.args.window.clip) (painting_of size (state_of old c.args.slots.now count) shape) old) (sym c.in-Save.is)

pub returns-in-LoadImage-clause-painted : goal.returns-in-LoadImage-clause-painted
returns-in-LoadImage-clause-painted c = λ count. let size = c.args.window.size in let old = picture_of size c.args.cells.now in
    nothing_is size (in_clip c.args.window.clip) old (tiled_length size c.args.cells.now)
    ∙ ap (λ (shape : Shape). picture_after size (in_clip c.args.window.clip) (painting_of size (state_of old c.args.slots.now count) shape) old) (sym c.in-LoadImage.is)

pub returns-in-LoadBrush-clause-painted : goal.returns-in-LoadBrush-clause-painted
returns-in-LoadBrush-clause-painted c = λ count. let size = c.args.window.size in let old = picture_of size c.args.cells.now in
    nothing_is size (in_clip c.args.window.clip) old (tiled_length size c.args.cells.now)
    ∙ ap (λ (shape : Shape). picture_after size (in_clip c.args.window.clip) (painting_of size (state_of old c.args.slots.now count) shape) old) (sym c.in-LoadBrush.is)

pub returns-in-LoadGlyph-clause-painted : goal.returns-in-LoadGlyph-clause-painted
returns-in-LoadGlyph-clause-painted c = λ count. let size = c.args.window.size in let old = picture_of size c.args.cells.now in
    nothing_is size (in_clip c.args.window.clip) old (tiled_length size c.args.cells.now)
    ∙ ap (λ (shape : Shape). picture_after size (in_clip c.args.window.clip) (painting_of size (state_of old c.args.slots.now count) shape) old) (sym c.in-LoadGlyph.is)
