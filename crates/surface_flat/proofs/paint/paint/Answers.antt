use Rattle.std.proofs.Common.{◌≡◌, ℕ, ℤ, List, ap, sym, ◌∙◌, rules, w32, to_z, of_z}
use Rattle.std.proofs.lemmas.Int.{to_z-of_z}
use Rattle.px_core.specs.Rectangle.{in_clip}
use Rattle.draw_ops.specs.declared.shape.Shape.{Shape}
use Rattle.draw_ops.specs.Drawing.{painting_of, writing}
use Rattle.draw_ops.specs.Formulas.{picture_after}
use Rattle.surface_parts.specs.Held.{state_of}
use Rattle.surface_parts.specs.Lined.{lined}
use Rattle.surface_parts.specs.Texts.{glyphs_held}
use Rattle.surface_parts.proofs.Paintings.{nothing_is}
use Rattle.surface_flat.proofs.paint.paint.Goals as goal

pub returns-in-Text : goal.returns-in-Text
returns-in-Text c = λ count.
    let t = c.in-Text in let size = c.args.window.size in let old = c.args.pixels.now in let clip = in_clip c.args.window.clip in
    let G = glyphs_held c.args.slots.now t.font in
    let X = to_z w32 (of_z w32 t.x) in
    let Y = to_z w32 (of_z w32 t.y) in
    let ex : to_z w32 (of_z w32 t.x) ≡ t.x = search (rules, to_z-of_z) in
    let ey : to_z w32 (of_z w32 t.y) ≡ t.y = search (rules, to_z-of_z) in
    let made : c.write_run.new.pixels ≡ picture_after size (in_clip c.args.window.clip) (writing G X Y t.color c.pairs.result.now) old = c.write_run.ensures in
    made
    ∙ ap (λ (z : ℤ). picture_after size (in_clip c.args.window.clip) (writing G z Y t.color c.pairs.result.now) old) ex
    ∙ ap (λ (z : ℤ). picture_after size (in_clip c.args.window.clip) (writing G t.x z t.color c.pairs.result.now) old) ey
    ∙ ap (λ (run : List (ℕ × ℕ)). picture_after size (in_clip c.args.window.clip) (writing G t.x t.y t.color run) old) c.pairs.ensures
    ∙ ap (λ (shape : Shape). picture_after size (in_clip c.args.window.clip) (painting_of size (state_of old c.args.slots.now count) shape) old) (sym t.is)

pub returns-in-Line : goal.returns-in-Line
returns-in-Line c = λ count.
    let l = c.in-Line in let size = c.args.window.size in let old = c.args.pixels.now in
    let e0 : to_z w32 (of_z w32 l.x0) ≡ l.x0 = search (rules, to_z-of_z) in
    let f0 : to_z w32 (of_z w32 l.y0) ≡ l.y0 = search (rules, to_z-of_z) in
    let e1 : to_z w32 (of_z w32 l.x1) ≡ l.x1 = search (rules, to_z-of_z) in
    let f1 : to_z w32 (of_z w32 l.y1) ≡ l.y1 = search (rules, to_z-of_z) in
    let at : ℤ → ℤ → ℤ → ℤ → List ℕ = λ x0 y0 x1 y1. picture_after size (in_clip c.args.window.clip) (lined (record { x0 = x0; y0 = y0; x1 = x1; y1 = y1 }) l.color) old in
    let made : c.draw_line.new.pixels ≡ at (to_z w32 (of_z w32 l.x0)) (to_z w32 (of_z w32 l.y0)) (to_z w32 (of_z w32 l.x1)) (to_z w32 (of_z w32 l.y1)) = c.draw_line.ensures in
    made
    ∙ ap (λ (z : ℤ). at z (to_z w32 (of_z w32 l.y0)) (to_z w32 (of_z w32 l.x1)) (to_z w32 (of_z w32 l.y1))) e0
    ∙ ap (λ (z : ℤ). at l.x0 z (to_z w32 (of_z w32 l.x1)) (to_z w32 (of_z w32 l.y1))) f0
    ∙ ap (λ (z : ℤ). at l.x0 l.y0 z (to_z w32 (of_z w32 l.y1))) e1
    ∙ ap (λ (z : ℤ). at l.x0 l.y0 l.x1 z) f1
    ∙ ap (λ (shape : Shape). picture_after size (in_clip c.args.window.clip) (painting_of size (state_of old c.args.slots.now count) shape) old) (sym l.is)

pub returns-in-Save : goal.returns-in-Save
returns-in-Save c = λ count. nothing_is c.args.window.size (in_clip c.args.window.clip) c.args.pixels.now c.requires.canvas.sized
    ∙ ap (λ (shape : Shape). picture_after c.args.window.size (in_clip c.args.window.clip) (painting_of c.args.window.size (state_of c.args.pixels.now c.args.slots.now count) shape) c.args.pixels.now) (sym c.in-Save.is)

pub returns-in-LoadImage : goal.returns-in-LoadImage
returns-in-LoadImage c = λ count. nothing_is c.args.window.size (in_clip c.args.window.clip) c.args.pixels.now c.requires.canvas.sized
    ∙ ap (λ (shape : Shape). picture_after c.args.window.size (in_clip c.args.window.clip) (painting_of c.args.window.size (state_of c.args.pixels.now c.args.slots.now count) shape) c.args.pixels.now) (sym c.in-LoadImage.is)

pub returns-in-LoadBrush : goal.returns-in-LoadBrush
returns-in-LoadBrush c = λ count. nothing_is c.args.window.size (in_clip c.args.window.clip) c.args.pixels.now c.requires.canvas.sized
    ∙ ap (λ (shape : Shape). picture_after c.args.window.size (in_clip c.args.window.clip) (painting_of c.args.window.size (state_of c.args.pixels.now c.args.slots.now count) shape) c.args.pixels.now) (sym c.in-LoadBrush.is)

pub returns-in-LoadGlyph : goal.returns-in-LoadGlyph
returns-in-LoadGlyph c = λ count. nothing_is c.args.window.size (in_clip c.args.window.clip) c.args.pixels.now c.requires.canvas.sized
    ∙ ap (λ (shape : Shape). picture_after c.args.window.size (in_clip c.args.window.clip) (painting_of c.args.window.size (state_of c.args.pixels.now c.args.slots.now count) shape) c.args.pixels.now) (sym c.in-LoadGlyph.is)
