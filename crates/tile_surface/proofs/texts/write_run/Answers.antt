use Rattle.std.proofs.Common.{◌≡◌, ℕ, ◌+◌, List, ◌∷◌, get_or, drop, ap, sym, ◌∙◌, subst, arith, rules, w32, to_z, of_z, pos, ◌+ℤ◌, ℤ}
use Rattle.std.proofs.lemmas.Int.{ints, to_z-of_z}
use Rattle.std.proofs.lemmas.List.{drop_more, drop_all}
use Rattle.px_core.specs.Picture.{Area, both, painted}
use Rattle.px_core.specs.Rectangle.{in_clip}
use Rattle.rop3_core.specs.Palette.{session_colors}
use Rattle.draw_ops.specs.Formulas.{glyph_area, run_area, solid}
use Rattle.surface_parts.specs.Texts.{glyphs_held}
use Rattle.surface_parts.proofs.Runs.{painted_nowhere, text_is, run_more}
use Rattle.tile_surface.specs.Cells.{picture_of}
use Rattle.tile_surface.specs.Needed.{OwnsGlyph}
use Rattle.tile_surface.proofs.Owning.{keeps_twice}
use Rattle.tile_surface.proofs.Penned.{glyph_still, run_parts}
use Rattle.tile_surface.proofs.texts.write_run.Goals as goal

pub draw_code-requires-clause-pen : goal.draw_code-requires-clause-pen
draw_code-requires-clause-pen c = record {
  left = omega (arith, ints);
  right = omega (arith, ints);
  above = omega (arith, ints);
  below = omega (arith, ints);
}

pub draw_code-requires-clause-own : goal.draw_code-requires-clause-own
draw_code-requires-clause-own c =
    let size = c.args.window.size in let s = c.args.script in let run = c.args.run.now in let i = c.loop-pair.pair-index in let old = c.args.cells.now in let cur = c.loop-pair.cells in
    let clip : Area = in_clip c.args.window.clip in
    let G = glyphs_held c.args.slots.now s.font in
    let p = get_or run i (0, 0) in
    let at : ℤ = s.x +ℤ pos c.loop-pair.moved in
    let pen : ℤ = s.x +ℤ pos (c.loop-pair.moved + c.from-moved.result) in
    let e1 : at +ℤ pos p.1 ≡ pen = omega (arith, ints, c.from-moved.ensures) in
    let e2 : to_z w32 (of_z w32 (to_z w32 (of_z w32 s.x) +ℤ to_z w32 (c.loop-pair.moved + c.from-moved.result))) ≡ pen = omega (arith, ints) in
    let e3 : to_z w32 (of_z w32 s.y) ≡ s.y = search (rules, to_z-of_z) in
    let first = (run_parts size clip G s.y old at pen (drop i run) (drop (i + 1) run) p (drop_more run i (0, 0) (omega arith)) e1 c.loop-pair.invariant.own).0 in
    subst (λ (z : ℤ). OwnsGlyph size cur clip (G p.0) z (to_z w32 (of_z w32 s.y))) (sym e2)
    (subst (λ (z : ℤ). OwnsGlyph size cur clip (G p.0) pen z) (sym e3) (glyph_still size clip G s.y old cur (G p.0) pen c.loop-pair.invariant.kept.own first))

pub loop-pair-preserved : goal.loop-pair-preserved
loop-pair-preserved c =
    let size = c.args.window.size in let s = c.args.script in let run = c.args.run.now in let i = c.loop-pair.pair-index in
    let old = c.args.cells.now in let cur = picture_of size c.loop-pair.cells in let new = picture_of size c.draw_code.new.cells in
    let clip : Area = in_clip c.args.window.clip in
    let G = glyphs_held c.args.slots.now s.font in
    let col = solid session_colors s.color in
    let p = get_or run i (0, 0) in
    let rest = drop (i + 1) run in
    let at : ℤ = s.x +ℤ pos c.loop-pair.moved in
    let pen : ℤ = s.x +ℤ pos (c.loop-pair.moved + c.from-moved.result) in
    let X = to_z w32 (of_z w32 (to_z w32 (of_z w32 s.x) +ℤ to_z w32 (c.loop-pair.moved + c.from-moved.result))) in
    let Y = to_z w32 (of_z w32 s.y) in
    let e1 : at +ℤ pos p.1 ≡ pen = omega (arith, ints, c.from-moved.ensures) in
    let e2 : to_z w32 (of_z w32 (to_z w32 (of_z w32 s.x) +ℤ to_z w32 (c.loop-pair.moved + c.from-moved.result))) ≡ pen = omega (arith, ints) in
    let e3 : to_z w32 (of_z w32 s.y) ≡ s.y = search (rules, to_z-of_z) in
    let more : drop i run ≡ p ∷ rest = drop_more run i (0, 0) (omega arith) in
    let made : new ≡ painted size (both clip (glyph_area (G p.0) X Y)) col cur = c.draw_code.ensures.painted in
    record {
      left = ap (λ (qs : List ℕ). painted size (both clip (run_area G pen s.y rest)) col qs)
          (made ∙ ap (λ (z : ℤ). painted size (both clip (glyph_area (G p.0) z Y)) col cur) e2 ∙ ap (λ (z : ℤ). painted size (both clip (glyph_area (G p.0) pen z)) col cur) e3)
          ∙ subst (λ (z : ℤ). painted size (both clip (run_area G z s.y rest)) col (painted size (both clip (glyph_area (G p.0) z s.y)) col cur) ≡ painted size (both clip (run_area G at s.y (p ∷ rest))) col cur) e1
          (run_more size clip G at s.y s.color p rest cur)
          ∙ ap (λ (xs : List (ℕ × ℕ)). painted size (both clip (run_area G at s.y xs)) col cur) (sym more)
          ∙ c.loop-pair.invariant.left;
      own = (run_parts size clip G s.y old at pen (drop i run) rest p more e1 c.loop-pair.invariant.own).1;
      kept = keeps_twice size old c.loop-pair.cells c.draw_code.new.cells c.loop-pair.invariant.kept c.draw_code.ensures.kept;
      far = omega (arith, c.loop-pair.invariant.far);
    }

pub returns-clause-painted : goal.returns-clause-painted
returns-clause-painted c = let size = c.args.window.size in let s = c.args.script in let run = c.args.run.now in let cur = picture_of size c.loop-pair.cells in
    let clip : Area = in_clip c.args.window.clip in
    let G = glyphs_held c.args.slots.now s.font in
    let col = solid session_colors s.color in
    let at : ℤ = s.x +ℤ pos c.loop-pair.moved in
    sym (painted_nowhere size.w 0 clip col cur)
    ∙ ap (λ (xs : List (ℕ × ℕ)). painted size (both clip (run_area G at s.y xs)) col cur) (sym (drop_all c.loop-pair.pair-index run (omega arith)))
    ∙ c.loop-pair.invariant.left
    ∙ text_is size clip G s.x s.y s.color run (picture_of size c.args.cells.now)
