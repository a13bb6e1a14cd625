use Rattle.std.proofs.Common.{◌≡◌, ℕ, ◌+◌, ◌*◌, List, ◌∷◌, get_or, drop, ap, sym, ◌∙◌, subst, arith, w32, w64, to_z, of_z, pos, ◌+ℤ◌, ℤ}
use Rattle.std.specs.Prelude.{Option}
use Rattle.std.proofs.lemmas.Int.{ints, to_z-of_z}
use Rattle.draw_ops.specs.Content.{GlyphOf}
use Rattle.draw_ops.specs.Formulas.{glyph_area, run_area}
use Rattle.draw_ops.specs.Slots.{lookup}
use Rattle.client_picture.specs.Bits.{pairs_in}
use Rattle.client_picture.specs.Pictures.{Pictures, drawn_within}
use Rattle.client_picture.proofs.Runs.{drawn_nowhere, drawn_more, written_is, pairs_are, pairs_end, pairs_next}
use Rattle.client_picture.proofs.picture.ClientPicture.write_run.Goals as goal

pub loop-k-init : goal.loop-k-init
loop-k-init c = let run = c.args.run.now in let s = c.args.self.now in
    let G : ℕ → Option GlyphOf = λ index. lookup index c.args.glyphs.now in
    let X : ℤ = to_z w32 (of_z w32 c.args.x) in let Y : ℤ = to_z w32 (of_z w32 c.args.y) in
    let e : to_z w32 (of_z w32 c.args.x) +ℤ pos 0 ≡ to_z w32 (of_z w32 c.args.x) = omega (arith, ints) in
    record {
      left = ap (λ (z : ℤ). drawn_within c.args.bounds (run_area G z Y (pairs_in run)) c.args.color s) e;
      far = omega arith;
    }

pub loop-k-preserved : goal.loop-k-preserved
loop-k-preserved c =
    let run = c.args.run.now in let k = c.loop-k.k in let cur = c.loop-k.self in let bounds = c.args.bounds in let color = c.args.color in
    let G : ℕ → Option GlyphOf = λ index. lookup index c.args.glyphs.now in
    let X : ℤ = to_z w32 (of_z w32 c.args.x) in let Y : ℤ = to_z w32 (of_z w32 c.args.y) in
    let at : ℤ = X +ℤ pos c.loop-k.moved in
    let pen : ℤ = X +ℤ pos (c.loop-k.moved + c.from-moved.result) in
    let n = get_or run (2 * k) 0 in let d = get_or run (2 * k + 1) 0 in
    let rest = pairs_in (drop (2 * k + 1 + 1) run) in
    let long : ℤ = to_z w64 (of_z w64 (to_z w64 (of_z w64 c.from.result) +ℤ to_z w64 (of_z w64 c.from-in-loop-k.result))) in
    let line : ℤ = to_z w64 (of_z w64 c.from-in-loop-k-2.result) in
    let e1 : (to_z w32 (of_z w32 c.args.x) +ℤ pos c.loop-k.moved) +ℤ pos (get_or run (2 * k + 1) 0) ≡ to_z w32 (of_z w32 c.args.x) +ℤ pos (c.loop-k.moved + c.from-moved.result) = omega (arith, ints, c.from-moved.ensures) in
    let e2 : to_z w64 (of_z w64 (to_z w64 (of_z w64 c.from.result) +ℤ to_z w64 (of_z w64 c.from-in-loop-k.result))) ≡ to_z w32 (of_z w32 c.args.x) +ℤ pos (c.loop-k.moved + c.from-moved.result) = omega (arith, ints, c.from.ensures, c.from-in-loop-k.ensures) in
    let e3 : to_z w64 (of_z w64 c.from-in-loop-k-2.result) ≡ to_z w32 (of_z w32 c.args.y) = omega (arith, ints, c.from-in-loop-k-2.ensures) in
    let e4 : 2 * (k + 1) ≡ 2 * k + 1 + 1 = omega arith in
    let made : c.write_number.new.self ≡ drawn_within bounds (glyph_area (G n) pen Y) color cur
    = c.write_number.ensures ∙ ap (λ (z : ℤ). drawn_within bounds (glyph_area (G n) z line) color cur) e2 ∙ ap (λ (z : ℤ). drawn_within bounds (glyph_area (G n) pen z) color cur) e3 in
    record {
      left = ap (λ (m : ℕ). drawn_within bounds (run_area G pen Y (pairs_in (drop m run))) color c.write_number.new.self) e4
          ∙ ap (λ (s : Pictures). drawn_within bounds (run_area G pen Y rest) color s) made
          ∙ subst (λ (z : ℤ). drawn_within bounds (run_area G z Y rest) color (drawn_within bounds (glyph_area (G n) z Y) color cur) ≡ drawn_within bounds (run_area G at Y ((n, d) ∷ rest)) color cur) e1
          (drawn_more bounds G at Y color (n, d) rest cur)
          ∙ ap (λ (ps : List (ℕ × ℕ)). drawn_within bounds (run_area G at Y ps) color cur) (sym (pairs_next run (2 * k) (omega arith)))
          ∙ c.loop-k.invariant.left;
      far = omega (arith, c.loop-k.invariant.far);
    }

pub returns : goal.returns
returns c = λ pairs h.
    let run = c.args.run.now in let k = c.loop-k.k in let cur = c.loop-k.self in let bounds = c.args.bounds in let color = c.args.color in let first = c.args.self.now in
    let G : ℕ → Option GlyphOf = λ index. lookup index c.args.glyphs.now in
    let X : ℤ = to_z w32 (of_z w32 c.args.x) in let Y : ℤ = to_z w32 (of_z w32 c.args.y) in
    let at : ℤ = X +ℤ pos c.loop-k.moved in
    let ex : to_z w32 (of_z w32 c.args.x) ≡ c.args.x = to_z-of_z w32 c.args.x c.ranges.x in
    let ey : to_z w32 (of_z w32 c.args.y) ≡ c.args.y = to_z-of_z w32 c.args.y c.ranges.y in
    sym (drawn_nowhere bounds color cur)
    ∙ ap (λ (ps : List (ℕ × ℕ)). drawn_within bounds (run_area G at Y ps) color cur) (sym (pairs_end run (2 * k) (omega arith)))
    ∙ c.loop-k.invariant.left
    ∙ ap (λ (z : ℤ). drawn_within bounds (run_area G z Y (pairs_in run)) color first) ex
    ∙ ap (λ (z : ℤ). drawn_within bounds (run_area G c.args.x z (pairs_in run)) color first) ey
    ∙ ap (λ (ps : List (ℕ × ℕ)). drawn_within bounds (run_area G c.args.x c.args.y ps) color first) (pairs_are run pairs h)
    ∙ written_is bounds G c.args.x c.args.y color pairs first
