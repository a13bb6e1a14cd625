use Rattle.std.proofs.Common.{◌≡◌, ◌+◌, get_or, drop, ◌∙◌, subst, arith, rules, w32, to_z, of_z, pos, ◌+ℤ◌, ℤ}
use Rattle.std.proofs.lemmas.Int.{ints, to_z-of_z}
use Rattle.std.proofs.lemmas.List.{drop_more}
use Rattle.px_core.specs.Picture.{Area}
use Rattle.px_core.specs.Rectangle.{in_clip}
use Rattle.surface_parts.specs.Texts.{glyphs_held}
use Rattle.tile_surface.specs.Needed.{OwnsGlyph}
use Rattle.tile_surface.proofs.Owning.{stays_twice}
use Rattle.tile_surface.proofs.Penned.{glyph_still, run_of_parts}
use Rattle.tile_surface.proofs.texts.own_run.Goals as goal

pub own_code-requires-clause-pen : goal.own_code-requires-clause-pen
own_code-requires-clause-pen c = record {
  left = omega (arith, ints);
  right = omega (arith, ints);
  above = omega (arith, ints);
  below = omega (arith, ints);
}

pub loop-pair-preserved : goal.loop-pair-preserved
loop-pair-preserved c =
    let size = c.args.window.size in let s = c.args.script in let run = c.args.run.now in let i = c.loop-pair.pair-index in
    let old = c.args.cells.now in let cur = c.loop-pair.cells in let next = c.own_code.new.cells in
    let clip : Area = in_clip c.args.window.clip in
    let G = glyphs_held c.args.slots.now s.font in
    let p = get_or run i (0, 0) in
    let at : ℤ = s.x +ℤ pos c.loop-pair.moved in
    let pen : ℤ = s.x +ℤ pos (c.loop-pair.moved + c.from-moved.result) in
    let e1 : at +ℤ pos p.1 ≡ pen = omega (arith, ints, c.from-moved.ensures) in
    let e2 : to_z w32 (of_z w32 (to_z w32 (of_z w32 s.x) +ℤ to_z w32 (c.loop-pair.moved + c.from-moved.result))) ≡ pen = omega (arith, ints) in
    let e3 : to_z w32 (of_z w32 s.y) ≡ s.y = search (rules, to_z-of_z) in
    let glyph : OwnsGlyph size next clip (G p.0) pen s.y
    = subst (λ (z : ℤ). OwnsGlyph size next clip (G p.0) pen z) e3 (subst (λ (z : ℤ). OwnsGlyph size next clip (G p.0) z (to_z w32 (of_z w32 s.y))) e2 c.in_ok-own_code.ensures.own) in
    record {
      same = c.in_ok-own_code.ensures.same ∙ c.loop-pair.invariant.same;
      stays = stays_twice old cur next c.loop-pair.invariant.stays c.in_ok-own_code.ensures.stays;
      own = λ new stays others. c.loop-pair.invariant.own new (stays_twice cur next new c.in_ok-own_code.ensures.stays stays)
          (run_of_parts size clip G s.y new at pen (drop i run) (drop (i + 1) run) p (drop_more run i (0, 0) (omega arith)) e1 (glyph_still size clip G s.y next new (G p.0) pen stays glyph) others);
      far = omega (arith, c.loop-pair.invariant.far);
    }
