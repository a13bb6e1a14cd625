use Rattle.std.proofs.Common.{◌≡◌, ℕ, ◌+◌, ◌-◌, ◌≤◌, ◌<◌, refl, ap, subst, arith}
use Rattle.px_core.specs.Picture.{pixel_at}
use Rattle.surface_parts.specs.Parts.{in_part, part_at, IsRepainted}
use Rattle.surface_parts.proofs.Repaint.{no_rows, all_rows}
use Rattle.tile_surface.specs.Cells.{picture_of}
use Rattle.tile_surface.specs.Rows.{cut_color, sides_of}
use Rattle.tile_surface.proofs.Writings.{part_below_more}
use Rattle.tile_surface.proofs.cuts.cut_part.Goals as goal

pub loop-done-init : goal.loop-done-init
loop-done-init c = let p = c.args.part in record {
  painted = no_rows (sides_of p) 0 0 p.w 0 (cut_color c.args.size (picture_of c.args.size c.args.cells.now) p) c.args.out.now refl;
  within = omega arith;
}

pub loop-done-preserved : goal.loop-done-preserved
loop-done-preserved c =
    let size = c.args.size in let p = c.args.part in let done = c.loop-done.done in let n = c.min-h.result in let pic = picture_of size c.args.cells.now in
    let left : done < p.h = c.loop-done-test.true in
    let short : n ≤ p.h - done = omega (arith, c.min-h.ensures) in
    let at : done ≡ 0 + done = omega arith in
    let g : ℕ → ℕ → ℕ = λ u v. pixel_at size pic 0 (p.x + u) ((p.y + done) + (v - done)) in
    record {
      painted = part_below_more (sides_of p) 0 0 p.w done n (cut_color size pic p) g c.args.out.now c.loop-done.out c.cut_band.new.out c.loop-done.invariant.painted
          (subst (λ (k : ℕ). IsRepainted (sides_of p) (in_part (part_at 0 k p.w n)) g c.loop-done.out c.cut_band.new.out) at c.cut_band.ensures)
          (λ u v wide high low more top bottom. let place : (p.y + done) + (v - done) ≡ p.y + v = omega (arith, top) in ap (λ k. pixel_at size pic 0 (p.x + u) k) place);
      within = omega (arith, short, left);
    }

pub returns : goal.returns
returns c = let p = c.args.part in
    all_rows (sides_of p) 0 0 p.w c.loop-done.done p.h (cut_color c.args.size (picture_of c.args.size c.args.cells.now) p) c.args.out.now c.loop-done.out (omega (arith, c.loop-done.invariant.within)) c.loop-done.invariant.painted
