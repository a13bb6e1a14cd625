use Rattle.std.proofs.Common.{◌-◌, ◌≤◌, ◌<◌, refl, ap, arith}
use Rattle.std.proofs.lemmas.Bool.Decides.{nat_tests}
use Rattle.surface_parts.proofs.Repaint.{no_rows, all_rows, untouched}
use Rattle.tile_surface.specs.Cells.{picture_of}
use Rattle.tile_surface.specs.Dyes.{dyed}
use Rattle.tile_surface.proofs.Owning.{keeps_self, keeps_twice}
use Rattle.tile_surface.proofs.Writings.{part_below_more}
use Rattle.tile_surface.proofs.walk.dye_part.Goals as goal

pub loop-done-init : goal.loop-done-init
loop-done-init g c = let p = c.args.part in let old = picture_of c.args.size c.args.cells.now in record {
  painted = no_rows c.args.size p.x p.y p.w 0 (dyed (g.D.Dye.color c.args.dye.now p) c.args.size old) old refl;
  kept = keeps_self c.args.size c.args.cells.now;
  within = omega arith;
}

pub dye_band-requires-clause-band : goal.dye_band-requires-clause-band
dye_band-requires-clause-band g c = record {
  left = refl;
  wide = refl;
  top = omega arith;
  bottom = omega (arith, c.min-h.ensures, c.loop-done-test.true);
}

pub loop-done-preserved : goal.loop-done-preserved
loop-done-preserved g c =
    let size = c.args.size in let p = c.args.part in let color = g.D.Dye.color c.args.dye.now p in let done = c.loop-done.done in let n = c.min-h.result in
    let old = picture_of size c.args.cells.now in let cur = picture_of size c.loop-done.cells in
    let left : done < p.h = c.loop-done-test.true in
    let short : n ≤ p.h - done = omega (arith, c.min-h.ensures) in
    record {
      painted = part_below_more size p.x p.y p.w done n (dyed color size old) (dyed color size cur) old cur (picture_of size c.dye_band.new.cells)
          c.loop-done.invariant.painted c.dye_band.ensures.painted
          (λ u v wide high low more top bottom. ap (color u v) (untouched size p.x p.y p.w done (dyed color size old) old cur u v c.loop-done.invariant.painted wide high (grind (arith, nat_tests, top))));
      kept = keeps_twice size c.args.cells.now c.loop-done.cells c.dye_band.new.cells c.loop-done.invariant.kept c.dye_band.ensures.kept;
      within = omega (arith, short, left);
    }

pub returns-clause-painted : goal.returns-clause-painted
returns-clause-painted g c = let p = c.args.part in let old = picture_of c.args.size c.args.cells.now in
    all_rows c.args.size p.x p.y p.w c.loop-done.done p.h (dyed (g.D.Dye.color c.args.dye.now p) c.args.size old) old (picture_of c.args.size c.loop-done.cells) (omega (arith, c.loop-done.invariant.within)) c.loop-done.invariant.painted
