use Rattle.std.proofs.Common.{◌≡◌, ◌*◌, ◌≤◌, drop, pos, ◌+ℤ◌}
use Rattle.draw_ops.specs.Formulas.{run_area}
use Rattle.draw_ops.specs.Slots.{lookup}
use Rattle.client_picture.specs.Bits.{pairs_in}
use Rattle.client_picture.specs.Pictures.{drawn_within}
use Rattle.client_picture.proofs.picture.ClientPicture.write_run.Given as goal

-- what is left of the run makes of the pictures what the whole run makes of the first ones, and the pen went no further than it may
abbrev pub invariant-loop-k : goal.invariant-loop-k
invariant-loop-k l = record {
  left : drawn_within l.fn.bounds (run_area (λ index. lookup index l.fn.glyphs) (l.fn.x +ℤ pos l.moved) l.fn.y (pairs_in (drop (2 * l.k) l.fn.run))) l.fn.color l.self
      ≡ drawn_within l.fn.bounds (run_area (λ index. lookup index l.fn.glyphs) l.fn.x l.fn.y (pairs_in l.fn.run)) l.fn.color l.initial.self;
  far : l.moved ≤ 255 * l.k;
}
