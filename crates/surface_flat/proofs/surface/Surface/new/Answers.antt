use Rattle.std.proofs.Common.{ℕ, List, length, ap, sym, subst, arith}
use Rattle.std.proofs.lemmas.List.{length-replicate}
use Rattle.draw_ops.specs.Slots.{SurfaceState}
use Rattle.surface_parts.specs.Surfaces.{IsSoundSurface}
use Rattle.surface_parts.proofs.Sound.{opening_is, opening_is_sound}
use Rattle.surface_flat.proofs.surface.Surface.new.Goals as goal

pub returns-clause-state : goal.returns-clause-state
returns-clause-state c = opening_is c.args.size c.in_ok-pixels.pixels.items c.in_ok-slots.slots c.in_ok-pixels.ensures c.in_ok-slots.ensures.images c.in_ok-slots.ensures.brushes c.in_ok-slots.ensures.glyphs c.in_ok-slots.ensures.blocks

pub invariant_of-result : goal.invariant_of-result
invariant_of-result c = let is = opening_is c.args.size c.in_ok-pixels.pixels.items c.in_ok-slots.slots c.in_ok-pixels.ensures c.in_ok-slots.ensures.images c.in_ok-slots.ensures.brushes c.in_ok-slots.ensures.glyphs c.in_ok-slots.ensures.blocks in (
  subst (λ (s : SurfaceState). IsSoundSurface c.args.size s) (sym is) (opening_is_sound c.args.size c.requires),
  omega (arith, ap (λ (ps : List ℕ). length ps) c.in_ok-pattern.ensures, length-replicate {A = ℕ} 2048 0),
  omega (arith, ap (λ (ps : List ℕ). length ps) c.in_ok-source.ensures, length-replicate {A = ℕ} 2048 0),
)
