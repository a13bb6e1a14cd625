use Rattle.std.proofs.Common.{ℕ, List, length, ap, sym, subst, ◌∙◌, arith}
use Rattle.std.proofs.lemmas.List.{length-replicate}
use Rattle.draw_ops.specs.Slots.{SurfaceState}
use Rattle.surface_parts.specs.Surfaces.{IsSoundSurface}
use Rattle.surface_parts.proofs.Sound.{opening_is, opening_is_sound}
use Rattle.tile_surface.specs.declared.cell.Cell.{Cell}
use Rattle.tile_surface.specs.declared.cell.Cell.TheVariants.{Blank}
use Rattle.tile_surface.specs.Cells.{picture_of}
use Rattle.tile_surface.proofs.Lending.{blank_is_black, blank_picture}
use Rattle.tile_surface.proofs.tiles.Tiles.new.Goals as goal

pub returns-clause-state : goal.returns-clause-state
returns-clause-state c = let size = c.args.size in let cells = c.in_ok-cells.cells.items in
    opening_is size (picture_of size cells) c.in_ok-slots.slots (blank_picture size cells 1024 c.in_ok-cells.ensures) c.in_ok-slots.ensures.images c.in_ok-slots.ensures.brushes c.in_ok-slots.ensures.glyphs c.in_ok-slots.ensures.blocks

pub invariant_of-result : goal.invariant_of-result
invariant_of-result c = let size = c.args.size in let cells = c.in_ok-cells.cells.items in
    let is = opening_is size (picture_of size cells) c.in_ok-slots.slots (blank_picture size cells 1024 c.in_ok-cells.ensures) c.in_ok-slots.ensures.images c.in_ok-slots.ensures.brushes c.in_ok-slots.ensures.glyphs c.in_ok-slots.ensures.blocks in (
      subst (λ (s : SurfaceState). IsSoundSurface size s) (sym is) (opening_is_sound size c.requires),
      ap (λ (cs : List Cell). length cs) c.in_ok-cells.ensures ∙ length-replicate 1024 Blank,
      blank_is_black size cells 1024 c.in_ok-cells.ensures,
      omega (arith, ap (λ (ps : List ℕ). length ps) c.in_ok-pattern.ensures, length-replicate {A = ℕ} 2048 0),
      omega (arith, ap (λ (ps : List ℕ). length ps) c.in_ok-source.ensures, length-replicate {A = ℕ} 2048 0),
    )
