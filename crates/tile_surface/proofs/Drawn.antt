-- Surfaces whose tiles became their own, and surfaces after a drawing.
use Rattle.std.proofs.Common.{◌≡◌, ℕ, ◌+◌, List, map, ap, sym, subst, ◌∙◌}
use Rattle.std.specs.Prelude.{Result, Ok, Err, OnErr}
use Rattle.px_core.specs.declared.surface.Size.{Size}
use Rattle.draw_ops.specs.declared.shape.Drawing.{Drawing}
use Rattle.draw_ops.specs.Drawing.{state_after_drawing}
use Rattle.surface_parts.specs.Held.{Held, state_of}
use Rattle.surface_parts.specs.Surfaces.{IsSoundSurface}
use Rattle.tile_surface.specs.declared.cell.Cell.{Cell}
use Rattle.tile_surface.specs.Cells.{cell_pixels, picture_of}
use Rattle.tile_surface.proofs.Tiled.{same_picture}

-- a surface of the same colours
pub sound_same : (size : Size) (old new : List Cell) (held : Held) (count : ℕ) → map cell_pixels new ≡ map cell_pixels old → IsSoundSurface size (state_of (picture_of size old) held count)
    → IsSoundSurface size (state_of (picture_of size new) held count)
sound_same size old new held count same is = subst (λ (ps : List ℕ). IsSoundSurface size (state_of ps held count)) (sym (same_picture size old new same)) is

-- what is drawn on tiles of the same colours
pub drawn_same : (size : Size) (old owned new : List Cell) (before after : Held) (count : ℕ) (d : Drawing) → map cell_pixels owned ≡ map cell_pixels old
    → state_of (picture_of size new) after (count + 1) ≡ state_after_drawing size (state_of (picture_of size owned) before count) d
    → state_of (picture_of size new) after (count + 1) ≡ state_after_drawing size (state_of (picture_of size old) before count) d
drawn_same size old owned new before after count d same drawn = drawn ∙ ap (λ (ps : List ℕ). state_after_drawing size (state_of ps before count) d) (same_picture size old owned same)

-- what holds anyway
pub on_err : {T E P : Type 0} (r : Result T E) → P → OnErr r P
on_err (Ok x) p = tt
on_err (Err e) p = p
