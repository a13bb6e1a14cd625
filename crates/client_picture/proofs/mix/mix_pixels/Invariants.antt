use Rattle.std.proofs.Common.{◌≡◌, ℕ, ◌+◌, ◌<◌, ◌≤◌, get_or, pos}
use Rattle.std.specs.Prelude.{Some, None, option_copied}
use Rattle.draw_ops.specs.Depths.{maybe_raster_at}
use Rattle.client_picture.specs.Pictures.{brush_operand}
use Rattle.client_picture.specs.Sources.{source_color}
use Rattle.client_picture.proofs.mix.mix_pixels.Given as goal

-- the places so far are mixed, and the others as they were
abbrev pub invariant-loop-k : goal.invariant-loop-k
invariant-loop-k l =
    ((j : ℕ) → j < l.k → get_or l.row j None ≡ maybe_raster_at l.depth l.mix.rop (brush_operand (option_copied l.mix.brush) (pos (l.part.x + j)) (pos l.y)) (Some (source_color l.part l.mix.texture (l.part.x + j) l.y)) (get_or l.initial.row j None))
    × ((j : ℕ) → l.k ≤ j → get_or l.row j None ≡ get_or l.initial.row j None)
