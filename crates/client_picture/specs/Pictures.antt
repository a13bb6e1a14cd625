-- What a client's picture is seen as, and what becomes of it.
use Rattle.std.specs.Prelude.{◌≡◌, ℕ, ◌*◌, IsTrue, List, length, replicate, Option, Some, None}
use Rattle.px_core.specs.declared.surface.Size.{Size}
use Rattle.px_core.specs.declared.depth.Depth.{Depth}
use Rattle.px_core.specs.declared.rectangle.Rect.{Rect}
use Rattle.px_core.specs.Picture.{pixel_count, rows_of, Area, both, painted}
use Rattle.px_core.specs.Rectangle.{is_inside, in_clip}
use Rattle.rop3_core.specs.Palette.{client_colors}
use Rattle.draw_ops.specs.Formulas.{Operand, solid, absent, brushed, imaged, Painting, picture_after}
use Rattle.order_means.specs.ClientState.{source_rect}
use Rattle.client_picture.specs.declared.source.Source.{Source}

-- a client's depth and its sides, which never change, its picture, and the picture that it had at its last mark; pixels may be unknown
pub record Pictures : Type 0 where
  pub depth : Depth
  pub size : Size
  pub picture : List (Option ℕ)
  pub marked : List (Option ℕ)

-- at first all pixels are unknown
abbrev pub unknown_picture : Size → List (Option ℕ)
unknown_picture size = replicate (pixel_count size) None

abbrev pub first_pictures : Depth → Size → Pictures
first_pictures depth size = record { depth = depth; size = size; picture = unknown_picture size; marked = unknown_picture size }

-- the pictures after a painting within a clip
abbrev pub painted_within : Option Rect → Painting (Option ℕ) → Pictures → Pictures
painted_within clip p s = record s { picture = picture_after s.size (in_clip clip) p s.picture }

-- the pictures after an area within a clip was drawn in one colour
abbrev pub drawn_within : Option Rect → Area → ℕ → Pictures → Pictures
drawn_within clip area color s = record s { picture = painted s.size (both (in_clip clip) area) (solid client_colors color) s.picture }

-- the pictures after a mark
abbrev pub marked_now : Pictures → Pictures
marked_now s = record s { marked = s.picture }

-- ---- operands that may be missing, which count as 0 then

abbrev pub brush_operand : Option (List ℕ) → Operand (Option ℕ)
brush_operand None = absent client_colors
brush_operand (Some brush) = brushed client_colors brush

-- the rows of a source's image
abbrev pub source_rows : Source → List (List ℕ)
source_rows s = rows_of s.w s.h s.pixels.now

abbrev pub source_operand : Rect → Option Source → Operand (Option ℕ)
source_operand r None = absent client_colors
source_operand r (Some s) = imaged client_colors (source_rows s) r s.sx s.sy

-- an image has its colours, and the source of a rectangle lies inside it
pub record HasSource (r : Rect) (s : Source) : Type 0 where
  pub whole : length s.pixels.now ≡ s.w * s.h
  pub inside : IsTrue (is_inside (record { w = s.w; h = s.h }) (source_rect r s.sx s.sy))
