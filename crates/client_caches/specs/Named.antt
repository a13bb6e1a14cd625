-- Drawings as the code names them.
use Rattle.std.specs.Prelude.{◌≡◌, ℕ, ◌+◌, true, ℤ, List, Option, Some, None}
use Rattle.px_core.specs.declared.rectangle.Rect.{Rect}
use Rattle.order_fields.specs.OrderTable.{IsBelow, fits_coordinate}
use Rattle.order_fields.specs.NamedDrawing.{NamedDrawing, value}
use Rattle.order_fields.specs.NamedDrawing.NamedDrawing.{Dst, Pat, Scr, Opaque, SaveBlock, RestoreBlock, Mem, Mem3, Glyphs}
use Rattle.client_caches.specs.declared.named.Named.{Named}
use Rattle.client_caches.specs.declared.named.Named.TheVariants as named

-- a drawing; a run of glyphs is its counted bytes
abbrev pub drawing : List ℕ → Named → NamedDrawing
drawing run (named.Dst rect code) = Dst rect code
drawing run (named.Pat rect code entry) = Pat rect code entry
drawing run (named.Scr rect code sx sy) = Scr rect code sx sy
drawing run (named.Opaque rect color) = Opaque rect color
drawing run (named.Save position rect) = SaveBlock position rect
drawing run (named.Restore position rect) = RestoreBlock position rect
drawing run (named.Mem cache index rect code sx sy) = Mem cache index rect code sx sy
drawing run (named.Mem3 cache index rect code sx sy entry) = Mem3 cache index rect code sx sy entry
drawing run (named.Glyphs cache x y color) = Glyphs cache x y color run

abbrev pub optional_drawing : List ℕ → Option Named → Option NamedDrawing
optional_drawing run None = None
optional_drawing run (Some n) = Some (drawing run n)

-- a fill by its rectangle and its colour
abbrev pub optional_fill : Option (Rect × ℕ) → Option NamedDrawing
optional_fill None = None
optional_fill (Some p) = Some (Opaque p.0 p.1)

abbrev pub fill_of_drawing : NamedDrawing → Option (Rect × ℕ)
fill_of_drawing (Dst rect code) = None
fill_of_drawing (Pat rect code entry) = None
fill_of_drawing (Scr rect code sx sy) = None
fill_of_drawing (Opaque rect color) = Some (rect, color)
fill_of_drawing (SaveBlock position rect) = None
fill_of_drawing (RestoreBlock position rect) = None
fill_of_drawing (Mem cache index rect code sx sy) = None
fill_of_drawing (Mem3 cache index rect code sx sy entry) = None
fill_of_drawing (Glyphs cache x y color run) = None

-- the rectangle and the colour of a drawing, where there is one and it is a fill
abbrev pub fill_in : Option NamedDrawing → Option (Rect × ℕ)
fill_in None = None
fill_in (Some d) = fill_of_drawing d

-- the values at these places have two bytes, signed
abbrev pub FitsAt : List ℤ → ℕ → Type 0
FitsAt vs place = fits_coordinate (value vs place) ≡ true

-- left, top, width and height, or right and bottom, from a place on
pub record FitBox (vs : List ℤ) (place : ℕ) : Type 0 where
  pub first : FitsAt vs place
  pub second : FitsAt vs (1 + place)
  pub third : FitsAt vs (2 + place)
  pub fourth : FitsAt vs (3 + place)

-- the value at a place is a number of so many bytes
abbrev pub IsNumberAt : ℕ → List ℤ → ℕ → Type 0
IsNumberAt limit vs place = IsBelow limit (value vs place)
