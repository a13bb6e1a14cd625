-- The rows, and the frame, that were painted since the last mark.
use Rattle.std.specs.Prelude.{◌≡◌, ℕ, ◌<◌, ◌≤◌, Bool, false, pos, List, length, get_or, Option, None}
use Rattle.px_core.specs.declared.surface.Size.{Size}
use Rattle.px_core.specs.Picture.{Area, pixel_count, pixel_at}
use Rattle.client_picture.specs.declared.part.Part.{Part}
use Rattle.client_picture.specs.declared.frame.Frame.{Frame}
use Rattle.client_picture.specs.Parts.{in_frame, in_optional_part, IsSmall, LiesOn}

-- there is a flag for each row; where one isn't set, the row is the same in both pictures
pub record AreTouched (size : Size) (touched : List Bool) (picture marked : List (Option ℕ)) : Type 0 where
  pub flags : length touched ≡ size.h
  pub same : (x y : ℕ) → x < size.w → y < size.h → get_or touched y false ≡ false → pixel_at size picture None x y ≡ pixel_at size marked None x y

-- beside a frame both pictures are the same
abbrev pub AreSameBeside : Size → Frame → List (Option ℕ) → List (Option ℕ) → Type 0
AreSameBeside size frame picture marked = (x y : ℕ) → x < size.w → y < size.h → in_frame frame x y ≡ false
    → pixel_at size picture None x y ≡ pixel_at size marked None x y

-- two pictures of one size, and the rows and the frame in which they may differ
pub record AreKept (size : Size) (touched : List Bool) (frame : Frame) (picture marked : List (Option ℕ)) : Type 0 where
  pub small : IsSmall size
  pub sized : length picture ≡ pixel_count size
  pub marked_sized : length marked ≡ pixel_count size
  pub rows : AreTouched size touched picture marked
  pub within : LiesOn size frame
  pub beside : AreSameBeside size frame picture marked

-- a frame was widened by an area: beside the new one no pixel is in the old one, nor in the area
pub record Widens (size : Size) (area : Area) (old new : Frame) : Type 0 where
  pub within : LiesOn size old → LiesOn size new
  pub beside : (x y : ℕ) → x < size.w → y < size.h → in_frame new x y ≡ false → (in_frame old x y ≡ false) × (area (pos x) (pos y) ≡ false)

-- the rows of an area were added: where a flag isn't set, it wasn't before, and the row has no pixel of the area
pub record AddsRows (size : Size) (area : Area) (old new : List Bool) : Type 0 where
  pub flags : length new ≡ length old
  pub rows : (y : ℕ) → y < size.h → get_or new y false ≡ false → (get_or old y false ≡ false) × ((x : ℕ) → x < size.w → area (pos x) (pos y) ≡ false)

-- the rows of a part were added
pub record AddsPart (part : Option Part) (old new : List Bool) : Type 0 where
  pub flags : length new ≡ length old
  pub rows : (y : ℕ) → get_or new y false ≡ false → (get_or old y false ≡ false) × ((x : ℕ) → in_optional_part part x y ≡ false)

-- the rows of the marked picture before row n are the picture's, and the others and their flags are as they were
pub record AreCopied (size : Size) (picture first : List (Option ℕ)) (flags : List Bool) (n : ℕ) (touched : List Bool) (marked : List (Option ℕ)) : Type 0 where
  pub done : (x y : ℕ) → x < size.w → y < size.h → y < n → pixel_at size marked None x y ≡ pixel_at size picture None x y
  pub rest : (x y : ℕ) → x < size.w → y < size.h → n ≤ y → pixel_at size marked None x y ≡ pixel_at size first None x y
  pub unread : (y : ℕ) → n ≤ y → get_or touched y false ≡ get_or flags y false
