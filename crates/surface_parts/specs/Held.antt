-- What the slots of a surface hold, and what a drawing puts into them.
use Rattle.std.specs.Prelude.{◌≡◌, ℕ, ◌+◌, ◌*◌, ◌≤◌, List, [], ◌∷◌, length, Option, None, IfSome, IsTrue}
use Rattle.px_core.specs.declared.rectangle.Rect.{Rect}
use Rattle.px_core.specs.declared.surface.Size.{Size}
use Rattle.px_core.specs.Rectangle.{boxed, cut_out, is_inside, IsPlaced}
use Rattle.draw_ops.specs.declared.shape.Drawing.{Drawing}
use Rattle.draw_ops.specs.declared.shape.Shape.{Shape}
use Rattle.draw_ops.specs.declared.shape.Shape.TheVariants.{Fill, Dst, Pat, Copy, Blit, Blit3, Text, Line, Save, Restore, LoadImage, LoadBrush, LoadGlyph}
use Rattle.draw_ops.specs.Content.{ImageOf, GlyphOf}
use Rattle.draw_ops.specs.Slots.{SurfaceState, Slots, Loaded, lookup, filled_slot, glyph_slot}
use Rattle.draw_ops.specs.Fits.{clip_rule, line_rule}
use Rattle.draw_ops.specs.Drawing.{content_of, loaded, block_of, slots_after}
use Rattle.surface_parts.specs.Textures.{HasSource, IsRestorable}
use Rattle.surface_parts.specs.Pens.{IsPenAtStart}
use Rattle.surface_parts.specs.declared.room.Room.{Room}
use Rattle.surface_parts.specs.declared.room.Room.TheVariants.{Nothing, Image, Brush, Glyph, Block}

-- what all slots hold
pub record Held : Type 0 where
  pub images : Slots (Loaded ImageOf)
  pub brushes : Slots (Loaded (List ℕ))
  pub glyphs : Slots (Loaded GlyphOf)
  pub blocks : Slots ImageOf

-- the state of a surface with this picture, these slots and so many drawings
abbrev pub state_of : List ℕ → Held → ℕ → SurfaceState
state_of picture held count = record { picture = picture; images = held.images; brushes = held.brushes; glyphs = held.glyphs; blocks = held.blocks; count = count }

abbrev pub held_in : SurfaceState → Held
held_in st = record { images = st.images; brushes = st.brushes; glyphs = st.glyphs; blocks = st.blocks }

-- the state after what a drawing loads or saves is in its slot; a glyph was numbered before
abbrev pub state_filled : Size → SurfaceState → Room → SurfaceState
state_filled size st Nothing = st
state_filled size st (Image slot image) = record st { images = filled_slot slot (loaded st image) st.images }
state_filled size st (Brush slot brush) = record st { brushes = filled_slot slot (loaded st brush) st.brushes }
state_filled size st (Glyph font code glyph) = record st { glyphs = filled_slot (glyph_slot font code) glyph st.glyphs }
state_filled size st (Block slot rect block) = record st { blocks = filled_slot slot (block_of size st rect) st.blocks }

-- a block has the sides of its rectangle and room for its pixels
abbrev pub HasBlockRoom : Room → Type 0
HasBlockRoom Nothing = Unit {0}
HasBlockRoom (Image slot image) = Unit {0}
HasBlockRoom (Brush slot brush) = Unit {0}
HasBlockRoom (Glyph font code glyph) = Unit {0}
HasBlockRoom (Block slot rect block) = (block.w ≡ rect.w) × (block.h ≡ rect.h) × (length block.pixels ≡ rect.w * rect.h)

-- a block is what its rectangle has on a picture
abbrev pub HasSaved : Size → List ℕ → Room → Type 0
HasSaved size picture Nothing = Unit {0}
HasSaved size picture (Image slot image) = Unit {0}
HasSaved size picture (Brush slot brush) = Unit {0}
HasSaved size picture (Glyph font code glyph) = Unit {0}
HasSaved size picture (Block slot rect block) = block ≡ record { w = rect.w; h = rect.h; pixels = cut_out size picture 0 rect }

-- a saved rectangle lies inside the picture
abbrev pub IsSavedInside : Size → Room → Type 0
IsSavedInside size Nothing = Unit {0}
IsSavedInside size (Image slot image) = Unit {0}
IsSavedInside size (Brush slot brush) = Unit {0}
IsSavedInside size (Glyph font code glyph) = Unit {0}
IsSavedInside size (Block slot rect block) = IsTrue (is_inside size rect)

-- a saved rectangle is no larger than a session's picture
abbrev pub IsSmallSave : Shape → Type 0
IsSmallSave (Fill r color) = Unit {0}
IsSmallSave (Dst r code) = Unit {0}
IsSmallSave (Pat r code brush) = Unit {0}
IsSmallSave (Copy r code sx sy) = Unit {0}
IsSmallSave (Blit r code image sx sy) = Unit {0}
IsSmallSave (Blit3 r code image sx sy brush) = Unit {0}
IsSmallSave (Text x y color font run) = Unit {0}
IsSmallSave (Line x0 y0 x1 y1 color) = Unit {0}
IsSmallSave (Save slot r) = (r.w ≤ 2048) × (r.h ≤ 2048)
IsSmallSave (Restore slot x y) = Unit {0}
IsSmallSave (LoadImage slot image) = Unit {0}
IsSmallSave (LoadBrush slot brush) = Unit {0}
IsSmallSave (LoadGlyph font code glyph) = Unit {0}

-- a rectangle and a clip that a drawing may have
pub record IsDrawn (size : Size) (clip : Option Rect) (r : Rect) : Type 0 where
  pub placed : IsPlaced r
  pub clipped : clip_rule size clip ≡ None

-- what a shape needs so that it can be painted
abbrev pub IsPaintable : Size → Held → Option Rect → Shape → Type 0
IsPaintable size held clip (Fill r color) = IsDrawn size clip r
IsPaintable size held clip (Dst r code) = IsDrawn size clip r
IsPaintable size held clip (Pat r code brush) = IsDrawn size clip r
IsPaintable size held clip (Copy r code sx sy) = IsDrawn size clip r × IsTrue (is_inside size (boxed sx sy r.w r.h))
IsPaintable size held clip (Blit r code image sx sy) = IsDrawn size clip r × IfSome (content_of (lookup image held.images)) (HasSource r sx sy)
IsPaintable size held clip (Blit3 r code image sx sy brush) = IsDrawn size clip r × IfSome (content_of (lookup image held.images)) (HasSource r sx sy)
IsPaintable size held clip (Text x y color font run) = (clip_rule size clip ≡ None) × IsPenAtStart x y × (length run ≤ 64)
IsPaintable size held clip (Line x0 y0 x1 y1 color) = (clip_rule size clip ≡ None) × (line_rule x0 y0 x1 y1 ≡ None)
IsPaintable size held clip (Save slot r) = Unit {0}
IsPaintable size held clip (Restore slot x y) = (clip_rule size clip ≡ None) × IfSome (lookup slot held.blocks) (IsRestorable size x y)
IsPaintable size held clip (LoadImage slot image) = Unit {0}
IsPaintable size held clip (LoadBrush slot brush) = Unit {0}
IsPaintable size held clip (LoadGlyph font code glyph) = Unit {0}

-- a save's rectangle lies inside the picture
abbrev pub IsSaveInside : Size → Shape → Type 0
IsSaveInside size (Fill r color) = Unit {0}
IsSaveInside size (Dst r code) = Unit {0}
IsSaveInside size (Pat r code brush) = Unit {0}
IsSaveInside size (Copy r code sx sy) = Unit {0}
IsSaveInside size (Blit r code image sx sy) = Unit {0}
IsSaveInside size (Blit3 r code image sx sy brush) = Unit {0}
IsSaveInside size (Text x y color font run) = Unit {0}
IsSaveInside size (Line x0 y0 x1 y1 color) = Unit {0}
IsSaveInside size (Save slot r) = IsTrue (is_inside size r)
IsSaveInside size (Restore slot x y) = Unit {0}
IsSaveInside size (LoadImage slot image) = Unit {0}
IsSaveInside size (LoadBrush slot brush) = Unit {0}
IsSaveInside size (LoadGlyph font code glyph) = Unit {0}

-- what was made ready is what a shape loads or saves as the drawing behind so many, whatever else the state is
pub record IsRoomFor (count : ℕ) (shape : Shape) (room : Room) : Type 0 where
  pub fills : (size : Size) (st : SurfaceState) → st.count ≡ count → state_filled size st room ≡ slots_after size st shape
  pub block : HasBlockRoom room
  pub inside : (size : Size) → IsSaveInside size shape → IsSavedInside size room

-- each of these was made ready for the drawing at its place, of which the first is the one behind so many
abbrev pub AreRooms : ℕ → List Drawing → List Room → Type 0
AreRooms count [] [] = Unit {0}
AreRooms count [] (room ∷ rooms) = ⊥
AreRooms count (d ∷ ds) [] = ⊥
AreRooms count (d ∷ ds) (room ∷ rooms) = IsRoomFor count d.shape room × AreRooms (count + 1) ds rooms
