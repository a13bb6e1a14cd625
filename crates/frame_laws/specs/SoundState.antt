-- What holds of every state of a legal journal: its picture is of colours, and each slot holds what a load or a save put there.
use Rattle.std.specs.Prelude.{◌≡◌, ℕ, ◌+◌, ◌*◌, ◌/◌, ◌<◌, ◌≤◌, true, List, length, Some}
use Rattle.px_core.specs.declared.surface.Size.{Size}
use Rattle.draw_ops.specs.Content.{ImageOf, GlyphOf}
use Rattle.draw_ops.specs.Slots.{SurfaceState, Loaded, lookup}
use Rattle.draw_ops.specs.Fits.{is_offset}
use Rattle.session_rules.specs.declared.entry.Entry.{Entry}
use Rattle.session_rules.specs.Agreement.{IsSurfaceOf}
use Rattle.frame_rules.specs.Describes.{image_loaded, brush_loaded, glyph_loaded}
use Rattle.frame_laws.specs.Sound.{AreColors, IsSoundImage}

-- an image that the drawing of its number loaded
pub record IsLoadedImage (size : Size) (j : List Entry) (image : Loaded ImageOf) : Type 0 where
  pub sound : IsSoundImage image.content
  pub loaded : image_loaded size j image.number ≡ Some image.content

-- a brush of 64 colours that the drawing of its number loaded
pub record IsLoadedBrush (size : Size) (j : List Entry) (brush : Loaded (List ℕ)) : Type 0 where
  pub whole : length brush.content ≡ 64
  pub colors : AreColors brush.content
  pub loaded : brush_loaded size j brush.number ≡ Some brush.content

-- a glyph that a slot may hold
pub record IsSoundGlyph (glyph : GlyphOf) : Type 0 where
  pub some_columns : 0 < glyph.cx
  pub few_columns : glyph.cx ≤ 32
  pub some_rows : 0 < glyph.cy
  pub few_rows : glyph.cy ≤ 32
  pub left : is_offset glyph.x ≡ true
  pub above : is_offset glyph.y ≡ true
  pub whole : length glyph.bits ≡ (glyph.cx + 7) / 8 * glyph.cy

-- a glyph that the drawing of its number loaded
pub record IsLoadedGlyph (size : Size) (j : List Entry) (glyph : Loaded GlyphOf) : Type 0 where
  pub sound : IsSoundGlyph glyph.content
  pub loaded : glyph_loaded size j glyph.number ≡ Some glyph.content

-- a block of saved pixels
pub record IsSoundBlock (block : ImageOf) : Type 0 where
  pub some_columns : 0 < block.w
  pub few_columns : block.w ≤ 2048
  pub some_rows : 0 < block.h
  pub few_rows : block.h ≤ 2048
  pub whole : length block.pixels ≡ block.w * block.h
  pub colors : AreColors block.pixels

-- a state of a session: all its slots are there, its pixels are colours, and whatever a slot holds is sound and was loaded by the journal's drawing of its
-- number
pub record IsSound (size : Size) (j : List Entry) (st : SurfaceState) : Type 0 where
  pub sized : IsSurfaceOf size st
  pub colors : AreColors st.picture
  pub images : (slot : ℕ) (image : Loaded ImageOf) → lookup slot st.images ≡ Some image → IsLoadedImage size j image
  pub brushes : (slot : ℕ) (brush : Loaded (List ℕ)) → lookup slot st.brushes ≡ Some brush → IsLoadedBrush size j brush
  pub glyphs : (slot : ℕ) (glyph : Loaded GlyphOf) → lookup slot st.glyphs ≡ Some glyph → IsLoadedGlyph size j glyph
  pub blocks : (slot : ℕ) (block : ImageOf) → lookup slot st.blocks ≡ Some block → IsSoundBlock block
