-- What a surface is seen as, and what holds of every surface.
use Rattle.std.specs.Prelude.{◌≡◌, ℕ, ◌*◌, IsTrue, length, Some, None}
use Rattle.px_core.specs.declared.surface.Size.{Size}
use Rattle.px_core.specs.Picture.{pixel_count}
use Rattle.px_core.specs.Rectangle.{is_session_size}
use Rattle.draw_ops.specs.Slots.{SurfaceState, Slots, lookup}
use Rattle.draw_ops.specs.StateColors.{StateHasColors}
use Rattle.draw_ops.specs.Fits.{image_rule, glyph_rule}

-- a surface: its sides, which never change, and its state
pub record SurfaceOf : Type 0 where
  pub size : Size
  pub state : SurfaceState

-- a fact holds of whatever is in a slot
abbrev pub AllInSlots : {A : Type 0} → (A → Type 0) → Slots A → Type 0
AllInSlots {A} Fact slots = (slot : ℕ) (x : A) → lookup slot slots ≡ Some x → Fact x

-- what holds of every surface: its size is a session's, it has a colour for each pixel and its number of slots of each kind, every colour is
-- one, and what was loaded or saved has a colour or a byte for all that its sides ask for
pub record IsSoundSurface (size : Size) (st : SurfaceState) : Type 0 where
  pub session : IsTrue (is_session_size size.w size.h)
  pub picture : length st.picture ≡ pixel_count size
  pub image_slots : length st.images ≡ 256
  pub brush_slots : length st.brushes ≡ 64
  pub glyph_slots : length st.glyphs ≡ 1024
  pub block_slots : length st.blocks ≡ 16
  pub colors : StateHasColors st
  pub images : AllInSlots (λ image. image_rule image.content ≡ None) st.images
  pub glyphs : AllInSlots (λ glyph. glyph_rule glyph.content ≡ None) st.glyphs
  pub blocks : AllInSlots (λ block. length block.pixels ≡ block.w * block.h) st.blocks
