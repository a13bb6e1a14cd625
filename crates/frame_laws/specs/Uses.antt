-- A client after orders that were sent, and after the use of an image, of a brush and of glyphs.
use Rattle.std.specs.Prelude.{◌≡◌, ℕ, ◌<◌, ◌≤◌, true, List, map, length, Some, Result, Ok}
use Rattle.px_core.specs.declared.surface.Size.{Size}
use Rattle.draw_ops.specs.Content.{ImageOf, GlyphOf}
use Rattle.draw_ops.specs.Slots.{SurfaceState, Loaded, lookup}
use Rattle.caps_sets.specs.declared.confirmed.Confirmed.{Confirmed}
use Rattle.caps_sets.specs.Confirmed.{cache_size}
use Rattle.session_rules.specs.declared.entry.Entry.{Entry}
use Rattle.px_core.specs.Depth.{shown_colors}
use Rattle.order_means.specs.KeptContent.{kept_image, glyph_cell_bytes}
use Rattle.order_means.specs.ClientState.{ClientState, Fault, cached, client_after_orders}
use Rattle.frame_rules.specs.Support.{serves_image}
use Rattle.frame_rules.specs.Frame.{Walk}
use Rattle.frame_rules.specs.FrameOrders.{SentOrder, Uses}
use Rattle.frame_rules.specs.FrameRead.{as_read}
use Rattle.frame_rules.specs.Describes.{image_loaded, brush_loaded, glyph_loaded, CachesAgree, IsSized}
use Rattle.frame_laws.specs.Agreement.{Agrees}
use Rattle.frame_laws.specs.Sound.{IsSoundImage}

-- the client after orders that were sent, one by one
abbrev pub client_after_sent : Confirmed → Size → ClientState → List SentOrder → Result ClientState Fault
client_after_sent c size client orders = client_after_orders c size client (map (as_read c) orders)

-- an image that its load brought, and a cache that serves it
pub record IsServed (size : Size) (c : Confirmed) (j : List Entry) (cache : ℕ) (image : Loaded ImageOf) : Type 0 where
  pub sound : IsSoundImage image.content
  pub loaded : image_loaded size j image.number ≡ Some image.content
  pub bitmap : cache < 3
  pub serves : serves_image image.content (cache_size c.bitmaps cache) ≡ true

-- after the use of an image: its orders are obeyed, its index has it, and whatever is held has its content
pub record ImageUsed (size : Size) (c : Confirmed) (j : List Entry) (client : ClientState) (uses : Uses) (orders : List SentOrder) (cache index : ℕ)
    (image : ImageOf) : Type 0 where
  pub after : ClientState
  pub obeys : client_after_sent c size client orders ≡ Ok after
  pub caches : CachesAgree size c j uses after
  pub sized : IsSized c after
  pub there : cached cache index after.images ≡ Some (kept_image after.depth image)
  pub below : index < (cache_size c.bitmaps cache).entries
  pub agrees : (st : SurfaceState) (w : Walk) → Agrees size st w client → Agrees size st w after

-- orders are obeyed; session and client then agree, and so do the caches
pub record ObeyedThrough (size : Size) (c : Confirmed) (j : List Entry) (st : SurfaceState) (w : Walk) (uses : Uses) (client : ClientState)
    (orders : List SentOrder) : Type 0 where
  pub after : ClientState
  pub obeys : client_after_sent c size client orders ≡ Ok after
  pub agrees : Agrees size st w after
  pub caches : CachesAgree size c j uses after
  pub sized : IsSized c after

-- a brush that its load brought
pub record IsBrushLoaded (size : Size) (c : Confirmed) (j : List Entry) (brush : Loaded (List ℕ)) : Type 0 where
  pub whole : length brush.content ≡ 64
  pub loaded : brush_loaded size j brush.number ≡ Some brush.content
  pub serves : c.brush ≡ true

-- after the use of a brush: its order is obeyed, its entry has it, and images stay
pub record BrushUsed (size : Size) (c : Confirmed) (j : List Entry) (client : ClientState) (uses : Uses) (orders : List SentOrder) (entry : ℕ)
    (brush : List ℕ) : Type 0 where
  pub after : ClientState
  pub obeys : client_after_sent c size client orders ≡ Ok after
  pub caches : CachesAgree size c j uses after
  pub sized : IsSized c after
  pub there : lookup entry after.brushes ≡ Some (shown_colors after.depth brush)
  pub below : entry < 64
  pub images : after.images ≡ client.images
  pub agrees : (st : SurfaceState) (w : Walk) → Agrees size st w client → Agrees size st w after

-- a glyph that its load brought, and a cache that serves it
pub record IsGlyphServed (size : Size) (c : Confirmed) (j : List Entry) (cache : ℕ) (glyph : Loaded GlyphOf) : Type 0 where
  pub loaded : glyph_loaded size j glyph.number ≡ Some glyph.content
  pub cell : glyph_cell_bytes glyph.content ≤ (cache_size c.glyphs cache).cell

-- after uses of glyphs: their orders are obeyed, and whatever is held has its content
pub record GlyphsUsed (size : Size) (c : Confirmed) (j : List Entry) (client : ClientState) (uses : Uses) (orders : List SentOrder) : Type 0 where
  pub after : ClientState
  pub obeys : client_after_sent c size client orders ≡ Ok after
  pub caches : CachesAgree size c j uses after
  pub sized : IsSized c after
  pub agrees : (st : SurfaceState) (w : Walk) → Agrees size st w client → Agrees size st w after
