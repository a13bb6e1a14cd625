-- That an encoder describes its client, and the promise of one frame.
use Rattle.std.specs.Prelude.{◌≡◌, ℕ, zero, suc, ◌+◌, ◌≤◌, ◌<◌, true, false, List, [], ◌∷◌, ◌++◌, map, length, slice_get, Option, Some, None}
use Rattle.std.specs.Prelude.{option_and_then, Ok}
use Rattle.px_core.specs.declared.depth.Depth.{Depth}
use Rattle.px_core.specs.declared.surface.Size.{Size}
use Rattle.px_core.specs.Depth.{seen, shown_colors}
use Rattle.px_core.specs.Picture.{pixel_count}
use Rattle.px_core.specs.Rectangle.{is_session_size}
use Rattle.draw_ops.specs.declared.shape.Drawing.{Drawing}
use Rattle.draw_ops.specs.declared.shape.Shape.{Shape}
use Rattle.draw_ops.specs.declared.shape.Shape.TheVariants.{Fill, Dst, Pat, Copy, Blit, Blit3, Text, Line, Save, Restore, LoadImage, LoadBrush, LoadGlyph}
use Rattle.draw_ops.specs.Content.{ImageOf, GlyphOf}
use Rattle.draw_ops.specs.Slots.{SurfaceState, lookup}
use Rattle.caps_sets.specs.declared.confirmed.Confirmed.{Confirmed}
use Rattle.caps_sets.specs.Confirmed.{depth_of}
use Rattle.order_fields.specs.OrderTable.{AreRegisters}
use Rattle.order_means.specs.KeptContent.{kept_image, padded_glyph}
use Rattle.order_means.specs.ClientState.{ClientState, Block, cached, block_at, brush_entries}
use Rattle.order_means.specs.Updates.{cutting}
use Rattle.order_means.specs.Updates.Stage.{Between}
use Rattle.order_means.specs.FrameMarks.{View, reading, read_on}
use Rattle.cache_plan.specs.CacheUse.{misses, last_index, uses_of}
use Rattle.save_plan.specs.Blocks.{AreApart}
use Rattle.session_rules.specs.declared.entry.Entry.{Entry}
use Rattle.session_rules.specs.Board.{Board, opening_board}
use Rattle.session_rules.specs.Journal.{Head, state_after, drawings_of, board_after, IsLegalJournal}
use Rattle.session_rules.specs.Steps.{TakeOf}
use Rattle.frame_rules.specs.Blocks.{Place, Held, place_of}
use Rattle.frame_rules.specs.FrameOrders.{Uses, entries_of, first_glyph_cache, brush_cache}
use Rattle.frame_rules.specs.Encoder.{Encoder, take_bytes, encoder_after}

-- ---- the journal's loads

-- the drawings of entries, reactions and loads included, from a board on
abbrev pub drawings_from : Size → Board → List Entry → List Drawing
drawings_from size b [] = []
drawings_from size b (e ∷ es) = drawings_of size b e ++ drawings_from size (board_after size b e) es

-- the shape of a journal's drawing by its number, which begins with 1
abbrev pub shape_numbered : Size → List Entry → ℕ → Option Shape
shape_numbered size j zero = None
shape_numbered size j (suc n) = option_and_then (λ d. Some d.shape) (slice_get (drawings_from size opening_board j) n)

abbrev pub image_in : Shape → Option ImageOf
image_in (LoadImage slot image) = Some image
image_in (Fill r color) = None
image_in (Dst r code) = None
image_in (Pat r code brush) = None
image_in (Copy r code sx sy) = None
image_in (Blit r code image sx sy) = None
image_in (Blit3 r code image sx sy brush) = None
image_in (Text x y color font run) = None
image_in (Line x0 y0 x1 y1 color) = None
image_in (Save slot r) = None
image_in (Restore slot x y) = None
image_in (LoadBrush slot brush) = None
image_in (LoadGlyph font code glyph) = None

abbrev pub brush_in : Shape → Option (List ℕ)
brush_in (LoadBrush slot brush) = Some brush
brush_in (Fill r color) = None
brush_in (Dst r code) = None
brush_in (Pat r code brush) = None
brush_in (Copy r code sx sy) = None
brush_in (Blit r code image sx sy) = None
brush_in (Blit3 r code image sx sy brush) = None
brush_in (Text x y color font run) = None
brush_in (Line x0 y0 x1 y1 color) = None
brush_in (Save slot r) = None
brush_in (Restore slot x y) = None
brush_in (LoadImage slot image) = None
brush_in (LoadGlyph font code glyph) = None

abbrev pub glyph_in : Shape → Option GlyphOf
glyph_in (LoadGlyph font code glyph) = Some glyph
glyph_in (Fill r color) = None
glyph_in (Dst r code) = None
glyph_in (Pat r code brush) = None
glyph_in (Copy r code sx sy) = None
glyph_in (Blit r code image sx sy) = None
glyph_in (Blit3 r code image sx sy brush) = None
glyph_in (Text x y color font run) = None
glyph_in (Line x0 y0 x1 y1 color) = None
glyph_in (Save slot r) = None
glyph_in (Restore slot x y) = None
glyph_in (LoadImage slot image) = None
glyph_in (LoadBrush slot brush) = None

-- what the drawing of a number loaded
abbrev pub image_loaded : Size → List Entry → ℕ → Option ImageOf
image_loaded size j number = option_and_then image_in (shape_numbered size j number)

abbrev pub brush_loaded : Size → List Entry → ℕ → Option (List ℕ)
brush_loaded size j number = option_and_then brush_in (shape_numbered size j number)

abbrev pub glyph_loaded : Size → List Entry → ℕ → Option GlyphOf
glyph_loaded size j number = option_and_then glyph_in (shape_numbered size j number)

-- ---- caches

-- a key that a cache holds: a use of it wouldn't miss
abbrev pub IsHeld : Confirmed → Uses → ℕ → ℕ → Type 0
IsHeld c uses cache key = misses (entries_of c cache) (uses_of cache uses) key ≡ false

-- where a held key's content is
abbrev pub index_of : Confirmed → Uses → ℕ → ℕ → ℕ
index_of c uses cache key = last_index (entries_of c cache) (uses_of cache uses) key

-- the index of each held key has the content of that key's load, as it is shown at the client's depth: an image with the columns that were added to its width,
-- a glyph with its padded bits
pub record CachesAgree (size : Size) (c : Confirmed) (j : List Entry) (uses : Uses) (client : ClientState) : Type 0 where
  pub images : (cache key : ℕ) → cache < first_glyph_cache → IsHeld c uses cache key
      → (image : ImageOf) × (image_loaded size j key ≡ Some image)
      × (cached cache (index_of c uses cache key) client.images ≡ Some (kept_image client.depth image))
  pub glyphs : (cache key : ℕ) → cache < 10 → IsHeld c uses (first_glyph_cache + cache) key
      → (glyph : GlyphOf) × (glyph_loaded size j key ≡ Some glyph)
      × (cached cache (index_of c uses (first_glyph_cache + cache) key) client.glyphs ≡ Some (padded_glyph glyph))
  pub brushes : (key : ℕ) → IsHeld c uses brush_cache key
      → (brush : List ℕ) × (brush_loaded size j key ≡ Some brush)
      × (lookup (index_of c uses brush_cache key) client.brushes ≡ Some (shown_colors client.depth brush))

-- the client has the confirmed depth, and its caches the confirmed numbers of entries
pub record IsSized (c : Confirmed) (client : ClientState) : Type 0 where
  pub depth : client.depth ≡ depth_of c
  pub images : map length client.images ≡ map (λ s. s.entries) c.bitmaps
  pub glyphs : map length client.glyphs ≡ map (λ s. s.entries) c.glyphs
  pub brushes : length client.brushes ≡ brush_entries c.brush

-- ---- blocks

abbrev pub block_shown : Depth → Place → ImageOf → Block
block_shown depth place block = record { position = place.position; w = place.w; h = place.h; pixels = map (seen depth) block.pixels }

-- each held block is the client's, with the pixels of its slot as they are shown at its depth
abbrev pub BlocksAgree : SurfaceState → Held → ClientState → Type 0
BlocksAgree st held client = (slot : ℕ) (place : Place) → place_of slot held ≡ Some place
    → (block : ImageOf) × (lookup slot st.blocks ≡ Some block) × (block.w ≡ place.w) × (block.h ≡ place.h)
    × (block_at place.position place.w place.h client.blocks ≡ Some (block_shown client.depth place block))

-- ---- the encoder and the client

-- an encoder whose viewer has a journal's first entries, so many, describes the client: its registers, its caches, its blocks, which stand apart within the
-- positions, and, from the first frame on, its picture
pub record DescribesClient (size : Size) (c : Confirmed) (j : List Entry) (number : ℕ) (e : Encoder) (client : ClientState) : Type 0 where
  pub registers : client.registers ≡ e.registers
  pub are_registers : AreRegisters e.registers
  pub sized : IsSized c client
  pub caches : CachesAgree size c j e.uses client
  pub blocks : BlocksAgree (state_after size j number).surface e.held client
  pub apart : AreApart e.held
  pub pixels : length client.picture ≡ pixel_count size
  pub picture : 0 < number → client.picture ≡ map (seen (depth_of c)) (state_after size j number).surface.picture

-- ---- one frame

-- what a viewer makes of a take's bytes: they aren't refused and leave no rest, there is one mark, which shows the picture after the entries that the take
-- found at the viewer's depth, and the encoder describes the client after them
pub record ShowsFrame (size : Size) (c : Confirmed) (j : List Entry) (e : Encoder) (t : TakeOf) (view : View) (place : ℕ) : Type 0 where
  pub after : View
  pub reads : read_on c size (reading view (cutting place Between)) (take_bytes size c j e t) ≡ Ok
      (reading after (cutting (place + length (take_bytes size c j e t)) Between))
  pub mark : after.pictures ≡ view.pictures ++ map (seen (depth_of c)) (state_after size j t.number).surface.picture ∷ []
  pub describes : DescribesClient size c j t.number (encoder_after size c j e t) after.client

-- three bitmap caches and ten glyph caches, which the type of what a viewer confirmed always has
pub record HasAllCaches (c : Confirmed) : Type 0 where
  pub bitmaps : length c.bitmaps ≡ 3
  pub glyphs : length c.glyphs ≡ 10

-- the promise of one frame, for every session size, every legal journal, every take and every client that the encoder describes
abbrev pub FrameShowsJournal : Head → Confirmed → Type 0
FrameShowsJournal head c = (j : List Entry) (e : Encoder) (t : TakeOf) (view : View) (place : ℕ) → is_session_size head.size.w head.size.h ≡ true
    → HasAllCaches c
    → IsLegalJournal head j → t.before ≤ t.number → t.number ≤ length j → DescribesClient head.size c j t.before e view.client
    → ShowsFrame head.size c j e t view place
