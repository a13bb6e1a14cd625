-- Worked choices of a frame: caches, bounds, cuts, saved blocks and updates.
use Rattle.std.proofs.Common.{◌≡◌, ℕ, List, [], ◌∷◌, refl, Some, None, map, true, false, replicate}
use Rattle.std.specs.Prelude.{pos, Option, option_map}
use Rattle.px_core.specs.declared.surface.Size.{Size}
use Rattle.px_core.specs.declared.rectangle.Rect.{Rect}
use Rattle.px_core.specs.Rectangle.{boxed}
use Rattle.px_core.specs.Tiles.{no_tiles}
use Rattle.draw_ops.specs.declared.shape.Drawing.{Drawing}
use Rattle.draw_ops.specs.declared.shape.Shape.{Shape}
use Rattle.draw_ops.specs.declared.shape.Shape.TheVariants.{Dst, Pat, Blit, Blit3, Save}
use Rattle.draw_ops.specs.Content.{ImageOf}
use Rattle.draw_ops.specs.Slots.{Loaded}
use Rattle.caps_sets.specs.declared.confirmed.Confirmed.{Confirmed}
use Rattle.caps_sets.specs.Confirmed.{full, bare, sized}
use Rattle.caps_sets.specs.CapabilitySets.{nothing}
use Rattle.px_core.specs.declared.depth.Depth.TheVariants.{Bits24}
use Rattle.order_fields.specs.NamedDrawing.{NamedDrawing}
use Rattle.frame_rules.specs.Blocks.{least_free, positions_of}
use Rattle.session_rules.specs.Pending.{Pending}
use Rattle.frame_rules.specs.Support.{image_cache, supports, has_glyph_level, used_bitmap_entries, used_glyph_entries}
use Rattle.frame_rules.specs.Cautious.{as_walked}
use Rattle.frame_rules.specs.Frame.{sent_from}
use Rattle.frame_rules.specs.FrameOrders.{SentOrder, entries_of, bounds_of, sending_of}
use Rattle.frame_rules.specs.FrameOrders.SentOrder.{Drawn, CacheImage, CacheGlyph, CacheBrush, FrameMarker}
use Rattle.frame_rules.specs.FrameBytes.{joins_update}

abbrev size : Size
size = record { w = 64; h = 48 }

abbrev square : Loaded ImageOf
square = record { number = 1; content = record { w = 16; h = 16; pixels = replicate 256 5 } }

abbrev white : Loaded (List ℕ)
white = record { number = 2; content = replicate 64 0xFFFFFF }

abbrev pending : Rect → Shape → Pending
pending r shape = record { drawing = record { shape = shape; clip = None }; rect = r; image = Some square; brush = Some white; glyphs = [] }

abbrev corner : Rect
corner = boxed (pos 0) (pos 0) 16 16

-- ---- caches

-- three caches of `full` hold an image of 16 by 16 pixels
-- wrong: the last cache that serves, not the lowest
an_image_goes_to_the_lowest_of_three : image_cache full (Some square) ≡ Some 0
an_image_goes_to_the_lowest_of_three = refl

-- wrong: 511 entries of a bitmap cache
most_entries_of_a_bitmap_cache : used_bitmap_entries (sized 600 768) ∷ used_bitmap_entries (sized 511 768) ∷ [] ≡ 512 ∷ 511 ∷ []
most_entries_of_a_bitmap_cache = refl

-- wrong: 253 entries of a glyph cache
most_entries_of_a_glyph_cache : used_glyph_entries (sized 300 4) ∷ used_glyph_entries (sized 253 4) ∷ [] ≡ 254 ∷ 253 ∷ []
most_entries_of_a_glyph_cache = refl

-- wrong: 63 brushes
entries_of_the_brush_cache : entries_of full 13 ≡ 64
entries_of_the_brush_cache = refl

-- ---- support

-- wrong: glyph level 3
glyph_levels : has_glyph_level 0 ∷ has_glyph_level 1 ∷ has_glyph_level 2 ∷ has_glyph_level 3 ∷ [] ≡ false ∷ true ∷ true ∷ false ∷ []
glyph_levels = refl

-- wrong: a Dst wants pat too
dst_alone : supports (record (nothing Bits24) { dst = true }) (pending corner (Dst corner 0x55)) (Dst corner 0x55) ≡ true
dst_alone = refl

abbrev mixed : Shape
mixed = Blit3 corner 0xCA 0 (pos 0) (pos 0) 0

-- wrong: mem3 wants mem too
mem3_without_mem : supports (record full { mem = false }) (pending corner mixed) mixed ≡ true
mem3_without_mem = refl

-- ---- orders

-- a clip that the rectangle lies in sends no bounds, also where they touch
-- wrong: bounds go also where the rectangle lies in the clip
no_bounds_within_the_clip : bounds_of corner (Some corner) ≡ None
no_bounds_within_the_clip = refl

abbrev kind_of : SentOrder → ℕ
kind_of (Drawn touched d bounds) = 0
kind_of (CacheImage cache index image) = 1
kind_of (CacheGlyph cache index glyph) = 2
kind_of (CacheBrush entry brush) = 3
kind_of (FrameMarker ends) = 4

-- an image before a brush, and then the order that draws
-- wrong: a brush goes before the image
an_image_goes_before_a_brush : map kind_of (sending_of full [] (record { pending = pending corner mixed; position = 0 })).orders ≡ 1 ∷ 3 ∷ 0 ∷ []
an_image_goes_before_a_brush = refl

-- 26 bytes stand before the orders, of 16,383
-- wrong: 16,382 bytes of user data
-- wrong: the whole packet of the slow path is counted too
the_last_byte_of_an_update : joins_update false 16000 357 ∷ joins_update false 16000 358 ∷ [] ≡ true ∷ false ∷ []
the_last_byte_of_an_update = refl

-- 8 bytes stand before them in a packet of the fast path
-- wrong: user data are counted in place of the packet
-- wrong: the data alone are counted, or what stands behind the length
-- wrong: one length byte is counted
-- wrong: a packet has 16,382 bytes at most, or 16,384
-- wrong: a packet of the fast path has as many bytes as its length can say
the_last_byte_of_a_fast_update : joins_update true 16000 375 ∷ joins_update true 16000 376 ∷ [] ≡ true ∷ false ∷ []
the_last_byte_of_a_fast_update = refl

-- ---- cuts

abbrev careful : Confirmed
careful = record full { cautious = true }

abbrev walked : Rect → Shape → Option Shape
walked r shape = option_map (λ p. p.drawing.shape) (as_walked size careful (pending r shape))

-- wrong: a Pat is not cut
a_pattern_is_cut : walked (boxed (pos 60) (pos 0) 9 9) (Pat (boxed (pos 60) (pos 0) 9 9) 0xF0 2) ≡ Some (Pat (boxed (pos 60) (pos 0) 4 9) 0xF0 2)
a_pattern_is_cut = refl

-- wrong: a Blit of code AA goes to a cautious viewer
an_image_that_changes_nothing_is_passed_over : walked corner (Blit corner 0xAA 0 (pos 0) (pos 0)) ≡ None
an_image_that_changes_nothing_is_passed_over = refl

-- ---- saved blocks

abbrev save : Pending
save = pending corner (Save 3 corner)

-- the second save gives up what slot 3 held, and stands where that stood
-- wrong: a save looks for its place before its slot is given up
a_slot_saved_twice_keeps_its_place : map (λ s. s.position) (sent_from size full (record { dirty = no_tiles; held = [] }) (save ∷ save ∷ [])) ≡ 0 ∷ 0 ∷ []
a_slot_saved_twice_keeps_its_place = refl

-- rows are rounded up to 20
-- wrong: rows of a block rounded to (h + 20) / 20
positions_of_blocks : positions_of 10 1 ∷ positions_of 10 20 ∷ positions_of 10 21 ∷ [] ≡ 200 ∷ 200 ∷ 400 ∷ []
positions_of_blocks = refl

-- wrong: 57,599 positions
all_positions_and_one_more : least_free 57600 [] ∷ least_free 57601 [] ∷ [] ≡ Some 0 ∷ None ∷ []
all_positions_and_one_more = refl
