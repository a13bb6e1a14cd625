-- The capability sets that are read ([MS-RDPBCGR] 2.2.7.1): their types, their least lengths, and what each says. Offsets count from a set's first byte, as
-- in its table there.
use Rattle.std.specs.Prelude.{ℕ, zero, suc, ◌+◌, ◌-◌, ◌==◌, Bool, false, ◌&&◌, ◌||◌, not, List, [], ◌∷◌, drop, replicate, min, if◌then◌else◌}
use Rattle.byteorder.specs.Endian.{little_number}
use Rattle.wire_num.specs.FieldValue.{has_bits}
use Rattle.px_core.specs.declared.depth.Depth.{Depth}
use Rattle.caps_sets.specs.declared.cache_size.CacheSize.{CacheSize}
use Rattle.caps_sets.specs.declared.confirmed.Confirmed.{Confirmed}
use Rattle.caps_sets.specs.declared.sets_so_far.SetsSoFar.{SetsSoFar}
use Rattle.caps_sets.specs.declared.set_kind.SetKind.{SetKind}
use Rattle.caps_sets.specs.declared.set_kind.SetKind.TheVariants.{General, Bitmap, Order, BitmapCache, Pointer, Brush, GlyphCache, Other}
use Rattle.caps_sets.specs.Confirmed.{sized, most_pointers}

-- what a set is, by its type
abbrev pub kind_of : ℕ → SetKind
kind_of type =
    if type == 1 then General
    else (if type == 2 then Bitmap
    else (if type == 3 then Order
    else (if type == 4 then BitmapCache
    else (if type == 8 then Pointer
    else (if type == 15 then Brush
    else (if type == 16 then GlyphCache
    else Other))))))

-- the least length of a set: its header, and where it is read all its fields
abbrev pub least_length : SetKind → ℕ
least_length General = 24
least_length Bitmap = 28
least_length Order = 88
least_length BitmapCache = 40
least_length Pointer = 8
least_length Brush = 8
least_length GlyphCache = 52
least_length Other = 4

-- the number of so many bytes at an offset, in the content behind a set's header of four bytes
abbrev pub number_in : ℕ → ℕ → List ℕ → ℕ
number_in size offset content = little_number size (drop (offset - 4) content)

-- ---- what a set says

-- protocolVersion isn't 0 ([MS-RDPBCGR] 2.2.7.1.1). For a client that states a version drawings are cut (profile)
abbrev pub says_cautious : List ℕ → Bool
says_cautious content = not (number_in 2 8 content == 0)

-- extraFlags: NO_BITMAP_COMPRESSION_HDR
abbrev pub says_no_header : List ℕ → Bool
says_no_header content = has_bits 1024 (number_in 2 14 content)

-- extraFlags: FASTPATH_OUTPUT_SUPPORTED
abbrev pub says_fast : List ℕ → Bool
says_fast content = has_bits 1 (number_in 2 14 content)

-- orderSupport: the byte at this place isn't 0 ([MS-RDPBCGR] 2.2.7.1.3)
abbrev pub says_support : ℕ → List ℕ → Bool
says_support place content = not (number_in 1 (36 + place) content == 0)

-- orderFlags: ZEROBOUNDSDELTASSUPPORT
abbrev pub says_zero_bounds : List ℕ → Bool
says_zero_bounds content = has_bits 8 (number_in 2 34 content)

-- orderSupportExFlags: ALTSEC_FRAME_MARKER_SUPPORT, where orderFlags say by ORDERFLAGS_EXTRA_FLAGS that they are valid
abbrev pub says_marker : List ℕ → Bool
says_marker content = has_bits 128 (number_in 2 34 content) && has_bits 4 (number_in 2 70 content)

-- so many caches from an offset on: entries, and the bytes of the greatest cell
abbrev pub caches_in : ℕ → ℕ → List ℕ → List CacheSize
caches_in zero offset content = []
caches_in (suc n) offset content = sized (number_in 2 offset content) (number_in 2 (offset + 2) content) ∷ caches_in n (offset + 4) content

-- Cache0Entries to Cache2MaximumCellSize ([MS-RDPBCGR] 2.2.7.1.4.1)
unfoldable pub says_bitmaps : List ℕ → List CacheSize
says_bitmaps content = caches_in 3 28 content

-- colorPointerCacheSize ([MS-RDPBCGR] 2.2.7.1.5); a number above the most counts as that (profile)
abbrev pub says_pointers : List ℕ → ℕ
says_pointers content = min most_pointers (number_in 2 6 content)

-- brushSupportLevel ([MS-RDPBCGR] 2.2.7.1.7)
abbrev pub says_brush_level : List ℕ → ℕ
says_brush_level content = number_in 4 4 content

-- color brushes are taken by BRUSH_COLOR_8x8 and by BRUSH_COLOR_FULL; by a client for which drawings are cut, by the latter alone (profile)
abbrev pub takes_brushes : Bool → ℕ → Bool
takes_brushes cautious level = (not cautious && (level == 1)) || (level == 2)

-- GlyphCache ([MS-RDPBCGR] 2.2.7.1.8)
unfoldable pub says_glyphs : List ℕ → List CacheSize
says_glyphs content = caches_in 10 4 content

-- GlyphSupportLevel
abbrev pub says_glyph_level : List ℕ → ℕ
says_glyph_level content = number_in 2 48 content

-- ---- what is confirmed

-- what is confirmed without a set, by a viewer of this depth
abbrev pub nothing : Depth → Confirmed
nothing depth = record {
  dst = false;
  pat = false;
  scr = false;
  mem = false;
  mem3 = false;
  save = false;
  glyph = false;
  zero_bounds = false;
  marker = false;
  no_header = false;
  brush = false;
  glyph_level = 0;
  bitmaps = replicate 3 (sized 0 0);
  glyphs = replicate 10 (sized 0 0);
  cautious = false;
  depth = depth;
  fast = false;
  pointers = 0;
}

-- the orders of an Order set, in place of those of earlier ones
abbrev pub with_orders : List ℕ → Confirmed → Confirmed
with_orders content c = record c {
  dst = says_support 0 content;
  pat = says_support 1 content;
  scr = says_support 2 content;
  mem = says_support 3 content;
  mem3 = says_support 4 content;
  save = says_support 11 content;
  glyph = says_support 27 content;
  zero_bounds = says_zero_bounds content;
  marker = says_marker content;
}

-- before the first set
abbrev pub before_sets : Depth → SetsSoFar
before_sets depth = record { confirmed = nothing depth; brush_level = 0 }

-- what a General set says
abbrev pub with_general : List ℕ → Confirmed → Confirmed
with_general content c = record c { no_header = says_no_header content; cautious = says_cautious content; fast = says_fast content }

-- the sets so far with one more, by its content: it counts in place of earlier ones of its kind
abbrev pub with_set : SetKind → List ℕ → SetsSoFar → SetsSoFar
with_set General content s = record s { confirmed = with_general content s.confirmed }
with_set Bitmap content s = s
with_set Order content s = record s { confirmed = with_orders content s.confirmed }
with_set BitmapCache content s = record s { confirmed = record s.confirmed { bitmaps = says_bitmaps content } }
with_set Pointer content s = record s { confirmed = record s.confirmed { pointers = says_pointers content } }
with_set Brush content s = record s { brush_level = says_brush_level content }
with_set GlyphCache content s = record s { confirmed = record s.confirmed { glyphs = says_glyphs content; glyph_level = says_glyph_level content } }
with_set Other content s = s

-- what all sets confirm: whether brushes are taken goes by the Brush set and the General set, whichever comes first
abbrev pub confirmed_together : SetsSoFar → Confirmed
confirmed_together s = record s.confirmed { brush = takes_brushes s.confirmed.cautious s.brush_level }
