-- Secondary orders and the frame marker as they stand in bytes ([MS-RDPEGDI] 2.2.2.2.1.2 and 2.2.2.2.1.3.7).
use Rattle.std.specs.Prelude.{ℕ, zero, suc, ◌+◌, ◌*◌, ◌/◌, ◌==◌, nat_lt, Bool, true, false, ℤ, List, [], ◌∷◌, ◌++◌, Ok, Err, if◌then◌else◌}
use Rattle.wire_num.specs.Field.{Read, then_read, map_read, bytes_at, given, taken, wanted}
use Rattle.wire_num.specs.Number.{little_at, little_signed_at}
use Rattle.px_core.specs.declared.depth.Depth.{Depth}
use Rattle.px_core.specs.Depth.{brush_format, brush_bytes}
use Rattle.px_core.specs.Pixels.{pixels_of}

-- a cached bitmap; its pixels are looked at by the client, which also tests its depth and flags
pub record BitmapOrder : Type 0 where
  pub cache : ℕ
  pub index : ℕ
  pub w : ℕ
  pub h : ℕ
  pub depth : ℕ
  pub flags : ℕ
  pub packed : Bool
  pub bytes : List ℕ

-- a cached glyph; its bits stand in rows padded to bytes, and the whole is padded to a multiple of four bytes
pub record GlyphOrder : Type 0 where
  pub cache : ℕ
  pub index : ℕ
  pub x : ℤ
  pub y : ℤ
  pub cx : ℕ
  pub cy : ℕ
  pub bits : List ℕ

-- a cached brush; its 64 pixels stand row by row from the bottom up
pub record BrushOrder : Type 0 where
  pub entry : ℕ
  pub pixels : List ℕ

-- what a secondary order or a frame marker says; a cache glyph order of several glyphs says one of these each
pub data Cached : Type 0 where
  Bitmap : BitmapOrder → Cached
  Glyph : GlyphOrder → Cached
  Brush : BrushOrder → Cached
  Marker : Bool → Cached

-- cache bitmap ([MS-RDPEGDI] 2.2.2.2.1.2.2): cacheId 1, pad 1, width 1, height 1, bits per pixel 1, length 2, cacheIndex 2, bytes
abbrev pub bitmap_at : ℕ → Bool → List ℕ → Read (List Cached)
bitmap_at flags packed bs =
    then_read (little_at 1 bs) (λ cache a. then_read (little_at 1 a) (λ pad b. then_read (little_at 1 b) (λ w c. then_read (little_at 1 c) (λ h d.
    then_read (little_at 1 d) (λ depth e. then_read (little_at 2 e) (λ count f. then_read (little_at 2 f) (λ index g.
    map_read (λ xs. Bitmap (record { cache = cache; index = index; w = w; h = h; depth = depth; flags = flags; packed = packed; bytes = xs }) ∷ []) (bytes_at count g))))))))

-- how many bytes the bits of a glyph have
abbrev pub glyph_length : ℕ → ℕ → ℕ
glyph_length cx cy = 4 * ((((cx + 7) / 8) * cy + 3) / 4)

-- a glyph: cacheIndex 2, x 2, y 2, cx 2, cy 2, bits
abbrev pub glyph_at : ℕ → List ℕ → Read Cached
glyph_at cache bs =
    then_read (little_at 2 bs) (λ index a. then_read (little_signed_at 2 a) (λ x b. then_read (little_signed_at 2 b) (λ y c.
    then_read (little_at 2 c) (λ cx d. then_read (little_at 2 d) (λ cy e.
    map_read (λ bits. Glyph (record { cache = cache; index = index; x = x; y = y; cx = cx; cy = cy; bits = bits })) (bytes_at (glyph_length cx cy) e))))))

abbrev pub glyphs_at : ℕ → ℕ → List ℕ → Read (List Cached)
glyphs_at zero cache bs = Ok ([], bs)
glyphs_at (suc n) cache bs = then_read (glyph_at cache bs) (λ o rest. map_read (λ os. o ∷ os) (glyphs_at n cache rest))

-- cache glyph ([MS-RDPEGDI] 2.2.2.2.1.2.5): cacheId 1, count 1, the glyphs
abbrev pub glyph_order_at : List ℕ → Read (List Cached)
glyph_order_at bs = then_read (little_at 1 bs) (λ cache a. then_read (little_at 1 a) (λ n b. glyphs_at n cache b))

-- cache brush ([MS-RDPEGDI] 2.2.2.2.1.2.7): entry 1, format 05, sides 08 08, style 1, length C0, 64 pixels; at 16 bits format 04 and length 80
abbrev pub brush_at : Depth → List ℕ → Read (List Cached)
brush_at depth bs =
    then_read (little_at 1 bs) (λ entry a. then_read (wanted (brush_format depth ∷ []) a) (λ format b. then_read (wanted (8 ∷ 8 ∷ []) b) (λ sides c. then_read (little_at 1 c) (λ style d.
    then_read (wanted (brush_bytes depth ∷ []) d) (λ count e. map_read (λ xs. Brush (record { entry = entry; pixels = pixels_of depth xs }) ∷ []) (bytes_at (brush_bytes depth) e))))))

-- the secondary orders that are read
pub data SecondaryKind : Type 0 where
  RawBitmapKind : SecondaryKind
  PackedBitmapKind : SecondaryKind
  GlyphKind : SecondaryKind
  BrushKind : SecondaryKind
  NoSecondary : SecondaryKind

abbrev pub secondary_kind : ℕ → SecondaryKind
secondary_kind t = if t == 0 then RawBitmapKind else (if t == 2 then PackedBitmapKind else (if t == 3 then GlyphKind else (if t == 7 then BrushKind else NoSecondary)))

-- what stands behind the type; another type is refused at its byte
abbrev pub secondary_body : Depth → SecondaryKind → ℕ → List ℕ → List ℕ → Read (List Cached)
secondary_body depth RawBitmapKind flags typed bs = bitmap_at flags false bs
secondary_body depth PackedBitmapKind flags typed bs = bitmap_at flags true bs
secondary_body depth GlyphKind flags typed bs = glyph_order_at bs
secondary_body depth BrushKind flags typed bs = brush_at depth bs
secondary_body depth NoSecondary flags typed bs = Err typed

abbrev pub filled : {A : Type 0} → A → List ℕ → List ℕ → Read A
filled v [] after = Ok (v, after)
filled v (b ∷ bs) after = Err ((b ∷ bs) ++ after)

-- what stands within a total, with the bytes after it: a rest that is left unread is refused at its first byte
abbrev pub within_total : {A : Type 0} → Read A → List ℕ → Read A
within_total (Ok v) after = filled v.0 v.1 after
within_total (Err left) after = Err (left ++ after)

-- a secondary order after its control byte: its total length less 13, extraFlags 2, type 1, body; a total that doesn't fit is refused at its length
abbrev pub secondary_at : Depth → List ℕ → Read (List Cached)
secondary_at depth bs =
    then_read (little_at 2 bs) (λ n a. then_read (taken bs (n + 10) a) (λ inside after.
    within_total (then_read (little_at 2 inside) (λ flags c. then_read (little_at 1 c) (λ t d. secondary_body depth (secondary_kind t) flags c d))) after))

-- a frame marker after its control byte: action 4, 0 where a frame begins and 1 where it ends
abbrev pub marker_at : List ℕ → Read (List Cached)
marker_at bs = then_read (little_at 4 bs) (λ n rest. given (nat_lt n 2) (Marker (n == 1) ∷ []) rest bs)
