-- The bytes of secondary orders and of the frame marker ([MS-RDPEGDI] 2.2.2.2.1.2 and 2.2.2.2.1.3.7). Images and brushes are given in the session's colours,
-- and go to a viewer as they are shown at its depth.
use Rattle.std.specs.Prelude.{ℕ, ◌-◌, Bool, List, ◌∷◌, ◌++◌, length, if◌then◌else◌}
use Rattle.byteorder.specs.Endian.{little_bytes}
use Rattle.wire_num.specs.Number.{little_signed}
use Rattle.px_core.specs.declared.depth.Depth.{Depth}
use Rattle.px_core.specs.Depth.{bits_in, brush_format, brush_bytes, shown_colors}
use Rattle.px_core.specs.Pixels.{pixels_bytes}
use Rattle.draw_ops.specs.Content.{ImageOf, GlyphOf}
use Rattle.order_fields.specs.OrderDelta.{bit}
use Rattle.px_core.specs.Picture.{turned_over}
use Rattle.run_lengths.specs.WirePixels.{PixelData, data_of}
use Rattle.order_means.specs.KeptContent.{kept_image, padded_glyph}

-- a secondary order: its control byte, its total length less 13, extraFlags, its type, its body
abbrev pub secondary_bytes : ℕ → ℕ → List ℕ → List ℕ
secondary_bytes flags kind body = 3 ∷ (little_bytes 2 (length body - 7) ++ (little_bytes 2 flags ++ kind ∷ body))

-- cacheId, pad, width, height, bits per pixel, length, cacheIndex, bytes
abbrev pub cache_bitmap_body : Depth → ℕ → ℕ → ℕ → ℕ → List ℕ → List ℕ
cache_bitmap_body depth cache index w h bytes = cache ∷ 0 ∷ w ∷ h ∷ bits_in depth ∷ (little_bytes 2 (length bytes) ++ (little_bytes 2 index ++ bytes))

abbrev pub cache_bitmap_data : Depth → ℕ → ℕ → ℕ → ℕ → PixelData → List ℕ
cache_bitmap_data depth cache index w h data_ = if data_.is_packed
    then secondary_bytes 0x0400 2 (cache_bitmap_body depth cache index w h data_.bytes)
    else secondary_bytes 0 0 (cache_bitmap_body depth cache index w h data_.bytes)

-- an image for an entry of a bitmap cache (2.2.2.2.1.2.2); `no_header` says whether the viewer takes packed pixels
abbrev pub cache_bitmap_bytes : Depth → Bool → ℕ → ℕ → ImageOf → List ℕ
cache_bitmap_bytes depth no_header cache index image =
    let k = kept_image depth image in cache_bitmap_data depth cache index k.w k.h (data_of depth no_header k.w (turned_over k.w k.h k.pixels))

-- a glyph for an entry of a glyph cache, one an order (2.2.2.2.1.2.5)
abbrev pub cache_glyph_bytes : ℕ → ℕ → GlyphOf → List ℕ
cache_glyph_bytes cache index glyph =
    secondary_bytes 0 3 (cache ∷ 1 ∷ (little_bytes 2 index
    ++ (little_signed 2 glyph.x ++ (little_signed 2 glyph.y ++ (little_bytes 2 glyph.cx ++ (little_bytes 2 glyph.cy ++ (padded_glyph glyph).bits))))))

-- a brush for an entry of the brush cache (2.2.2.2.1.2.7)
abbrev pub cache_brush_bytes : Depth → ℕ → List ℕ → List ℕ
cache_brush_bytes depth entry pixels =
    secondary_bytes 0 7 (entry ∷ brush_format depth ∷ 8 ∷ 8 ∷ 0 ∷ brush_bytes depth ∷ pixels_bytes depth (turned_over 8 8 (shown_colors depth pixels)))

-- a frame marker, of a frame's begin or its end (2.2.2.2.1.3.7)
abbrev pub frame_marker_bytes : Bool → List ℕ
frame_marker_bytes ends = 54 ∷ little_bytes 4 (bit ends)
