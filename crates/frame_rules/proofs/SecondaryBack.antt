-- Cache orders and markers that are written are read back.
use Rattle.std.proofs.Common.{◌≡◌, ℕ, ◌+◌, ◌-◌, ◌*◌, ◌^◌, ◌<◌, ◌≤◌, List, [], ◌∷◌, ◌++◌, length, refl, ap, sym, ◌∙◌, arith, Bool, true}
use Rattle.std.specs.Prelude.{Ok, Err, ℤ, pos}
use Rattle.wire_num.specs.Number.{little_signed_at, little_at, little_signed}
use Rattle.wire_num.specs.Field.{Read, then_read, map_read, taken, bytes_at}
use Rattle.byteorder.specs.Endian.{little_bytes}
use Rattle.px_core.specs.declared.depth.Depth.{Depth}
use Rattle.px_core.specs.declared.depth.Depth.TheVariants.{Bits24, Bits16}
use Rattle.px_core.specs.Depth.{bits_in, bytes_in, brush_format, brush_bytes}
use Rattle.px_core.specs.Pixels.{pixels_of, pixels_bytes, are_pixels}
use Rattle.order_fields.specs.OrderTable.{Registers, fits_coordinate}
use Rattle.order_fields.specs.OrderStream.{seen_others, order_at}
use Rattle.order_fields.specs.Secondary.{Cached, secondary_kind, secondary_body, within_total, bitmap_at, glyph_at, glyph_length, glyphs_at, glyph_order_at, brush_at}
use Rattle.order_fields.specs.Secondary.Cached.{Bitmap, Glyph, Brush}
use Rattle.order_fields.proofs.Numbers.{signed_back}
use Rattle.wire_num.proofs.Bytes.{taken_back, taken_all}
use Rattle.wire_num.proofs.Numbers.{little_back, little_at_back, byte_at_back}
use Rattle.px_core.proofs.Pixels.{pixels_back, length-pixels_bytes}
use Rattle.order_means.specs.CacheOrders.{secondary_bytes, cache_bitmap_body}

inside_bytes : ℕ → ℕ → List ℕ → List ℕ
inside_bytes flags kind body = little_bytes 2 flags ++ kind ∷ body

pub secondary_back : (depth : Depth) (regs : Registers) (flags kind : ℕ) (body : List ℕ) (cs : List Cached) (rest : List ℕ) → flags < 2 ^ 16 → 7 ≤ length body → length body < 2 ^ 16
    → secondary_body depth (secondary_kind kind) flags (kind ∷ body) body ≡ Ok (cs, []) → order_at depth regs (secondary_bytes flags kind body ++ rest) ≡ Ok (seen_others regs cs, rest)
secondary_back depth regs flags kind body cs rest hf least most read =
    let inside : List ℕ = little_bytes 2 flags ++ kind ∷ body in
    let n : ℕ = length body - 7 in
    let whole : List ℕ = little_bytes 2 n ++ (inside ++ rest) in
    let below : n < 256 ^ 2 = omega arith in
    let flags_below : flags < 256 ^ 2 = omega arith in
    let count : n + 10 ≡ length inside = omega arith in
    let head : little_at 2 inside ≡ Ok (flags, kind ∷ body) = little_at_back 2 flags (kind ∷ body) flags_below in
    let body_back : then_read (little_at 2 inside) (λ f c. then_read (little_at 1 c) (λ t d. secondary_body depth (secondary_kind t) f c d)) ≡ Ok (cs, []) =
    ap (λ r. then_read r (λ f c. then_read (little_at 1 c) (λ t d. secondary_body depth (secondary_kind t) f c d))) head
    ∙ ap (λ r. then_read r (λ t d. secondary_body depth (secondary_kind t) flags (kind ∷ body) d)) (byte_at_back kind body) ∙ read in
    ap (map_read (seen_others regs))
    (ap (λ r. then_read r (λ m a. then_read (taken whole (m + 10) a) (λ i after. within_total (then_read (little_at 2 i) (λ f c. then_read (little_at 1 c) (λ t d. secondary_body depth (secondary_kind t) f c d))) after)))
    (little_at_back 2 n (inside ++ rest) below)
    ∙ ap (λ k. then_read (taken whole k (inside ++ rest)) (λ i after. within_total (then_read (little_at 2 i) (λ f c. then_read (little_at 1 c) (λ t d. secondary_body depth (secondary_kind t) f c d))) after)) count
    ∙ ap (λ r. then_read r (λ i after. within_total (then_read (little_at 2 i) (λ f c. then_read (little_at 1 c) (λ t d. secondary_body depth (secondary_kind t) f c d))) after)) (taken_back whole inside rest)
    ∙ ap (λ r. within_total r rest) body_back)

-- ---- bodies

plus : (b : ℕ) → b + 256 * 0 ≡ b
plus b = omega arith

pub bitmap_back : (depth : Depth) (flags : ℕ) (packed : Bool) (cache index w h : ℕ) (bytes : List ℕ) → index < 2 ^ 16 → length bytes < 2 ^ 16
    → bitmap_at flags packed (cache_bitmap_body depth cache index w h bytes)
    ≡ Ok (Bitmap (record { cache = cache; index = index; w = w; h = h; depth = bits_in depth; flags = flags; packed = packed; bytes = bytes }) ∷ [], [])
bitmap_back depth flags packed cache index w h bytes hi hl =
    let i : index < 256 ^ 2 = omega arith in
    let l : length bytes < 256 ^ 2 = omega arith in
    rw (plus cache, plus w, plus h, plus (bits_in depth), little_back 2 (length bytes) l, little_back 2 index i, taken_all bytes bytes) refl

abbrev value_of : Read ℤ → ℤ
value_of (Ok v) = v.0
value_of (Err left) = pos 0

signed_value : (z : ℤ) → fits_coordinate z ≡ true → value_of (little_signed_at 2 (little_signed 2 z ++ [])) ≡ z
signed_value z h = ap value_of (signed_back z [] h)

pub glyph_back : (cache index : ℕ) (x y : ℤ) (cx cy : ℕ) (bits : List ℕ) → index < 2 ^ 16 → fits_coordinate x ≡ true → fits_coordinate y ≡ true → cx < 2 ^ 16 → cy < 2 ^ 16
    → length bits ≡ glyph_length cx cy
    → glyph_at cache (little_bytes 2 index ++ (little_signed 2 x ++ (little_signed 2 y ++ (little_bytes 2 cx ++ (little_bytes 2 cy ++ bits)))))
    ≡ Ok (Glyph (record { cache = cache; index = index; x = x; y = y; cx = cx; cy = cy; bits = bits }), [])
glyph_back cache index x y cx cy bits hi fx fy hx hy few =
    let i : index < 256 ^ 2 = omega arith in
    let wide : cx < 256 ^ 2 = omega arith in
    let high : cy < 256 ^ 2 = omega arith in
    rw (little_back 2 index i, signed_value x fx, signed_value y fy, little_back 2 cx wide, little_back 2 cy high, ← few, taken_all bits bits) refl

-- a run of glyphs of one
pub glyph_order_back : (cache index : ℕ) (x y : ℤ) (cx cy : ℕ) (bits : List ℕ) → index < 2 ^ 16 → fits_coordinate x ≡ true → fits_coordinate y ≡ true → cx < 2 ^ 16 → cy < 2 ^ 16
    → length bits ≡ glyph_length cx cy
    → glyph_order_at (cache ∷ 1 ∷ (little_bytes 2 index ++ (little_signed 2 x ++ (little_signed 2 y ++ (little_bytes 2 cx ++ (little_bytes 2 cy ++ bits))))))
    ≡ Ok (Glyph (record { cache = cache; index = index; x = x; y = y; cx = cx; cy = cy; bits = bits }) ∷ [], [])
glyph_order_back cache index x y cx cy bits hi fx fy hx hy few =
    rw (plus cache) (ap (λ r. then_read r (λ o rest. map_read (λ os. o ∷ os) (glyphs_at 0 cache rest))) (glyph_back cache index x y cx cy bits hi fx fy hx hy few))

-- ---- pixels

brush_size : (depth : Depth) → brush_bytes depth ≡ bytes_in depth * 64
brush_size Bits24 = refl
brush_size Bits16 = refl

-- the pixels of a brush
brush_length : (depth : Depth) (cs : List ℕ) → length cs ≡ 64 → brush_bytes depth ≡ length (pixels_bytes depth cs)
brush_length depth cs whole = brush_size depth ∙ ap (λ n. bytes_in depth * n) (sym whole) ∙ sym (length-pixels_bytes depth cs)

pub brush_is_short : (depth : Depth) (cs : List ℕ) → length cs ≡ 64 → (1 ≤ length (pixels_bytes depth cs)) × (length (pixels_bytes depth cs) ≤ 192)
brush_is_short Bits24 cs whole = let count = brush_length Bits24 cs whole in (omega (arith, count), omega (arith, count))
brush_is_short Bits16 cs whole = let count = brush_length Bits16 cs whole in (omega (arith, count), omega (arith, count))

brush_pixels_back : (depth : Depth) (entry : ℕ) (cs : List ℕ) → length cs ≡ 64 → are_pixels depth cs ≡ true
    → map_read (λ xs. Brush (record { entry = entry; pixels = pixels_of depth xs }) ∷ []) (bytes_at (brush_bytes depth) (pixels_bytes depth cs))
    ≡ Ok (Brush (record { entry = entry; pixels = cs }) ∷ [], [])
brush_pixels_back depth entry cs whole pixels =
    let bytes = pixels_bytes depth cs in
    let read : bytes_at (brush_bytes depth) bytes ≡ Ok (bytes, []) = ap (λ n. bytes_at n bytes) (brush_length depth cs whole) ∙ taken_all bytes bytes in
    ap (map_read (λ xs. Brush (record { entry = entry; pixels = pixels_of depth xs }) ∷ [])) read
    ∙ ap (λ ps. Ok (Brush (record { entry = entry; pixels = ps }) ∷ [], [])) (pixels_back depth cs pixels)

pub brush_back : (depth : Depth) (entry : ℕ) (cs : List ℕ) → length cs ≡ 64 → are_pixels depth cs ≡ true
    → brush_at depth (entry ∷ brush_format depth ∷ 8 ∷ 8 ∷ 0 ∷ brush_bytes depth ∷ pixels_bytes depth cs) ≡ Ok (Brush (record { entry = entry; pixels = cs }) ∷ [], [])
brush_back Bits24 entry cs whole pixels = rw (plus entry) (brush_pixels_back Bits24 entry cs whole pixels)
brush_back Bits16 entry cs whole pixels = rw (plus entry) (brush_pixels_back Bits16 entry cs whole pixels)
