-- Writing a viewer's packets in several calls.
use Rattle.std.proofs.Common.{◌≡◌, ℕ, ◌+◌, ◌*◌, ◌≤◌, List, [], ◌∷◌, ◌++◌, length, replicate, refl, ap, ◌∙◌, arith, append_assoc, length-append}
use Rattle.byteorder.specs.Endian.{little_bytes, big_bytes}
use Rattle.wire_num.specs.Length.{per_len_of}
use Rattle.caps_sets.specs.declared.cache_size.CacheSize.{CacheSize}
use Rattle.caps_sets.specs.declared.confirmed.Confirmed.{Confirmed}
use Rattle.viewer_rules.specs.ClientPackets.{request_data, send_data, wide, info_body, sizes_bytes, bitmap_caches_of, glyph_caches_of, brush_of, no_pointers, confirm_body}
use Rattle.viewer_wire.specs.Writes.{request_headers}

-- one part, and then what stands behind it
pub before : (old a rest m n : List ℕ) → m ≡ old ++ a → n ≡ m ++ rest → n ≡ old ++ (a ++ rest)
before old a rest m n e f = f ∙ ap (λ xs. xs ++ rest) e ∙ append_assoc old a rest

headers_before : (user : ℕ) (body : List ℕ) → request_headers user (length body) ++ body ≡ send_data user body
unfolding request_headers
headers_before user body =
    let both = length-append (per_len_of (length body)) body in
    let size : 13 + length (per_len_of (length body)) + length body ≡ 4 + length (2 ∷ 240 ∷ 128 ∷ request_data user body) = omega (arith, both) in
    ap (λ (k : ℕ). (3 ∷ 0 ∷ big_bytes 2 k) ++ (2 ∷ 240 ∷ 128 ∷ request_data user body)) size

-- a body behind its headers
pub data_is : (old body m n : List ℕ) (user : ℕ) → m ≡ old ++ request_headers user (length body) → n ≡ m ++ body → n ≡ old ++ send_data user body
data_is old body m n user e f = before old (request_headers user (length body)) body m n e f ∙ ap (λ xs. old ++ xs) (headers_before user body)

-- ---- sets

pub sizes_length : (sizes : List CacheSize) → length (sizes_bytes sizes) ≡ 4 * length sizes
sizes_length [] = refl
sizes_length (s ∷ ss) = let more = sizes_length ss in omega (arith, more)

-- three caches
pub bitmaps_are : (c : Confirmed) → length c.bitmaps ≡ 3 → (4 ∷ 0 ∷ 40 ∷ 0 ∷ replicate 24 0) ++ sizes_bytes c.bitmaps ≡ bitmap_caches_of c
bitmaps_are c three =
    let bytes = sizes_length c.bitmaps in
    let size : 40 ≡ 4 + length (replicate 24 0 ++ sizes_bytes c.bitmaps) = omega (arith, bytes, three) in
    ap (λ (n : ℕ). 4 ∷ 0 ∷ (little_bytes 2 n ++ (replicate 24 0 ++ sizes_bytes c.bitmaps))) size

-- ten
pub glyphs_are : (c : Confirmed) → length c.glyphs ≡ 10
    → (16 ∷ 0 ∷ 52 ∷ 0 ∷ []) ++ (sizes_bytes c.glyphs ++ (replicate 4 0 ++ (little_bytes 2 c.glyph_level ++ replicate 2 0))) ≡ glyph_caches_of c
glyphs_are c ten =
    let tail : List ℕ = replicate 4 0 ++ (little_bytes 2 c.glyph_level ++ replicate 2 0) in
    let bytes = sizes_length c.glyphs in
    let both = length-append (sizes_bytes c.glyphs) tail in
    let eight : length tail ≡ 8 = refl in
    let size : 52 ≡ 4 + length (sizes_bytes c.glyphs ++ tail) = omega (arith, bytes, both, eight, ten) in
    ap (λ (n : ℕ). 16 ∷ 0 ∷ (little_bytes 2 n ++ (sizes_bytes c.glyphs ++ tail))) size

-- a name's letters have two bytes each
pub wide_length : (name : List ℕ) → length (wide name) ≡ 2 * length name
wide_length [] = refl
wide_length (c ∷ cs) = let more = wide_length cs in omega (arith, more)

pub info_length : (name : List ℕ) → length name ≤ 64 → length (info_body name) ≤ 160
info_length name h =
    let units = wide_length name in
    let both = length-append (wide name) (replicate 8 0) in
    let eight : length (replicate {A = ℕ} 8 0) ≡ 8 = refl in
    omega (arith, h, units, both, eight)

pub appended_length : (old more new : List ℕ) → new ≡ old ++ more → length new ≡ length old + length more
appended_length old more new e = ap length e ∙ length-append old more

-- Confirm Active has 246
pub confirm_length : (user : ℕ) (c : Confirmed) → length c.bitmaps ≡ 3 → length c.glyphs ≡ 10 → length (confirm_body user c) ≡ 246
confirm_length user c three ten =
    let maps = sizes_length c.bitmaps in
    let glyphs = sizes_length c.glyphs in
    let tail : List ℕ = replicate 4 0 ++ (little_bytes 2 c.glyph_level ++ replicate 2 0) in
    let a = length-append (bitmap_caches_of c) (brush_of c ++ (glyph_caches_of c ++ no_pointers)) in
    let b = length-append (sizes_bytes c.glyphs) tail in
    let d = length-append (glyph_caches_of c) no_pointers in
    omega (arith, maps, glyphs, a, b, d, three, ten)
