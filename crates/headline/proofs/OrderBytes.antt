-- The bytes of an order are bytes.
use Rattle.std.proofs.Common.{◌≡◌, ℕ, zero, suc, ◌+◌, ◌-◌, ◌<◌, ◌≤◌, List, [], ◌∷◌, ◌++◌, length, refl, sym, subst, arith, Some, None, Bool, true, false}
use Rattle.std.specs.Prelude.{ℤ, ◌-ℤ◌, ◌&&◌, Option, ⊤, ◌==◌, nat_lt, flat_map, replicate, if◌then◌else◌}
use Rattle.std.proofs.lemmas.Bool.{and_parts}
use Rattle.std.proofs.lemmas.Bool.Decides.{nat_tests}
use Rattle.std.proofs.lemmas.List.Elements.{All-nil, All-cons, All-append}
use Rattle.px_core.specs.Picture.{nat_of, turned_over}
use Rattle.run_lengths.specs.RunLength.{Run}
use Rattle.run_lengths.specs.RunLength.Run.{Background, Foreground, Mask, Color, Image, Dithered}
use Rattle.run_lengths.specs.Packer.{length_bytes, run_bytes, packed_runs, first_stretch, later_stretch, packed}
use Rattle.px_core.specs.declared.depth.Depth.{Depth}
use Rattle.px_core.specs.declared.depth.Depth.TheVariants.{Bits24, Bits16}
use Rattle.px_core.specs.Depth.{bits_in, bytes_in, brush_format, brush_bytes, shown_colors}
use Rattle.px_core.specs.declared.rectangle.Rect.{Rect}
use Rattle.order_fields.specs.declared.kind.FieldKind.{FieldKind}
use Rattle.order_fields.specs.declared.kind.FieldKind.TheVariants.{Coordinate, Number, Signed, Color as ColorKind}
use Rattle.order_fields.specs.declared.change.Change.{Change}
use Rattle.order_fields.specs.declared.change.Change.TheVariants.{Same, Moved, Anew}
use Rattle.byteorder.specs.Endian.{little_bytes}
use Rattle.wire_num.specs.Number.{unsigned, little_signed}
use Rattle.px_core.specs.Pixels.{pixel_bytes, pixels_bytes}
use Rattle.wire_num.proofs.Numbers.{little_are_bytes, big_are_bytes}
use Rattle.order_fields.specs.OrderTable.{Row, row_of, row_in, chosen_row, table, Registers, Values, Edges}
use Rattle.order_fields.specs.OrderDelta.{Field, is_unchanged, value_bytes, unless_same, field_bytes, present_bytes, shown, flags_of, change, is_anew, is_moved}
use Rattle.order_fields.specs.OrderDelta.{edge_bytes, edge_flags, flags_between, far_edges, later_edges, edges_bytes, bounds_bytes, bit, control_byte}
use Rattle.order_fields.specs.OrderDelta.{type_bytes, has_bounds, keeps_bounds, takes_deltas, fields_in, keeps_bytes_in, is_typed, omitted_in, bytes_by_row}
use Rattle.order_fields.specs.OrderDelta.{edges_of_optional}
use Rattle.order_fields.specs.NamedDrawing.{NamedDrawing, drawing_fields}
use Rattle.order_fields.specs.NamedDrawing.NamedDrawing.{Dst, Pat, Scr, Opaque, SaveBlock, RestoreBlock, Mem, Mem3, Glyphs}
use Rattle.run_lengths.specs.WirePixels.{PixelData, data_of, packed_if_shorter, padded}
use Rattle.order_means.specs.KeptContent.{kept_image, padded_glyph}
use Rattle.order_means.specs.CacheOrders.{secondary_bytes, cache_bitmap_body, cache_bitmap_data}
use Rattle.caps_sets.specs.declared.confirmed.Confirmed.{Confirmed}
use Rattle.caps_sets.specs.Confirmed.{depth_of}
use Rattle.frame_rules.specs.FrameOrders.{SentOrder}
use Rattle.frame_rules.specs.FrameOrders.SentOrder.{Drawn, CacheImage, CacheGlyph, CacheBrush, FrameMarker}
use Rattle.frame_rules.specs.FrameBytes.{bytes_of_order}
use Rattle.headline.specs.Sent.{AreBytes}
use Rattle.headline.specs.OrderBytes.{counted_bytes, HoldsBytes}

pub bytes_nil : AreBytes []
bytes_nil = All-nil (λ b. b < 256)

pub bytes_cons : (b : ℕ) (bs : List ℕ) → b < 256 → AreBytes bs → AreBytes (b ∷ bs)
bytes_cons b bs h hs = All-cons (λ b. b < 256) b bs h hs

pub bytes_append : (xs ys : List ℕ) → AreBytes xs → AreBytes ys → AreBytes (xs ++ ys)
bytes_append xs ys hx hy = All-append (λ b. b < 256) xs ys hx hy

abbrev pub all_below_256 : List ℕ → Bool
all_below_256 [] = true
all_below_256 (b ∷ bs) = nat_lt b 256 && all_below_256 bs

below : (b : ℕ) → nat_lt b 256 ≡ true → b < 256
below b e = grind (arith, nat_tests, e)

-- known bytes before others
pub bytes_after : (known bs : List ℕ) → all_below_256 known ≡ true → AreBytes bs → AreBytes (known ++ bs)
bytes_after [] bs e h = h
bytes_after (b ∷ known) bs e h =
    let p = and_parts (nat_lt b 256) (all_below_256 known) e in
    bytes_cons b (known ++ bs) (below b p.0) (bytes_after known bs p.1 h)

pub flat_are_bytes : {A : Type 0} (f : A → List ℕ) (xs : List A) → ((x : A) → AreBytes (f x)) → AreBytes (flat_map f xs)
flat_are_bytes f [] h = bytes_nil
flat_are_bytes f (x ∷ xs) h = bytes_append (f x) (flat_map f xs) (h x) (flat_are_bytes f xs h)

signed_are_bytes : (n : ℕ) (z : ℤ) → AreBytes (little_signed n z)
signed_are_bytes n z = little_are_bytes n (unsigned n z)

-- ---- primary orders

value_are_bytes : (k : FieldKind) (delta : Bool) (last z : ℤ) → AreBytes (value_bytes k delta last z)
value_are_bytes Coordinate true last z = signed_are_bytes 1 (z -ℤ last)
value_are_bytes Coordinate false last z = signed_are_bytes 2 z
value_are_bytes (Number n) delta last z = little_are_bytes n (nat_of z)
value_are_bytes Signed delta last z = signed_are_bytes 2 z
value_are_bytes ColorKind delta last z = big_are_bytes 3 (nat_of z)

unless_are_bytes : (b : Bool) (bytes : List ℕ) → AreBytes bytes → AreBytes (unless_same b bytes)
unless_are_bytes true bytes h = bytes_nil
unless_are_bytes false bytes h = h

present_are_bytes : (fs : List Field) (delta keeps : Bool) (bytes : List ℕ) → AreBytes bytes → length bytes < 256
    → AreBytes (present_bytes fs delta keeps bytes)
present_are_bytes [] delta keeps bytes h few = unless_are_bytes keeps (length bytes ∷ bytes) (bytes_cons (length bytes) bytes few h)
present_are_bytes (f ∷ fs) delta keeps bytes h few =
    bytes_append (field_bytes delta f) (present_bytes fs delta keeps bytes)
    (unless_are_bytes (is_unchanged f) (value_bytes f.kind delta f.last f.value) (value_are_bytes f.kind delta f.last f.value))
    (present_are_bytes fs delta keeps bytes h few)

type_are_bytes : (b : Bool) (code : ℕ) → code < 256 → AreBytes (type_bytes b code)
type_are_bytes true code h = bytes_cons code [] h bytes_nil
type_are_bytes false code h = bytes_nil

edge_are_bytes : (c : Change) (l z : ℤ) → AreBytes (edge_bytes c l z)
edge_are_bytes Same l z = bytes_nil
edge_are_bytes Moved l z = signed_are_bytes 1 (z -ℤ l)
edge_are_bytes Anew l z = signed_are_bytes 2 z

anew_most : (c : Change) → is_anew c ≤ 1
anew_most Same = omega arith
anew_most Moved = omega arith
anew_most Anew = omega arith

moved_most : (c : Change) → is_moved c ≤ 1
moved_most Same = omega arith
moved_most Moved = omega arith
moved_most Anew = omega arith

edge_flags_are_byte : (l t r b : Change) → edge_flags l t r b < 256
edge_flags_are_byte l t r b =
    omega (arith, anew_most l, anew_most t, anew_most r, anew_most b, moved_most l, moved_most t, moved_most r, moved_most b)

edges_are_bytes : (old new : Edges) → AreBytes (edges_bytes old new)
edges_are_bytes old new =
    let l = change old.left new.left in
    let t = change old.top new.top in
    let r = change old.right new.right in
    let b = change old.bottom new.bottom in
    bytes_append (edge_bytes l old.left new.left) (later_edges old new) (edge_are_bytes l old.left new.left)
    (bytes_append (edge_bytes t old.top new.top) (far_edges old new) (edge_are_bytes t old.top new.top)
    (bytes_append (edge_bytes r old.right new.right) (edge_bytes b old.bottom new.bottom) (edge_are_bytes r old.right new.right)
    (edge_are_bytes b old.bottom new.bottom)))

bounds_are_bytes : (keeps : Bool) (old : Edges) (bounds : Option Edges) → AreBytes (bounds_bytes keeps old bounds)
bounds_are_bytes keeps old None = bytes_nil
bounds_are_bytes true old (Some new) = bytes_nil
bounds_are_bytes false old (Some new) =
    bytes_cons (flags_between old new) (edges_bytes old new)
    (edge_flags_are_byte (change old.left new.left) (change old.top new.top) (change old.right new.right) (change old.bottom new.bottom))
    (edges_are_bytes old new)

bit_most : (b : Bool) → bit b ≤ 1
bit_most true = omega arith
bit_most false = omega arith

control_is_byte : (bounded typed delta keeps : Bool) (omitted : ℕ) → omitted ≤ 3 → control_byte bounded typed delta keeps omitted < 256
control_is_byte bounded typed delta keeps omitted h = omega (arith, h, bit_most bounded, bit_most typed, bit_most delta, bit_most keeps)

record IsSmallRow (r : Row) : Type 0 where
  code : r.code < 256
  flags : r.flags ≤ 3

abbrev IsSmall : Option Row → Type 0
IsSmall None = ⊤
IsSmall (Some r) = IsSmallRow r

abbrev AreSmall : List Row → Type 0
AreSmall [] = ⊤
AreSmall (r ∷ rs) = IsSmallRow r × AreSmall rs

row_is_small : (rs : List Row) (code : ℕ) → AreSmall rs → IsSmall (row_in rs code)
row_is_small [] code h = tt
row_is_small (r ∷ rs) code h = by (r.code == code) (row_is_small rs code h.1)
  where
    by : (b : Bool) → IsSmall (row_in rs code) → IsSmall (chosen_row b r (row_in rs code))
    by true later = h.0
    by false later = later

table_is_small : AreSmall table
table_is_small = (
  record { code = omega arith; flags = omega arith },
  (
    record { code = omega arith; flags = omega arith },
    (
      record { code = omega arith; flags = omega arith },
      (
        record { code = omega arith; flags = omega arith },
        (
          record { code = omega arith; flags = omega arith },
          (
            record { code = omega arith; flags = omega arith },
            (record { code = omega arith; flags = omega arith }, (record { code = omega arith; flags = omega arith }, tt)),
          ),
        ),
      ),
    ),
  ),
)

omitted_most : (flags most n : ℕ) → flags ≤ most → flags - n ≤ most
omitted_most flags most n h = omega (arith, h)

row_are_bytes : (o : Option Row) (regs : Registers) (confirmed : Bool) (vs : Values) (bounds : Option Edges) → IsSmall o → AreBytes vs.bytes
    → length vs.bytes < 256
    → AreBytes (bytes_by_row o regs confirmed vs bounds)
row_are_bytes None regs confirmed vs bounds small h few = bytes_nil
row_are_bytes (Some r) regs confirmed vs bounds small h few =
    let fs = fields_in r regs vs in
    let keeps = keeps_bytes_in r regs vs in
    let flags = flags_of fs keeps in
    let keeps_edges = keeps_bounds confirmed regs.bounds bounds in
    let a = type_bytes (is_typed r regs) r.code in
    let b = little_bytes (shown flags) flags in
    let c = bounds_bytes keeps_edges regs.bounds bounds in
    let d = present_bytes fs (takes_deltas fs) keeps vs.bytes in
    let tail = bytes_append a (b ++ (c ++ d)) (type_are_bytes (is_typed r regs) r.code small.code)
    (bytes_append b (c ++ d) (little_are_bytes (shown flags) flags)
    (bytes_append c d (bounds_are_bytes keeps_edges regs.bounds bounds) (present_are_bytes fs (takes_deltas fs) keeps vs.bytes h few))) in
    bytes_cons (control_byte (has_bounds bounds) (is_typed r regs) (takes_deltas fs) keeps_edges (omitted_in r regs vs)) (a ++ (b ++ (c ++ d)))
    (control_is_byte (has_bounds bounds) (is_typed r regs) (takes_deltas fs) keeps_edges (omitted_in r regs vs)
    (omitted_most r.flags 3 (shown flags) small.flags))
    tail

-- ---- pixels

pixels_are_bytes : (depth : Depth) (pixels : List ℕ) → AreBytes (pixels_bytes depth pixels)
pixels_are_bytes depth pixels = flat_are_bytes (pixel_bytes depth) pixels (λ color. little_are_bytes (bytes_in depth) color)

length_are_bytes : (code long_code n : ℕ) → code ≤ 128 → long_code < 256 → AreBytes (length_bytes code long_code n)
length_are_bytes code long_code n low small = by (nat_lt n 32) refl (nat_lt n 288) refl
  where
    by : (a : Bool) → nat_lt n 32 ≡ a → (b : Bool) → nat_lt n 288 ≡ b
        → AreBytes (if a then (code + n) ∷ [] else (if b then code ∷ (n - 32) ∷ [] else long_code ∷ little_bytes 2 n))
    by true e b f = let short : n < 32 = grind (arith, nat_tests, e) in bytes_cons (code + n) [] (omega (arith, short, low)) bytes_nil
    by false e true f =
        let short : n < 288 = grind (arith, nat_tests, f) in
        bytes_cons code ((n - 32) ∷ []) (omega (arith, low)) (bytes_cons (n - 32) [] (omega (arith, short)) bytes_nil)
    by false e false f = bytes_cons long_code (little_bytes 2 n) small (little_are_bytes 2 n)

run_are_bytes : (depth : Depth) (r : Run) → AreBytes (run_bytes depth r)
run_are_bytes depth (Background n) = length_are_bytes 0x00 0xF0 n (omega arith) (omega arith)
run_are_bytes depth (Color n color) =
    bytes_append (length_bytes 0x60 0xF3 n) (pixel_bytes depth color) (length_are_bytes 0x60 0xF3 n (omega arith) (omega arith)) (little_are_bytes (bytes_in depth) color)
run_are_bytes depth (Image colors) =
    bytes_append (length_bytes 0x80 0xF4 (length colors)) (pixels_bytes depth colors)
    (length_are_bytes 0x80 0xF4 (length colors) (omega arith) (omega arith)) (pixels_are_bytes depth colors)
run_are_bytes depth (Foreground n) = bytes_nil
run_are_bytes depth (Mask bits) = bytes_nil
run_are_bytes depth (Dithered n first second) = bytes_nil

packed_are_bytes : (depth : Depth) (w : ℕ) (pixels : List ℕ) → AreBytes (packed depth w pixels)
packed_are_bytes depth w pixels =
    let first = packed_runs (first_stretch w pixels) in
    let later = packed_runs (later_stretch w pixels) in
    bytes_append (flat_map (run_bytes depth) first) (flat_map (run_bytes depth) later) (flat_are_bytes (run_bytes depth) first (run_are_bytes depth))
    (flat_are_bytes (run_bytes depth) later (run_are_bytes depth))

shorter_are_bytes : (a b : List ℕ) → AreBytes a → AreBytes b → AreBytes (packed_if_shorter a b).bytes
shorter_are_bytes a b ha hb = by (nat_lt (length a) (length b))
  where
    by : (t : Bool) → AreBytes
        (if t then (let p : PixelData = record { is_packed = true; bytes = a } in p) else
        (let p : PixelData = record { is_packed = false; bytes = b } in p)).bytes
    by true = ha
    by false = hb

pub data_are_bytes : (depth : Depth) (no_header : Bool) (w : ℕ) (pixels : List ℕ) → AreBytes (data_of depth no_header w pixels).bytes
data_are_bytes depth false w pixels = pixels_are_bytes depth pixels
data_are_bytes depth true w pixels = shorter_are_bytes (packed depth w pixels) (pixels_bytes depth pixels) (packed_are_bytes depth w pixels) (pixels_are_bytes depth pixels)

-- ---- secondary orders

secondary_are_bytes : (flags kind : ℕ) (body : List ℕ) → kind < 256 → AreBytes body → AreBytes (secondary_bytes flags kind body)
secondary_are_bytes flags kind body small h =
    let a = little_bytes 2 (length body - 7) in
    let b = little_bytes 2 flags in
    bytes_cons 3 (a ++ (b ++ kind ∷ body)) (omega arith)
    (bytes_append a (b ++ kind ∷ body) (little_are_bytes 2 (length body - 7))
    (bytes_append b (kind ∷ body) (little_are_bytes 2 flags) (bytes_cons kind body small h)))

bits_small : (depth : Depth) → bits_in depth < 256
bits_small Bits24 = omega arith
bits_small Bits16 = omega arith

format_small : (depth : Depth) → brush_format depth < 256
format_small Bits24 = omega arith
format_small Bits16 = omega arith

brush_small : (depth : Depth) → brush_bytes depth < 256
brush_small Bits24 = omega arith
brush_small Bits16 = omega arith

image_body_are_bytes : (depth : Depth) (cache index w h : ℕ) (bytes : List ℕ) → cache < 256 → w < 256 → h < 256 → AreBytes bytes
    → AreBytes (cache_bitmap_body depth cache index w h bytes)
image_body_are_bytes depth cache index w h bytes c wide high are =
    let a = little_bytes 2 (length bytes) in
    let b = little_bytes 2 index in
    let data_bytes = bytes_append a (b ++ bytes) (little_are_bytes 2 (length bytes)) (bytes_append b bytes (little_are_bytes 2 index) are) in
    bytes_cons cache (0 ∷ w ∷ h ∷ bits_in depth ∷ (a ++ (b ++ bytes))) c (bytes_cons 0 (w ∷ h ∷ bits_in depth ∷ (a ++ (b ++ bytes))) (omega arith)
    (bytes_cons w (h ∷ bits_in depth ∷ (a ++ (b ++ bytes))) wide
    (bytes_cons h (bits_in depth ∷ (a ++ (b ++ bytes))) high (bytes_cons (bits_in depth) (a ++ (b ++ bytes)) (bits_small depth) data_bytes))))

image_data_are_bytes : (depth : Depth) (cache index w h : ℕ) (p : PixelData) → cache < 256 → w < 256 → h < 256 → AreBytes p.bytes
    → AreBytes (cache_bitmap_data depth cache index w h p)
image_data_are_bytes depth cache index w h p c wide high are =
    by p.is_packed (image_body_are_bytes depth cache index w h p.bytes c wide high are)
  where
    by : (b : Bool) → AreBytes (cache_bitmap_body depth cache index w h p.bytes)
        → AreBytes (if b then secondary_bytes 0x0400 2 (cache_bitmap_body depth cache index w h p.bytes) else secondary_bytes 0 0
        (cache_bitmap_body depth cache index w h p.bytes))
    by true body = secondary_are_bytes 0x0400 2 (cache_bitmap_body depth cache index w h p.bytes) (omega arith) body
    by false body = secondary_are_bytes 0 0 (cache_bitmap_body depth cache index w h p.bytes) (omega arith) body

zeros_are_bytes : (n : ℕ) → AreBytes (replicate n 0)
zeros_are_bytes zero = bytes_nil
zeros_are_bytes (suc n) = bytes_cons 0 (replicate n 0) (omega arith) (zeros_are_bytes n)

-- ---- an order of a frame

-- the counted bytes of a drawing's fields
counted_again : (depth : Depth) (area : Rect) (d : NamedDrawing) → (drawing_fields depth area d).values.bytes ≡ counted_bytes d
counted_again depth area (Dst r code) = refl
counted_again depth area (Pat r code entry) = refl
counted_again depth area (Scr r code sx sy) = refl
counted_again depth area (Opaque r color) = refl
counted_again depth area (SaveBlock position r) = refl
counted_again depth area (RestoreBlock position r) = refl
counted_again depth area (Mem cache index r code sx sy) = refl
counted_again depth area (Mem3 cache index r code sx sy entry) = refl
counted_again depth area (Glyphs cache x y color run) = refl

pub order_are_bytes : (c : Confirmed) (regs : Registers) (o : SentOrder) → HoldsBytes o → AreBytes (bytes_of_order c regs o)
order_are_bytes c regs (Drawn touched d bounds) h =
    let o = drawing_fields (depth_of c) touched d in
    let is = counted_again (depth_of c) touched d in
    row_are_bytes (row_of o.code) regs c.zero_bounds o.values (edges_of_optional bounds) (row_is_small table o.code table_is_small)
    (subst AreBytes (sym is) h.0) (subst (λ bs. length bs < 256) (sym is) h.1)
order_are_bytes c regs (CacheImage cache index image) h =
    let p = kept_image (depth_of c) image in
    let pixels = turned_over p.w p.h p.pixels in
    image_data_are_bytes (depth_of c) cache index p.w p.h (data_of (depth_of c) c.no_header p.w pixels) h.0 h.1 h.2
    (data_are_bytes (depth_of c) c.no_header p.w pixels)
order_are_bytes c regs (CacheGlyph cache index glyph) h =
    let bits = (padded_glyph glyph).bits in
    let i = little_bytes 2 index in
    let x = little_signed 2 glyph.x in
    let y = little_signed 2 glyph.y in
    let wide = little_bytes 2 glyph.cx in
    let high = little_bytes 2 glyph.cy in
    let are = bytes_append glyph.bits (replicate (padded (length glyph.bits) - length glyph.bits) 0) h.1
    (zeros_are_bytes (padded (length glyph.bits) - length glyph.bits)) in
    let body = bytes_append i (x ++ (y ++ (wide ++ (high ++ bits)))) (little_are_bytes 2 index)
    (bytes_append x (y ++ (wide ++ (high ++ bits))) (signed_are_bytes 2 glyph.x)
    (bytes_append y (wide ++ (high ++ bits)) (signed_are_bytes 2 glyph.y)
    (bytes_append wide (high ++ bits) (little_are_bytes 2 glyph.cx) (bytes_append high bits (little_are_bytes 2 glyph.cy) are)))) in
    let rest = i ++ (x ++ (y ++ (wide ++ (high ++ bits)))) in
    secondary_are_bytes 0 3 (cache ∷ 1 ∷ rest) (omega arith) (bytes_cons cache (1 ∷ rest) h.0 (bytes_cons 1 rest (omega arith) body))
order_are_bytes c regs (CacheBrush entry brush) h =
    let depth = depth_of c in
    let cut = turned_over 8 8 (shown_colors depth brush) in
    let pixels = pixels_bytes depth cut in
    let format = brush_format depth in
    let count = brush_bytes depth in
    secondary_are_bytes 0 7 (entry ∷ format ∷ 8 ∷ 8 ∷ 0 ∷ count ∷ pixels) (omega arith)
    (bytes_cons entry (format ∷ 8 ∷ 8 ∷ 0 ∷ count ∷ pixels) h (bytes_cons format (8 ∷ 8 ∷ 0 ∷ count ∷ pixels) (format_small depth)
    (bytes_cons 8 (8 ∷ 0 ∷ count ∷ pixels) (omega arith) (bytes_cons 8 (0 ∷ count ∷ pixels) (omega arith)
    (bytes_cons 0 (count ∷ pixels) (omega arith) (bytes_cons count pixels (brush_small depth) (pixels_are_bytes depth cut)))))))
order_are_bytes c regs (FrameMarker ends) h = bytes_cons 54 (little_bytes 4 (bit ends)) (omega arith) (little_are_bytes 4 (bit ends))
