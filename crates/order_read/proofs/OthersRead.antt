-- Secondary orders from their parts.
use Rattle.std.proofs.Common.{◌≡◌, ◌≤◌, ◌<◌, ◌+◌, ◌-◌, ℕ, suc, List, [], ◌∷◌, ◌++◌, length, take, drop, refl, ap, sym, ◌∙◌, arith, Bool, true, false}
use Rattle.std.specs.Prelude.{Ok, Err, map, nat_lt, ◌==◌}
use Rattle.std.proofs.lemmas.List.{length-take-le}
use Rattle.std.proofs.lemmas.Bool.Decides.{nat_tests}
use Rattle.wire_num.specs.Field.{Read, then_read, map_read, given, bytes_at, wanted, taken}
use Rattle.wire_num.specs.Number.{little_at, little_signed_at}
use Rattle.px_core.specs.declared.depth.Depth.{Depth}
use Rattle.px_core.specs.Depth.{brush_format, brush_bytes}
use Rattle.px_core.specs.Pixels.{pixels_of}
use Rattle.wire_num.specs.FieldValue.{as_one_field}
use Rattle.wire_num.specs.Cursor.{CursorOf, rest}
use Rattle.wire_num.proofs.Content.{rest_of_content}
use Rattle.order_fields.specs.Secondary.{Cached, bitmap_at, glyph_at, glyphs_at, glyph_length, glyph_order_at, brush_at, secondary_at, secondary_body, secondary_kind, marker_at, within_total, filled}
use Rattle.order_fields.specs.Secondary.Cached.{Bitmap, Glyph, Brush, Marker}
use Rattle.order_fields.specs.OrderStream.{Order}
use Rattle.order_fields.specs.OrderStream.Order.{Other}
use Rattle.order_read.specs.declared.secondary.BitmapHead.{BitmapHead}
use Rattle.order_read.specs.declared.secondary.GlyphHead.{GlyphHead}
use Rattle.order_read.specs.Others.{others, bitmap_head_at, glyph_head_at, one_glyph_at, brush_head_at, inside_at}
use Rattle.order_read.proofs.ValuesRead.{taken_as}

-- a field before what is read after those behind it
step : {A B C : Type 0} (r : Read A) (f : A → List ℕ → Read B) (g : A → List ℕ → Read C) (after : B → List ℕ → Read C) → ((v : A) (more : List ℕ) → g v more ≡ then_read (f v more) after) → then_read r g ≡ then_read (then_read r f) after
step (Ok v) f g after e = e v.0 v.1
step (Err left) f g after e = refl

last : {A B C : Type 0} (r : Read A) (f : A → B) (g : A → List ℕ → Read C) (after : B → List ℕ → Read C) → ((v : A) (more : List ℕ) → g v more ≡ after (f v) more) → then_read r g ≡ then_read (map_read f r) after
last (Ok v) f g after e = e v.0 v.1
last (Err left) f g after e = refl

-- ---- bitmaps

abbrev bitmap_of : ℕ → Bool → BitmapHead → List ℕ → Cached
bitmap_of flags packed head bytes = Bitmap (record { cache = head.cache; index = head.index; w = head.w; h = head.h; depth = head.depth; flags = flags; packed = packed; bytes = bytes })

bitmap_from : (flags : ℕ) (packed : Bool) (bs : List ℕ) → bitmap_at flags packed bs ≡ then_read (bitmap_head_at bs) (λ head more. map_read (λ xs. bitmap_of flags packed head xs ∷ []) (bytes_at head.count more))
bitmap_from flags packed bs =
    step (little_at 1 bs) _ _ _ (λ cache a. step (little_at 1 a) _ _ _ (λ pad b. step (little_at 1 b) _ _ _ (λ w c. step (little_at 1 c) _ _ _ (λ h d.
    step (little_at 1 d) _ _ _ (λ depth e. step (little_at 2 e) _ _ _ (λ count f. last (little_at 2 f) _ _ _ (λ index g. refl)))))))

pub bitmap_read : (flags : ℕ) (packed : Bool) (head : BitmapHead) (a b more xs : List ℕ) → bitmap_head_at a ≡ Ok (head, b) → bytes_at head.count b ≡ Ok (xs, more) →
    others (bitmap_at flags packed) a ≡ Ok (Other (bitmap_of flags packed head xs) ∷ [], more)
bitmap_read flags packed head a b more xs e f =
    ap (map_read (map Other)) (bitmap_from flags packed a ∙ ap (λ r. then_read r (λ head more. map_read (λ xs. bitmap_of flags packed head xs ∷ []) (bytes_at head.count more))) e ∙ ap (map_read (λ xs. bitmap_of flags packed head xs ∷ [])) f)

-- ---- glyphs

abbrev glyph_by : ℕ → GlyphHead → List ℕ → Cached
glyph_by cache head bits = Glyph (record { cache = cache; index = head.index; x = head.x; y = head.y; cx = head.cx; cy = head.cy; bits = bits })

glyph_from : (cache : ℕ) (bs : List ℕ) → glyph_at cache bs ≡ then_read (glyph_head_at bs) (λ head more. map_read (glyph_by cache head) (bytes_at (glyph_length head.cx head.cy) more))
glyph_from cache bs =
    step (little_at 2 bs) _ _ _ (λ index a. step (little_signed_at 2 a) _ _ _ (λ x b. step (little_signed_at 2 b) _ _ _ (λ y c. step (little_at 2 c) _ _ _ (λ cx d. last (little_at 2 d) _ _ _ (λ cy e. refl)))))

pub glyph_read : (cache : ℕ) (head : GlyphHead) (a b more bits : List ℕ) → glyph_head_at a ≡ Ok (head, b) → bytes_at (glyph_length head.cx head.cy) b ≡ Ok (bits, more) →
    others (one_glyph_at cache) a ≡ Ok (Other (glyph_by cache head bits) ∷ [], more)
glyph_read cache head a b more bits e f =
    ap (λ r. map_read (map Other) (map_read (λ o. o ∷ []) r)) (glyph_from cache a ∙ ap (λ r. then_read r (λ head more. map_read (glyph_by cache head) (bytes_at (glyph_length head.cx head.cy) more))) e ∙ ap (map_read (glyph_by cache head)) f)

-- ---- markers

pub marker_read : (action : ℕ) (a more : List ℕ) (end : Bool) → little_at 4 a ≡ Ok (action, more) → action ≤ 1 → end ≡ (action == 1) → others marker_at a ≡ Ok (Other (Marker end) ∷ [], more)
marker_read action a more end e few is =
    let test : nat_lt action 2 ≡ true = grind (arith, nat_tests) in
    ap (map_read (map Other)) (ap (λ r. then_read r (λ n rest. given (nat_lt n 2) (Marker (n == 1) ∷ []) rest a)) e ∙ ap (λ b. given b (Marker (action == 1) ∷ []) more a) test) ∙ ap (λ b. Ok (Other (Marker b) ∷ [], more)) (sym is)

pub marker_refused : (action : ℕ) (a more : List ℕ) → little_at 4 a ≡ Ok (action, more) → 1 < action → others marker_at a ≡ Err a
marker_refused action a more e many =
    let test : nat_lt action 2 ≡ false = grind (arith, nat_tests) in
    ap (map_read (map Other)) (ap (λ r. then_read r (λ n rest. given (nat_lt n 2) (Marker (n == 1) ∷ []) rest a)) e ∙ ap (λ b. given b (Marker (action == 1) ∷ []) more a) test)

-- ---- several glyphs

glyph_then : (r : Read Cached) (f : List ℕ → Read (List Cached)) (os : List Order) (more : List ℕ) → map_read (map Other) (map_read (λ o. o ∷ []) r) ≡ Ok (os, more) →
    map_read (map Other) (then_read r (λ o rest. map_read (λ xs. o ∷ xs) (f rest))) ≡ map_read (λ xs. os ++ xs) (map_read (map Other) (f more))
glyph_then (Err left) f os more e = absurd (let no : ⊥ = cc in no)
glyph_then (Ok v) f os more e =
    let pair : ◌≡◌ {A = List Order × List ℕ} (Other v.0 ∷ [], v.1) (os, more) = cc in
    ends (f v.1) v.0 ∙ ap (λ (p : List Order × List ℕ). map_read (λ xs. p.0 ++ xs) (map_read (map Other) (f p.1))) pair
  where
    ends : (r : Read (List Cached)) (o : Cached) → map_read (map Other) (map_read (λ xs. o ∷ xs) r) ≡ map_read (λ xs. (Other o ∷ []) ++ xs) (map_read (map Other) r)
    ends (Ok w) o = refl
    ends (Err left) o = refl

glyph_stops : (r : Read Cached) (f : List ℕ → Read (List Cached)) (left : List ℕ) → map_read (map Other) (map_read (λ o. o ∷ []) r) ≡ Err left →
    map_read (map Other) (then_read r (λ o rest. map_read (λ xs. o ∷ xs) (f rest))) ≡ Err left
glyph_stops (Ok v) f left e = absurd (let no : ⊥ = cc in no)
glyph_stops (Err l) f left e = let same : l ≡ left = cc in ap (λ k. Err k) same

pub one_glyph : (n k cache : ℕ) (bs more : List ℕ) (os : List Order) → k < n → others (one_glyph_at cache) bs ≡ Ok (os, more) →
    others (glyphs_at (n - k) cache) bs ≡ map_read (λ xs. os ++ xs) (others (glyphs_at (n - (k + 1)) cache) more)
one_glyph n k cache bs more os lt e =
    let is : n - k ≡ suc (n - (k + 1)) = omega arith in
    ap (λ m. others (glyphs_at m cache) bs) is ∙ glyph_then (glyph_at cache bs) (glyphs_at (n - (k + 1)) cache) os more e

pub no_glyph : (n k cache : ℕ) (bs left : List ℕ) → k < n → others (one_glyph_at cache) bs ≡ Err left → others (glyphs_at (n - k) cache) bs ≡ Err left
no_glyph n k cache bs left lt e =
    let is : n - k ≡ suc (n - (k + 1)) = omega arith in
    ap (λ m. others (glyphs_at m cache) bs) is ∙ glyph_stops (glyph_at cache bs) (glyphs_at (n - (k + 1)) cache) left e

pub glyphs_end : (n k cache : ℕ) (bs : List ℕ) → n ≤ k → others (glyphs_at (n - k) cache) bs ≡ Ok ([], bs)
glyphs_end n k cache bs le = let none : n - k ≡ 0 = omega arith in ap (λ m. others (glyphs_at m cache) bs) none

pub glyphs_behind : (a b d : List ℕ) (cache n : ℕ) → little_at 1 a ≡ Ok (cache, b) → little_at 1 b ≡ Ok (n, d) → others glyph_order_at a ≡ others (glyphs_at n cache) d
glyphs_behind a b d cache n e f =
    ap (λ r. map_read (map Other) (then_read r (λ cache a. then_read (little_at 1 a) (λ n b. glyphs_at n cache b)))) e ∙ ap (λ r. map_read (map Other) (then_read r (λ n b. glyphs_at n cache b))) f

-- ---- brushes

abbrev brush_by : Depth → ℕ → List ℕ → Cached
brush_by depth entry xs = Brush (record { entry = entry; pixels = pixels_of depth xs })

brush_from : (depth : Depth) (bs : List ℕ) → brush_at depth bs ≡ then_read (brush_head_at depth bs) (λ entry more. map_read (λ xs. brush_by depth entry xs ∷ []) (bytes_at (brush_bytes depth) more))
brush_from depth bs =
    step (little_at 1 bs) _ _ _ (λ entry a. step (wanted (brush_format depth ∷ []) a) _ _ _ (λ format b. step (wanted (8 ∷ 8 ∷ []) b) _ _ _ (λ sides c. step (little_at 1 c) _ _ _ (λ style d. last (wanted (brush_bytes depth ∷ []) d) _ _ _ (λ count e. refl)))))

pub brush_read : (depth : Depth) (entry : ℕ) (a b more xs : List ℕ) → brush_head_at depth a ≡ Ok (entry, b) → bytes_at (brush_bytes depth) b ≡ Ok (xs, more) → others (brush_at depth) a ≡ Ok (Other (brush_by depth entry xs) ∷ [], more)
brush_read depth entry a b more xs e f =
    ap (map_read (map Other)) (brush_from depth a ∙ ap (λ r. then_read r (λ entry more. map_read (λ xs. brush_by depth entry xs ∷ []) (bytes_at (brush_bytes depth) more))) e ∙ ap (map_read (λ xs. brush_by depth entry xs ∷ [])) f)

pub brush_refused : (depth : Depth) (entry : ℕ) (a b left : List ℕ) → brush_head_at depth a ≡ Ok (entry, b) → bytes_at (brush_bytes depth) b ≡ Err left → others (brush_at depth) a ≡ Err left
brush_refused depth entry a b left e f =
    ap (map_read (map Other)) (brush_from depth a ∙ ap (λ r. then_read r (λ entry more. map_read (λ xs. brush_by depth entry xs ∷ []) (bytes_at (brush_bytes depth) more))) e ∙ ap (map_read (λ xs. brush_by depth entry xs ∷ [])) f)

-- ---- what stands within a total

pub inside_from : (depth : Depth) (flags kind : ℕ) (a b d : List ℕ) → little_at 2 a ≡ Ok (flags, b) → little_at 1 b ≡ Ok (kind, d) → others (inside_at depth) a ≡ map_read (map Other) (secondary_body depth (secondary_kind kind) flags b d)
inside_from depth flags kind a b d e f =
    ap (λ r. map_read (map Other) (then_read r (λ flags c. then_read (little_at 1 c) (λ t d. secondary_body depth (secondary_kind t) flags c d)))) e
    ∙ ap (λ r. map_read (map Other) (then_read r (λ t d. secondary_body depth (secondary_kind t) flags b d))) f

total_from : (depth : Depth) (n : ℕ) (a b part after : List ℕ) → little_at 2 a ≡ Ok (n, b) → bytes_at (n + 10) b ≡ Ok (part, after) → others (secondary_at depth) a ≡ map_read (map Other) (within_total (inside_at depth part) after)
total_from depth n a b part after e f =
    ap (λ r. map_read (map Other) (then_read r (λ n b. then_read (taken a (n + 10) b) (λ inside after. within_total (inside_at depth inside) after)))) e
    ∙ ap (λ r. map_read (map Other) (then_read r (λ inside after. within_total (inside_at depth inside) after))) (sym (taken_as a b (n + 10) b) ∙ ap (as_one_field a) f)

pub total_missing : (depth : Depth) (n : ℕ) (a b : List ℕ) → little_at 2 a ≡ Ok (n, b) → bytes_at (n + 10) b ≡ Err b → others (secondary_at depth) a ≡ Err a
total_missing depth n a b e f =
    ap (λ r. map_read (map Other) (then_read r (λ n b. then_read (taken a (n + 10) b) (λ inside after. within_total (inside_at depth inside) after)))) e
    ∙ ap (λ r. map_read (map Other) (then_read r (λ inside after. within_total (inside_at depth inside) after))) (sym (taken_as a b (n + 10) b) ∙ ap (as_one_field a) f)

within_ok : (r : Read (List Cached)) (os : List Order) (after : List ℕ) → map_read (map Other) r ≡ Ok (os, []) → map_read (map Other) (within_total r after) ≡ Ok (os, after)
within_ok (Err left) os after e = absurd (let no : ⊥ = cc in no)
within_ok (Ok v) os after e =
    let pair : ◌≡◌ {A = List Order × List ℕ} (map Other v.0, v.1) (os, []) = cc in
    ap (λ (bs : List ℕ). map_read (map Other) (filled v.0 bs after)) (ap (λ p. p.1) pair) ∙ ap (λ xs. Ok (xs, after)) (ap (λ p. p.0) pair)

left_over : (os : List Cached) (left after : List ℕ) → 0 < length left → map_read (map Other) (filled os left after) ≡ Err (left ++ after)
left_over os [] after some = absurd (omega arith)
left_over os (b ∷ bs) after some = refl

within_left : (r : Read (List Cached)) (os : List Order) (left after : List ℕ) → map_read (map Other) r ≡ Ok (os, left) → 0 < length left → map_read (map Other) (within_total r after) ≡ Err (left ++ after)
within_left (Err l) os left after e some = absurd (let no : ⊥ = cc in no)
within_left (Ok v) os left after e some =
    let pair : ◌≡◌ {A = List Order × List ℕ} (map Other v.0, v.1) (os, left) = cc in
    ap (λ (bs : List ℕ). map_read (map Other) (filled v.0 bs after)) (ap (λ p. p.1) pair) ∙ left_over v.0 left after some

within_refused : (r : Read (List Cached)) (left after : List ℕ) → map_read (map Other) r ≡ Err left → map_read (map Other) (within_total r after) ≡ Err (left ++ after)
within_refused (Ok v) left after e = absurd (let no : ⊥ = cc in no)
within_refused (Err l) left after e = let same : l ≡ left = cc in ap (λ (bs : List ℕ). Err (bs ++ after)) same

pub total_read : (depth : Depth) (n : ℕ) (a b part after : List ℕ) (os : List Order) → little_at 2 a ≡ Ok (n, b) → bytes_at (n + 10) b ≡ Ok (part, after) → others (inside_at depth) part ≡ Ok (os, []) → others (secondary_at depth) a ≡ Ok (os, after)
total_read depth n a b part after os e f g = total_from depth n a b part after e f ∙ within_ok (inside_at depth part) os after g

pub total_left : (depth : Depth) (n : ℕ) (a b part after left : List ℕ) (os : List Order) → little_at 2 a ≡ Ok (n, b) → bytes_at (n + 10) b ≡ Ok (part, after) → others (inside_at depth) part ≡ Ok (os, left) → 0 < length left → others (secondary_at depth) a ≡ Err (left ++ after)
total_left depth n a b part after left os e f g some = total_from depth n a b part after e f ∙ within_left (inside_at depth part) os left after g some

pub total_refused : (depth : Depth) (n : ℕ) (a b part after left : List ℕ) → little_at 2 a ≡ Ok (n, b) → bytes_at (n + 10) b ≡ Ok (part, after) → others (inside_at depth) part ≡ Err left → others (secondary_at depth) a ≡ Err (left ++ after)
total_refused depth n a b part after left e f g = total_from depth n a b part after e f ∙ within_refused (inside_at depth part) left after g

-- ---- the same by cursors

-- the content of a total stands in the cursor's slice
pub record IsContent (n : ℕ) (old mid new content : CursorOf) : Type 0 where
  pub count : little_at 2 (rest old) ≡ Ok (n, rest mid)
  pub same : mid.bytes ≡ old.bytes
  pub part : bytes_at (n + 10) (rest mid) ≡ Ok (rest content, rest new)
  pub fits : mid.at + (n + 10) ≤ length mid.bytes
  pub behind : new ≡ record { bytes = mid.bytes; at = mid.at + (n + 10) }
  pub offsets : content ≡ record { bytes = take (mid.at + (n + 10)) mid.bytes; at = mid.at }

pub rest_is : (n : ℕ) (old mid new content inner : CursorOf) → IsContent n old mid new content → inner.bytes ≡ content.bytes → inner.at ≤ length inner.bytes → rest inner ++ rest new ≡ drop inner.at old.bytes
rest_is n old mid new content inner is same within =
    let end : ℕ = mid.at + (n + 10) in
    let bytes : inner.bytes ≡ take end mid.bytes = same ∙ ap (λ (c : CursorOf). c.bytes) is.offsets in
    let few : inner.at ≤ end = let size = length-take-le end mid.bytes is.fits in let long : length inner.bytes ≡ length (take end mid.bytes) = ap length bytes in omega (arith, size, long, within) in
    ap (λ (bs : List ℕ). drop inner.at bs ++ rest new) bytes ∙ ap (λ (c : CursorOf). drop inner.at (take end mid.bytes) ++ rest c) is.behind
    ∙ rest_of_content inner.at end mid.bytes few is.fits ∙ ap (drop inner.at) is.same

pub within_whole : (n : ℕ) (old mid new content inner : CursorOf) → IsContent n old mid new content → inner.bytes ≡ content.bytes → inner.at ≤ length inner.bytes → inner.at ≤ length new.bytes
within_whole n old mid new content inner is same within =
    let end : ℕ = mid.at + (n + 10) in
    let bytes : inner.bytes ≡ take end mid.bytes = same ∙ ap (λ (c : CursorOf). c.bytes) is.offsets in
    let size = length-take-le end mid.bytes is.fits in
    let long : length inner.bytes ≡ length (take end mid.bytes) = ap length bytes in
    let fits = is.fits in
    let whole : length new.bytes ≡ length mid.bytes = ap (λ (c : CursorOf). length c.bytes) is.behind in
    omega (arith, size, long, within, fits, whole)

-- a rest that is left unread, or a field that is refused, is refused in the cursor's slice
pub content_left : (depth : Depth) (n : ℕ) (old mid new content inner : CursorOf) (os : List Order) → IsContent n old mid new content → inner.bytes ≡ content.bytes → inner.at ≤ length inner.bytes
    → others (inside_at depth) (rest content) ≡ Ok (os, rest inner) → 0 < length (rest inner) → others (secondary_at depth) (rest old) ≡ Err (drop inner.at old.bytes)
content_left depth n old mid new content inner os is same within e some =
    total_left depth n (rest old) (rest mid) (rest content) (rest new) (rest inner) os is.count is.part e some ∙ ap (λ (bs : List ℕ). Err bs) (rest_is n old mid new content inner is same within)

pub content_refused : (depth : Depth) (n : ℕ) (old mid new content inner : CursorOf) → IsContent n old mid new content → inner.bytes ≡ content.bytes → inner.at ≤ length inner.bytes
    → others (inside_at depth) (rest content) ≡ Err (rest inner) → others (secondary_at depth) (rest old) ≡ Err (drop inner.at old.bytes)
content_refused depth n old mid new content inner is same within e =
    total_refused depth n (rest old) (rest mid) (rest content) (rest new) (rest inner) is.count is.part e ∙ ap (λ (bs : List ℕ). Err bs) (rest_is n old mid new content inner is same within)

none_left : (bs : List ℕ) → length bs ≡ 0 → bs ≡ []
none_left [] e = refl
none_left (b ∷ bs) e = absurd (omega arith)

pub content_read : (depth : Depth) (n : ℕ) (old mid new content inner : CursorOf) (os : List Order) → IsContent n old mid new content → others (inside_at depth) (rest content) ≡ Ok (os, rest inner) → length (rest inner) ≡ 0
    → others (secondary_at depth) (rest old) ≡ Ok (os, rest new)
content_read depth n old mid new content inner os is e none =
    total_read depth n (rest old) (rest mid) (rest content) (rest new) os is.count is.part (e ∙ ap (λ (bs : List ℕ). Ok (os, bs)) (none_left (rest inner) none))
