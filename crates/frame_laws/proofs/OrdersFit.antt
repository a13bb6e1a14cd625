-- The orders of each drawing that is sent go whole, and there are at most 65 of them: all nine shapes that have an order.
use Rattle.std.proofs.Common.{◌≡◌, ℕ, suc, ◌+◌, ◌-◌, ◌*◌, ◌^◌, ◌<◌, ◌≤◌, List, [], ◌∷◌, ◌++◌, length, refl, ap, sym, ◌∙◌, subst, arith, Some, None}
use Rattle.std.proofs.Common.{length-append}
use Rattle.std.specs.Prelude.{Bool, true, false, ◌&&◌, not, nat_le, ⊤, Option, is_some, ℤ, pos, ◌+ℤ◌, ◌-ℤ◌}
use Rattle.std.proofs.lemmas.Int.{ints}
use Rattle.std.proofs.lemmas.Bool.{and_parts}
use Rattle.std.proofs.lemmas.Bool.Decides.{nat_tests}
use Rattle.px_core.specs.declared.surface.Size.{Size}
use Rattle.px_core.specs.declared.rectangle.Rect.{Rect}
use Rattle.px_core.specs.Rectangle.{boxed, is_inside}
use Rattle.draw_ops.specs.declared.shape.Shape.{Shape}
use Rattle.draw_ops.specs.declared.shape.Shape.TheVariants.{Fill, Dst, Pat, Copy, Blit, Blit3, Text, Line, Save, Restore, LoadImage, LoadBrush, LoadGlyph}
use Rattle.draw_ops.specs.Content.{ImageOf, GlyphOf}
use Rattle.draw_ops.specs.Slots.{SurfaceState, Loaded, lookup, glyph_slot}
use Rattle.draw_ops.specs.Drawing.{painting_of, restoring}
use Rattle.draw_ops.specs.Fits.{rules_of, is_corner, starts_at_0, deltas_are_small}
use Rattle.caps_sets.specs.declared.confirmed.Confirmed.{Confirmed}
use Rattle.caps_sets.specs.Confirmed.{cache_size, first_cache, depth_of}
use Rattle.session_rules.specs.declared.entry.Entry.{Entry}
use Rattle.session_rules.proofs.OwnSteps.{AllNone}
use Rattle.px_core.specs.declared.depth.Depth.{Depth}
use Rattle.px_core.specs.declared.depth.Depth.TheVariants.{Bits24, Bits16}
use Rattle.px_core.specs.Depth.{brush_style}
use Rattle.px_core.proofs.Cut.{cut_below}
use Rattle.order_fields.specs.OrderTable.{fits_coordinate, IsFieldList}
use Rattle.order_means.specs.ClientState.{source_rect}
use Rattle.order_fields.specs.NamedDrawing.{wire_color, drawing_fields}
use Rattle.order_fields.specs.NamedDrawing.NamedDrawing.{Dst as DstBlt, Pat as PatBlt, Scr as ScrBlt, Opaque as OpaqueRect, SaveBlock, RestoreBlock, Mem as MemBlt, Mem3 as Mem3Blt, Glyphs as GlyphIndex}
use Rattle.save_plan.specs.Blocks.{AreApart}
use Rattle.save_plan.proofs.LeastFree.{computed_is_least}
use Rattle.frame_rules.specs.Blocks.{Place, positions_of, least_free, place_of, without_slot}
use Rattle.session_rules.specs.Pending.{pending_of, run_glyphs}
use Rattle.frame_rules.specs.Support.{supports, serves_image, serves_run, has_glyph_level, image_cache, run_cache, used_glyph_entries, greatest_cell}
use Rattle.frame_rules.specs.Support.{distinct_loads}
use Rattle.frame_rules.specs.Frame.{Walk, Sent, saved_at, saved_if, given_up, restored_from, block_if, reads_clean_tiles, walked}
use Rattle.frame_rules.specs.FrameOrders.{SentOrder, Uses, Sending, or_0, sending_of, entries_of, first_glyph_cache, bounds_of, image_use, brush_use, run_use}
use Rattle.frame_rules.specs.FrameOrders.{run_pairs}
use Rattle.frame_rules.specs.FrameOrders.SentOrder.{Drawn}
use Rattle.frame_rules.specs.Describes.{HasAllCaches}
use Rattle.frame_laws.specs.Agreement.{drawn}
use Rattle.frame_laws.proofs.GlyphUse.{glyph_entries}
use Rattle.frame_laws.specs.Run.{AreGlyphs}
use Rattle.frame_laws.specs.SoundState.{IsSound}
use Rattle.frame_laws.specs.Drawings.{HasValues}
use Rattle.frame_laws.proofs.Rules.{IsPlainRect, plain_rect, kept_test}
use Rattle.frame_laws.proofs.SentKeeps.{passed, only_one, some_cache, first_serves, glyphs_are, some_keys, GoodShape, image_served}
use Rattle.frame_laws.proofs.HeldApart.{place_ends}
use Rattle.frame_laws.proofs.OrderValues.{GoesWhole, AllGoWhole, whole_append, drawn_whole, coordinate, corner_fits, side_fits, inside_fits, bounds_fit}
use Rattle.frame_laws.proofs.CachesFit.{AreSoundGlyphs, brush_use_fits, image_use_fits, run_use_fits}
use Rattle.frame_laws.proofs.TextRect.{IsNear, text_near}

-- what a drawing sends goes whole, in few orders
pub record SendingFits (c : Confirmed) (s : Sending) : Type 0 where
  pub whole : AllGoWhole c s.orders
  pub few : length s.orders ≤ 65

-- ---- fields

-- the four fields of a rectangle, before others
boxed_fields : {X : Type 0} (r : Rect) → IsPlainRect r → X
    → (fits_coordinate r.x ≡ true) × ((fits_coordinate r.y ≡ true) × ((fits_coordinate (pos r.w) ≡ true) × ((fits_coordinate (pos r.h) ≡ true) × X)))
boxed_fields r q x = (corner_fits r.x q.left, (corner_fits r.y q.above, (side_fits r.w q.few_columns, (side_fits r.h q.few_rows, x))))

-- the fields of a cached brush, before others
brush_fields : {X : Type 0} (depth : Depth) (entry : ℕ) → entry < 64 → X
    → (0 < 256 ^ 1) × ((0 < 256 ^ 1) × ((brush_style depth < 256 ^ 1) × ((entry < 256 ^ 1) × ((0 < 256 ^ 7) × X))))
brush_fields depth entry below x = (omega arith, (omega arith, (style depth, (omega (arith, below), (omega arith, x)))))
  where
    style : (d : Depth) → brush_style d < 256 ^ 1
    style Bits24 = omega arith
    style Bits16 = omega arith

-- a colour in the three bytes of a field
pub wire_below : (depth : Depth) (color : ℕ) → color < 2 ^ 24 → wire_color depth color < 2 ^ 24
wire_below Bits24 color h = h
wire_below Bits16 color h = let low = cut_below color (omega (arith, h)) in omega (arith, low)

fill_fields : (depth : Depth) (r : Rect) (color : ℕ) → IsPlainRect r → color < 2 ^ 24 → IsFieldList (drawing_fields depth r (OpaqueRect r color))
fill_fields depth r color q v =
    let low = wire_below depth color v in record { numbers = boxed_fields r q (omega (arith, low), (omega (arith, low), (omega (arith, low), tt))); bytes = refl }

dst_fields : (depth : Depth) (r : Rect) (code : ℕ) → IsPlainRect r → code < 256 → IsFieldList (drawing_fields depth r (DstBlt r code))
dst_fields depth r code q v = record { numbers = boxed_fields r q (omega (arith, v), tt); bytes = refl }

pat_fields : (depth : Depth) (r : Rect) (code entry : ℕ) → IsPlainRect r → code < 256 → entry < 64 → IsFieldList (drawing_fields depth r (PatBlt r code entry))
pat_fields depth r code entry q v below = record {
  numbers = boxed_fields r q
      (omega (arith, v), (omega arith, (omega arith, brush_fields depth entry below tt)));
  bytes = refl;
}

scr_fields : (depth : Depth) (r : Rect) (code : ℕ) (sx sy : ℤ) → IsPlainRect r → code < 256 → fits_coordinate sx ≡ true → fits_coordinate sy ≡ true
    → IsFieldList (drawing_fields depth r (ScrBlt r code sx sy))
scr_fields depth r code sx sy q v fx fy = record { numbers = boxed_fields r q (omega (arith, v), (fx, (fy, tt))); bytes = refl }

mem_fields : (depth : Depth) (cache index : ℕ) (r : Rect) (code : ℕ) (sx sy : ℤ) → cache < 3 → index < 512 → IsPlainRect r → code < 256 → fits_coordinate sx ≡ true
    → fits_coordinate sy ≡ true
    → IsFieldList (drawing_fields depth r (MemBlt cache index r code sx sy))
mem_fields depth cache index r code sx sy few below q v fx fy =
    record { numbers = (omega (arith, few), boxed_fields r q (omega (arith, v), (fx, (fy, (omega (arith, below), tt))))); bytes = refl }

mem3_fields : (depth : Depth) (cache index : ℕ) (r : Rect) (code : ℕ) (sx sy : ℤ) (entry : ℕ) → cache < 3 → index < 512 → IsPlainRect r → code < 256 → fits_coordinate sx ≡ true
    → fits_coordinate sy ≡ true → entry < 64
    → IsFieldList (drawing_fields depth r (Mem3Blt cache index r code sx sy entry))
mem3_fields depth cache index r code sx sy entry few below q v fx fy low =
    record {
      numbers = (
        omega (arith, few),
        boxed_fields r q
            (omega (arith, v), (fx, (fy, (omega arith, (omega arith, brush_fields depth entry low (omega (arith, below), tt)))))),
      );
      bytes = refl;
    }

near_fits : (r : Rect) → IsNear r → (fits_coordinate r.x ≡ true) × (fits_coordinate r.y ≡ true) × (fits_coordinate (r.x +ℤ pos r.w) ≡ true)
    × (fits_coordinate (r.y +ℤ pos r.h) ≡ true)
near_fits r n =
    let a = n.left in
    let b = n.right in
    let d = n.above in
    let e = n.below in (
      coordinate r.x (omega (arith, ints, a)) (omega (arith, ints, b)),
      coordinate r.y (omega (arith, ints, d)) (omega (arith, ints, e)),
      coordinate (r.x +ℤ pos r.w) (omega (arith, ints, a)) (omega (arith, ints, b)),
      coordinate (r.y +ℤ pos r.h) (omega (arith, ints, d)) (omega (arith, ints, e)),
    )

-- the fields of no brush, before others
no_brush : {X : Type 0} → X → (0 < 256 ^ 1) × ((0 < 256 ^ 1) × ((0 < 256 ^ 1) × ((0 < 256 ^ 1) × ((0 < 256 ^ 7) × X))))
no_brush x = (omega arith, (omega arith, (omega arith, (omega arith, (omega arith, x)))))

text_fields : (depth : Depth) (area : Rect) (cache : ℕ) (x y : ℤ) (color : ℕ) (run : List ℕ) → IsNear area → cache < 10 → fits_coordinate x ≡ true → fits_coordinate y ≡ true
    → color < 2 ^ 24 → length run < 256
    → IsFieldList (drawing_fields depth area (GlyphIndex cache x y color run))
text_fields depth area cache x y color run near few fx fy v short =
    let f = near_fits area near in
    let low = wire_below depth color v in
    record {
      numbers = (
        omega (arith, few),
        (
          omega arith,
          (
            omega arith,
            (
              omega arith,
              (
                omega (arith, low),
                (omega arith, (f.0, (f.1, (f.2, (f.3, (refl, (refl, (refl, (refl, no_brush (fx, (fy, tt))))))))))),
              ),
            ),
          ),
        ),
      );
      bytes = short;
    }

save_fields : (position operation : ℕ) (r : Rect) → position ≤ 57600 → operation < 2 → fits_coordinate r.x ≡ true → fits_coordinate r.y ≡ true
    → fits_coordinate ((r.x +ℤ pos r.w) -ℤ pos 1) ≡ true → fits_coordinate ((r.y +ℤ pos r.h) -ℤ pos 1) ≡ true
    → (position < 256 ^ 4) × ((fits_coordinate r.x ≡ true) × ((fits_coordinate r.y ≡ true) × ((fits_coordinate ((r.x +ℤ pos r.w) -ℤ pos 1) ≡ true)
    × ((fits_coordinate ((r.y +ℤ pos r.h) -ℤ pos 1) ≡ true) × ((operation < 256 ^ 1) × ⊤)))))
save_fields position operation r low two a b d e = (omega (arith, low), (a, (b, (d, (e, (omega (arith, two), tt))))))

-- ---- runs

pairs_short : (is : List ℕ) (ps : List (ℕ × ℕ)) → length (run_pairs is ps) ≤ 2 * length ps
pairs_short [] ps = omega arith
pairs_short (i ∷ is) [] = omega arith
pairs_short (i ∷ is) (p ∷ ps) = let more = pairs_short is ps in omega (arith, more)

as_many : (st : SurfaceState) (font : ℕ) (run : List (ℕ × ℕ)) (gs : List (Loaded GlyphOf)) → AreGlyphs st font run gs → length gs ≡ length run
as_many st font [] [] h = refl
as_many st font [] (g ∷ gs) h = absurd h
as_many st font (p ∷ ps) [] h = absurd h
as_many st font (p ∷ ps) (g ∷ gs) h = ap suc (as_many st font ps gs h.1)

sound_glyphs : (size : Size) (j : List Entry) (st : SurfaceState) (font : ℕ) (run : List (ℕ × ℕ)) (gs : List (Loaded GlyphOf)) → IsSound size j st
    → AreGlyphs st font run gs → AreSoundGlyphs gs
sound_glyphs size j st font [] [] h are = tt
sound_glyphs size j st font [] (g ∷ gs) h are = absurd are
sound_glyphs size j st font (p ∷ ps) [] h are = absurd are
sound_glyphs size j st font (p ∷ ps) (g ∷ gs) h are = ((h.glyphs (glyph_slot font p.0) g are.0).sound, sound_glyphs size j st font ps gs h are.1)

-- where a block is put back
abbrev painted_rect : Option ImageOf → ℤ → ℤ → Rect
painted_rect o x y = (restoring o x y).rect

at_most : (m n : ℕ) → nat_le m n ≡ true → m ≤ n
at_most m n h = grind (arith, nat_tests, h)

module _ (size : Size) (narrow : size.w ≤ 2048) (low : size.h ≤ 2048) (c : Confirmed) (all : HasAllCaches c) (j : List Entry) where
  abbrev SentFits : Uses → Sent → Type 0
  SentFits uses sent = SendingFits c (sending_of c uses sent)

  one : (o : SentOrder) (uses : Uses) → GoesWhole c o → SendingFits c (record { orders = o ∷ []; uses = uses })
  one o uses h = record { whole = (h, tt); few = omega arith }

  -- an image's source has a corner of two bytes
  source_fits : (image : ImageOf) (r : Rect) (sx sy : ℤ) → image.w ≤ 64 → image.h ≤ 64
      → is_inside (record { w = image.w; h = image.h }) (source_rect r sx sy) ≡ true → (fits_coordinate sx ≡ true) × (fits_coordinate sy ≡ true)
  source_fits image r sx sy few_w few_h inside =
      let f = inside_fits (record { w = image.w; h = image.h }) (source_rect r sx sy) (omega (arith, few_w)) (omega (arith, few_h)) inside in
      (f.left, f.top)

  some_entries : (cache : ℕ) (image : ImageOf) → serves_image image (cache_size c.bitmaps cache) ≡ true → 1 ≤ (cache_size c.bitmaps cache).entries
  some_entries cache image h = at_most 1 (cache_size c.bitmaps cache).entries (and_parts (nat_le 1 (cache_size c.bitmaps cache).entries) _ h).0

  save_by : (st : SurfaceState) (w : Walk) (uses : Uses) (clip : Option Rect) (slot : ℕ) (r : Rect) (sent : Sent) → is_inside size r ≡ true → AreApart w.held
      → (walked size c w (pending_of size st (drawn (Save slot r) clip)) (Save slot r)).sent ≡ sent ∷ [] → SentFits uses sent
  save_by st w uses clip slot r sent inside apart e = by_test
      (supports c (pending_of size st (drawn (Save slot r) clip)) (Save slot r) && reads_clean_tiles size w (Save slot r)) e
    where
      by_position : (o : Option ℕ) → least_free (positions_of r.w r.h) (without_slot slot w.held) ≡ o
          → (saved_at size (given_up slot w) (pending_of size st (drawn (Save slot r) clip)) slot r o).sent ≡ sent ∷ [] → SentFits uses sent
      by_position None least e = absurd (cc e)
      by_position (Some position) least e =
          let there = (computed_is_least (positions_of r.w r.h) position (without_slot slot w.held) least).is_free.there in
          let f = inside_fits size r narrow low inside in
          subst (λ (x : Sent). SentFits uses x) (sym (only_one (record {
            pending = pending_of size st
                (drawn (Save slot r) clip);
            position = position;
          }) sent e))
          (one (Drawn r (SaveBlock position r) None) uses
          (drawn_whole c r (SaveBlock position r) None (record {
            numbers = save_fields position 0 r (omega (arith, there))
                (omega arith) f.left f.top f.right f.bottom;
            bytes = refl;
          }) tt (omega arith)))

      by_test : (b : Bool) → (saved_if b size (given_up slot w) (pending_of size st (drawn (Save slot r) clip)) slot r).sent ≡ sent ∷ [] → SentFits uses sent
      by_test false e = absurd (cc e)
      by_test true e = by_position (least_free (positions_of r.w r.h) (without_slot slot w.held)) refl e

  restore_by : (st : SurfaceState) (w : Walk) (uses : Uses) (clip : Option Rect) (slot : ℕ) (x y : ℤ) (sent : Sent)
      → GoodShape size j st clip (Restore slot x y) → AreApart w.held
      → (walked size c w (pending_of size st (drawn (Restore slot x y) clip)) (Restore slot x y)).sent ≡ sent ∷ [] → SentFits uses sent
  restore_by st w uses clip slot x y sent g apart e = by_test (supports c (pending_of size st (drawn (Restore slot x y) clip)) (Restore slot x y)) e
    where
      by_place : (o : Option Place) → place_of slot w.held ≡ o → (restored_from size w (pending_of size st (drawn (Restore slot x y) clip)) o).sent ≡ sent ∷ []
          → SentFits uses sent
      by_place None held e = absurd (cc e)
      by_place (Some place) held e =
          let ends = place_ends slot w.held place apart held in
          let area : Rect = boxed x y g.block.w g.block.h in
          let f = inside_fits size area narrow low g.inside in
          subst (λ (q : Sent). SentFits uses q) (sym (only_one
          (record { pending = pending_of size st (drawn (Restore slot x y) clip); position = place.position }) sent e))
          (subst (λ q. SendingFits c (record {
            orders = Drawn (painted_rect q x y)
                (RestoreBlock place.position (painted_rect q x y)) None ∷ [];
            uses = uses;
          })) (sym g.held)
          (one (Drawn area (RestoreBlock place.position area) None) uses
          (drawn_whole c area (RestoreBlock place.position area) None
          (record { numbers = save_fields place.position 1 area (omega (arith, ends)) (omega arith) f.left f.top f.right f.bottom; bytes = refl }) tt
          (omega arith))))

      by_test : (b : Bool) → (restored_from size w (pending_of size st (drawn (Restore slot x y) clip)) (block_if b slot w)).sent ≡ sent ∷ []
          → SentFits uses sent
      by_test false e = absurd (cc e)
      by_test true e = by_place (place_of slot w.held) refl e

  text_by : (st : SurfaceState) (w : Walk) (uses : Uses) (clip : Option Rect) (x y : ℤ) (color font : ℕ) (run : List (ℕ × ℕ)) (sent : Sent) → IsSound size j st
      → AllNone (rules_of size clip (Text x y color font run)) → color < 2 ^ 24 → GoodShape size j st clip (Text x y color font run)
      → (walked size c w (pending_of size st (drawn (Text x y color font run) clip)) (Text x y color font run)).sent ≡ sent ∷ [] → SentFits uses sent
  text_by st w uses clip x y color font run sent h rules v g e =
      let s = Text x y color font run in
      let p = pending_of size st (drawn s clip) in
      let t = passed (supports c p s) size w p sent e in
      let cache = some_cache (run_cache c (run_glyphs st.glyphs font run))
      (and_parts (c.glyph && has_glyph_level c.glyph_level) (is_some (run_cache c (run_glyphs st.glyphs font run)))
      (and_parts (not c.cautious) ((c.glyph && has_glyph_level c.glyph_level) && is_some (run_cache c (run_glyphs st.glyphs font run))) t.test).1).1 in
      let k = cache.0 in
      let found_ : first_cache (serves_run g.glyphs) c.glyphs ≡ Some k = ap (run_cache c) (sym (glyphs_are st font run g.glyphs g.held)) ∙ cache.1 in
      let f = first_serves (serves_run g.glyphs) c.glyphs 0 k found_ in
      let ten = all.glyphs in
      let under = f.1 in
      let few : k < 10 = omega (arith, under, ten) in
      let back : k - 0 ≡ k = omega arith in
      let serves : serves_run g.glyphs (cache_size c.glyphs k) ≡ true = ap (λ n. serves_run g.glyphs (cache_size c.glyphs n)) (sym back) ∙ f.2 in
      let tests = and_parts (nat_le (distinct_loads g.glyphs) (used_glyph_entries (cache_size c.glyphs k)))
      (nat_le (greatest_cell g.glyphs) (cache_size c.glyphs k).cell) serves in
      let enough = at_most (distinct_loads g.glyphs) (used_glyph_entries (cache_size c.glyphs k)) tests.0 in
      let entries = glyph_entries c k few in
      let many = some_keys g.glyphs g.some in
      let some : 0 < entries_of c (first_glyph_cache + k) = omega (arith, entries, enough, many) in
      let most : entries_of c (first_glyph_cache + k) ≤ 254 = omega (arith, entries) in
      let u = run_use_fits c k some most g.glyphs uses (sound_glyphs size j st font run g.glyphs h g.held) in
      let length_test = and_parts (nat_le (length run) 64) (starts_at_0 run && deltas_are_small run)
      (kept_test (nat_le (length run) 64 && (starts_at_0 run && deltas_are_small run)) 8 rules.1.1.1.1.0) in
      let short = at_most (length run) 64 length_test.0 in
      let corners = and_parts (is_corner x) (is_corner y) (kept_test (is_corner x && is_corner y) 1 rules.0) in
      let near = text_near size j st font run g.glyphs x y h g.held g.deltas short corners.0 corners.1 in
      let area : Rect = (painting_of size st s).rect in
      let indices = (run_use c uses k g.glyphs).indices in
      let pairs = pairs_short indices run in
      let bytes : length (run_pairs indices run) < 256 = omega (arith, pairs, short) in
      let order = Drawn area (GlyphIndex k x y color (run_pairs indices run)) (bounds_of area clip) in
      let draws : GoesWhole c order = drawn_whole c area (GlyphIndex k x y color (run_pairs indices run)) (bounds_of area clip)
      (text_fields (depth_of c) area k x y color (run_pairs indices run) near few (corner_fits x corners.0) (corner_fits y corners.1) v bytes)
      (bounds_fit size area clip narrow low rules.1.0) bytes in
      let count = u.few in
      let same = as_many st font run g.glyphs g.held in
      let orders = (run_use c uses k g.glyphs).orders in
      let last : AllGoWhole c (order ∷ []) = (draws, tt) in
      subst (λ (q : Sent). SentFits uses q) (sym t.is)
      (subst (λ gs. SentFits uses (record { pending = record { drawing = drawn s clip; rect = area; image = None; brush = None; glyphs = gs }; position = 0 }))
      (sym (glyphs_are st font run g.glyphs g.held))
      (subst (λ o. SendingFits c (record {
        orders = (run_use c uses (or_0 o) g.glyphs).orders
            ++ Drawn area (GlyphIndex (or_0 o) x y color (run_pairs (run_use c uses (or_0 o) g.glyphs).indices run)) (bounds_of area clip) ∷ [];
        uses =
            (run_use c uses (or_0 o) g.glyphs).uses;
      })) (sym found_)
      (record { whole = whole_append c orders (order ∷ []) u.whole last; few = omega (arith, count, same, short, length-append orders (order ∷ [])) })))

  pub sent_fits : (st : SurfaceState) (w : Walk) (uses : Uses) (clip : Option Rect) (s : Shape) (sent : Sent) → IsSound size j st
      → AllNone (rules_of size clip s) → HasValues s → GoodShape size j st clip s → AreApart w.held
      → (walked size c w (pending_of size st (drawn s clip)) s).sent ≡ sent ∷ [] → SentFits uses sent
  sent_fits st w uses clip (Fill r color) sent h rules v g apart e =
      let p = pending_of size st (drawn (Fill r color) clip) in
      let t = passed (supports c p (Fill r color)) size w p sent e in
      subst (λ (q : Sent). SentFits uses q) (sym t.is)
      (one (Drawn r (OpaqueRect r color) (bounds_of r clip)) uses
      (drawn_whole c r (OpaqueRect r color) (bounds_of r clip) (fill_fields (depth_of c) r color (plain_rect r rules.0) v)
      (bounds_fit size r clip narrow low rules.1.0) (omega arith)))
  sent_fits st w uses clip (Dst r code) sent h rules v g apart e =
      let p = pending_of size st (drawn (Dst r code) clip) in
      let t = passed (supports c p (Dst r code)) size w p sent e in
      subst (λ (q : Sent). SentFits uses q) (sym t.is)
      (one (Drawn r (DstBlt r code) (bounds_of r clip)) uses
      (drawn_whole c r (DstBlt r code) (bounds_of r clip) (dst_fields (depth_of c) r code (plain_rect r rules.0) v) (bounds_fit size r clip narrow low rules.1.0)
      (omega arith)))
  sent_fits st w uses clip (Copy r code sx sy) sent h rules v g apart e =
      let p = pending_of size st (drawn (Copy r code sx sy) clip) in
      let t = passed (supports c p (Copy r code sx sy) && reads_clean_tiles size w (Copy r code sx sy)) size w p sent e in
      let f = inside_fits size (boxed sx sy r.w r.h) narrow low g.1 in
      subst (λ (q : Sent). SentFits uses q) (sym t.is)
      (one (Drawn r (ScrBlt r code sx sy) (bounds_of r clip)) uses
      (drawn_whole c r (ScrBlt r code sx sy) (bounds_of r clip) (scr_fields (depth_of c) r code sx sy (plain_rect r rules.0) v f.left f.top)
      (bounds_fit size r clip narrow low rules.1.0) (omega arith)))
  sent_fits st w uses clip (Pat r code brush) sent h rules v g apart e =
      let p = pending_of size st (drawn (Pat r code brush) clip) in
      let t = passed (supports c p (Pat r code brush)) size w p sent e in
      let b = g.1 in
      let k = h.brushes brush b.brush b.held in
      let u = brush_use_fits c uses b.brush k.whole k.colors in
      let now = brush_use c uses (Some b.brush) in
      let order = Drawn r (PatBlt r code now.index) (bounds_of r clip) in
      let last : AllGoWhole c (order ∷ []) = (
        drawn_whole c r (PatBlt r code now.index) (bounds_of r clip)
            (pat_fields (depth_of c) r code now.index (plain_rect r rules.0) v u.below) (bounds_fit size r clip narrow low rules.1.0) (omega arith),
        tt,
      ) in
      let count = u.few in
      subst (λ (q : Sent). SentFits uses q) (sym t.is)
      (subst (λ o. SentFits uses (record {
        pending = record {
          drawing = drawn
              (Pat r code brush) clip;
          rect = r;
          image = None;
          brush = o;
          glyphs = [];
        };
        position = 0;
      })) (sym b.held)
      (record { whole = whole_append c now.orders (order ∷ []) u.whole last; few = omega (arith, count, length-append now.orders (order ∷ [])) }))
  sent_fits st w uses clip (Blit r code image sx sy) sent h rules v g apart e =
      let p = pending_of size st (drawn (Blit r code image sx sy) clip) in
      let t = passed (supports c p (Blit r code image sx sy)) size w p sent e in
      let i = g.1 in
      let served = image_served size c j narrow all st image (source_rect r sx sy) i
      (and_parts c.mem (is_some (image_cache c (lookup image st.images))) t.test).1 in
      let there : image_cache c (Some i.image) ≡ Some served.0 = ap (image_cache c) (sym i.held) ∙ served.1 in
      let u = image_use_fits c uses served.0 i.image served.2.bitmap (some_entries served.0 i.image.content served.2.serves) i.sound in
      let f = source_fits i.image.content r sx sy i.sound.few_columns i.sound.few_rows i.inside in
      let now = image_use c uses served.0 (Some i.image) in
      let order = Drawn r (MemBlt served.0 now.index r code sx sy) (bounds_of r clip) in
      let last : AllGoWhole c (order ∷ []) = (
        drawn_whole c r (MemBlt served.0 now.index r code sx sy) (bounds_of r clip)
            (mem_fields (depth_of c) served.0 now.index r code sx sy served.2.bitmap u.below (plain_rect r rules.0) v f.0 f.1)
            (bounds_fit size r clip narrow low rules.1.0) (omega arith),
        tt,
      ) in
      let count = u.few in
      subst (λ (q : Sent). SentFits uses q) (sym t.is)
      (subst (λ o. SentFits uses (record {
        pending = record {
          drawing = drawn
              (Blit r code image sx sy) clip;
          rect = r;
          image = o;
          brush = None;
          glyphs = [];
        };
        position = 0;
      })) (sym i.held)
      (subst (λ o. SendingFits c (record {
        orders = (image_use c uses (or_0 o) (Some i.image)).orders
            ++ Drawn r (MemBlt (or_0 o) (image_use c uses (or_0 o) (Some i.image)).index r code sx sy) (bounds_of r clip) ∷ [];
        uses = (image_use c uses (or_0 o) (Some i.image)).uses;
      })) (sym there)
      (record { whole = whole_append c now.orders (order ∷ []) u.whole last; few = omega (arith, count, length-append now.orders (order ∷ [])) })))
  sent_fits st w uses clip (Blit3 r code image sx sy brush) sent h rules v g apart e =
      let p = pending_of size st (drawn (Blit3 r code image sx sy brush) clip) in
      let t = passed (supports c p (Blit3 r code image sx sy brush)) size w p sent e in
      let i = g.1 in
      let b = g.2 in
      let tests = and_parts (is_some (image_cache c (lookup image st.images))) c.brush
      (and_parts c.mem3 (is_some (image_cache c (lookup image st.images)) && c.brush) t.test).1 in
      let served = image_served size c j narrow all st image (source_rect r sx sy) i tests.0 in
      let there : image_cache c (Some i.image) ≡ Some served.0 = ap (image_cache c) (sym i.held) ∙ served.1 in
      let u = image_use_fits c uses served.0 i.image served.2.bitmap (some_entries served.0 i.image.content served.2.serves) i.sound in
      let f = source_fits i.image.content r sx sy i.sound.few_columns i.sound.few_rows i.inside in
      let now = image_use c uses served.0 (Some i.image) in
      let k = h.brushes brush b.brush b.held in
      let bu = brush_use_fits c now.uses b.brush k.whole k.colors in
      let brushed = brush_use c now.uses (Some b.brush) in
      let order = Drawn r (Mem3Blt served.0 now.index r code sx sy brushed.index) (bounds_of r clip) in
      let last : AllGoWhole c (order ∷ []) = (
        drawn_whole c r (Mem3Blt served.0 now.index r code sx sy brushed.index) (bounds_of r clip)
            (mem3_fields (depth_of c) served.0 now.index r code sx sy brushed.index served.2.bitmap u.below (plain_rect r rules.0) v f.0 f.1 bu.below)
            (bounds_fit size r clip narrow low rules.1.0) (omega arith),
        tt,
      ) in
      let count = u.few in
      let brush_count = bu.few in
      subst (λ (q : Sent). SentFits uses q) (sym t.is)
      (subst (λ o. SentFits uses (record {
        pending = record {
          drawing = drawn
              (Blit3 r code image sx sy brush) clip;
          rect = r;
          image = o;
          brush = lookup brush st.brushes;
          glyphs = [];
        };
        position = 0;
      })) (sym i.held)
      (subst (λ o. SentFits uses (record {
        pending = record {
          drawing = drawn
              (Blit3 r code image sx sy brush) clip;
          rect = r;
          image = Some i.image;
          brush = o;
          glyphs = [];
        };
        position = 0;
      })) (sym b.held)
      (subst (λ o. SendingFits c (record {
        orders = (image_use c uses (or_0 o) (Some i.image)).orders
            ++ ((brush_use c (image_use c uses (or_0 o) (Some i.image)).uses (Some b.brush)).orders
            ++ Drawn r (Mem3Blt (or_0 o) (image_use c uses (or_0 o) (Some i.image)).index r code sx sy
            (brush_use c (image_use c uses (or_0 o) (Some i.image)).uses (Some b.brush)).index) (bounds_of r clip) ∷ []);
        uses = (brush_use c (image_use c uses (or_0 o) (Some i.image)).uses (Some b.brush)).uses;
      })) (sym there)
      (record {
        whole = whole_append c now.orders (brushed.orders ++ order ∷ []) u.whole (whole_append c brushed.orders (order ∷ []) bu.whole last);
        few = omega (arith, count, brush_count, length-append now.orders (brushed.orders ++ order ∷ []), length-append brushed.orders (order ∷ []));
      }))))
  sent_fits st w uses clip (Text x y color font run) sent h rules v g apart e = text_by st w uses clip x y color font run sent h rules v g e
  sent_fits st w uses clip (Line x0 y0 x1 y1 color) sent h rules v g apart e = absurd (cc e)
  sent_fits st w uses clip (Save slot r) sent h rules v g apart e = save_by st w uses clip slot r sent g.1 apart e
  sent_fits st w uses clip (Restore slot x y) sent h rules v g apart e = restore_by st w uses clip slot x y sent g apart e
  sent_fits st w uses clip (LoadImage slot image) sent h rules v g apart e = absurd (cc e)
  sent_fits st w uses clip (LoadBrush slot brush) sent h rules v g apart e = absurd (cc e)
  sent_fits st w uses clip (LoadGlyph font code glyph) sent h rules v g apart e = absurd (cc e)
