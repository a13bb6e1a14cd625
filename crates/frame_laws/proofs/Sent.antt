-- Drawings that are sent as orders without a cache keep the agreement: what the client makes of the order is what the session drew, as it is shown at the
-- client's depth.
use Rattle.std.proofs.Common.{◌≡◌, ℕ, ◌+◌, ◌*◌, ◌/◌, ◌%◌, ◌≤◌, ◌<◌, List, [], ◌∷◌, refl, ap, sym, ◌∙◌, arith, Some, None, subst}
use Rattle.std.specs.Prelude.{◌^◌, Bool, true, false, ◌&&◌, ◌||◌, ◌==◌, Option, ℤ, pos, ◌+ℤ◌, ◌-ℤ◌, int_le, Result, Ok}
use Rattle.std.proofs.lemmas.Int.{ints}
use Rattle.std.proofs.lemmas.Bool.{and_from, and_parts}
use Rattle.std.proofs.lemmas.Bool.Decides.{nat_tests}
use Rattle.px_core.specs.declared.depth.Depth.{Depth}
use Rattle.px_core.specs.declared.surface.Size.{Size}
use Rattle.px_core.specs.declared.rectangle.Rect.{Rect}
use Rattle.px_core.specs.Depth.{shown, seen}
use Rattle.px_core.specs.Picture.{pixel_count, nat_of, item, rows_of}
use Rattle.px_core.specs.Rectangle.{boxed, within, in_rect, in_clip, has_pixel, is_inside}
use Rattle.px_core.specs.Tiles.{Tiles, tile_number, tiles_of, share_tile, any_shared, picture_tiles}
use Rattle.px_core.proofs.Cut.{shown_black}
use Rattle.rop3_core.specs.Palette.{client_colors}
use Rattle.draw_ops.specs.declared.shape.Shape.{Shape}
use Rattle.draw_ops.specs.declared.shape.Shape.TheVariants.{Fill, Dst, Copy}
use Rattle.draw_ops.specs.Depths.{maybe_raster_at}
use Rattle.draw_ops.specs.Formulas.{Painting, painted_area, over_rect, solid, shifted}
use Rattle.draw_ops.specs.Slots.{SurfaceState}
use Rattle.draw_ops.specs.Drawing.{painting_of, slots_after, state_after_drawing}
use Rattle.draw_ops.proofs.ShownRaster.{operation}
use Rattle.caps_sets.specs.declared.confirmed.Confirmed.{Confirmed}
use Rattle.caps_sets.specs.Confirmed.{depth_of}
use Rattle.wire_num.specs.Field.{bind}
use Rattle.order_fields.specs.OrderDelta.{edges_of_optional}
use Rattle.order_fields.specs.NamedDrawing.{NamedDrawing, HasPixel, HasColor, drawing_of, drawing_fields, shown_named}
use Rattle.order_fields.specs.NamedDrawing.NamedDrawing.{Opaque, Dst as DstBlt, Scr}
use Rattle.order_means.specs.ClientState.{ClientState, Fault, found, needs, in_bounds, after_painting, no_operand, mixing, client_after_drawing, client_after_order}
use Rattle.order_means.specs.ClientState.Fault.{Broken}
use Rattle.order_fields.proofs.Named.{shown_again}
use Rattle.frame_rules.specs.FrameOrders.{bounds_of}
use Rattle.frame_rules.specs.FrameOrders.SentOrder.{Drawn}
use Rattle.frame_rules.specs.FrameRead.{as_read}
use Rattle.frame_rules.specs.Frame.{Walk}
use Rattle.frame_rules.specs.Shown.{tile_of_place, ShowsOutside}
use Rattle.frame_rules.proofs.TileLaws.{ShowsOutside-sent, tiles_of-in_rect, within-low, within-high, pos-nat_of, int_le_from, int_lt_from}
use Rattle.frame_rules.proofs.TileShown.{item_rows, column_of, row_of, place_below}
use Rattle.frame_rules.proofs.TilePhase.{is_among, tile_is_there}
use Rattle.frame_laws.specs.Agreement.{Agrees, ObeyedAndAgrees, drawn}
use Rattle.frame_laws.proofs.Bounds.{painted_area-bounds}

-- black, as it is shown
pub black : (depth : Depth) → Some 0 ≡ seen depth 0
black depth = ap Some (sym (shown_black depth))

-- ---- any painting

-- the client's painting does what the session's does, at each pixel whose tile isn't dirty
pub record DoesTheSame (depth : Depth) (size : Size) (st : SurfaceState) (dirty : Tiles) (clip : Option Rect) (p : Painting ℕ) (q : Painting (Option ℕ)) : Type 0 where
  pub rects : p.rect ≡ q.rect
  pub areas : (x y : ℤ) → p.area x y ≡ q.area x y
  pub formulas : (i d : ℕ) → i < pixel_count size → dirty (tile_of_place size i) ≡ false → painted_area (in_clip clip) p (pos (i % size.w)) (pos (i / size.w)) ≡ true
      → q.formula (pos (i % size.w)) (pos (i / size.w)) (seen depth d) ≡ seen depth (p.formula (pos (i % size.w)) (pos (i / size.w)) d)

pub painting_agrees : (size : Size) (st : SurfaceState) (w : Walk) (client : ClientState) (s : Shape) (clip : Option Rect) (q : Painting (Option ℕ))
    → (slots_after size st s).blocks ≡ st.blocks → DoesTheSame client.depth size st w.dirty clip (painting_of size st s) q → Agrees size st w client
    → Agrees size (state_after_drawing size st (drawn s clip)) w (after_painting size (edges_of_optional (bounds_of (painting_of size st s).rect clip)) q client)
painting_agrees size st w client s clip q kept same a = let p = painting_of size st s in record {
  shown = ShowsOutside-sent client.depth size (painted_area (in_bounds (edges_of_optional (bounds_of p.rect clip))) q) p (in_clip clip) q.formula w.dirty client.picture st.picture
      (λ i. painted_area-bounds p q clip (pos (i % size.w)) (pos (i / size.w)) same.rects (same.areas (pos (i % size.w)) (pos (i / size.w)))) same.formulas a.shown;
  blocks = λ slot place h. rw kept (a.blocks slot place h);
  filled = a.filled;
}

-- ---- an order that is obeyed, and the agreement after it

-- a client of the confirmed depth obeys the drawing as it is shown
pub obeyed_as : (c : Confirmed) (size : Size) (client : ClientState) (r : Rect) (d : NamedDrawing) (bounds : Option Rect) (made : Result ClientState Fault)
    → client.depth ≡ depth_of c → HasPixel d → HasColor d → client_after_drawing c size (edges_of_optional bounds) client (shown_named client.depth d) ≡ made
    → client_after_order c size client (as_read c (Drawn r d bounds)) ≡ made
obeyed_as c size client r d bounds made same some color h =
    ap (λ k. bind (found (drawing_of client.depth (drawing_fields k r d)) Broken) (client_after_drawing c size (edges_of_optional bounds) client)) (sym same)
    ∙ ap (λ o. bind (found o Broken) (client_after_drawing c size (edges_of_optional bounds) client)) (shown_again client.depth r d some color) ∙ h

pub fill_agrees : (c : Confirmed) (size : Size) (st : SurfaceState) (w : Walk) (client : ClientState) (r : Rect) (color : ℕ) (clip : Option Rect) → client.depth ≡ depth_of c
    → color < 2 ^ 24 → has_pixel r ≡ true → Agrees size st w client
    → ObeyedAndAgrees c size (state_after_drawing size st (drawn (Fill r color) clip)) w client (Drawn r (Opaque r color) (bounds_of r clip))
fill_agrees c size st w client r color clip same low some a = record {
  after = after_painting size (edges_of_optional (bounds_of r clip)) (over_rect r (solid client_colors (shown client.depth color))) client;
  obeys = obeyed_as c size client r (Opaque r color) (bounds_of r clip) _ same some low refl;
  agrees = painting_agrees size st w client (Fill r color) clip (over_rect r (solid client_colors (shown client.depth color))) refl (record { rects = refl; areas = λ x y. refl; formulas = λ i d below clean in_. refl }) a;
}

pub dst_agrees : (c : Confirmed) (size : Size) (st : SurfaceState) (w : Walk) (client : ClientState) (r : Rect) (code : ℕ) (clip : Option Rect) → client.depth ≡ depth_of c → has_pixel r ≡ true → Agrees size st w client
    → ObeyedAndAgrees c size (state_after_drawing size st (drawn (Dst r code) clip)) w client (Drawn r (DstBlt r code) (bounds_of r clip))
dst_agrees c size st w client r code clip same some a = record {
  after = after_painting size (edges_of_optional (bounds_of r clip)) (mixing client.depth r code no_operand no_operand) client;
  obeys = obeyed_as c size client r (DstBlt r code) (bounds_of r clip) _ same some tt refl;
  agrees = painting_agrees size st w client (Dst r code) clip (mixing client.depth r code no_operand no_operand) refl
      (record {
        rects = refl;
        areas = λ x y. refl;
        formulas = λ i d below clean in_. operation client.depth code 0 0 d (black client.depth) (black client.depth);
      }) a;
}

-- ---- a copy whose source has no dirty tile

or_parts : (u v : Bool) → (u || v) ≡ false → (u ≡ false) × (v ≡ false)
or_parts true v e = absurd (cc e)
or_parts false v e = (refl, e)

left_false : (u v : Bool) → (u && v) ≡ false → v ≡ true → u ≡ false
left_false true v e f = absurd (cc (sym e ∙ f))
left_false false v e f = refl

pub same_number : (a b : ℕ) → (a == b) ≡ true → a ≡ b
same_number a b h = grind (arith, nat_tests, h)

-- a tile of the one set isn't in the other, where they share none
not_shared : (ts : List ℕ) (a b : Tiles) (t : ℕ) → any_shared ts a b ≡ false → is_among ts t ≡ true → b t ≡ true → a t ≡ false
not_shared [] a b t h k q = absurd (cc k)
not_shared (x ∷ xs) a b t h k q = by (t == x) refl (λ m. not_shared xs a b t (or_parts (a x && b x) (any_shared xs a b) h).1 m q)
  where
    by : (s : Bool) → (t == x) ≡ s → (is_among xs t ≡ true → a t ≡ false) → a t ≡ false
    by true e rest = let same = same_number t x e in
        ap a same ∙ left_false (a x) (b x) (or_parts (a x && b x) (any_shared xs a b) h).0 (ap b (sym same) ∙ q)
    by false e rest = rest (ap (λ u. u || is_among xs t) (sym e) ∙ k)

pub copy_source : (depth : Depth) (size : Size) (dirty : Tiles) (canvas : List (Option ℕ)) (picture : List ℕ) (X Y : ℕ) → X < size.w → Y < size.h → ShowsOutside depth size dirty canvas picture → dirty (tile_number X Y) ≡ false
    → item (item (rows_of size.w size.h canvas) Y []) X None ≡ seen depth (item (item (rows_of size.w size.h picture) Y []) X 0)
copy_source depth size dirty canvas picture X Y hx hy s clean =
    let column : (size.w * Y + X) % size.w ≡ X = column_of size.w X Y hx in
    let row : (size.w * Y + X) / size.w ≡ Y = row_of size.w X Y hx in
    let free : dirty (tile_of_place size (size.w * Y + X)) ≡ false = rw (column, row) clean in
    item_rows size.w size.h canvas X Y None hx hy ∙ s.pixels (size.w * Y + X) (place_below size.w size.h X Y hx hy) free ∙ ap (seen depth) (sym (item_rows size.w size.h picture X Y 0 hx hy))

-- where a pixel of the copy has its source
record Source (size : Size) (r : Rect) (sx sy : ℤ) (x y : ℕ) : Type 0 where
  column : nat_of ((pos x -ℤ r.x) +ℤ sx) < size.w
  row : nat_of ((pos y -ℤ r.y) +ℤ sy) < size.h
  inside : in_rect (boxed sx sy r.w r.h) (pos (nat_of ((pos x -ℤ r.x) +ℤ sx))) (pos (nat_of ((pos y -ℤ r.y) +ℤ sy))) ≡ true

pub shifted_within : (from : ℤ) (n : ℕ) (s : ℤ) (most z : ℕ) → within from n (pos z) ≡ true → int_le (pos 0) s ≡ true → int_le (s +ℤ pos n) (pos most) ≡ true
    → (nat_of ((pos z -ℤ from) +ℤ s) < most) × (within s n (pos (nat_of ((pos z -ℤ from) +ℤ s))) ≡ true)
shifted_within from n s most z h low high =
    let a = within-low from n (pos z) h in
    let b = within-high from n (pos z) h in
    let is : pos (nat_of ((pos z -ℤ from) +ℤ s)) ≡ (pos z -ℤ from) +ℤ s = pos-nat_of ((pos z -ℤ from) +ℤ s) (omega (arith, ints)) in
    (omega (arith, ints), rw is (and_from _ _ (int_le_from s ((pos z -ℤ from) +ℤ s) (omega (arith, ints))) (int_lt_from ((pos z -ℤ from) +ℤ s) (s +ℤ pos n) (omega (arith, ints)))))

source_of : (size : Size) (r : Rect) (sx sy : ℤ) (x y : ℕ) → is_inside size (boxed sx sy r.w r.h) ≡ true → in_rect r (pos x) (pos y) ≡ true → Source size r sx sy x y
source_of size r sx sy x y whole here =
    let w = and_parts (int_le (pos 0) sx && int_le (sx +ℤ pos r.w) (pos size.w)) (int_le (pos 0) sy && int_le (sy +ℤ pos r.h) (pos size.h)) whole in
    let wx = and_parts (int_le (pos 0) sx) (int_le (sx +ℤ pos r.w) (pos size.w)) w.0 in
    let wy = and_parts (int_le (pos 0) sy) (int_le (sy +ℤ pos r.h) (pos size.h)) w.1 in
    let k = and_parts (within r.x r.w (pos x)) (within r.y r.h (pos y)) here in
    let a = shifted_within r.x r.w sx size.w x k.0 wx.0 wx.1 in
    let b = shifted_within r.y r.h sy size.h y k.1 wy.0 wy.1 in
    record { column = a.0; row = b.0; inside = and_from _ _ a.1 b.1 }

-- a source pixel lies in a clean tile
pub source_clean : (size : Size) (dirty : Tiles) (r : Rect) (sx sy : ℤ) (X Y : ℕ) → size.w ≤ 2048 → share_tile size dirty (tiles_of size (boxed sx sy r.w r.h)) ≡ false → X < size.w → Y < size.h
    → in_rect (boxed sx sy r.w r.h) (pos X) (pos Y) ≡ true → dirty (tile_number X Y) ≡ false
source_clean size dirty r sx sy X Y narrow apart hx hy inside =
    not_shared (picture_tiles size) dirty (tiles_of size (boxed sx sy r.w r.h)) (tile_number X Y) apart (there_is (column_of size.w X Y hx) (row_of size.w X Y hx)) (tiles_of-in_rect size (boxed sx sy r.w r.h) X Y narrow hx hy inside)
  where
    there_is : (size.w * Y + X) % size.w ≡ X → (size.w * Y + X) / size.w ≡ Y → is_among (picture_tiles size) (tile_number X Y) ≡ true
    there_is c d = subst (λ n. is_among (picture_tiles size) (tile_number n Y) ≡ true) c
        (subst (λ n. is_among (picture_tiles size) (tile_number ((size.w * Y + X) % size.w) n) ≡ true) d (tile_is_there size (size.w * Y + X) narrow (place_below size.w size.h X Y hx hy)))

-- what the client paints
abbrev copied : Size → ClientState → Rect → ℕ → ℤ → ℤ → Painting (Option ℕ)
copied size client r code sx sy = mixing client.depth r code no_operand (shifted (rows_of size.w size.h client.picture) None r sx sy)

pub copy_agrees : (c : Confirmed) (size : Size) (st : SurfaceState) (w : Walk) (client : ClientState) (r : Rect) (code : ℕ) (sx sy : ℤ) (clip : Option Rect) → size.w ≤ 2048
    → client.depth ≡ depth_of c → has_pixel r ≡ true → is_inside size (boxed sx sy r.w r.h) ≡ true → share_tile size w.dirty (tiles_of size (boxed sx sy r.w r.h)) ≡ false → Agrees size st w client
    → ObeyedAndAgrees c size (state_after_drawing size st (drawn (Copy r code sx sy) clip)) w client (Drawn r (Scr r code sx sy) (bounds_of r clip))
copy_agrees c size st w client r code sx sy clip narrow same some whole apart a = record {
  after = after_painting size (edges_of_optional (bounds_of r clip)) (copied size client r code sx sy) client;
  obeys = obeyed_as c size client r (Scr r code sx sy) (bounds_of r clip) (Ok (after_painting size (edges_of_optional (bounds_of r clip)) (copied size client r code sx sy) client)) same some tt (ap (λ b. needs b Broken (Ok (after_painting size (edges_of_optional (bounds_of r clip)) (copied size client r code sx sy) client))) whole);
  agrees = painting_agrees size st w client (Copy r code sx sy) clip (copied size client r code sx sy) refl (record { rects = refl; areas = λ x y. refl; formulas = value }) a;
}
  where
    value : (i d : ℕ) → i < pixel_count size → w.dirty (tile_of_place size i) ≡ false → painted_area (in_clip clip) (painting_of size st (Copy r code sx sy)) (pos (i % size.w)) (pos (i / size.w)) ≡ true
        → (copied size client r code sx sy).formula (pos (i % size.w)) (pos (i / size.w)) (seen client.depth d)
        ≡ seen client.depth ((painting_of size st (Copy r code sx sy)).formula (pos (i % size.w)) (pos (i / size.w)) d)
    value i d below clean painted_ =
        let parts = and_parts (in_clip clip (pos (i % size.w)) (pos (i / size.w))) (in_rect r (pos (i % size.w)) (pos (i / size.w)) && true) painted_ in
        let here = and_parts (in_rect r (pos (i % size.w)) (pos (i / size.w))) true parts.1 in
        let s = source_of size r sx sy (i % size.w) (i / size.w) whole here.0 in
        let X = nat_of ((pos (i % size.w) -ℤ r.x) +ℤ sx) in
        let Y = nat_of ((pos (i / size.w) -ℤ r.y) +ℤ sy) in
        ap (λ source. maybe_raster_at client.depth code (Some 0) source (seen client.depth d))
        (copy_source client.depth size w.dirty client.picture st.picture X Y s.column s.row a.shown (source_clean size w.dirty r sx sy X Y narrow apart s.column s.row s.inside))
        ∙ operation client.depth code 0 (item (item (rows_of size.w size.h st.picture) Y []) X 0) d (black client.depth) refl
