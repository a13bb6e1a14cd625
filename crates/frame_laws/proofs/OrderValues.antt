-- Orders whose values their fields can hold, which fit into an update of their own, and which are no mark.
use Rattle.std.proofs.Common.{◌≡◌, ℕ, ◌<◌, ◌≤◌, List, [], ◌∷◌, ◌++◌, length, arith, Some, None}
use Rattle.std.specs.Prelude.{Bool, true, false, ◌&&◌, ⊤, Option, ℤ, pos, negsuc, ◌+ℤ◌, ◌-ℤ◌, ◌≤ℤ◌, int_le}
use Rattle.std.proofs.lemmas.Int.{ints}
use Rattle.std.proofs.lemmas.Bool.{and_from, and_parts}
use Rattle.px_core.specs.declared.surface.Size.{Size}
use Rattle.px_core.specs.declared.rectangle.Rect.{Rect}
use Rattle.px_core.specs.Rectangle.{has_pixel, is_inside}
use Rattle.px_core.proofs.Stretches.{int_le_from}
use Rattle.draw_ops.specs.Fits.{is_corner, clip_rule}
use Rattle.caps_sets.specs.declared.confirmed.Confirmed.{Confirmed}
use Rattle.caps_sets.specs.Confirmed.{depth_of}
use Rattle.order_fields.specs.OrderTable.{Registers, fits_coordinate, IsFieldList, FitBounds}
use Rattle.order_fields.specs.OrderDelta.{edges_of_optional}
use Rattle.order_fields.specs.NamedDrawing.{NamedDrawing, drawing_fields}
use Rattle.frame_rules.specs.FrameOrders.{SentOrder, is_within, bounds_if, bounds_of}
use Rattle.frame_rules.specs.FrameOrders.SentOrder.{Drawn}
use Rattle.frame_rules.specs.FrameBytes.{bytes_of_order, registers_after_order}
use Rattle.frame_rules.specs.FrameRead.{FitsOrder, FitOrders, AreShort}
use Rattle.frame_laws.proofs.OrderShort.{drawing_short}
use Rattle.frame_laws.proofs.Rules.{kept_test}
use Rattle.frame_laws.proofs.FrameShown.{NoMark, NoMarks}

-- ---- orders

-- an order that goes whole, whatever the registers
pub record GoesWhole (c : Confirmed) (o : SentOrder) : Type 0 where
  pub fits : FitsOrder c o
  pub short : (regs : Registers) → length (bytes_of_order c regs o) ≤ 16357
  pub plain : NoMark o

abbrev pub AllGoWhole : Confirmed → List SentOrder → Type 0
AllGoWhole c [] = ⊤
AllGoWhole c (o ∷ os) = GoesWhole c o × AllGoWhole c os

pub whole_append : (c : Confirmed) (os ps : List SentOrder) → AllGoWhole c os → AllGoWhole c ps → AllGoWhole c (os ++ ps)
whole_append c [] ps h k = k
whole_append c (o ∷ os) ps h k = (h.0, whole_append c os ps h.1 k)

pub whole_fit : (c : Confirmed) (os : List SentOrder) → AllGoWhole c os → FitOrders c os
whole_fit c [] h = tt
whole_fit c (o ∷ os) h = (h.0.fits, whole_fit c os h.1)

pub whole_short : (c : Confirmed) (os : List SentOrder) (regs : Registers) → AllGoWhole c os → AreShort c regs os
whole_short c [] regs h = tt
whole_short c (o ∷ os) regs h = (h.0.short regs, whole_short c os (registers_after_order c regs o) h.1)

pub whole_marks : (c : Confirmed) (os : List SentOrder) → AllGoWhole c os → NoMarks os
whole_marks c [] h = tt
whole_marks c (o ∷ os) h = (h.0.plain, whole_marks c os h.1)

-- an order that draws: at most 90 bytes beside those of a run
pub drawn_whole : (c : Confirmed) (touched : Rect) (d : NamedDrawing) (bounds : Option Rect) → IsFieldList (drawing_fields (depth_of c) touched d)
    → FitBounds (edges_of_optional bounds)
    → length (drawing_fields (depth_of c) touched d).values.bytes < 256 → GoesWhole c (Drawn touched d bounds)
drawn_whole c touched d bounds fields edges few = record {
  fits = (fields, edges);
  short = λ regs. let most = drawing_short (depth_of c) regs c.zero_bounds touched d (edges_of_optional bounds) in omega (arith, most, few);
  plain = tt;
}

-- ---- numbers of two bytes

pub coordinate : (z : ℤ) → negsuc 32767 ≤ℤ z → z ≤ℤ pos 32767 → fits_coordinate z ≡ true
coordinate z low high = and_from _ _ (int_le_from (negsuc 32767) z low) (int_le_from z (pos 32767) high)

pub corner_fits : (z : ℤ) → is_corner z ≡ true → fits_coordinate z ≡ true
corner_fits z h =
    let e = and_parts (int_le (negsuc 4095) z) (int_le z (pos 4095)) h in
    let low = e.0 in
    let high = e.1 in
    coordinate z (omega (arith, ints, low)) (omega (arith, ints, high))

pub side_fits : (n : ℕ) → n ≤ 2048 → fits_coordinate (pos n) ≡ true
side_fits n h = coordinate (pos n) (omega (arith, ints)) (omega (arith, ints, h))

-- ---- what lies inside

-- the corner and the last column and row of a rectangle inside a picture
pub record InsideFits (r : Rect) : Type 0 where
  pub left : fits_coordinate r.x ≡ true
  pub top : fits_coordinate r.y ≡ true
  pub right : fits_coordinate ((r.x +ℤ pos r.w) -ℤ pos 1) ≡ true
  pub bottom : fits_coordinate ((r.y +ℤ pos r.h) -ℤ pos 1) ≡ true

stretch_fits : (from : ℤ) (n most : ℕ) → most ≤ 2048 → int_le (pos 0) from ≡ true → int_le (from +ℤ pos n) (pos most) ≡ true
    → (fits_coordinate from ≡ true) × (fits_coordinate ((from +ℤ pos n) -ℤ pos 1) ≡ true)
stretch_fits from n most few low high = (
  coordinate from (omega (arith, ints, low)) (omega (arith, ints, high, few)),
  coordinate ((from +ℤ pos n) -ℤ pos 1) (omega (arith, ints, low))
      (omega (arith, ints, high, few)),
)

pub inside_fits : (size : Size) (r : Rect) → size.w ≤ 2048 → size.h ≤ 2048 → is_inside size r ≡ true → InsideFits r
inside_fits size r narrow low h =
    let e = and_parts (int_le (pos 0) r.x && int_le (r.x +ℤ pos r.w) (pos size.w)) (int_le (pos 0) r.y && int_le (r.y +ℤ pos r.h) (pos size.h)) h in
    let x = and_parts (int_le (pos 0) r.x) (int_le (r.x +ℤ pos r.w) (pos size.w)) e.0 in
    let y = and_parts (int_le (pos 0) r.y) (int_le (r.y +ℤ pos r.h) (pos size.h)) e.1 in
    let xs = stretch_fits r.x r.w size.w narrow x.0 x.1 in
    let ys = stretch_fits r.y r.h size.h low y.0 y.1 in
    record { left = xs.0; top = ys.0; right = xs.1; bottom = ys.1 }

-- bounds are the clip, which lies inside
pub bounds_fit : (size : Size) (r : Rect) (clip : Option Rect) → size.w ≤ 2048 → size.h ≤ 2048 → clip_rule size clip ≡ None
    → FitBounds (edges_of_optional (bounds_of r clip))
bounds_fit size r None narrow low h = tt
bounds_fit size r (Some clip) narrow low h = by (is_within r clip)
  where
    by : (b : Bool) → FitBounds (edges_of_optional (bounds_if b clip))
    by true = tt
    by false =
        let inside = (and_parts (has_pixel clip) (is_inside size clip) (kept_test (has_pixel clip && is_inside size clip) 2 h)).1 in
        let f = inside_fits size clip narrow low inside in
        record { left = f.left; top = f.top; right = f.right; bottom = f.bottom }
