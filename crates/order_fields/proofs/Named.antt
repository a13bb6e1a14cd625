-- The fields of a drawing give that drawing back, as it is shown.
use Rattle.std.proofs.Common.{◌≡◌, ◌<◌, ◌^◌, ℕ, ◌+◌, ◌*◌, ◌/◌, ◌%◌, ℤ, pos, refl, sym, ap, ◌∙◌, arith, Some, List, [], ◌∷◌, ◌++◌}
use Rattle.std.specs.Prelude.{◌-ℤ◌, ◌+ℤ◌, true, Option, None}
use Rattle.std.proofs.lemmas.Int.{ints}
use Rattle.px_core.specs.declared.rectangle.Rect.{Rect}
use Rattle.px_core.specs.Picture.{nat_of}
use Rattle.px_core.specs.Rectangle.{boxed}
use Rattle.order_fields.specs.OrderTable.{first_registers, registers_after}
use Rattle.order_fields.specs.OrderDelta.{order_bytes}
use Rattle.order_fields.specs.NamedDrawing.{NamedDrawing, HasPixel, HasColor, side_between, drawing_of, drawing_fields, shown_named, wire_color, color_said}
use Rattle.order_fields.specs.NamedDrawing.NamedDrawing.{Dst, Pat, Scr, Opaque, SaveBlock, RestoreBlock, Mem, Mem3, Glyphs}
use Rattle.px_core.specs.declared.depth.Depth.{Depth}
use Rattle.px_core.specs.declared.depth.Depth.TheVariants.{Bits24, Bits16}
use Rattle.px_core.specs.Depth.{cut_color, shown}
use Rattle.px_core.proofs.Cut.{cut_below}

color_again : (c : ℕ) → 65536 * (c / 65536) + (256 * ((c / 256) % 256) + c % 256) ≡ c
color_again c = omega arith

side_again : (x : ℤ) (w : ℕ) → side_between x ((x +ℤ pos w) -ℤ pos 1) ≡ w
side_again x w =
    let same : (((x +ℤ pos w) -ℤ pos 1) +ℤ pos 1) -ℤ x ≡ pos w = omega (arith, ints) in
    ap nat_of same

said_again : (d : Depth) (c : ℕ) → c < 16777216 → color_said d (wire_color d c) ≡ shown d c
said_again Bits24 c h = refl
said_again Bits16 c h = let low = cut_below c h in omega (arith, low)

pub shown_again : (d : Depth) (area : Rect) (nd : NamedDrawing) → HasPixel nd → HasColor nd → drawing_of d (drawing_fields d area nd) ≡ Some (shown_named d nd)
shown_again d area (Dst r code) h k = rw h refl
shown_again Bits24 area (Pat r code entry) h k = rw h refl
shown_again Bits16 area (Pat r code entry) h k = rw h refl
shown_again d area (Scr r code sx sy) h k = rw h refl
shown_again d area (Opaque r color) h k = rw (h, color_again (wire_color d color), said_again d color k) refl
shown_again d area (SaveBlock position r) h k = rw (side_again r.x r.w, side_again r.y r.h, h) refl
shown_again d area (RestoreBlock position r) h k = rw (side_again r.x r.w, side_again r.y r.h, h) refl
shown_again d area (Mem cache index r code sx sy) h k = rw h refl
shown_again Bits24 area (Mem3 cache index r code sx sy entry) h k = rw h refl
shown_again Bits16 area (Mem3 cache index r code sx sy entry) h k = rw h refl
shown_again Bits24 area (Glyphs cache x y color run) h k = refl
shown_again Bits16 area (Glyphs cache x y color run) h k = rw (said_again Bits16 color k) refl

-- at 24 bits that is the drawing itself, whatever its colour
pub named_again : (area : Rect) (nd : NamedDrawing) → HasPixel nd → drawing_of Bits24 (drawing_fields Bits24 area nd) ≡ Some nd
named_again area (Dst r code) h = rw h refl
named_again area (Pat r code entry) h = rw h refl
named_again area (Scr r code sx sy) h = rw h refl
named_again area (Opaque r color) h = rw (h, color_again color) refl
named_again area (SaveBlock position r) h = rw (side_again r.x r.w, side_again r.y r.h, h) refl
named_again area (RestoreBlock position r) h = rw (side_again r.x r.w, side_again r.y r.h, h) refl
named_again area (Mem cache index r code sx sy) h = rw h refl
named_again area (Mem3 cache index r code sx sy entry) h = rw h refl
named_again area (Glyphs cache x y color run) h = refl

pub black_fill : order_bytes first_registers true (drawing_fields Bits16 (boxed (pos 0) (pos 0) 64 48) (Opaque (boxed (pos 0) (pos 0) 64 48) 0)) None ≡ 0x19 ∷ 0x0A ∷ 0x0C ∷ 0x40 ∷ 0x30 ∷ []
unfolding cut_color
black_fill = refl

pub red_fill : order_bytes (registers_after first_registers (drawing_fields Bits16 (boxed (pos 0) (pos 0) 64 48) (Opaque (boxed (pos 0) (pos 0) 64 48) 0)) None) true
    (drawing_fields Bits16 (boxed (pos 10) (pos 20) 5 5) (Opaque (boxed (pos 10) (pos 20) 5 5) 0xFF0000)) None ≡ 0x11 ∷ 0x2F ∷ 0x0A ∷ 0x14 ∷ 0xC5 ∷ 0xD5 ∷ 0xF8 ∷ []
unfolding cut_color
red_fill = refl

pub wired : wire_color Bits16 0x123456 ≡ 0xAA1100
unfolding cut_color
wired = refl

-- the third byte isn't read
pub any_third : (third : ℕ) → third < 256 → color_said Bits16 (0xAA1100 + third) ≡ 0x11AA
any_third third h = omega (arith, h)
