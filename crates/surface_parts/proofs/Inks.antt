-- Glyphs that were drawn bit by bit.
use Rattle.std.proofs.Common.{◌≡◌, ℕ, ◌+◌, ◌*◌, ◌/◌, ◌%◌, ◌-◌, ◌^◌, ◌≤◌, ◌<◌, List, length, Bool, true, false, refl, ap, sym, ◌∙◌, arith}
use Rattle.std.specs.Prelude.{◌&&◌, ◌==◌, pos, ◌-ℤ◌, ◌+ℤ◌, ℤ, if◌then◌else◌}
use Rattle.std.proofs.lemmas.Int.{ints}
use Rattle.std.proofs.lemmas.Bool.Decides.{nat_tests}
use Rattle.px_core.specs.declared.surface.Size.{Size}
use Rattle.px_core.specs.declared.rectangle.Rect.{Rect}
use Rattle.px_core.specs.Picture.{Area, both, nat_of, pixel_count, pixel_at, painted, where_chosen}
use Rattle.px_core.specs.Rectangle.{in_rect}
use Rattle.px_core.proofs.Pictures.{item-get_or}
use Rattle.rop3_core.specs.Palette.{session_colors}
use Rattle.draw_ops.specs.Formulas.{inked, is_bit_set, solid}
use Rattle.surface_parts.specs.declared.part.Part.{Part}
use Rattle.surface_parts.specs.declared.glyphs.Bits.{Bits}
use Rattle.surface_parts.specs.Parts.{in_part, IsRepainted}
use Rattle.surface_parts.specs.Bits.{is_ink, ink_color}
use Rattle.surface_parts.proofs.Repaint.{none_painted}
use Rattle.surface_parts.proofs.Paintings.{area_is}

ink_choice : (p c r i s : Bool) (color x y o : ℕ) → p ≡ (c && r) → (p ≡ true → i ≡ s) → (if p then (if i then color else o) else o) ≡ where_chosen (c && (r && s)) (solid session_colors color) (pos x) (pos y) o
ink_choice p true true i s color x y o e same = ap (λ b. if b then (if i then color else o) else o) e ∙ ap (λ b. if b then color else o) (same e) ∙ chosen s
  where
    chosen : (b : Bool) → (if b then color else o) ≡ where_chosen b (solid session_colors color) (pos x) (pos y) o
    chosen true = refl
    chosen false = refl
ink_choice p true false i s color x y o e same = ap (λ b. if b then (if i then color else o) else o) e
ink_choice p false r i s color x y o e same = ap (λ b. if b then (if i then color else o) else o) e

-- the bit of a pixel, read from a part of the cell and from the cell
bit_is : (bytes bits : List ℕ) (rb cx k r m n : ℕ) → bytes ≡ bits → rb ≡ (cx + 7) / 8 → m ≡ k → n ≡ r → is_ink bytes rb m n ≡ is_bit_set cx bits k r
bit_is bytes bits rb cx k r m n e f g h =
    ap (λ bs. is_ink bs rb m n) e ∙ ap (λ w. is_ink bits w m n) f ∙ ap (λ j. is_ink bits ((cx + 7) / 8) j n) g ∙ ap (λ j. is_ink bits ((cx + 7) / 8) k j) h
    ∙ ap (λ b. (b / 2 ^ (7 - k % 8)) % 2 == 1) (sym (item-get_or bits ((cx + 7) / 8 * r + k / 8) 0))

nat_of_pos : (z : ℤ) (n : ℕ) → pos n ≡ z → n ≡ nat_of z
nat_of_pos z n e = ap nat_of e

module _ (size : Size) (clip : Area) (cell : Rect) (bits : List ℕ) (color : ℕ) (old : List ℕ) (e : length old ≡ pixel_count size) where
  -- a part of the cell was drawn
  pub glyph_drawn : (part : Part) (b : Bits) (new : List ℕ) → IsRepainted size (in_part part) (ink_color size old part b color) old new
      → ((x y : ℕ) → x < size.w → y < size.h → in_part part x y ≡ (clip (pos x) (pos y) && in_rect cell (pos x) (pos y)))
      → b.bytes.now ≡ bits → b.row_bytes ≡ (cell.w + 7) / 8 → pos b.column ≡ ((pos part.x -ℤ cell.x) +ℤ pos 0) → pos b.row ≡ ((pos part.y -ℤ cell.y) +ℤ pos 0)
      → new ≡ painted size (both clip (inked cell bits)) (solid session_colors color) old
  glyph_drawn part b new done seen eb ew ec er = area_is size (both clip (inked cell bits)) (solid session_colors color) (in_part part) (ink_color size old part b color) old new e done (λ x y left above.
      ink_choice (in_part part x y) (clip (pos x) (pos y)) (in_rect cell (pos x) (pos y)) _ _ color x y (pixel_at size old 0 x y) (seen x y left above) (λ h.
      let l : part.x ≤ x = grind (arith, nat_tests, h) in
      let a : part.y ≤ y = grind (arith, nat_tests, h) in
      bit_is b.bytes.now bits b.row_bytes cell.w (nat_of (pos x -ℤ cell.x)) (nat_of (pos y -ℤ cell.y)) (b.column + (x - part.x)) (b.row + (y - part.y)) eb ew
      (nat_of_pos (pos x -ℤ cell.x) (b.column + (x - part.x)) (omega (arith, ints, l, ec))) (nat_of_pos (pos y -ℤ cell.y) (b.row + (y - part.y)) (omega (arith, ints, a, er)))))

  -- nothing of the cell is seen
  pub glyph_unseen : ((x y : ℕ) → x < size.w → y < size.h → false ≡ (clip (pos x) (pos y) && in_rect cell (pos x) (pos y))) → old ≡ painted size (both clip (inked cell bits)) (solid session_colors color) old
  glyph_unseen none = area_is size (both clip (inked cell bits)) (solid session_colors color) (λ x y. false) (λ x y. 0) old old e (none_painted size (λ x y. false) (λ x y. 0) old (λ x y. refl)) (λ x y left above.
      ink_choice false (clip (pos x) (pos y)) (in_rect cell (pos x) (pos y)) false _ color x y (pixel_at size old 0 x y) (none x y left above) (λ h. absurd (cc h)))
