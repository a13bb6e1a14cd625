-- What the rules and the slot tests of a fitting drawing say.
use Rattle.std.proofs.Common.{◌≡◌, ℕ, ◌+◌, ◌*◌, ◌/◌, ◌≤◌, [], ◌∷◌, length, refl, arith, Some, None}
use Rattle.std.specs.Prelude.{Bool, true, false, ◌&&◌, not, ◌==◌, nat_le, nat_lt, Option, option_map}
use Rattle.std.proofs.lemmas.Bool.{and_parts, and_from}
use Rattle.std.proofs.lemmas.Bool.Decides.{nat_tests}
use Rattle.px_core.specs.declared.surface.Size.{Size}
use Rattle.px_core.specs.declared.rectangle.Rect.{Rect}
use Rattle.px_core.specs.Rectangle.{has_pixel}
use Rattle.draw_ops.specs.declared.shape.Drawing.{Drawing}
use Rattle.draw_ops.specs.Content.{ImageOf, GlyphOf}
use Rattle.draw_ops.specs.Slots.{SurfaceState}
use Rattle.draw_ops.specs.Fits.{FitsState, broken_if, broken_rule, rules_of, slot_misfit, slot_tests, rect_rule, is_side, is_corner, image_rule, glyph_rule, is_offset, limit_rule}
use Rattle.draw_ops.specs.Fits.Misfit.{Rule}
use Rattle.session_rules.proofs.OwnSteps.{AllNone, first_some-each}
use Rattle.frame_laws.specs.Sound.{AreColors, IsSoundImage}
use Rattle.frame_laws.specs.SoundState.{IsSoundGlyph}

no_rule : (o : Option ℕ) → option_map Rule o ≡ None → o ≡ None
no_rule None h = refl
no_rule (Some rule) h = absurd (cc h)

-- each rule is kept
pub rules_kept : (size : Size) (st : SurfaceState) (d : Drawing) → FitsState size st d → AllNone (rules_of size d.clip d.shape)
rules_kept size st d h =
    first_some-each (rules_of size d.clip d.shape)
    (no_rule (broken_rule size d) (first_some-each (option_map Rule (broken_rule size d) ∷ slot_misfit size st d.shape ∷ []) h).0)

-- each slot holds what is read
pub tests_passed : (size : Size) (st : SurfaceState) (d : Drawing) → FitsState size st d → AllNone (slot_tests size st d.shape)
tests_passed size st d h = first_some-each (slot_tests size st d.shape)
    (first_some-each (option_map Rule (broken_rule size d) ∷ slot_misfit size st d.shape ∷ []) h).1.0

pub not_broken : (t : Bool) (rule : ℕ) → broken_if t rule ≡ None → t ≡ false
not_broken true rule h = absurd (cc h)
not_broken false rule h = refl

pub kept_test : (t : Bool) (rule : ℕ) → broken_if (not t) rule ≡ None → t ≡ true
kept_test true rule h = refl
kept_test false rule h = absurd (cc h)

pub below_limit : (most n : ℕ) → limit_rule most n ≡ None → n ≤ most
below_limit most n h = let e = not_broken (nat_lt most n) 5 h in grind (arith, nat_tests, e)

-- the first rule of a rectangle
pub record IsPlainRect (r : Rect) : Type 0 where
  pub some_columns : 1 ≤ r.w
  pub few_columns : r.w ≤ 2048
  pub some_rows : 1 ≤ r.h
  pub few_rows : r.h ≤ 2048
  pub left : is_corner r.x ≡ true
  pub above : is_corner r.y ≡ true
  pub pixel : has_pixel r ≡ true

pub plain_rect : (r : Rect) → rect_rule r ≡ None → IsPlainRect r
plain_rect r h =
    let t = and_parts (is_side r.w && is_side r.h) (is_corner r.x && is_corner r.y)
    (kept_test ((is_side r.w && is_side r.h) && (is_corner r.x && is_corner r.y)) 1 h) in
    let sides = and_parts (is_side r.w) (is_side r.h) t.0 in
    let corners = and_parts (is_corner r.x) (is_corner r.y) t.1 in
    let wide = and_parts (nat_le 1 r.w) (nat_le r.w 2048) sides.0 in
    let high = and_parts (nat_le 1 r.h) (nat_le r.h 2048) sides.1 in
    record {
      some_columns = at_most 1 r.w wide.0;
      few_columns = at_most r.w 2048 wide.1;
      some_rows = at_most 1 r.h high.0;
      few_rows = at_most r.h 2048 high.1;
      left = corners.0;
      above = corners.1;
      pixel = and_from _ _ wide.0 high.0;
    }
  where
    at_most : (m n : ℕ) → nat_le m n ≡ true → m ≤ n
    at_most m n e = grind (arith, nat_tests, e)

at_most : (m n : ℕ) → nat_le m n ≡ true → m ≤ n
at_most m n e = grind (arith, nat_tests, e)

equals : (m n : ℕ) → (m == n) ≡ true → m ≡ n
equals m n e = grind (arith, nat_tests, e)

-- the rule of a loaded image
pub sound_image : (image : ImageOf) → image_rule image ≡ None → AreColors image.pixels → IsSoundImage image
sound_image image h colors =
    let wide = nat_le 1 image.w && nat_le image.w 64 in
    let high = nat_le 1 image.h && nat_le image.h 64 in
    let whole = length image.pixels == image.w * image.h in
    let t = and_parts wide (high && whole) (kept_test (wide && (high && whole)) 6 h) in
    let w = and_parts (nat_le 1 image.w) (nat_le image.w 64) t.0 in
    let rest = and_parts high whole t.1 in
    let hs = and_parts (nat_le 1 image.h) (nat_le image.h 64) rest.0 in
    record {
      some_columns = at_most 1 image.w w.0;
      few_columns = at_most image.w 64 w.1;
      some_rows = at_most 1 image.h hs.0;
      few_rows = at_most image.h 64 hs.1;
      whole = equals (length image.pixels) (image.w * image.h) rest.1;
      colors = colors;
    }

-- the rule of a loaded glyph
pub sound_glyph : (glyph : GlyphOf) → glyph_rule glyph ≡ None → IsSoundGlyph glyph
sound_glyph glyph h =
    let wide = nat_le 1 glyph.cx && nat_le glyph.cx 32 in
    let high = nat_le 1 glyph.cy && nat_le glyph.cy 32 in
    let places = is_offset glyph.x && is_offset glyph.y in
    let whole = length glyph.bits == (glyph.cx + 7) / 8 * glyph.cy in
    let t = and_parts wide (high && (places && whole)) (kept_test (wide && (high && (places && whole))) 6 h) in
    let w = and_parts (nat_le 1 glyph.cx) (nat_le glyph.cx 32) t.0 in
    let u = and_parts high (places && whole) t.1 in
    let hs = and_parts (nat_le 1 glyph.cy) (nat_le glyph.cy 32) u.0 in
    let v = and_parts places whole u.1 in
    let p = and_parts (is_offset glyph.x) (is_offset glyph.y) v.0 in
    record {
      some_columns = at_most 1 glyph.cx w.0;
      few_columns = at_most glyph.cx 32 w.1;
      some_rows = at_most 1 glyph.cy hs.0;
      few_rows = at_most glyph.cy 32 hs.1;
      left = p.0;
      above = p.1;
      whole = equals (length glyph.bits) ((glyph.cx + 7) / 8 * glyph.cy) v.1;
    }
