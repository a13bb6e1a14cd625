-- What single drawings show.
use Rattle.std.proofs.Common.{◌≡◌, ℕ, ◌≤◌, List, [], ◌∷◌, refl, ◌+◌, ap, sym, subst, ◌∙◌, Some, None, arith}
use Rattle.std.proofs.lemmas.Int.{ints}
use Rattle.std.proofs.lemmas.Bool.{and_parts}
use Rattle.std.specs.Prelude.{Bool, true, false, ◌&&◌, ◌||◌, not, is_some, Option, Result, Ok, Err, IfOk, ℤ, ◌-ℤ◌, nat_abs}
use Rattle.std.specs.Int.{int_min}
use Rattle.std.specs.Ordering.{int_eq}
use Rattle.px_core.specs.declared.surface.Size.{Size}
use Rattle.px_core.specs.declared.rectangle.Rect.{Rect}
use Rattle.draw_ops.specs.declared.shape.Drawing.{Drawing}
use Rattle.draw_ops.specs.declared.shape.Shape.{Shape}
use Rattle.draw_ops.specs.declared.shape.Shape.TheVariants as shape
use Rattle.draw_ops.specs.Content.{GlyphOf}
use Rattle.draw_ops.specs.Slots.{SurfaceState, Loaded}
use Rattle.draw_ops.specs.Formulas.{joint_of, line_rect}
use Rattle.draw_ops.specs.Fits.{first_some, rules_of, slot_tests, FitsState, is_corner, line_rule, empty_glyph}
use Rattle.session_rules.specs.Pending.{pending_of, touched_rect, image_of, brush_of, glyphs_of, run_glyphs}
use Rattle.session_rules.proofs.OwnSteps.{first_some-each}
use Rattle.session_core.specs.declared.shown.Shown.{Shown}
use Rattle.session_core.specs.declared.shown.Shown.TheVariants.{Named}
use Rattle.session_core.specs.Cells.{cells_along, IsNear}
use Rattle.session_core.specs.About.{image_slot, brush_slot, held_in}
use Rattle.session_core.specs.Showing.{side, line_box, named_rect, rect_shown, image_shown, brush_shown, glyphs_shown, shown_with}
use Rattle.session_core.proofs.TextShown.{keeps_rules, has_slots, below_limit, near, cells_are}

pub rules_as : (size : Size) (st : SurfaceState) (d : Drawing) (s : Shape) → FitsState size st d → d.shape ≡ s → first_some (rules_of size d.clip s) ≡ None
rules_as size st d s h is = subst (λ x. first_some (rules_of size d.clip x) ≡ None) is (keeps_rules size st d h)

pub slots_as : (size : Size) (st : SurfaceState) (d : Drawing) (s : Shape) → FitsState size st d → d.shape ≡ s → first_some (slot_tests size st s) ≡ None
slots_as size st d s h is = subst (λ x. first_some (slot_tests size st x) ≡ None) is (has_slots size st d h)

pub pat_brush : (size : Size) (clip : Option Rect) (r : Rect) (code brush : ℕ) → first_some (rules_of size clip (shape.Pat r code brush)) ≡ None → brush ≤ 63
pat_brush size clip r code brush h = below_limit 63 brush (first_some-each (rules_of size clip (shape.Pat r code brush)) h).1.1.1.0

pub blit3_brush : (size : Size) (clip : Option Rect) (r : Rect) (code image : ℕ) (sx sy : ℤ) (brush : ℕ) → first_some (rules_of size clip (shape.Blit3 r code image sx sy brush)) ≡ None → brush ≤ 63
blit3_brush size clip r code image sx sy brush h = below_limit 63 brush (first_some-each (rules_of size clip (shape.Blit3 r code image sx sy brush)) h).1.1.1.1.0

pub restore_slot : (size : Size) (clip : Option Rect) (slot : ℕ) (x y : ℤ) → first_some (rules_of size clip (shape.Restore slot x y)) ≡ None → slot ≤ 15
restore_slot size clip slot x y h = below_limit 15 slot (first_some-each (rules_of size clip (shape.Restore slot x y)) h).1.1.0

-- the ends of a line
pub record HasEnds (x0 y0 x1 y1 : ℤ) : Type 0 where
  pub left : IsNear x0
  pub above : IsNear y0
  pub right : IsNear x1
  pub below : IsNear y1

second_of : (a b : Bool) → not (a || not b) ≡ true → b ≡ true
second_of true b h = absurd (cc h)
second_of false true h = refl
second_of false false h = absurd (cc h)

unbroken : (t : Bool) (o : Option ℕ) → o ≡ None → (t ≡ true → o ≡ Some 7) → not t ≡ true
unbroken true o h f = absurd (cc (h, f refl))
unbroken false o h f = refl

pub line_ends : (size : Size) (clip : Option Rect) (x0 y0 x1 y1 : ℤ) (color : ℕ) → first_some (rules_of size clip (shape.Line x0 y0 x1 y1 color)) ≡ None → HasEnds x0 y0 x1 y1
line_ends size clip x0 y0 x1 y1 color h =
    let straight = int_eq x0 x1 || int_eq y0 y1 in
    let ends = (is_corner x0 && is_corner y0) && (is_corner x1 && is_corner y1) in
    let rule = (first_some-each (rules_of size clip (shape.Line x0 y0 x1 y1 color)) h).1.0 in
    let whole = second_of straight ends (unbroken (straight || not ends) (line_rule x0 y0 x1 y1) rule (λ t. rw t refl)) in
    let both = and_parts (is_corner x0 && is_corner y0) (is_corner x1 && is_corner y1) whole in
    let first = and_parts (is_corner x0) (is_corner y0) both.0 in
    let second = and_parts (is_corner x1) (is_corner y1) both.1 in
    record { left = near x0 first.0; above = near y0 first.1; right = near x1 second.0; below = near y1 second.1 }

-- a line, whose ends lie near the surface
near_side : (a b : ℤ) → IsNear a → IsNear b → side a b ≡ nat_abs (b -ℤ a) + 1
near_side a b ha hb = grind (arith, ints, ha.low, ha.high, hb.low, hb.high)

pub line_is : (size : Size) (st : SurfaceState) (d : Drawing) (x0 y0 x1 y1 : ℤ) (color : ℕ) → d.shape ≡ shape.Line x0 y0 x1 y1 color → HasEnds x0 y0 x1 y1 → shown_with d Named ≡ pending_of size st d
line_is size st d x0 y0 x1 y1 color is ends =
    let box : line_box x0 y0 x1 y1 ≡ line_rect x0 y0 x1 y1 = λ i. record { x = int_min x0 x1; y = int_min y0 y1; w = near_side x0 x1 ends.left ends.right i; h = near_side y0 y1 ends.above ends.below i } in
    λ i. record {
      drawing = d;
      rect = (ap named_rect is ∙ box ∙ ap (touched_rect size st) (sym is)) i;
      image = ap (image_of st) (sym is) i;
      brush = ap (brush_of st) (sym is) i;
      glyphs = ap (glyphs_of st) (sym is) i;
    }

-- a text
pub text_is : {E : Type 0} (size : Size) (st : SurfaceState) (d : Drawing) (r : Result Shown E) (x y : ℤ) (color font : ℕ) (run : List (ℕ × ℕ)) (rect : Rect) (glyphs : List (Loaded GlyphOf))
    → d.shape ≡ shape.Text x y color font run → empty_glyph st.glyphs font run ≡ None → rect ≡ joint_of (cells_along (run_glyphs st.glyphs font run) run x y) → glyphs ≡ run_glyphs st.glyphs font run
    → IfOk r (λ (shown : Shown). rect_shown d.shape shown ≡ rect) → IfOk r (λ (shown : Shown). image_shown shown ≡ None) → IfOk r (λ (shown : Shown). brush_shown shown ≡ None)
    → IfOk r (λ (shown : Shown). glyphs_shown shown ≡ glyphs) → IfOk r (λ (shown : Shown). shown_with d shown ≡ pending_of size st d)
text_is size st d (Err e) x y color font run rect glyphs is full corner some a b c g = tt
text_is size st d (Ok shown) x y color font run rect glyphs is full corner some a b c g = λ i. record {
  drawing = d;
  rect = (a ∙ corner ∙ ap joint_of (cells_are st font run x y full) ∙ ap (touched_rect size st) (sym is)) i;
  image = (b ∙ ap (image_of st) (sym is)) i;
  brush = (c ∙ ap (brush_of st) (sym is)) i;
  glyphs = (g ∙ some ∙ ap (glyphs_of st) (sym is)) i;
}

pub all_there : {A : Type 0} (o : Option A) → first_some (o ∷ []) ≡ None → o ≡ None
all_there None h = refl
all_there (Some m) h = absurd (cc h)

-- a drawing that draws an image, or with a brush
pub slots_are : {E : Type 0} (size : Size) (st : SurfaceState) (d : Drawing) (r : Result Shown E) (s : Shape) → d.shape ≡ s → (is_some (image_slot s) || is_some (brush_slot s)) ≡ true
    → IfOk r (λ (shown : Shown). rect_shown d.shape shown ≡ named_rect d.shape) → IfOk r (λ (shown : Shown). image_shown shown ≡ held_in (image_slot s) st.images)
    → IfOk r (λ (shown : Shown). brush_shown shown ≡ held_in (brush_slot s) st.brushes) → IfOk r (λ (shown : Shown). glyphs_shown shown ≡ [])
    → IfOk r (λ (shown : Shown). shown_with d shown ≡ pending_of size st d)
slots_are size st d (Err e) s is some a b c g = tt
slots_are size st d (Ok shown) s is some a b c g =
    let same = drawn s some in
    λ i. record {
      drawing = d;
      rect = (a ∙ ap named_rect is ∙ same.0 ∙ ap (touched_rect size st) (sym is)) i;
      image = (b ∙ same.1 ∙ ap (image_of st) (sym is)) i;
      brush = (c ∙ same.2 ∙ ap (brush_of st) (sym is)) i;
      glyphs = (g ∙ same.3 ∙ ap (glyphs_of st) (sym is)) i;
    }
  where
    drawn : (z : Shape) → (is_some (image_slot z) || is_some (brush_slot z)) ≡ true
        → (named_rect z ≡ touched_rect size st z) × (held_in (image_slot z) st.images ≡ image_of st z) × (held_in (brush_slot z) st.brushes ≡ brush_of st z) × ([] ≡ glyphs_of st z)
    drawn (shape.Pat x code brush) h = (refl, refl, refl, refl)
    drawn (shape.Blit x code image sx sy) h = (refl, refl, refl, refl)
    drawn (shape.Blit3 x code image sx sy brush) h = (refl, refl, refl, refl)
    drawn (shape.Fill x color) h = absurd (cc h)
    drawn (shape.Dst x code) h = absurd (cc h)
    drawn (shape.Copy x code sx sy) h = absurd (cc h)
    drawn (shape.Text x y color font run) h = absurd (cc h)
    drawn (shape.Line x0 y0 x1 y1 color) h = absurd (cc h)
    drawn (shape.Save slot x) h = absurd (cc h)
    drawn (shape.Restore slot x y) h = absurd (cc h)
    drawn (shape.LoadImage slot image) h = absurd (cc h)
    drawn (shape.LoadBrush slot brush) h = absurd (cc h)
    drawn (shape.LoadGlyph font code glyph) h = absurd (cc h)
