-- The cut of a drawing that suits a state suits it too.
use Rattle.std.proofs.Common.{◌≡◌, ℕ, ◌+◌, ◌<◌, ◌≤◌, List, [], ◌∷◌, refl, ap, sym, ◌∙◌, subst, arith, Some, None}
use Rattle.std.specs.Prelude.{Bool, true, false, ◌&&◌, not, nat_le, Option, ⊤, ℤ, pos, negsuc, ◌+ℤ◌, int_le, option_map}
use Rattle.std.proofs.lemmas.Int.{ints}
use Rattle.std.proofs.lemmas.Bool.{and_parts, and_from}
use Rattle.std.proofs.lemmas.Bool.Decides.{nat_tests}
use Rattle.px_core.specs.declared.surface.Size.{Size}
use Rattle.px_core.specs.declared.rectangle.Rect.{Rect}
use Rattle.px_core.specs.Rectangle.{boxed, whole, common, clipped, has_pixel, is_inside}
use Rattle.px_core.proofs.Stretches.{int_le_from}
use Rattle.draw_ops.specs.declared.shape.Drawing.{Drawing}
use Rattle.draw_ops.specs.declared.shape.Shape.{Shape}
use Rattle.draw_ops.specs.declared.shape.Shape.TheVariants.{Fill, Dst, Pat, Copy, Blit, Blit3, Text, Line, Save, Restore, LoadImage, LoadBrush, LoadGlyph}
use Rattle.draw_ops.specs.Content.{ImageOf}
use Rattle.draw_ops.specs.Slots.{SurfaceState, Loaded, lookup}
use Rattle.draw_ops.specs.Fits.{Misfit, FitsState, first_some, broken_if, broken_rule, rules_of, slot_misfit, slot_tests, rect_rule, is_side, is_corner, copied_rule, source_test, too_small_if}
use Rattle.draw_ops.specs.Fits.Misfit.{Rule}
use Rattle.session_rules.proofs.OwnSteps.{AllNone}
use Rattle.session_rules.proofs.Fitting.{Sides, side, corner}
use Rattle.session_rules.specs.Pending.{Pending, pending_of}
use Rattle.frame_rules.specs.Cautious.{area_of, changes_nothing, moved, unless, cut_to, is_cut, with_shape, cut_by, cut}
use Rattle.frame_laws.specs.Agreement.{drawn}
use Rattle.frame_laws.proofs.Cut.{common-in_rect}
use Rattle.frame_laws.proofs.CutSource.{Nested, nested, cut_inside}
use Rattle.frame_laws.specs.Drawings.{HasValues, Suits}
use Rattle.frame_laws.proofs.Rules.{rules_kept, tests_passed, kept_test}

-- ---- a drawing fits where each of its tests is passed

none_first : {A : Type 0} (os : List (Option A)) → AllNone os → first_some os ≡ None
none_first [] h = refl
none_first (None ∷ os) h = none_first os h.1
none_first (Some x ∷ os) h = absurd (cc h.0)

fits_from : (size : Size) (st : SurfaceState) (s : Shape) (clip : Option Rect) → AllNone (rules_of size clip s) → AllNone (slot_tests size st s)
    → FitsState size st (drawn s clip)
fits_from size st s clip rules tests =
    ap (λ o. first_some (option_map Rule o ∷ slot_misfit size st s ∷ [])) (none_first (rules_of size clip s) rules)
    ∙ ap (λ (o : Option Misfit). first_some (None ∷ o ∷ [])) (none_first (slot_tests size st s) tests)

-- ---- the area of a drawing passes the rule of rectangles

area_passes : (size : Size) (r : Rect) (clip : Option Rect) → Sides size.w size.h → has_pixel (common (whole size) (clipped r clip)) ≡ true
    → rect_rule (common (whole size) (clipped r clip)) ≡ None
area_passes size r clip sides some =
    by (common (whole size) (clipped r clip)) some
    (nested (common (whole size) (clipped r clip)) (whole size) some (λ x y k. (common-in_rect (whole size) (clipped r clip) x y k).0))
  where
    at_least : (m n : ℕ) → nat_le m n ≡ true → m ≤ n
    at_least m n e = grind (arith, nat_tests, e)

    by : (a : Rect) → has_pixel a ≡ true → Nested a (whole size) → rect_rule a ≡ None
    by a h n =
        let p = and_parts (nat_le 1 a.w) (nat_le 1 a.h) h in
        let left = n.left in
        let right = n.right in
        let top = n.top in
        let bottom = n.bottom in
        let wide = at_least 1 a.w p.0 in
        let high = at_least 1 a.h p.1 in
        let narrow = sides.not_wider in
        let low = sides.not_higher in
        ap (λ t. broken_if (not t) 1)
        (and_from _ _ (and_from _ _ (side a.w wide (omega (arith, ints, left, right, narrow))) (side a.h high (omega (arith, ints, top, bottom, low))))
        (and_from _ _ (corner a.x (omega (arith, ints, left)) (omega (arith, ints, right, narrow)))
        (corner a.y (omega (arith, ints, top)) (omega (arith, ints, bottom, low)))))

-- ---- what a cut is

-- a shape without a clip, where its area has a pixel
record IsCut (some : Bool) (s : Shape) (q : Pending) : Type 0 where
  pixel : some ≡ true
  drawing : drawn s None ≡ q.drawing

cut_is : (size : Size) (p : Pending) (s : Shape) (nothing some : Bool) (q : Pending) → cut_to (area_of size p) p.drawing.shape ≡ unless nothing s
    → cut_by true some size p ≡ Some q → IsCut some s q
cut_is size p s nothing false q is e = absurd (cc e)
cut_is size p s true true q is e = absurd (cc (sym (ap (with_shape p (area_of size p)) is) ∙ e))
cut_is size p s false true q is e =
    let f = sym (ap (with_shape p (area_of size p)) is) ∙ e in
    let same : record p { drawing = record { shape = s; clip = None }; rect = area_of size p } ≡ q = cc f in
    record { pixel = refl; drawing = ap (λ (x : Pending). x.drawing) same }

-- a source inside an image, after it moved along
source_passes : (size : Size) (o : Option (Loaded ImageOf)) (slot : ℕ) (r : Rect) (clip : Option Rect) (sx sy : ℤ)
    → has_pixel (common (whole size) (clipped r clip)) ≡ true
    → source_test o slot r sx sy ≡ None
    → source_test o slot (common (whole size) (clipped r clip)) (moved r.x (common (whole size) (clipped r clip)).x sx)
    (moved r.y (common (whole size) (clipped r clip)).y sy) ≡ None
source_passes size None slot r clip sx sy some h = refl
source_passes size (Some image) slot r clip sx sy some h =
    let into : Size = record { w = image.content.w; h = image.content.h } in
    ap (λ t. too_small_if (not t) slot) (cut_inside size into r clip sx sy some (inside (is_inside into (boxed sx sy r.w r.h)) h))
  where
    inside : (t : Bool) → too_small_if (not t) slot ≡ None → t ≡ true
    inside true e = refl
    inside false e = absurd (cc e)

module _ (size : Size) (sides : Sides size.w size.h) (st : SurfaceState) where
  abbrev area : Rect → Option Rect → Rect
  area r clip = common (whole size) (clipped r clip)

  same_drawing : (s : Shape) (clip : Option Rect) (q : Pending) → Suits size st (drawn s clip) → Some (pending_of size st (drawn s clip)) ≡ Some q
      → Suits size st q.drawing
  same_drawing s clip q h e = let same : pending_of size st (drawn s clip) ≡ q = cc e in subst (λ (p : Pending). Suits size st p.drawing) same h

  cut_suits_by : (s : Shape) (clip : Option Rect) (q : Pending) → AllNone (rules_of size clip s) → AllNone (slot_tests size st s) → Suits size st (drawn s clip)
      → cut size (pending_of size st (drawn s clip)) ≡ Some q
      → Suits size st q.drawing
  cut_suits_by (Fill r color) clip q rules tests h e =
      let p = pending_of size st (drawn (Fill r color) clip) in
      let a = area r clip in
      let k = cut_is size p (Fill a color) false (has_pixel (area_of size p)) q refl e in
      subst (Suits size st) k.drawing (record {
        fits = fits_from size st (Fill a color) None
            (area_passes size r clip sides k.pixel, (refl, tt)) tt;
        values = h.values;
      })
  cut_suits_by (Dst r code) clip q rules tests h e =
      let p = pending_of size st (drawn (Dst r code) clip) in
      let a = area r clip in
      let k = cut_is size p (Dst a code) (changes_nothing code) (has_pixel (area_of size p)) q refl e in
      subst (Suits size st) k.drawing (record {
        fits = fits_from size st (Dst a code) None
            (area_passes size r clip sides k.pixel, (refl, (rules.1.1.0, tt))) tt;
        values = h.values;
      })
  cut_suits_by (Pat r code brush) clip q rules tests h e =
      let p = pending_of size st (drawn (Pat r code brush) clip) in
      let a = area r clip in
      let k = cut_is size p (Pat a code brush) (changes_nothing code) (has_pixel (area_of size p)) q refl e in
      subst (Suits size st) k.drawing
      (record {
        fits = fits_from size st (Pat a code brush) None
            (area_passes size r clip sides k.pixel, (refl, (rules.1.1.0, (rules.1.1.1.0, tt)))) tests;
        values = h.values;
      })
  cut_suits_by (Copy r code sx sy) clip q rules tests h e =
      let p = pending_of size st (drawn (Copy r code sx sy) clip) in
      let a = area r clip in
      let s : Shape = Copy a code (moved r.x a.x sx) (moved r.y a.y sy) in
      let k = cut_is size p s (changes_nothing code) (has_pixel (area_of size p)) q refl e in
      let inside = cut_inside size size r clip sx sy k.pixel (kept_test (is_inside size (boxed sx sy r.w r.h)) 4 rules.1.1.1.0) in
      subst (Suits size st) k.drawing
      (record {
        fits = fits_from size st s None (
          area_passes size r clip sides k.pixel,
          (refl, (rules.1.1.0, (ap (λ t. broken_if (not t) 4) inside, tt))),
        ) tt;
        values = h.values;
      })
  cut_suits_by (Blit r code image sx sy) clip q rules tests h e =
      let p = pending_of size st (drawn (Blit r code image sx sy) clip) in
      let a = area r clip in
      let s : Shape = Blit a code image (moved r.x a.x sx) (moved r.y a.y sy) in
      let k = cut_is size p s (changes_nothing code) (has_pixel (area_of size p)) q refl e in
      subst (Suits size st) k.drawing
      (record {
        fits = fits_from size st s None (area_passes size r clip sides k.pixel, (refl, (rules.1.1.0, (rules.1.1.1.0, tt))))
            (tests.0, (source_passes size (lookup image st.images) image r clip sx sy k.pixel tests.1.0, tt));
        values = h.values;
      })
  cut_suits_by (Blit3 r code image sx sy brush) clip q rules tests h e =
      let p = pending_of size st (drawn (Blit3 r code image sx sy brush) clip) in
      let a = area r clip in
      let s : Shape = Blit3 a code image (moved r.x a.x sx) (moved r.y a.y sy) brush in
      let k = cut_is size p s (changes_nothing code) (has_pixel (area_of size p)) q refl e in
      subst (Suits size st) k.drawing
      (record {
        fits = fits_from size st s None (area_passes size r clip sides k.pixel, (refl, (rules.1.1.0, (rules.1.1.1.0, (rules.1.1.1.1.0, tt)))))
            (tests.0, (tests.1.0, (source_passes size (lookup image st.images) image r clip sx sy k.pixel tests.1.1.0, tt)));
        values = h.values;
      })
  cut_suits_by (Text x y color font run) clip q rules tests h e = same_drawing (Text x y color font run) clip q h e
  cut_suits_by (Line x0 y0 x1 y1 color) clip q rules tests h e = same_drawing (Line x0 y0 x1 y1 color) clip q h e
  cut_suits_by (Save slot r) clip q rules tests h e = same_drawing (Save slot r) clip q h e
  cut_suits_by (Restore slot x y) clip q rules tests h e = same_drawing (Restore slot x y) clip q h e
  cut_suits_by (LoadImage slot image) clip q rules tests h e = same_drawing (LoadImage slot image) clip q h e
  cut_suits_by (LoadBrush slot brush) clip q rules tests h e = same_drawing (LoadBrush slot brush) clip q h e
  cut_suits_by (LoadGlyph font code glyph) clip q rules tests h e = same_drawing (LoadGlyph font code glyph) clip q h e

  pub cut_suits : (d : Drawing) (q : Pending) → Suits size st d → cut size (pending_of size st d) ≡ Some q → Suits size st q.drawing
  cut_suits d q h e = cut_suits_by d.shape d.clip q (rules_kept size st d h.fits) (tests_passed size st d h.fits) h e
