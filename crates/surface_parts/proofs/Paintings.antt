-- Repainted pictures are the pictures after a painting.
use Rattle.std.proofs.Common.{◌≡◌, ℕ, ◌<◌, List, length, Bool, true, false, refl, ap, sym, ◌∙◌}
use Rattle.std.specs.Prelude.{◌&&◌, pos, if◌then◌else◌}
use Rattle.px_core.specs.declared.surface.Size.{Size}
use Rattle.px_core.specs.declared.rectangle.Rect.{Rect}
use Rattle.px_core.specs.Picture.{Area, Formula, pixel_count, pixel_at, where_chosen, painted}
use Rattle.px_core.specs.Rectangle.{in_rect}
use Rattle.px_core.proofs.Pictures.{same_pixels}
use Rattle.draw_ops.specs.Formulas.{Painting, over_rect, no_painting, painted_area, picture_after}
use Rattle.draw_ops.proofs.Painted.{length-painted_from, pixel_at-painted}
use Rattle.surface_parts.specs.Parts.{Pixels, IsRepainted}
use Rattle.surface_parts.proofs.Repaint.{none_painted}

-- a picture that was repainted is painted
pub area_is : (size : Size) (a : Area) (g : Formula ℕ) (area : Pixels) (f : ℕ → ℕ → ℕ) (old new : List ℕ) → length old ≡ pixel_count size → IsRepainted size area f old new
    → ((x y : ℕ) → x < size.w → y < size.h → (if area x y then f x y else pixel_at size old 0 x y) ≡ where_chosen (a (pos x) (pos y)) g (pos x) (pos y) (pixel_at size old 0 x y))
    → new ≡ painted size a g old
area_is size a g area f old new e done same =
    same_pixels size new (painted size a g old) 0 (done.sized ∙ e) (length-painted_from size.w 0 a g old ∙ e)
    (λ x y left above. done.pixel x y left above ∙ same x y left above ∙ sym (pixel_at-painted size a g old x y 0 e left above))

pub painted_is : (size : Size) (clip : Area) (p : Painting ℕ) (area : Pixels) (f : ℕ → ℕ → ℕ) (old new : List ℕ) → length old ≡ pixel_count size → IsRepainted size area f old new
    → ((x y : ℕ) → x < size.w → y < size.h → (if area x y then f x y else pixel_at size old 0 x y)
    ≡ where_chosen (painted_area clip p (pos x) (pos y)) p.formula (pos x) (pos y) (pixel_at size old 0 x y))
    → new ≡ picture_after size clip p old
painted_is size clip p area f old new e done same = area_is size (painted_area clip p) p.formula area f old new e done same

and_true : (b : Bool) → (b && true) ≡ b
and_true true = refl
and_true false = refl

choice : {A : Type 0} (b : Bool) (f g o : A) → (b ≡ true → f ≡ g) → (if b then f else o) ≡ (if b then g else o)
choice true f g o same = same refl
choice false f g o same = refl

chosen_is : (b : Bool) (g : Formula ℕ) (x y old : ℕ) → (if b then g (pos x) (pos y) old else old) ≡ where_chosen b g (pos x) (pos y) old
chosen_is true g x y old = refl
chosen_is false g x y old = refl

-- a painting of a whole rectangle
module _ (size : Size) (clip : Area) (r : Rect) (g : Formula ℕ) (old : List ℕ) (e : length old ≡ pixel_count size) where
  pub over_rect_is : (area : Pixels) (f : ℕ → ℕ → ℕ) (new : List ℕ) → IsRepainted size area f old new
      → ((x y : ℕ) → x < size.w → y < size.h → area x y ≡ (clip (pos x) (pos y) && in_rect r (pos x) (pos y)))
      → ((x y : ℕ) → x < size.w → y < size.h → area x y ≡ true → f x y ≡ g (pos x) (pos y) (pixel_at size old 0 x y))
      → new ≡ picture_after size clip (over_rect r g) old
  over_rect_is area f new done seen same = painted_is size clip (over_rect r g) area f old new e done (λ x y left above.
      let o = pixel_at size old 0 x y in
      choice (area x y) (f x y) (g (pos x) (pos y) o) o (same x y left above) ∙ chosen_is (area x y) g x y o
      ∙ ap (λ b. where_chosen b g (pos x) (pos y) o) (seen x y left above)
      ∙ ap (λ b. where_chosen (clip (pos x) (pos y) && b) g (pos x) (pos y) o) (sym (and_true (in_rect r (pos x) (pos y)))))

  -- nothing of it is seen
  pub unseen : ((x y : ℕ) → x < size.w → y < size.h → false ≡ (clip (pos x) (pos y) && in_rect r (pos x) (pos y))) → old ≡ picture_after size clip (over_rect r g) old
  unseen none = over_rect_is (λ x y. false) (λ x y. 0) old (none_painted size (λ x y. false) (λ x y. 0) old (λ x y. refl)) none (λ x y left above h. absurd (cc h))

kept : (b : Bool) (x y old : ℕ) → old ≡ where_chosen b (λ u v o. o) (pos x) (pos y) old
kept true x y old = refl
kept false x y old = refl

-- a painting that changes nothing
pub nothing_is : (size : Size) (clip : Area) (old : List ℕ) → length old ≡ pixel_count size → old ≡ picture_after size clip no_painting old
nothing_is size clip old e = painted_is size clip no_painting (λ x y. false) (λ x y. 0) old old e (none_painted size (λ x y. false) (λ x y. 0) old (λ x y. refl))
    (λ x y left above. kept (painted_area clip (no_painting {A = ℕ}) (pos x) (pos y)) x y (pixel_at size old 0 x y))
