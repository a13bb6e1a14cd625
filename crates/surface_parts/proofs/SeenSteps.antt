-- What is painted of a line before the first step that a part sees, and behind the last.
use Rattle.std.proofs.Common.{◌≡◌, ℕ, ◌+◌, List, ap, ◌∙◌}
use Rattle.std.specs.Prelude.{◌&&◌, if◌then◌else◌}
use Rattle.px_core.specs.declared.surface.Size.{Size}
use Rattle.px_core.specs.Picture.{pixel_at}
use Rattle.surface_parts.specs.declared.part.Part.{Part}
use Rattle.surface_parts.specs.declared.line.Course.{Course}
use Rattle.surface_parts.specs.declared.line.Steps.{Steps}
use Rattle.surface_parts.specs.Parts.{in_part, IsRepainted}
use Rattle.surface_parts.specs.Courses.{apart, is_course_pixel}
use Rattle.surface_parts.specs.SeenSteps.{AreSeenSteps}
use Rattle.surface_parts.proofs.Repaint.{none_painted}

module _ (size : Size) (part : Part) (c : Course) (color : ℕ) (steps : Steps) (seen : AreSeenSteps part c steps) where
  pub painted_before : (ps : List ℕ) → IsRepainted size (λ x y. in_part part x y && is_course_pixel c steps.from x y) (λ x y. color) ps ps
  painted_before ps = none_painted size (λ x y. in_part part x y && is_course_pixel c steps.from x y) (λ x y. color) ps seen.before

  pub painted_whole : (i : ℕ) (old new : List ℕ) → i ≡ steps.end → IsRepainted size (λ x y. in_part part x y && is_course_pixel c i x y) (λ x y. color) old new
      → IsRepainted size (λ x y. in_part part x y && is_course_pixel c (apart c.from_u c.to_u + 1) x y) (λ x y. color) old new
  painted_whole i old new last done = record {
    sized = done.sized;
    pixel = λ x y left above. done.pixel x y left above
        ∙ ap (λ n. if in_part part x y && is_course_pixel c n x y then color else pixel_at size old 0 x y) last
        ∙ ap (λ b. if b then color else pixel_at size old 0 x y) (seen.whole x y);
  }
