-- What a cautious viewer is sent: the cut of a drawing, which does what the drawing does; of a drawing without one nothing, and it changes nothing.
use Rattle.std.proofs.Common.{◌≡◌, ℕ, ◌+◌, ◌/◌, ◌%◌, ◌^◌, ◌<◌, List, [], refl, ap, sym, ◌∙◌, arith, Some, None, length, subst}
use Rattle.std.specs.Prelude.{Bool, true, false, ◌&&◌, not, Option, ℤ, pos}
use Rattle.std.proofs.lemmas.Bool.{and_parts}
use Rattle.px_core.specs.declared.surface.Size.{Size}
use Rattle.px_core.specs.declared.rectangle.Rect.{Rect}
use Rattle.px_core.specs.Picture.{pixel_count, item, rows_of, Formula, where_chosen}
use Rattle.px_core.specs.Rectangle.{in_rect, in_clip, has_pixel, whole, common, clipped}
use Rattle.rop3_core.specs.Palette.{session_colors}
use Rattle.draw_ops.specs.declared.shape.Drawing.{Drawing}
use Rattle.draw_ops.specs.declared.shape.Shape.{Shape}
use Rattle.draw_ops.specs.declared.shape.Shape.TheVariants.{Fill, Dst, Pat, Copy, Blit, Blit3, Text, Line, Save, Restore, LoadImage, LoadBrush, LoadGlyph}
use Rattle.draw_ops.specs.Content.{ImageOf}
use Rattle.draw_ops.specs.Formulas.{Operand, Painting, painted_area, picture_after, over_rect, solid, rastered, absent, image_rows, shifted}
use Rattle.draw_ops.specs.Slots.{SurfaceState, lookup}
use Rattle.draw_ops.specs.Drawing.{content_of, source_of, source_in, pattern_in, painting_of, state_after_drawing}
use Rattle.session_rules.specs.Pending.{Pending, pending_of}
use Rattle.frame_rules.specs.Cautious.{area_of, changes_nothing, moved, unless, cut_to, is_cut, with_shape, cut_by, cut}
use Rattle.frame_laws.specs.Agreement.{drawn}
use Rattle.frame_laws.proofs.Cut.{cut_picture, shifted_moved}

-- a pending drawing that does what another drawing does
pub record DoesWhat (size : Size) (st : SurfaceState) (d : Drawing) (q : Pending) : Type 0 where
  pub pending : q ≡ pending_of size st q.drawing
  pub state : state_after_drawing size st q.drawing ≡ state_after_drawing size st d

abbrev with_picture : SurfaceState → List ℕ → SurfaceState
with_picture st picture = record st { picture = picture; count = st.count + 1 }

module _ (size : Size) (st : SurfaceState) (sized : length st.picture ≡ pixel_count size) where
  -- the cut of a shape, by whether its area has a pixel and whether its code changes nothing
  chosen_cut : (d : Drawing) (p : Pending) (s : Shape) (nothing some : Bool) (q : Pending) → cut_to (area_of size p) p.drawing.shape ≡ unless nothing s
      → DoesWhat size st d (record p { drawing = record { shape = s; clip = None }; rect = area_of size p }) → cut_by true some size p ≡ Some q
      → DoesWhat size st d q
  chosen_cut d p s nothing false q is does e = absurd (cc e)
  chosen_cut d p s true true q is does e = absurd (cc (sym (ap (with_shape p (area_of size p)) is) ∙ e))
  chosen_cut d p s false true q is does e =
      let f = sym (ap (with_shape p (area_of size p)) is) ∙ e in
      let same : record p { drawing = record { shape = s; clip = None }; rect = area_of size p } ≡ q = cc f in subst (DoesWhat size st d) same does

  same_pending : (d : Drawing) (q : Pending) → Some (pending_of size st d) ≡ Some q → DoesWhat size st d q
  same_pending d q e = let same : pending_of size st d ≡ q = cc e in subst (DoesWhat size st d) same (record { pending = refl; state = refl })

  -- an image's source
  source_moved : (o : Option ImageOf) (r a : Rect) (sx sy x y : ℤ) → source_of o a (moved r.x a.x sx) (moved r.y a.y sy) x y ≡ source_of o r sx sy x y
  source_moved None r a sx sy x y = refl
  source_moved (Some image) r a sx sy x y = shifted_moved (image_rows image) 0 r a sx sy x y

  pub cut_does : (s : Shape) (clip : Option Rect) (q : Pending) → cut size (pending_of size st (drawn s clip)) ≡ Some q → DoesWhat size st (drawn s clip) q
  cut_does (Fill r color) clip q e =
      chosen_cut (drawn (Fill r color) clip) (pending_of size st (drawn (Fill r color) clip)) (Fill (common (whole size) (clipped r clip)) color) false _ q refl
      (record { pending = refl; state = ap (with_picture st) (cut_picture size st.picture r clip _ (solid session_colors color) sized (λ x y d. refl)) }) e
  cut_does (Dst r code) clip q e =
      chosen_cut (drawn (Dst r code) clip) (pending_of size st (drawn (Dst r code) clip)) (Dst (common (whole size) (clipped r clip)) code)
      (changes_nothing code) _ q refl
      (record {
        pending = refl;
        state = ap (with_picture st)
            (cut_picture size st.picture r clip _ (rastered session_colors code (absent session_colors) (absent session_colors)) sized (λ x y d. refl));
      }) e
  cut_does (Pat r code brush) clip q e =
      chosen_cut (drawn (Pat r code brush) clip) (pending_of size st (drawn (Pat r code brush) clip)) (Pat (common (whole size) (clipped r clip)) code brush)
      (changes_nothing code) _ q refl
      (record {
        pending = refl;
        state = ap (with_picture st)
            (cut_picture size st.picture r clip _ (rastered session_colors code (pattern_in st brush) (absent session_colors)) sized (λ x y d. refl));
      }) e
  cut_does (Copy r code sx sy) clip q e =
      let a = common (whole size) (clipped r clip) in
      let rows = rows_of size.w size.h st.picture in
      chosen_cut (drawn (Copy r code sx sy) clip) (pending_of size st (drawn (Copy r code sx sy) clip)) (Copy a code (moved r.x a.x sx) (moved r.y a.y sy))
      (changes_nothing code) _ q refl
      (record {
        pending = refl;
        state = ap (with_picture st) (cut_picture size st.picture r clip
            (rastered session_colors code (absent session_colors) (shifted rows 0 r sx sy))
            (rastered session_colors code (absent session_colors) (shifted rows 0 a (moved r.x a.x sx) (moved r.y a.y sy))) sized
            (λ x y d. ap (λ source. session_colors.mixed code 0 source d) (shifted_moved rows 0 r a sx sy x y)));
      }) e
  cut_does (Blit r code image sx sy) clip q e =
      let a = common (whole size) (clipped r clip) in
      chosen_cut (drawn (Blit r code image sx sy) clip) (pending_of size st (drawn (Blit r code image sx sy) clip))
      (Blit a code image (moved r.x a.x sx) (moved r.y a.y sy)) (changes_nothing code) _ q refl
      (record {
        pending = refl;
        state = ap (with_picture st) (cut_picture size st.picture r clip
            (rastered session_colors code (absent session_colors) (source_in st image r sx sy))
            (rastered session_colors code (absent session_colors) (source_in st image a (moved r.x a.x sx) (moved r.y a.y sy))) sized
            (λ x y d. ap (λ source. session_colors.mixed code 0 source d) (source_moved (content_of (lookup image st.images)) r a sx sy x y)));
      }) e
  cut_does (Blit3 r code image sx sy brush) clip q e =
      let a = common (whole size) (clipped r clip) in
      chosen_cut (drawn (Blit3 r code image sx sy brush) clip) (pending_of size st (drawn (Blit3 r code image sx sy brush) clip))
      (Blit3 a code image (moved r.x a.x sx) (moved r.y a.y sy) brush) (changes_nothing code) _ q refl
      (record {
        pending = refl;
        state = ap (with_picture st) (cut_picture size st.picture r clip
            (rastered session_colors code (pattern_in st brush) (source_in st image r sx sy))
            (rastered session_colors code (pattern_in st brush) (source_in st image a (moved r.x a.x sx) (moved r.y a.y sy))) sized
            (λ x y d. ap (λ source. session_colors.mixed code (pattern_in st brush x y) source d)
            (source_moved (content_of (lookup image st.images)) r a sx sy x y)));
      }) e
  cut_does (Text x y color font run) clip q e = same_pending (drawn (Text x y color font run) clip) q e
  cut_does (Line x0 y0 x1 y1 color) clip q e = same_pending (drawn (Line x0 y0 x1 y1 color) clip) q e
  cut_does (Save slot r) clip q e = same_pending (drawn (Save slot r) clip) q e
  cut_does (Restore slot x y) clip q e = same_pending (drawn (Restore slot x y) clip) q e
  cut_does (LoadImage slot image) clip q e = same_pending (drawn (LoadImage slot image) clip) q e
  cut_does (LoadBrush slot brush) clip q e = same_pending (drawn (LoadBrush slot brush) clip) q e
  cut_does (LoadGlyph font code glyph) clip q e = same_pending (drawn (LoadGlyph font code glyph) clip) q e
