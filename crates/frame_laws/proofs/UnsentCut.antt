-- Whatever isn't sent keeps the agreement, also what a cautious viewer's drawings are walked as.
use Rattle.std.proofs.Common.{◌≡◌, ℕ, ◌+◌, ◌/◌, ◌%◌, ◌^◌, ◌≤◌, ◌<◌, [], refl, ap, sym, ◌∙◌, arith, Some, None, length, subst, List}
use Rattle.std.specs.Prelude.{Bool, true, false, ◌==◌, ◌&&◌, Option, ℤ, pos}
use Rattle.std.proofs.lemmas.Bool.{and_from, and_parts}
use Rattle.std.proofs.lemmas.Bool.Decides.{nat_tests}
use Rattle.px_core.specs.declared.surface.Size.{Size}
use Rattle.px_core.specs.declared.rectangle.Rect.{Rect}
use Rattle.px_core.specs.Picture.{pixel_count, item, Formula, where_chosen}
use Rattle.px_core.specs.Rectangle.{in_rect, in_clip, has_pixel, whole, common, clipped}
use Rattle.rop3_core.specs.Rop3.{ternary_raster}
use Rattle.rop3_core.specs.Palette.{session_colors}
use Rattle.draw_ops.specs.declared.shape.Drawing.{Drawing}
use Rattle.draw_ops.specs.declared.shape.Shape.{Shape}
use Rattle.draw_ops.specs.declared.shape.Shape.TheVariants.{Fill, Dst, Pat, Copy, Blit, Blit3, Text, Line, Save, Restore, LoadImage, LoadBrush, LoadGlyph}
use Rattle.draw_ops.specs.Formulas.{Operand, painted_area, picture_after, over_rect, solid, rastered}
use Rattle.draw_ops.specs.Slots.{SurfaceState}
use Rattle.draw_ops.specs.Drawing.{painting_of, drawn_picture, state_after_drawing}
use Rattle.caps_sets.specs.declared.confirmed.Confirmed.{Confirmed}
use Rattle.order_means.specs.ClientState.{ClientState}
use Rattle.session_rules.specs.Pending.{Pending, pending_of}
use Rattle.frame_rules.specs.Frame.{Walk, walked, walked_as, walked_pending}
use Rattle.frame_rules.specs.Cautious.{area_of, changes_nothing, unless, cut_to, with_shape, cut_by, cut, cut_if}
use Rattle.frame_rules.proofs.TileLaws.{has_pixel-in_rect, column_below, row_below, true_is_not_false}
use Rattle.frame_laws.specs.Agreement.{Agrees, drawn}
use Rattle.frame_laws.proofs.Cut.{area_pixels, painting-nothing, kept_color}
use Rattle.frame_laws.proofs.CutDrawing.{DoesWhat, cut_does}
use Rattle.frame_laws.proofs.Unsent.{unsent_agrees}

module _ (size : Size) (st : SurfaceState) (sized : length st.picture ≡ pixel_count size)
    (colors : (k : ℕ) → k < length st.picture → item st.picture k 0 < 2 ^ 24) where
  -- a formula that keeps each old pixel, or a rectangle whose area has none
  nothing_painted : (r : Rect) (clip : Option Rect) (f : Formula ℕ)
      → ((x y : ℕ) (d : ℕ) → x < size.w → y < size.h → d < 2 ^ 24 → (in_clip clip (pos x) (pos y) && (in_rect r (pos x) (pos y) && true)) ≡ true
      → f (pos x) (pos y) d ≡ d)
      → picture_after size (in_clip clip) (over_rect r f) st.picture ≡ st.picture
  nothing_painted r clip f keeps = painting-nothing size.w 0 _ f st.picture (λ k h. at (0 + k) k (omega arith) h)
    where
      Stays : ℕ → ℕ → Type 0
      Stays d j = where_chosen (painted_area (in_clip clip) (over_rect r f) (pos (j % size.w)) (pos (j / size.w))) f (pos (j % size.w)) (pos (j / size.w)) d ≡ d

      by : (t : Bool) (x y : ℕ) (d : ℕ) → x < size.w → y < size.h → d < 2 ^ 24 → (in_clip clip (pos x) (pos y) && (in_rect r (pos x) (pos y) && true)) ≡ t
          → where_chosen t f (pos x) (pos y) d ≡ d
      by true x y d hx hy c e = keeps x y d hx hy c e
      by false x y d hx hy c e = refl

      at : (j k : ℕ) → j ≡ k → k < length st.picture → Stays (item st.picture k 0) j
      at j k e h = subst (Stays (item st.picture k 0)) (sym e)
          (by (painted_area (in_clip clip) (over_rect r f) (pos (k % size.w)) (pos (k / size.w))) (k % size.w) (k / size.w) (item st.picture k 0)
          (column_below size k (rw sized at h)) (row_below size k (rw sized at h)) (colors k h) refl)

  no_area : (r : Rect) (clip : Option Rect) (f : Formula ℕ) → has_pixel (common (whole size) (clipped r clip)) ≡ false
      → picture_after size (in_clip clip) (over_rect r f) st.picture ≡ st.picture
  no_area r clip f none = nothing_painted r clip f (λ x y d hx hy c e.
      let in_ = (and_parts (in_rect (common (whole size) (clipped r clip)) (pos x) (pos y)) true (area_pixels size r clip x y hx hy ∙ e)).0 in
      absurd (true_is_not_false (sym (has_pixel-in_rect (common (whole size) (clipped r clip)) (pos x) (pos y) in_) ∙ none)))

  kept_code : (r : Rect) (clip : Option Rect) (code : ℕ) (pattern source : Operand ℕ) → changes_nothing code ≡ true
      → picture_after size (in_clip clip) (over_rect r (rastered session_colors code pattern source)) st.picture ≡ st.picture
  kept_code r clip code pattern source same = let is : code ≡ 0xAA = grind (arith, nat_tests, same) in
      nothing_painted r clip (rastered session_colors code pattern source)
      (λ x y d hx hy c e. ap (λ n. ternary_raster n (pattern (pos x) (pos y)) (source (pos x) (pos y)) d) is
      ∙ kept_color (pattern (pos x) (pos y)) (source (pos x) (pos y)) d c)

  -- a shape without a cut, by whether its area has a pixel and whether its code changes nothing
  uncut : (p : Pending) (s : Shape) (nothing some : Bool) (picture : List ℕ) → cut_to (area_of size p) p.drawing.shape ≡ unless nothing s
      → cut_by true some size p ≡ None
      → (some ≡ false → picture ≡ st.picture) → (nothing ≡ true → picture ≡ st.picture) → picture ≡ st.picture
  uncut p s nothing false picture is e empty idle = empty refl
  uncut p s true true picture is e empty idle = idle refl
  uncut p s false true picture is e empty idle = absurd (cc (sym (ap (with_shape p (area_of size p)) is) ∙ e))

  pub passed_over : (s : Shape) (clip : Option Rect) → cut size (pending_of size st (drawn s clip)) ≡ None → drawn_picture size st (drawn s clip) ≡ st.picture
  passed_over (Fill r color) clip e = uncut (pending_of size st (drawn (Fill r color) clip))
      (Fill (common (whole size) (clipped r clip)) color) false _ _ refl e (no_area r clip _) (λ f. absurd (cc f))
  passed_over (Dst r code) clip e = uncut (pending_of size st (drawn (Dst r code) clip)) (Dst (common (whole size) (clipped r clip)) code)
      (changes_nothing code) _ _ refl e (no_area r clip _) (kept_code r clip code _ _)
  passed_over (Pat r code brush) clip e = uncut (pending_of size st (drawn (Pat r code brush) clip)) (Pat (common (whole size) (clipped r clip)) code brush)
      (changes_nothing code) _ _ refl e (no_area r clip _) (kept_code r clip code _ _)
  passed_over (Copy r code sx sy) clip e = uncut (pending_of size st (drawn (Copy r code sx sy) clip)) _ (changes_nothing code) _ _ refl e (no_area r clip _)
      (kept_code r clip code _ _)
  passed_over (Blit r code image sx sy) clip e = uncut (pending_of size st (drawn (Blit r code image sx sy) clip)) _ (changes_nothing code) _ _ refl e
      (no_area r clip _) (kept_code r clip code _ _)
  passed_over (Blit3 r code image sx sy brush) clip e = uncut (pending_of size st (drawn (Blit3 r code image sx sy brush) clip)) _
      (changes_nothing code) _ _ refl e (no_area r clip _) (kept_code r clip code _ _)
  passed_over (Text x y color font run) clip e = absurd (cc e)
  passed_over (Line x0 y0 x1 y1 color) clip e = absurd (cc e)
  passed_over (Save slot r) clip e = absurd (cc e)
  passed_over (Restore slot x y) clip e = absurd (cc e)
  passed_over (LoadImage slot image) clip e = absurd (cc e)
  passed_over (LoadBrush slot brush) clip e = absurd (cc e)
  passed_over (LoadGlyph font code glyph) clip e = absurd (cc e)

  -- a shape without a cut changes no block
  same_blocks : (s : Shape) (clip : Option Rect) → cut size (pending_of size st (drawn s clip)) ≡ None
      → (state_after_drawing size st (drawn s clip)).blocks ≡ st.blocks
  same_blocks (Fill r color) clip e = refl
  same_blocks (Dst r code) clip e = refl
  same_blocks (Pat r code brush) clip e = refl
  same_blocks (Copy r code sx sy) clip e = refl
  same_blocks (Blit r code image sx sy) clip e = refl
  same_blocks (Blit3 r code image sx sy brush) clip e = refl
  same_blocks (Text x y color font run) clip e = absurd (cc e)
  same_blocks (Line x0 y0 x1 y1 color) clip e = absurd (cc e)
  same_blocks (Save slot r) clip e = absurd (cc e)
  same_blocks (Restore slot x y) clip e = absurd (cc e)
  same_blocks (LoadImage slot image) clip e = absurd (cc e)
  same_blocks (LoadBrush slot brush) clip e = absurd (cc e)
  same_blocks (LoadGlyph font code glyph) clip e = absurd (cc e)

  module _ (narrow : size.w ≤ 2048) (client : ClientState) (c : Confirmed) (w : Walk) (a : Agrees size st w client) where
    -- a drawing that is walked as itself or as its cut
    as_itself : (d : Drawing) → (walked size c w (pending_of size st d) d.shape).sent ≡ []
        → Agrees size (state_after_drawing size st d) (walked size c w (pending_of size st d) d.shape).walk client
    as_itself d unsent = unsent_agrees size narrow st d.clip client c d.shape w unsent a

    as_cut : (d : Drawing) (q : Pending) → DoesWhat size st d q → (walked size c w q q.drawing.shape).sent ≡ []
        → Agrees size (state_after_drawing size st d) (walked size c w q q.drawing.shape).walk client
    as_cut d q does unsent =
        subst (λ after. Agrees size after (walked size c w q q.drawing.shape).walk client) does.state
        (subst (λ p. Agrees size (state_after_drawing size st q.drawing) (walked size c w p q.drawing.shape).walk client) (sym does.pending)
        (as_itself q.drawing (subst (λ p. (walked size c w p q.drawing.shape).sent ≡ []) does.pending unsent)))

    by_cut : (s : Shape) (clip : Option Rect) (o : Option Pending) → cut size (pending_of size st (drawn s clip)) ≡ o → (walked_as size c w o).sent ≡ []
        → Agrees size (state_after_drawing size st (drawn s clip)) (walked_as size c w o).walk client
    by_cut s clip None e unsent = record {
      shown = rw (passed_over s clip e) a.shown;
      blocks = rw (same_blocks s clip e) a.blocks;
      filled = a.filled;
    }
    by_cut s clip (Some q) e unsent = as_cut (drawn s clip) q (cut_does size st sized s clip q e) unsent

    pub unsent_or_cut_agrees : (s : Shape) (clip : Option Rect) → (walked_pending size c w (pending_of size st (drawn s clip))).sent ≡ []
        → Agrees size (state_after_drawing size st (drawn s clip)) (walked_pending size c w (pending_of size st (drawn s clip))).walk client
    unsent_or_cut_agrees s clip = by c.cautious refl
      where
        by : (b : Bool) → c.cautious ≡ b → (walked_as size c w (cut_if b size (pending_of size st (drawn s clip)))).sent ≡ []
            → Agrees size (state_after_drawing size st (drawn s clip)) (walked_as size c w (cut_if b size (pending_of size st (drawn s clip)))).walk client
        by true e unsent = by_cut s clip (cut size (pending_of size st (drawn s clip))) refl unsent
        by false e unsent = as_itself (drawn s clip) unsent
