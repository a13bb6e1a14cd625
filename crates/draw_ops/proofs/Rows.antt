-- The picture after a drawing by its pixels and by its rows.
use Rattle.std.proofs.Common.{◌≡◌, ℕ, ◌+◌, ◌*◌, ◌<◌, List, [], length, ap, sym, ◌∙◌, arith, false}
use Rattle.std.specs.Prelude.{pos, slice_index}
use Rattle.std.specs.List.{concat}
use Rattle.px_core.specs.declared.surface.Size.{Size}
use Rattle.px_core.specs.Picture.{item, listed, front, skipped, rows_of, pixel_at, pixel_count, where_chosen}
use Rattle.px_core.specs.Rectangle.{in_clip}
use Rattle.px_core.proofs.Pictures.{same_items, same_pixels, same_rows, item-listed, length-listed, item-front, item-skipped, item-get_or, length-row, length-rows_of, row-rows_of, rows_joined}
use Rattle.draw_ops.specs.declared.shape.Drawing.{Drawing}
use Rattle.draw_ops.specs.Slots.{SurfaceState}
use Rattle.draw_ops.specs.Formulas.{painted_area}
use Rattle.draw_ops.specs.Drawing.{painting_of, drawn_picture, drawn_pixel, drawn_row}
use Rattle.draw_ops.proofs.Painted.{length-painted_from, pixel_at-painted}

module _ (size : Size) (st : SurfaceState) (d : Drawing) where
  pub drawn_at : (x y : ℕ) → length st.picture ≡ pixel_count size → x < size.w → y < size.h
      → pixel_at size (drawn_picture size st d) 0 x y ≡ drawn_pixel size st d (pos x) (pos y) (pixel_at size st.picture 0 x y)
  drawn_at x y e left above = let p = painting_of size st d.shape in pixel_at-painted size (painted_area (in_clip d.clip) p) p.formula st.picture x y 0 e left above

  pub drawn_length : length (drawn_picture size st d) ≡ length st.picture
  drawn_length = let p = painting_of size st d.shape in length-painted_from size.w 0 (painted_area (in_clip d.clip) p) p.formula st.picture

  pub pixels_make_picture : (ps : List ℕ) → length st.picture ≡ pixel_count size → length ps ≡ pixel_count size
      → ((x y : ℕ) → x < size.w → y < size.h → pixel_at size ps 0 x y ≡ drawn_pixel size st d (pos x) (pos y) (pixel_at size st.picture 0 x y)) → ps ≡ drawn_picture size st d
  pixels_make_picture ps e f same = same_pixels size ps (drawn_picture size st d) 0 f (drawn_length ∙ e) (λ x y left above. same x y left above ∙ sym (drawn_at x y e left above))

  -- the pixels of a drawn row
  pub drawn_in_row : (y x : ℕ) → x < size.w → item (drawn_row size st d y) x 0 ≡ drawn_pixel size st d (pos x) (pos y) (pixel_at size st.picture 0 x y)
  drawn_in_row y x left =
      let pixel : ℕ → ℕ = λ k. drawn_pixel size st d (pos k) (pos y) (pixel_at size st.picture 0 k y) in
      let same : 0 + x ≡ x = omega arith in
      item-listed size.w 0 pixel x 0 left ∙ ap pixel same

  pub row_length : (y : ℕ) → length (drawn_row size st d y) ≡ size.w
  row_length y = length-listed size.w 0 (λ x. drawn_pixel size st d (pos x) (pos y) (pixel_at size st.picture 0 x y))

  -- pixel x of row y of a picture
  in_row : (ps : List ℕ) (y x : ℕ) → x < size.w → item (front size.w (skipped (size.w * y) ps)) x 0 ≡ pixel_at size ps 0 x y
  in_row ps y x left = item-front size.w (skipped (size.w * y) ps) x 0 left ∙ item-skipped (size.w * y) ps x 0

  pub row_is : (y : ℕ) → length st.picture ≡ pixel_count size → y < size.h → front size.w (skipped (size.w * y) (drawn_picture size st d)) ≡ drawn_row size st d y
  row_is y e above =
      let whole : length (drawn_picture size st d) ≡ size.w * size.h = drawn_length ∙ e in
      let long = length-row size.w size.h (drawn_picture size st d) y whole above in
      same_items 0 _ _ (long ∙ sym (row_length y)) (λ x lt. let left : x < size.w = omega (arith, lt, long) in in_row (drawn_picture size st d) y x left ∙ drawn_at x y e left above ∙ sym (drawn_in_row y x left))

  pub list_is : (ps : List ℕ) → length st.picture ≡ pixel_count size → length ps ≡ pixel_count size
      → ((y : ℕ) → y < size.h → front size.w (skipped (size.w * y) ps) ≡ drawn_row size st d y) → ps ≡ drawn_picture size st d
  list_is ps e f same = same_rows size.w size.h ps (drawn_picture size st d) f (drawn_length ∙ e) (λ y above. same y above ∙ sym (row_is y e above))

  pub rows_are : (rows : List (List ℕ)) → length st.picture ≡ pixel_count size → length rows ≡ size.h
      → ((y : ℕ) → y < size.h → item rows y [] ≡ drawn_row size st d y) → concat rows ≡ drawn_picture size st d
  rows_are rows e f same =
      ap concat (same_items [] rows (rows_of size.w size.h (drawn_picture size st d)) (f ∙ sym (length-rows_of size.w size.h (drawn_picture size st d)))
      (λ y lt. let above : y < size.h = omega (arith, lt, f) in same y above ∙ sym (row_is y e above) ∙ sym (row-rows_of size.w size.h (drawn_picture size st d) y [] above)))
      ∙ rows_joined size.w size.h (drawn_picture size st d) (drawn_length ∙ e)

  pub join_is : length st.picture ≡ pixel_count size → concat (listed size.h 0 (drawn_row size st d)) ≡ drawn_picture size st d
  join_is e = rows_are (listed size.h 0 (drawn_row size st d)) e (length-listed size.h 0 (drawn_row size st d))
      (λ y above. let same : 0 + y ≡ y = omega arith in item-listed size.h 0 (drawn_row size st d) y [] above ∙ ap (drawn_row size st d) same)

  pub pixels_make_row : (y : ℕ) (row : List ℕ) → length row ≡ size.w
      → ((x : ℕ) → x < size.w → slice_index row x ≡ drawn_pixel size st d (pos x) (pos y) (pixel_at size st.picture 0 x y)) → row ≡ drawn_row size st d y
  pixels_make_row y row e same = same_items 0 row (drawn_row size st d y) (e ∙ sym (row_length y))
      (λ x lt. let left : x < size.w = omega (arith, lt, e) in item-get_or row x 0 ∙ same x left ∙ sym (drawn_in_row y x left))

  pub kept_row : (y : ℕ) → length st.picture ≡ pixel_count size → y < size.h
      → ((x : ℕ) → x < size.w → painted_area (in_clip d.clip) (painting_of size st d.shape) (pos x) (pos y) ≡ false)
      → drawn_row size st d y ≡ front size.w (skipped (size.w * y) st.picture)
  kept_row y e above none =
      let f = (painting_of size st d.shape).formula in
      let long = length-row size.w size.h st.picture y e above in
      same_items 0 _ _ (row_length y ∙ sym long) (λ x lt. let left : x < size.w = omega (arith, lt, row_length y) in
      drawn_in_row y x left ∙ ap (λ b. where_chosen b f (pos x) (pos y) (pixel_at size st.picture 0 x y)) (none x left) ∙ sym (in_row st.picture y x left))
