-- What a painting makes of one pixel, and that it keeps the picture's size.
use Rattle.std.proofs.Common.{◌≡◌, ℕ, zero, suc, ◌+◌, ◌*◌, ◌/◌, ◌%◌, ◌<◌, List, [], ◌∷◌, refl, ap, ◌∙◌, length, arith}
use Rattle.std.proofs.lemmas.Nat.{mod-mul-add, div-mul-add, mul-add-lt}
use Rattle.std.proofs.Math.Nat.{mul_comm}
use Rattle.std.specs.Prelude.{pos}
use Rattle.px_core.specs.declared.surface.Size.{Size}
use Rattle.px_core.specs.Picture.{Area, Formula, item, where_chosen, painted_from, painted, pixel_at, pixel_count}

pub length-painted_from : {A : Type 0} (w i : ℕ) (area : Area) (f : Formula A) (ps : List A) → length (painted_from w i area f ps) ≡ length ps
length-painted_from w i area f [] = refl
length-painted_from w i area f (p ∷ ps) = ap suc (length-painted_from w (i + 1) area f ps)

-- the new pixel at a place
abbrev pub painted_pixel : {A : Type 0} → ℕ → ℕ → Area → Formula A → A → A
painted_pixel w i area f old = where_chosen (area (pos (i % w)) (pos (i / w))) f (pos (i % w)) (pos (i / w)) old

pub item-painted_from : {A : Type 0} (w i : ℕ) (area : Area) (f : Formula A) (ps : List A) (n : ℕ) (other : A) → n < length ps
    → item (painted_from w i area f ps) n other ≡ painted_pixel w (i + n) area f (item ps n other)
item-painted_from w i area f [] n other h = absurd (omega (arith, h))
item-painted_from w i area f (p ∷ ps) zero other h = ap (λ k. painted_pixel w k area f p) (omega arith)
item-painted_from w i area f (p ∷ ps) (suc n) other h =
    item-painted_from w (i + 1) area f ps n other (omega (arith, h)) ∙ ap (λ k. painted_pixel w k area f (item ps n other)) (omega arith)

-- the column and the row of a place
row_first : (w x y : ℕ) → 0 + (w * y + x) ≡ y * w + x
row_first w x y = rw (mul_comm w y) (omega arith)

column_at : (w x y : ℕ) → x < w → (0 + (w * y + x)) % w ≡ x
column_at w x y left = ap (λ n. n % w) (row_first w x y) ∙ mod-mul-add y w x left

row_at : (w x y : ℕ) → x < w → (0 + (w * y + x)) / w ≡ y
row_at w x y left = ap (λ n. n / w) (row_first w x y) ∙ div-mul-add y w x left

place_below : (w x y h : ℕ) → x < w → y < h → w * y + x < w * h
place_below w x y h left above = rw (mul_comm w y) (mul-add-lt y w x h above left)

-- pixel (x, y) of a painted picture
pub pixel_at-painted : {A : Type 0} (size : Size) (area : Area) (f : Formula A) (ps : List A) (x y : ℕ) (other : A) → length ps ≡ pixel_count size → x < size.w → y < size.h
    → pixel_at size (painted size area f ps) other x y ≡ where_chosen (area (pos x) (pos y)) f (pos x) (pos y) (pixel_at size ps other x y)
pixel_at-painted size area f ps x y other is_whole left above =
    let old = item ps (size.w * y + x) other in
    item-painted_from size.w 0 area f ps (size.w * y + x) other (rw is_whole (place_below size.w x y size.h left above))
    ∙ ap (λ c. where_chosen (area (pos c) (pos ((0 + (size.w * y + x)) / size.w))) f (pos c) (pos ((0 + (size.w * y + x)) / size.w)) old) (column_at size.w x y left)
    ∙ ap (λ r. where_chosen (area (pos x) (pos r)) f (pos x) (pos r) old) (row_at size.w x y left)
