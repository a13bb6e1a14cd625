-- Repainted pictures, one row after another.
use Rattle.std.proofs.Common.{◌≡◌, ℕ, suc, ◌+◌, ◌*◌, ◌-◌, ◌≤◌, ◌<◌, List, length, get_or, Bool, true, false, refl, ap, sym, ◌∙◌, subst, arith, rules, inl, inr}
use Rattle.std.specs.Prelude.{◌&&◌, nat_le, nat_lt, Option, Some, None, if◌then◌else◌}
use Rattle.std.proofs.lemmas.Bool.Decides.{nat_tests}
use Rattle.std.proofs.lemmas.List.{places}
use Rattle.std.proofs.lemmas.Bool.{cases_lt}
use Rattle.std.proofs.lemmas.Nat.{mul-add-lt}
use Rattle.std.proofs.Math.Nat.{mul_comm}
use borrow.Rule.Slice.PartMut.{put_mid, mid_of}
use Rattle.px_core.specs.declared.surface.Size.{Size}
use Rattle.px_core.specs.Picture.{pixel_count, pixel_at}
use Rattle.px_core.proofs.Pictures.{item-get_or}
use Rattle.px_core.specs.declared.depth.Depth.{Depth}
use Rattle.draw_ops.specs.Depths.{maybe_raster_at}
use Rattle.client_picture.specs.declared.part.Part.{Part}
use Rattle.client_picture.specs.declared.corner.Corner.{Corner}
use Rattle.client_picture.specs.Sources.{copied_color}
use Rattle.client_picture.specs.Parts.{Pixels, part_at, in_part, IsRepainted}

-- ---- a stretch of a list, written anew

pub put_before : (a n : ℕ) (ps ys : List (Option ℕ)) (k : ℕ) → a + n ≤ length ps → k < a → get_or (put_mid a n ps ys) k None ≡ get_or ps k None
put_before a n ps ys k fits below = search (rules, places)

pub put_at : (a n : ℕ) (ps ys : List (Option ℕ)) (k : ℕ) → a + n ≤ length ps → length ys ≡ n → k < n → get_or (put_mid a n ps ys) (a + k) None ≡ get_or ys k None
put_at a n ps ys k fits long below = search (rules, places)

pub put_after : (a n : ℕ) (ps ys : List (Option ℕ)) (k : ℕ) → a + n ≤ length ps → length ys ≡ n → a + n ≤ k → get_or (put_mid a n ps ys) k None ≡ get_or ps k None
put_after a n ps ys k fits long above = search (rules, places)

pub length_put : (a n : ℕ) (ps ys : List (Option ℕ)) → a + n ≤ length ps → length ys ≡ n → length (put_mid a n ps ys) ≡ length ps
length_put a n ps ys fits long = search (rules, places)

-- the stretch itself
pub length_mid : (a m n : ℕ) (ps : List (Option ℕ)) → a + n ≤ length ps → m ≡ n → length (mid_of a m ps) ≡ n
length_mid a m n ps fits e = search (rules, places)

pub mid_item : (a m : ℕ) (ps : List (Option ℕ)) (k : ℕ) → k < m → get_or (mid_of a m ps) k None ≡ get_or ps (a + k) None
mid_item a m ps k below = search (rules, places)

pub color_item : (a m : ℕ) (ps : List ℕ) (k : ℕ) → k < m → get_or (mid_of a m ps) k 0 ≡ get_or ps (a + k) 0
color_item a m ps k below = search (rules, places)

-- ---- places of rows

-- each pixel of a row stands before those of the rows below it
pub row_before : (w x y v : ℕ) → x < w → y < v → w * y + x < w * v
row_before w x y v left above = rw (mul_comm w y) (mul-add-lt y w x v above left)

pub stretch_fits : (size : Size) (x y n : ℕ) (ps : List (Option ℕ)) → length ps ≡ pixel_count size → y < size.h → x + n ≤ size.w → size.w * y + x + n ≤ length ps
stretch_fits size x y n ps e above fits = let more = row_ends size.w y size.h above in omega (arith, e, more, fits)
  where
    row_ends : (w y h : ℕ) → y < h → w * y + w ≤ w * h
    row_ends w y h below = let more : w * suc y ≤ w * h = grind (arith, below) in let step : w * suc y ≡ w * y + w = grind arith in omega (arith, more, step)

-- ---- tests

pub under_true : {A : Type 0} (b : Bool) (x y : A) → b ≡ true → x ≡ (if b then x else y)
under_true true x y h = refl
under_true false x y h = absurd (cc h)

pub under_false : {A : Type 0} (b : Bool) (x y : A) → b ≡ false → y ≡ (if b then x else y)
under_false false x y h = refl
under_false true x y h = absurd (cc h)

pub and_false : (b c : Bool) → c ≡ false → (b && c) ≡ false
and_false true c h = h
and_false false c h = refl

pub false_and : (b c : Bool) → b ≡ false → (b && c) ≡ false
false_and b c h = ap (λ t. t && c) h

-- ---- an area painted anew

pub none_painted : (size : Size) (area : Pixels) (f : ℕ → ℕ → Option ℕ) (ps : List (Option ℕ)) → ((x y : ℕ) → area x y ≡ false) → IsRepainted size area f ps ps
none_painted size area f ps none = record { sized = refl; pixel = λ x y left above. under_false (area x y) (f x y) (pixel_at size ps None x y) (none x y) }

-- one area after another
pub painted_twice : (size : Size) (a b c : Pixels) (f g h : ℕ → ℕ → Option ℕ) (old cur new : List (Option ℕ)) → IsRepainted size a f old cur → IsRepainted size b g cur new
    → ((x y : ℕ) → x < size.w → y < size.h → (if b x y then g x y else (if a x y then f x y else pixel_at size old None x y)) ≡ (if c x y then h x y else pixel_at size old None x y))
    → IsRepainted size c h old new
painted_twice size a b c f g h old cur new first second same = record {
  sized = second.sized ∙ first.sized;
  pixel = λ x y left above. second.pixel x y left above ∙ ap (λ p. if b x y then g x y else p) (first.pixel x y left above) ∙ same x y left above;
}

-- a stretch of one row
module _ (size : Size) (x y n : ℕ) (ps ys : List (Option ℕ)) (e : length ps ≡ pixel_count size) (above : y < size.h) (fits : x + n ≤ size.w) (long : length ys ≡ n) where
  row : Part
  row = part_at x y n 1

  at : ℕ
  at = size.w * y + x

  new : List (Option ℕ)
  new = put_mid (size.w * y + x) n ps ys

  within : size.w * y + x + n ≤ length ps
  within = stretch_fits size x y n ps e above fits

  outside : (u v : ℕ) → in_part (part_at x y n 1) u v ≡ false → get_or (put_mid (size.w * y + x) n ps ys) (size.w * v + u) None ≡ get_or ps (size.w * v + u) None
      → pixel_at size (put_mid (size.w * y + x) n ps ys) None u v ≡ (if in_part (part_at x y n 1) u v then get_or ys (u - x) None else pixel_at size ps None u v)
  outside u v none same = item-get_or (put_mid (size.w * y + x) n ps ys) (size.w * v + u) None ∙ same ∙ sym (item-get_or ps (size.w * v + u) None)
      ∙ under_false (in_part (part_at x y n 1) u v) (get_or ys (u - x) None) (pixel_at size ps None u v) none

  not_rows : (u v : ℕ) → (nat_le y v && nat_lt v (y + 1)) ≡ false → in_part (part_at x y n 1) u v ≡ false
  not_rows u v none = and_false (nat_le x u && nat_lt u (x + n)) (nat_le y v && nat_lt v (y + 1)) none

  not_columns : (u v : ℕ) → (nat_le x u && nat_lt u (x + n)) ≡ false → in_part (part_at x y n 1) u v ≡ false
  not_columns u v none = false_and (nat_le x u && nat_lt u (x + n)) (nat_le y v && nat_lt v (y + 1)) none

  row_above : (u v : ℕ) → u < size.w → v < y → pixel_at size (put_mid (size.w * y + x) n ps ys) None u v ≡ (if in_part (part_at x y n 1) u v then get_or ys (u - x) None else pixel_at size ps None u v)
  row_above u v left lt = let before = row_before size.w u v y left lt in
      outside u v (not_rows u v (grind (arith, nat_tests, lt))) (put_before (size.w * y + x) n ps ys (size.w * v + u) within (omega (arith, before)))

  row_below : (u v : ℕ) → u < size.w → y < v → pixel_at size (put_mid (size.w * y + x) n ps ys) None u v ≡ (if in_part (part_at x y n 1) u v then get_or ys (u - x) None else pixel_at size ps None u v)
  row_below u v left lt = let after = stretch_below size.w y v lt in
      outside u v (not_rows u v (grind (arith, nat_tests, lt))) (put_after (size.w * y + x) n ps ys (size.w * v + u) within long (omega (arith, after, fits)))
    where
      stretch_below : (w y v : ℕ) → y < v → w * y + w ≤ w * v
      stretch_below w y v below = let more : w * suc y ≤ w * v = grind (arith, below) in let step : w * suc y ≡ w * y + w = grind arith in omega (arith, more, step)

  same_row : (u : ℕ) → pixel_at size (put_mid (size.w * y + x) n ps ys) None u y ≡ (if in_part (part_at x y n 1) u y then get_or ys (u - x) None else pixel_at size ps None u y)
  same_row u = elim (cases_lt u x) [
    | inl lt ↦ outside u y (not_columns u y (grind (arith, nat_tests, lt))) (put_before (size.w * y + x) n ps ys (size.w * y + u) within (omega (arith, lt)))
    | inr ge ↦ elim (cases_lt u (x + n)) [
      | inl lt ↦ let there : (size.w * y + x) + (u - x) ≡ size.w * y + u = omega (arith, ge) in
          item-get_or (put_mid (size.w * y + x) n ps ys) (size.w * y + u) None ∙ ap (λ k. get_or (put_mid (size.w * y + x) n ps ys) k None) (sym there)
          ∙ put_at (size.w * y + x) n ps ys (u - x) within long (omega (arith, lt, ge))
          ∙ under_true (in_part (part_at x y n 1) u y) (get_or ys (u - x) None) (pixel_at size ps None u y) (grind (arith, nat_tests, lt, ge))
      | inr more ↦ outside u y (not_columns u y (grind (arith, nat_tests, more))) (put_after (size.w * y + x) n ps ys (size.w * y + u) within long (omega (arith, more)))
    ]
  ]

  pub row_painted : IsRepainted size (in_part (part_at x y n 1)) (λ u v. get_or ys (u - x) None) ps (put_mid (size.w * y + x) n ps ys)
  row_painted = record {
    sized = length_put (size.w * y + x) n ps ys within long;
    pixel = λ u v left high. elim (cases_lt v y) [
      | inl lt ↦ row_above u v left lt
      | inr ge ↦ elim (cases_lt y v) [
        | inl lt ↦ row_below u v left lt
        | inr le ↦ let same : v ≡ y = omega (arith, ge, le) in subst (λ (r : ℕ). pixel_at size (put_mid (size.w * y + x) n ps ys) None u r ≡ (if in_part (part_at x y n 1) u r then get_or ys (u - x) None else pixel_at size ps None u r)) (sym same) (same_row u)
      ]
    ];
  }

-- one more area, r, beside an area s, where both are t
pub added : {A : Type 0} (c r s t : Bool) (g f o : A) → (c ≡ true → r ≡ true → g ≡ f) → (r ≡ true → t ≡ true) → (r ≡ false → s ≡ t)
    → (if c && r then g else (if c && s then f else o)) ≡ (if c && t then f else o)
added false r s t g f o same there other = refl
added true true s t g f o same there other = same refl refl ∙ under_true t f o (there refl)
added true false s t g f o same there other = ap (λ b. if b then f else o) (other refl)

module _ (size : Size) (x n : ℕ) (f g : ℕ → ℕ → Option ℕ) (old cur new : List (Option ℕ)) where
  pub row_below_more : (y k v : ℕ) → v ≡ y + k → IsRepainted size (in_part (part_at x y n k)) f old cur → IsRepainted size (in_part (part_at x v n 1)) g cur new
      → ((u : ℕ) → x ≤ u → u < x + n → g u v ≡ f u v) → IsRepainted size (in_part (part_at x y n (k + 1))) f old new
  row_below_more y k v at first second same = painted_twice size _ _ _ f g f old cur new first second (λ u r left above.
      added (nat_le x u && nat_lt u (x + n)) (nat_le v r && nat_lt r (v + 1)) (nat_le y r && nat_lt r (y + k)) (nat_le y r && nat_lt r (y + (k + 1))) (g u r) (f u r) (pixel_at size old None u r)
      (λ columns row. let c = in_columns u columns in let e = in_row r row in subst (λ (m : ℕ). g u m ≡ f u m) (sym e) (same u c.0 c.1))
      (λ row. grind (arith, nat_tests, row, at)) (λ row. grind (arith, nat_tests, row, at)))
    where
      in_columns : (u : ℕ) → (nat_le x u && nat_lt u (x + n)) ≡ true → (x ≤ u) × (u < x + n)
      in_columns u h = (grind (arith, nat_tests, h), grind (arith, nat_tests, h))

      in_row : (r : ℕ) → (nat_le v r && nat_lt r (v + 1)) ≡ true → r ≡ v
      in_row r h = grind (arith, nat_tests, h)

  pub row_above_more : (y k v : ℕ) → y ≡ v + 1 → IsRepainted size (in_part (part_at x y n k)) f old cur → IsRepainted size (in_part (part_at x v n 1)) g cur new
      → ((u : ℕ) → x ≤ u → u < x + n → g u v ≡ f u v) → IsRepainted size (in_part (part_at x v n (k + 1))) f old new
  row_above_more y k v at first second same = painted_twice size _ _ _ f g f old cur new first second (λ u r left above.
      added (nat_le x u && nat_lt u (x + n)) (nat_le v r && nat_lt r (v + 1)) (nat_le y r && nat_lt r (y + k)) (nat_le v r && nat_lt r (v + (k + 1))) (g u r) (f u r) (pixel_at size old None u r)
      (λ columns row. let c = in_columns u columns in let e = in_row r row in subst (λ (m : ℕ). g u m ≡ f u m) (sym e) (same u c.0 c.1))
      (λ row. grind (arith, nat_tests, row, at)) (λ row. grind (arith, nat_tests, row, at)))
    where
      in_columns : (u : ℕ) → (nat_le x u && nat_lt u (x + n)) ≡ true → (x ≤ u) × (u < x + n)
      in_columns u h = (grind (arith, nat_tests, h), grind (arith, nat_tests, h))

      in_row : (r : ℕ) → (nat_le v r && nat_lt r (v + 1)) ≡ true → r ≡ v
      in_row r h = grind (arith, nat_tests, h)

-- the same, where the stretch's place and length are other words for them
pub row_put : (size : Size) (x y n a m : ℕ) (ps ys : List (Option ℕ)) → length ps ≡ pixel_count size → y < size.h → x + n ≤ size.w → length ys ≡ n → a ≡ size.w * y + x → m ≡ n
    → IsRepainted size (in_part (part_at x y n 1)) (λ u v. get_or ys (u - x) None) ps (put_mid a m ps ys)
row_put size x y n a m ps ys e above fits long ea em =
    subst (λ (k : ℕ). IsRepainted size (in_part (part_at x y n 1)) (λ u v. get_or ys (u - x) None) ps (put_mid k m ps ys)) (sym ea)
    (subst (λ (k : ℕ). IsRepainted size (in_part (part_at x y n 1)) (λ u v. get_or ys (u - x) None) ps (put_mid (size.w * y + x) k ps ys)) (sym em) (row_painted size x y n ps ys e above fits long))

-- no row yet
pub no_rows : (size : Size) (x y n k : ℕ) (f : ℕ → ℕ → Option ℕ) (ps : List (Option ℕ)) → k ≡ 0 → IsRepainted size (in_part (part_at x y n k)) f ps ps
no_rows size x y n k f ps e = none_painted size (in_part (part_at x y n k)) f ps (λ u v. and_false (nat_le x u && nat_lt u (x + n)) (nat_le y v && nat_lt v (y + k)) (grind (arith, nat_tests, e)))

-- all rows
pub all_rows : (size : Size) (x y n k m : ℕ) (f : ℕ → ℕ → Option ℕ) (old new : List (Option ℕ)) → k ≡ m → IsRepainted size (in_part (part_at x y n k)) f old new → IsRepainted size (in_part (part_at x y n m)) f old new
all_rows size x y n k m f old new e h = subst (λ (j : ℕ). IsRepainted size (in_part (part_at x y n j)) f old new) e h

-- one more row: a stretch of row r was written anew
module _ (size : Size) (x y n : ℕ) (f : ℕ → ℕ → Option ℕ) (old cur ys : List (Option ℕ)) (r a m : ℕ) where
  pub next_row_down : IsRepainted size (in_part (part_at x y n (r - y))) f old cur → length cur ≡ pixel_count size → y ≤ r → r < size.h → x + n ≤ size.w → a ≡ size.w * r + x → m ≡ n
      → length ys ≡ n → ((i : ℕ) → i < n → get_or ys i None ≡ f (x + i) r) → IsRepainted size (in_part (part_at x y n ((r + 1) - y))) f old (put_mid a m cur ys)
  next_row_down done e low high fits ea em long same = all_rows size x y n ((r - y) + 1) ((r + 1) - y) f old (put_mid a m cur ys) (omega (arith, low))
      (row_below_more size x n f (λ u v. get_or ys (u - x) None) old cur (put_mid a m cur ys) y (r - y) r (omega (arith, low)) done (row_put size x r n a m cur ys e high fits long ea em)
      (λ u more less. let there : x + (u - x) ≡ u = omega (arith, more) in same (u - x) (omega (arith, more, less)) ∙ ap (λ k. f k r) there))

  -- row r, where the k rows below it were painted
  pub next_row_up : (k : ℕ) → IsRepainted size (in_part (part_at x (r + 1) n k)) f old cur → length cur ≡ pixel_count size → r < size.h → x + n ≤ size.w → a ≡ size.w * r + x → m ≡ n
      → length ys ≡ n → ((i : ℕ) → i < n → get_or ys i None ≡ f (x + i) r) → IsRepainted size (in_part (part_at x r n (k + 1))) f old (put_mid a m cur ys)
  next_row_up k done e high fits ea em long same = row_above_more size x n f (λ u v. get_or ys (u - x) None) old cur (put_mid a m cur ys) (r + 1) k r refl done (row_put size x r n a m cur ys e high fits long ea em)
      (λ u more less. let there : x + (u - x) ≡ u = omega (arith, more) in same (u - x) (omega (arith, more, less)) ∙ ap (λ j. f j r) there)

-- a row that isn't painted yet
pub untouched : (size : Size) (x y n k : ℕ) (f : ℕ → ℕ → Option ℕ) (old cur : List (Option ℕ)) (u r : ℕ) → IsRepainted size (in_part (part_at x y n k)) f old cur → u < size.w → r < size.h
    → (nat_le y r && nat_lt r (y + k)) ≡ false → pixel_at size cur None u r ≡ pixel_at size old None u r
untouched size x y n k f old cur u r done left above none = done.pixel u r left above
    ∙ sym (under_false (in_part (part_at x y n k) u r) (f u r) (pixel_at size old None u r) (and_false (nat_le x u && nat_lt u (x + n)) (nat_le y r && nat_lt r (y + k)) none))

-- a pixel of a stretch is one of its row
pub stretch_pixel : (size : Size) (a m x r i : ℕ) (ps : List (Option ℕ)) → a ≡ size.w * r + x → i < m → get_or (mid_of a m ps) i None ≡ pixel_at size ps None (x + i) r
stretch_pixel size a m x r i ps ea below = mid_item a m ps i below ∙ ap (λ k. get_or ps k None) (omega (arith, ea)) ∙ sym (item-get_or ps (size.w * r + (x + i)) None)

-- a stretch of one row was written anew
pub row_stretch : (size : Size) (x n : ℕ) (f : ℕ → ℕ → Option ℕ) (old ys : List (Option ℕ)) (r a m : ℕ) → length old ≡ pixel_count size → r < size.h → x + n ≤ size.w → a ≡ size.w * r + x → m ≡ n
    → length ys ≡ n → ((i : ℕ) → i < n → get_or ys i None ≡ f (x + i) r) → IsRepainted size (in_part (part_at x r n 1)) f old (put_mid a m old ys)
row_stretch size x n f old ys r a m e high fits ea em long same =
    row_below_more size x n f (λ u v. get_or ys (u - x) None) old old (put_mid a m old ys) r 0 r (omega arith) (no_rows size x r n 0 f old refl) (row_put size x r n a m old ys e high fits long ea em)
    (λ u more less. let there : x + (u - x) ≡ u = omega (arith, more) in same (u - x) (omega (arith, more, less)) ∙ ap (λ j. f j r) there)

-- an operation over equal operands
pub same_mix : (depth : Depth) (code : ℕ) (p q s t d e : Option ℕ) → p ≡ q → s ≡ t → d ≡ e → maybe_raster_at depth code p s d ≡ maybe_raster_at depth code q t e
same_mix depth code p q s t d e f g h = ap (λ k. maybe_raster_at depth code k s d) f ∙ ap (λ k. maybe_raster_at depth code q k d) g ∙ ap (λ k. maybe_raster_at depth code q t k) h

-- a copy from pixels that weren't painted yet
pub same_copy : (depth : Depth) (size : Size) (p : Part) (code : ℕ) (from : Corner) (old cur : List (Option ℕ)) (u v : ℕ)
    → pixel_at size cur None (from.x + (u - p.x)) (from.y + (v - p.y)) ≡ pixel_at size old None (from.x + (u - p.x)) (from.y + (v - p.y)) → pixel_at size cur None u v ≡ pixel_at size old None u v
    → copied_color depth size cur p code from u v ≡ copied_color depth size old p code from u v
same_copy depth size p code from old cur u v f g = same_mix depth code (Some 0) (Some 0) (pixel_at size cur None (from.x + (u - p.x)) (from.y + (v - p.y))) (pixel_at size old None (from.x + (u - p.x)) (from.y + (v - p.y))) (pixel_at size cur None u v) (pixel_at size old None u v) refl f g
