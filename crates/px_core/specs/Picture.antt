-- Pictures: lists of pixels, row by row from the top, over any type of pixel. The session's pixels are colours, a viewer's may be unknown.
use Rattle.std.specs.Prelude.{ℕ, zero, suc, ◌+◌, ◌*◌, ◌/◌, ◌%◌, Bool, true, false, ◌&&◌, ◌||◌, ℤ, pos, negsuc, List, [], ◌∷◌, ◌++◌, replicate}
use Rattle.px_core.specs.declared.surface.Size.{Size}

-- the number of pixels of a picture
abbrev pub pixel_count : Size → ℕ
pixel_count size = size.w * size.h

-- the picture that a session opens with
abbrev pub black_picture : Size → List ℕ
black_picture size = replicate (pixel_count size) 0

-- the number that an integer is, and 0 for a negative one
abbrev pub nat_of : ℤ → ℕ
nat_of (pos n) = n
nat_of (negsuc n) = 0

-- the item at a place of a list, else the other one
abbrev pub item : {A : Type 0} → List A → ℕ → A → A
item [] n other = other
item (x ∷ xs) zero other = x
item (x ∷ xs) (suc n) other = item xs n other

-- so many items by their places, from a place on
abbrev pub listed : {A : Type 0} → ℕ → ℕ → (ℕ → A) → List A
listed zero i f = []
listed (suc n) i f = f i ∷ listed n (i + 1) f

-- ---- rows

-- the first n items
abbrev pub front : {A : Type 0} → ℕ → List A → List A
front zero xs = []
front (suc n) [] = []
front (suc n) (x ∷ xs) = x ∷ front n xs

-- the items after the first n
abbrev pub skipped : {A : Type 0} → ℕ → List A → List A
skipped zero xs = xs
skipped (suc n) [] = []
skipped (suc n) (x ∷ xs) = skipped n xs

-- the rows of a picture of w by h
abbrev pub rows_of : {A : Type 0} → ℕ → ℕ → List A → List (List A)
rows_of w zero xs = []
rows_of w (suc h) xs = front w xs ∷ rows_of w h (skipped w xs)

-- pixel (x, y) of rows, else the other one
abbrev pub pixel_in : {A : Type 0} → List (List A) → A → ℤ → ℤ → A
pixel_in rows other x y = item (item rows (nat_of y) []) (nat_of x) other

-- pixel (x, y) of a picture, which stands at place w * y + x, else the other one
abbrev pub pixel_at : {A : Type 0} → Size → List A → A → ℕ → ℕ → A
pixel_at size picture other x y = item picture (size.w * y + x) other

-- ---- rows from the bottom up

-- a list from its end, before another list
abbrev pub turned : {A : Type 0} → List A → List A → List A
turned [] ys = ys
turned (x ∷ xs) ys = turned xs (x ∷ ys)

-- lists one after the other
abbrev pub joined : {A : Type 0} → List (List A) → List A
joined [] = []
joined (xs ∷ xss) = xs ++ joined xss

-- the rows of w by h pixels in the other order: from the top to from the bottom, and back
abbrev pub turned_over : {A : Type 0} → ℕ → ℕ → List A → List A
turned_over w h pixels = joined (turned (rows_of w h pixels) [])

-- ---- sets of pixels

-- a set of pixels, by column and row
abbrev pub Area : Type 0
Area = ℤ → ℤ → Bool

abbrev pub everywhere : Area
everywhere x y = true

abbrev pub nowhere : Area
nowhere x y = false

abbrev pub both : Area → Area → Area
both a b x y = a x y && b x y

abbrev pub either : Area → Area → Area
either a b x y = a x y || b x y

-- ---- painting

-- what becomes of a pixel, by its column, its row and its old value
abbrev pub Formula : Type 0 → Type 0
Formula A = ℤ → ℤ → A → A

-- the new value of a pixel: the formula's where the pixel is chosen, else the old one
abbrev pub where_chosen : {A : Type 0} → Bool → Formula A → ℤ → ℤ → A → A
where_chosen true f x y old = f x y old
where_chosen false f x y old = old

-- the pixels from place i on of a picture that is w wide, painted
abbrev pub painted_from : {A : Type 0} → ℕ → ℕ → Area → Formula A → List A → List A
painted_from w i area f [] = []
painted_from w i area f (p ∷ ps) = where_chosen (area (pos (i % w)) (pos (i / w))) f (pos (i % w)) (pos (i / w)) p ∷ painted_from w (i + 1) area f ps

-- the picture in which each pixel of the area becomes what the formula says of the old one, and every other pixel stays
abbrev pub painted : {A : Type 0} → Size → Area → Formula A → List A → List A
painted size area f old = painted_from size.w 0 area f old
