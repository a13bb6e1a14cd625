-- Counting from the front, one place at a time.
use Rattle.std.proofs.Common.{◌≡◌, ℕ, zero, suc, ◌+◌, ◌-◌, ◌*◌, ◌<◌, ◌≤◌, ◌≢◌, Bool, true, false, cond, List, [], ◌∷◌, ◌++◌, length, take, drop, replicate, get_or, refl, ap, sym, ◌∙◌, arith, append_assoc, append-nil}
use Rattle.std.specs.Prelude.{IsFalse, ◌==◌, zip, flat_map, nat_le, ◌&&◌, Option, Some, None}
use Rattle.std.specs.List.{common_prefix_len, prefix_len}
use Rattle.std.proofs.lemmas.Bool.Decides.{nat_tests}
use Rattle.std.proofs.lemmas.List.{length-append, drop_more, drop_all, take_more, take_all, length-replicate}
use Rattle.run_lengths.specs.Packer.{Spot, background_count, color_count, chosen_run}
use Rattle.run_lengths.specs.RunLength.Run.{Background, Color, Image}
use Rattle.px_core.specs.declared.depth.Depth.TheVariants.{Bits24}
use Rattle.px_core.specs.Pixels.{pixel_bytes}
use Rattle.std.proofs.Math.Seq.{take-append-add}
use Rattle.rle_enc.specs.Stretch.{leading, literal_bytes, HasItems, spots_in}
use Rattle.run_lengths.proofs.Runs.{pixels}
use Rattle.run_lengths.proofs.Stretches.{pixels-zip}

pub same_test : (a b : ℕ) → a ≡ b → (a == b) ≡ true
same_test a b e = grind (arith, nat_tests, e)

pub other_test : (a b : ℕ) → a ≢ b → (a == b) ≡ false
other_test a b e = grind (arith, nat_tests, e)

pub leading_more : (c i x : ℕ) (xs : List ℕ) → i < length xs → get_or xs i 0 ≡ x → x ≡ c → leading c xs ≡ i + leading c (drop i xs) → leading c xs ≡ (i + 1) + leading c (drop (i + 1) xs)
leading_more c i x xs lt at e h =
    let here : leading c (drop i xs) ≡ suc (leading c (drop (i + 1) xs)) = ap (leading c) (drop_more xs i 0 lt) ∙ ap (λ t. cond t (suc (leading c (drop (i + 1) xs))) 0) (same_test (get_or xs i 0) c (at ∙ e)) in
    omega (arith, h, here)

pub leading_stops : (c i x : ℕ) (xs : List ℕ) → i < length xs → get_or xs i 0 ≡ x → x ≢ c → leading c xs ≡ i + leading c (drop i xs) → leading c xs ≡ i
leading_stops c i x xs lt at e h =
    let here : leading c (drop i xs) ≡ 0 = ap (leading c) (drop_more xs i 0 lt) ∙ ap (λ t. cond t (suc (leading c (drop (i + 1) xs))) 0) (other_test (get_or xs i 0) c (λ f. e (sym at ∙ f))) in
    omega (arith, h, here)

pub leading_ends : (c i : ℕ) (xs : List ℕ) → length xs ≤ i → leading c xs ≡ i + leading c (drop i xs) → leading c xs ≡ i
leading_ends c i xs le h = omega (arith, h, ap (leading c) (drop_all i xs le))

pub same_more : (i : ℕ) (xs ys : List ℕ) → i < length xs → i < length ys → get_or xs i 0 ≡ get_or ys i 0 → background_count (zip xs ys) ≡ i + background_count (zip (drop i xs) (drop i ys)) → background_count (zip xs ys) ≡ (i + 1) + background_count (zip (drop (i + 1) xs) (drop (i + 1) ys))
same_more i xs ys l k e h =
    let rest : ℕ = background_count (zip (drop (i + 1) xs) (drop (i + 1) ys)) in
    let here : background_count (zip (drop i xs) (drop i ys)) ≡ suc rest = ap (λ us. background_count (zip us (drop i ys))) (drop_more xs i 0 l) ∙ ap (λ us. background_count (zip (get_or xs i 0 ∷ drop (i + 1) xs) us)) (drop_more ys i 0 k) ∙ ap (λ t. cond t (suc rest) 0) (same_test (get_or xs i 0) (get_or ys i 0) e) in
    omega (arith, h, here)

pub same_stops : (i : ℕ) (xs ys : List ℕ) → i < length xs → i < length ys → get_or xs i 0 ≢ get_or ys i 0 → background_count (zip xs ys) ≡ i + background_count (zip (drop i xs) (drop i ys)) → background_count (zip xs ys) ≡ i
same_stops i xs ys l k e h =
    let rest : ℕ = background_count (zip (drop (i + 1) xs) (drop (i + 1) ys)) in
    let here : background_count (zip (drop i xs) (drop i ys)) ≡ 0 = ap (λ us. background_count (zip us (drop i ys))) (drop_more xs i 0 l) ∙ ap (λ us. background_count (zip (get_or xs i 0 ∷ drop (i + 1) xs) us)) (drop_more ys i 0 k) ∙ ap (λ t. cond t (suc rest) 0) (other_test (get_or xs i 0) (get_or ys i 0) e) in
    omega (arith, h, here)

none_left : (xs : List ℕ) → background_count (zip xs []) ≡ 0
none_left [] = refl
none_left (x ∷ xs) = refl

pub same_ends : (i : ℕ) (xs ys : List ℕ) → length xs ≤ i → background_count (zip xs ys) ≡ i + background_count (zip (drop i xs) (drop i ys)) → background_count (zip xs ys) ≡ i
same_ends i xs ys le h = omega (arith, h, ap (λ us. background_count (zip us (drop i ys))) (drop_all i xs le))

pub same_ends_above : (i : ℕ) (xs ys : List ℕ) → length ys ≤ i → background_count (zip xs ys) ≡ i + background_count (zip (drop i xs) (drop i ys)) → background_count (zip xs ys) ≡ i
same_ends_above i xs ys le h = omega (arith, h, ap (λ us. background_count (zip (drop i xs) us)) (drop_all i ys le), none_left (drop i xs))

-- the counts of spots by those of lists
pub color_count_leading : (c : ℕ) (spots : List Spot) → color_count c spots ≡ leading c (pixels spots)
color_count_leading c [] = refl
color_count_leading c (s ∷ spots) = ap (λ n. cond (s.0 == c) (suc n) 0) (color_count_leading c spots)

pub black_count_leading : (xs : List ℕ) → background_count (zip xs (replicate (length xs) 0)) ≡ leading 0 xs
black_count_leading [] = refl
black_count_leading (x ∷ xs) = ap (λ n. cond (x == 0) (suc n) 0) (black_count_leading xs)

-- ---- the counts of the lanes

passes : (b : Bool) (n : ℕ) → 1 ≤ cond b (suc n) 0 → b ≡ true
passes true n h = refl
passes false n h = absurd (omega (arith, h))

first_colored : (c : ℕ) (xs : List ℕ) → 1 ≤ leading c xs → get_or xs 0 0 ≡ c
first_colored c [] h = absurd (omega (arith, h))
first_colored c (x ∷ xs) h = let e : (x == c) ≡ true = passes (x == c) (leading c xs) h in grind (arith, nat_tests, e)

one_more : (b : Bool) (m n : ℕ) → m ≡ n → cond b (1 + m) 0 ≡ cond b (suc n) 0
one_more true m n e = omega (arith, e)
one_more false m n e = refl

run_leading : (c : ℕ) (xs : List ℕ) → prefix_len (λ x. x == c) xs ≡ leading c xs
run_leading c [] = refl
run_leading c (x ∷ xs) = one_more (x == c) (prefix_len (λ y. y == c) xs) (leading c xs) (run_leading c xs)

-- a run of the first item is one of each colour that leads
pub own_run : (c n : ℕ) (xs : List ℕ) → 1 ≤ n → leading c xs ≡ n + leading c (drop n xs) → prefix_len (λ x. x == get_or xs 0 0) xs ≡ leading c xs
own_run c n xs some e = ap (λ d. prefix_len (λ x. x == d) xs) (first_colored c xs (omega (arith, some, e))) ∙ run_leading c xs

-- a common front of pixels and as many above them
pub back_run_is : (xs ys : List ℕ) → common_prefix_len (λ x y. x == y) xs (take (length xs) ys) ≡ background_count (zip xs ys)
back_run_is [] ys = refl
back_run_is (x ∷ xs) [] = refl
back_run_is (x ∷ xs) (y ∷ ys) = one_more (x == y) (common_prefix_len (λ a b. a == b) xs (take (length xs) ys)) (background_count (zip xs ys)) (back_run_is xs ys)

flat_map_last : (f : ℕ → List ℕ) (zs : List ℕ) (y : ℕ) → flat_map f zs ++ f y ≡ flat_map f (zs ++ y ∷ [])
flat_map_last f [] y = sym (append-nil (f y))
flat_map_last f (z ∷ zs) y = append_assoc (f z) (flat_map f zs) (f y) ∙ ap (λ us. f z ++ us) (flat_map_last f zs y)

pub flat_map_push : (f : ℕ → List ℕ) (p q xs : List ℕ) (i x : ℕ) → i < length xs → x ≡ get_or xs i 0 → q ≡ (p ++ flat_map f (take i xs)) ++ f x → q ≡ p ++ flat_map f (take (i + 1) xs)
flat_map_push f p q xs i x lt at e = e ∙ append_assoc p (flat_map f (take i xs)) (f x) ∙ ap (λ zs. p ++ zs) (ap (λ y. flat_map f (take i xs) ++ f y) at ∙ flat_map_last f (take i xs) (get_or xs i 0) ∙ ap (flat_map f) (sym (take_more xs i 0 lt)))

-- four items at the front
four_on : (f : ℕ → List ℕ) (p r : List ℕ) (a b c d : ℕ) → (p ++ (((f a ++ f b) ++ f c) ++ f d)) ++ r ≡ p ++ (f a ++ (f b ++ (f c ++ (f d ++ r))))
four_on f p r a b c d = simp append_assoc

pub flat_map_four : (f : ℕ → List ℕ) (p q xs : List ℕ) (n : ℕ) → 4 ≤ length xs → n ≡ length xs - 4 → q ≡ p ++ (((f (get_or xs 0 0) ++ f (get_or xs 1 0)) ++ f (get_or xs 2 0)) ++ f (get_or xs 3 0)) → q ++ flat_map f (take n (drop 4 xs)) ≡ p ++ flat_map f xs
flat_map_four f p q (a ∷ b ∷ c ∷ d ∷ xs) n h m e =
    let all : take n xs ≡ xs = take_all n xs (omega (arith, m)) in
    ap (λ us. us ++ flat_map f (take n xs)) e ∙ four_on f p (flat_map f (take n xs)) a b c d ∙ ap (λ us. p ++ (f a ++ (f b ++ (f c ++ (f d ++ flat_map f us))))) all
flat_map_four f p q (a ∷ b ∷ c ∷ []) n h m e = absurd (omega (arith, h))
flat_map_four f p q (a ∷ b ∷ []) n h m e = absurd (omega (arith, h))
flat_map_four f p q (a ∷ []) n h m e = absurd (omega (arith, h))
flat_map_four f p q [] n h m e = absurd (omega (arith, h))

-- ---- no more than

no_more : (b : Bool) (m i : ℕ) → m ≤ i → cond b (suc m) 0 ≤ suc i
no_more true m i h = omega (arith, h)
no_more false m i h = omega arith

past_more : (t : Bool) (m k r : ℕ) → suc k ≤ cond t (suc m) 0 → (k ≤ m → m ≡ k + r) → cond t (suc m) 0 ≡ suc k + r
past_more true m k r h f = let g : m ≡ k + r = f (omega (arith, h)) in omega (arith, g)
past_more false m k r h f = absurd (omega (arith, h))

-- past some of the items that are counted
pub leading_past : (c k : ℕ) (xs : List ℕ) → k ≤ leading c xs → leading c xs ≡ k + leading c (drop k xs)
leading_past c zero xs h = omega arith
leading_past c (suc k) [] h = absurd (omega (arith, h))
leading_past c (suc k) (x ∷ xs) h = past_more (x == c) (leading c xs) k (leading c (drop k xs)) h (leading_past c k xs)

pub leading_within : (c : ℕ) (xs : List ℕ) → leading c xs ≤ length xs
leading_within c [] = omega arith
leading_within c (x ∷ xs) = no_more (x == c) (leading c xs) (length xs) (leading_within c xs)

-- a pixel of another colour ends those of a colour
pub leading_until : (c i : ℕ) (xs : List ℕ) → i < length xs → get_or xs i 0 ≢ c → leading c xs ≤ i
leading_until c i [] lt other = absurd (omega (arith, lt))
leading_until c zero (x ∷ xs) lt other = let e : leading c (x ∷ xs) ≡ 0 = ap (λ t. cond t (suc (leading c xs)) 0) (other_test x c other) in omega (arith, e)
leading_until c (suc i) (x ∷ xs) lt other = no_more (x == c) (leading c xs) i (leading_until c i xs (omega (arith, lt)) other)

pub differ : (a b : ℕ) → IsFalse (a == b) → a ≢ b
differ a b e f = let same : (a == b) ≡ true = same_test a b f in cc

-- ---- the piece that is packed first

-- the first item counts itself
pub leading_some : (ps : List ℕ) → 0 < length ps → 1 ≤ leading (get_or ps 0 0) ps
leading_some [] h = absurd (omega (arith, h))
leading_some (p ∷ ps) h = let e : leading p (p ∷ ps) ≡ suc (leading p ps) = ap (λ t. cond t (suc (leading p ps)) 0) (same_test p p refl) in omega (arith, e)

pub next_has_color : (ps : List ℕ) → 2 ≤ length ps → get_or ps 1 0 ≡ get_or ps 0 0 → 2 ≤ leading (get_or ps 0 0) ps
next_has_color [] h e = absurd (omega (arith, h))
next_has_color (p ∷ []) h e = absurd (omega (arith, h))
next_has_color (p ∷ q ∷ ps) h e =
    let second : leading p (q ∷ ps) ≡ suc (leading p ps) = ap (λ t. cond t (suc (leading p ps)) 0) (same_test q p e) in
    let first : leading p (p ∷ q ∷ ps) ≡ suc (leading p (q ∷ ps)) = ap (λ t. cond t (suc (leading p (q ∷ ps))) 0) (same_test p p refl) in
    omega (arith, first, second)

-- the first pixel is background
over_other : (x y : ℕ) (n : ℕ) → x ≡ y → 1 ≤ cond (x == y) (suc n) 0
over_other x y n e = let f : cond (x == y) (suc n) 0 ≡ suc n = ap (λ t. cond t (suc n) 0) (same_test x y e) in omega (arith, f)

pub over_row : (ps ys : List ℕ) → 0 < length ps → length ps ≤ length ys → get_or ps 0 0 ≡ get_or ys 0 0 → 1 ≤ background_count (zip ps ys)
over_row [] ys h le e = absurd (omega (arith, h))
over_row (p ∷ ps) [] h le e = absurd (omega (arith, le))
over_row (p ∷ ps) (y ∷ ys) h le e = over_other p y (background_count (zip ps ys)) e

pub over_black : (ps : List ℕ) → 0 < length ps → get_or ps 0 0 ≡ 0 → 1 ≤ background_count (zip ps (replicate (length ps) 0))
over_black [] h e = absurd (omega (arith, h))
over_black (p ∷ ps) h e = over_other p 0 (background_count (zip ps (replicate (length ps) 0))) e

pub pixels_of_spots : (row : Option (List ℕ)) (ps : List ℕ) → HasItems (length ps) row → pixels (spots_in row ps) ≡ ps
pixels_of_spots None ps h = pixels-zip ps (replicate (length ps) 0) ∙ take_all (length (replicate {A = ℕ} (length ps) 0)) ps (let e : length (replicate {A = ℕ} (length ps) 0) ≡ length ps = length-replicate (length ps) 0 in omega (arith, e))
pixels_of_spots (Some row) ps h = pixels-zip ps row ∙ take_all (length row) ps h

pub color_of_spots : (row : Option (List ℕ)) (ps : List ℕ) (x : ℕ) → HasItems (length ps) row → color_count x (spots_in row ps) ≡ leading x ps
color_of_spots row ps x h = color_count_leading x (spots_in row ps) ∙ ap (leading x) (pixels_of_spots row ps h)

chosen_background : (b c x : ℕ) → 1 ≤ b → c ≤ b → chosen_run b c x ≡ Background b
chosen_background b c x l h = let e : (nat_le 1 b && nat_le c b) ≡ true = grind (arith, nat_tests, l, h) in ap (λ t. cond t (Background b) (cond (nat_le 2 c) (Color c x) (Image (x ∷ [])))) e

chosen_color : (b c x : ℕ) → b < c → 2 ≤ c → chosen_run b c x ≡ Color c x
chosen_color b c x l h =
    let e : (nat_le 1 b && nat_le c b) ≡ false = grind (arith, nat_tests, l) in
    let f : nat_le 2 c ≡ true = grind (arith, nat_tests, h) in
    ap (λ t. cond t (Background b) (cond (nat_le 2 c) (Color c x) (Image (x ∷ [])))) e ∙ ap (λ t. cond t (Color c x) (Image (x ∷ []))) f

chosen_literal : (b c x : ℕ) → b < 1 → c < 2 → chosen_run b c x ≡ Image (x ∷ [])
chosen_literal b c x l h =
    let e : (nat_le 1 b && nat_le c b) ≡ false = grind (arith, nat_tests, l) in
    let f : nat_le 2 c ≡ false = grind (arith, nat_tests, h) in
    ap (λ t. cond t (Background b) (cond (nat_le 2 c) (Color c x) (Image (x ∷ [])))) e ∙ ap (λ t. cond t (Color c x) (Image (x ∷ []))) f

-- the counts in a choice may be those of the lists
pub chosen_same : (row : Option (List ℕ)) (ps : List ℕ) (b c x : ℕ) → HasItems (length ps) row → b ≡ background_count (spots_in row ps) → c ≡ leading x ps → chosen_run b c x ≡ chosen_run (background_count (spots_in row ps)) (color_count x (spots_in row ps)) x
chosen_same row ps b c x h e f = ap (λ n. chosen_run n c x) e ∙ ap (λ n. chosen_run (background_count (spots_in row ps)) n x) (f ∙ sym (color_of_spots row ps x h))

pub piece_background : (row : Option (List ℕ)) (ps : List ℕ) (b c x : ℕ) → HasItems (length ps) row → b ≡ background_count (spots_in row ps) → c ≡ leading x ps → 1 ≤ b → c ≤ b → Background b ≡ chosen_run (background_count (spots_in row ps)) (color_count x (spots_in row ps)) x
piece_background row ps b c x h e f l m = sym (chosen_background b c x l m) ∙ chosen_same row ps b c x h e f

pub piece_color : (row : Option (List ℕ)) (ps : List ℕ) (b c x : ℕ) → HasItems (length ps) row → b ≡ background_count (spots_in row ps) → c ≡ leading x ps → b < c → 2 ≤ c → Color c x ≡ chosen_run (background_count (spots_in row ps)) (color_count x (spots_in row ps)) x
piece_color row ps b c x h e f l m = sym (chosen_color b c x l m) ∙ chosen_same row ps b c x h e f

pub piece_literal : (row : Option (List ℕ)) (ps : List ℕ) (b c x : ℕ) → HasItems (length ps) row → b ≡ background_count (spots_in row ps) → c ≡ leading x ps → b < 1 → c < 2 → Image (x ∷ []) ≡ chosen_run (background_count (spots_in row ps)) (color_count x (spots_in row ps)) x
piece_literal row ps b c x h e f l m = sym (chosen_literal b c x l m) ∙ chosen_same row ps b c x h e f

-- ---- some of four pixels

take_of_take : (m n : ℕ) (xs : List ℕ) → m ≤ n → take m (take n xs) ≡ take m xs
take_of_take zero n xs h = refl
take_of_take (suc m) zero xs h = absurd (omega (arith, h))
take_of_take (suc m) (suc n) [] h = refl
take_of_take (suc m) (suc n) (x ∷ xs) h = ap (λ us. x ∷ us) (take_of_take m n xs (omega (arith, h)))

-- the bytes of all four
abbrev four_bytes : List ℕ → List ℕ
four_bytes ps = pixel_bytes Bits24 (get_or ps 0 0) ++ pixel_bytes Bits24 (get_or ps 1 0) ++ pixel_bytes Bits24 (get_or ps 2 0) ++ pixel_bytes Bits24 (get_or ps 3 0)

some_bytes : (n : ℕ) (ps : List ℕ) → 1 ≤ n → n ≤ 4 → 4 ≤ length ps → take (1 + 3 * n) ((128 + n) ∷ four_bytes ps) ≡ literal_bytes Bits24 (take n ps)
some_bytes zero ps l h m = absurd (omega (arith, l))
some_bytes (suc zero) (a ∷ b ∷ c ∷ d ∷ ps) l h m = refl
some_bytes (suc (suc zero)) (a ∷ b ∷ c ∷ d ∷ ps) l h m = refl
some_bytes (suc (suc (suc zero))) (a ∷ b ∷ c ∷ d ∷ ps) l h m = refl
some_bytes (suc (suc (suc (suc zero)))) (a ∷ b ∷ c ∷ d ∷ ps) l h m = refl
some_bytes (suc (suc (suc (suc (suc n))))) ps l h m = absurd (omega (arith, h))
some_bytes n [] l h m = absurd (omega (arith, m))
some_bytes n (a ∷ []) l h m = absurd (omega (arith, m))
some_bytes n (a ∷ b ∷ []) l h m = absurd (omega (arith, m))
some_bytes n (a ∷ b ∷ c ∷ []) l h m = absurd (omega (arith, m))

-- those of the first are left where the rest is dropped
pub some_of_four : {code : ℕ} (n len : ℕ) (p q r bs ps : List ℕ) → 1 ≤ n → n ≤ 4 → 4 ≤ length ps → length bs ≡ 16
    → take 13 bs ≡ code ∷ (pixel_bytes Bits24 (get_or ps 0 0) ++ pixel_bytes Bits24 (get_or ps 1 0) ++ pixel_bytes Bits24 (get_or ps 2 0) ++ pixel_bytes Bits24 (get_or ps 3 0))
    → q ≡ p ++ bs → r ≡ take (len - (15 - 3 * n)) q → len ≡ length q → code ≡ 128 + n → r ≡ p ++ literal_bytes Bits24 (take n ps)
some_of_four n len p q r bs ps some few four long bytes e f all is =
    let end : len - (15 - 3 * n) ≡ length p + (1 + 3 * n) = omega (arith, all, ap length e, length-append p bs, long, some, few) in
    f ∙ (λ i. take (end i) (e i))
    ∙ take-append-add p bs (1 + 3 * n)
    ∙ ap (λ us. p ++ us) (sym (take_of_take (1 + 3 * n) 13 bs (omega (arith, few))) ∙ ap (take (1 + 3 * n)) (bytes ∙ ap (λ x. x ∷ four_bytes ps) is) ∙ some_bytes n ps some few four)
