-- What is drawn stroke by stroke is what the relation asks for; runs drawn at once.
use Rattle.std.proofs.Common.{◌≡◌, ℕ, zero, suc, ◌+◌, ◌-◌, ◌/◌, ◌%◌, ◌<◌, ◌≤◌, Bool, cond, List, [], ◌∷◌, ◌++◌, length, get_or, take, drop, map, replicate, min, refl, ap, sym, subst, ◌∙◌, arith, length-append, append_assoc, append-nil, ⊎_elim}
use Rattle.std.specs.Prelude.{◌==◌, bit_xor, slice_range, flat_map}
use Rattle.std.proofs.lemmas.Bool.{cases_lt}
use Rattle.std.proofs.lemmas.List.{length-drop, length-replicate, take-append-drop, length-take-le, take_more, drop_more, replicate_more, get_or_append_left, get_or-append_right, get_or-drop, take-append-le, drop_all, replicate-append-replicate, map-append, get_or_read}
use Rattle.run_lengths.specs.declared.strokes.Stroke.{Stroke}
use Rattle.run_lengths.specs.RunLength.{drawn_pixel, drawn_over, AreDrawn, bits_of, mask_bits, dithered_strokes}
use Rattle.run_lengths.specs.declared.strokes.Stroke.TheVariants.{Plain, Above, Crossed}
use Rattle.run_lengths.proofs.Laws.{drawn_over-append, drawn_over_front, length-bits_of}
use Rattle.rle_dec.specs.Drawing.{above_next, drawn_onto, masked}

pub drawn_onto-append : (w : ℕ) (ss ts : List Stroke) (p : List ℕ) → drawn_onto w (ss ++ ts) p ≡ drawn_onto w ts (drawn_onto w ss p)
drawn_onto-append w [] ts p = refl
drawn_onto-append w (s ∷ ss) ts p = drawn_onto-append w ss ts (p ++ drawn_pixel s (above_next w p) ∷ [])

pub length-drawn_onto : (w : ℕ) (ss : List Stroke) (p : List ℕ) → length (drawn_onto w ss p) ≡ length p + length ss
length-drawn_onto w [] p = omega arith
length-drawn_onto w (s ∷ ss) p =
    let more : length (p ++ drawn_pixel s (above_next w p) ∷ []) ≡ length p + 1 = length-append p (drawn_pixel s (above_next w p) ∷ []) in
    omega (arith, more, length-drawn_onto w ss (p ++ drawn_pixel s (above_next w p) ∷ []))

-- the front of a list, and what follows it, begins with the item there
split_at : (n : ℕ) (xs : List ℕ) → n < length xs → drop n xs ≡ get_or xs n 0 ∷ drop (n + 1) xs
split_at n xs lt = drop_more xs n 0 lt

-- one more stroke keeps the relation
are_drawn_more : (w : ℕ) (done : List Stroke) (s : Stroke) (p : List ℕ) → 1 ≤ w → length p ≡ length done → AreDrawn w done p → AreDrawn w (done ++ s ∷ []) (p ++ drawn_pixel s (above_next w p) ∷ [])
are_drawn_more w done s p some same drawn =
    let black : List ℕ = replicate w 0 in
    let x : ℕ = drawn_pixel s (above_next w p) in
    let n : ℕ = length done in
    let whole : List ℕ = black ++ p in
    let wide : length whole ≡ w + length p = length-append black p ∙ ap (λ m. m + length p) (length-replicate w 0) in
    let front : length (take n whole) ≡ n = length-take-le n whole (omega (arith, wide, same)) in
    let next : drop n whole ≡ get_or whole n 0 ∷ drop (n + 1) whole = split_at n whole (omega (arith, wide, same, some)) in
    let up : get_or whole n 0 ≡ above_next w p = ap (λ m. get_or whole m 0) (sym same) in
    let first : drawn_over done (take n whole) ≡ p = sym (drawn_over_front done (take n whole) (drop n whole) (sym front)) ∙ ap (drawn_over done) (take-append-drop n whole) ∙ sym drawn in
    let last : drawn_over (s ∷ []) (drop n whole ++ x ∷ []) ≡ x ∷ [] = ap (λ us. drawn_over (s ∷ []) (us ++ x ∷ [])) next ∙ ap (λ u. drawn_pixel s u ∷ []) up in
    let parts : take n whole ++ (drop n whole ++ x ∷ []) ≡ black ++ (p ++ x ∷ []) = sym (append_assoc (take n whole) (drop n whole) (x ∷ [])) ∙ ap (λ us. us ++ x ∷ []) (take-append-drop n whole) ∙ append_assoc black p (x ∷ []) in
    sym (ap (drawn_over (done ++ s ∷ [])) (sym parts) ∙ drawn_over-append done (s ∷ []) (take n whole) (drop n whole ++ x ∷ []) (sym front) ∙ ap (λ us. us ++ drawn_over (s ∷ []) (drop n whole ++ x ∷ [])) first ∙ ap (λ us. p ++ us) last)

-- strokes drawn at the end keep the relation
pub are_drawn_onto : (w : ℕ) (done ss : List Stroke) (p : List ℕ) → 1 ≤ w → length p ≡ length done → AreDrawn w done p → AreDrawn w (done ++ ss) (drawn_onto w ss p)
are_drawn_onto w done [] p some same drawn = let P : List Stroke → Type 0 = λ ts. AreDrawn w ts p in subst P (sym (append-nil done)) drawn
are_drawn_onto w done (s ∷ ss) p some same drawn =
    let x = drawn_pixel s (above_next w p) in
    let more : length (p ++ x ∷ []) ≡ length (done ++ s ∷ []) = omega (arith, length-append p (x ∷ []), length-append done (s ∷ []), same) in
    let P : List Stroke → Type 0 = λ ts. AreDrawn w ts (drawn_onto w ss (p ++ x ∷ [])) in
    subst P (append_assoc done (s ∷ []) ss) (are_drawn_onto w (done ++ s ∷ []) ss (p ++ x ∷ []) some more (are_drawn_more w done s p some same drawn))

-- ---- runs

-- one stroke more of a run
pub drawn_onto_push : (w : ℕ) (ss : List Stroke) (s : Stroke) (p : List ℕ) → drawn_onto w (ss ++ s ∷ []) p ≡ drawn_onto w ss p ++ drawn_pixel s (above_next w (drawn_onto w ss p)) ∷ []
drawn_onto_push w ss s p = drawn_onto-append w ss (s ∷ []) p

-- pixels in their own colours
pub drawn_onto_plain : (w : ℕ) (cs p : List ℕ) → drawn_onto w (map (λ c. Plain c) cs) p ≡ p ++ cs
drawn_onto_plain w [] p = sym (append-nil p)
drawn_onto_plain w (c ∷ cs) p = drawn_onto_plain w cs (p ++ c ∷ []) ∙ append_assoc p (c ∷ []) cs

pub drawn_onto_color : (w n c : ℕ) (p : List ℕ) → drawn_onto w (replicate n (Plain c)) p ≡ p ++ replicate n c
drawn_onto_color w zero c p = sym (append-nil p)
drawn_onto_color w (suc n) c p = drawn_onto_color w n c (p ++ c ∷ []) ∙ append_assoc p (c ∷ []) (replicate n c)

-- past the first row, the pixel one row earlier is w places before the end
pub above_next_later : (w : ℕ) (p : List ℕ) → w ≤ length p → above_next w p ≡ get_or p (length p - w) 0
above_next_later w p le = get_or-append_right (replicate w 0) p w (length p) 0 (length-replicate w 0) le

-- at most a row of background is a copy of the row before
pub drawn_onto_above : (w k : ℕ) (p : List ℕ) → k ≤ w → w ≤ length p → drawn_onto w (replicate k Above) p ≡ p ++ take k (drop (length p - w) p)
drawn_onto_above w zero p le wide = sym (append-nil p)
drawn_onto_above w (suc k) p le wide =
    let front : List ℕ = take k (drop (length p - w) p) in
    let from : List ℕ = drop (length p - w) p in
    let long : length from ≡ w = omega (arith, length-drop (length p - w) p) in
    let short : length front ≡ k = length-take-le k from (omega (arith, long)) in
    let here : drawn_onto w (replicate k Above) p ≡ p ++ front = drawn_onto_above w k p (omega (arith, le)) wide in
    let size : length (p ++ front) ≡ length p + k = omega (arith, length-append p front, short) in
    let up : above_next w (p ++ front) ≡ get_or from k 0 = above_next_later w (p ++ front) (omega (arith, size)) ∙ ap (λ m. get_or (p ++ front) m 0) (omega (arith, size)) ∙ get_or_append_left p front 0 ((length p - w) + k) (omega (arith, le, wide)) ∙ sym (get_or-drop (length p - w) p k 0) in
    let more : take (k + 1) from ≡ front ++ get_or from k 0 ∷ [] = take_more from k 0 (omega (arith, long, le)) in
    let one : k + 1 ≡ suc k = omega arith in
    let run : replicate (suc k) Above ≡ replicate k Above ++ Above ∷ [] = ap (λ m. replicate m Above) (sym one) ∙ sym (replicate_more k Above) in
    ap (λ ss. drawn_onto w ss p) run
    ∙ drawn_onto_push w (replicate k Above) Above p
    ∙ ap (λ q. q ++ above_next w q ∷ []) here
    ∙ ap (λ u. (p ++ front) ++ u ∷ []) up
    ∙ append_assoc p front (get_or from k 0 ∷ [])
    ∙ ap (λ us. p ++ us) (sym more ∙ ap (λ m. take m from) one)

-- a row of background, and what is left of it
pub above_step : (w left : ℕ) (p q : List ℕ) → w ≤ length p → q ≡ p ++ slice_range p (length p - w) ((length p - w) + min left w) → drawn_onto w (replicate (left - min left w) Above) q ≡ drawn_onto w (replicate left Above) p
above_step w left p q wide e =
    let step : ℕ = min left w in
    let size : ((length p - w) + step) - (length p - w) ≡ step = omega arith in
    let here : drawn_onto w (replicate step Above) p ≡ q = drawn_onto_above w step p (omega arith) wide ∙ ap (λ m. p ++ take m (drop (length p - w) p)) (sym size) ∙ sym e in
    let all : step + (left - step) ≡ left = omega arith in
    ap (λ r. drawn_onto w (replicate (left - step) Above) r) (sym here)
    ∙ sym (drawn_onto-append w (replicate step Above) (replicate (left - step) Above) p)
    ∙ ap (λ ss. drawn_onto w ss p) (replicate-append-replicate step (left - step) Above ∙ ap (λ m. replicate m Above) all)

-- the same with the numbers as the code has them
pub above_next_step : (w left len from step : ℕ) (p q : List ℕ) → w ≤ len → len ≡ length p → from ≡ len - w → step ≡ min left w → q ≡ p ++ slice_range p from (from + step) → drawn_onto w (replicate (left - step) Above) q ≡ drawn_onto w (replicate left Above) p
above_next_step w left len from step p q wide same at least e =
    let here : from ≡ length p - w = omega (arith, at, same) in
    let f : q ≡ p ++ slice_range p (length p - w) ((length p - w) + min left w) = e ∙ ap (λ m. p ++ slice_range p m (m + step)) here ∙ ap (λ k. p ++ slice_range p (length p - w) ((length p - w) + k)) least in
    ap (λ k. drawn_onto w (replicate (left - k) Above) q) least ∙ above_step w left p q (omega (arith, wide, same)) f

-- one more pixel crossed with the one a row earlier
pub crossed_step : (w k foreground above : ℕ) (p q r : List ℕ) → w ≤ length q → q ≡ drawn_onto w (replicate k (Crossed foreground)) p → above ≡ get_or q (length q - w) 0 → r ≡ q ++ bit_xor foreground above ∷ [] → r ≡ drawn_onto w (replicate (k + 1) (Crossed foreground)) p
crossed_step w k foreground above p q r wide e a f =
    f ∙ ap (λ u. q ++ bit_xor foreground u ∷ []) (a ∙ sym (above_next_later w q wide))
    ∙ ap (λ xs. xs ++ bit_xor foreground (above_next w xs) ∷ []) e
    ∙ sym (drawn_onto_push w (replicate k (Crossed foreground)) (Crossed foreground) p)
    ∙ ap (λ ss. drawn_onto w ss p) (replicate_more k (Crossed foreground))

-- the same with the numbers as the code has them
pub crossed_next_step : (w k len at foreground above : ℕ) (p q r : List ℕ) → 1 ≤ w → w ≤ len → len ≡ length q → at ≡ len - w → q ≡ drawn_onto w (replicate k (Crossed foreground)) p → above ≡ get_or q at above → r ≡ q ++ bit_xor foreground above ∷ [] → r ≡ drawn_onto w (replicate (k + 1) (Crossed foreground)) p
crossed_next_step w k len at foreground above p q r some wide same e f a g =
    let here : at ≡ length q - w = omega (arith, e, same) in
    let is : above ≡ get_or q (length q - w) 0 = get_or_read q at above (omega (arith, some, wide, same, e)) a 0 ∙ ap (λ m. get_or q m 0) here in
    crossed_step w k foreground above p q r (omega (arith, wide, same)) f is g

-- one bit more
pub bits_step : (w n k byte bits : ℕ) (back fore s : Stroke) (p q : List ℕ) → k < n → s ≡ cond (bits % 2 == 1) fore back → q ≡ drawn_onto w (s ∷ []) p → drawn_onto w (masked back fore (bits_of (n - (k + 1)) (bits / 2))) q ≡ drawn_onto w (masked back fore (bits_of (n - k) bits)) p
bits_step w n k byte bits back fore s p q lt e f =
    let one : n - k ≡ suc (n - (k + 1)) = omega (arith, lt) in
    let rest : List Stroke = masked back fore (bits_of (n - (k + 1)) (bits / 2)) in
    ap (λ xs. drawn_onto w rest xs) f ∙ ap (λ t. drawn_onto w (t ∷ rest) p) e ∙ ap (λ m. drawn_onto w (masked back fore (bits_of m bits)) p) (sym one)

take-bits_of : (n m x : ℕ) → n ≤ m → take n (bits_of m x) ≡ bits_of n x
take-bits_of zero m x le = refl
take-bits_of (suc n) zero x le = absurd (omega (arith, le))
take-bits_of (suc n) (suc m) x le = ap (λ bs. (x % 2 == 1) ∷ bs) (take-bits_of n m (x / 2) (omega (arith, le)))

take_past : {A : Type 0} → (xs ys : List A) (m : ℕ) → take (length xs + m) (xs ++ ys) ≡ xs ++ take m ys
take_past [] ys m = ap (λ k. take k ys) (omega arith)
take_past (x ∷ xs) ys m = let e : suc (length xs) + m ≡ suc (length xs + m) = omega arith in ap (λ k. take k (x ∷ xs ++ ys)) e ∙ ap (λ zs. x ∷ zs) (take_past xs ys m)

take_none : {A : Type 0} → (xs : List A) (n : ℕ) → n ≡ 0 → take n xs ≡ []
take_none xs n e = ap (λ m. take m xs) e

-- the bits of a byte before those of the others
mask_bits_next : (n b : ℕ) (bytes : List ℕ) → mask_bits n (b ∷ bytes) ≡ bits_of (min n 8) b ++ mask_bits (n - min n 8) bytes
mask_bits_next n b bytes = ⊎_elim many few (cases_lt 8 n) where
  rest : List Bool
  rest = flat_map (bits_of 8) bytes

  few : n ≤ 8 → mask_bits n (b ∷ bytes) ≡ bits_of (min n 8) b ++ mask_bits (n - min n 8) bytes
  few le =
      let least : min n 8 ≡ n = omega (arith, le) in
      let none : n - min n 8 ≡ 0 = omega (arith, le) in
      take-append-le n (bits_of 8 b) rest (omega (arith, le, length-bits_of 8 b)) ∙ take-bits_of n 8 b le ∙ ap (λ m. bits_of m b) (sym least) ∙ sym (append-nil (bits_of (min n 8) b)) ∙ ap (λ bs. bits_of (min n 8) b ++ bs) (sym (take_none rest (n - min n 8) none))

  many : 8 < n → mask_bits n (b ∷ bytes) ≡ bits_of (min n 8) b ++ mask_bits (n - min n 8) bytes
  many lt =
      let least : min n 8 ≡ 8 = omega (arith, lt) in
      let all : n ≡ length (bits_of 8 b) + (n - min n 8) = omega (arith, lt, length-bits_of 8 b) in
      ap (λ m. take m (bits_of 8 b ++ rest)) all ∙ take_past (bits_of 8 b) rest (n - min n 8) ∙ ap (λ m. bits_of m b ++ mask_bits (n - min n 8) bytes) (sym least)

masked-append : (back fore : Stroke) (bs cs : List Bool) → masked back fore (bs ++ cs) ≡ masked back fore bs ++ masked back fore cs
masked-append back fore bs cs = map-append (λ b. cond b fore back) bs cs

-- one byte of a mask more
pub mask_step : (w left i b : ℕ) (back fore : Stroke) (mask p q : List ℕ) → i < length mask → b ≡ get_or mask i 0 → q ≡ drawn_onto w (masked back fore (bits_of (min left 8) b)) p → drawn_onto w (masked back fore (mask_bits (left - min left 8) (drop (i + 1) mask))) q ≡ drawn_onto w (masked back fore (mask_bits left (drop i mask))) p
mask_step w left i b back fore mask p q lt e f =
    let k : ℕ = min left 8 in
    let more : drop i mask ≡ get_or mask i 0 ∷ drop (i + 1) mask = drop_more mask i 0 lt in
    let rest : List Stroke = masked back fore (mask_bits (left - k) (drop (i + 1) mask)) in
    let whole : mask_bits left (drop i mask) ≡ bits_of k b ++ mask_bits (left - k) (drop (i + 1) mask) = ap (mask_bits left) more ∙ ap (λ x. mask_bits left (x ∷ drop (i + 1) mask)) (sym e) ∙ mask_bits_next left b (drop (i + 1) mask) in
    ap (λ xs. drawn_onto w rest xs) f ∙ sym (drawn_onto-append w (masked back fore (bits_of k b)) rest p) ∙ ap (λ ss. drawn_onto w ss p) (sym (masked-append back fore (bits_of k b) (mask_bits (left - k) (drop (i + 1) mask)))) ∙ ap (λ bs. drawn_onto w (masked back fore bs) p) (sym whole)

pub mask_next_step : (w left step i b : ℕ) (back fore : Stroke) (mask p q : List ℕ) → i < length mask → b ≡ get_or mask i 0 → step ≡ min left 8 → q ≡ drawn_onto w (masked back fore (bits_of step b)) p → drawn_onto w (masked back fore (mask_bits (left - step) (drop (i + 1) mask))) q ≡ drawn_onto w (masked back fore (mask_bits left (drop i mask))) p
mask_next_step w left step i b back fore mask p q lt e least f = ap (λ k. drawn_onto w (masked back fore (mask_bits (left - k) (drop (i + 1) mask))) q) least ∙ mask_step w left i b back fore mask p q lt e (f ∙ ap (λ k. drawn_onto w (masked back fore (bits_of k b)) p) least)

pub mask_end : (w left i : ℕ) (back fore : Stroke) (mask p : List ℕ) → length mask ≤ i → drawn_onto w (masked back fore (mask_bits left (drop i mask))) p ≡ p
mask_end w left i back fore mask p le = ap (λ bs. drawn_onto w (masked back fore (mask_bits left bs)) p) (drop_all i mask le) ∙ empty left where
  empty : (n : ℕ) → drawn_onto w (masked back fore (mask_bits n [])) p ≡ p
  empty zero = refl
  empty (suc n) = refl

-- a pixel of an image more
pub image_step : (x : ℕ) (p q rest all : List ℕ) → q ≡ p ++ x ∷ [] → p ++ (x ∷ rest) ≡ all → q ++ rest ≡ all
image_step x p q rest all e f = ap (λ xs. xs ++ rest) e ∙ append_assoc p (x ∷ []) rest ∙ f

-- two pixels in turn more
pub dithered_step : (w n k a b : ℕ) (p q : List ℕ) → k < n → q ≡ p ++ a ∷ b ∷ [] → drawn_onto w (dithered_strokes (n - (k + 1)) a b) q ≡ drawn_onto w (dithered_strokes (n - k) a b) p
dithered_step w n k a b p q lt e =
    let one : n - k ≡ suc (n - (k + 1)) = omega (arith, lt) in
    let rest : List Stroke = dithered_strokes (n - (k + 1)) a b in
    ap (λ xs. drawn_onto w rest xs) (e ∙ sym (append_assoc p (a ∷ []) (b ∷ []))) ∙ ap (λ m. drawn_onto w (dithered_strokes m a b) p) (sym one)
