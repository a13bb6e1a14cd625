-- Laws of run-length bitmaps: how a stream is cut, that the function gives the pixels that the relation holds of, and that they are the only ones.
use Rattle.std.proofs.Common.{◌≡◌, ℕ, zero, suc, ◌+◌, ◌-◌, ◌*◌, ◌/◌, ◌<◌, ◌≤◌, Bool, true, false, cond, List, [], ◌∷◌, ◌++◌, length, get_or, take, drop, replicate, min, refl, ap, sym, subst, ◌∙◌, arith, Some, None, Ok, Err, Option, Result, length-append, append_assoc, append-nil}
use Rattle.std.proofs.lemmas.List.{length-drop, length-map, length-replicate, take-append-drop, length-take-le, drop_at, get_or_append_left, get_or-replicate, get_or-append_right}
use Rattle.std.proofs.lemmas.Bool.Decides.{nat_tests}
use Rattle.std.specs.Prelude.{flat_map, IfOk, IfErr, MatchResult, nat_le, nat_lt, ◌&&◌}
use Rattle.wire_num.specs.Field.{Read, then_read, map_read, given, taken, bytes_at}
use Rattle.wire_num.specs.Number.{little_at, little_value}
use Rattle.px_core.specs.declared.depth.Depth.{Depth}
use Rattle.px_core.specs.Depth.{bytes_in}
use Rattle.px_core.specs.Pixels.{pixels_of}
use Rattle.px_core.proofs.Pixels.{length-pixels_of}
use Rattle.run_lengths.specs.Codes.{row_of}
use Rattle.run_lengths.specs.declared.codes.RunKind.{RunKind}
use Rattle.run_lengths.specs.declared.codes.Length.{Length}
use Rattle.run_lengths.specs.declared.codes.Row.{Row}
use Rattle.run_lengths.specs.declared.codes.RunKind.TheVariants.{BackgroundRun, ForegroundRun, MaskImage, ColorRun, ColorImage, DitheredRun, FixedMask, FixedColor}
use Rattle.run_lengths.specs.declared.codes.Length.TheVariants.{InCode, TwoBytes, Fixed}
use Rattle.run_lengths.specs.declared.strokes.Stroke.{Stroke}
use Rattle.run_lengths.specs.RunLength.{Run, Order, run_size, bits_of, mask_bits, greatest_length, length_if, length_at, foreground_at, run_at, wire_pixel_at, order_in_row, order_at, onto_orders, orders_after, orders_within, run_orders_in, drawn_pixel, background_stroke, foreground_stroke, background_strokes, dithered_strokes, run_strokes, Drawn, drawn_after, follows_background, is_first_row, foreground_of, order_strokes, strokes_from, strokes_of, nothing_drawn, drawn_over, AreDrawn, Decompresses, rows_from, pixels_drawn, pixels_of_orders, unrle, refused_place, first_bad_run}
use Rattle.run_lengths.specs.RunLength.Run.{Background, Foreground, Mask, Color, Image, Dithered}
use Rattle.run_lengths.specs.declared.strokes.Stroke.TheVariants.{Plain, Above}

-- ---- drawing over the row before

pub drawn_over-append : (ss ts : List Stroke) (us vs : List ℕ) → length ss ≡ length us → drawn_over (ss ++ ts) (us ++ vs) ≡ drawn_over ss us ++ drawn_over ts vs
drawn_over-append [] ts [] vs e = refl
drawn_over-append [] ts (a ∷ us) vs e = cc
drawn_over-append (s ∷ ss) ts [] vs e = cc
drawn_over-append (s ∷ ss) ts (a ∷ us) vs e = let f : length ss ≡ length us = omega (arith, e) in ap (λ xs. drawn_pixel s a ∷ xs) (drawn_over-append ss ts us vs f)

-- strokes that are too few use the front of the row before
pub drawn_over_front : (ss : List Stroke) (us vs : List ℕ) → length ss ≡ length us → drawn_over ss (us ++ vs) ≡ drawn_over ss us
drawn_over_front [] [] vs e = refl
drawn_over_front [] (a ∷ us) vs e = cc
drawn_over_front (s ∷ ss) [] vs e = cc
drawn_over_front (s ∷ ss) (a ∷ us) vs e = let f : length ss ≡ length us = omega (arith, e) in ap (λ xs. drawn_pixel s a ∷ xs) (drawn_over_front ss us vs f)

pub length-drawn_over : (ss : List Stroke) (us : List ℕ) → length ss ≤ length us → length (drawn_over ss us) ≡ length ss
length-drawn_over [] us e = refl
length-drawn_over (s ∷ ss) [] e = absurd (omega (arith, e))
length-drawn_over (s ∷ ss) (a ∷ us) e = let f : length ss ≤ length us = omega (arith, e) in ap suc (length-drawn_over ss us f)

pub length-drawn_over_least : (ss : List Stroke) (us : List ℕ) → length (drawn_over ss us) ≡ min (length ss) (length us)
length-drawn_over_least [] us = omega arith
length-drawn_over_least (s ∷ ss) [] = omega arith
length-drawn_over_least (s ∷ ss) (a ∷ us) = omega (arith, length-drawn_over_least ss us)

-- rows drawn from a row: what follows the row is drawn over the whole
rows_drawn : (h w : ℕ) (row : List ℕ) (ss : List Stroke) → length row ≡ w → length ss ≡ h * w → rows_from h w row ss ≡ row ++ drawn_over ss (rows_from h w row ss)
rows_drawn zero w row [] e n = sym (append-nil row)
rows_drawn zero w row (s ∷ ss) e n = absurd (omega (arith, n))
rows_drawn (suc h) w row ss e n =
    let front : length (take w ss) ≡ w = length-take-le w ss (omega (arith, n)) in
    let back : length (drop w ss) ≡ h * w = omega (arith, n, length-drop w ss) in
    let here = drawn_over (take w ss) row in
    let rest = rows_from h w here (drop w ss) in
    let wide : length here ≡ w = length-drawn_over (take w ss) row (omega (arith, front, e)) ∙ front in
    let below : rest ≡ here ++ drawn_over (drop w ss) rest = rows_drawn h w here (drop w ss) wide back in
    let whole : drawn_over ss (row ++ rest) ≡ here ++ drawn_over (drop w ss) rest = ap (λ ts. drawn_over ts (row ++ rest)) (sym (take-append-drop w ss)) ∙ drawn_over-append (take w ss) (drop w ss) row rest (front ∙ sym e) in
    ap (λ xs. row ++ xs) (below ∙ sym whole)

-- ---- what is read, and what is left

-- what is read has the property, and at most n bytes are left after it; a refused field has at most one more before its end
abbrev pub Leaves : {A : Type 0} → (A → Type 0) → ℕ → Read A → Type 0
Leaves P n r = MatchResult r (λ v. P v.0 × (length v.1 ≤ n)) (λ refused. length refused ≤ suc n)

leaves_then : {A B : Type 0} (P : A → Type 0) (Q : B → Type 0) (n : ℕ) (r : Read A) (next : A → List ℕ → Read B) → Leaves P n r → ((a : A) (rest : List ℕ) → P a → length rest ≤ n → Leaves Q n (next a rest)) → Leaves Q n (then_read r next)
leaves_then P Q n (Ok v) next h f = f v.0 v.1 h.0 h.1
leaves_then P Q n (Err refused) next h f = h

leaves_map : {A B : Type 0} (P : A → Type 0) (Q : B → Type 0) (n : ℕ) (r : Read A) (f : A → B) → Leaves P n r → ((a : A) → P a → Q (f a)) → Leaves Q n (map_read f r)
leaves_map P Q n (Ok v) f h g = (g v.0 h.0, h.1)
leaves_map P Q n (Err refused) f h g = h

leaves_if : {A : Type 0} (P : A → Type 0) (n : ℕ) (test : Bool) (a : A) (rest field : List ℕ) → (test ≡ true → P a) → length rest ≤ n → length field ≤ suc n → Leaves P n (given test a rest field)
leaves_if P n true a rest field h less l = (h refl, less)
leaves_if P n false a rest field h less l = l

leaves_bytes : (k n : ℕ) (field bytes : List ℕ) → length bytes ≤ n → length field ≤ n → Leaves (λ xs. length xs ≡ k) n (taken field k bytes)
leaves_bytes zero n field bytes le l = (refl, le)
leaves_bytes (suc k) n field [] le l = omega arith
leaves_bytes (suc k) n field (b ∷ bytes) le l = leaves_map (λ xs. length xs ≡ k) (λ xs. length xs ≡ suc k) n (taken field k bytes) (λ xs. b ∷ xs) (leaves_bytes k n field bytes (omega (arith, le)) l) (λ xs e. ap suc e)

abbrev pub Any : {A : Type 0} → A → Type 0
Any a = Unit {0}

leaves_number : (k n : ℕ) (bytes : List ℕ) → length bytes ≤ n → Leaves (Any {A = ℕ}) n (little_at k bytes)
leaves_number k n bytes le = leaves_map (λ xs. length xs ≡ k) (Any {A = ℕ}) n (bytes_at k bytes) little_value (leaves_bytes k n bytes bytes le le) (λ xs e. tt)

pub length-bits_of : (n x : ℕ) → length (bits_of n x) ≡ n
length-bits_of zero x = refl
length-bits_of (suc n) x = ap suc (length-bits_of n (x / 2))

length-all_bits : (bytes : List ℕ) → length (flat_map (bits_of 8) bytes) ≡ 8 * length bytes
length-all_bits [] = refl
length-all_bits (b ∷ bytes) = omega (arith, length-append (bits_of 8 b) (flat_map (bits_of 8) bytes), length-bits_of 8 b, length-all_bits bytes)

pub length-mask_bits : (n : ℕ) (bytes : List ℕ) → length bytes ≡ (n + 7) / 8 → length (mask_bits n bytes) ≡ n
length-mask_bits n bytes e = length-take-le n (flat_map (bits_of 8) bytes) (omega (arith, e, length-all_bits bytes))

-- a length that is accepted is one from 1 to the greatest
abbrev pub InRange : ℕ → ℕ → Type 0
InRange greatest n = (1 ≤ n) × (n ≤ greatest)

in_range : (greatest n : ℕ) → (nat_lt 0 n && nat_le n greatest) ≡ true → InRange greatest n
in_range greatest n e = (grind (arith, nat_tests, e), grind (arith, nat_tests, e))

leaves_length_if : (greatest n : ℕ) (rest field : List ℕ) (m : ℕ) → length rest ≤ m → length field ≤ suc m → Leaves (InRange greatest) m (length_if greatest n rest field)
leaves_length_if greatest n rest field m less l = leaves_if (InRange greatest) m (nat_lt 0 n && nat_le n greatest) n rest field (in_range greatest n) less l

leaves_length : (l : Length) (low greatest code : ℕ) (rest : List ℕ) → Leaves (InRange greatest) (length rest) (length_at l low greatest (code ∷ rest) rest)
leaves_length (InCode scale more) zero greatest code rest = leaves_then (Any {A = ℕ}) (InRange greatest) (length rest) (little_at 1 rest) (λ n after. length_if greatest (n + more) after rest) (leaves_number 1 (length rest) rest (omega arith)) (λ n after t le. leaves_length_if greatest (n + more) after rest (length rest) le (omega arith))
leaves_length (InCode scale more) (suc low) greatest code rest = leaves_length_if greatest (scale * suc low) rest (code ∷ rest) (length rest) (omega arith) (omega arith)
leaves_length TwoBytes low greatest code rest = leaves_then (Any {A = ℕ}) (InRange greatest) (length rest) (little_at 2 rest) (λ n after. length_if greatest n after rest) (leaves_number 2 (length rest) rest (omega arith)) (λ n after t le. leaves_length_if greatest n after rest (length rest) le (omega arith))
leaves_length (Fixed n) low greatest code rest = leaves_length_if greatest n rest (code ∷ rest) (length rest) (omega arith) (omega arith)

leaves_foreground : (depth : Depth) (sets : Bool) (n : ℕ) (bytes : List ℕ) → length bytes ≤ n → Leaves (Any {A = Option ℕ}) n (foreground_at depth sets bytes)
leaves_foreground depth true n bytes le = leaves_map (Any {A = ℕ}) (Any {A = Option ℕ}) n (wire_pixel_at depth bytes) (λ c. Some c) (leaves_number (bytes_in depth) n bytes le) (λ c t. tt)
leaves_foreground depth false n bytes le = (tt, le)

-- the run draws at least one pixel and no more than are left
abbrev pub Draws : ℕ → Run → Type 0
Draws left run = InRange left (run_size run)

leaves_run : (depth : Depth) (kind : RunKind) (left n m : ℕ) (bytes : List ℕ) → InRange (greatest_length kind left) n → length bytes ≤ m → Leaves (Draws left) m (run_at depth kind n bytes)
leaves_run depth BackgroundRun left n m bytes h le = (h, le)
leaves_run depth ForegroundRun left n m bytes h le = (h, le)
leaves_run depth MaskImage left n m bytes h le = leaves_map (λ xs. length xs ≡ (n + 7) / 8) (Draws left) m (bytes_at ((n + 7) / 8) bytes) (λ ms. Mask (mask_bits n ms)) (leaves_bytes ((n + 7) / 8) m bytes bytes le le) (λ xs e. let f = length-mask_bits n xs e in (omega (arith, f, h.0), omega (arith, f, h.1)))
leaves_run depth ColorRun left n m bytes h le = leaves_map (Any {A = ℕ}) (Draws left) m (wire_pixel_at depth bytes) (λ c. Color n c) (leaves_number (bytes_in depth) m bytes le) (λ c t. h)
leaves_run depth ColorImage left n m bytes h le = leaves_map (λ xs. length xs ≡ bytes_in depth * n) (Draws left) m (bytes_at (bytes_in depth * n) bytes) (λ xs. Image (pixels_of depth xs)) (leaves_bytes (bytes_in depth * n) m bytes bytes le le) (λ xs e. let f = length-pixels_of depth n xs e in (omega (arith, f, h.0), omega (arith, f, h.1)))
leaves_run depth DitheredRun left n m bytes h le =
    let draws : (a b : ℕ) → Draws left (Dithered n a b) = λ a b. (omega (arith, h.0), omega (arith, h.1)) in
    leaves_then (Any {A = ℕ}) (Draws left) m (wire_pixel_at depth bytes) (λ a rest. map_read (λ b. Dithered n a b) (wire_pixel_at depth rest)) (leaves_number (bytes_in depth) m bytes le) (λ a rest t less. leaves_map (Any {A = ℕ}) (Draws left) m (wire_pixel_at depth rest) (λ b. Dithered n a b) (leaves_number (bytes_in depth) m rest less) (λ b u. draws a b))
leaves_run depth (FixedMask x) left n m bytes h le = let f = length-bits_of n x in ((omega (arith, f, h.0), omega (arith, f, h.1)), le)
leaves_run depth (FixedColor c) left n m bytes h le = (h, le)

abbrev pub OrderDraws : ℕ → Order → Type 0
OrderDraws left o = Draws left o.run

leaves_row : (depth : Depth) (r : Option Row) (left code : ℕ) (bytes : List ℕ) → Leaves (OrderDraws left) (length bytes) (order_in_row depth r left code bytes)
leaves_row depth None left code bytes = omega arith
leaves_row depth (Some r) left code bytes =
    let n = length bytes in
    leaves_then (InRange (greatest_length r.kind left)) (OrderDraws left) n (length_at r.length (code - r.first) (greatest_length r.kind left) (code ∷ bytes) bytes) (λ n rest.
    then_read (foreground_at depth r.sets_foreground rest) (λ f more.
    map_read (λ d. record { foreground = f; run = d }) (run_at depth r.kind n more))) (leaves_length r.length (code - r.first) (greatest_length r.kind left) code bytes) (λ k rest in_range le.
    leaves_then (Any {A = Option ℕ}) (OrderDraws left) n (foreground_at depth r.sets_foreground rest) (λ f more.
    map_read (λ d. record { foreground = f; run = d }) (run_at depth r.kind k more)) (leaves_foreground depth r.sets_foreground n rest le) (λ f more t less.
    leaves_map (Draws left) (OrderDraws left) n (run_at depth r.kind k more) (λ d. record { foreground = f; run = d }) (leaves_run depth r.kind left k n more in_range less) (λ d e. e)))

-- an order draws at least one pixel and no more than are left, and fewer bytes are left after it; a refused field begins within its bytes
pub order_leaves : (depth : Depth) (left code : ℕ) (bytes : List ℕ) → Leaves (OrderDraws left) (length bytes) (order_at depth left (code ∷ bytes))
order_leaves depth left code bytes = leaves_row depth (row_of depth code) left code bytes

-- ---- orders one after the other

-- reading on goes by what stands after the first order alone
same_after : (left n : ℕ) (r : Read Order) (f g : ℕ → List ℕ → Result (List Order) (List ℕ)) → Leaves (OrderDraws left) n r → ((l : ℕ) (rest : List ℕ) → length rest ≤ n → f l rest ≡ g l rest) → orders_after left r f ≡ orders_after left r g
same_after left n (Ok v) f g h e = ap (λ os. onto_orders v.0 os) (e (left - run_size v.0.run) v.1 h.1)
same_after left n (Err refused) f g h e = refl

-- as many orders as there are bytes are enough
orders_within_enough : (depth : Depth) (most more left : ℕ) (bytes : List ℕ) → length bytes ≤ most → length bytes ≤ more → orders_within depth most left bytes ≡ orders_within depth more left bytes
orders_within_enough depth most more zero [] h g = refl
orders_within_enough depth most more zero (b ∷ bytes) h g = refl
orders_within_enough depth zero zero (suc left) [] h g = refl
orders_within_enough depth zero (suc more) (suc left) [] h g = refl
orders_within_enough depth (suc most) zero (suc left) [] h g = refl
orders_within_enough depth (suc most) (suc more) (suc left) [] h g = refl
orders_within_enough depth zero more (suc left) (b ∷ bytes) h g = absurd (omega (arith, h))
orders_within_enough depth (suc most) zero (suc left) (b ∷ bytes) h g = absurd (omega (arith, g))
orders_within_enough depth (suc most) (suc more) (suc left) (b ∷ bytes) h g =
    same_after (suc left) (length bytes) (order_at depth (suc left) (b ∷ bytes)) (orders_within depth most) (orders_within depth more) (order_leaves depth (suc left) b bytes) (λ l rest le. orders_within_enough depth most more l rest (omega (arith, h, le)) (omega (arith, g, le)))

-- where pixels are left, the orders are the next one and those after it
pub orders_in_next : (depth : Depth) (left : ℕ) (bytes : List ℕ) → 1 ≤ left → run_orders_in depth left bytes ≡ orders_after left (order_at depth left bytes) (run_orders_in depth)
orders_in_next depth zero bytes h = absurd (omega (arith, h))
orders_in_next depth (suc left) [] h = refl
orders_in_next depth (suc left) (b ∷ bytes) h =
    same_after (suc left) (length bytes) (order_at depth (suc left) (b ∷ bytes)) (orders_within depth (length bytes)) (run_orders_in depth) (order_leaves depth (suc left) b bytes) (λ l rest le. orders_within_enough depth (length bytes) (length rest) l rest le (omega arith))

-- the number of pixels that orders draw
abbrev pub drawn_size : List Order → ℕ
drawn_size [] = 0
drawn_size (o ∷ os) = run_size o.run + drawn_size os

onto_sized : (o : Order) (left : ℕ) (r : Result (List Order) (List ℕ)) → run_size o.run ≤ left → IfOk r (λ os. drawn_size os ≡ left - run_size o.run) → IfOk (onto_orders o r) (λ os. drawn_size os ≡ left)
onto_sized o left (Ok os) h e = omega (arith, h, e)
onto_sized o left (Err refused) h e = tt

after_sized : (left n : ℕ) (r : Read Order) (others : ℕ → List ℕ → Result (List Order) (List ℕ)) → Leaves (OrderDraws left) n r → ((l : ℕ) (rest : List ℕ) → IfOk (others l rest) (λ os. drawn_size os ≡ l)) → IfOk (orders_after left r others) (λ os. drawn_size os ≡ left)
after_sized left n (Ok v) others h e = onto_sized v.0 left (others (left - run_size v.0.run) v.1) h.0.1 (e (left - run_size v.0.run) v.1)
after_sized left n (Err refused) others h e = tt

orders_sized : (depth : Depth) (most left : ℕ) (bytes : List ℕ) → IfOk (orders_within depth most left bytes) (λ os. drawn_size os ≡ left)
orders_sized depth most zero [] = refl
orders_sized depth most zero (b ∷ bytes) = tt
orders_sized depth zero (suc left) bytes = tt
orders_sized depth (suc most) (suc left) [] = tt
orders_sized depth (suc most) (suc left) (b ∷ bytes) = after_sized (suc left) (length bytes) (order_at depth (suc left) (b ∷ bytes)) (orders_within depth most) (order_leaves depth (suc left) b bytes) (λ l rest. orders_sized depth most l rest)

-- the orders of a stream draw just so many pixels
pub orders_draw_all : (depth : Depth) (count : ℕ) (bytes : List ℕ) (os : List Order) → run_orders_in depth count bytes ≡ Ok os → drawn_size os ≡ count
orders_draw_all depth count bytes os e = let P : Result (List Order) (List ℕ) → Type 0 = λ r. IfOk r (λ os. drawn_size os ≡ count) in subst P e (orders_sized depth (length bytes) count bytes)

abbrev pub IsWithin : ℕ → Result (List Order) (List ℕ) → Type 0
IsWithin n r = IfErr r (λ refused. length refused ≤ n)

onto_within : (o : Order) (n m : ℕ) (r : Result (List Order) (List ℕ)) → n ≤ m → IsWithin n r → IsWithin m (onto_orders o r)
onto_within o n m (Ok os) le h = tt
onto_within o n m (Err refused) le h = omega (arith, h, le)

after_within : (left n : ℕ) (r : Read Order) (others : ℕ → List ℕ → Result (List Order) (List ℕ)) → Leaves (OrderDraws left) n r → ((l : ℕ) (rest : List ℕ) → IsWithin (length rest) (others l rest)) → IsWithin (suc n) (orders_after left r others)
after_within left n (Ok v) others h e = onto_within v.0 (length v.1) (suc n) (others (left - run_size v.0.run) v.1) (omega (arith, h.1)) (e (left - run_size v.0.run) v.1)
after_within left n (Err refused) others h e = h

refused_within : (depth : Depth) (most left : ℕ) (bytes : List ℕ) → IsWithin (length bytes) (orders_within depth most left bytes)
refused_within depth most zero [] = tt
refused_within depth most zero (b ∷ bytes) = omega arith
refused_within depth zero (suc left) bytes = omega arith
refused_within depth (suc most) (suc left) [] = omega arith
refused_within depth (suc most) (suc left) (b ∷ bytes) = after_within (suc left) (length bytes) (order_at depth (suc left) (b ∷ bytes)) (orders_within depth most) (order_leaves depth (suc left) b bytes) (λ l rest. refused_within depth most l rest)

-- a refused field stands within the stream, or at its end
pub refused_is_within : (depth : Depth) (count : ℕ) (bytes refused : List ℕ) → run_orders_in depth count bytes ≡ Err refused → length refused ≤ length bytes
refused_is_within depth count bytes refused e = let P : Result (List Order) (List ℕ) → Type 0 = λ r. IsWithin (length bytes) r in subst P e (refused_within depth (length bytes) count bytes)

length-background_strokes : (follows : Bool) (n : ℕ) (g f : Stroke) → length (background_strokes follows n g f) ≡ n
length-background_strokes true zero g f = refl
length-background_strokes true (suc n) g f = ap suc (length-replicate n g)
length-background_strokes false n g f = length-replicate n g

length-dithered_strokes : (n a b : ℕ) → length (dithered_strokes n a b) ≡ 2 * n
length-dithered_strokes zero a b = refl
length-dithered_strokes (suc n) a b = omega (arith, length-dithered_strokes n a b)

pub length-run_strokes : (run : Run) (follows : Bool) (g f : Stroke) → length (run_strokes run follows g f) ≡ run_size run
length-run_strokes (Background n) follows g f = length-background_strokes follows n g f
length-run_strokes (Foreground n) follows g f = length-replicate n f
length-run_strokes (Mask bits) follows g f = length-map bits (λ b. cond b f g)
length-run_strokes (Color n c) follows g f = length-replicate n (Plain c)
length-run_strokes (Image cs) follows g f = length-map cs (λ c. Plain c)
length-run_strokes (Dithered n a b) follows g f = length-dithered_strokes n a b

-- orders have a stroke for each pixel
pub length-strokes_from : (w : ℕ) (d : Drawn) (os : List Order) → length (strokes_from w d os) ≡ drawn_size os
length-strokes_from w d [] = refl
length-strokes_from w d (o ∷ os) =
    let here = length-run_strokes o.run (follows_background d.before (is_first_row w d)) (background_stroke (is_first_row w d)) (foreground_stroke (is_first_row w d) (foreground_of o d)) in
    length-append (order_strokes w d o) (strokes_from w (drawn_after w d o) os) ∙ omega (arith, here, length-strokes_from w (drawn_after w d o) os)

-- ---- the function and the relation

-- rows drawn from black are in the relation
pub pixels_are_drawn : (w h : ℕ) (strokes : List Stroke) → length strokes ≡ w * h → AreDrawn w strokes (pixels_drawn w h strokes)
pixels_are_drawn w h strokes e =
    let black : List ℕ = replicate w 0 in
    let wide : length black ≡ w = length-replicate w 0 in
    let whole : rows_from h w black strokes ≡ black ++ drawn_over strokes (rows_from h w black strokes) = rows_drawn h w black strokes wide (omega (arith, e)) in
    let rest : pixels_drawn w h strokes ≡ drawn_over strokes (rows_from h w black strokes) = ap (λ xs. drop w xs) whole ∙ drop_at black (drawn_over strokes (rows_from h w black strokes)) w wide in
    let again : black ++ pixels_drawn w h strokes ≡ rows_from h w black strokes = ap (λ xs. black ++ xs) rest ∙ sym whole in
    rest ∙ ap (λ xs. drawn_over strokes xs) (sym again)

-- what is drawn over a row that isn't empty and over itself is one list alone
drawn_once : (strokes : List Stroke) (row xs ys : List ℕ) → 1 ≤ length row → xs ≡ drawn_over strokes (row ++ xs) → ys ≡ drawn_over strokes (row ++ ys) → xs ≡ ys
drawn_once [] row xs ys h e f = e ∙ sym f
drawn_once (s ∷ strokes) [] xs ys h e f = absurd (omega (arith, h))
drawn_once (s ∷ strokes) (u ∷ row) [] ys h e f = cc
drawn_once (s ∷ strokes) (u ∷ row) (x ∷ xs) [] h e f = cc
drawn_once (s ∷ strokes) (u ∷ row) (x ∷ xs) (y ∷ ys) h e f =
    let same : x ≡ y = cc in
    let more : 1 ≤ length (row ++ x ∷ []) = omega (arith, length-append row (x ∷ [])) in
    let left : xs ≡ drawn_over strokes (row ++ x ∷ xs) = cc in
    let right : ys ≡ drawn_over strokes (row ++ x ∷ ys) = cc in
    let left' : xs ≡ drawn_over strokes (row ++ x ∷ [] ++ xs) = left ∙ ap (λ zs. drawn_over strokes zs) (sym (append_assoc row (x ∷ []) xs)) in
    let right' : ys ≡ drawn_over strokes (row ++ x ∷ [] ++ ys) = right ∙ ap (λ zs. drawn_over strokes zs) (sym (append_assoc row (x ∷ []) ys)) in
    let rest : xs ≡ ys = drawn_once strokes (row ++ x ∷ []) xs ys more left' right' in
    cc

-- strokes draw one list of pixels alone, where the rows aren't empty
pub drawn_pixels_unique : (w : ℕ) (strokes : List Stroke) (xs ys : List ℕ) → 1 ≤ w → AreDrawn w strokes xs → AreDrawn w strokes ys → xs ≡ ys
drawn_pixels_unique w strokes xs ys h e f = drawn_once strokes (replicate w 0) xs ys (let wide : length (replicate {A = ℕ} w 0) ≡ w = length-replicate w 0 in omega (arith, h, wide)) e f

-- the pixels that the function gives are those of the stream
pub unrle_decompresses : (depth : Depth) (bytes : List ℕ) (w h : ℕ) (pixels : List ℕ) → unrle depth bytes w h ≡ Ok pixels → Decompresses depth bytes w h pixels
unrle_decompresses depth bytes w h pixels e = by_orders (run_orders_in depth (w * h) bytes) refl e where
  by_orders : (r : Result (List Order) (List ℕ)) → run_orders_in depth (w * h) bytes ≡ r → pixels_of_orders depth bytes w h r ≡ Ok pixels → Decompresses depth bytes w h pixels
  by_orders (Ok os) cut e =
      let same : pixels_drawn w h (strokes_of depth w os) ≡ pixels = cc in
      let all : length (strokes_of depth w os) ≡ w * h = length-strokes_from w (nothing_drawn depth) os ∙ orders_draw_all depth (w * h) bytes os cut in
      let P : List ℕ → Type 0 = λ xs. AreDrawn w (strokes_of depth w os) xs in
      record { orders = os; cut = cut; drawn = subst P same (pixels_are_drawn w h (strokes_of depth w os) all) }
  by_orders (Err refused) cut e = cc

-- the pixels of a stream are those that the function gives
pub decompressed_is_unrle : (depth : Depth) (bytes : List ℕ) (w h : ℕ) (pixels : List ℕ) → 1 ≤ w → Decompresses depth bytes w h pixels → unrle depth bytes w h ≡ Ok pixels
decompressed_is_unrle depth bytes w h pixels some d =
    let all : length (strokes_of depth w d.orders) ≡ w * h = length-strokes_from w (nothing_drawn depth) d.orders ∙ orders_draw_all depth (w * h) bytes d.orders d.cut in
    let same : pixels_drawn w h (strokes_of depth w d.orders) ≡ pixels = drawn_pixels_unique w (strokes_of depth w d.orders) (pixels_drawn w h (strokes_of depth w d.orders)) pixels some (pixels_are_drawn w h (strokes_of depth w d.orders) all) d.drawn in
    ap (pixels_of_orders depth bytes w h) d.cut ∙ ap Ok same

-- a stream has w * h pixels
pub length-decompressed : (depth : Depth) (bytes : List ℕ) (w h : ℕ) (pixels : List ℕ) → 1 ≤ w → Decompresses depth bytes w h pixels → length pixels ≡ w * h
length-decompressed depth bytes w h pixels some d =
    let all : length (strokes_of depth w d.orders) ≡ w * h = length-strokes_from w (nothing_drawn depth) d.orders ∙ orders_draw_all depth (w * h) bytes d.orders d.cut in
    let wide : length (replicate {A = ℕ} w 0) ≡ w = length-replicate w 0 in
    let e : length pixels ≡ min (length (strokes_of depth w d.orders)) (length (replicate w 0 ++ pixels)) = ap length d.drawn ∙ length-drawn_over_least (strokes_of depth w d.orders) (replicate w 0 ++ pixels) in
    omega (arith, e, all, wide, length-append (replicate w 0) pixels)

-- the function refuses exactly at the place of the first bad field
pub unrle_refuses : (depth : Depth) (bytes : List ℕ) (w h place : ℕ) → first_bad_run depth bytes w h ≡ Some place → unrle depth bytes w h ≡ Err place
unrle_refuses depth bytes w h place e = by_orders (run_orders_in depth (w * h) bytes) e where
  by_orders : (r : Result (List Order) (List ℕ)) → refused_place bytes r ≡ Some place → pixels_of_orders depth bytes w h r ≡ Err place
  by_orders (Ok os) e = cc
  by_orders (Err refused) e = cc

-- ---- the relation, pixel by pixel

drawn_over_at : (strokes : List Stroke) (us : List ℕ) (k : ℕ) → length strokes ≤ length us → k < length strokes → get_or (drawn_over strokes us) k 0 ≡ drawn_pixel (get_or strokes k Above) (get_or us k 0)
drawn_over_at [] us k le lt = absurd (omega (arith, lt))
drawn_over_at (s ∷ strokes) [] k le lt = absurd (omega (arith, le))
drawn_over_at (s ∷ strokes) (u ∷ us) zero le lt = refl
drawn_over_at (s ∷ strokes) (u ∷ us) (suc k) le lt = drawn_over_at strokes us k (omega (arith, le)) (omega (arith, lt))

-- a pixel of the first row is drawn over black
pub first_row_is_drawn : (w : ℕ) (strokes : List Stroke) (pixels : List ℕ) (k : ℕ) → length pixels ≡ length strokes → AreDrawn w strokes pixels → k < length strokes → k < w → get_or pixels k 0 ≡ drawn_pixel (get_or strokes k Above) 0
first_row_is_drawn w strokes pixels k same drawn lt first =
    let wide : length (replicate {A = ℕ} w 0) ≡ w = length-replicate w 0 in
    let above : get_or (replicate w 0 ++ pixels) k 0 ≡ 0 = get_or_append_left (replicate w 0) pixels 0 k (omega (arith, wide, first)) ∙ get_or-replicate w k 0 0 first in
    ap (λ xs. get_or xs k 0) drawn
    ∙ drawn_over_at strokes (replicate w 0 ++ pixels) k (omega (arith, same, wide, length-append (replicate w 0) pixels)) lt
    ∙ ap (drawn_pixel (get_or strokes k Above)) above

-- a later pixel is drawn over the one w places earlier
pub later_pixel_is_drawn : (w : ℕ) (strokes : List Stroke) (pixels : List ℕ) (k : ℕ) → length pixels ≡ length strokes → AreDrawn w strokes pixels → k < length strokes → w ≤ k → get_or pixels k 0 ≡ drawn_pixel (get_or strokes k Above) (get_or pixels (k - w) 0)
later_pixel_is_drawn w strokes pixels k same drawn lt later =
    let wide : length (replicate {A = ℕ} w 0) ≡ w = length-replicate w 0 in
    ap (λ xs. get_or xs k 0) drawn
    ∙ drawn_over_at strokes (replicate w 0 ++ pixels) k (omega (arith, same, wide, length-append (replicate w 0) pixels)) lt
    ∙ ap (drawn_pixel (get_or strokes k Above)) (get_or-append_right (replicate w 0) pixels w k 0 wide later)
