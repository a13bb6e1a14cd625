-- The pixels of a run-length stream of bytes are colours.
use Rattle.std.proofs.Common.{◌≡◌, ℕ, zero, suc, ◌+◌, ◌-◌, ◌*◌, ◌/◌, ◌<◌, Bool, true, false, List, [], ◌∷◌, ◌++◌, length, get_or, take, drop, replicate, refl, ap, subst, arith, Some, None, Ok, Err}
use Rattle.std.specs.Prelude.{Option, Result, ⊤, map, unwrap_or, ◌&&◌, nat_le, if◌then◌else◌}
use Rattle.std.proofs.lemmas.Bool.{and_from, and_parts}
use Rattle.std.proofs.lemmas.Nat.{xor_lt}
use Rattle.px_core.specs.Colors.{is_color, are_colors}
use Rattle.px_core.proofs.Colors.{color_is, color_below, are_colors-append, are_colors-drop, replicated_are_colors}
use Rattle.wire_num.specs.Field.{Read, then_read, map_read, given, taken, bytes_at}
use Rattle.wire_num.specs.Number.{little_value, little_at}
use Rattle.px_core.specs.declared.depth.Depth.{Depth}
use Rattle.px_core.specs.declared.depth.Depth.TheVariants.{Bits24, Bits16}
use Rattle.px_core.specs.Depth.{bytes_in, white}
use Rattle.px_core.specs.Pixels.{pixels_of, pixels_of_3, pixels_of_2}
use Rattle.run_lengths.specs.Codes.{row_of, row_among, code_table}
use Rattle.run_lengths.specs.declared.codes.RunKind.{RunKind}
use Rattle.run_lengths.specs.declared.codes.RunKind.TheVariants.{BackgroundRun, ForegroundRun, MaskImage, ColorRun, ColorImage, DitheredRun, FixedMask, FixedColor}
use Rattle.run_lengths.specs.declared.codes.Length.{Length}
use Rattle.run_lengths.specs.declared.codes.Length.TheVariants.{InCode, TwoBytes, Fixed}
use Rattle.run_lengths.specs.declared.codes.Row.{Row}
use Rattle.run_lengths.specs.declared.strokes.Stroke.{Stroke}
use Rattle.run_lengths.specs.declared.strokes.Stroke.TheVariants.{Plain, Above, Crossed}
use Rattle.run_lengths.specs.RunLength.{Run, Order, run_size, mask_bits, greatest_length, length_if, length_at, foreground_at, run_at, wire_pixel_at, order_in_row, order_at, onto_orders, orders_after, orders_within, run_orders_in, drawn_pixel, background_stroke, foreground_stroke, background_strokes, dithered_strokes, run_strokes, Drawn, drawn_after, follows_background, is_first_row, foreground_of, order_strokes, strokes_from, strokes_of, nothing_drawn, drawn_over, rows_from, pixels_drawn, pixels_of_orders, unrle}
use Rattle.run_lengths.specs.RunLength.Run.{Background, Foreground, Mask, Color, Image, Dithered}

-- ---- bytes, and what is read of them

abbrev Bytes : List ℕ → Type 0
Bytes [] = ⊤
Bytes (b ∷ bs) = (b < 256) × Bytes bs

abbrev IsColor : ℕ → Type 0
IsColor color = is_color color ≡ true

abbrev AreColors : List ℕ → Type 0
AreColors colors = are_colors colors ≡ true

bytes_from : (bs : List ℕ) → ((k : ℕ) → k < length bs → get_or bs k 0 < 256) → Bytes bs
bytes_from [] h = tt
bytes_from (b ∷ bs) h = (h 0 (omega arith), bytes_from bs (λ k below. h (suc k) (omega (arith, below))))

-- a fact of what is read; bytes are left
abbrev Reads : {A : Type 0} → (A → Type 0) → Read A → Type 0
Reads P (Ok v) = P v.0 × Bytes v.1
Reads P (Err left) = ⊤

abbrev Any : {A : Type 0} → A → Type 0
Any v = ⊤

then_reads : {A B : Type 0} (P : A → Type 0) (Q : B → Type 0) (r : Read A) (f : A → List ℕ → Read B) → Reads P r → ((v : A) (rest : List ℕ) → P v → Bytes rest → Reads Q (f v rest)) → Reads Q (then_read r f)
then_reads P Q (Ok v) f h g = g v.0 v.1 h.0 h.1
then_reads P Q (Err left) f h g = tt

map_reads : {A B : Type 0} (P : A → Type 0) (Q : B → Type 0) (f : A → B) (r : Read A) → Reads P r → ((v : A) → P v → Q (f v)) → Reads Q (map_read f r)
map_reads P Q f (Ok v) h g = (g v.0 h.0, h.1)
map_reads P Q f (Err left) h g = tt

given_reads : (test : Bool) (n : ℕ) (rest whole : List ℕ) → Bytes rest → Reads Any (given test n rest whole)
given_reads true n rest whole h = (tt, h)
given_reads false n rest whole h = tt

abbrev AreSoMany : ℕ → List ℕ → Type 0
AreSoMany n bs = Bytes bs × (length bs ≡ n)

taken_reads : (whole : List ℕ) (n : ℕ) (bs : List ℕ) → Bytes bs → Reads (AreSoMany n) (taken whole n bs)
taken_reads whole zero bs h = ((tt, refl), h)
taken_reads whole (suc n) [] h = tt
taken_reads whole (suc n) (b ∷ bs) h = map_reads (AreSoMany n) (AreSoMany (suc n)) (λ xs. b ∷ xs) (taken whole n bs) (taken_reads whole n bs h.1) (λ xs k. ((h.0, k.0), ap suc k.1))

three_bytes : (xs : List ℕ) → AreSoMany 3 xs → IsColor (little_value xs)
three_bytes [] h = absurd (omega (arith, h.1))
three_bytes (b ∷ []) h = absurd (omega (arith, h.1))
three_bytes (b ∷ g ∷ []) h = absurd (omega (arith, h.1))
three_bytes (b ∷ g ∷ r ∷ []) h = color_is (little_value (b ∷ g ∷ r ∷ [])) (omega (arith, h.0.0, h.0.1.0, h.0.1.1.0))
three_bytes (b ∷ g ∷ r ∷ x ∷ xs) h = absurd (omega (arith, h.1))

number_reads : (n : ℕ) (bs : List ℕ) → Bytes bs → Reads Any (little_at n bs)
number_reads n bs h = map_reads (AreSoMany n) Any little_value (bytes_at n bs) (taken_reads bs n bs h) (λ xs k. tt)

two_bytes : (xs : List ℕ) → AreSoMany 2 xs → IsColor (little_value xs)
two_bytes [] h = absurd (omega (arith, h.1))
two_bytes (l ∷ []) h = absurd (omega (arith, h.1))
two_bytes (l ∷ u ∷ []) h = color_is (little_value (l ∷ u ∷ [])) (omega (arith, h.0.0, h.0.1.0))
two_bytes (l ∷ u ∷ x ∷ xs) h = absurd (omega (arith, h.1))

pixel_bytes_color : (depth : Depth) (xs : List ℕ) → AreSoMany (bytes_in depth) xs → IsColor (little_value xs)
pixel_bytes_color Bits24 xs h = three_bytes xs h
pixel_bytes_color Bits16 xs h = two_bytes xs h

pixel_reads : (depth : Depth) (bs : List ℕ) → Bytes bs → Reads IsColor (wire_pixel_at depth bs)
pixel_reads depth bs h = map_reads (AreSoMany (bytes_in depth)) IsColor little_value (bytes_at (bytes_in depth) bs) (taken_reads bs (bytes_in depth) bs h) (pixel_bytes_color depth)

pixels_colors_3 : (bs : List ℕ) → Bytes bs → AreColors (pixels_of_3 bs)
pixels_colors_3 [] h = refl
pixels_colors_3 (b ∷ []) h = refl
pixels_colors_3 (b ∷ g ∷ []) h = refl
pixels_colors_3 (b ∷ g ∷ r ∷ bs) h = and_from _ _ (three_bytes (b ∷ g ∷ r ∷ []) ((h.0, (h.1.0, (h.1.1.0, tt))), refl)) (pixels_colors_3 bs h.1.1.1)

pixels_colors_2 : (bs : List ℕ) → Bytes bs → AreColors (pixels_of_2 bs)
pixels_colors_2 [] h = refl
pixels_colors_2 (l ∷ []) h = refl
pixels_colors_2 (l ∷ u ∷ bs) h = and_from _ _ (two_bytes (l ∷ u ∷ []) ((h.0, (h.1.0, tt)), refl)) (pixels_colors_2 bs h.1.1)

pixels_colors : (depth : Depth) (bs : List ℕ) → Bytes bs → AreColors (pixels_of depth bs)
pixels_colors Bits24 bs h = pixels_colors_3 bs h
pixels_colors Bits16 bs h = pixels_colors_2 bs h

white_color : (depth : Depth) → IsColor (white depth)
white_color Bits24 = refl
white_color Bits16 = refl

-- ---- orders

abbrev IfColor : Option ℕ → Type 0
IfColor None = ⊤
IfColor (Some color) = IsColor color

abbrev RunColors : Run → Type 0
RunColors (Background n) = ⊤
RunColors (Foreground n) = ⊤
RunColors (Mask bits) = ⊤
RunColors (Color n c) = IsColor c
RunColors (Image cs) = AreColors cs
RunColors (Dithered n a b) = IsColor a × IsColor b

abbrev KindColor : RunKind → Type 0
KindColor BackgroundRun = ⊤
KindColor ForegroundRun = ⊤
KindColor MaskImage = ⊤
KindColor ColorRun = ⊤
KindColor ColorImage = ⊤
KindColor DitheredRun = ⊤
KindColor (FixedMask m) = ⊤
KindColor (FixedColor c) = IsColor c

abbrev OrderColors : Order → Type 0
OrderColors o = IfColor o.foreground × RunColors o.run

length_reads : (l : Length) (low greatest : ℕ) (stream rest : List ℕ) → Bytes rest → Reads Any (length_at l low greatest stream rest)
length_reads (InCode scale more) zero greatest stream rest h = then_reads Any Any (little_at 1 rest) (λ n after. length_if greatest (n + more) after rest) (number_reads 1 rest h) (λ n after any k. given_reads _ (n + more) after rest k)
length_reads (InCode scale more) (suc low) greatest stream rest h = given_reads _ (scale * suc low) rest stream h
length_reads TwoBytes low greatest stream rest h = then_reads Any Any (little_at 2 rest) (λ n after. length_if greatest n after rest) (number_reads 2 rest h) (λ n after any k. given_reads _ n after rest k)
length_reads (Fixed n) low greatest stream rest h = given_reads _ n rest stream h

foreground_reads : (depth : Depth) (sets : Bool) (bs : List ℕ) → Bytes bs → Reads IfColor (foreground_at depth sets bs)
foreground_reads depth true bs h = map_reads IsColor IfColor (λ c. Some c) (wire_pixel_at depth bs) (pixel_reads depth bs h) (λ c k. k)
foreground_reads depth false bs h = (tt, h)

run_reads : (depth : Depth) (kind : RunKind) (n : ℕ) (bs : List ℕ) → KindColor kind → Bytes bs → Reads RunColors (run_at depth kind n bs)
run_reads depth BackgroundRun n bs k h = (tt, h)
run_reads depth ForegroundRun n bs k h = (tt, h)
run_reads depth MaskImage n bs k h = map_reads (AreSoMany ((n + 7) / 8)) RunColors (λ ms. Mask (mask_bits n ms)) (bytes_at ((n + 7) / 8) bs) (taken_reads bs ((n + 7) / 8) bs h) (λ ms m. tt)
run_reads depth ColorRun n bs k h = map_reads IsColor RunColors (λ c. Color n c) (wire_pixel_at depth bs) (pixel_reads depth bs h) (λ c m. m)
run_reads depth ColorImage n bs k h = map_reads (AreSoMany (bytes_in depth * n)) RunColors (λ xs. Image (pixels_of depth xs)) (bytes_at (bytes_in depth * n) bs) (taken_reads bs (bytes_in depth * n) bs h) (λ xs m. pixels_colors depth xs m.0)
run_reads depth DitheredRun n bs k h = then_reads IsColor RunColors (wire_pixel_at depth bs) (λ a rest. map_read (λ b. Dithered n a b) (wire_pixel_at depth rest)) (pixel_reads depth bs h)
    (λ a rest m l. map_reads IsColor RunColors (λ b. Dithered n a b) (wire_pixel_at depth rest) (pixel_reads depth rest l) (λ b j. (m, j)))
run_reads depth (FixedMask m) n bs k h = (tt, h)
run_reads depth (FixedColor c) n bs k h = (k, h)

abbrev RowColor : Option Row → Type 0
RowColor None = ⊤
RowColor (Some r) = KindColor r.kind

abbrev RowsColors : List Row → Type 0
RowsColors [] = ⊤
RowsColors (r ∷ rows) = KindColor r.kind × RowsColors rows

chosen_color : (test : Bool) (r : Row) (later : Option Row) → KindColor r.kind → RowColor later → RowColor (if test then Some r else later)
chosen_color true r later h k = h
chosen_color false r later h k = k

found_color : (rows : List Row) (code : ℕ) → RowsColors rows → RowColor (row_among rows code)
found_color [] code h = tt
found_color (r ∷ rows) code h = chosen_color (nat_le r.first code && nat_le code r.last) r (row_among rows code) h.0 (found_color rows code h.1)

table_colors : (depth : Depth) → RowsColors (code_table depth)
table_colors depth = (tt, (tt, (tt, (tt, (tt, (tt, (tt, (tt, (tt, (tt, (tt, (tt, (tt, (tt, (tt, (tt, (tt, (tt, (white_color depth, (refl, tt))))))))))))))))))))

row_reads : (depth : Depth) (row : Option Row) (left code : ℕ) (bs : List ℕ) → RowColor row → Bytes bs → Reads OrderColors (order_in_row depth row left code bs)
row_reads depth None left code bs k h = tt
row_reads depth (Some r) left code bs k h =
    then_reads Any OrderColors (length_at r.length (code - r.first) (greatest_length r.kind left) (code ∷ bs) bs)
    (λ n rest. then_read (foreground_at depth r.sets_foreground rest) (λ f more. map_read (λ d. record { foreground = f; run = d }) (run_at depth r.kind n more)))
    (length_reads r.length (code - r.first) (greatest_length r.kind left) (code ∷ bs) bs h)
    (λ n rest any l. then_reads IfColor OrderColors (foreground_at depth r.sets_foreground rest) (λ f more. map_read (λ d. record { foreground = f; run = d }) (run_at depth r.kind n more)) (foreground_reads depth r.sets_foreground rest l)
    (λ f more c m. map_reads RunColors OrderColors (λ d. record { foreground = f; run = d }) (run_at depth r.kind n more) (run_reads depth r.kind n more k m) (λ d e. (c, e))))

order_reads : (depth : Depth) (left : ℕ) (bs : List ℕ) → Bytes bs → Reads OrderColors (order_at depth left bs)
order_reads depth left [] h = tt
order_reads depth left (code ∷ bs) h = row_reads depth (row_of depth code) left code bs (found_color (code_table depth) code (table_colors depth)) h.1

abbrev OrdersColors : List Order → Type 0
OrdersColors [] = ⊤
OrdersColors (o ∷ os) = OrderColors o × OrdersColors os

abbrev CutColors : Result (List Order) (List ℕ) → Type 0
CutColors (Ok os) = OrdersColors os
CutColors (Err refused) = ⊤

onto_colors : (o : Order) (r : Result (List Order) (List ℕ)) → OrderColors o → CutColors r → CutColors (onto_orders o r)
onto_colors o (Ok os) h k = (h, k)
onto_colors o (Err refused) h k = tt

after_colors : (left : ℕ) (r : Read Order) (others : ℕ → List ℕ → Result (List Order) (List ℕ)) → Reads OrderColors r → ((l : ℕ) (rest : List ℕ) → Bytes rest → CutColors (others l rest)) → CutColors (orders_after left r others)
after_colors left (Ok v) others h k = onto_colors v.0 (others (left - run_size v.0.run) v.1) h.0 (k (left - run_size v.0.run) v.1 h.1)
after_colors left (Err refused) others h k = tt

cut_colors : (depth : Depth) (most left : ℕ) (bs : List ℕ) → Bytes bs → CutColors (orders_within depth most left bs)
cut_colors depth most zero [] h = tt
cut_colors depth most zero (b ∷ bs) h = tt
cut_colors depth zero (suc left) bs h = tt
cut_colors depth (suc most) (suc left) [] h = tt
cut_colors depth (suc most) (suc left) (b ∷ bs) h = after_colors (suc left) (order_at depth (suc left) (b ∷ bs)) (orders_within depth most) (order_reads depth (suc left) (b ∷ bs) h) (λ l rest k. cut_colors depth most l rest k)

-- ---- strokes

abbrev StrokeColor : Stroke → Type 0
StrokeColor (Plain c) = IsColor c
StrokeColor Above = ⊤
StrokeColor (Crossed foreground) = IsColor foreground

abbrev StrokesColors : List Stroke → Type 0
StrokesColors [] = ⊤
StrokesColors (s ∷ ss) = StrokeColor s × StrokesColors ss

replicated_strokes : (n : ℕ) (s : Stroke) → StrokeColor s → StrokesColors (replicate n s)
replicated_strokes zero s h = tt
replicated_strokes (suc n) s h = (h, replicated_strokes n s h)

appended_strokes : (ss ts : List Stroke) → StrokesColors ss → StrokesColors ts → StrokesColors (ss ++ ts)
appended_strokes [] ts h k = k
appended_strokes (s ∷ ss) ts h k = (h.0, appended_strokes ss ts h.1 k)

taken_strokes : (n : ℕ) (ss : List Stroke) → StrokesColors ss → StrokesColors (take n ss)
taken_strokes zero ss h = tt
taken_strokes (suc n) [] h = tt
taken_strokes (suc n) (s ∷ ss) h = (h.0, taken_strokes n ss h.1)

dropped_strokes : (n : ℕ) (ss : List Stroke) → StrokesColors ss → StrokesColors (drop n ss)
dropped_strokes zero ss h = h
dropped_strokes (suc n) [] h = tt
dropped_strokes (suc n) (s ∷ ss) h = dropped_strokes n ss h.1

chosen_stroke : (bit : Bool) (g f : Stroke) → StrokeColor g → StrokeColor f → StrokeColor (if bit then f else g)
chosen_stroke true g f h k = k
chosen_stroke false g f h k = h

mask_strokes : (bits : List Bool) (g f : Stroke) → StrokeColor g → StrokeColor f → StrokesColors (map (λ b. if b then f else g) bits)
mask_strokes [] g f h k = tt
mask_strokes (b ∷ bits) g f h k = (chosen_stroke b g f h k, mask_strokes bits g f h k)

image_strokes : (cs : List ℕ) → AreColors cs → StrokesColors (map (λ c. Plain c) cs)
image_strokes [] h = tt
image_strokes (c ∷ cs) h = let p = and_parts (is_color c) (are_colors cs) h in (p.0, image_strokes cs p.1)

dithered_colors : (n a b : ℕ) → IsColor a → IsColor b → StrokesColors (dithered_strokes n a b)
dithered_colors zero a b h k = tt
dithered_colors (suc n) a b h k = (h, (k, dithered_colors n a b h k))

background_colors : (follows : Bool) (n : ℕ) (g f : Stroke) → StrokeColor g → StrokeColor f → StrokesColors (background_strokes follows n g f)
background_colors true zero g f h k = tt
background_colors true (suc n) g f h k = (k, replicated_strokes n g h)
background_colors false n g f h k = replicated_strokes n g h

run_colors : (run : Run) (follows : Bool) (g f : Stroke) → RunColors run → StrokeColor g → StrokeColor f → StrokesColors (run_strokes run follows g f)
run_colors (Background n) follows g f r h k = background_colors follows n g f h k
run_colors (Foreground n) follows g f r h k = replicated_strokes n f k
run_colors (Mask bits) follows g f r h k = mask_strokes bits g f h k
run_colors (Color n c) follows g f r h k = replicated_strokes n (Plain c) r
run_colors (Image cs) follows g f r h k = image_strokes cs r
run_colors (Dithered n a b) follows g f r h k = dithered_colors n a b r.0 r.1

background_color : (first : Bool) → StrokeColor (background_stroke first)
background_color true = refl
background_color false = tt

foreground_color : (first : Bool) (foreground : ℕ) → IsColor foreground → StrokeColor (foreground_stroke first foreground)
foreground_color true foreground h = h
foreground_color false foreground h = h

set_color : (new : Option ℕ) (old : ℕ) → IfColor new → IsColor old → IsColor (unwrap_or new old)
set_color None old h k = k
set_color (Some new) old h k = h

strokes_colors : (w : ℕ) (d : Drawn) (os : List Order) → IsColor d.foreground → OrdersColors os → StrokesColors (strokes_from w d os)
strokes_colors w d [] h k = tt
strokes_colors w d (o ∷ os) h k =
    let next : IsColor (foreground_of o d) = set_color o.foreground d.foreground k.0.0 h in
    appended_strokes (order_strokes w d o) (strokes_from w (drawn_after w d o) os)
    (run_colors o.run (follows_background d.before (is_first_row w d)) (background_stroke (is_first_row w d)) (foreground_stroke (is_first_row w d) (foreground_of o d)) k.0.1 (background_color (is_first_row w d)) (foreground_color (is_first_row w d) (foreground_of o d) next))
    (strokes_colors w (drawn_after w d o) os next k.1)

-- ---- pixels

drawn_color : (s : Stroke) (above : ℕ) → StrokeColor s → IsColor above → IsColor (drawn_pixel s above)
drawn_color (Plain c) above h k = h
drawn_color Above above h k = k
drawn_color (Crossed foreground) above h k = color_is _ (xor_lt 24 foreground above (color_below foreground h) (color_below above k))

over_colors : (ss : List Stroke) (aboves : List ℕ) → StrokesColors ss → AreColors aboves → AreColors (drawn_over ss aboves)
over_colors [] aboves h k = refl
over_colors (s ∷ ss) [] h k = refl
over_colors (s ∷ ss) (a ∷ aboves) h k = let p = and_parts (is_color a) (are_colors aboves) k in and_from _ _ (drawn_color s a h.0 p.0) (over_colors ss aboves h.1 p.1)

rows_colors : (h w : ℕ) (row : List ℕ) (ss : List Stroke) → AreColors row → StrokesColors ss → AreColors (rows_from h w row ss)
rows_colors zero w row ss r s = r
rows_colors (suc h) w row ss r s =
    are_colors-append row (rows_from h w (drawn_over (take w ss) row) (drop w ss)) r
    (rows_colors h w (drawn_over (take w ss) row) (drop w ss) (over_colors (take w ss) row (taken_strokes w ss s) r) (dropped_strokes w ss s))

made_colors : (depth : Depth) (bytes : List ℕ) (w h : ℕ) (r : Result (List Order) (List ℕ)) (pixels : List ℕ) → CutColors r → pixels_of_orders depth bytes w h r ≡ Ok pixels → AreColors pixels
made_colors depth bytes w h (Ok os) pixels k e =
    let same : pixels_drawn w h (strokes_of depth w os) ≡ pixels = cc in
    subst AreColors same (are_colors-drop w (rows_from h w (replicate w 0) (strokes_of depth w os)) (rows_colors h w (replicate w 0) (strokes_of depth w os) (replicated_are_colors w 0 refl) (strokes_colors w (nothing_drawn depth) os (white_color depth) k)))
made_colors depth bytes w h (Err refused) pixels k e = absurd (let no : ⊥ = cc in no)

-- the pixels of a stream of bytes are colours
pub unpacked_are_colors : (depth : Depth) (bytes : List ℕ) (w h : ℕ) (pixels : List ℕ) → ((k : ℕ) → k < length bytes → get_or bytes k 0 < 256) → unrle depth bytes w h ≡ Ok pixels → are_colors pixels ≡ true
unpacked_are_colors depth bytes w h pixels are e = made_colors depth bytes w h (run_orders_in depth (w * h) bytes) pixels (cut_colors depth (length bytes) (w * h) bytes (bytes_from bytes are)) e
