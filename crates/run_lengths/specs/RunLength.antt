-- Run-length bitmaps ([MS-RDPBCGR] 2.2.9.1.1.3.1.2.4 and 3.1.9): the orders that a byte stream of a depth's pixels is cut into, and the
-- pixels that they draw, the bottom row first.
use Rattle.std.specs.Prelude.{◌≡◌, ℕ, zero, suc, ◌+◌, ◌-◌, ◌*◌, ◌/◌, ◌%◌, ◌==◌, nat_lt, nat_le, Bool, true, false, ◌&&◌, bit_xor, if◌then◌else◌}
use Rattle.std.specs.Prelude.{List, [], ◌∷◌, ◌++◌, length, map, flat_map, take, drop, replicate, Option, Some, None, unwrap_or, Result, Ok, Err}
use Rattle.wire_num.specs.Field.{Read, then_read, map_read, given, bytes_at, place_in}
use Rattle.wire_num.specs.Number.{little_at}
use Rattle.px_core.specs.declared.depth.Depth.{Depth}
use Rattle.px_core.specs.Depth.{bytes_in, white}
use Rattle.px_core.specs.Pixels.{pixels_of}
use Rattle.run_lengths.specs.Codes.{row_of}
use Rattle.run_lengths.specs.declared.codes.RunKind.{RunKind}
use Rattle.run_lengths.specs.declared.codes.Length.{Length}
use Rattle.run_lengths.specs.declared.codes.Row.{Row}
use Rattle.run_lengths.specs.declared.strokes.Stroke.{Stroke}
use Rattle.run_lengths.specs.declared.strokes.Stroke.TheVariants.{Plain, Above, Crossed}
use Rattle.run_lengths.specs.declared.codes.Before.{Before}
use Rattle.run_lengths.specs.declared.codes.Before.TheVariants.{Other, FirstRowBackground, LaterBackground}
use Rattle.run_lengths.specs.declared.codes.RunKind.TheVariants.{BackgroundRun, ForegroundRun, MaskImage, ColorRun}
use Rattle.run_lengths.specs.declared.codes.RunKind.TheVariants.{ColorImage, DitheredRun, FixedMask, FixedColor}
use Rattle.run_lengths.specs.declared.codes.Length.TheVariants.{InCode, TwoBytes, Fixed}

-- ---- orders

-- what an order draws: so many pixels, a pixel for each bit, so many of one colour, the colours themselves, two colours in turn so many
-- times; one definition has a clause for all others than an image: onto_runs of Packer (only images join)
pub data Run : Type 0 where
  Background : ℕ → Run
  Foreground : ℕ → Run
  Mask : List Bool → Run
  Color : (n color : ℕ) → Run
  Image : List ℕ → Run
  Dithered : (n first second : ℕ) → Run

-- an order: the foreground that it sets, if it does, and what it draws
pub record Order : Type 0 where
  pub foreground : Option ℕ
  pub run : Run

-- the number of pixels that a run draws
abbrev pub run_size : Run → ℕ
run_size (Background n) = n
run_size (Foreground n) = n
run_size (Mask bits) = length bits
run_size (Color n c) = n
run_size (Image cs) = length cs
run_size (Dithered n a b) = 2 * n

-- the low n bits of a number, the lowest first
abbrev pub bits_of : ℕ → ℕ → List Bool
bits_of zero x = []
bits_of (suc n) x = (x % 2 == 1) ∷ bits_of n (x / 2)

-- the first n bits of bytes, each from its lowest
abbrev pub mask_bits : ℕ → List ℕ → List Bool
mask_bits n bytes = take n (flat_map (bits_of 8) bytes)

-- the greatest length where so many pixels are left
abbrev pub greatest_length : RunKind → ℕ → ℕ
greatest_length DitheredRun left = left / 2
greatest_length BackgroundRun left = left
greatest_length ForegroundRun left = left
greatest_length MaskImage left = left
greatest_length ColorRun left = left
greatest_length ColorImage left = left
greatest_length (FixedMask m) left = left
greatest_length (FixedColor c) left = left

-- a length from 1 to the greatest, refused at its own field
abbrev pub length_if : ℕ → ℕ → List ℕ → List ℕ → Read ℕ
length_if greatest n rest field = given (nat_lt 0 n && nat_le n greatest) n rest field

-- the length of an order by the low bits of its code; `stream` begins with the code, `rest` after it
abbrev pub length_at : Length → ℕ → ℕ → List ℕ → List ℕ → Read ℕ
length_at (InCode scale more) zero greatest stream rest = then_read (little_at 1 rest) (λ n after. length_if greatest (n + more) after rest)
length_at (InCode scale more) (suc low) greatest stream rest = length_if greatest (scale * suc low) rest stream
length_at TwoBytes low greatest stream rest = then_read (little_at 2 rest) (λ n after. length_if greatest n after rest)
length_at (Fixed n) low greatest stream rest = length_if greatest n rest stream

-- a pixel in its bytes
abbrev pub wire_pixel_at : Depth → List ℕ → Read ℕ
wire_pixel_at depth bytes = little_at (bytes_in depth) bytes

-- the foreground that an order sets
abbrev pub foreground_at : Depth → Bool → List ℕ → Read (Option ℕ)
foreground_at depth true bytes = map_read (λ c. Some c) (wire_pixel_at depth bytes)
foreground_at depth false bytes = Ok (None, bytes)

-- what an order of this kind and length draws; the bytes of a mask are one field, and so are the pixels of an image
abbrev pub run_at : Depth → RunKind → ℕ → List ℕ → Read Run
run_at depth BackgroundRun n bytes = Ok (Background n, bytes)
run_at depth ForegroundRun n bytes = Ok (Foreground n, bytes)
run_at depth MaskImage n bytes = map_read (λ ms. Mask (mask_bits n ms)) (bytes_at ((n + 7) / 8) bytes)
run_at depth ColorRun n bytes = map_read (λ c. Color n c) (wire_pixel_at depth bytes)
run_at depth ColorImage n bytes = map_read (λ bs. Image (pixels_of depth bs)) (bytes_at (bytes_in depth * n) bytes)
run_at depth DitheredRun n bytes = then_read (wire_pixel_at depth bytes) (λ a rest. map_read (λ b. Dithered n a b) (wire_pixel_at depth rest))
run_at depth (FixedMask m) n bytes = Ok (Mask (bits_of n m), bytes)
run_at depth (FixedColor c) n bytes = Ok (Color n c, bytes)

-- an order of a row of the table
abbrev pub order_in_row : Depth → Option Row → ℕ → ℕ → List ℕ → Read Order
order_in_row depth None left code bytes = Err (code ∷ bytes)
order_in_row depth (Some r) left code bytes =
    then_read (length_at r.length (code - r.first) (greatest_length r.kind left) (code ∷ bytes) bytes) (λ n rest.
    then_read (foreground_at depth r.sets_foreground rest) (λ f more.
    map_read (λ d. record { foreground = f; run = d }) (run_at depth r.kind n more)))

-- the next order, where so many pixels are left
abbrev pub order_at : Depth → ℕ → List ℕ → Read Order
order_at depth left [] = Err []
order_at depth left (code ∷ bytes) = order_in_row depth (row_of depth code) left code bytes

-- an order before the others
abbrev pub onto_orders : Order → Result (List Order) (List ℕ) → Result (List Order) (List ℕ)
onto_orders o (Ok os) = Ok (o ∷ os)
onto_orders o (Err refused) = Err refused

-- an order, and those that stand in the bytes after it
abbrev pub orders_after : ℕ → Read Order → (ℕ → List ℕ → Result (List Order) (List ℕ)) → Result (List Order) (List ℕ)
orders_after left (Ok v) others = onto_orders v.0 (others (left - run_size v.0.run) v.1)
orders_after left (Err refused) others = Err refused

-- at most so many orders, which draw just the pixels that are left
abbrev pub orders_within : Depth → ℕ → ℕ → List ℕ → Result (List Order) (List ℕ)
orders_within depth most zero [] = Ok []
orders_within depth most zero (b ∷ bytes) = Err (b ∷ bytes)
orders_within depth zero (suc left) bytes = Err bytes
orders_within depth (suc most) (suc left) bytes = orders_after (suc left) (order_at depth (suc left) bytes) (orders_within depth most)

-- the orders of a stream that draws so many pixels, or the bytes from the refused field on; each order has a byte at least
abbrev pub run_orders_in : Depth → ℕ → List ℕ → Result (List Order) (List ℕ)
run_orders_in depth count bytes = orders_within depth (length bytes) count bytes

-- ---- pixels

-- the pixel that a stroke draws, by the pixel one row earlier
abbrev pub drawn_pixel : Stroke → ℕ → ℕ
drawn_pixel (Plain c) above = c
drawn_pixel Above above = above
drawn_pixel (Crossed foreground) above = bit_xor foreground above

-- a background pixel, and one of the foreground, of an order that begins in the first row or later
abbrev pub background_stroke : Bool → Stroke
background_stroke true = Plain 0
background_stroke false = Above

abbrev pub foreground_stroke : Bool → ℕ → Stroke
foreground_stroke true foreground = Plain foreground
foreground_stroke false foreground = Crossed foreground

-- a background run, of which the first pixel is a foreground pixel where the test holds
abbrev pub background_strokes : Bool → ℕ → Stroke → Stroke → List Stroke
background_strokes true zero g f = []
background_strokes true (suc n) g f = f ∷ replicate n g
background_strokes false n g f = replicate n g

abbrev pub dithered_strokes : ℕ → ℕ → ℕ → List Stroke
dithered_strokes zero a b = []
dithered_strokes (suc n) a b = Plain a ∷ Plain b ∷ dithered_strokes n a b

-- the strokes of a run, by whether it follows a background run so that its first pixel would be a foreground pixel, and by its background
-- and foreground strokes
abbrev pub run_strokes : Run → Bool → Stroke → Stroke → List Stroke
run_strokes (Background n) follows g f = background_strokes follows n g f
run_strokes (Foreground n) follows g f = replicate n f
run_strokes (Mask bits) follows g f = map (λ b. if b then f else g) bits
run_strokes (Color n c) follows g f = replicate n (Plain c)
run_strokes (Image cs) follows g f = map (λ c. Plain c) cs
run_strokes (Dithered n a b) follows g f = dithered_strokes n a b

-- what stands after a background run, by whether it begins in the first row
abbrev pub background_before : Bool → Before
background_before true = FirstRowBackground
background_before false = LaterBackground

abbrev pub before_next : Run → Bool → Before
before_next (Background n) first = background_before first
before_next (Foreground n) first = Other
before_next (Mask bits) first = Other
before_next (Color n c) first = Other
before_next (Image cs) first = Other
before_next (Dithered n a b) first = Other

-- whether a background run there begins with a foreground pixel; it doesn't at or past the end of the first row after one that begins in
-- the first row (profile)
abbrev pub follows_background : Before → Bool → Bool
follows_background Other first = false
follows_background FirstRowBackground first = first
follows_background LaterBackground first = true

-- what the orders before leave: the pixels drawn, the foreground, and what stands before
pub record Drawn : Type 0 where
  pub count : ℕ
  pub foreground : ℕ
  pub before : Before

abbrev pub foreground_of : Order → Drawn → ℕ
foreground_of o d = unwrap_or o.foreground d.foreground

-- whether the next pixel stands in the first row of w
abbrev pub is_first_row : ℕ → Drawn → Bool
is_first_row w d = nat_lt d.count w

abbrev pub drawn_after : ℕ → Drawn → Order → Drawn
drawn_after w d o = record { count = d.count + run_size o.run; foreground = foreground_of o d; before = before_next o.run (is_first_row w d) }

abbrev pub order_strokes : ℕ → Drawn → Order → List Stroke
order_strokes w d o =
    run_strokes o.run (follows_background d.before (is_first_row w d)) (background_stroke (is_first_row w d))
    (foreground_stroke (is_first_row w d) (foreground_of o d))

-- the strokes of orders one after the other, in rows of w
abbrev pub strokes_from : ℕ → Drawn → List Order → List Stroke
strokes_from w d [] = []
strokes_from w d (o ∷ os) = order_strokes w d o ++ strokes_from w (drawn_after w d o) os

abbrev pub nothing_drawn : Depth → Drawn
nothing_drawn depth = record { count = 0; foreground = white depth; before = Other }

abbrev pub strokes_of : Depth → ℕ → List Order → List Stroke
strokes_of depth w os = strokes_from w (nothing_drawn depth) os

-- the pixels that strokes draw, by the pixels one row earlier
abbrev pub drawn_over : List Stroke → List ℕ → List ℕ
drawn_over [] aboves = []
drawn_over (s ∷ strokes) [] = []
drawn_over (s ∷ strokes) (above ∷ aboves) = drawn_pixel s above ∷ drawn_over strokes aboves

-- each pixel is drawn by its stroke from the pixel w places earlier, with black before the first row
abbrev pub AreDrawn : ℕ → List Stroke → List ℕ → Type 0
AreDrawn w strokes pixels = pixels ≡ drawn_over strokes (replicate w 0 ++ pixels)

-- the pixels of w by h are those of a stream
pub record Decompresses (depth : Depth) (bytes : List ℕ) (w h : ℕ) (pixels : List ℕ) : Type 0 where
  pub orders : List Order
  pub cut : run_orders_in depth (w * h) bytes ≡ Ok orders
  pub drawn : AreDrawn w (strokes_of depth w orders) pixels

-- a row, and then so many rows, each drawn from the one before
abbrev pub rows_from : ℕ → ℕ → List ℕ → List Stroke → List ℕ
rows_from zero w row strokes = row
rows_from (suc h) w row strokes = row ++ rows_from h w (drawn_over (take w strokes) row) (drop w strokes)

-- the pixels of w by h that strokes draw, row by row from a black one on
abbrev pub pixels_drawn : ℕ → ℕ → List Stroke → List ℕ
pixels_drawn w h strokes = drop w (rows_from h w (replicate w 0) strokes)

abbrev pub pixels_of_orders : Depth → List ℕ → ℕ → ℕ → Result (List Order) (List ℕ) → Result (List ℕ) ℕ
pixels_of_orders depth bytes w h (Ok os) = Ok (pixels_drawn w h (strokes_of depth w os))
pixels_of_orders depth bytes w h (Err refused) = Err (place_in bytes refused)

-- the pixels of w by h that a stream stands for, or the place of the first field that breaks its rule
abbrev pub unrle : Depth → List ℕ → ℕ → ℕ → Result (List ℕ) ℕ
unrle depth bytes w h = pixels_of_orders depth bytes w h (run_orders_in depth (w * h) bytes)

abbrev pub refused_place : List ℕ → Result (List Order) (List ℕ) → Option ℕ
refused_place bytes (Ok os) = None
refused_place bytes (Err refused) = Some (place_in bytes refused)

-- the place of the first field of a stream of w by h pixels that breaks its rule
abbrev pub first_bad_run : Depth → List ℕ → ℕ → ℕ → Option ℕ
first_bad_run depth bytes w h = refused_place bytes (run_orders_in depth (w * h) bytes)
