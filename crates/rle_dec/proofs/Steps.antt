-- A step: one order is drawn, and the rest of the stream draws the same bitmap.
use Rattle.std.proofs.Common.{◌≡◌, ℕ, ◌+◌, ◌-◌, ◌*◌, ◌<◌, ◌≤◌, Bool, false, List, ◌∷◌, ◌++◌, length, replicate, take, drop, refl, ap, sym, ◌∙◌, arith, length-append, Ok, Err}
use Rattle.std.specs.Prelude.{nat_lt, unwrap_or, None}
use Rattle.std.proofs.lemmas.Bool.Decides.{nat_tests}
use Rattle.std.proofs.lemmas.List.{length-take-le}
use Rattle.px_core.specs.declared.depth.Depth.{Depth}
use Rattle.px_core.specs.Depth.{bytes_in}
use Rattle.run_lengths.specs.declared.codes.Before.{Before}
use Rattle.run_lengths.specs.declared.codes.Before.TheVariants.{Other, LaterBackground}
use Rattle.run_lengths.specs.declared.strokes.Stroke.TheVariants.{Above}
use Rattle.wire_num.specs.Number.{little_at}
use Rattle.px_core.specs.Pixels.{pixels_of}
use Rattle.px_core.proofs.Pixels.{length-pixels_of}
use Rattle.run_lengths.specs.RunLength.{Order, order_at, run_orders_in, follows_background, background_stroke, background_strokes, foreground_stroke, run_strokes, before_next}
use Rattle.run_lengths.specs.RunLength.Run.{Background, Color, Image}
use Rattle.rle_dec.specs.Drawing.{drawn_onto, drawn_rest}
use Rattle.rle_dec.specs.Steps.{still_drawn}
use Rattle.rle_dec.proofs.Drawn.{drawn_onto_color, drawn_onto_plain}
use Rattle.rle_dec.proofs.Progress.{code_step, order_refused, refused_is_no_longer, rest_is_shorter}
use Rattle.rle_dec.proofs.ShortOrders.{background_order, color_order, image_order}

-- an order is drawn, with the numbers as the code has them
pub step_drawn : (depth : Depth) (w at to fg fg' : ℕ) (before before' : Before) (out now stream rest : List ℕ) (o : Order) →
    at < length out → length now ≡ length out → Ok (o, rest) ≡ order_at depth (length out - at) stream → fg' ≡ unwrap_or o.foreground fg → before' ≡ before_next o.run (nat_lt at w)
    → take to now ≡ drawn_onto w (run_strokes o.run (follows_background before (nat_lt at w)) (background_stroke (nat_lt at w)) (foreground_stroke (nat_lt at w) fg')) (take at out)
    → still_drawn depth w to fg' before' now rest ≡ still_drawn depth w at fg before out stream
step_drawn depth w at to fg fg' before before' out now stream rest o lt same read set next drawn =
    let long : length (take at out) ≡ at = length-take-le at out (omega (arith, lt)) in
    let first : Bool = nat_lt at w in
    ap (λ n. drawn_rest w (record { count = length (take to now); foreground = fg'; before = before' }) (take to now) (run_orders_in depth (n - length (take to now)) rest)) same
    ∙ code_step depth w (length out) at fg fg' before before' first (follows_background before first) (background_stroke first) (foreground_stroke first fg') (take at out) (take to now) stream rest o (sym long) lt read refl set refl refl refl next drawn

-- a colour run with its length in the code
pub color_step : (depth : Depth) (w at n code color : ℕ) (before : Before) (out now bytes rest : List ℕ) →
    at < length out → length now ≡ length out → 0x61 ≤ code → code ≤ 0x7F → n ≡ code - 0x60 → n ≤ length out - at → Ok (color, rest) ≡ little_at (bytes_in depth) bytes → take (at + n) now ≡ take at out ++ replicate n color
    → (at + n ≤ length now) × (length rest < length (code ∷ bytes)) × ((fg : ℕ) → still_drawn depth w (at + n) fg Other now rest ≡ still_drawn depth w at fg before out (code ∷ bytes))
color_step depth w at n code color before out now bytes rest lt same l h size few e drawn =
    let o : Order = record { foreground = None; run = Color n color } in
    let read : Ok (o, rest) ≡ order_at depth (length out - at) (code ∷ bytes) = color_order depth code n (length out - at) color bytes rest l h size few e in (
      omega (arith, lt, few, same),
      rest_is_shorter depth (length out - at) (code ∷ bytes) rest o read,
      λ fg. step_drawn depth w at (at + n) fg fg before Other out now (code ∷ bytes) rest o lt same read refl refl (drawn ∙ sym (drawn_onto_color w n color (take at out))),
    )

-- a colour image with its length in the code
pub image_step : (depth : Depth) (w at n code : ℕ) (before : Before) (out now bytes rest : List ℕ) →
    at < length out → length now ≡ length out → 0x81 ≤ code → code ≤ 0x9F → n ≡ code - 0x80 → n ≤ length out - at → bytes_in depth * n ≤ length bytes → rest ≡ drop (bytes_in depth * n) bytes → take (at + n) now ≡ take at out ++ pixels_of depth (take (bytes_in depth * n) bytes)
    → (at + n ≤ length now) × (length rest < length (code ∷ bytes)) × ((fg : ℕ) → still_drawn depth w (at + n) fg Other now rest ≡ still_drawn depth w at fg before out (code ∷ bytes))
image_step depth w at n code before out now bytes rest lt same l h size few long e drawn =
    let cs : List ℕ = pixels_of depth (take (bytes_in depth * n) bytes) in
    let o : Order = record { foreground = None; run = Image cs } in
    let read : Ok (o, rest) ≡ order_at depth (length out - at) (code ∷ bytes) = image_order depth code n (length out - at) bytes rest l h size few long e in (
      omega (arith, lt, few, same),
      rest_is_shorter depth (length out - at) (code ∷ bytes) rest o read,
      λ fg. step_drawn depth w at (at + n) fg fg before Other out now (code ∷ bytes) rest o lt same read refl refl (drawn ∙ sym (drawn_onto_plain w cs (take at out))),
    )

-- a background run with its length in the code, past the first row
pub background_step : (depth : Depth) (w at n code : ℕ) (before : Before) (out now rest : List ℕ) →
    at < length out → length now ≡ length out → 1 ≤ code → code ≤ 0x1F → n ≡ code → n ≤ length out - at → w ≤ at → follows_background before false ≡ false → take (at + n) now ≡ drawn_onto w (replicate n Above) (take at out)
    → (at + n ≤ length now) × (length rest < length (code ∷ rest)) × ((fg : ℕ) → still_drawn depth w (at + n) fg LaterBackground now rest ≡ still_drawn depth w at fg before out (code ∷ rest))
background_step depth w at n code before out now rest lt same l h size few late alone drawn =
    let o : Order = record { foreground = None; run = Background n } in
    let read : Ok (o, rest) ≡ order_at depth (length out - at) (code ∷ rest) = background_order depth code n (length out - at) rest l h size few in
    let first : nat_lt at w ≡ false = grind (arith, nat_tests, late) in
    let next : LaterBackground ≡ before_next (Background n) (nat_lt at w) = ap (before_next (Background n)) (sym first) in
    let strokes : (fg : ℕ) → replicate n Above ≡ run_strokes (Background n) (follows_background before (nat_lt at w)) (background_stroke (nat_lt at w)) (foreground_stroke (nat_lt at w) fg) =
    λ fg. ap (λ b. background_strokes b n Above (foreground_stroke false fg)) (sym alone)
    ∙ ap (λ t. run_strokes (Background n) (follows_background before t) (background_stroke t) (foreground_stroke t fg)) (sym first) in (
      omega (arith, lt, few, same),
      rest_is_shorter depth (length out - at) (code ∷ rest) rest o read,
      λ fg. step_drawn depth w at (at + n) fg fg before LaterBackground out now (code ∷ rest) rest o lt same read refl next (drawn ∙ ap (λ ss. drawn_onto w ss (take at out)) (strokes fg)),
    )

-- an order of a stream is refused
pub step_refused : (depth : Depth) (w at fg : ℕ) (before : Before) (out stream refused : List ℕ) → at < length out → Err refused ≡ order_at depth (length out - at) stream
    → (length refused ≤ length stream) × (Err refused ≡ still_drawn depth w at fg before out stream)
step_refused depth w at fg before out stream refused lt e =
    let p : List ℕ = take at out in
    let long : length p ≡ at = length-take-le at out (omega (arith, lt)) in
    let read : Err refused ≡ order_at depth (length out - length p) stream = e ∙ ap (λ n. order_at depth (length out - n) stream) (sym long) in (
      refused_is_no_longer depth (length out - at) stream refused e,
      sym (order_refused depth w (length out) (record { count = length p; foreground = fg; before = before }) p stream refused (omega (arith, long, lt)) read),
    )

-- the pixels of the first bytes are drawn
pub front_drawn : (depth : Depth) (at to n : ℕ) (out now bytes image : List ℕ) → at + n ≤ length out → bytes_in depth * n ≤ length bytes → image ≡ take (bytes_in depth * n) bytes → to ≤ length now → take to now ≡ take at out ++ pixels_of depth image
    → take (at + n) now ≡ take at out ++ pixels_of depth (take (bytes_in depth * n) bytes)
front_drawn depth at to n out now bytes image room long front within drawn =
    let few : length (pixels_of depth image) ≡ n = length-pixels_of depth n image (ap length front ∙ length-take-le (bytes_in depth * n) bytes long) in
    let size : length (take to now) ≡ length (take at out) + length (pixels_of depth image) = ap length drawn ∙ length-append (take at out) (pixels_of depth image) in
    let same : at + n ≡ to = omega (arith, few, size, length-take-le to now within, length-take-le at out (omega (arith, room))) in
    ap (λ m. take m now) same ∙ drawn ∙ ap (λ bs. take at out ++ pixels_of depth bs) front
