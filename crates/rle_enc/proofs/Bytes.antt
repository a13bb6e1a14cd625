-- Pixels that are written piece by piece.
use Rattle.std.proofs.Common.{◌≡◌, ℕ, zero, suc, ◌+◌, ◌-◌, ◌*◌, ◌≤◌, ◌<◌, List, [], ◌∷◌, ◌++◌, length, length-append, refl, ap, sym, subst, ◌∙◌, arith, append-nil}
use Rattle.std.specs.Prelude.{drop, get_or}
use Rattle.std.proofs.lemmas.Grind.{flat_map-append}
use Rattle.std.proofs.lemmas.List.{map-append}
use Rattle.px_core.specs.declared.depth.Depth.{Depth}
use Rattle.px_core.specs.declared.depth.Depth.TheVariants.{Bits24}
use Rattle.px_core.specs.Depth.{shown, shown_colors}
use Rattle.px_core.specs.Pixels.{pixel_bytes, pixels_bytes}
use Rattle.wire_num.specs.Written.{AppendsFront}
use Rattle.px_core.specs.Picture.{turned_over}
use Rattle.wire_num.proofs.Sent.{HasSent, sent_none, sent_piece}
use Rattle.px_core.proofs.Turned.{rows_left, last_row_first}

-- nothing is left
pub sent_done : (old all now : List ℕ) → HasSent old all now [] → now ≡ old ++ all
sent_done old all now h = h.written ∙ ap (λ bs. old ++ bs) (sym (h.whole ∙ append-nil h.sent))

-- colours in bytes, as they are shown
abbrev pub shown_bytes : Depth → List ℕ → List ℕ
shown_bytes d colors = pixels_bytes d (shown_colors d colors)

shown_bytes-append : (d : Depth) (xs ys : List ℕ) → shown_bytes d (xs ++ ys) ≡ shown_bytes d xs ++ shown_bytes d ys
shown_bytes-append d xs ys = ap (pixels_bytes d) (map-append (shown d) xs ys) ∙ flat_map-append (pixel_bytes d) (shown_colors d xs) (shown_colors d ys)

-- colours of 24 bits are shown as they are
pub shown_same : (xs : List ℕ) → shown_colors Bits24 xs ≡ xs
shown_same [] = refl
shown_same (x ∷ xs) = ap (λ ys. x ∷ ys) (shown_same xs)

-- the rows from the bottom up: those so far are sent, and what is left are whole rows
pub record TurnsOn (d : Depth) (w h : ℕ) (old all now : List ℕ) (y : ℕ) (above : List ℕ) : Type 0 where
  pub left : length above ≡ w * (h - y)
  pub sent : HasSent old all now (shown_bytes d (turned_over w (h - y) above))

pub turns_at_first : (d : Depth) (w h : ℕ) (old colors : List ℕ) → length colors ≡ w * h → TurnsOn d w h old (shown_bytes d (turned_over w h colors)) old 0 colors
turns_at_first d w h old colors e =
    let is : h - 0 ≡ h = omega arith in
    record {
      left = e ∙ ap (λ k. w * k) (sym is);
      sent = subst (λ (k : ℕ). HasSent old (shown_bytes d (turned_over w h colors)) old (shown_bytes d (turned_over w k colors))) (sym is)
          (sent_none old (shown_bytes d (turned_over w h colors)) (sym (append-nil old)));
    }

-- the last row that is left, and those above it
pub row_first : (d : Depth) (w h y : ℕ) (above rest row : List ℕ) → y < h → length above ≡ w * (h - y) → rest ++ row ≡ above → length row ≡ w
    → shown_bytes d (turned_over w (h - y) above) ≡ shown_bytes d row ++ shown_bytes d (turned_over w (h - (y + 1)) rest)
row_first d w h y above rest row lt e split wide =
    let n : ℕ = h - (y + 1) in
    let is : h - y ≡ suc (h - (y + 1)) = omega (arith, lt) in
    let more = rows_left w h y lt in
    let long : length rest + length row ≡ length above = sym (length-append rest row) ∙ ap length split in
    let left : length rest ≡ w * (h - (y + 1)) = omega (arith, e, more, long, wide) in
    ap (λ k. shown_bytes d (turned_over w k above)) is ∙ ap (λ xs. shown_bytes d (turned_over w (suc n) xs)) (sym split)
    ∙ ap (shown_bytes d) (last_row_first w n rest row left wide) ∙ shown_bytes-append d row (turned_over w n rest)

pub turns_on : (d : Depth) (w h y : ℕ) (old all now above rest row new : List ℕ) → y < h → rest ++ row ≡ above → length row ≡ w → new ≡ now ++ shown_bytes d row
    → TurnsOn d w h old all now y above → TurnsOn d w h old all new (y + 1) rest
turns_on d w h y old all now above rest row new lt split wide put t =
    let e = t.left in
    let more = rows_left w h y lt in
    let long : length rest + length row ≡ length above = sym (length-append rest row) ∙ ap length split in
    record {
      left = omega (arith, e, more, long, wide);
      sent = sent_piece old all now _ (shown_bytes d row) (shown_bytes d (turned_over w (h - (y + 1)) rest)) new t.sent put (row_first d w h y above rest row lt e split wide);
    }

pub turns_done : (d : Depth) (w h y : ℕ) (old all now above : List ℕ) → h ≤ y → TurnsOn d w h old all now y above → now ≡ old ++ all
turns_done d w h y old all now above le t =
    let is : h - y ≡ 0 = omega (arith, le) in
    sent_done old all now (subst (λ (k : ℕ). HasSent old all now (shown_bytes d (turned_over w k above))) is t.sent)

-- nothing was written
pub nothing_put : (old more new : List ℕ) → new ≡ old → AppendsFront old more new
nothing_put old more new e = record { sent = []; rest = more; whole = refl; written = e ∙ sym (append-nil old) }

-- the pixel at a place, and those behind it
pub pixel_first : (d : Depth) (k : ℕ) (xs : List ℕ) → k < length xs → pixels_bytes d (drop k xs) ≡ pixel_bytes d (get_or xs k 0) ++ pixels_bytes d (drop (suc k) xs)
pixel_first d k [] h = absurd (omega (arith, h))
pixel_first d zero (x ∷ xs) h = refl
pixel_first d (suc k) (x ∷ xs) h = pixel_first d k xs (omega (arith, h))

-- the colour at a place, and those behind it
pub color_first : (d : Depth) (k : ℕ) (xs : List ℕ) (v : ℕ) → v ≡ shown d (get_or xs k 0) → k < length xs
    → shown_bytes d (drop k xs) ≡ pixel_bytes d v ++ shown_bytes d (drop (k + 1) xs)
color_first d k xs v is h =
    let more : suc k ≡ k + 1 = omega arith in
    by k xs h ∙ ap (λ c. pixel_bytes d c ++ shown_bytes d (drop (suc k) xs)) (sym is) ∙ ap (λ n. pixel_bytes d v ++ shown_bytes d (drop n xs)) more
  where
    by : (k : ℕ) (xs : List ℕ) → k < length xs → shown_bytes d (drop k xs) ≡ pixel_bytes d (shown d (get_or xs k 0)) ++ shown_bytes d (drop (suc k) xs)
    by k [] h = absurd (omega (arith, h))
    by zero (x ∷ xs) h = refl
    by (suc k) (x ∷ xs) h = by k xs (omega (arith, h))
