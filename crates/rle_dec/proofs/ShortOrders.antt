-- Orders with their length in the code, of the kinds that the packer writes.
use Rattle.std.proofs.Common.{◌≡◌, ℕ, zero, suc, ◌*◌, ◌-◌, ◌<◌, ◌≤◌, true, false, cond, List, ◌∷◌, length, take, drop, refl, ap, sym, ◌∙◌, arith, Some, Ok}
use Rattle.std.specs.Prelude.{nat_le, nat_lt, ◌&&◌, None}
use Rattle.std.proofs.lemmas.Bool.Decides.{nat_tests}
use Rattle.px_core.specs.declared.depth.Depth.{Depth}
use Rattle.px_core.specs.Depth.{bytes_in}
use Rattle.run_lengths.specs.declared.codes.RunKind.{RunKind}
use Rattle.run_lengths.specs.declared.codes.RunKind.TheVariants.{BackgroundRun, ForegroundRun, MaskImage, ColorRun, ColorImage}
use Rattle.run_lengths.specs.declared.codes.Row.{Row}
use Rattle.wire_num.specs.Field.{bytes_at, given, map_read, then_read}
use Rattle.wire_num.specs.Number.{little_at}
use Rattle.px_core.specs.Pixels.{pixels_of}
use Rattle.wire_num.proofs.Bytes.{taken_split}
use Rattle.run_lengths.specs.Codes.{row, row_of, row_among, code_table, run, mask}
use Rattle.run_lengths.specs.RunLength.{greatest_length, length_at, length_if, order_at, order_in_row, run_at}
use Rattle.run_lengths.specs.RunLength.Run.{Background, Color, Image}

in_row : (a b code : ℕ) → a ≤ code → code ≤ b → (nat_le a code && nat_le code b) ≡ true
in_row a b code l h = grind (arith, nat_tests, l, h)

past_row : (a b code : ℕ) → b < code → (nat_le a code && nat_le code b) ≡ false
past_row a b code h = grind (arith, nat_tests, h)

found : (r : Row) (rows : List Row) (code : ℕ) → r.first ≤ code → code ≤ r.last → row_among (r ∷ rows) code ≡ Some r
found r rows code l h = ap (λ t. cond t (Some r) (row_among rows code)) (in_row r.first r.last code l h)

passed : (r : Row) (rows : List Row) (code : ℕ) → r.last < code → row_among (r ∷ rows) code ≡ row_among rows code
passed r rows code h = ap (λ t. cond t (Some r) (row_among rows code)) (past_row r.first r.last code h)

background_row : (depth : Depth) (code : ℕ) → code ≤ 0x1F → row_of depth code ≡ Some (row 0x00 0x1F false BackgroundRun run)
background_row depth code h = found (row 0x00 0x1F false BackgroundRun run) (drop 1 (code_table depth)) code (omega arith) h

-- past the first three rows
late_rows : (depth : Depth) (code : ℕ) → 0x60 ≤ code → row_of depth code ≡ row_among (drop 3 (code_table depth)) code
late_rows depth code l =
    passed (row 0x00 0x1F false BackgroundRun run) (drop 1 (code_table depth)) code (omega (arith, l))
    ∙ passed (row 0x20 0x3F false ForegroundRun run) (drop 2 (code_table depth)) code (omega (arith, l))
    ∙ passed (row 0x40 0x5F false MaskImage mask) (drop 3 (code_table depth)) code (omega (arith, l))

color_row : (depth : Depth) (code : ℕ) → 0x60 ≤ code → code ≤ 0x7F → row_of depth code ≡ Some (row 0x60 0x7F false ColorRun run)
color_row depth code l h = late_rows depth code l ∙ found (row 0x60 0x7F false ColorRun run) (drop 4 (code_table depth)) code l h

image_row : (depth : Depth) (code : ℕ) → 0x80 ≤ code → code ≤ 0x9F → row_of depth code ≡ Some (row 0x80 0x9F false ColorImage run)
image_row depth code l h = late_rows depth code (omega (arith, l)) ∙ passed (row 0x60 0x7F false ColorRun run) (drop 4 (code_table depth)) code (omega (arith, l)) ∙ found (row 0x80 0x9F false ColorImage run) (drop 5 (code_table depth)) code l h

within : (n greatest : ℕ) → 1 ≤ n → n ≤ greatest → (nat_lt 0 n && nat_le n greatest) ≡ true
within n greatest l h = grind (arith, nat_tests, l, h)

length_in_code : (n greatest : ℕ) (stream rest : List ℕ) → 1 ≤ n → length_at run n greatest stream rest ≡ length_if greatest n rest stream
length_in_code zero greatest stream rest h = absurd (omega (arith, h))
length_in_code (suc n) greatest stream rest h = let same : 1 * suc n ≡ suc n = omega arith in ap (λ m. length_if greatest m rest stream) same

-- an order of such a row
short_in_row : (depth : Depth) (kind : RunKind) (first last code n left : ℕ) (bytes : List ℕ) → row_of depth code ≡ Some (row first last false kind run) → n ≡ code - first → 1 ≤ n → n ≤ greatest_length kind left
    → map_read (λ d. record { foreground = None; run = d }) (run_at depth kind n bytes) ≡ order_at depth left (code ∷ bytes)
short_in_row depth kind first last code n left bytes e at some few =
    let kept : length_if (greatest_length kind left) n bytes (code ∷ bytes) ≡ Ok (n, bytes) = ap (λ t. given t n bytes (code ∷ bytes)) (within n (greatest_length kind left) some few) in
    let here : length_at run (code - first) (greatest_length kind left) (code ∷ bytes) bytes ≡ Ok (n, bytes) = ap (λ m. length_at run m (greatest_length kind left) (code ∷ bytes) bytes) (sym at) ∙ length_in_code n (greatest_length kind left) (code ∷ bytes) bytes some ∙ kept in
    ap (λ l. then_read l (λ m after. map_read (λ d. record { foreground = None; run = d }) (run_at depth kind m after))) (sym here)
    ∙ ap (λ r. order_in_row depth r left code bytes) (sym e)

pub background_order : (depth : Depth) (code n left : ℕ) (bytes : List ℕ) → 1 ≤ code → code ≤ 0x1F → n ≡ code → n ≤ left → Ok (record { foreground = None; run = Background n }, bytes) ≡ order_at depth left (code ∷ bytes)
background_order depth code n left bytes l h at few = short_in_row depth BackgroundRun 0x00 0x1F code n left bytes (background_row depth code h) (omega (arith, at)) (omega (arith, at, l)) few

pub color_order : (depth : Depth) (code n left color : ℕ) (bytes rest : List ℕ) → 0x61 ≤ code → code ≤ 0x7F → n ≡ code - 0x60 → n ≤ left → Ok (color, rest) ≡ little_at (bytes_in depth) bytes
    → Ok (record { foreground = None; run = Color n color }, rest) ≡ order_at depth left (code ∷ bytes)
color_order depth code n left color bytes rest l h at few e =
    ap (λ r. map_read (λ d. record { foreground = None; run = d }) (map_read (λ c. Color n c) r)) e
    ∙ short_in_row depth ColorRun 0x60 0x7F code n left bytes (color_row depth code (omega (arith, l)) h) at (omega (arith, at, l)) few

pub image_order : (depth : Depth) (code n left : ℕ) (bytes rest : List ℕ) → 0x81 ≤ code → code ≤ 0x9F → n ≡ code - 0x80 → n ≤ left → bytes_in depth * n ≤ length bytes → rest ≡ drop (bytes_in depth * n) bytes
    → Ok (record { foreground = None; run = Image (pixels_of depth (take (bytes_in depth * n) bytes)) }, rest) ≡ order_at depth left (code ∷ bytes)
image_order depth code n left bytes rest l h at few long e =
    let read : Ok (take (bytes_in depth * n) bytes, rest) ≡ bytes_at (bytes_in depth * n) bytes = taken_split (bytes_in depth * n) bytes (take (bytes_in depth * n) bytes) rest long refl e in
    ap (λ r. map_read (λ d. record { foreground = None; run = d }) (map_read (λ bs. Image (pixels_of depth bs)) r)) read
    ∙ short_in_row depth ColorImage 0x80 0x9F code n left bytes (image_row depth code (omega (arith, l)) h) at (omega (arith, at, l)) few
