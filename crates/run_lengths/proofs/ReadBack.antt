-- The bytes of the packer's runs are read back as the runs, at any depth.
use Rattle.std.proofs.Common.{◌≡◌, ℕ, zero, suc, ◌+◌, ◌-◌, ◌*◌, ◌<◌, ◌≤◌, true, false, cond, List, [], ◌∷◌, ◌++◌, length, refl, ap, sym, ◌∙◌, arith, Some, None, Ok, append_assoc, ⊎_elim}
use Rattle.std.specs.Prelude.{flat_map, map, nat_le, nat_lt, ◌&&◌}
use Rattle.std.proofs.lemmas.Bool.Decides.{nat_tests}
use Rattle.std.proofs.lemmas.Bool.{cases_lt}
use Rattle.px_core.specs.declared.depth.Depth.{Depth}
use Rattle.px_core.specs.declared.depth.Depth.TheVariants.{Bits24, Bits16}
use Rattle.px_core.specs.Depth.{bytes_in}
use Rattle.px_core.specs.Pixels.{pixels_of, pixel_bytes, is_pixel, are_pixels}
use Rattle.px_core.proofs.Pixels.{pixel_back, pixels_back, length-pixels_bytes}
use Rattle.wire_num.specs.Field.{Read, then_read, map_read, given, bytes_at}
use Rattle.wire_num.specs.Number.{little_at, little_value}
use Rattle.wire_num.proofs.Bytes.{taken_back}
use Rattle.byteorder.specs.Endian.{little_bytes}
use Rattle.run_lengths.specs.Codes.{row_of, row, run}
use Rattle.run_lengths.specs.declared.codes.RunKind.TheVariants.{BackgroundRun, ColorRun, ColorImage}
use Rattle.run_lengths.specs.declared.codes.RunKind.{RunKind}
use Rattle.run_lengths.specs.declared.codes.Length.{Length}
use Rattle.run_lengths.specs.declared.codes.Length.TheVariants.{TwoBytes}
use Rattle.run_lengths.specs.RunLength.{Run, Order, run_size, greatest_length, foreground_at, length_if, length_at, run_at, order_in_row, order_at, onto_orders, orders_after, run_orders_in}
use Rattle.run_lengths.specs.RunLength.Run.{Background, Foreground, Mask, Color, Image, Dithered}
use Rattle.run_lengths.specs.Packer.{length_bytes, run_bytes}
use Rattle.run_lengths.proofs.Laws.{orders_in_next}

-- ---- codes

background_code : (depth : Depth) (code : ℕ) → code ≤ 31 → row_of depth code ≡ Some (row 0x00 0x1F false BackgroundRun run)
background_code depth code h = grind (arith, nat_tests, h)

color_code : (depth : Depth) (code : ℕ) → 96 ≤ code → code ≤ 127 → row_of depth code ≡ Some (row 0x60 0x7F false ColorRun run)
color_code depth code l h = grind (arith, nat_tests, l, h)

image_code : (depth : Depth) (code : ℕ) → 128 ≤ code → code ≤ 159 → row_of depth code ≡ Some (row 0x80 0x9F false ColorImage run)
image_code depth code l h = grind (arith, nat_tests, l, h)

-- ---- numbers

pixel_read : (depth : Depth) (c : ℕ) (rest : List ℕ) → is_pixel depth c ≡ true → little_at (bytes_in depth) (pixel_bytes depth c ++ rest) ≡ Ok (c, rest)
pixel_read Bits24 c rest h = ap (λ x. Ok (x, rest)) (pixel_back Bits24 c h)
pixel_read Bits16 c rest h = ap (λ x. Ok (x, rest)) (pixel_back Bits16 c h)

two_bytes_back : (n : ℕ) → n < 65536 → little_value (little_bytes 2 n) ≡ n
two_bytes_back n h = omega (arith, h)

-- ---- lengths

-- a length that is accepted
accepted : (n greatest : ℕ) (rest field : List ℕ) → 1 ≤ n → n ≤ greatest → length_if greatest n rest field ≡ Ok (n, rest)
accepted n greatest rest field l h = let e : (nat_lt 0 n && nat_le n greatest) ≡ true = grind (arith, nat_tests, l, h) in ap (λ t. given t n rest field) e

length_in_code : (n greatest : ℕ) (stream rest : List ℕ) → 1 ≤ n → n ≤ greatest → length_at run n greatest stream rest ≡ Ok (n, rest)
length_in_code zero greatest stream rest l h = absurd (omega (arith, l))
length_in_code (suc n) greatest stream rest l h = let one : 1 * suc n ≡ suc n = omega arith in ap (λ m. length_if greatest m rest stream) one ∙ accepted (suc n) greatest rest stream l h

length_in_byte : (n greatest : ℕ) (stream rest : List ℕ) → 32 ≤ n → n ≤ greatest → length_at run 0 greatest stream ((n - 32) ∷ rest) ≡ Ok (n, rest)
length_in_byte n greatest stream rest l h = let all : little_value ((n - 32) ∷ []) + 32 ≡ n = omega (arith, l) in ap (λ m. length_if greatest m rest ((n - 32) ∷ rest)) all ∙ accepted n greatest rest ((n - 32) ∷ rest) (omega (arith, l)) h

length_in_two : (n greatest low : ℕ) (stream rest : List ℕ) → 1 ≤ n → n < 65536 → n ≤ greatest → length_at TwoBytes low greatest stream (little_bytes 2 n ++ rest) ≡ Ok (n, rest)
length_in_two n greatest low stream rest l k h = ap (λ m. length_if greatest m rest (little_bytes 2 n ++ rest)) (two_bytes_back n k) ∙ accepted n greatest rest (little_bytes 2 n ++ rest) l h

-- ---- runs

-- an order that sets no foreground
abbrev pub plain : Run → Order
plain r = record { foreground = None; run = r }

after_length : Depth → RunKind → ℕ → List ℕ → Read Order
after_length depth k n more = map_read plain (run_at depth k n more)

-- an order of a row whose length is read
in_row : (depth : Depth) (first last code n left : ℕ) (k : RunKind) (l : Length) (more rest : List ℕ) → row_of depth code ≡ Some (row first last false k l) → length_at l (code - first) (greatest_length k left) (code ∷ more) more ≡ Ok (n, rest) → order_at depth left (code ∷ more) ≡ after_length depth k n rest
unfolding after_length
in_row depth first last code n left k l more rest r e =
    ap (λ o. order_in_row depth o left code more) r
    ∙ ap (λ t. then_read t (λ n rest. then_read (foreground_at depth false rest) (λ f after. map_read (λ d. record { foreground = f; run = d }) (run_at depth k n after)))) e

-- an order by its length in any of its three forms
headed : (depth : Depth) (first last long n left : ℕ) (k : RunKind) (more : List ℕ) → first + 31 ≤ last → ((code : ℕ) → first ≤ code → code ≤ last → row_of depth code ≡ Some (row first last false k run)) → row_of depth long ≡ Some (row long long false k TwoBytes) → 1 ≤ n → n < 65536 → n ≤ greatest_length k left → order_at depth left (length_bytes first long n ++ more) ≡ after_length depth k n more
headed depth first last long n left k more wide short two l h fits = ⊎_elim in_code longer (cases_lt n 32) where
  in_code : n < 32 → order_at depth left (length_bytes first long n ++ more) ≡ after_length depth k n more
  in_code lt =
      let e : nat_lt n 32 ≡ true = grind (arith, nat_tests, lt) in
      let low : (first + n) - first ≡ n = omega arith in
      let read : length_at run ((first + n) - first) (greatest_length k left) ((first + n) ∷ more) more ≡ Ok (n, more) = ap (λ m. length_at run m (greatest_length k left) ((first + n) ∷ more) more) low ∙ length_in_code n (greatest_length k left) ((first + n) ∷ more) more l fits in
      ap (λ t. order_at depth left (cond t ((first + n) ∷ []) (cond (nat_lt n 288) (first ∷ (n - 32) ∷ []) (long ∷ little_bytes 2 n)) ++ more)) e
      ∙ in_row depth first last (first + n) n left k run more more (short (first + n) (omega arith) (omega (arith, lt, wide))) read

  longer : 32 ≤ n → order_at depth left (length_bytes first long n ++ more) ≡ after_length depth k n more
  longer ge = ⊎_elim in_byte in_two (cases_lt n 288) where
    e : nat_lt n 32 ≡ false
    e = grind (arith, nat_tests, ge)

    in_byte : n < 288 → order_at depth left (length_bytes first long n ++ more) ≡ after_length depth k n more
    in_byte lt =
        let f : nat_lt n 288 ≡ true = grind (arith, nat_tests, lt) in
        let none : first - first ≡ 0 = omega arith in
        let read : length_at run (first - first) (greatest_length k left) (first ∷ (n - 32) ∷ more) ((n - 32) ∷ more) ≡ Ok (n, more) = ap (λ m. length_at run m (greatest_length k left) (first ∷ (n - 32) ∷ more) ((n - 32) ∷ more)) none ∙ length_in_byte n (greatest_length k left) (first ∷ (n - 32) ∷ more) more ge fits in
        ap (λ t. order_at depth left (cond t ((first + n) ∷ []) (cond (nat_lt n 288) (first ∷ (n - 32) ∷ []) (long ∷ little_bytes 2 n)) ++ more)) e
        ∙ ap (λ t. order_at depth left (cond t (first ∷ (n - 32) ∷ []) (long ∷ little_bytes 2 n) ++ more)) f
        ∙ in_row depth first last first n left k run ((n - 32) ∷ more) more (short first (omega arith) (omega (arith, wide))) read

    in_two : 288 ≤ n → order_at depth left (length_bytes first long n ++ more) ≡ after_length depth k n more
    in_two gt =
        let f : nat_lt n 288 ≡ false = grind (arith, nat_tests, gt) in
        ap (λ t. order_at depth left (cond t ((first + n) ∷ []) (cond (nat_lt n 288) (first ∷ (n - 32) ∷ []) (long ∷ little_bytes 2 n)) ++ more)) e
        ∙ ap (λ t. order_at depth left (cond t (first ∷ (n - 32) ∷ []) (long ∷ little_bytes 2 n) ++ more)) f
        ∙ in_row depth long long long n left k TwoBytes (little_bytes 2 n ++ more) more two (length_in_two n (greatest_length k left) (long - long) (long ∷ little_bytes 2 n ++ more) more l h fits)

-- what the packer writes: lengths of 1 to 65,535, and pixels
abbrev pub IsPacked : Depth → Run → Type 0
IsPacked depth (Background n) = (1 ≤ n) × (n < 65536)
IsPacked depth (Color n c) = (1 ≤ n) × (n < 65536) × (is_pixel depth c ≡ true)
IsPacked depth (Image cs) = (1 ≤ length cs) × (length cs < 65536) × (are_pixels depth cs ≡ true)
IsPacked depth (Foreground n) = ⊥
IsPacked depth (Mask bits) = ⊥
IsPacked depth (Dithered n a b) = ⊥

run_back : (depth : Depth) (r : Run) (left : ℕ) (rest : List ℕ) → IsPacked depth r → run_size r ≤ left → order_at depth left (run_bytes depth r ++ rest) ≡ Ok (plain r, rest)
unfolding after_length
run_back depth (Background n) left rest h fits = headed depth 0 31 240 n left BackgroundRun rest (omega arith) (λ code l u. background_code depth code u) refl h.0 h.1 fits
run_back depth (Color n c) left rest h fits =
    ap (order_at depth left) (append_assoc (length_bytes 96 243 n) (pixel_bytes depth c) rest)
    ∙ headed depth 96 127 243 n left ColorRun (pixel_bytes depth c ++ rest) (omega arith) (color_code depth) refl h.0 h.1 fits
    ∙ ap (λ t. map_read plain (map_read (λ x. Color n x) t)) (pixel_read depth c rest h.2)
run_back depth (Image cs) left rest h fits =
    let bytes : List ℕ = flat_map (pixel_bytes depth) cs in
    let read : bytes_at (bytes_in depth * length cs) (bytes ++ rest) ≡ Ok (bytes, rest) = ap (λ m. bytes_at m (bytes ++ rest)) (sym (length-pixels_bytes depth cs)) ∙ taken_back (bytes ++ rest) bytes rest in
    ap (order_at depth left) (append_assoc (length_bytes 128 244 (length cs)) bytes rest)
    ∙ headed depth 128 159 244 (length cs) left ColorImage (bytes ++ rest) (omega arith) (image_code depth) refl h.0 h.1 fits
    ∙ ap (λ t. map_read plain (map_read (λ xs. Image (pixels_of depth xs)) t)) read
    ∙ ap (λ xs. Ok (plain (Image xs), rest)) (pixels_back depth cs h.2)
run_back depth (Foreground n) left rest h fits = absurd h
run_back depth (Mask bits) left rest h fits = absurd h
run_back depth (Dithered n a b) left rest h fits = absurd h

abbrev pub AllPacked : Depth → List Run → Type 0
AllPacked depth [] = Unit {0}
AllPacked depth (r ∷ rs) = IsPacked depth r × AllPacked depth rs

abbrev pub sizes : List Run → ℕ
sizes [] = 0
sizes (r ∷ rs) = run_size r + sizes rs

some_size : (depth : Depth) (r : Run) → IsPacked depth r → 1 ≤ run_size r
some_size depth (Background n) h = h.0
some_size depth (Color n c) h = h.0
some_size depth (Image cs) h = h.0
some_size depth (Foreground n) h = absurd h
some_size depth (Mask bits) h = absurd h
some_size depth (Dithered n a b) h = absurd h

-- the packer's runs are the orders of their bytes
pub runs_back : (depth : Depth) (rs : List Run) → AllPacked depth rs → run_orders_in depth (sizes rs) (flat_map (run_bytes depth) rs) ≡ Ok (map plain rs)
runs_back depth [] h = refl
runs_back depth (r ∷ rs) h =
    let left : ℕ = run_size r + sizes rs in
    let same : left - run_size r ≡ sizes rs = omega arith in
    orders_in_next depth left (run_bytes depth r ++ flat_map (run_bytes depth) rs) (omega (arith, some_size depth r h.0))
    ∙ ap (λ t. orders_after left t (run_orders_in depth)) (run_back depth r left (flat_map (run_bytes depth) rs) h.0 (omega arith))
    ∙ ap (λ n. onto_orders (plain r) (run_orders_in depth n (flat_map (run_bytes depth) rs))) same
    ∙ ap (onto_orders (plain r)) (runs_back depth rs h.1)
