-- The packer's bytes are at most three and a pixel's for each run of equal colour, at any depth.
use Rattle.std.proofs.Common.{◌≡◌, ℕ, zero, suc, ◌+◌, ◌-◌, ◌*◌, ◌≤◌, Bool, true, false, cond, List, [], ◌∷◌, length, take, drop, refl, ap, sym, subst, ◌∙◌, arith, length-append, lit≤, ◌/◌, ◌%◌}
use Rattle.std.specs.Prelude.{flat_map, nat_lt, ◌==◌, replicate}
use Rattle.std.proofs.lemmas.Bool.Decides.{nat_tests}
use Rattle.std.proofs.lemmas.List.{length-replicate, length-drop, take_all, drop-drop}
use Rattle.run_lengths.specs.RunLength.{Run, run_size}
use Rattle.run_lengths.specs.RunLength.Run.{Background, Foreground, Mask, Color, Image, Dithered}
use Rattle.run_lengths.specs.Packer.{Spot, background_count, color_count, first_run, runs_past, onto_runs, joined_images, packed_runs, first_stretch, later_stretch, packed, run_bytes, length_bytes, color_runs, color_runs_after, color_runs_in}
use Rattle.px_core.specs.declared.depth.Depth.{Depth}
use Rattle.px_core.specs.declared.depth.Depth.TheVariants.{Bits24, Bits16}
use Rattle.px_core.specs.Depth.{bytes_in}
use Rattle.px_core.specs.Pixels.{pixel_bytes}
use Rattle.px_core.proofs.Pixels.{length-pixels_bytes}
use Rattle.run_lengths.proofs.Runs.{pixels, chosen}
use Rattle.run_lengths.proofs.Stretches.{pixels-zip}

-- how many runs of equal colour a run of the packer ends, at least
abbrev pub weight : Run → ℕ
weight (Background n) = 1
weight (Color n c) = 1
weight (Image cs) = length cs
weight (Foreground n) = 1
weight (Mask bits) = 1
weight (Dithered n a b) = 1

abbrev pub weights : List Run → ℕ
weights [] = 0
weights (r ∷ rs) = weight r + weights rs

-- images of at least one pixel
abbrev pub IsFull : Run → Type 0
IsFull (Background n) = Unit {0}
IsFull (Color n c) = Unit {0}
IsFull (Image cs) = 1 ≤ length cs
IsFull (Foreground n) = Unit {0}
IsFull (Mask bits) = Unit {0}
IsFull (Dithered n a b) = Unit {0}

abbrev pub AllFull : List Run → Type 0
AllFull [] = Unit {0}
AllFull (r ∷ rs) = IsFull r × AllFull rs

short_length : (code long n : ℕ) → length (length_bytes code long n) ≤ 3
short_length code long n = by_tests (nat_lt n 32) (nat_lt n 288) where
  by_tests : (t u : Bool) → length (cond t ((code + n) ∷ []) (cond u (code ∷ (n - 32) ∷ []) (long ∷ n % 256 ∷ n / 256 % 256 ∷ []))) ≤ 3
  by_tests true u = lit≤ tt
  by_tests false true = lit≤ tt
  by_tests false false = lit≤ tt

-- three bytes of a length, and the pixels
length_within : (depth : Depth) (r : Run) → IsFull r → length (run_bytes depth r) ≤ 3 + bytes_in depth * weight r
length_within Bits24 (Background n) h = omega (arith, short_length 0 240 n)
length_within Bits16 (Background n) h = omega (arith, short_length 0 240 n)
length_within Bits24 (Color n c) h = omega (arith, short_length 96 243 n, length-append (length_bytes 96 243 n) (pixel_bytes Bits24 c))
length_within Bits16 (Color n c) h = omega (arith, short_length 96 243 n, length-append (length_bytes 96 243 n) (pixel_bytes Bits16 c))
length_within Bits24 (Image cs) h = omega (arith, short_length 128 244 (length cs), length-append (length_bytes 128 244 (length cs)) (flat_map (pixel_bytes Bits24) cs), length-pixels_bytes Bits24 cs)
length_within Bits16 (Image cs) h = omega (arith, short_length 128 244 (length cs), length-append (length_bytes 128 244 (length cs)) (flat_map (pixel_bytes Bits16) cs), length-pixels_bytes Bits16 cs)
length_within depth (Foreground n) h = omega arith
length_within depth (Mask bits) h = omega arith
length_within depth (Dithered n a b) h = omega arith

some_weight : (r : Run) → IsFull r → 1 ≤ weight r
some_weight (Background n) h = omega arith
some_weight (Color n c) h = omega arith
some_weight (Image cs) h = h
some_weight (Foreground n) h = omega arith
some_weight (Mask bits) h = omega arith
some_weight (Dithered n a b) h = omega arith

runs_bytes_few : (depth : Depth) (rs : List Run) → AllFull rs → length (flat_map (run_bytes depth) rs) ≤ (3 + bytes_in depth) * weights rs
runs_bytes_few Bits24 [] h = omega arith
runs_bytes_few Bits16 [] h = omega arith
runs_bytes_few Bits24 (r ∷ rs) h = omega (arith, length-append (run_bytes Bits24 r) (flat_map (run_bytes Bits24) rs), length_within Bits24 r h.0, some_weight r h.0, runs_bytes_few Bits24 rs h.1)
runs_bytes_few Bits16 (r ∷ rs) h = omega (arith, length-append (run_bytes Bits16 r) (flat_map (run_bytes Bits16) rs), length_within Bits16 r h.0, some_weight r h.0, runs_bytes_few Bits16 rs h.1)

-- joining images keeps their weight
pub record SameWeight (rs ss : List Run) : Type 0 where
  pub same : weights ss ≡ weights rs
  pub full : AllFull rs → AllFull ss

unchanged : (rs : List Run) → SameWeight rs rs
unchanged rs = record { same = refl; full = λ h. h }

onto_weight : (r : Run) (rs : List Run) → SameWeight (r ∷ rs) (onto_runs r rs)
onto_weight (Background n) rs = unchanged (Background n ∷ rs)
onto_weight (Color n c) rs = unchanged (Color n c ∷ rs)
onto_weight (Foreground n) rs = unchanged (Foreground n ∷ rs)
onto_weight (Mask bits) rs = unchanged (Mask bits ∷ rs)
onto_weight (Dithered n a b) rs = unchanged (Dithered n a b ∷ rs)
onto_weight (Image cs) [] = unchanged (Image cs ∷ [])
onto_weight (Image cs) (Background n ∷ rs) = unchanged (Image cs ∷ Background n ∷ rs)
onto_weight (Image cs) (Color n c ∷ rs) = unchanged (Image cs ∷ Color n c ∷ rs)
onto_weight (Image cs) (Foreground n ∷ rs) = unchanged (Image cs ∷ Foreground n ∷ rs)
onto_weight (Image cs) (Mask bits ∷ rs) = unchanged (Image cs ∷ Mask bits ∷ rs)
onto_weight (Image cs) (Dithered n a b ∷ rs) = unchanged (Image cs ∷ Dithered n a b ∷ rs)
onto_weight (Image cs) (Image ds ∷ rs) = record { same = omega (arith, length-append cs ds); full = λ h. (omega (arith, h.0, length-append cs ds), h.1.1) }

joined_weight : (rs : List Run) → SameWeight rs (joined_images rs)
joined_weight [] = unchanged []
joined_weight (r ∷ rs) =
    let rest = joined_weight rs in
    let here = onto_weight r (joined_images rs) in
    record { same = here.same ∙ ap (λ n. weight r + n) rest.same; full = λ h. here.full (h.0, rest.full h.1) }

-- ---- runs of equal colour

after_test : (t : Bool) (x y : ℕ) (rest : ℕ) (spots : List Spot) (s : Spot) (count : ℕ) → (s.0 == x) ≡ t → color_runs_after x (pixels spots) ≡ color_runs (pixels (drop count spots)) → cond t (color_runs_after s.0 (pixels spots)) (suc (color_runs_after s.0 (pixels spots))) ≡ color_runs (pixels (drop (cond t (suc count) 0) (s ∷ spots)))
after_test true x y rest spots s count e h = let same : s.0 ≡ x = grind (arith, nat_tests, e) in ap (λ m. color_runs_after m (pixels spots)) same ∙ h
after_test false x y rest spots s count e h = refl

-- what follows the pixels of one colour begins another run
runs_after : (x : ℕ) (spots : List Spot) → color_runs_after x (pixels spots) ≡ color_runs (pixels (drop (color_count x spots) spots))
runs_after x [] = refl
runs_after x (s ∷ spots) = after_test (s.0 == x) x x 0 spots s (color_count x spots) refl (runs_after x spots)

fewer_without : (x : ℕ) (cs : List ℕ) → color_runs cs ≤ color_runs (x ∷ cs)
fewer_without x [] = omega arith
fewer_without x (c ∷ cs) = by_test (c == x) where
  by_test : (t : Bool) → suc (color_runs_after c cs) ≤ suc (cond t (color_runs_after c cs) (suc (color_runs_after c cs)))
  by_test true = omega arith
  by_test false = omega arith

fewer_after : (n : ℕ) (spots : List Spot) → color_runs (pixels (drop n spots)) ≤ color_runs (pixels spots)
fewer_after zero spots = omega arith
fewer_after (suc n) [] = omega arith
fewer_after (suc n) (s ∷ spots) = omega (arith, fewer_after n spots, fewer_without s.0 (pixels spots))

-- n places that hold all pixels of the first colour hold the end of its run
one_run_fewer : (n : ℕ) (s : Spot) (spots : List Spot) → color_count s.0 spots ≤ n → color_runs (pixels (drop n spots)) + 1 ≤ color_runs (pixels (s ∷ spots))
one_run_fewer n s spots le =
    let c : ℕ = color_count s.0 spots in
    let all : c + (n - c) ≡ n = omega (arith, le) in
    let split : drop n spots ≡ drop (n - c) (drop c spots) = ap (λ m. drop m spots) (sym all) ∙ sym (drop-drop (n - c) c spots) in
    let few : color_runs (pixels (drop n spots)) ≤ color_runs (pixels (drop c spots)) = let P : List Spot → Type 0 = λ ss. color_runs (pixels ss) ≤ color_runs (pixels (drop c spots)) in subst P (sym split) (fewer_after (n - c) (drop c spots)) in
    omega (arith, few, runs_after s.0 spots)

same_color : (x : ℕ) (spots : List Spot) (s : Spot) → s.0 ≡ x → color_count x (s ∷ spots) ≡ suc (color_count x spots)
same_color x spots s e = let t : (s.0 == x) ≡ true = grind (arith, nat_tests, e) in ap (λ b. cond b (suc (color_count x spots)) 0) t

-- the first run is full and covers the pixels of the first colour
pub record Covers (n : ℕ) (r : Run) : Type 0 where
  pub full : IsFull r
  pub one : weight r ≡ 1
  pub all : n ≤ run_size r

first_covers : (s : Spot) (spots : List Spot) → Covers (color_count s.0 (s ∷ spots)) (first_run s spots)
first_covers s spots =
    let b : ℕ = background_count (s ∷ spots) in
    let c : ℕ = color_count s.0 (s ∷ spots) in
    chosen (Covers c) b c s.0
    (λ l m. record { full = tt; one = refl; all = m })
    (λ l. record { full = tt; one = refl; all = omega arith })
    (λ h l. record { full = omega arith; one = refl; all = l })

pub record IsLight (spots : List Spot) (rs : List Run) : Type 0 where
  pub full : AllFull rs
  pub few : weights rs ≤ color_runs (pixels spots)

runs_past_light : (packed : ℕ) (spots : List Spot) → IsLight (drop packed spots) (runs_past packed spots)
runs_past_light zero [] = record { full = tt; few = omega arith }
runs_past_light (suc packed) [] = record { full = tt; few = omega arith }
runs_past_light (suc packed) (s ∷ spots) = runs_past_light packed spots
runs_past_light zero (s ∷ spots) =
    let r : Run = first_run s spots in
    let first : Covers (color_count s.0 (s ∷ spots)) r = first_covers s spots in
    let rest : IsLight (drop (run_size r - 1) spots) (runs_past (run_size r - 1) spots) = runs_past_light (run_size r - 1) spots in
    let covered : color_count s.0 spots ≤ run_size r - 1 = omega (arith, first.all, same_color s.0 spots s refl) in
    record { full = (first.full, rest.full); few = omega (arith, first.one, rest.few, one_run_fewer (run_size r - 1) s spots covered) }

stretch_light : (spots : List Spot) → IsLight spots (packed_runs spots)
stretch_light spots =
    let runs = runs_past_light 0 spots in
    let same = joined_weight (runs_past 0 spots) in
    record { full = same.full runs.full; few = omega (arith, same.same, runs.few) }

-- two numbers of parts, and the parts of their lists, at most as many each
few_of : (depth : Depth) (n m : ℕ) → n ≤ m → (3 + bytes_in depth) * n ≤ (3 + bytes_in depth) * m
few_of Bits24 n m le = omega (arith, le)
few_of Bits16 n m le = omega (arith, le)

both_of : (depth : Depth) (n m : ℕ) → (3 + bytes_in depth) * (n + m) ≡ (3 + bytes_in depth) * n + (3 + bytes_in depth) * m
both_of Bits24 n m = omega arith
both_of Bits16 n m = omega arith

stretch_few : (depth : Depth) (spots : List Spot) → length (flat_map (run_bytes depth) (packed_runs spots)) ≤ (3 + bytes_in depth) * color_runs (pixels spots)
stretch_few depth spots =
    let light = stretch_light spots in
    omega (arith, runs_bytes_few depth (packed_runs spots) light.full, few_of depth (weights (packed_runs spots)) (color_runs (pixels spots)) light.few)

-- at most three bytes and a pixel for each run of equal colour
pub packed_few : (depth : Depth) (w : ℕ) (ps : List ℕ) → length (packed depth w ps) ≤ (3 + bytes_in depth) * color_runs_in w ps
packed_few depth w ps =
    let early : pixels (first_stretch w ps) ≡ take w ps = pixels-zip ps (replicate w 0) ∙ ap (λ n. take n ps) (length-replicate w 0) in
    let late : pixels (later_stretch w ps) ≡ drop w ps = pixels-zip (drop w ps) ps ∙ take_all (length ps) (drop w ps) (omega (arith, length-drop w ps)) in
    let early_few : length (flat_map (run_bytes depth) (packed_runs (first_stretch w ps))) ≤ (3 + bytes_in depth) * color_runs (take w ps) = subst (λ xs. length (flat_map (run_bytes depth) (packed_runs (first_stretch w ps))) ≤ (3 + bytes_in depth) * color_runs xs) early (stretch_few depth (first_stretch w ps)) in
    let late_few : length (flat_map (run_bytes depth) (packed_runs (later_stretch w ps))) ≤ (3 + bytes_in depth) * color_runs (drop w ps) = subst (λ xs. length (flat_map (run_bytes depth) (packed_runs (later_stretch w ps))) ≤ (3 + bytes_in depth) * color_runs xs) late (stretch_few depth (later_stretch w ps)) in
    omega (arith, length-append (flat_map (run_bytes depth) (packed_runs (first_stretch w ps))) (flat_map (run_bytes depth) (packed_runs (later_stretch w ps))), early_few, late_few, both_of depth (color_runs (take w ps)) (color_runs (drop w ps)))
