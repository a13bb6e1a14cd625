-- The packer's runs draw the pixels that they were made from.
use Rattle.std.proofs.Common.{◌≡◌, ℕ, zero, suc, ◌+◌, ◌-◌, ◌<◌, ◌≤◌, Bool, true, false, cond, List, [], ◌∷◌, ◌++◌, length, take, drop, map, replicate, refl, ap, sym, subst, ◌∙◌, arith, append_assoc, length-append, ⊎_elim, inl, inr, ◌⊎◌}
use Rattle.std.specs.Prelude.{nat_le, ◌&&◌, ◌==◌}
use Rattle.std.proofs.lemmas.Bool.Decides.{nat_tests}
use Rattle.std.proofs.lemmas.Bool.{and_from, and_parts, cases_lt}
use Rattle.std.proofs.lemmas.List.{length-drop, take-append-drop, length-take-le, map-append}
use Rattle.run_lengths.specs.declared.strokes.Stroke.{Stroke}
use Rattle.run_lengths.specs.declared.strokes.Stroke.TheVariants.{Plain}
use Rattle.run_lengths.specs.RunLength.{Run, run_size, run_strokes, drawn_pixel, drawn_over}
use Rattle.run_lengths.specs.RunLength.Run.{Background, Foreground, Mask, Color, Image, Dithered}
use Rattle.run_lengths.specs.Packer.{Spot, background_count, color_count, chosen_run, first_run, runs_past, onto_runs, joined_images, packed_runs}
use Rattle.run_lengths.proofs.Laws.{drawn_over-append, drawn_over_front, length-run_strokes}
use Rattle.px_core.specs.declared.depth.Depth.{Depth}
use Rattle.px_core.specs.Pixels.{is_pixel, are_pixels}
use Rattle.run_lengths.proofs.ReadBack.{sizes}

-- the pixels of spots, and those one row earlier
abbrev pub pixels : List Spot → List ℕ
pixels [] = []
pixels (s ∷ spots) = s.0 ∷ pixels spots

abbrev pub aboves : List Spot → List ℕ
aboves [] = []
aboves (s ∷ spots) = s.1 ∷ aboves spots

pub length-pixels : (spots : List Spot) → length (pixels spots) ≡ length spots
length-pixels [] = refl
length-pixels (s ∷ spots) = ap suc (length-pixels spots)

pub length-aboves : (spots : List Spot) → length (aboves spots) ≡ length spots
length-aboves [] = refl
length-aboves (s ∷ spots) = ap suc (length-aboves spots)

-- what the background stroke draws over each spot is the pixel one row earlier
abbrev pub Keeps : Stroke → List Spot → Type 0
Keeps back [] = Unit {0}
Keeps back (s ∷ spots) = (drawn_pixel back s.1 ≡ s.1) × Keeps back spots

suc_within : (t : Bool) (n m : ℕ) → n ≤ m → cond t (suc n) 0 ≤ suc m
suc_within true n m le = omega (arith, le)
suc_within false n m le = omega arith

background_count_within : (spots : List Spot) → background_count spots ≤ length spots
background_count_within [] = omega arith
background_count_within (s ∷ spots) = suc_within (s.0 == s.1) (background_count spots) (length spots) (background_count_within spots)

color_count_within : (color : ℕ) (spots : List Spot) → color_count color spots ≤ length spots
color_count_within color [] = omega arith
color_count_within color (s ∷ spots) = suc_within (s.0 == color) (color_count color spots) (length spots) (color_count_within color spots)

-- a count that isn't 0 passed its test
passed : (t : Bool) (n m : ℕ) → suc m ≤ cond t (suc n) 0 → (t ≡ true) × (m ≤ n)
passed true n m le = (refl, omega (arith, le))
passed false n m le = absurd (omega (arith, le))

same_numbers : (a b : ℕ) → (a == b) ≡ true → a ≡ b
same_numbers a b e = grind (arith, nat_tests, e)

-- a background run draws its pixels
background_draws : (back : Stroke) (n : ℕ) (spots : List Spot) → Keeps back spots → n ≤ background_count spots → drawn_over (replicate n back) (aboves spots) ≡ take n (pixels spots)
background_draws back zero spots keeps le = refl
background_draws back (suc n) [] keeps le = absurd (omega (arith, le))
background_draws back (suc n) (s ∷ spots) keeps le =
    let h = passed (s.0 == s.1) (background_count spots) n le in
    let here : drawn_pixel back s.1 ≡ s.0 = keeps.0 ∙ sym (same_numbers s.0 s.1 h.0) in
    ap (λ x. x ∷ drawn_over (replicate n back) (aboves spots)) here ∙ ap (λ xs. s.0 ∷ xs) (background_draws back n spots keeps.1 h.1)

-- a colour run draws its pixels
color_draws : (color n : ℕ) (spots : List Spot) → n ≤ color_count color spots → drawn_over (replicate n (Plain color)) (aboves spots) ≡ take n (pixels spots)
color_draws color zero spots le = refl
color_draws color (suc n) [] le = absurd (omega (arith, le))
color_draws color (suc n) (s ∷ spots) le =
    let h = passed (s.0 == color) (color_count color spots) n le in
    let here : color ≡ s.0 = sym (same_numbers s.0 color h.0) in
    ap (λ x. x ∷ drawn_over (replicate n (Plain color)) (aboves spots)) here ∙ ap (λ xs. s.0 ∷ xs) (color_draws color n spots h.1)

-- ---- the run that is chosen

pub chosen : (P : Run → Type 0) (b c color : ℕ) → (1 ≤ b → c ≤ b → P (Background b)) → (2 ≤ c → P (Color c color)) → ((b ≡ 0) ⊎ (b < c) → c ≤ 1 → P (Image (color ∷ []))) → P (chosen_run b c color)
chosen P b c color back run image = by_tests (nat_le 1 b && nat_le c b) (nat_le 2 c) refl refl where
  by_tests : (t u : Bool) → (nat_le 1 b && nat_le c b) ≡ t → nat_le 2 c ≡ u → P (cond t (Background b) (cond u (Color c color) (Image (color ∷ []))))
  by_tests true u e f = back (grind (arith, nat_tests, e)) (grind (arith, nat_tests, e))
  by_tests false true e f = run (grind (arith, nat_tests, f))
  by_tests false false e f = image (other (cases_lt b c)) (grind (arith, nat_tests, f)) where
    other : (b < c) ⊎ (c ≤ b) → (b ≡ 0) ⊎ (b < c)
    other h = ⊎_elim (λ lt. inr lt) (λ le. inl (grind (arith, nat_tests, e, le))) h

-- a run of at least one pixel, of the packer's kinds
abbrev pub IsFair : Depth → Run → Type 0
IsFair depth (Background n) = 1 ≤ n
IsFair depth (Color n c) = (1 ≤ n) × (is_pixel depth c ≡ true)
IsFair depth (Image cs) = (1 ≤ length cs) × (are_pixels depth cs ≡ true)
IsFair depth (Foreground n) = ⊥
IsFair depth (Mask bits) = ⊥
IsFair depth (Dithered n a b) = ⊥

-- what the first run of a stretch is
pub record Begins (depth : Depth) (back fore : Stroke) (spots : List Spot) (r : Run) : Type 0 where
  pub some : 1 ≤ run_size r
  pub within : run_size r ≤ length spots
  pub fair : IsFair depth r
  pub draws : drawn_over (run_strokes r false back fore) (aboves spots) ≡ take (run_size r) (pixels spots)

pub first_run_begins : (depth : Depth) (back fore : Stroke) (s : Spot) (spots : List Spot) → Keeps back (s ∷ spots) → is_pixel depth s.0 ≡ true → Begins depth back fore (s ∷ spots) (first_run s spots)
first_run_begins depth back fore s spots keeps color =
    let b : ℕ = background_count (s ∷ spots) in
    let c : ℕ = color_count s.0 (s ∷ spots) in
    chosen (Begins depth back fore (s ∷ spots)) b c s.0
    (λ l m. record { some = l; within = background_count_within (s ∷ spots); fair = l; draws = background_draws back b (s ∷ spots) keeps (omega arith) })
    (λ l. record { some = omega (arith, l); within = color_count_within s.0 (s ∷ spots); fair = (omega (arith, l), color); draws = color_draws s.0 c (s ∷ spots) (omega arith) })
    (λ h l. record { some = omega arith; within = omega arith; fair = (omega arith, and_from (is_pixel depth s.0) true color refl); draws = refl })

-- ---- a stretch

abbrev pub runs_strokes : Stroke → Stroke → List Run → List Stroke
runs_strokes back fore [] = []
runs_strokes back fore (r ∷ rs) = run_strokes r false back fore ++ runs_strokes back fore rs

abbrev pub AllFair : Depth → List Run → Type 0
AllFair depth [] = Unit {0}
AllFair depth (r ∷ rs) = IsFair depth r × AllFair depth rs

keeps_drop : (back : Stroke) (n : ℕ) (spots : List Spot) → Keeps back spots → Keeps back (drop n spots)
keeps_drop back zero spots keeps = keeps
keeps_drop back (suc n) [] keeps = keeps
keeps_drop back (suc n) (s ∷ spots) keeps = keeps_drop back n spots keeps.1

aboves-drop : (n : ℕ) (spots : List Spot) → aboves (drop n spots) ≡ drop n (aboves spots)
aboves-drop zero spots = refl
aboves-drop (suc n) [] = refl
aboves-drop (suc n) (s ∷ spots) = aboves-drop n spots

pub pixels-drop : (n : ℕ) (spots : List Spot) → pixels (drop n spots) ≡ drop n (pixels spots)
pixels-drop zero spots = refl
pixels-drop (suc n) [] = refl
pixels-drop (suc n) (s ∷ spots) = pixels-drop n spots

-- what is known of the runs of a stretch whose first places are packed already
pub record Packs (depth : Depth) (back fore : Stroke) (spots : List Spot) (rs : List Run) : Type 0 where
  pub fair : AllFair depth rs
  pub all : sizes rs ≡ length spots
  pub draws : drawn_over (runs_strokes back fore rs) (aboves spots) ≡ pixels spots

-- a first run and those after it
packs_more : (depth : Depth) (back fore : Stroke) (spots : List Spot) (r : Run) (rs : List Run) → Begins depth back fore spots r → Packs depth back fore (drop (run_size r) spots) rs → Packs depth back fore spots (r ∷ rs)
packs_more depth back fore spots r rs first rest =
    let n : ℕ = run_size r in
    let here : List Stroke = run_strokes r false back fore in
    let long : length here ≡ n = length-run_strokes r false back fore in
    let few : length (take n (aboves spots)) ≡ n = length-take-le n (aboves spots) (omega (arith, first.within, length-aboves spots)) in
    let split : aboves spots ≡ take n (aboves spots) ++ aboves (drop n spots) = sym (take-append-drop n (aboves spots)) ∙ ap (λ us. take n (aboves spots) ++ us) (sym (aboves-drop n spots)) in
    let front : drawn_over here (take n (aboves spots)) ≡ take n (pixels spots) = sym (drawn_over_front here (take n (aboves spots)) (drop n (aboves spots)) (long ∙ sym few)) ∙ ap (drawn_over here) (take-append-drop n (aboves spots)) ∙ first.draws in
    record {
      fair = (first.fair, rest.fair);
      all = omega (arith, rest.all, first.within, length-drop n spots);
      draws =
          ap (drawn_over (here ++ runs_strokes back fore rs)) split
          ∙ drawn_over-append here (runs_strokes back fore rs) (take n (aboves spots)) (aboves (drop n spots)) (long ∙ sym few)
          ∙ ap (λ xs. xs ++ drawn_over (runs_strokes back fore rs) (aboves (drop n spots))) front
          ∙ ap (λ xs. take n (pixels spots) ++ xs) (rest.draws ∙ pixels-drop n spots)
          ∙ take-append-drop n (pixels spots);
    }

abbrev pub AllColored : Depth → List Spot → Type 0
AllColored depth [] = Unit {0}
AllColored depth (s ∷ spots) = (is_pixel depth s.0 ≡ true) × AllColored depth spots

-- one place less, the first of a stretch being there
pub drop_first : (n : ℕ) (s : Spot) (spots : List Spot) → 1 ≤ n → drop n (s ∷ spots) ≡ drop (n - 1) spots
drop_first zero s spots h = absurd (omega (arith, h))
drop_first (suc n) s spots h = ap (λ m. drop m spots) (omega arith)

pub runs_past_packs : (depth : Depth) (back fore : Stroke) (packed : ℕ) (spots : List Spot) → Keeps back spots → AllColored depth spots → Packs depth back fore (drop packed spots) (runs_past packed spots)
runs_past_packs depth back fore zero [] keeps colors = record { fair = tt; all = refl; draws = refl }
runs_past_packs depth back fore (suc packed) [] keeps colors = record { fair = tt; all = refl; draws = refl }
runs_past_packs depth back fore (suc packed) (s ∷ spots) keeps colors = runs_past_packs depth back fore packed spots keeps.1 colors.1
runs_past_packs depth back fore zero (s ∷ spots) keeps colors =
    let r : Run = first_run s spots in
    let first : Begins depth back fore (s ∷ spots) r = first_run_begins depth back fore s spots keeps colors.0 in
    let P : List Spot → Type 0 = λ ss. Packs depth back fore ss (runs_past (run_size r - 1) spots) in
    packs_more depth back fore (s ∷ spots) r (runs_past (run_size r - 1) spots) first (subst P (sym (drop_first (run_size r) s spots first.some)) (runs_past_packs depth back fore (run_size r - 1) spots keeps.1 colors.1))

-- ---- images joined

are_pixels-append : (depth : Depth) (front back : List ℕ) → are_pixels depth front ≡ true → are_pixels depth back ≡ true → are_pixels depth (front ++ back) ≡ true
are_pixels-append depth [] back h k = k
are_pixels-append depth (c ∷ front) back h k = let p = and_parts (is_pixel depth c) (are_pixels depth front) h in and_from _ _ p.0 (are_pixels-append depth front back p.1 k)

pub record SameRuns (depth : Depth) (rs ss : List Run) : Type 0 where
  pub sizes_same : sizes ss ≡ sizes rs
  pub fair : AllFair depth rs → AllFair depth ss
  pub strokes : (back fore : Stroke) → runs_strokes back fore ss ≡ runs_strokes back fore rs

itself_same : (depth : Depth) (rs : List Run) → SameRuns depth rs rs
itself_same depth rs = record { sizes_same = refl; fair = λ h. h; strokes = λ back fore. refl }

onto_same : (depth : Depth) (r : Run) (rs : List Run) → SameRuns depth (r ∷ rs) (onto_runs r rs)
onto_same depth (Background n) rs = itself_same depth (Background n ∷ rs)
onto_same depth (Color n c) rs = itself_same depth (Color n c ∷ rs)
onto_same depth (Foreground n) rs = itself_same depth (Foreground n ∷ rs)
onto_same depth (Mask bits) rs = itself_same depth (Mask bits ∷ rs)
onto_same depth (Dithered n a b) rs = itself_same depth (Dithered n a b ∷ rs)
onto_same depth (Image cs) [] = itself_same depth (Image cs ∷ [])
onto_same depth (Image cs) (Background n ∷ rs) = itself_same depth (Image cs ∷ Background n ∷ rs)
onto_same depth (Image cs) (Color n c ∷ rs) = itself_same depth (Image cs ∷ Color n c ∷ rs)
onto_same depth (Image cs) (Foreground n ∷ rs) = itself_same depth (Image cs ∷ Foreground n ∷ rs)
onto_same depth (Image cs) (Mask bits ∷ rs) = itself_same depth (Image cs ∷ Mask bits ∷ rs)
onto_same depth (Image cs) (Dithered n a b ∷ rs) = itself_same depth (Image cs ∷ Dithered n a b ∷ rs)
onto_same depth (Image cs) (Image ds ∷ rs) = record {
  sizes_same = omega (arith, length-append cs ds);
  fair = λ h. ((omega (arith, h.0.0, length-append cs ds), are_pixels-append depth cs ds h.0.1 h.1.0.1), h.1.1);
  strokes = λ back fore. ap (λ ss. ss ++ runs_strokes back fore rs) (map-append (λ c. Plain c) cs ds) ∙ append_assoc (map (λ c. Plain c) cs) (map (λ c. Plain c) ds) (runs_strokes back fore rs);
}

pub joined_same : (depth : Depth) (rs : List Run) → SameRuns depth rs (joined_images rs)
joined_same depth [] = itself_same depth []
joined_same depth (r ∷ rs) =
    let rest = joined_same depth rs in
    let here = onto_same depth r (joined_images rs) in
    record {
      sizes_same = here.sizes_same ∙ ap (λ n. run_size r + n) rest.sizes_same;
      fair = λ h. here.fair (h.0, rest.fair h.1);
      strokes = λ back fore. here.strokes back fore ∙ ap (λ ss. run_strokes r false back fore ++ ss) (rest.strokes back fore);
    }

-- the runs of a stretch draw it
pub packed_runs_packs : (depth : Depth) (back fore : Stroke) (spots : List Spot) → Keeps back spots → AllColored depth spots → Packs depth back fore spots (packed_runs spots)
packed_runs_packs depth back fore spots keeps colors =
    let runs = runs_past_packs depth back fore 0 spots keeps colors in
    let same = joined_same depth (runs_past 0 spots) in
    record { fair = same.fair runs.fair; all = same.sizes_same ∙ runs.all; draws = ap (λ ss. drawn_over ss (aboves spots)) (same.strokes back fore) ∙ runs.draws }
