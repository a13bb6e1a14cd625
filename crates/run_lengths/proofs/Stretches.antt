-- The two stretches one after the other: no background run follows another where it would begin with a foreground pixel, and the whole is read back.
use Rattle.std.proofs.Common.{◌≡◌, ℕ, zero, suc, ◌+◌, ◌-◌, ◌*◌, ◌<◌, ◌≤◌, Bool, true, false, cond, List, [], ◌∷◌, ◌++◌, length, take, drop, replicate, refl, ap, sym, subst, ◌∙◌, arith, append_assoc, append-nil, length-append, Ok}
use Rattle.std.specs.Prelude.{flat_map, map, zip, nat_lt, ◌==◌}
use Rattle.std.proofs.lemmas.Bool.Decides.{nat_tests}
use Rattle.std.proofs.lemmas.Bool.{and_parts}
use Rattle.std.proofs.lemmas.List.{length-drop, length-replicate, take-append-drop, length-take-le, map-append, take_all}
use Rattle.run_lengths.specs.declared.strokes.Stroke.{Stroke}
use Rattle.run_lengths.specs.declared.strokes.Stroke.TheVariants.{Plain, Above}
use Rattle.run_lengths.specs.declared.codes.Before.{Before}
use Rattle.run_lengths.specs.RunLength.{Run, Order, run_size, run_strokes, drawn_over, Drawn, drawn_after, before_next, follows_background, background_stroke, foreground_stroke, order_strokes, strokes_from, strokes_of, nothing_drawn, AreDrawn, Decompresses, run_orders_in}
use Rattle.run_lengths.specs.RunLength.Run.{Background, Foreground, Mask, Color, Image, Dithered}
use Rattle.run_lengths.specs.Packer.{Spot, background_count, color_count, chosen_run, first_run, runs_past, onto_runs, joined_images, packed_runs, first_stretch, later_stretch, packed, run_bytes}
use Rattle.run_lengths.proofs.Laws.{drawn_over-append, drawn_over_front, length-run_strokes}
use Rattle.px_core.specs.declared.depth.Depth.{Depth}
use Rattle.px_core.specs.Pixels.{is_pixel, are_pixels}
use Rattle.run_lengths.proofs.ReadBack.{IsPacked, AllPacked, sizes, plain, runs_back}
use Rattle.run_lengths.proofs.Runs.{pixels, aboves, Keeps, AllColored, AllFair, IsFair, Packs, chosen, runs_strokes, packed_runs_packs, length-pixels}

-- ---- background runs stand apart

abbrev pub is_background : Run → Bool
is_background (Background n) = true
is_background (Foreground n) = false
is_background (Mask bits) = false
is_background (Color n c) = false
is_background (Image cs) = false
is_background (Dithered n a b) = false

abbrev pub begins_background : List Run → Bool
begins_background [] = false
begins_background (r ∷ rs) = is_background r

-- no background run follows another at once
abbrev pub Apart : List Run → Type 0
Apart [] = Unit {0}
Apart (r ∷ rs) = (is_background r ≡ true → begins_background rs ≡ false) × Apart rs

count_after : (t : Bool) (n : ℕ) (spots : List Spot) (s : Spot) → (s.0 == s.1) ≡ t → background_count (drop n spots) ≡ 0 → background_count (drop (cond t (suc n) 0) (s ∷ spots)) ≡ 0
count_after true n spots s e h = h
count_after false n spots s e h = ap (λ t. cond t (suc (background_count spots)) 0) e

-- background isn't followed by more of it
background_ends : (spots : List Spot) → background_count (drop (background_count spots) spots) ≡ 0
background_ends [] = refl
background_ends (s ∷ spots) = count_after (s.0 == s.1) (background_count spots) spots s refl (background_ends spots)

begins_not : (b c color : ℕ) → b ≡ 0 → is_background (chosen_run b c color) ≡ false
begins_not b c color none = chosen (λ r. is_background r ≡ false) b c color (λ l m. absurd (omega (arith, l, none))) (λ l. refl) (λ h l. refl)

past_begins : (packed : ℕ) (spots : List Spot) → background_count (drop packed spots) ≡ 0 → begins_background (runs_past packed spots) ≡ false
past_begins zero [] none = refl
past_begins (suc packed) [] none = refl
past_begins (suc packed) (s ∷ spots) none = past_begins packed spots none
past_begins zero (s ∷ spots) none = begins_not (background_count (s ∷ spots)) (color_count s.0 (s ∷ spots)) s.0 none

drop_one_less : (b : ℕ) (s : Spot) (spots : List Spot) → 1 ≤ b → background_count (drop b (s ∷ spots)) ≡ 0 → background_count (drop (b - 1) spots) ≡ 0
drop_one_less zero s spots l e = absurd (omega (arith, l))
drop_one_less (suc b) s spots l e = ap (λ m. background_count (drop m spots)) (omega arith) ∙ e

past_apart : (packed : ℕ) (spots : List Spot) → Apart (runs_past packed spots)
past_apart zero [] = tt
past_apart (suc packed) [] = tt
past_apart (suc packed) (s ∷ spots) = past_apart packed spots
past_apart zero (s ∷ spots) =
    let b : ℕ = background_count (s ∷ spots) in
    let P : Run → Type 0 = λ r. is_background r ≡ true → begins_background (runs_past (run_size r - 1) spots) ≡ false in (
      chosen P b (color_count s.0 (s ∷ spots)) s.0
          (λ l m e. past_begins (b - 1) spots (drop_one_less b s spots l (background_ends (s ∷ spots))))
          (λ l e. cc)
          (λ h l e. cc),
      past_apart (run_size (first_run s spots) - 1) spots,
    )

onto_apart : (r : Run) (rs ss : List Run) → (is_background r ≡ true → begins_background rs ≡ false) → begins_background ss ≡ begins_background rs → Apart ss → Apart (onto_runs r ss) × (begins_background (onto_runs r ss) ≡ is_background r)
onto_apart (Background n) rs ss h e apart = ((λ t. e ∙ h t, apart), refl)
onto_apart (Foreground n) rs ss h e apart = ((λ t. cc, apart), refl)
onto_apart (Mask bits) rs ss h e apart = ((λ t. cc, apart), refl)
onto_apart (Color n c) rs ss h e apart = ((λ t. cc, apart), refl)
onto_apart (Dithered n a b) rs ss h e apart = ((λ t. cc, apart), refl)
onto_apart (Image cs) rs [] h e apart = ((λ t. cc, apart), refl)
onto_apart (Image cs) rs (Background n ∷ ss) h e apart = ((λ t. cc, apart), refl)
onto_apart (Image cs) rs (Foreground n ∷ ss) h e apart = ((λ t. cc, apart), refl)
onto_apart (Image cs) rs (Mask bits ∷ ss) h e apart = ((λ t. cc, apart), refl)
onto_apart (Image cs) rs (Color n c ∷ ss) h e apart = ((λ t. cc, apart), refl)
onto_apart (Image cs) rs (Dithered n a b ∷ ss) h e apart = ((λ t. cc, apart), refl)
onto_apart (Image cs) rs (Image ds ∷ ss) h e apart = ((λ t. cc, apart.1), refl)

joined_apart : (rs : List Run) → Apart rs → Apart (joined_images rs) × (begins_background (joined_images rs) ≡ begins_background rs)
joined_apart [] apart = (tt, refl)
joined_apart (r ∷ rs) apart = let rest = joined_apart rs apart.1 in onto_apart r rs (joined_images rs) apart.0 rest.1 rest.0

pub packed_runs_apart : (spots : List Spot) → Apart (packed_runs spots)
packed_runs_apart spots = (joined_apart (runs_past 0 spots) (past_apart 0 spots)).0

-- ---- strokes of a stretch

-- what stands drawn after runs, all of which begin in the first row or all later
abbrev pub drawn_past : Bool → Drawn → List Run → Drawn
drawn_past first d [] = d
drawn_past first d (r ∷ rs) = drawn_past first (record { count = d.count + run_size r; foreground = d.foreground; before = before_next r first }) rs

-- each run begins on the side of the first row's end that the test says
abbrev pub AllBegin : ℕ → Bool → ℕ → List Run → Type 0
AllBegin w first at [] = Unit {0}
AllBegin w first at (r ∷ rs) = (nat_lt at w ≡ first) × AllBegin w first (at + run_size r) rs

-- a background run that stands there begins as background
abbrev pub Ready : Before → Bool → List Run → Type 0
Ready before first rs = begins_background rs ≡ true → follows_background before first ≡ false

plain_strokes : (r : Run) (follows : Bool) (b f : Stroke) → (is_background r ≡ true → follows ≡ false) → run_strokes r follows b f ≡ run_strokes r false b f
plain_strokes (Background n) follows b f h = ap (λ t. run_strokes (Background n) t b f) (h refl)
plain_strokes (Foreground n) follows b f h = refl
plain_strokes (Mask bits) follows b f h = refl
plain_strokes (Color n c) follows b f h = refl
plain_strokes (Image cs) follows b f h = refl
plain_strokes (Dithered n x y) follows b f h = refl

next_ready : (r : Run) (first : Bool) (rs : List Run) → (is_background r ≡ true → begins_background rs ≡ false) → Ready (before_next r first) first rs
next_ready (Background n) first rs h e = let no : begins_background rs ≡ false = h refl in cc
next_ready (Foreground n) first rs h e = refl
next_ready (Mask bits) first rs h e = refl
next_ready (Color n c) first rs h e = refl
next_ready (Image cs) first rs h e = refl
next_ready (Dithered n a b) first rs h e = refl

-- the strokes of runs that begin alike, and of what follows them
stretch_strokes : (w : ℕ) (first : Bool) (d : Drawn) (rs : List Run) (more : List Order) → AllBegin w first d.count rs → Ready d.before first rs → Apart rs → strokes_from w d (map plain rs ++ more) ≡ runs_strokes (background_stroke first) (foreground_stroke first d.foreground) rs ++ strokes_from w (drawn_past first d rs) more
stretch_strokes w first d [] more begin ready apart = refl
stretch_strokes w first d (r ∷ rs) more begin ready apart =
    let b : Stroke = background_stroke first in
    let f : Stroke = foreground_stroke first d.foreground in
    let next : Drawn = record { count = d.count + run_size r; foreground = d.foreground; before = before_next r first } in
    let here : order_strokes w d (plain r) ≡ run_strokes r false b f = ap (λ t. run_strokes r (follows_background d.before t) (background_stroke t) (foreground_stroke t d.foreground)) begin.0 ∙ plain_strokes r (follows_background d.before first) b f ready in
    let after : drawn_after w d (plain r) ≡ next = ap (λ t. record { count = d.count + run_size r; foreground = d.foreground; before = before_next r t }) begin.0 in
    ap (λ ss. ss ++ strokes_from w (drawn_after w d (plain r)) (map plain rs ++ more)) here
    ∙ ap (λ e. run_strokes r false b f ++ strokes_from w e (map plain rs ++ more)) after
    ∙ ap (λ ss. run_strokes r false b f ++ ss) (stretch_strokes w first next rs more begin.1 (next_ready r first rs apart.0) apart.1)
    ∙ sym (append_assoc (run_strokes r false b f) (runs_strokes b f rs) (strokes_from w (drawn_past first next rs) more))

-- ---- the whole

length-runs_strokes : (b f : Stroke) (rs : List Run) → length (runs_strokes b f rs) ≡ sizes rs
length-runs_strokes b f [] = refl
length-runs_strokes b f (r ∷ rs) = length-append (run_strokes r false b f) (runs_strokes b f rs) ∙ omega (arith, length-run_strokes r false b f, length-runs_strokes b f rs)

fair_size : (depth : Depth) (r : Run) → IsFair depth r → 1 ≤ run_size r
fair_size depth (Background n) h = h
fair_size depth (Color n c) h = h.0
fair_size depth (Image cs) h = h.0
fair_size depth (Foreground n) h = absurd h
fair_size depth (Mask bits) h = absurd h
fair_size depth (Dithered n a b) h = absurd h

fair_packed : (depth : Depth) (r : Run) → IsFair depth r → run_size r < 65536 → IsPacked depth r
fair_packed depth (Background n) h lt = (h, lt)
fair_packed depth (Color n c) h lt = (h.0, lt, h.1)
fair_packed depth (Image cs) h lt = (h.0, lt, h.1)
fair_packed depth (Foreground n) h lt = absurd h
fair_packed depth (Mask bits) h lt = absurd h
fair_packed depth (Dithered n a b) h lt = absurd h

all_packed : (depth : Depth) (rs : List Run) → AllFair depth rs → sizes rs < 65536 → AllPacked depth rs
all_packed depth [] h lt = tt
all_packed depth (r ∷ rs) h lt = (fair_packed depth r h.0 (omega (arith, lt)), all_packed depth rs h.1 (omega (arith, lt)))

all_packed-append : (depth : Depth) (rs ss : List Run) → AllPacked depth rs → AllPacked depth ss → AllPacked depth (rs ++ ss)
all_packed-append depth [] ss h k = k
all_packed-append depth (r ∷ rs) ss h k = (h.0, all_packed-append depth rs ss h.1 k)

sizes-append : (rs ss : List Run) → sizes (rs ++ ss) ≡ sizes rs + sizes ss
sizes-append [] ss = omega arith
sizes-append (r ∷ rs) ss = omega (arith, sizes-append rs ss)

bytes-append : (depth : Depth) (rs ss : List Run) → flat_map (run_bytes depth) (rs ++ ss) ≡ flat_map (run_bytes depth) rs ++ flat_map (run_bytes depth) ss
bytes-append depth [] ss = refl
bytes-append depth (r ∷ rs) ss = ap (λ bs. run_bytes depth r ++ bs) (bytes-append depth rs ss) ∙ sym (append_assoc (run_bytes depth r) (flat_map (run_bytes depth) rs) (flat_map (run_bytes depth) ss))

first_begin : (depth : Depth) (w at : ℕ) (rs : List Run) → AllFair depth rs → at + sizes rs ≤ w → AllBegin w true at rs
first_begin depth w at [] h le = tt
first_begin depth w at (r ∷ rs) h le =
    let some : 1 ≤ run_size r = fair_size depth r h.0 in
    let lt : at < w = omega (arith, some, le) in
    let test : nat_lt at w ≡ true = grind (arith, nat_tests, lt) in
    (test, first_begin depth w (at + run_size r) rs h.1 (omega (arith, le)))

later_begin : (w at : ℕ) (rs : List Run) → w ≤ at → AllBegin w false at rs
later_begin w at [] le = tt
later_begin w at (r ∷ rs) le = let test : nat_lt at w ≡ false = grind (arith, nat_tests, le) in (test, later_begin w (at + run_size r) rs (omega (arith, le)))

past_count : (first : Bool) (d : Drawn) (rs : List Run) → (drawn_past first d rs).count ≡ d.count + sizes rs
past_count first d [] = omega arith
past_count first d (r ∷ rs) = past_count first (record { count = d.count + run_size r; foreground = d.foreground; before = before_next r first }) rs ∙ omega arith

next_is_early : (r : Run) → follows_background (before_next r true) false ≡ false
next_is_early (Background n) = refl
next_is_early (Foreground n) = refl
next_is_early (Mask bits) = refl
next_is_early (Color n c) = refl
next_is_early (Image cs) = refl
next_is_early (Dithered n a b) = refl

past_is_early : (d : Drawn) (rs : List Run) → follows_background d.before false ≡ false → follows_background (drawn_past true d rs).before false ≡ false
past_is_early d [] h = h
past_is_early d (r ∷ rs) h = past_is_early (record { count = d.count + run_size r; foreground = d.foreground; before = before_next r true }) rs (next_is_early r)

pub pixels-zip : (xs ys : List ℕ) → pixels (zip xs ys) ≡ take (length ys) xs
pixels-zip [] [] = refl
pixels-zip [] (y ∷ ys) = refl
pixels-zip (x ∷ xs) [] = refl
pixels-zip (x ∷ xs) (y ∷ ys) = ap (λ zs. x ∷ zs) (pixels-zip xs ys)

aboves-zip : (xs ys : List ℕ) → aboves (zip xs ys) ≡ take (length xs) ys
aboves-zip [] ys = refl
aboves-zip (x ∷ xs) [] = refl
aboves-zip (x ∷ xs) (y ∷ ys) = ap (λ zs. y ∷ zs) (aboves-zip xs ys)

keeps_black : (xs : List ℕ) (n : ℕ) → Keeps (Plain 0) (zip xs (replicate n 0))
keeps_black [] n = tt
keeps_black (x ∷ xs) zero = tt
keeps_black (x ∷ xs) (suc n) = (refl, keeps_black xs n)

keeps_above : (spots : List Spot) → Keeps Above spots
keeps_above [] = tt
keeps_above (s ∷ spots) = (refl, keeps_above spots)

are_pixels-drop : (depth : Depth) (n : ℕ) (cs : List ℕ) → are_pixels depth cs ≡ true → are_pixels depth (drop n cs) ≡ true
are_pixels-drop depth zero cs h = h
are_pixels-drop depth (suc n) [] h = refl
are_pixels-drop depth (suc n) (c ∷ cs) h = are_pixels-drop depth n cs (and_parts (is_pixel depth c) (are_pixels depth cs) h).1

zip_colored : (depth : Depth) (xs ys : List ℕ) → are_pixels depth xs ≡ true → AllColored depth (zip xs ys)
zip_colored depth [] ys h = tt
zip_colored depth (x ∷ xs) [] h = tt
zip_colored depth (x ∷ xs) (y ∷ ys) h = let k = and_parts (is_pixel depth x) (are_pixels depth xs) h in (k.0, zip_colored depth xs ys k.1)

-- the packer's bytes stand for the pixels
pub packed_decompresses : (depth : Depth) (w h : ℕ) (ps : List ℕ) → 1 ≤ w → w ≤ length ps → length ps ≡ w * h → length ps < 65536 → are_pixels depth ps ≡ true → Decompresses depth (packed depth w ps) w h ps
packed_decompresses depth w h ps some wide count small colors =
    let black : List ℕ = replicate w 0 in
    let long : length black ≡ w = length-replicate w 0 in
    let early : List Spot = first_stretch w ps in
    let late : List Spot = later_stretch w ps in
    let rs : List Run = packed_runs early in
    let ss : List Run = packed_runs late in
    let d : Drawn = drawn_past true (nothing_drawn depth) rs in
    let b : Stroke = Plain 0 in
    let f : Stroke = foreground_stroke true (nothing_drawn depth).foreground in
    let g : Stroke = foreground_stroke false d.foreground in
    let first : Packs depth b f early rs = packed_runs_packs depth b f early (keeps_black ps w) (zip_colored depth ps black colors) in
    let second : Packs depth Above g late ss = packed_runs_packs depth Above g late (keeps_above late) (zip_colored depth (drop w ps) ps (are_pixels-drop depth w ps colors)) in
    let rest : length (drop w ps) ≡ length ps - w = length-drop w ps in
    let early_pixels : pixels early ≡ take w ps = pixels-zip ps black ∙ ap (λ n. take n ps) long in
    let early_aboves : aboves early ≡ black = aboves-zip ps black ∙ take_all (length ps) black (omega (arith, long, wide)) in
    let late_pixels : pixels late ≡ drop w ps = pixels-zip (drop w ps) ps ∙ take_all (length ps) (drop w ps) (omega (arith, rest)) in
    let late_aboves : aboves late ≡ take (length ps - w) ps = aboves-zip (drop w ps) ps ∙ ap (λ n. take n ps) rest in
    let early_size : sizes rs ≡ w = first.all ∙ sym (length-pixels early) ∙ ap length early_pixels ∙ length-take-le w ps wide in
    let late_size : sizes ss ≡ length ps - w = second.all ∙ sym (length-pixels late) ∙ ap length late_pixels ∙ rest in
    let total : sizes (rs ++ ss) ≡ w * h = sizes-append rs ss ∙ omega (arith, early_size, late_size, count, wide) in
    let whole : AllPacked depth (rs ++ ss) = all_packed-append depth rs ss (all_packed depth rs first.fair (omega (arith, early_size, small, wide))) (all_packed depth ss second.fair (omega (arith, late_size, small))) in
    let cut : run_orders_in depth (w * h) (packed depth w ps) ≡ Ok (map plain (rs ++ ss)) = ap (run_orders_in depth (w * h)) (sym (bytes-append depth rs ss)) ∙ ap (λ n. run_orders_in depth n (flat_map (run_bytes depth) (rs ++ ss))) (sym total) ∙ runs_back depth (rs ++ ss) whole in
    let S : List Stroke = runs_strokes b f rs in
    let T : List Stroke = runs_strokes Above g ss in
    let at : d.count ≡ w = past_count true (nothing_drawn depth) rs ∙ omega (arith, early_size) in
    let tail : strokes_from w d (map plain ss) ≡ T = ap (strokes_from w d) (sym (append-nil (map plain ss))) ∙ stretch_strokes w false d ss [] (later_begin w d.count ss (omega (arith, at))) (λ e. past_is_early (nothing_drawn depth) rs refl) (packed_runs_apart late) ∙ append-nil T in
    let strokes : strokes_of depth w (map plain (rs ++ ss)) ≡ S ++ T = ap (strokes_of depth w) (map-append plain rs ss) ∙ stretch_strokes w true (nothing_drawn depth) rs (map plain ss) (first_begin depth w 0 rs first.fair (omega (arith, early_size))) (λ e. refl) (packed_runs_apart early) ∙ ap (λ ts. S ++ ts) tail in
    let S_size : length S ≡ w = length-runs_strokes b f rs ∙ early_size in
    let T_size : length T ≡ length ps - w = length-runs_strokes Above g ss ∙ late_size in
    let short : length (take (length ps - w) ps) ≡ length ps - w = length-take-le (length ps - w) ps (omega arith) in
    let early_drawn : drawn_over S black ≡ take w ps = ap (drawn_over S) (sym early_aboves) ∙ first.draws ∙ early_pixels in
    let late_drawn : drawn_over T ps ≡ drop w ps = ap (drawn_over T) (sym (take-append-drop (length ps - w) ps)) ∙ drawn_over_front T (take (length ps - w) ps) (drop (length ps - w) ps) (T_size ∙ sym short) ∙ ap (drawn_over T) (sym late_aboves) ∙ second.draws ∙ late_pixels in
    let drawn : drawn_over (S ++ T) (black ++ ps) ≡ ps = drawn_over-append S T black ps (S_size ∙ sym long) ∙ ap (λ xs. xs ++ drawn_over T ps) early_drawn ∙ ap (λ xs. take w ps ++ xs) late_drawn ∙ take-append-drop w ps in
    let P : List Stroke → Type 0 = λ qs. AreDrawn w qs ps in
    record { orders = map plain (rs ++ ss); cut = cut; drawn = subst P (sym strokes) (sym drawn) }
