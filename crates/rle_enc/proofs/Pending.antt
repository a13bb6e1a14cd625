-- Pixels that stand for themselves and aren't written yet, before the runs that follow them.
use Rattle.std.proofs.Common.{◌≡◌, ℕ, zero, suc, ◌+◌, ◌-◌, ◌<◌, ◌≤◌, List, [], ◌∷◌, ◌++◌, length, take, drop, replicate, get_or, refl, ap, sym, subst, ◌∙◌, arith, append_assoc, append-nil}
use Rattle.std.specs.Prelude.{zip, flat_map, Option, Some, None, Result, Ok, Err, OnOk}
use Rattle.std.proofs.lemmas.List.{drop_all, take_more, length-drop, drop-replicate, get_or-drop, drop-drop}
use Rattle.px_core.specs.declared.depth.Depth.{Depth}
use Rattle.run_lengths.specs.RunLength.{Run, run_size}
use Rattle.run_lengths.specs.RunLength.Run.{Background, Foreground, Mask, Color, Image, Dithered}
use Rattle.run_lengths.specs.Packer.{Spot, background_count, color_count, chosen_run, first_run, runs_past, onto_runs, joined_images, packed_runs, run_bytes}
use Rattle.rle_enc.specs.declared.counts.Piece.{Piece}
use Rattle.rle_enc.specs.declared.counts.Piece.TheVariants.{Background as PieceBackground, Color as PieceColor}
use Rattle.rle_enc.specs.Stretch.{StandAlone, StartsRun, after_literals, bytes_from, leading, literal_bytes, piece_run, piece_size, spots_in, HasItems, dropped}
use Rattle.run_lengths.proofs.Runs.{pixels, pixels-drop, length-pixels, drop_first, chosen}
use Rattle.rle_enc.proofs.Counting.{piece_literal, pixels_of_spots}

image_onto : (cs ds : List ℕ) (rs : List Run) → onto_runs (Image cs) (onto_runs (Image ds) rs) ≡ onto_runs (Image (cs ++ ds)) rs
image_onto cs ds [] = refl
image_onto cs ds (Background n ∷ rs) = refl
image_onto cs ds (Foreground n ∷ rs) = refl
image_onto cs ds (Mask bits ∷ rs) = refl
image_onto cs ds (Color n c ∷ rs) = refl
image_onto cs ds (Dithered n a b ∷ rs) = refl
image_onto cs ds (Image es ∷ rs) = ap (λ us. Image us ∷ rs) (sym (append_assoc cs ds es))

-- pixels more that stand for themselves
more_literals : (cs ds : List ℕ) (rs : List Run) → after_literals cs (after_literals ds rs) ≡ after_literals (cs ++ ds) rs
more_literals [] ds rs = refl
more_literals (c ∷ cs) [] rs = ap (λ us. after_literals us rs) (sym (append-nil (c ∷ cs)))
more_literals (c ∷ cs) (d ∷ ds) rs = image_onto (c ∷ cs) (d ∷ ds) rs

-- the bytes of pixels that stand for themselves go before those of another run
literals_then : (depth : Depth) (cs : List ℕ) (n : ℕ) (rs : List Run) → flat_map (run_bytes depth) (after_literals cs (Background n ∷ rs)) ≡ literal_bytes depth cs ++ (run_bytes depth (Background n) ++ flat_map (run_bytes depth) rs)
literals_then depth [] n rs = refl
literals_then depth (c ∷ cs) n rs = refl

literals_then_color : (depth : Depth) (cs : List ℕ) (n x : ℕ) (rs : List Run) → flat_map (run_bytes depth) (after_literals cs (Color n x ∷ rs)) ≡ literal_bytes depth cs ++ (run_bytes depth (Color n x) ++ flat_map (run_bytes depth) rs)
literals_then_color depth [] n x rs = refl
literals_then_color depth (c ∷ cs) n x rs = refl

literals_last : (depth : Depth) (cs : List ℕ) → flat_map (run_bytes depth) (after_literals cs []) ≡ literal_bytes depth cs
literals_last depth [] = refl
literals_last depth (c ∷ cs) = append-nil (run_bytes depth (Image (c ∷ cs)))

-- ---- the runs from a place on

past_drop : (n : ℕ) (spots : List Spot) → runs_past n spots ≡ runs_past 0 (drop n spots)
past_drop zero spots = refl
past_drop (suc n) [] = refl
past_drop (suc n) (s ∷ spots) = past_drop n spots

zip_none : (zs : List ℕ) → zip {X = ℕ} zs [] ≡ []
zip_none [] = refl
zip_none (z ∷ zs) = refl

drop-zip : (n : ℕ) (xs ys : List ℕ) → drop n (zip xs ys) ≡ zip (drop n xs) (drop n ys)
drop-zip zero xs ys = refl
drop-zip (suc n) [] ys = refl
drop-zip (suc n) (x ∷ xs) [] = sym (zip_none (drop n xs))
drop-zip (suc n) (x ∷ xs) (y ∷ ys) = drop-zip n xs ys

pub drop-spots : (n : ℕ) (row : Option (List ℕ)) (ps : List ℕ) → drop n (spots_in row ps) ≡ spots_in (dropped n row) (drop n ps)
drop-spots n None ps = drop-zip n ps (replicate (length ps) 0) ∙ ap (zip (drop n ps)) (drop-replicate n (length ps) 0 ∙ ap (λ m. replicate m 0) (sym (length-drop n ps)))
drop-spots n (Some row) ps = drop-zip n ps row

-- ---- one step of packing

chosen_some : (b c x : ℕ) → 1 ≤ run_size (chosen_run b c x)
chosen_some b c x = chosen (λ r. 1 ≤ run_size r) b c x (λ l m. l) (λ l. omega (arith, l)) (λ h l. omega arith)

-- the first run of spots before those after it
front_of : (spots : List Spot) (x : ℕ) (r : Run) → 0 < length spots → get_or (pixels spots) 0 0 ≡ x → r ≡ chosen_run (background_count spots) (color_count x spots) x → joined_images (runs_past 0 spots) ≡ onto_runs r (joined_images (runs_past 0 (drop (run_size r) spots)))
front_of [] x r h e f = absurd (omega (arith, h))
front_of (s ∷ spots) x r h e f =
    let some : 1 ≤ run_size r = let P : Run → Type 0 = λ q. 1 ≤ run_size q in subst P (sym f) (chosen_some (background_count (s ∷ spots)) (color_count x (s ∷ spots)) x) in
    let here : first_run s spots ≡ r = ap (λ y. chosen_run (background_count (s ∷ spots)) (color_count y (s ∷ spots)) y) e ∙ sym f in
    let rest : runs_past (run_size r - 1) spots ≡ runs_past 0 (drop (run_size r) (s ∷ spots)) = past_drop (run_size r - 1) spots ∙ ap (runs_past 0) (sym (drop_first (run_size r) s spots some)) in
    ap (λ q. onto_runs q (joined_images (runs_past (run_size q - 1) spots))) here ∙ ap (λ rs. onto_runs r (joined_images rs)) rest

-- the runs from a place on are the piece there and those after it
pub front_at : (row : Option (List ℕ)) (ps : List ℕ) (at x : ℕ) (r : Run) → at < length ps → HasItems (length ps) row → x ≡ get_or ps at 0 → r ≡ chosen_run (background_count (spots_in (dropped at row) (drop at ps))) (color_count x (spots_in (dropped at row) (drop at ps))) x → joined_images (runs_past 0 (drop at (spots_in row ps))) ≡ onto_runs r (joined_images (runs_past 0 (drop (at + run_size r) (spots_in row ps))))
front_at row ps at x r lt h e f =
    let spots : List Spot = spots_in row ps in
    let same : pixels spots ≡ ps = pixels_of_spots row ps h in
    let here : pixels (drop at spots) ≡ drop at ps = pixels-drop at spots ∙ ap (drop at) same in
    let long : length (drop at spots) ≡ length ps - at = sym (length-pixels (drop at spots)) ∙ ap length here ∙ length-drop at ps in
    let first : get_or (pixels (drop at spots)) 0 0 ≡ x = ap (λ us. get_or us 0 0) here ∙ get_or-drop at ps 0 0 ∙ ap (λ n. get_or ps n 0) (omega arith) ∙ sym e in
    let g : r ≡ chosen_run (background_count (drop at spots)) (color_count x (drop at spots)) x = f ∙ ap (λ ss. chosen_run (background_count ss) (color_count x ss) x) (sym (drop-spots at row ps)) in
    front_of (drop at spots) x r (omega (arith, long, lt)) first g ∙ ap (λ ss. onto_runs r (joined_images (runs_past 0 ss))) (drop-drop (run_size r) at spots)

-- a background run after pixels that stand for themselves
pub background_step : (depth : Depth) (row : Option (List ℕ)) (ps : List ℕ) (at x n : ℕ) (lits p p1 q whole : List ℕ) → at < length ps → HasItems (length ps) row → x ≡ get_or ps at 0 → Background n ≡ chosen_run (background_count (spots_in (dropped at row) (drop at ps))) (color_count x (spots_in (dropped at row) (drop at ps))) x →
    p1 ≡ p ++ literal_bytes depth lits → q ≡ p1 ++ run_bytes depth (Background n) →
    p ++ flat_map (run_bytes depth) (after_literals lits (joined_images (runs_past 0 (drop at (spots_in row ps))))) ≡ whole →
    q ++ flat_map (run_bytes depth) (joined_images (runs_past 0 (drop (at + n) (spots_in row ps)))) ≡ whole
background_step depth row ps at x n lits p p1 q whole lt h e f g i w =
    let rest : List Run = joined_images (runs_past 0 (drop (at + n) (spots_in row ps))) in
    let front : joined_images (runs_past 0 (drop at (spots_in row ps))) ≡ Background n ∷ rest = front_at row ps at x (Background n) lt h e f in
    ap (λ us. us ++ flat_map (run_bytes depth) rest) (i ∙ ap (λ us. us ++ run_bytes depth (Background n)) g)
    ∙ append_assoc (p ++ literal_bytes depth lits) (run_bytes depth (Background n)) (flat_map (run_bytes depth) rest)
    ∙ append_assoc p (literal_bytes depth lits) (run_bytes depth (Background n) ++ flat_map (run_bytes depth) rest)
    ∙ ap (λ us. p ++ us) (sym (literals_then depth lits n rest))
    ∙ ap (λ rs. p ++ flat_map (run_bytes depth) (after_literals lits rs)) (sym front)
    ∙ w

-- a colour run after pixels that stand for themselves
pub color_step : (depth : Depth) (row : Option (List ℕ)) (ps : List ℕ) (at x n : ℕ) (lits p p1 q whole : List ℕ) → at < length ps → HasItems (length ps) row → x ≡ get_or ps at 0 → Color n x ≡ chosen_run (background_count (spots_in (dropped at row) (drop at ps))) (color_count x (spots_in (dropped at row) (drop at ps))) x →
    p1 ≡ p ++ literal_bytes depth lits → q ≡ p1 ++ run_bytes depth (Color n x) →
    p ++ flat_map (run_bytes depth) (after_literals lits (joined_images (runs_past 0 (drop at (spots_in row ps))))) ≡ whole →
    q ++ flat_map (run_bytes depth) (joined_images (runs_past 0 (drop (at + n) (spots_in row ps)))) ≡ whole
color_step depth row ps at x n lits p p1 q whole lt h e f g i w =
    let rest : List Run = joined_images (runs_past 0 (drop (at + n) (spots_in row ps))) in
    let front : joined_images (runs_past 0 (drop at (spots_in row ps))) ≡ Color n x ∷ rest = front_at row ps at x (Color n x) lt h e f in
    ap (λ us. us ++ flat_map (run_bytes depth) rest) (i ∙ ap (λ us. us ++ run_bytes depth (Color n x)) g)
    ∙ append_assoc (p ++ literal_bytes depth lits) (run_bytes depth (Color n x)) (flat_map (run_bytes depth) rest)
    ∙ append_assoc p (literal_bytes depth lits) (run_bytes depth (Color n x) ++ flat_map (run_bytes depth) rest)
    ∙ ap (λ us. p ++ us) (sym (literals_then_color depth lits n x rest))
    ∙ ap (λ rs. p ++ flat_map (run_bytes depth) (after_literals lits rs)) (sym front)
    ∙ w

-- one pixel more at the front that stands for itself
pub alone_step : (row : Option (List ℕ)) (ps : List ℕ) (n x : ℕ) → n < length ps → HasItems (length ps) row → x ≡ get_or ps n 0 → Image (x ∷ []) ≡ chosen_run (background_count (spots_in (dropped n row) (drop n ps))) (color_count x (spots_in (dropped n row) (drop n ps))) x →
    StandAlone n ps (spots_in row ps) → StandAlone (n + 1) ps (spots_in row ps)
alone_step row ps n x lt h e f alone =
    let rest : List Run = packed_runs (drop (n + 1) (spots_in row ps)) in
    let front : packed_runs (drop n (spots_in row ps)) ≡ onto_runs (Image (x ∷ [])) rest = front_at row ps n x (Image (x ∷ [])) lt h e f in
    let more : take (n + 1) ps ≡ take n ps ++ x ∷ [] = take_more ps n 0 lt ∙ ap (λ y. take n ps ++ y ∷ []) (sym e) in
    alone ∙ ap (after_literals (take n ps)) front ∙ more_literals (take n ps) (x ∷ []) rest ∙ ap (λ us. after_literals us rest) (sym more)

-- what is packed first of the slices from a place on, in terms of the whole
pub piece_at : (row rows : Option (List ℕ)) (ps qs : List ℕ) (at : ℕ) (r : ℕ → Run) → rows ≡ dropped at row → qs ≡ drop at ps → r (get_or qs 0 0) ≡ chosen_run (background_count (spots_in rows qs)) (color_count (get_or qs 0 0) (spots_in rows qs)) (get_or qs 0 0) → r (get_or ps at 0) ≡ chosen_run (background_count (spots_in (dropped at row) (drop at ps))) (color_count (get_or ps at 0) (spots_in (dropped at row) (drop at ps))) (get_or ps at 0)
piece_at row rows ps qs at r e d f =
    let x : get_or qs 0 0 ≡ get_or ps at 0 = ap (λ us. get_or us 0 0) d ∙ get_or-drop at ps 0 0 ∙ ap (λ n. get_or ps n 0) (omega arith) in
    let R : Option (List ℕ) → List ℕ → ℕ → Run = λ rs us y. chosen_run (background_count (spots_in rs us)) (color_count y (spots_in rs us)) y in
    ap r (sym x) ∙ f ∙ ap (λ rs. R rs qs (get_or qs 0 0)) e ∙ ap (λ us. R (dropped at row) us (get_or qs 0 0)) d ∙ ap (λ y. R (dropped at row) (drop at ps) y) x

has_dropped : (row : Option (List ℕ)) (k n : ℕ) → HasItems k row → HasItems (k - n) (dropped n row)
has_dropped None k n h = tt
has_dropped (Some row) k n h = omega (arith, length-drop n row, h)

-- the same by the counts of the slices from there on
pub alone_more : (row rows : Option (List ℕ)) (ps qs : List ℕ) (n : ℕ) → n < length ps → HasItems (length ps) row → rows ≡ dropped n row → qs ≡ drop n ps → background_count (spots_in rows qs) < 1 → leading (get_or qs 0 0) qs < 2 → StandAlone n ps (spots_in row ps) → StandAlone (n + 1) ps (spots_in row ps)
alone_more row rows ps qs n lt h e d none own alone =
    let size : length ps - n ≡ length qs = sym (ap length d ∙ length-drop n ps) in
    let P : Option (List ℕ) → Type 0 = λ r. HasItems (length qs) r in
    let Q : ℕ → Type 0 = λ k. HasItems k (dropped n row) in
    let has : HasItems (length qs) rows = subst P (sym e) (subst Q size (has_dropped row (length ps) n h)) in
    let here : Image (get_or qs 0 0 ∷ []) ≡ chosen_run (background_count (spots_in rows qs)) (color_count (get_or qs 0 0) (spots_in rows qs)) (get_or qs 0 0) = piece_literal rows qs (background_count (spots_in rows qs)) (leading (get_or qs 0 0) qs) (get_or qs 0 0) has refl refl none own in
    alone_step row ps n (get_or ps n 0) lt h refl (piece_at row rows ps qs n (λ x. Image (x ∷ [])) e d here) alone

-- the slices from a place on have the spots from there on
spots_there : (row rows : Option (List ℕ)) (ps qs : List ℕ) (at : ℕ) → rows ≡ dropped at row → qs ≡ drop at ps → spots_in rows qs ≡ drop at (spots_in row ps)
spots_there row rows ps qs at e d = ap (λ r. spots_in r qs) e ∙ ap (spots_in (dropped at row)) d ∙ sym (drop-spots at row ps)

-- where a run starts
starts_as : (ps qs : List ℕ) (spots others : List Spot) → ps ≡ qs → spots ≡ others → StartsRun ps spots → StartsRun qs others
starts_as ps qs spots others e f starts = subst (λ ss. StartsRun qs ss) f (subst (λ us. StartsRun us spots) e starts)

pub starts_at : (row rows : Option (List ℕ)) (ps qs : List ℕ) (n : ℕ) → rows ≡ dropped n row → qs ≡ drop n ps → StartsRun qs (spots_in rows qs) → StartsRun (drop n ps) (drop n (spots_in row ps))
starts_at row rows ps qs n e d starts = starts_as qs (drop n ps) (spots_in rows qs) (drop n (spots_in row ps)) d (spots_there row rows ps qs n e d) starts

pub starts_behind : (row rows others : Option (List ℕ)) (ps qs us : List ℕ) (at n : ℕ) → rows ≡ dropped at row → qs ≡ drop at ps → others ≡ dropped (at + n) row → us ≡ drop (at + n) ps → StartsRun (drop n qs) (drop n (spots_in rows qs)) → StartsRun us (spots_in others us)
starts_behind row rows others ps qs us at n e d f g starts =
    starts_as (drop n qs) us (drop n (spots_in rows qs)) (spots_in others us)
    (ap (drop n) d ∙ drop-drop n at ps ∙ sym g)
    (ap (drop n) (spots_there row rows ps qs at e d) ∙ drop-drop n at (spots_in row ps) ∙ sym (spots_there row others ps us (at + n) f g))
    starts

-- pixels that stand for themselves, once they are written
pub literals_step : (depth : Depth) (row rows : Option (List ℕ)) (ps qs : List ℕ) (at n k : ℕ) (p q whole : List ℕ) → rows ≡ dropped at row → qs ≡ drop at ps → k ≡ n → q ≡ p ++ literal_bytes depth (take k (drop at ps)) → StandAlone n qs (spots_in rows qs) →
    p ++ flat_map (run_bytes depth) (packed_runs (drop at (spots_in row ps))) ≡ whole →
    (q ≡ p ++ literal_bytes depth (take n (drop at ps))) × (p ++ flat_map (run_bytes depth) (after_literals (take n (drop at ps)) (packed_runs (drop (at + n) (spots_in row ps)))) ≡ whole)
literals_step depth row rows ps qs at n k p q whole e d same g alone w =
    let here : spots_in rows qs ≡ drop at (spots_in row ps) = spots_there row rows ps qs at e d in
    let front : packed_runs (drop at (spots_in row ps)) ≡ after_literals (take n (drop at ps)) (packed_runs (drop (at + n) (spots_in row ps))) =
    ap packed_runs (sym here) ∙ alone ∙ ap (λ ss. after_literals (take n qs) (packed_runs (drop n ss))) here
    ∙ ap (λ us. after_literals (take n us) (packed_runs (drop n (drop at (spots_in row ps))))) d
    ∙ ap (λ ss. after_literals (take n (drop at ps)) (packed_runs ss)) (drop-drop n at (spots_in row ps)) in
    (g ∙ ap (λ m. p ++ literal_bytes depth (take m (drop at ps))) same, ap (λ rs. p ++ flat_map (run_bytes depth) rs) (sym front) ∙ w)

-- no spot is left behind the last pixel
none_behind : (row : Option (List ℕ)) (ps : List ℕ) (at : ℕ) → length ps ≤ at → HasItems (length ps) row → drop at (spots_in row ps) ≡ []
none_behind row ps at end h =
    let long : length (spots_in row ps) ≡ length ps = sym (length-pixels (spots_in row ps)) ∙ ap length (pixels_of_spots row ps h) in
    drop_all at (spots_in row ps) (omega (arith, long, end))

-- pixels that stand for themselves end a stretch
pub literals_end : (depth : Depth) (row : Option (List ℕ)) (ps : List ℕ) (at : ℕ) (lits p q whole : List ℕ) → length ps ≤ at → HasItems (length ps) row → q ≡ p ++ literal_bytes depth lits →
    p ++ flat_map (run_bytes depth) (after_literals lits (packed_runs (drop at (spots_in row ps)))) ≡ whole →
    q ++ flat_map (run_bytes depth) (packed_runs (drop at (spots_in row ps))) ≡ whole
literals_end depth row ps at lits p q whole end h e w =
    let none : drop at (spots_in row ps) ≡ [] = none_behind row ps at end h in
    ap (λ ss. q ++ flat_map (run_bytes depth) (packed_runs ss)) none ∙ append-nil q ∙ e
    ∙ ap (λ us. p ++ us) (sym (literals_last depth lits))
    ∙ ap (λ ss. p ++ flat_map (run_bytes depth) (after_literals lits (packed_runs ss))) (sym none)
    ∙ w

-- the end of a stretch
pub stretch_end : (depth : Depth) (row : Option (List ℕ)) (ps : List ℕ) (at : ℕ) (p whole : List ℕ) → length ps ≤ at → HasItems (length ps) row → p ++ flat_map (run_bytes depth) (packed_runs (drop at (spots_in row ps))) ≡ whole → p ≡ whole
stretch_end depth row ps at p whole end h w = sym (append-nil p) ∙ ap (λ ss. p ++ flat_map (run_bytes depth) (packed_runs ss)) (sym (none_behind row ps at end h)) ∙ w

-- ---- what comes first from a place on, once it is written

-- pixels that stand for themselves and the run behind them
pub step_packed : (depth : Depth) (row : Option (List ℕ)) (ps : List ℕ) (at l x : ℕ) (piece : Piece) (p p1 q : List ℕ) → at + l < length ps → HasItems (length ps) row → x ≡ get_or ps (at + l) 0 → StandAlone l (drop at ps) (drop at (spots_in row ps)) →
    piece_run x piece ≡ chosen_run (background_count (spots_in (dropped (at + l) row) (drop (at + l) ps))) (color_count x (spots_in (dropped (at + l) row) (drop (at + l) ps))) x →
    p1 ≡ p ++ literal_bytes depth (take l (drop at ps)) → q ≡ p1 ++ run_bytes depth (piece_run x piece) →
    q ++ bytes_from depth (at + l + piece_size piece) (spots_in row ps) ≡ p ++ bytes_from depth at (spots_in row ps)
step_packed depth row ps at l x piece p p1 q lt h e alone f g i =
    let front : packed_runs (drop at (spots_in row ps)) ≡ after_literals (take l (drop at ps)) (packed_runs (drop (at + l) (spots_in row ps))) = alone ∙ ap (λ ss. after_literals (take l (drop at ps)) (packed_runs ss)) (drop-drop l at (spots_in row ps)) in
    by_piece piece f i (ap (λ rs. p ++ flat_map (run_bytes depth) rs) (sym front))
  where
    whole : List ℕ
    whole = p ++ bytes_from depth at (spots_in row ps)

    by_piece : (r : Piece) → piece_run x r ≡ chosen_run (background_count (spots_in (dropped (at + l) row) (drop (at + l) ps))) (color_count x (spots_in (dropped (at + l) row) (drop (at + l) ps))) x → q ≡ p1 ++ run_bytes depth (piece_run x r) →
        p ++ flat_map (run_bytes depth) (after_literals (take l (drop at ps)) (packed_runs (drop (at + l) (spots_in row ps)))) ≡ whole →
        q ++ bytes_from depth (at + l + piece_size r) (spots_in row ps) ≡ whole
    by_piece (PieceBackground n) f i w = background_step depth row ps (at + l) x n (take l (drop at ps)) p p1 q whole lt h e f g i w
    by_piece (PieceColor n) f i w = color_step depth row ps (at + l) x n (take l (drop at ps)) p p1 q whole lt h e f g i w

-- the last pixels of a stretch
pub rest_packed : (depth : Depth) (row : Option (List ℕ)) (ps : List ℕ) (at l : ℕ) (p q : List ℕ) → length ps ≤ at + l → HasItems (length ps) row → StandAlone l (drop at ps) (drop at (spots_in row ps)) → q ≡ p ++ literal_bytes depth (take l (drop at ps)) →
    q ++ bytes_from depth (at + l) (spots_in row ps) ≡ p ++ bytes_from depth at (spots_in row ps)
rest_packed depth row ps at l p q end h alone g =
    let front : packed_runs (drop at (spots_in row ps)) ≡ after_literals (take l (drop at ps)) (packed_runs (drop (at + l) (spots_in row ps))) = alone ∙ ap (λ ss. after_literals (take l (drop at ps)) (packed_runs ss)) (drop-drop l at (spots_in row ps)) in
    literals_end depth row ps (at + l) (take l (drop at ps)) p q (p ++ bytes_from depth at (spots_in row ps)) end h g (ap (λ rs. p ++ flat_map (run_bytes depth) rs) (sym front))

-- what stands alone at the front of the slices does so in the whole
pub alone_there : (row rows : Option (List ℕ)) (ps qs : List ℕ) (at l : ℕ) → rows ≡ dropped at row → qs ≡ drop at ps → StandAlone l qs (spots_in rows qs) → StandAlone l (drop at ps) (drop at (spots_in row ps))
alone_there row rows ps qs at l e d alone = subst (λ ss. StandAlone l (drop at ps) ss) (spots_there row rows ps qs at e d) (subst (λ us. StandAlone l us (spots_in rows qs)) d alone)

-- what an Ok says may be said otherwise
pub on_ok_as : {T E : Type 0} (P Q : Type 0) (r : Result T E) → OnOk r P → (P → Q) → OnOk r Q
on_ok_as P Q (Ok x) h f = f h
on_ok_as P Q (Err e) h f = tt
