-- What drawings show, one more after the other.
use Rattle.std.proofs.Common.{◌≡◌, ℕ, zero, suc, ◌+◌, ◌≤◌, ◌<◌, List, [], ◌∷◌, ◌++◌, length, take, refl, ap, sym, subst, ◌∙◌, Some, arith}
use Rattle.std.specs.Prelude.{slice_index_or, slice_get}
use Rattle.px_core.specs.declared.surface.Size.{Size}
use Rattle.draw_ops.specs.declared.shape.Drawing.{Drawing}
use Rattle.draw_ops.specs.Slots.{SurfaceState}
use Rattle.draw_ops.specs.Drawing.{state_after_drawing, state_after_drawings}
use Rattle.draw_ops.specs.Fits.{FitsState, AllFitState}
use Rattle.session_rules.specs.Pending.{pending_of, pending_drawings}
use Rattle.session_core.specs.declared.shown.Shown.{Shown}
use Rattle.session_core.specs.Showing.{shown_with, all_shown}
use Rattle.session_core.proofs.LastFilling.{take_more, length_take}

shown_push : (ds : List Drawing) (ss : List Shown) (d : Drawing) (s : Shown) → length ds ≡ length ss → all_shown (ds ++ d ∷ []) (ss ++ s ∷ []) ≡ all_shown ds ss ++ shown_with d s ∷ []
shown_push [] [] d s h = refl
shown_push [] (x ∷ xs) d s h = absurd (omega (arith, h))
shown_push (y ∷ ys) [] d s h = absurd (omega (arith, h))
shown_push (y ∷ ys) (x ∷ xs) d s h = ap (λ ps. shown_with y x ∷ ps) (shown_push ys xs d s (omega (arith, h)))

pending_push : (size : Size) (st : SurfaceState) (ds : List Drawing) (d : Drawing) → pending_drawings size st (ds ++ d ∷ []) ≡ pending_drawings size st ds ++ pending_of size (state_after_drawings size st ds) d ∷ []
pending_push size st [] d = refl
pending_push size st (x ∷ xs) d = ap (λ ps. pending_of size st x ∷ ps) (pending_push size (state_after_drawing size st x) xs d)

-- one drawing more shows what it finds
pub shown_more : (size : Size) (st : SurfaceState) (ds : List Drawing) (ss : List Shown) (i : ℕ) (d : Drawing) (s : Shown) → i < length ds → d ≡ slice_index_or ds i d → length ss ≡ i
    → all_shown (take i ds) ss ≡ pending_drawings size st (take i ds) → shown_with d s ≡ pending_of size (state_after_drawings size st (take i ds)) d
    → all_shown (take (i + 1) ds) (ss ++ s ∷ []) ≡ pending_drawings size st (take (i + 1) ds)
shown_more size st ds ss i d s below is count so_far now =
    let more = take_more ds i d below is in
    let enough : length (take i ds) ≡ length ss = length_take ds i (omega (arith, below)) ∙ sym count in
    ap (λ xs. all_shown xs (ss ++ s ∷ [])) more ∙ shown_push (take i ds) ss d s enough
    ∙ ap (λ ps. ps ++ shown_with d s ∷ []) so_far ∙ ap (λ p. pending_drawings size st (take i ds) ++ p ∷ []) now
    ∙ sym (ap (pending_drawings size st) more ∙ pending_push size st (take i ds) d)

-- a front of drawings that fit, and the drawing behind it
pub fit_front : (size : Size) (st : SurfaceState) (ds : List Drawing) (i : ℕ) → AllFitState size st ds → AllFitState size st (take i ds)
fit_front size st ds zero h = tt
fit_front size st [] (suc i) h = tt
fit_front size st (d ∷ ds) (suc i) h = (h.0, fit_front size (state_after_drawing size st d) ds i h.1)

pub fit_at : (size : Size) (st : SurfaceState) (ds : List Drawing) (i : ℕ) (d : Drawing) → AllFitState size st ds → i < length ds → d ≡ slice_index_or ds i d
    → FitsState size (state_after_drawings size st (take i ds)) d
fit_at size st [] i d h below is = absurd (omega (arith, below))
fit_at size st (x ∷ xs) zero d h below is = subst (FitsState size st) (sym is) h.0
fit_at size st (x ∷ xs) (suc i) d h below is = fit_at size (state_after_drawing size st x) xs i d h.1 (omega (arith, below)) is

pub take_whole : {A : Type 0} (xs : List A) (i : ℕ) → i ≡ length xs → take i xs ≡ xs
take_whole {A} xs i h = subst (λ n. take n xs ≡ xs) (sym h) (all xs)
  where
    all : (ys : List A) → take (length ys) ys ≡ ys
    all [] = refl
    all (y ∷ ys) = ap (λ zs. y ∷ zs) (all ys)

pub length_pushed : {A : Type 0} (xs : List A) (x : A) → length (xs ++ x ∷ []) ≡ length xs + 1
length_pushed [] x = refl
length_pushed (y ∷ ys) x = ap suc (length_pushed ys x) ∙ omega arith

-- ---- drawings where they lie

-- each drawing shows something
pub length_shown : (ds : List Drawing) (ss : List Shown) → length ds ≤ length ss → length (all_shown ds ss) ≡ length ds
length_shown [] ss h = refl
length_shown (d ∷ ds) [] h = absurd (omega (arith, h))
length_shown (d ∷ ds) (s ∷ ss) h = ap suc (length_shown ds ss (omega (arith, h)))

pub shown_get : (ds : List Drawing) (ss : List Shown) (i : ℕ) (d : Drawing) (s : Shown) → i < length ds → length ds ≤ length ss → d ≡ slice_index_or ds i d → s ≡ slice_index_or ss i s
    → slice_get (all_shown ds ss) i ≡ Some (shown_with d s)
shown_get [] ss i d s below enough is same = absurd (omega (arith, below))
shown_get (x ∷ xs) [] i d s below enough is same = absurd (omega (arith, enough))
shown_get (x ∷ xs) (y ∷ ys) zero d s below enough is same = ap Some (ap (λ z. shown_with z y) (sym is) ∙ ap (shown_with d) (sym same))
shown_get (x ∷ xs) (y ∷ ys) (suc i) d s below enough is same = shown_get xs ys i d s (omega (arith, below)) (omega (arith, enough)) is same
