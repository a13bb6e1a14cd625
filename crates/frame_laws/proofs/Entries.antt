-- The pending drawings of entries are those of the entries' drawings, one after the other, and so is the state after them.
use Rattle.std.proofs.Common.{◌≡◌, ℕ, zero, suc, ◌≤◌, List, [], ◌∷◌, ◌++◌, take, drop, refl, ap, sym, ◌∙◌, arith}
use Rattle.px_core.specs.declared.surface.Size.{Size}
use Rattle.draw_ops.specs.declared.shape.Drawing.{Drawing}
use Rattle.draw_ops.specs.Slots.{SurfaceState}
use Rattle.draw_ops.specs.Drawing.{state_after_drawing, state_after_drawings}
use Rattle.session_rules.specs.declared.entry.Entry.{Entry}
use Rattle.session_rules.specs.Journal.{State, Reached, drawings_of, board_after, state_after_entry, reached_after_entry, reached_after, reached_at_first, state_after}
use Rattle.session_rules.specs.Pending.{pending_of, pending_drawings, pending_from, pending_between}
use Rattle.frame_rules.specs.Describes.{drawings_from}
use Rattle.frame_laws.specs.Drawings.{drawings_between}

pending_drawings-append : (size : Size) (st : SurfaceState) (xs ys : List Drawing)
    → pending_drawings size st (xs ++ ys) ≡ pending_drawings size st xs ++ pending_drawings size (state_after_drawings size st xs) ys
pending_drawings-append size st [] ys = refl
pending_drawings-append size st (x ∷ xs) ys = ap (λ ps. pending_of size st x ∷ ps) (pending_drawings-append size (state_after_drawing size st x) xs ys)

after-append : (size : Size) (st : SurfaceState) (xs ys : List Drawing) → state_after_drawings size st (xs ++ ys)
    ≡ state_after_drawings size (state_after_drawings size st xs) ys
after-append size st [] ys = refl
after-append size st (x ∷ xs) ys = after-append size (state_after_drawing size st x) xs ys

pub pending_is : (size : Size) (es : List Entry) (st : State) → pending_from size st es ≡ pending_drawings size st.surface (drawings_from size st.board es)
pending_is size [] st = refl
pending_is size (e ∷ es) st =
    let ds = drawings_of size st.board e in
    ap (λ ps. pending_drawings size st.surface ds ++ ps) (pending_is size es (state_after_entry size st e))
    ∙ sym (pending_drawings-append size st.surface ds (drawings_from size (board_after size st.board e) es))

abbrev pub state_from : Size → State → List Entry → State
state_from size st [] = st
state_from size st (e ∷ es) = state_from size (state_after_entry size st e) es

pub surface_is : (size : Size) (es : List Entry) (st : State) → (state_from size st es).surface
    ≡ state_after_drawings size st.surface (drawings_from size st.board es)
surface_is size [] st = refl
surface_is size (e ∷ es) st =
    surface_is size es (state_after_entry size st e)
    ∙ sym (after-append size st.surface (drawings_of size st.board e) (drawings_from size (board_after size st.board e) es))

pub reached_is : (size : Size) (es : List Entry) (r : Reached) → (reached_after size r es).state ≡ state_from size r.state es
reached_is size [] r = refl
reached_is size (e ∷ es) r = reached_is size es (reached_after_entry size r e)

pub state_from-append : (size : Size) (xs ys : List Entry) (st : State) → state_from size st (xs ++ ys) ≡ state_from size (state_from size st xs) ys
state_from-append size [] ys st = refl
state_from-append size (x ∷ xs) ys st = state_from-append size xs ys (state_after_entry size st x)

pub cut_again : {A : Type 0} (m n : ℕ) (xs : List A) → m ≤ n → take n xs ≡ take m xs ++ drop m (take n xs)
cut_again zero n xs h = refl
cut_again (suc m) zero xs h = absurd (omega (arith, h))
cut_again (suc m) (suc n) [] h = refl
cut_again (suc m) (suc n) (x ∷ xs) h = ap (λ ys. x ∷ ys) (cut_again m n xs (omega (arith, h)))

pub pending_between_is : (size : Size) (j : List Entry) (before number : ℕ)
    → pending_between size j before number ≡ pending_drawings size (state_after size j before).surface (drawings_between size j before number)
pending_between_is size j before number = pending_is size (drop before (take number j)) (state_after size j before)

pub state_between_is : (size : Size) (j : List Entry) (before number : ℕ) → before ≤ number
    → (state_after size j number).surface ≡ state_after_drawings size (state_after size j before).surface (drawings_between size j before number)
state_between_is size j before number h =
    let first = reached_at_first size in
    let more = drop before (take number j) in
    ap (λ s. s.surface) (reached_is size (take number j) first ∙ (ap (state_from size first.state) (cut_again before number j h)
    ∙ (state_from-append size (take before j) more first.state ∙ ap (λ s. state_from size s more) (sym (reached_is size (take before j) first)))))
    ∙ surface_is size more (state_after size j before)
