-- Marks of rows, of rectangles and of slots.
use Rattle.std.proofs.Common.{◌≡◌, ℕ, zero, suc, ◌+◌, ◌≤◌, ◌<◌, ◌≢◌, List, [], ◌∷◌, length, refl, ap, sym, ◌∙◌, arith, ⊎_elim, None}
use Rattle.std.specs.Prelude.{Bool, true, false, ◌||◌, ◌==◌, Option, IfSome, slice_set, if◌then◌else◌}
use Rattle.std.proofs.lemmas.Bool.{eqb-true, eq-eqb, cases_eq}
use Rattle.std.proofs.lemmas.Bool.Decides.{nat_tests}
use Rattle.px_core.specs.declared.surface.Size.{Size}
use Rattle.px_core.specs.declared.rectangle.Rect.{Rect}
use Rattle.px_core.specs.Tiles.{tiles_of}
use Rattle.px_core.specs.TileFlags.{touches, row_tiles, box_tiles}
use Rattle.px_core.proofs.Stretches.{same_test}
use Rattle.px_core.proofs.TileFlags.{AreTouched, row_more, box_is}
use Rattle.draw_ops.specs.declared.shape.Shape.{Shape}
use Rattle.draw_ops.specs.declared.shape.Shape.TheVariants.{Fill, Dst, Pat, Copy, Blit, Blit3, Text, Line, Save, Restore, LoadImage, LoadBrush, LoadGlyph}
use Rattle.draw_ops.specs.Fits.{first_some, rules_of, limit_rule}
use Rattle.session_rules.proofs.OwnSteps.{first_some-each}
use Rattle.session_core.specs.About.{saved_slot, is_into}
use Rattle.session_core.specs.Touching.{saves_into}
use Rattle.session_core.specs.Marking.{marks_in, noted}

-- ---- one mark

set_here : (xs : List ℕ) (t n : ℕ) → t < length xs → marks_in (slice_set xs t n) t ≡ n
set_here [] t n h = absurd (omega (arith, h))
set_here (x ∷ xs) zero n h = refl
set_here (x ∷ xs) (suc t) n h = set_here xs t n (omega (arith, h))

set_there : (xs : List ℕ) (t u n : ℕ) → u ≢ t → marks_in (slice_set xs t n) u ≡ marks_in xs u
set_there [] t u n h = refl
set_there (x ∷ xs) zero zero n h = absurd (h refl)
set_there (x ∷ xs) zero (suc u) n h = refl
set_there (x ∷ xs) (suc t) zero n h = refl
set_there (x ∷ xs) (suc t) (suc u) n h = set_there xs t u n (λ e. h (ap suc e))

pub length_set : (xs : List ℕ) (t n : ℕ) → length (slice_set xs t n) ≡ length xs
length_set [] t n = refl
length_set (x ∷ xs) zero n = refl
length_set (x ∷ xs) (suc t) n = ap suc (length_set xs t n)

-- a number past the last mark has none
pub none_past : (xs : List ℕ) (t : ℕ) → length xs ≤ t → marks_in xs t ≡ 0
none_past [] t h = refl
none_past (x ∷ xs) zero h = absurd (omega (arith, h))
none_past (x ∷ xs) (suc t) h = none_past xs t (omega (arith, h))

-- these marks are the old ones, and another one at the members of a set
abbrev pub IsMarkedIn : List ℕ → (ℕ → Bool) → ℕ → List ℕ → Type 0
IsMarkedIn old set number new = (t : ℕ) → marks_in new t ≡ noted set number (marks_in old) t

pub none_marked : (old : List ℕ) (set : ℕ → Bool) (number : ℕ) → ((t : ℕ) → set t ≡ false) → IsMarkedIn old set number old
none_marked old set number none t = sym (ap (λ b. if b then number else marks_in old t) (none t))

pub as_one : (old new : List ℕ) (set : ℕ → Bool) (number : ℕ) → IsMarkedIn old set number new → marks_in new ≡ noted set number (marks_in old)
as_one old new set number h = λ i t. h t i

pub one_marked : (old numbers : List ℕ) (set after : ℕ → Bool) (number u : ℕ) → u < length numbers → after u ≡ true → ((t : ℕ) → t ≢ u → after t ≡ set t)
    → IsMarkedIn old set number numbers → IsMarkedIn old after number (slice_set numbers u number)
one_marked old numbers set after number u inside is same h t = ⊎_elim (λ (e : t ≡ u). here e) (λ (n : t ≢ u). there n) (cases_eq t u)
  where
    here : t ≡ u → marks_in (slice_set numbers u number) t ≡ noted after number (marks_in old) t
    here e = ap (marks_in (slice_set numbers u number)) e ∙ (set_here numbers u number inside ∙ sym (ap (λ b. if b then number else marks_in old t) (ap after e ∙ is)))

    there : t ≢ u → marks_in (slice_set numbers u number) t ≡ noted after number (marks_in old) t
    there n = set_there numbers u t number n ∙ (h t ∙ ap (λ b. if b then number else marks_in old t) (sym (same t n)))

-- ---- rows and rectangles of tiles

twice : (r b : Bool) (n o : ℕ) → (if r then n else (if b then n else o)) ≡ (if b || r then n else o)
twice true true n o = refl
twice true false n o = refl
twice false true n o = refl
twice false false n o = refl

pub row_marked : (old numbers new : List ℕ) (top row from end number : ℕ) → top ≤ row → marks_in new ≡ noted (row_tiles row from end) number (marks_in numbers)
    → IsMarkedIn old (box_tiles top row from end) number numbers → IsMarkedIn old (box_tiles top (row + 1) from end) number new
row_marked old numbers new top row from end number h set is t =
    ap (λ f. f t) set ∙ (ap (λ n. if row_tiles row from end t then number else n) (is t)
    ∙ (twice (row_tiles row from end t) (box_tiles top row from end t) number (marks_in old t) ∙ ap (λ b. if b then number else marks_in old t) (sym (row_more top row from end t h))))

pub box_marked : (size : Size) (r : Rect) (old new : List ℕ) (top bottom from end number : ℕ) → AreTouched top bottom (touches r.y r.h size.h) → AreTouched from end (touches r.x r.w size.w)
    → IsMarkedIn old (box_tiles top bottom from end) number new → marks_in new ≡ noted (tiles_of size r) number (marks_in old)
box_marked size r old new top bottom from end number rows columns is = as_one old new (tiles_of size r) number
    (λ t. is t ∙ ap (λ b. if b then number else marks_in old t) (box_is size r top bottom from end rows columns t))

-- ---- slots

same_slot : (slot t : ℕ) → t ≢ slot → (slot == t) ≡ false
same_slot slot t n = sym (same_test false (slot == t) (λ e. absurd (cc e)) (λ e. absurd (n (sym (eqb-true slot t e)))))

pub slot_marked : (old : List ℕ) (slot number : ℕ) → slot < length old → marks_in (slice_set old slot number) ≡ noted (λ t. slot == t) number (marks_in old)
slot_marked old slot number inside = as_one old (slice_set old slot number) (λ t. slot == t) number
    (one_marked old old (λ t. false) (λ t. slot == t) number slot inside (eq-eqb slot slot refl) (λ t n. same_slot slot t n) (none_marked old (λ t. false) number (λ t. refl)))

-- a save that keeps the rules names a slot that there is
below_limit : (most n : ℕ) → limit_rule most n ≡ None → n ≤ most
below_limit most n h = grind (arith, nat_tests, h)

save_slot : (size : Size) (clip : Option Rect) (slot : ℕ) (r : Rect) → first_some (rules_of size clip (Save slot r)) ≡ None → slot ≤ 15
save_slot size clip slot r h = below_limit 15 slot (first_some-each (rules_of size clip (Save slot r)) h).1.1.0

-- where nothing is saved into a slot, no slot's mark changes
pub unsaved_marked : (old : List ℕ) (number : ℕ) → marks_in old ≡ noted (is_into None) number (marks_in old)
unsaved_marked old number = as_one old old (is_into None) number (none_marked old (is_into None) number (λ t. refl))

-- the slot that is read off a shape is the one that it saves into
pub saved_is : (s : Shape) → is_into (saved_slot s) ≡ saves_into s
saved_is (Fill r color) = λ i n. false
saved_is (Dst r code) = λ i n. false
saved_is (Pat r code brush) = λ i n. false
saved_is (Copy r code sx sy) = λ i n. false
saved_is (Blit r code image sx sy) = λ i n. false
saved_is (Blit3 r code image sx sy brush) = λ i n. false
saved_is (Text x y color font run) = λ i n. false
saved_is (Line x0 y0 x1 y1 color) = λ i n. false
saved_is (Save slot r) = λ i n. slot == n
saved_is (Restore slot x y) = λ i n. false
saved_is (LoadImage slot image) = λ i n. false
saved_is (LoadBrush slot brush) = λ i n. false
saved_is (LoadGlyph font code glyph) = λ i n. false

-- it is one that there is, where the shape keeps the rules
pub saved_small : (size : Size) (clip : Option Rect) (s : Shape) → first_some (rules_of size clip s) ≡ None → IfSome (saved_slot s) (λ slot. slot ≤ 15)
saved_small size clip (Fill r color) h = tt
saved_small size clip (Dst r code) h = tt
saved_small size clip (Pat r code brush) h = tt
saved_small size clip (Copy r code sx sy) h = tt
saved_small size clip (Blit r code image sx sy) h = tt
saved_small size clip (Blit3 r code image sx sy brush) h = tt
saved_small size clip (Text x y color font run) h = tt
saved_small size clip (Line x0 y0 x1 y1 color) h = tt
saved_small size clip (Save slot r) h = save_slot size clip slot r h
saved_small size clip (Restore slot x y) h = tt
saved_small size clip (LoadImage slot image) h = tt
saved_small size clip (LoadBrush slot brush) h = tt
saved_small size clip (LoadGlyph font code glyph) h = tt
