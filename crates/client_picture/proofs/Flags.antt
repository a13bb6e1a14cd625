-- Rows that were touched.
use Rattle.std.proofs.Common.{◌≡◌, ℕ, ◌+◌, ◌≤◌, ◌<◌, List, length, get_or, Bool, true, false, refl, ap, sym, ◌∙◌, arith, ◌⊎◌, inl, inr}
use Rattle.std.specs.Prelude.{Option, IfSome, ◌&&◌, nat_le, nat_lt, pos, slice_set}
use Rattle.std.proofs.lemmas.Bool.{cases_lt}
use Rattle.std.proofs.lemmas.Bool.Decides.{nat_tests}
use Rattle.std.proofs.lemmas.List.{get_or-set_other}
use Rattle.std.proofs.lemmas.Grind.{get_or-set_at}
use Rattle.px_core.specs.declared.surface.Size.{Size}
use Rattle.px_core.specs.Picture.{Area}
use Rattle.client_picture.specs.declared.part.Part.{Part}
use Rattle.client_picture.specs.declared.frame.Frame.{Frame}
use Rattle.client_picture.specs.Parts.{in_frame, in_part, in_optional_part, IsInside, LiesOn}
use Rattle.client_picture.specs.Touched.{AddsRows, AddsPart, Widens}

-- one more row
pub row_touched : (now old : List Bool) (from y : ℕ) → y < length now → ((k : ℕ) → get_or now k false ≡ false → (get_or old k false ≡ false) × (from ≤ k → k < y → ⊥))
    → (k : ℕ) → get_or (slice_set now y true) k false ≡ false → (get_or old k false ≡ false) × (from ≤ k → k < y + 1 → ⊥)
row_touched now old from y inside before k h = elim (cases_lt k y) [
  | inl less ↦ let b = before k (sym (get_or-set_other now y k true false (λ e. absurd (omega (arith, less, e)))) ∙ h) in (b.0, (λ low lt. b.1 low less))
  | inr ge ↦ elim (cases_lt y k) [
    | inl more ↦ let b = before k (sym (get_or-set_other now y k true false (λ e. absurd (omega (arith, more, e)))) ∙ h) in (b.0, (λ low lt. absurd (omega (arith, more, lt))))
    | inr le ↦ let same : k ≡ y = omega (arith, ge, le) in absurd (cc (sym (get_or-set_at now y k true false same inside) ∙ h))
  ]
]

-- rows outside of a part have none of its pixels
pub no_pixel : (part : Part) (y : ℕ) → (part.y ≤ y → y < part.y + part.h → ⊥) → (x : ℕ) → in_part part x y ≡ false
no_pixel part y none x = and_no (nat_le part.x x && nat_lt x (part.x + part.w)) (nat_le part.y y && nat_lt y (part.y + part.h)) (elim (cases_lt y part.y) [
  | inl less ↦ grind (arith, nat_tests, less)
  | inr ge ↦ elim (cases_lt y (part.y + part.h)) [
    | inl less ↦ absurd (none ge less)
    | inr more ↦ grind (arith, nat_tests, more)
  ]
])
  where
    and_no : (b c : Bool) → c ≡ false → (b && c) ≡ false
    and_no true c h = h
    and_no false c h = refl

-- a part's rows are those of the area that is seen in it
pub adds_rows : (size : Size) (area : Area) (part : Option Part) (old new : List Bool) → AddsPart part old new
    → ((x y : ℕ) → x < size.w → y < size.h → in_optional_part part x y ≡ area (pos x) (pos y)) → AddsRows size area old new
adds_rows size area part old new added same = record {
  flags = added.flags;
  rows = λ y above h. let r = added.rows y h in (r.0, (λ x left. sym (same x y left above) ∙ r.1 x));
}

-- its frame likewise
pub widens : (size : Size) (area : Area) (part : Option Part) (old new : Frame) → IfSome part (IsInside size)
    → ((s : Size) → LiesOn s old → IfSome part (IsInside s) → LiesOn s new)
    → ((x y : ℕ) → in_frame new x y ≡ false → (in_frame old x y ≡ false) × (in_optional_part part x y ≡ false))
    → ((x y : ℕ) → x < size.w → y < size.h → in_optional_part part x y ≡ area (pos x) (pos y)) → Widens size area old new
widens size area part old new inside within beside same = record {
  within = λ h. within size h inside;
  beside = λ x y left above h. let r = beside x y h in (r.0, sym (same x y left above) ∙ r.1);
}

-- outside of a wider stretch is outside of a narrower one
pub outside : (a b c d x : ℕ) → c ≤ a → b ≤ d → (nat_le c x && nat_lt x d) ≡ false → (nat_le a x && nat_lt x b) ≡ false
outside a b c d x low high h = elim (cases_lt x a) [
  | inl less ↦ grind (arith, nat_tests, less)
  | inr ge ↦ elim (cases_lt x b) [
    | inl less ↦ let l : c ≤ x = omega (arith, low, ge) in let g : x < d = omega (arith, high, less) in absurd (grind (arith, nat_tests, h, l, g))
    | inr more ↦ grind (arith, nat_tests, more)
  ]
]

both_outside : (a b c d : Bool) → (a ≡ false → c ≡ false) → (b ≡ false → d ≡ false) → (a && b) ≡ false → (c && d) ≡ false
both_outside true true c d f g h = absurd (cc h)
both_outside false b c d f g h = ap (λ t. t && d) (f refl)
both_outside true false c d f g h = and_false c d (g refl)
  where
    and_false : (c d : Bool) → d ≡ false → (c && d) ≡ false
    and_false true d e = e
    and_false false d e = refl

-- beside a greater frame is beside a lesser one
pub beside_frame : (big small : Frame) → big.left ≤ small.left → big.top ≤ small.top → small.right ≤ big.right → small.bottom ≤ big.bottom
    → (x y : ℕ) → in_frame big x y ≡ false → in_frame small x y ≡ false
beside_frame big small left top right bottom x y =
    both_outside (nat_le big.left x && nat_lt x big.right) (nat_le big.top y && nat_lt y big.bottom)
    (nat_le small.left x && nat_lt x small.right) (nat_le small.top y && nat_lt y small.bottom)
    (outside small.left small.right big.left big.right x left right) (outside small.top small.bottom big.top big.bottom y top bottom)

none_within : (a b x : ℕ) → b ≤ a → (nat_le a x && nat_lt x b) ≡ false
none_within a b x le = elim (cases_lt x a) [
  | inl less ↦ grind (arith, nat_tests, less)
  | inr ge ↦ grind (arith, nat_tests, ge, le)
]

-- a frame without a pixel
pub none_in_frame : (frame : Frame) (x y : ℕ) → (frame.right ≤ frame.left) ⊎ (frame.bottom ≤ frame.top) → in_frame frame x y ≡ false
none_in_frame frame x y (inl le) = ap (λ t. t && (nat_le frame.top y && nat_lt y frame.bottom)) (none_within frame.left frame.right x le)
none_in_frame frame x y (inr le) =
    both_outside true false (nat_le frame.left x && nat_lt x frame.right) (nat_le frame.top y && nat_lt y frame.bottom) (λ e. absurd (cc e))
    (λ e. none_within frame.top frame.bottom y le) refl

-- a pixel beside the columns of a frame, above its rows, or behind them
pub out_of_columns : (frame : Frame) (x y : ℕ) → (nat_le frame.left x && nat_lt x frame.right) ≡ false → in_frame frame x y ≡ false
out_of_columns frame x y h = ap (λ t. t && (nat_le frame.top y && nat_lt y frame.bottom)) h

out_of_lines : (frame : Frame) (x y : ℕ) → (nat_le frame.top y && nat_lt y frame.bottom) ≡ false → in_frame frame x y ≡ false
out_of_lines frame x y h = both_outside true false (nat_le frame.left x && nat_lt x frame.right) (nat_le frame.top y && nat_lt y frame.bottom) (λ e. absurd (cc e)) (λ e. h) refl

pub out_of_rows : (frame : Frame) (x y : ℕ) → y < frame.top → in_frame frame x y ≡ false
out_of_rows frame x y less = out_of_lines frame x y (grind (arith, nat_tests, less))

pub behind_rows : (frame : Frame) (x y : ℕ) → frame.bottom ≤ y → in_frame frame x y ≡ false
behind_rows frame x y le = out_of_lines frame x y (and_none (nat_le frame.top y) (nat_lt y frame.bottom) (grind (arith, nat_tests, le)))
  where
    and_none : (a b : Bool) → b ≡ false → (a && b) ≡ false
    and_none true b e = e
    and_none false b e = refl
