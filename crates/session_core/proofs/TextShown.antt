-- The glyphs of a text that fits: they are all there, plain, and their cells make its rectangle.
use Rattle.std.proofs.Common.{◌≡◌, ℕ, zero, suc, ◌+◌, ◌*◌, ◌≤◌, ◌<◌, List, [], ◌∷◌, ◌++◌, length, take, refl, ap, subst, ◌∙◌, Some, None, arith}
use Rattle.std.proofs.lemmas.Bool.Decides.{nat_tests}
use Rattle.std.proofs.lemmas.Bool.{and_parts}
use Rattle.std.specs.Prelude.{Bool, true, false, ◌&&◌, not, nat_le, Option, option_map, ℤ, pos, negsuc, ◌+ℤ◌, ◌≤ℤ◌, int_le, slice_index_or, option_to_list}
use Rattle.std.proofs.lemmas.Int.{ints}
use Rattle.px_core.specs.declared.surface.Size.{Size}
use Rattle.px_core.specs.declared.rectangle.Rect.{Rect}
use Rattle.draw_ops.specs.declared.shape.Drawing.{Drawing}
use Rattle.draw_ops.specs.declared.shape.Shape.{Shape}
use Rattle.draw_ops.specs.declared.shape.Shape.TheVariants as shape
use Rattle.draw_ops.specs.Content.{GlyphOf}
use Rattle.draw_ops.specs.Slots.{SurfaceState, Slots, Loaded, lookup, glyph_slot, filled_slot}
use Rattle.draw_ops.specs.Drawing.{slots_after, state_after_drawing, state_after_drawings, glyphs_in, loaded}
use Rattle.draw_ops.specs.Formulas.{glyph_cell, run_cells}
use Rattle.draw_ops.specs.Fits.{Misfit, first_some, broken_if, rules_of, broken_rule, slot_misfit, empty_if_none, empty_glyph, glyph_rule, limit_rule, is_corner, starts_at_0, deltas_are_small, FitsState, AllFitState}
use Rattle.draw_ops.specs.Fits.Misfit.{Rule}
use Rattle.session_rules.specs.Pending.{run_glyphs, onto_optional}
use Rattle.session_rules.proofs.OwnSteps.{first_some-each}
use Rattle.surface_parts.specs.Surfaces.{AllInSlots}
use Rattle.session_core.specs.Cells.{cells_along, ArePlain, IsNear, IsPen}

-- ---- the rules of a drawing that fits

pub fit_parts : (o : Option ℕ) (m : Option Misfit) → first_some (option_map Rule o ∷ m ∷ []) ≡ None → (o ≡ None) × (m ≡ None)
fit_parts None None h = (refl, refl)
fit_parts None (Some m) h = absurd (cc h)
fit_parts (Some rule) m h = absurd (cc h)

-- the rules, the slots
pub keeps_rules : (size : Size) (st : SurfaceState) (d : Drawing) → FitsState size st d → broken_rule size d ≡ None
keeps_rules size st d h = (fit_parts (broken_rule size d) (slot_misfit size st d.shape) h).0

pub has_slots : (size : Size) (st : SurfaceState) (d : Drawing) → FitsState size st d → slot_misfit size st d.shape ≡ None
has_slots size st d h = (fit_parts (broken_rule size d) (slot_misfit size st d.shape) h).1

pub kept_if : (t : Bool) (rule : ℕ) → broken_if (not t) rule ≡ None → t ≡ true
kept_if true rule h = refl
kept_if false rule h = absurd (cc h)

pub below_limit : (most n : ℕ) → limit_rule most n ≡ None → n ≤ most
below_limit most n h = grind (arith, nat_tests, h)

-- ---- what slots of glyphs hold is plain

filled_holds : {A : Type 0} (P : A → Type 0) (slots : Slots A) (i : ℕ) (x : A) → ((k : ℕ) (y : A) → lookup k slots ≡ Some y → P y) → P x → (k : ℕ) (y : A) → lookup k (filled_slot i x slots) ≡ Some y → P y
filled_holds P [] i x h p k y e = h k y e
filled_holds P (o ∷ os) zero x h p zero y e = let same : x ≡ y = cc e in subst P same p
filled_holds P (o ∷ os) zero x h p (suc k) y e = h (suc k) y e
filled_holds P (o ∷ os) (suc i) x h p zero y e = h zero y e
filled_holds P (o ∷ os) (suc i) x h p (suc k) y e = filled_holds P os i x (λ j z g. h (suc j) z g) p k y e

plain_step : (size : Size) (st : SurfaceState) (clip : Option Rect) (s : Shape) → first_some (rules_of size clip s) ≡ None → AllInSlots (λ glyph. glyph_rule glyph.content ≡ None) st.glyphs
    → AllInSlots (λ glyph. glyph_rule glyph.content ≡ None) (slots_after size st s).glyphs
plain_step size st clip (shape.Fill r color) h g = g
plain_step size st clip (shape.Dst r code) h g = g
plain_step size st clip (shape.Pat r code brush) h g = g
plain_step size st clip (shape.Copy r code sx sy) h g = g
plain_step size st clip (shape.Blit r code image sx sy) h g = g
plain_step size st clip (shape.Blit3 r code image sx sy brush) h g = g
plain_step size st clip (shape.Text x y color font run) h g = g
plain_step size st clip (shape.Line x0 y0 x1 y1 color) h g = g
plain_step size st clip (shape.Save slot r) h g = g
plain_step size st clip (shape.Restore slot x y) h g = g
plain_step size st clip (shape.LoadImage slot image) h g = g
plain_step size st clip (shape.LoadBrush slot brush) h g = g
plain_step size st clip (shape.LoadGlyph font code glyph) h g =
    filled_holds (λ (x : Loaded GlyphOf). glyph_rule x.content ≡ None) st.glyphs (glyph_slot font code) (loaded st glyph) g (first_some-each (rules_of size clip (shape.LoadGlyph font code glyph)) h).1.1.1.0

pub plain_after : (size : Size) (ds : List Drawing) (st : SurfaceState) → AllFitState size st ds → AllInSlots (λ glyph. glyph_rule glyph.content ≡ None) st.glyphs
    → AllInSlots (λ glyph. glyph_rule glyph.content ≡ None) (state_after_drawings size st ds).glyphs
plain_after size [] st h g = g
plain_after size (d ∷ ds) st h g = plain_after size ds (state_after_drawing size st d) h.1 (plain_step size st d.clip d.shape (keeps_rules size st d h.0) g)

-- ---- the glyphs of a run

some_or_empty : {A : Type 0} (slot : ℕ) (o : Option A) (m : Option Misfit) → first_some (empty_if_none slot o ∷ m ∷ []) ≡ None → (x : A) × (o ≡ Some x) × (m ≡ None)
some_or_empty slot None m h = absurd (cc h)
some_or_empty slot (Some x) None h = (x, refl, refl)
some_or_empty slot (Some x) (Some m) h = absurd (cc h)

pub run_length : (glyphs : Slots (Loaded GlyphOf)) (font : ℕ) (run : List (ℕ × ℕ)) → empty_glyph glyphs font run ≡ None → length (run_glyphs glyphs font run) ≡ length run
run_length glyphs font [] h = refl
run_length glyphs font (p ∷ ps) h =
    let k = some_or_empty p.0 (lookup (glyph_slot font p.0) glyphs) (empty_glyph glyphs font ps) h in
    rw k.1 (ap suc (run_length glyphs font ps k.2))

pub run_plain : (glyphs : Slots (Loaded GlyphOf)) (font : ℕ) (run : List (ℕ × ℕ)) → AllInSlots (λ glyph. glyph_rule glyph.content ≡ None) glyphs → empty_glyph glyphs font run ≡ None
    → ArePlain (run_glyphs glyphs font run)
run_plain glyphs font [] g h = tt
run_plain glyphs font (p ∷ ps) g h =
    let k = some_or_empty p.0 (lookup (glyph_slot font p.0) glyphs) (empty_glyph glyphs font ps) h in
    rw k.1 (g (glyph_slot font p.0) k.0 k.1, run_plain glyphs font ps g k.2)

pub cells_are : (st : SurfaceState) (font : ℕ) (run : List (ℕ × ℕ)) (x y : ℤ) → empty_glyph st.glyphs font run ≡ None
    → cells_along (run_glyphs st.glyphs font run) run x y ≡ run_cells (glyphs_in st font) x y run
cells_are st font [] x y h = refl
cells_are st font (p ∷ ps) x y h =
    let k = some_or_empty p.0 (lookup (glyph_slot font p.0) st.glyphs) (empty_glyph st.glyphs font ps) h in
    rw k.1 (ap (λ cells. glyph_cell k.0.content (x +ℤ pos p.1) y ∷ cells) (cells_are st font ps (x +ℤ pos p.1) y k.2))

-- ---- the rules of a text

starts_some : (run : List (ℕ × ℕ)) → starts_at_0 run ≡ true → 1 ≤ length run
starts_some [] h = absurd (cc h)
starts_some (p ∷ ps) h = omega arith

pub near : (z : ℤ) → is_corner z ≡ true → IsNear z
near z h = let k = and_parts (int_le (negsuc 4095) z) (int_le z (pos 4095)) h in record { low = grind (arith, ints, nat_tests, k.0); high = grind (arith, ints, nat_tests, k.1) }

far : (x : ℤ) (n : ℕ) → x ≤ℤ pos 4095 → n ≤ 64 → (x +ℤ pos (255 * n)) ≤ℤ pos 25000
far x n h k = let most : 255 * n ≤ 16320 = omega (arith, k) in grind (arith, ints, nat_tests, h, most)

-- a text that keeps its rules has a glyph, and its pen starts near the surface
pub record IsPlainText (x y : ℤ) (font : ℕ) (run : List (ℕ × ℕ)) : Type 0 where
  pub some : 1 ≤ length run
  pub pen : IsPen x y (length run)
  pub font_is : font ≤ 3

pub plain_text : (size : Size) (clip : Option Rect) (x y : ℤ) (color font : ℕ) (run : List (ℕ × ℕ)) → first_some (rules_of size clip (shape.Text x y color font run)) ≡ None → IsPlainText x y font run
plain_text size clip x y color font run h =
    let rules = first_some-each (rules_of size clip (shape.Text x y color font run)) h in
    let place = and_parts (is_corner x) (is_corner y) (kept_if (is_corner x && is_corner y) 1 rules.0) in
    let run_kept = and_parts (nat_le (length run) 64) (starts_at_0 run && deltas_are_small run) (kept_if (nat_le (length run) 64 && (starts_at_0 run && deltas_are_small run)) 8 rules.1.1.1.1.0) in
    let starts = and_parts (starts_at_0 run) (deltas_are_small run) run_kept.1 in
    let short : length run ≤ 64 = grind (arith, nat_tests, run_kept.0) in
    let nx = near x place.0 in
    record {
      some = starts_some run starts.0;
      pen = record { left = nx.low; right = far x (length run) nx.high short; row = near y place.1 };
      font_is = below_limit 3 font rules.1.1.0;
    }

-- ---- the glyphs of one pair more

onto_list : {A : Type 0} (o : Option A) → onto_optional o [] ≡ option_to_list o
onto_list None = refl
onto_list (Some x) = refl

onto_append : {A : Type 0} (o : Option A) (xs ys : List A) → onto_optional o (xs ++ ys) ≡ onto_optional o xs ++ ys
onto_append None xs ys = refl
onto_append (Some x) xs ys = refl

pub run_more : (glyphs : Slots (Loaded GlyphOf)) (font : ℕ) (run : List (ℕ × ℕ)) (i : ℕ) → i < length run
    → run_glyphs glyphs font (take (i + 1) run) ≡ run_glyphs glyphs font (take i run) ++ option_to_list (lookup (glyph_slot font (slice_index_or run i (0, 0)).0) glyphs)
run_more glyphs font [] i h = absurd (omega (arith, h))
run_more glyphs font (p ∷ ps) zero h = onto_list (lookup (glyph_slot font p.0) glyphs)
run_more glyphs font (p ∷ ps) (suc i) h =
    let one : suc i + 1 ≡ suc (i + 1) = omega arith in
    rw one (ap (onto_optional (lookup (glyph_slot font p.0) glyphs)) (run_more glyphs font ps i (omega (arith, h))) ∙ onto_append (lookup (glyph_slot font p.0) glyphs) _ _)
