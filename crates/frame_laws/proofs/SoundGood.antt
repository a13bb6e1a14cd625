-- What a drawing that suits a sound state has: its rectangle, and whatever its slots hold.
use Rattle.std.proofs.Common.{◌≡◌, ℕ, suc, ◌<◌, List, [], ◌∷◌, length, refl, ap, sym, ◌∙◌, arith, Some, None}
use Rattle.std.specs.Prelude.{Bool, true, false, ◌&&◌, not, nat_le, ℤ, Option}
use Rattle.std.proofs.lemmas.Bool.{and_parts, and_from}
use Rattle.std.proofs.lemmas.Bool.Decides.{nat_tests}
use Rattle.px_core.specs.declared.surface.Size.{Size}
use Rattle.px_core.specs.declared.rectangle.Rect.{Rect}
use Rattle.px_core.specs.Rectangle.{boxed, is_inside}
use Rattle.draw_ops.specs.declared.shape.Drawing.{Drawing}
use Rattle.draw_ops.specs.declared.shape.Shape.{Shape}
use Rattle.draw_ops.specs.declared.shape.Shape.TheVariants.{Fill, Dst, Pat, Copy, Blit, Blit3, Text, Line, Save, Restore, LoadImage, LoadBrush, LoadGlyph}
use Rattle.draw_ops.specs.Content.{GlyphOf}
use Rattle.draw_ops.specs.Slots.{SurfaceState, Loaded, lookup, glyph_slot}
use Rattle.draw_ops.specs.Fits.{rules_of, slot_tests, no_clip_rule, starts_at_0, deltas_are_small, run_rule, empty_if_none, empty_glyph, too_small_if}
use Rattle.draw_ops.specs.Fits.{source_test, block_test}
use Rattle.session_rules.specs.declared.entry.Entry.{Entry}
use Rattle.session_rules.proofs.OwnSteps.{AllNone, first_some-each}
use Rattle.order_means.specs.ClientState.{source_rect}
use Rattle.frame_laws.specs.Run.{AreGlyphs, AreDeltas}
use Rattle.frame_laws.specs.SoundState.{IsSound}
use Rattle.frame_laws.specs.Drawings.{Suits}
use Rattle.frame_laws.proofs.Rules.{rules_kept, tests_passed, plain_rect, kept_test, below_limit}
use Rattle.frame_laws.proofs.SentKeeps.{HasImage, HasBrush, AreLoaded, HasGlyphs, HasBlock, GoodShape, Good}

-- ---- what slot tests say

-- what a slot that isn't empty holds
pub held_there : {A : Type 0} (slot : ℕ) (o : Option A) → empty_if_none slot o ≡ None → (x : A) × (o ≡ Some x)
held_there slot None h = absurd (cc h)
held_there slot (Some x) h = (x, refl)

not_small : (t : Bool) (slot : ℕ) → too_small_if (not t) slot ≡ None → t ≡ true
not_small true slot h = refl
not_small false slot h = absurd (cc h)

unclipped_is : (clip : Option Rect) → no_clip_rule clip ≡ None → clip ≡ None
unclipped_is None h = refl
unclipped_is (Some r) h = absurd (cc h)

-- a run's glyphs
pub record RunHeld (size : Size) (j : List Entry) (st : SurfaceState) (font : ℕ) (run : List (ℕ × ℕ)) : Type 0 where
  pub glyphs : List (Loaded GlyphOf)
  pub held : AreGlyphs st font run glyphs
  pub loaded : AreLoaded size j glyphs
  pub as_many : length glyphs ≡ length run

run_held : (size : Size) (j : List Entry) (st : SurfaceState) (font : ℕ) (run : List (ℕ × ℕ)) → IsSound size j st → empty_glyph st.glyphs font run ≡ None
    → RunHeld size j st font run
run_held size j st font [] h e = record { glyphs = []; held = tt; loaded = tt; as_many = refl }
run_held size j st font (p ∷ ps) h e =
    let tests = first_some-each (empty_if_none p.0 (lookup (glyph_slot font p.0) st.glyphs) ∷ empty_glyph st.glyphs font ps ∷ []) e in
    let g = held_there p.0 (lookup (glyph_slot font p.0) st.glyphs) tests.0 in
    let more = run_held size j st font ps h tests.1.0 in
    record {
      glyphs = g.0 ∷ more.glyphs;
      held = (g.1, more.held);
      loaded = ((h.glyphs (glyph_slot font p.0) g.0 g.1).loaded, more.loaded);
      as_many = ap suc more.as_many;
    }

small_deltas : (run : List (ℕ × ℕ)) → deltas_are_small run ≡ true → AreDeltas run
small_deltas [] h = tt
small_deltas (p ∷ ps) h = let parts = and_parts (nat_le p.1 127) (deltas_are_small ps) h in let one = parts.0 in
    (grind (arith, nat_tests, one), small_deltas ps parts.1)

some_run : (run : List (ℕ × ℕ)) → starts_at_0 run ≡ true → 0 < length run
some_run [] h = absurd (cc h)
some_run (p ∷ ps) h = omega arith

module _ (size : Size) (j : List Entry) (st : SurfaceState) (h : IsSound size j st) where
  has_image : (slot : ℕ) (r : Rect) (sx sy : ℤ) → empty_if_none slot (lookup slot st.images) ≡ None → source_test (lookup slot st.images) slot r sx sy ≡ None
      → HasImage size j st slot (source_rect r sx sy)
  has_image slot r sx sy there fits =
      let x = held_there slot (lookup slot st.images) there in
      let k = h.images slot x.0 x.1 in
      record {
        image = x.0;
        held = x.1;
        sound = k.sound;
        loaded = k.loaded;
        inside = not_small (is_inside (record { w = x.0.content.w; h = x.0.content.h }) (boxed sx sy r.w r.h)) slot
            (ap (λ o. source_test o slot r sx sy) (sym x.1) ∙ fits);
      }

  has_brush : (slot : ℕ) → empty_if_none slot (lookup slot st.brushes) ≡ None → HasBrush size j st slot
  has_brush slot there =
      let x = held_there slot (lookup slot st.brushes) there in
      let k = h.brushes slot x.0 x.1 in
      record { brush = x.0; held = x.1; whole = k.whole; loaded = k.loaded }

  has_glyphs : (font : ℕ) (run : List (ℕ × ℕ)) → empty_glyph st.glyphs font run ≡ None → run_rule run ≡ None → HasGlyphs size j st font run
  has_glyphs font run there rule =
      let k = run_held size j st font run h there in
      let t = and_parts (nat_le (length run) 64) (starts_at_0 run && deltas_are_small run)
      (kept_test (nat_le (length run) 64 && (starts_at_0 run && deltas_are_small run)) 8 rule) in
      let u = and_parts (starts_at_0 run) (deltas_are_small run) t.1 in
      let many = some_run run u.0 in
      let same = k.as_many in
      record { glyphs = k.glyphs; held = k.held; some = omega (arith, many, same); deltas = small_deltas run u.1; loaded = k.loaded }

  has_block : (slot : ℕ) (x y : ℤ) (clip : Option Rect) → empty_if_none slot (lookup slot st.blocks) ≡ None
      → block_test size (lookup slot st.blocks) slot x y ≡ None → no_clip_rule clip ≡ None → HasBlock size st slot x y clip
  has_block slot x y clip there fits rule =
      let b = held_there slot (lookup slot st.blocks) there in
      let k = h.blocks slot b.0 b.1 in
      let wide = k.some_columns in
      let high = k.some_rows in
      record {
        block = b.0;
        held = b.1;
        whole = k.whole;
        some = and_from _ _ (at_least b.0.w wide) (at_least b.0.h high);
        inside = not_small (is_inside size (boxed x y b.0.w b.0.h)) slot (ap (λ o. block_test size o slot x y) (sym b.1) ∙ fits);
        unclipped = unclipped_is clip rule;
      }
    where
      at_least : (n : ℕ) → 0 < n → nat_le 1 n ≡ true
      at_least n e = grind (arith, nat_tests, e)

  good_shape : (clip : Option Rect) (s : Shape) → AllNone (rules_of size clip s) → AllNone (slot_tests size st s) → GoodShape size j st clip s
  good_shape clip (Fill r color) rules tests = (plain_rect r rules.0).pixel
  good_shape clip (Dst r code) rules tests = (plain_rect r rules.0).pixel
  good_shape clip (Pat r code brush) rules tests = ((plain_rect r rules.0).pixel, has_brush brush tests.0)
  good_shape clip (Copy r code sx sy) rules tests = ((plain_rect r rules.0).pixel, kept_test (is_inside size (boxed sx sy r.w r.h)) 4 rules.1.1.1.0)
  good_shape clip (Blit r code image sx sy) rules tests = ((plain_rect r rules.0).pixel, has_image image r sx sy tests.0 tests.1.0)
  good_shape clip (Blit3 r code image sx sy brush) rules tests =
      ((plain_rect r rules.0).pixel, has_image image r sx sy tests.0 tests.1.1.0, has_brush brush tests.1.0)
  good_shape clip (Text x y color font run) rules tests = has_glyphs font run tests.0 rules.1.1.1.1.0
  good_shape clip (Line x0 y0 x1 y1 color) rules tests = tt
  good_shape clip (Save slot r) rules tests =
      let low = below_limit 15 slot rules.1.1.0 in
      let many = h.sized.blocks in
      ((plain_rect r rules.0).pixel, kept_test (is_inside size r) 9 rules.1.1.1.0, omega (arith, low, many))
  good_shape clip (Restore slot x y) rules tests = has_block slot x y clip tests.0 tests.1.0 rules.1.0
  good_shape clip (LoadImage slot image) rules tests = tt
  good_shape clip (LoadBrush slot brush) rules tests = tt
  good_shape clip (LoadGlyph font code glyph) rules tests = tt

pub good_of : (size : Size) (j : List Entry) (st : SurfaceState) (d : Drawing) → IsSound size j st → Suits size st d → Good size j st d
good_of size j st d h s = good_shape size j st h d.clip d.shape (rules_kept size st d s.fits) (tests_passed size st d s.fits)
