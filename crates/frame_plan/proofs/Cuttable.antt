-- The drawings of a legal journal stand where calls may be given them.
use Rattle.std.proofs.Common.{◌≡◌, ◌≤◌, ℕ, ◌+◌, List, [], ◌∷◌, length, refl, sym, subst, arith, Some, None}
use Rattle.std.specs.Prelude.{Bool, true, false, Option, ℤ, pos, negsuc, ◌+ℤ◌, ◌-ℤ◌, ◌≤ℤ◌, ◌&&◌, ◌||◌, not, int_le, nat_le, nat_abs}
use Rattle.std.specs.Ordering.{int_eq}
use Rattle.std.proofs.lemmas.Bool.{and_parts}
use Rattle.std.proofs.lemmas.Bool.Decides.{nat_tests}
use Rattle.std.proofs.lemmas.Int.{ints, clamps}
use Rattle.px_core.specs.declared.surface.Size.{Size}
use Rattle.px_core.specs.declared.rectangle.Rect.{Rect}
use Rattle.px_core.specs.Rectangle.{boxed, has_pixel, is_inside, is_session_size, IsPlaced, IsPlacedClip}
use Rattle.draw_ops.specs.declared.shape.Drawing.{Drawing}
use Rattle.draw_ops.specs.declared.shape.Shape.{Shape}
use Rattle.draw_ops.specs.declared.shape.Shape.TheVariants.{Fill, Dst, Pat, Copy, Blit, Blit3, Text, Line, Save, Restore, LoadImage, LoadBrush, LoadGlyph}
use Rattle.draw_ops.specs.Content.{ImageOf}
use Rattle.draw_ops.specs.Slots.{SurfaceState, lookup}
use Rattle.draw_ops.specs.Formulas.{line_rect}
use Rattle.draw_ops.specs.Drawing.{restoring, state_after_drawing}
use Rattle.draw_ops.specs.Fits.{rules_of, broken_if, clip_rule, no_clip_rule, rect_rule, line_rule, is_corner, starts_at_0, deltas_are_small}
use Rattle.session_rules.specs.declared.entry.Entry.{Entry}
use Rattle.session_rules.specs.Journal.{Head, state_after, IsLegalJournal}
use Rattle.session_rules.proofs.OwnSteps.{AllNone}
use Rattle.session_rules.specs.Pending.{touched_rect, pending_of, pending_drawings, pending_between}
use Rattle.frame_laws.specs.SoundState.{IsSound}
use Rattle.frame_laws.specs.Drawings.{Suits, AllSound, drawings_between}
use Rattle.frame_laws.proofs.Rules.{IsPlainRect, rules_kept, plain_rect, kept_test}
use Rattle.frame_laws.proofs.Entries.{pending_between_is}
use Rattle.frame_laws.proofs.Journals.{between_sound}
use Rattle.frame_laws.proofs.SentKeeps.{GoodShape}
use Rattle.frame_laws.proofs.SoundGood.{good_of}
use Rattle.frame_laws.proofs.TextRect.{IsNear, text_near}
use Rattle.frame_plan.specs.Cuts.{ReadsPlaced, CanMove, IsCuttable, AllCuttable}
use Rattle.frame_plan.proofs.Cutting.{inside_placed}

-- ---- rectangles

corner_low : (z : ℤ) → is_corner z ≡ true → negsuc 4095 ≤ℤ z
corner_low z h = let e = (and_parts (int_le (negsuc 4095) z) (int_le z (pos 4095)) h).0 in omega (arith, ints, e)

corner_high : (z : ℤ) → is_corner z ≡ true → z ≤ℤ pos 4095
corner_high z h = let e = (and_parts (int_le (negsuc 4095) z) (int_le z (pos 4095)) h).1 in omega (arith, ints, e)

plain_placed : (r : Rect) → IsPlainRect r → IsPlaced r
plain_placed r h =
    let x0 = corner_low r.x h.left in
    let x1 = corner_high r.x h.left in
    let y0 = corner_low r.y h.above in
    let y1 = corner_high r.y h.above in
    let w = h.few_columns in
    let t = h.few_rows in
    record {
      left = omega (arith, ints, x0);
      right = omega (arith, ints, x1);
      above = omega (arith, ints, y0);
      below = omega (arith, ints, y1);
      wide = omega (arith, w);
      high = omega (arith, t);
    }

rect_placed : (r : Rect) → rect_rule r ≡ None → IsPlaced r
rect_placed r h = plain_placed r (plain_rect r h)

near_placed : (r : Rect) → IsNear r → IsPlaced r
near_placed r h =
    let x0 = h.left in
    let x1 = h.right in
    let y0 = h.above in
    let y1 = h.below in
    record {
      left = omega (arith, ints, x0);
      right = omega (arith, ints, x1);
      above = omega (arith, ints, y0);
      below = omega (arith, ints, y1);
      wide = omega (arith, ints, x0, x1);
      high = omega (arith, ints, y0, y1);
    }

nothing_placed : IsPlaced (boxed (pos 0) (pos 0) 0 0)
nothing_placed = record {
  left = omega (arith, ints);
  right = omega (arith, ints);
  above = omega (arith, ints);
  below = omega (arith, ints);
  wide = omega arith;
  high = omega arith;
}

-- how far two coordinates are apart
apart_short : (z : ℤ) → negsuc 8190 ≤ℤ z → z ≤ℤ pos 8191 → nat_abs z + 1 ≤ 65536
apart_short (pos n) low high = omega (arith, ints, high)
apart_short (negsuc n) low high = omega (arith, ints, low)

line_placed : (x0 y0 x1 y1 : ℤ) → line_rule x0 y0 x1 y1 ≡ None → IsPlaced (line_rect x0 y0 x1 y1)
line_placed x0 y0 x1 y1 h =
    let test = rule_kept (int_eq x0 x1 || int_eq y0 y1) ((is_corner x0 && is_corner y0) && (is_corner x1 && is_corner y1)) h in
    let both = and_parts (is_corner x0 && is_corner y0) (is_corner x1 && is_corner y1) test in
    let first = and_parts (is_corner x0) (is_corner y0) both.0 in
    let second = and_parts (is_corner x1) (is_corner y1) both.1 in
    let a0 = corner_low x0 first.0 in
    let a1 = corner_high x0 first.0 in
    let b0 = corner_low y0 first.1 in
    let b1 = corner_high y0 first.1 in
    let c0 = corner_low x1 second.0 in
    let c1 = corner_high x1 second.0 in
    let d0 = corner_low y1 second.1 in
    let d1 = corner_high y1 second.1 in
    record {
      left = omega (arith, ints, clamps, a0, c0);
      right = omega (arith, ints, clamps, a1, c1);
      above = omega (arith, ints, clamps, b0, d0);
      below = omega (arith, ints, clamps, b1, d1);
      wide = apart_short (x1 -ℤ x0) (omega (arith, ints, a1, c0)) (omega (arith, ints, a0, c1));
      high = apart_short (y1 -ℤ y0) (omega (arith, ints, b1, d0)) (omega (arith, ints, b0, d1));
    }
  where
    rule_kept : (a b : Bool) → broken_if (a || not b) 7 ≡ None → b ≡ true
    rule_kept true true h = refl
    rule_kept true false h = absurd (cc h)
    rule_kept false true h = refl
    rule_kept false false h = absurd (cc h)

clip_placed : (size : Size) (clip : Option Rect) → is_session_size size.w size.h ≡ true → clip_rule size clip ≡ None → IsPlacedClip clip
clip_placed size None session h = tt
clip_placed size (Some r) session h =
    inside_placed size r session (and_parts (has_pixel r) (is_inside size r) (kept_test (has_pixel r && is_inside size r) 2 h)).1

unclipped_placed : (clip : Option Rect) → no_clip_rule clip ≡ None → IsPlacedClip clip
unclipped_placed None h = tt
unclipped_placed (Some r) h = absurd (cc h)

-- ---- drawings

-- what a drawing in its state has
record Stands (size : Size) (touched : Rect) (clip : Option Rect) (s : Shape) : Type 0 where
  rect : IsPlaced touched
  clip_placed : IsPlacedClip clip
  reads : ReadsPlaced s
  source : CanMove size touched s

-- a source of an image
source_placed : (r : Rect) (sx sy : ℤ) (w h : ℕ) → IsPlainRect r → w ≤ 64 → h ≤ 64 → is_inside (record { w = w; h = h }) (boxed sx sy r.w r.h) ≡ true
    → IsPlaced (boxed sx sy r.w r.h)
source_placed r sx sy w h plain narrow low inside =
    let p = and_parts (int_le (pos 0) sx && int_le (sx +ℤ pos r.w) (pos w)) (int_le (pos 0) sy && int_le (sy +ℤ pos r.h) (pos h)) inside in
    let u = and_parts (int_le (pos 0) sx) (int_le (sx +ℤ pos r.w) (pos w)) p.0 in
    let v = and_parts (int_le (pos 0) sy) (int_le (sy +ℤ pos r.h) (pos h)) p.1 in
    let u0 = u.0 in
    let u1 = u.1 in
    let v0 = v.0 in
    let v1 = v.1 in
    let few = plain.few_columns in
    let short = plain.few_rows in
    record {
      left = omega (arith, ints, u0);
      right = omega (arith, ints, u1, narrow);
      above = omega (arith, ints, v0);
      below = omega (arith, ints, v1, low);
      wide = omega (arith, few);
      high = omega (arith, short);
    }

module _ (size : Size) (j : List Entry) (session : is_session_size size.w size.h ≡ true) (st : SurfaceState) (sound : IsSound size j st) (clip : Option Rect) where
  restored : (slot : ℕ) (x y : ℤ) (o : Option ImageOf) (block : ImageOf) → o ≡ Some block → is_inside size (boxed x y block.w block.h) ≡ true → IsPlaced (restoring o x y).rect
  restored slot x y o block e inside = subst (λ (q : Option ImageOf). IsPlaced (restoring q x y).rect) (sym e) (inside_placed size (boxed x y block.w block.h) session inside)

  stands : (s : Shape) → AllNone (rules_of size clip s) → GoodShape size j st clip s → Stands size (touched_rect size st s) clip s
  stands (Fill r color) rules good = record { rect = rect_placed r rules.0; clip_placed = clip_placed size clip session rules.1.0; reads = tt; source = tt }
  stands (Dst r code) rules good = record { rect = rect_placed r rules.0; clip_placed = clip_placed size clip session rules.1.0; reads = tt; source = tt }
  stands (Pat r code brush) rules good = record { rect = rect_placed r rules.0; clip_placed = clip_placed size clip session rules.1.0; reads = tt; source = tt }
  stands (Copy r code sx sy) rules good = record {
    rect = rect_placed r rules.0;
    clip_placed = clip_placed size clip session rules.1.0;
    reads = inside_placed size (boxed sx sy r.w r.h) session good.1;
    source = (refl, good.1);
  }
  stands (Blit r code image sx sy) rules good = record {
    rect = rect_placed r rules.0;
    clip_placed = clip_placed size clip session rules.1.0;
    reads = tt;
    source = (refl, source_placed r sx sy good.1.image.content.w good.1.image.content.h (plain_rect r rules.0) good.1.sound.few_columns good.1.sound.few_rows good.1.inside);
  }
  stands (Blit3 r code image sx sy brush) rules good = record {
    rect = rect_placed r rules.0;
    clip_placed = clip_placed size clip session rules.1.0;
    reads = tt;
    source = (refl, source_placed r sx sy good.1.image.content.w good.1.image.content.h (plain_rect r rules.0) good.1.sound.few_columns good.1.sound.few_rows good.1.inside);
  }
  stands (Text x y color font run) rules good =
      let corners = and_parts (is_corner x) (is_corner y) (kept_test (is_corner x && is_corner y) 1 rules.0) in
      let count = and_parts (nat_le (length run) 64) (starts_at_0 run && deltas_are_small run) (kept_test (nat_le (length run) 64 && (starts_at_0 run && deltas_are_small run)) 8 rules.1.1.1.1.0) in
      let few = count.0 in
      record {
        rect = near_placed (touched_rect size st (Text x y color font run))
            (text_near size j st font run good.glyphs x y sound good.held good.deltas (grind (arith, nat_tests, few)) corners.0 corners.1);
        clip_placed = clip_placed size clip session rules.1.0;
        reads = tt;
        source = tt;
      }
  stands (Line x0 y0 x1 y1 color) rules good = record { rect = line_placed x0 y0 x1 y1 rules.1.0; clip_placed = clip_placed size clip session rules.0; reads = tt; source = tt }
  stands (Save slot r) rules good = record { rect = rect_placed r rules.0; clip_placed = unclipped_placed clip rules.1.0; reads = rect_placed r rules.0; source = tt }
  stands (Restore slot x y) rules good = record {
    rect = restored slot x y (lookup slot st.blocks) good.block good.held good.inside;
    clip_placed = unclipped_placed clip rules.1.0;
    reads = tt;
    source = tt;
  }
  stands (LoadImage slot image) rules good = record { rect = nothing_placed; clip_placed = unclipped_placed clip rules.0; reads = tt; source = tt }
  stands (LoadBrush slot brush) rules good = record { rect = nothing_placed; clip_placed = unclipped_placed clip rules.0; reads = tt; source = tt }
  stands (LoadGlyph font code glyph) rules good = record { rect = nothing_placed; clip_placed = unclipped_placed clip rules.0; reads = tt; source = tt }

cuttable_of : (size : Size) (j : List Entry) (st : SurfaceState) (d : Drawing) → is_session_size size.w size.h ≡ true → IsSound size j st → Suits size st d
    → IsCuttable size (pending_of size st d)
cuttable_of size j st d session sound suits =
    let h = stands size j session st sound d.clip d.shape (rules_kept size st d suits.fits) (good_of size j st d sound suits) in
    record { walkable = record { rect = h.rect; clip = h.clip_placed; reads = h.reads }; source = h.source }

all_cuttable : (size : Size) (j : List Entry) (ds : List Drawing) (st : SurfaceState) → is_session_size size.w size.h ≡ true → AllSound size j st ds
    → AllCuttable size (pending_drawings size st ds)
all_cuttable size j [] st session h = tt
all_cuttable size j (d ∷ ds) st session h = (cuttable_of size j st d session h.0 h.1, all_cuttable size j ds (state_after_drawing size st d) session h.2)

-- the pending drawings of a legal journal
pub pending_cuttable : (head : Head) (j : List Entry) → is_session_size head.size.w head.size.h ≡ true → IsLegalJournal head j → (before number : ℕ) → before ≤ number
    → AllCuttable head.size (pending_between head.size j before number)
pending_cuttable head j session legal before number up =
    subst (AllCuttable head.size) (sym (pending_between_is head.size j before number))
    (all_cuttable head.size j (drawings_between head.size j before number) (state_after head.size j before).surface session
    (between_sound head j session legal before number up))
