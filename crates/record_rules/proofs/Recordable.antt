-- A record can hold each entry of a legal journal.
use Rattle.std.proofs.Common.{◌≡◌, ℕ, zero, suc, ◌+◌, ◌*◌, ◌/◌, ◌<◌, ◌≤◌, Bool, true, false, List, [], ◌∷◌, ◌++◌, length, refl, ap, subst, ◌∙◌, arith, Some, None, inl, inr}
use Rattle.std.specs.Prelude.{⊤, ◌⊎◌, Option, option_map, ℤ, pos, negsuc, ◌+ℤ◌, int_le, nat_lt, nat_le, ◌==◌, ◌&&◌, ◌||◌, not, is_none, IsTrue}
use Rattle.std.proofs.lemmas.Bool.{and_from, and_parts, eqb-true}
use Rattle.std.proofs.lemmas.Bool.Decides.{nat_tests}
use Rattle.std.proofs.lemmas.Int.{ints}
use Rattle.std.proofs.lemmas.List.{length-append}
use Rattle.std.proofs.lemmas.Nat.{mul-le}
use Rattle.px_core.specs.declared.surface.Size.{Size}
use Rattle.px_core.specs.declared.rectangle.Rect.{Rect}
use Rattle.px_core.specs.Rectangle.{boxed, has_pixel, is_inside, is_session_size}
use Rattle.px_core.specs.Colors.{is_color, are_colors}
use Rattle.draw_ops.specs.declared.shape.Drawing.{Drawing}
use Rattle.draw_ops.specs.declared.shape.Shape.{Shape}
use Rattle.draw_ops.specs.declared.shape.Shape.TheVariants.{Fill, Dst, Pat, Copy, Blit, Blit3, Text, Line, Save, Restore, LoadImage, LoadBrush, LoadGlyph}
use Rattle.draw_ops.specs.Content.{ImageOf}
use Rattle.draw_ops.specs.Slots.{SurfaceState, Slots, Loaded, lookup, filled_slot, empty_slots, opening_surface}
use Rattle.draw_ops.specs.Drawing.{loaded, slots_after, state_after_drawing, state_after_drawings}
use Rattle.draw_ops.specs.Fits.{first_some, broken_if, is_side, is_corner, rect_rule, place_rule, clip_rule, no_clip_rule, image_rule, is_offset, starts_at_0, deltas_are_small, rules_of, broken_rule, empty_if_none, too_small_if, source_test, slot_tests, slot_misfit, FitsState, AllFitState, Misfit}
use Rattle.draw_ops.specs.Fits.Misfit.{Rule}
use Rattle.draw_ops.specs.Ranges.{is_u8, is_u16, is_u32, are_bytes, are_byte_pairs, is_point_in_range, is_rect_in_range, is_image_in_range, is_brush_in_range, is_glyph_in_range, is_clip_in_range, is_shape_in_range, is_drawing_in_range}
use Rattle.std.specs.Ordering.{int_eq}
use Rattle.input_pdu.specs.declared.event.Event.{Event}
use Rattle.input_pdu.specs.declared.event.Event.TheVariants.{Sync, Scan, Unicode, Mouse, MouseX}
use Rattle.session_rules.specs.declared.entry.Role.{Role}
use Rattle.session_rules.specs.declared.entry.Role.TheVariants.{Owner, Control, View}
use Rattle.session_rules.specs.declared.entry.Entry.{Entry}
use Rattle.session_rules.specs.declared.entry.Entry.TheVariants.{Join, Leave, Give, Input, Draw}
use Rattle.session_rules.specs.Board.{board_reaction}
use Rattle.session_rules.specs.Journal.{Head, Reached, refusal_of, is_event_in_range, reached_at_first, reached_after_entry, are_legal_after, IsLegalJournal}
use Rattle.session_rules.specs.Reaching.{IsSoundReached}
use Rattle.session_rules.proofs.OwnSteps.{is_entry_in_range-legal, FitsState-legal, is_none-≡}
use Rattle.session_rules.proofs.Sound.{sound_after, sound_at_first}
use Rattle.session_rules.proofs.Fitting.{sides_of}
use Rattle.session_rules.proofs.BoardReactions.{board_reacts}
use Rattle.record_rules.specs.declared.field.Field.{Field}
use Rattle.record_rules.specs.declared.field.Field.TheVariants.{Byte, Short, SignedShort, Color}
use Rattle.record_rules.specs.Fields.{fields_bytes, is_in_place, are_in_place, is_i8, is_i16}
use Rattle.record_rules.specs.Tables.{flag, role_number, event_fields, rect_fields, clip_fields, shape_fields, shape_rest, body_bytes, is_rest_in_place, is_recordable, are_recordable}
use Rattle.record_rules.proofs.FieldsBack.{length-colors, length-pairs}
use Rattle.record_rules.proofs.EntriesBack.{fields_bytes-append}

-- ---- what rules say

kept_if : (t : Bool) (n : ℕ) → broken_if (not t) n ≡ None → t ≡ true
kept_if true n h = refl
kept_if false n h = absurd (cc h)

abbrev AllPassed : {A : Type 0} → List (Option A) → Type 0
AllPassed [] = ⊤
AllPassed (o ∷ os) = (o ≡ None) × AllPassed os

passed : {A : Type 0} (os : List (Option A)) → first_some os ≡ None → AllPassed os
passed [] h = tt
passed (None ∷ os) h = (refl, passed os h)
passed (Some x ∷ os) h = absurd (cc h)

both : (a b : Bool) → a ≡ true → b ≡ true → (a && b) ≡ true
both a b h k = and_from a b h k

corner_short : (z : ℤ) → is_corner z ≡ true → is_i16 z ≡ true
corner_short (pos n) h = let k = and_parts (int_le (negsuc 4095) (pos n)) (int_le (pos n) (pos 4095)) h in grind (arith, ints, nat_tests, k)
corner_short (negsuc n) h = let k = and_parts (int_le (negsuc 4095) (negsuc n)) (int_le (negsuc n) (pos 4095)) h in grind (arith, ints, nat_tests, k)

offset_small : (z : ℤ) → is_offset z ≡ true → is_i8 z ≡ true
offset_small (pos n) h = let k = and_parts (int_le (negsuc 63) (pos n)) (int_le (pos n) (pos 64)) h in grind (arith, ints, nat_tests, k)
offset_small (negsuc n) h = let k = and_parts (int_le (negsuc 63) (negsuc n)) (int_le (negsuc n) (pos 64)) h in grind (arith, ints, nat_tests, k)

side_short : (n : ℕ) → is_side n ≡ true → is_u16 n ≡ true
side_short n h = let k = and_parts (nat_le 1 n) (nat_le n 2048) h in grind (arith, nat_tests, k)

-- a stretch inside one of at most 2,048
stretch_short : (z : ℤ) (w m : ℕ) → m ≤ 2048 → (int_le (pos 0) z && int_le (z +ℤ pos w) (pos m)) ≡ true → (is_i16 z ≡ true) × (is_u16 w ≡ true)
stretch_short (pos n) w m few h =
    let k = and_parts (int_le (pos 0) (pos n)) (int_le (pos n +ℤ pos w) (pos m)) h in
    let sum : n + w ≤ m = grind (arith, ints, nat_tests, k) in
    (grind (arith, ints, nat_tests, sum, few), grind (arith, nat_tests, sum, few))
stretch_short (negsuc n) w m few h = let k = and_parts (int_le (pos 0) (negsuc n)) (int_le (negsuc n +ℤ pos w) (pos m)) h in absurd (cc k.0)

-- a rectangle inside a picture of at most 2,048 both ways
inside_short : (size : Size) (r : Rect) → size.w ≤ 2048 → size.h ≤ 2048 → is_inside size r ≡ true → are_in_place (rect_fields r) ≡ true
inside_short size r wide high h =
    let k = and_parts (int_le (pos 0) r.x && int_le (r.x +ℤ pos r.w) (pos size.w)) (int_le (pos 0) r.y && int_le (r.y +ℤ pos r.h) (pos size.h)) h in
    let a = stretch_short r.x r.w size.w wide k.0 in
    let b = stretch_short r.y r.h size.h high k.1 in
    both _ _ a.0 (both _ _ b.0 (both _ _ a.1 (both _ _ b.1 refl)))

rect_short : (r : Rect) → rect_rule r ≡ None → are_in_place (rect_fields r) ≡ true
rect_short r h =
    let k = and_parts (is_side r.w && is_side r.h) (is_corner r.x && is_corner r.y) (kept_if ((is_side r.w && is_side r.h) && (is_corner r.x && is_corner r.y)) 1 h) in
    let s = and_parts (is_side r.w) (is_side r.h) k.0 in
    let c = and_parts (is_corner r.x) (is_corner r.y) k.1 in
    both _ _ (corner_short r.x c.0) (both _ _ (corner_short r.y c.1) (both _ _ (side_short r.w s.0) (both _ _ (side_short r.h s.1) refl)))

point_short : (x y : ℤ) → place_rule x y ≡ None → (is_i16 x ≡ true) × (is_i16 y ≡ true)
point_short x y h = let k = and_parts (is_corner x) (is_corner y) (kept_if (is_corner x && is_corner y) 1 h) in (corner_short x k.0, corner_short y k.1)

abbrev IsLarge : Size → Type 0
IsLarge size = (size.w ≤ 2048) × (size.h ≤ 2048)

large : (size : Size) → is_session_size size.w size.h ≡ true → IsLarge size
large size h = let s = sides_of size.w size.h h in (omega (arith, s.not_wider), omega (arith, s.not_higher))

clip_short : (size : Size) (clip : Option Rect) → IsLarge size → clip_rule size clip ≡ None → are_in_place (clip_fields clip) ≡ true
clip_short size None l h = refl
clip_short size (Some r) l h = inside_short size r l.0 l.1 (and_parts (has_pixel r) (is_inside size r) (kept_if (has_pixel r && is_inside size r) 2 h)).1

no_clip : (clip : Option Rect) → no_clip_rule clip ≡ None → are_in_place (clip_fields clip) ≡ true
no_clip None h = refl
no_clip (Some r) h = absurd (cc h)

in_place_both : (xs ys : List Field) → are_in_place xs ≡ true → are_in_place ys ≡ true → are_in_place (xs ++ ys) ≡ true
in_place_both [] ys h k = k
in_place_both (x ∷ xs) ys h k = let m = and_parts (is_in_place x) (are_in_place xs) h in both _ _ m.0 (in_place_both xs ys m.1 k)

-- ---- images in slots

abbrev AreSmall : SurfaceState → Type 0
AreSmall st = (slot : ℕ) (x : Loaded ImageOf) → lookup slot st.images ≡ Some x → image_rule x.content ≡ None

lookup-filled : (slots : Slots (Loaded ImageOf)) (slot k : ℕ) (x y : Loaded ImageOf) → lookup k (filled_slot slot x slots) ≡ Some y → (x ≡ y) ⊎ (lookup k slots ≡ Some y)
lookup-filled [] slot k x y h = inr h
lookup-filled (s ∷ ss) zero zero x y h = inl (cc)
lookup-filled (s ∷ ss) zero (suc k) x y h = inr h
lookup-filled (s ∷ ss) (suc n) zero x y h = inr h
lookup-filled (s ∷ ss) (suc n) (suc k) x y h = lookup-filled ss n k x y h

in_empty : (n slot : ℕ) (x : Loaded ImageOf) → lookup slot (empty_slots n) ≡ Some x → image_rule x.content ≡ None
in_empty zero slot x h = absurd (cc h)
in_empty (suc n) zero x h = absurd (cc h)
in_empty (suc n) (suc k) x h = in_empty n k x h

small_at_first : (size : Size) → AreSmall (opening_surface size)
small_at_first size = in_empty 256

small_slots : (size : Size) (st : SurfaceState) (clip : Option Rect) (s : Shape) → first_some (rules_of size clip s) ≡ None → AreSmall st → AreSmall (slots_after size st s)
small_slots size st clip (Fill r color) h is = is
small_slots size st clip (Dst r code) h is = is
small_slots size st clip (Pat r code brush) h is = is
small_slots size st clip (Copy r code sx sy) h is = is
small_slots size st clip (Blit r code image sx sy) h is = is
small_slots size st clip (Blit3 r code image sx sy brush) h is = is
small_slots size st clip (Text x y color font run) h is = is
small_slots size st clip (Line x0 y0 x1 y1 color) h is = is
small_slots size st clip (Save slot r) h is = is
small_slots size st clip (Restore slot x y) h is = is
small_slots size st clip (LoadImage slot image) h is = λ k x e. elim (lookup-filled st.images slot k (loaded st image) x e) [
  | inl same ↦ subst (λ (l : Loaded ImageOf). image_rule l.content ≡ None) same (passed (rules_of size clip (LoadImage slot image)) h).1.1.0
  | inr there ↦ is k x there
]
small_slots size st clip (LoadBrush slot brush) h is = is
small_slots size st clip (LoadGlyph font code glyph) h is = is

fits_parts : (size : Size) (st : SurfaceState) (d : Drawing) → FitsState size st d → (broken_rule size d ≡ None) × (slot_misfit size st d.shape ≡ None)
fits_parts size st d h = by (broken_rule size d) (slot_misfit size st d.shape) h
  where
    by : (o : Option ℕ) (m : Option Misfit) → first_some (option_map Rule o ∷ m ∷ []) ≡ None → (o ≡ None) × (m ≡ None)
    by None None h = (refl, refl)
    by None (Some m) h = absurd (cc h)
    by (Some n) m h = absurd (cc h)

small_drawn : (size : Size) (st : SurfaceState) (d : Drawing) → FitsState size st d → AreSmall st → AreSmall (state_after_drawing size st d)
small_drawn size st d h is = small_slots size st d.clip d.shape (fits_parts size st d h).0 is

small_all : (size : Size) (st : SurfaceState) (ds : List Drawing) → AllFitState size st ds → AreSmall st → AreSmall (state_after_drawings size st ds)
small_all size st [] h is = is
small_all size st (d ∷ ds) h is = small_all size (state_after_drawing size st d) ds h.1 (small_drawn size st d h.0 is)

-- ---- shapes

pub record HasPlace (s : Shape) : Type 0 where
  pub fields : are_in_place (shape_fields s) ≡ true
  pub rest : is_rest_in_place s ≡ true
  pub short : length (shape_rest s) ≤ 12288

-- a source inside an image in a slot
source_short : (o : Option (Loaded ImageOf)) (slot : ℕ) (r : Rect) (sx sy : ℤ) → ((x : Loaded ImageOf) → o ≡ Some x → image_rule x.content ≡ None) → empty_if_none slot o ≡ None
    → source_test o slot r sx sy ≡ None → (is_i16 sx ≡ true) × (is_i16 sy ≡ true)
source_short None slot r sx sy small full h = absurd (cc full)
source_short (Some x) slot r sx sy small full h =
    let i : ImageOf = x.content in
    let k = kept_if ((nat_le 1 i.w && nat_le i.w 64) && ((nat_le 1 i.h && nat_le i.h 64) && length i.pixels == i.w * i.h)) 6 (small x refl) in
    let a = and_parts (nat_le 1 i.w && nat_le i.w 64) ((nat_le 1 i.h && nat_le i.h 64) && length i.pixels == i.w * i.h) k in
    let b = and_parts (nat_le 1 i.w) (nat_le i.w 64) a.0 in
    let c = and_parts (nat_le 1 i.h) (nat_le i.h 64) (and_parts (nat_le 1 i.h && nat_le i.h 64) (length i.pixels == i.w * i.h) a.1).0 in
    let wide : i.w ≤ 2048 = grind (arith, nat_tests, b.1) in
    let high : i.h ≤ 2048 = grind (arith, nat_tests, c.1) in
    let inside = large_enough (is_inside (record { w = i.w; h = i.h }) (boxed sx sy r.w r.h)) slot h in
    let p = and_parts (int_le (pos 0) sx && int_le (sx +ℤ pos r.w) (pos i.w)) (int_le (pos 0) sy && int_le (sy +ℤ pos r.h) (pos i.h)) inside in
    ((stretch_short sx r.w i.w wide p.0).0, (stretch_short sy r.h i.h high p.1).0)
  where
    large_enough : (t : Bool) (slot : ℕ) → too_small_if (not t) slot ≡ None → t ≡ true
    large_enough true slot h = refl
    large_enough false slot h = absurd (cc h)

place_of : (size : Size) (st : SurfaceState) (clip : Option Rect) (s : Shape) → IsLarge size → AreSmall st → is_shape_in_range s ≡ true → first_some (rules_of size clip s) ≡ None → slot_misfit size st s ≡ None → HasPlace s
place_of size st clip (Fill r color) l small range h misfit =
    let k = and_parts (is_rect_in_range r) (is_color color) range in
    let p = passed (rules_of size clip (Fill r color)) h in
    record { fields = in_place_both (rect_fields r) (Color color ∷ []) (rect_short r p.0) (both _ _ k.1 refl); rest = refl; short = omega arith }
place_of size st clip (Dst r code) l small range h misfit =
    let k = and_parts (is_rect_in_range r) (is_u8 code) range in
    let p = passed (rules_of size clip (Dst r code)) h in
    record { fields = in_place_both (rect_fields r) (Byte code ∷ []) (rect_short r p.0) (both _ _ k.1 refl); rest = refl; short = omega arith }
place_of size st clip (Pat r code brush) l small range h misfit =
    let k = and_parts (is_rect_in_range r) (is_u8 code && is_u8 brush) range in
    let m = and_parts (is_u8 code) (is_u8 brush) k.1 in
    let p = passed (rules_of size clip (Pat r code brush)) h in
    record { fields = in_place_both (rect_fields r) (Byte code ∷ Byte brush ∷ []) (rect_short r p.0) (both _ _ m.0 (both _ _ m.1 refl)); rest = refl; short = omega arith }
place_of size st clip (Copy r code sx sy) l small range h misfit =
    let k = and_parts (is_rect_in_range r) (is_u8 code && is_point_in_range sx sy) range in
    let m = and_parts (is_u8 code) (is_point_in_range sx sy) k.1 in
    let p = passed (rules_of size clip (Copy r code sx sy)) h in
    let inside = inside_short size (boxed sx sy r.w r.h) l.0 l.1 (kept_if (is_inside size (boxed sx sy r.w r.h)) 4 p.1.1.1.0) in
    let x = and_parts (is_i16 sx) (are_in_place (SignedShort sy ∷ Short r.w ∷ Short r.h ∷ [])) inside in
    let y = and_parts (is_i16 sy) (are_in_place (Short r.w ∷ Short r.h ∷ [])) x.1 in
    record { fields = in_place_both (rect_fields r) (Byte code ∷ SignedShort sx ∷ SignedShort sy ∷ []) (rect_short r p.0) (both _ _ m.0 (both _ _ x.0 (both _ _ y.0 refl))); rest = refl; short = omega arith }
place_of size st clip (Blit r code image sx sy) l small range h misfit =
    let k = and_parts (is_rect_in_range r) ((is_u8 code && is_u8 image) && is_point_in_range sx sy) range in
    let m = and_parts (is_u8 code) (is_u8 image) (and_parts (is_u8 code && is_u8 image) (is_point_in_range sx sy) k.1).0 in
    let p = passed (rules_of size clip (Blit r code image sx sy)) h in
    let q = passed (slot_tests size st (Blit r code image sx sy)) misfit in
    let s = source_short (lookup image st.images) image r sx sy (small image) q.0 q.1.0 in
    record {
      fields = in_place_both (rect_fields r) (Byte code ∷ Byte image ∷ SignedShort sx ∷ SignedShort sy ∷ []) (rect_short r p.0) (both _ _ m.0 (both _ _ m.1 (both _ _ s.0 (both _ _ s.1 refl))));
      rest = refl;
      short = omega arith;
    }
place_of size st clip (Blit3 r code image sx sy brush) l small range h misfit =
    let k = and_parts (is_rect_in_range r) ((is_u8 code && is_u8 image) && (is_point_in_range sx sy && is_u8 brush)) range in
    let n = and_parts (is_u8 code && is_u8 image) (is_point_in_range sx sy && is_u8 brush) k.1 in
    let m = and_parts (is_u8 code) (is_u8 image) n.0 in
    let b = and_parts (is_point_in_range sx sy) (is_u8 brush) n.1 in
    let p = passed (rules_of size clip (Blit3 r code image sx sy brush)) h in
    let q = passed (slot_tests size st (Blit3 r code image sx sy brush)) misfit in
    let s = source_short (lookup image st.images) image r sx sy (small image) q.0 q.1.1.0 in
    record {
      fields = in_place_both (rect_fields r) (Byte code ∷ Byte image ∷ SignedShort sx ∷ SignedShort sy ∷ Byte brush ∷ []) (rect_short r p.0)
          (both _ _ m.0 (both _ _ m.1 (both _ _ s.0 (both _ _ s.1 (both _ _ b.1 refl)))));
      rest = refl;
      short = omega arith;
    }
place_of size st clip (Text x y color font run) l small range h misfit =
    let k = and_parts (is_point_in_range x y) ((is_color color && is_u8 font) && are_byte_pairs run) range in
    let m = and_parts (is_color color && is_u8 font) (are_byte_pairs run) k.1 in
    let n = and_parts (is_color color) (is_u8 font) m.0 in
    let p = passed (rules_of size clip (Text x y color font run)) h in
    let at = point_short x y p.0 in
    let few = and_parts (nat_le (length run) 64) (starts_at_0 run && deltas_are_small run) (kept_if (nat_le (length run) 64 && (starts_at_0 run && deltas_are_small run)) 8 p.1.1.1.1.0) in
    let count : is_u8 (length run) ≡ true = grind (arith, nat_tests, few.0) in
    let most : length run ≤ 64 = grind (arith, nat_tests, few.0) in
    record {
      fields = both _ _ at.0 (both _ _ at.1 (both _ _ n.0 (both _ _ n.1 (both _ _ count refl))));
      rest = m.1;
      short = let is = length-pairs run in omega (arith, is, most);
    }
place_of size st clip (Line x0 y0 x1 y1 color) l small range h misfit =
    let k = and_parts (is_point_in_range x0 y0 && is_point_in_range x1 y1) (is_color color) range in
    let p = passed (rules_of size clip (Line x0 y0 x1 y1 color)) h in
    let ends = line_kept (int_eq x0 x1) (int_eq y0 y1) ((is_corner x0 && is_corner y0) && (is_corner x1 && is_corner y1)) p.1.0 in
    let e = and_parts (is_corner x0 && is_corner y0) (is_corner x1 && is_corner y1) ends in
    let a = and_parts (is_corner x0) (is_corner y0) e.0 in
    let b = and_parts (is_corner x1) (is_corner y1) e.1 in
    record {
      fields = both _ _ (corner_short x0 a.0) (both _ _ (corner_short y0 a.1) (both _ _ (corner_short x1 b.0) (both _ _ (corner_short y1 b.1) (both _ _ k.1 refl))));
      rest = refl;
      short = omega arith;
    }
  where
    line_kept : (a b t : Bool) → broken_if ((a || b) || not t) 7 ≡ None → t ≡ true
    line_kept a b true h = refl
    line_kept true b false h = absurd (cc h)
    line_kept false true false h = absurd (cc h)
    line_kept false false false h = absurd (cc h)
place_of size st clip (Save slot r) l small range h misfit =
    let k = and_parts (is_u8 slot) (is_rect_in_range r) range in
    let p = passed (rules_of size clip (Save slot r)) h in
    record { fields = both _ _ k.0 (rect_short r p.0); rest = refl; short = omega arith }
place_of size st clip (Restore slot x y) l small range h misfit =
    let k = and_parts (is_u8 slot) (is_point_in_range x y) range in
    let p = passed (rules_of size clip (Restore slot x y)) h in
    let at = point_short x y p.0 in
    record { fields = both _ _ k.0 (both _ _ at.0 (both _ _ at.1 refl)); rest = refl; short = omega arith }
place_of size st clip (LoadImage slot image) l small range h misfit =
    let k = and_parts (is_u8 slot) (is_image_in_range image) range in
    let colors = and_parts (is_u16 image.w && is_u16 image.h) (are_colors image.pixels) k.1 in
    let p = passed (rules_of size clip (LoadImage slot image)) h in
    let r = kept_if ((nat_le 1 image.w && nat_le image.w 64) && ((nat_le 1 image.h && nat_le image.h 64) && length image.pixels == image.w * image.h)) 6 p.1.1.0 in
    let a = and_parts (nat_le 1 image.w && nat_le image.w 64) ((nat_le 1 image.h && nat_le image.h 64) && length image.pixels == image.w * image.h) r in
    let b = and_parts (nat_le 1 image.w) (nat_le image.w 64) a.0 in
    let c = and_parts (nat_le 1 image.h && nat_le image.h 64) (length image.pixels == image.w * image.h) a.1 in
    let d = and_parts (nat_le 1 image.h) (nat_le image.h 64) c.0 in
    let wide : image.w ≤ 64 = grind (arith, nat_tests, b.1) in
    let high : image.h ≤ 64 = grind (arith, nat_tests, d.1) in
    let w : is_u8 image.w ≡ true = grind (arith, nat_tests, wide) in
    let t : is_u8 image.h ≡ true = grind (arith, nat_tests, high) in
    let count : length image.pixels ≡ image.w * image.h = eqb-true (length image.pixels) (image.w * image.h) c.1 in
    record {
      fields = both _ _ k.0 (both _ _ w (both _ _ t refl));
      rest = both _ _ c.1 colors.1;
      short = let is = length-colors image.pixels in let most : image.w * image.h ≤ 4096 = area image.w image.h wide high in omega (arith, is, count, most);
    }
  where
    area : (w h : ℕ) → w ≤ 64 → h ≤ 64 → w * h ≤ 4096
    area w h a b = mul-le w h 64 64 a b
place_of size st clip (LoadBrush slot brush) l small range h misfit =
    let k = and_parts (is_u8 slot) (is_brush_in_range brush) range in
    let m = and_parts (length brush == 64) (are_colors brush) k.1 in
    let count : length brush ≡ 64 = eqb-true (length brush) 64 m.0 in
    record { fields = both _ _ k.0 refl; rest = k.1; short = let is = length-colors brush in omega (arith, is, count) }
place_of size st clip (LoadGlyph font code glyph) l small range h misfit =
    let k = and_parts (is_u8 font && is_u8 code) (is_glyph_in_range glyph) range in
    let f = and_parts (is_u8 font) (is_u8 code) k.0 in
    let bytes = and_parts (is_point_in_range glyph.x glyph.y && (is_u16 glyph.cx && is_u16 glyph.cy)) (are_bytes glyph.bits) k.1 in
    let p = passed (rules_of size clip (LoadGlyph font code glyph)) h in
    let r = kept_if ((nat_le 1 glyph.cx && nat_le glyph.cx 32) && ((nat_le 1 glyph.cy && nat_le glyph.cy 32) && ((is_offset glyph.x && is_offset glyph.y) && length glyph.bits == (glyph.cx + 7) / 8 * glyph.cy))) 6 p.1.1.1.0 in
    let a = and_parts (nat_le 1 glyph.cx && nat_le glyph.cx 32) ((nat_le 1 glyph.cy && nat_le glyph.cy 32) && ((is_offset glyph.x && is_offset glyph.y) && length glyph.bits == (glyph.cx + 7) / 8 * glyph.cy)) r in
    let b = and_parts (nat_le 1 glyph.cx) (nat_le glyph.cx 32) a.0 in
    let c = and_parts (nat_le 1 glyph.cy && nat_le glyph.cy 32) ((is_offset glyph.x && is_offset glyph.y) && length glyph.bits == (glyph.cx + 7) / 8 * glyph.cy) a.1 in
    let d = and_parts (nat_le 1 glyph.cy) (nat_le glyph.cy 32) c.0 in
    let e = and_parts (is_offset glyph.x && is_offset glyph.y) (length glyph.bits == (glyph.cx + 7) / 8 * glyph.cy) c.1 in
    let g = and_parts (is_offset glyph.x) (is_offset glyph.y) e.0 in
    let wide : glyph.cx ≤ 32 = grind (arith, nat_tests, b.1) in
    let high : glyph.cy ≤ 32 = grind (arith, nat_tests, d.1) in
    let w : is_u8 glyph.cx ≡ true = grind (arith, nat_tests, wide) in
    let t : is_u8 glyph.cy ≡ true = grind (arith, nat_tests, high) in
    let count : length glyph.bits ≡ (glyph.cx + 7) / 8 * glyph.cy = eqb-true (length glyph.bits) ((glyph.cx + 7) / 8 * glyph.cy) e.1 in
    record {
      fields = both _ _ f.0 (both _ _ f.1 (both _ _ (offset_small glyph.x g.0) (both _ _ (offset_small glyph.y g.1) (both _ _ w (both _ _ t refl)))));
      rest = both _ _ e.1 bytes.1;
      short = let most : (glyph.cx + 7) / 8 * glyph.cy ≤ 12288 = rows_few glyph.cx glyph.cy wide high in omega (arith, count, most);
    }
  where
    rows_few : (w h : ℕ) → w ≤ 32 → h ≤ 32 → (w + 7) / 8 * h ≤ 12288
    rows_few w h a b = let part : (w + 7) / 8 ≤ 384 = omega (arith, a) in mul-le ((w + 7) / 8) h 384 32 part b

-- ---- drawings

clip_of : (size : Size) (clip : Option Rect) (s : Shape) → IsLarge size → first_some (rules_of size clip s) ≡ None → are_in_place (clip_fields clip) ≡ true
clip_of size clip (Fill r color) l h = clip_short size clip l (passed (rules_of size clip (Fill r color)) h).1.0
clip_of size clip (Dst r code) l h = clip_short size clip l (passed (rules_of size clip (Dst r code)) h).1.0
clip_of size clip (Pat r code brush) l h = clip_short size clip l (passed (rules_of size clip (Pat r code brush)) h).1.0
clip_of size clip (Copy r code sx sy) l h = clip_short size clip l (passed (rules_of size clip (Copy r code sx sy)) h).1.0
clip_of size clip (Blit r code image sx sy) l h = clip_short size clip l (passed (rules_of size clip (Blit r code image sx sy)) h).1.0
clip_of size clip (Blit3 r code image sx sy brush) l h = clip_short size clip l (passed (rules_of size clip (Blit3 r code image sx sy brush)) h).1.0
clip_of size clip (Text x y color font run) l h = clip_short size clip l (passed (rules_of size clip (Text x y color font run)) h).1.0
clip_of size clip (Line x0 y0 x1 y1 color) l h = clip_short size clip l (passed (rules_of size clip (Line x0 y0 x1 y1 color)) h).0
clip_of size clip (Save slot r) l h = no_clip clip (passed (rules_of size clip (Save slot r)) h).1.0
clip_of size clip (Restore slot x y) l h = no_clip clip (passed (rules_of size clip (Restore slot x y)) h).1.0
clip_of size clip (LoadImage slot image) l h = no_clip clip (passed (rules_of size clip (LoadImage slot image)) h).0
clip_of size clip (LoadBrush slot brush) l h = no_clip clip (passed (rules_of size clip (LoadBrush slot brush)) h).0
clip_of size clip (LoadGlyph font code glyph) l h = no_clip clip (passed (rules_of size clip (LoadGlyph font code glyph)) h).0

clip_few : (clip : Option Rect) → length (fields_bytes (clip_fields clip)) ≤ 9
clip_few None = omega arith
clip_few (Some r) = omega arith

shape_few : (s : Shape) → length (fields_bytes (shape_fields s)) ≤ 17
shape_few (Fill r color) = omega arith
shape_few (Dst r code) = omega arith
shape_few (Pat r code brush) = omega arith
shape_few (Copy r code sx sy) = omega arith
shape_few (Blit r code image sx sy) = omega arith
shape_few (Blit3 r code image sx sy brush) = omega arith
shape_few (Text x y color font run) = omega arith
shape_few (Line x0 y0 x1 y1 color) = omega arith
shape_few (Save slot r) = omega arith
shape_few (Restore slot x y) = omega arith
shape_few (LoadImage slot image) = omega arith
shape_few (LoadBrush slot brush) = omega arith
shape_few (LoadGlyph font code glyph) = omega arith

drawing_recordable : (by : ℕ) (d : Drawing) → is_u32 by ≡ true → are_in_place (clip_fields d.clip) ≡ true → HasPlace d.shape → is_recordable (Draw by d) ≡ true
drawing_recordable by d h clip place =
    let fields : are_in_place (clip_fields d.clip ++ shape_fields d.shape) ≡ true = in_place_both (clip_fields d.clip) (shape_fields d.shape) clip place.fields in
    let a = ap length (fields_bytes-append (clip_fields d.clip) (shape_fields d.shape)) ∙ length-append (fields_bytes (clip_fields d.clip)) (fields_bytes (shape_fields d.shape)) in
    let b = length-append (fields_bytes (clip_fields d.clip ++ shape_fields d.shape)) (shape_rest d.shape) in
    let c = clip_few d.clip in
    let s = shape_few d.shape in
    let p = place.short in
    let n : ℕ = length (fields_bytes (clip_fields d.clip ++ shape_fields d.shape) ++ shape_rest d.shape) in
    let short : n < 65000 = omega (arith, a, b, c, s, p) in
    let fits : nat_lt (suc (suc (suc (suc (suc n))))) 65536 ≡ true = grind (arith, nat_tests, short) in
    both _ _ (both _ _ (both _ _ h fields) place.rest) fits

-- ---- entries

flag_short : (up : Bool) → is_u16 (flag up) ≡ true
flag_short true = refl
flag_short false = refl

event_place : (e : Event) → is_event_in_range e ≡ true → are_in_place (event_fields e) ≡ true
event_place Sync h = refl
event_place (Scan code up) h = both _ _ h (both _ _ (flag_short up) refl)
event_place (Unicode code up) h = both _ _ h (both _ _ (flag_short up) refl)
event_place (Mouse flags x y) h =
    let k = and_parts (is_u16 flags) (is_u16 x && is_u16 y) h in
    let m = and_parts (is_u16 x) (is_u16 y) k.1 in
    both _ _ k.0 (both _ _ m.0 (both _ _ m.1 refl))
event_place MouseX h = refl

event_few : (by : ℕ) (e : Event) → is_u16 (length (body_bytes (Input by e))) ≡ true
event_few by Sync = refl
event_few by (Scan code up) = refl
event_few by (Unicode code up) = refl
event_few by (Mouse flags x y) = refl
event_few by MouseX = refl

role_place : (role : Role) → is_u8 (role_number role) ≡ true
role_place Owner = refl
role_place Control = refl
role_place View = refl

entry_recordable : (head : Head) (r : Reached) (e : Entry) → IsLarge head.size → AreSmall r.state.surface → refusal_of head r e ≡ None → is_recordable e ≡ true
entry_recordable head r (Join v role) l small h =
    both _ _ (both _ _ (both _ _ (is_entry_in_range-legal head r (Join v role) h) (both _ _ (role_place role) refl)) refl) refl
entry_recordable head r (Leave v) l small h = both _ _ (both _ _ (both _ _ (is_entry_in_range-legal head r (Leave v) h) refl) refl) refl
entry_recordable head r (Give by to) l small h =
    let k = and_parts (is_u32 by) (is_u32 to) (is_entry_in_range-legal head r (Give by to) h) in
    both _ _ (both _ _ (both _ _ k.0 (both _ _ k.1 refl)) refl) refl
entry_recordable head r (Input by e) l small h =
    let k = and_parts (is_u32 by) (is_event_in_range e) (is_entry_in_range-legal head r (Input by e) h) in
    both _ _ (both _ _ (both _ _ k.0 (event_place e k.1)) refl) (event_few by e)
entry_recordable head r (Draw by d) l small h =
    let k = and_parts (is_u32 by) (is_drawing_in_range d) (is_entry_in_range-legal head r (Draw by d) h) in
    let m = and_parts (is_shape_in_range d.shape) (is_clip_in_range d.clip) k.1 in
    let f = fits_parts head.size r.state.surface d (FitsState-legal head r by d h) in
    drawing_recordable by d k.0 (clip_of head.size d.clip d.shape l f.0) (place_of head.size r.state.surface d.clip d.shape l small m.0 f.0 f.1)

-- ---- whole journals

small_after : (head : Head) (r : Reached) (e : Entry) → is_session_size head.size.w head.size.h ≡ true → IsSoundReached head.size r → refusal_of head r e ≡ None
    → AreSmall r.state.surface → AreSmall (reached_after_entry head.size r e).state.surface
small_after head r (Join v role) size sound h small = small
small_after head r (Leave v) size sound h small = small
small_after head r (Give by to) size sound h small = small
small_after head r (Input by e) size sound h small =
    let reacts = board_reacts head.size r.state.surface r.state.board e (sides_of head.size.w head.size.h size) sound.agrees in
    small_all head.size r.state.surface (board_reaction head.size r.state.board e).drawings reacts.0 small
small_after head r (Draw by d) size sound h small = small_drawn head.size r.state.surface d (FitsState-legal head r by d h) small

recordable_from : (head : Head) (r : Reached) (j : List Entry) → is_session_size head.size.w head.size.h ≡ true → IsSoundReached head.size r → AreSmall r.state.surface
    → IsTrue (are_legal_after head r j) → are_recordable j ≡ true
recordable_from head r [] size sound small h = refl
recordable_from head r (e ∷ es) size sound small h =
    let k = and_parts (is_none (refusal_of head r e)) (are_legal_after head (reached_after_entry head.size r e) es) h in
    let legal = is_none-≡ (refusal_of head r e) k.0 in
    both _ _ (entry_recordable head r e (large head.size size) small legal)
    (recordable_from head (reached_after_entry head.size r e) es size (sound_after head r e size sound legal) (small_after head r e size sound legal small) k.1)

-- each entry of a legal journal
pub legal_recordable : (head : Head) (j : List Entry) → is_session_size head.size.w head.size.h ≡ true → IsLegalJournal head j → are_recordable j ≡ true
legal_recordable head j size h = recordable_from head (reached_at_first head.size) j size (sound_at_first head.size size) (small_at_first head.size) h
