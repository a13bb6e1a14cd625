-- Each drawing of the board's reaction fits a surface that agrees with the board, and the surface after them agrees with the board after it.
use Rattle.std.proofs.Common.{◌≡◌, subst, eq-eqb, ℕ, ◌+◌, ◌*◌, ◌-◌, ◌/◌, ◌%◌, ◌<◌, ◌≤◌, List, [], ◌∷◌, ◌++◌, refl, ap, sym, ◌∙◌, Some, None, length, arith}
use Rattle.std.specs.Prelude.{⊤, Option, Bool, true, false, ◌&&◌, ◌||◌, ◌==◌, not, nat_lt, nat_le, IsTrue, is_some, pos, negsuc, ◌-ℤ◌, ◌≤ℤ◌, option_map, option_to_list, if◌then◌else◌, min, max}
use Rattle.std.specs.Ordering.{int_eq}
use Rattle.std.proofs.lemmas.Bool.{and_from, and_parts, eqb-true}
use Rattle.std.proofs.Math.Nat.{mod-lt, mul-div-le}
use Rattle.std.proofs.lemmas.Bool.Decides.{nat_tests}
use Rattle.std.proofs.lemmas.Int.{ints}
use Rattle.px_core.specs.declared.surface.Size.{Size}
use Rattle.px_core.specs.declared.rectangle.Rect.{Rect}
use Rattle.px_core.specs.Rectangle.{boxed, is_inside, whole, in_clip}
use Rattle.draw_ops.specs.declared.shape.Drawing.{Drawing}
use Rattle.draw_ops.specs.declared.shape.Shape.TheVariants.{Fill, Dst, Pat, Copy, Blit, Line, Save, LoadImage, LoadBrush, LoadGlyph}
use Rattle.draw_ops.specs.Content.{ImageOf}
use Rattle.draw_ops.specs.Slots.{SurfaceState, Loaded, lookup, glyph_slot}
use Rattle.draw_ops.specs.Formulas.{painted_area}
use Rattle.draw_ops.specs.Drawing.{slots_after, state_after_drawing, state_after_drawings, painting_of, loaded, block_of}
use Rattle.draw_ops.specs.Fits.{FitsState, AllFitState, is_corner, rect_rule, place_rule, line_rule, copied_rule, broken_if}
use Rattle.draw_ops.proofs.Painted.{length-painted_from}
use Rattle.input_pdu.specs.declared.event.Event.{Event}
use Rattle.input_pdu.specs.declared.event.Event.TheVariants.{Sync, Scan, Unicode, Mouse, MouseX}
use Rattle.session_rules.specs.Board.{Board, Point, Reaction, idle, only_if, first_fitting, unclipped, board_image, board_brush, board_font, board_block, popup_rect, popup_removal, chosen_ink, closing, dotting, lifting, opening, popup_place, ink_field, ink_color, stroking, mouse_lines, mouse_reaction, point_on, is_down, is_button_1, is_button_2, is_move, clearing, inverting, scrolling, patterning, stamping, key_lines, is_member, sign_place, sign_text, writing_sign, sign_lines, load_unless, checkered, shaded, board_reaction}
use Rattle.session_rules.specs.Agreement.{BoardAgrees, IsPointOn, IsPopupKept, IsBrushKept, IsImageKept, AreGlyphsKept, HoldsSides, HoldsLoadedSides, is_on_surface}
use Rattle.session_rules.proofs.Slots.{lookup-other, lookup-filled, length-filled}
use Rattle.session_rules.proofs.Agrees.{Keeps, same_slots, keeps_drawn, agrees_kept, popup_kept, brush_kept, image_kept, glyphs_kept}
use Rattle.session_rules.proofs.Fitting.{Sides, side, corner, corner_of, rect_passes, place_passes, lies_inside, inside_wide, inside_high, passed, fill_fits, invert_fits, copy_fits, line_fits, save_fits, brush_load_fits, image_load_fits, glyph_load_fits, pattern_fits, stamp_fits, restore_fits, sign_fits, sign_glyph}

-- a reaction's drawings fit one after the other, and the surface after them agrees with the board after it
abbrev pub Reacts : Size → SurfaceState → Reaction → Type 0
Reacts size st r = AllFitState size st r.drawings × BoardAgrees size (state_after_drawings size st r.drawings) r.board

-- ---- the table: the first line that fits

abbrev pub Holds : (Reaction → Type 0) → Option Reaction → Type 0
Holds P None = ⊤
Holds P (Some r) = P r

abbrev pub AllHold : (Reaction → Type 0) → List (Option Reaction) → Type 0
AllHold P [] = ⊤
AllHold P (line ∷ lines) = Holds P line × AllHold P lines

pub first_holds : (P : Reaction → Type 0) (lines : List (Option Reaction)) (b : Board) → AllHold P lines → P (idle b) → P (first_fitting lines b)
first_holds P [] b all none = none
first_holds P (None ∷ lines) b all none = first_holds P lines b all.1 none
first_holds P (Some r ∷ lines) b all none = all.0

pub line_if : (P : Reaction → Type 0) (test : Bool) (line : Option Reaction) → (test ≡ true → Holds P line) → Holds P (only_if test line)
line_if P true line h = h refl
line_if P false line h = tt

pub line_of : (P : Reaction → Type 0) (o : Option Point) (f : Point → Reaction) → ((p : Point) → o ≡ Some p → P (f p)) → Holds P (option_map f o)
line_of P None f h = tt
line_of P (Some p) f h = h p refl

-- ---- boards of which only what has no rule changes

-- a surface that agrees, with another board's points: the pen and the popup may be given anew
moved : (size : Size) (st : SurfaceState) (b c : Board) → BoardAgrees size st b → IsPointOn size c.pen → IsPointOn size (Some c.last) → IsPopupKept size st c.popup
    → c.brush_loaded ≡ b.brush_loaded → c.image_loaded ≡ b.image_loaded → c.glyphs_loaded ≡ b.glyphs_loaded → BoardAgrees size st c
moved size st b c h pen last popup eb ei eg = record {
  sized = h.sized;
  pen = pen;
  last = last;
  popup = popup;
  brush = rw eb h.brush;
  image = rw ei h.image;
  glyphs = rw eg h.glyphs;
}

-- a drawing that changes no slot keeps the agreement
painted_agrees : (size : Size) (st : SurfaceState) (b : Board) (d : Drawing) → Keeps st (slots_after size st d.shape) → BoardAgrees size st b → BoardAgrees size (state_after_drawing size st d) b
painted_agrees size st b d k h =
    let p = painting_of size st d.shape in
    agrees_kept size st (state_after_drawing size st d) b (keeps_drawn size st d k) (length-painted_from size.w 0 (painted_area (in_clip d.clip) p) p.formula st.picture) h

point_wide : (size : Size) (p : Point) → IsTrue (is_on_surface size p) → p.x < size.w
point_wide size p h = let e = (and_parts (nat_lt p.x size.w) (nat_lt p.y size.h) h).0 in grind (arith, nat_tests, e)

point_high : (size : Size) (p : Point) → IsTrue (is_on_surface size p) → p.y < size.h
point_high size p h = let e = (and_parts (nat_lt p.x size.w) (nat_lt p.y size.h) h).1 in grind (arith, nat_tests, e)

on_surface : (size : Size) (x y : ℕ) → x < size.w → y < size.h → IsTrue (is_on_surface size (record { x = x; y = y }))
on_surface size x y a b = and_from _ _ (below x size.w a) (below y size.h b)
  where
    below : (m n : ℕ) → m < n → nat_lt m n ≡ true
    below m n h = grind (arith, nat_tests)

pub point_on-surface : (size : Size) (x y : ℕ) → Sides size.w size.h → IsTrue (is_on_surface size (point_on size x y))
point_on-surface size x y s = on_surface size (min x (size.w - 1)) (min y (size.h - 1)) (omega (arith, s.wide)) (omega (arith, s.high))

-- the whole surface passes rule 1
whole_passes : (size : Size) → Sides size.w size.h → rect_rule (whole size) ≡ None
whole_passes size s = rect_passes (pos 0) (pos 0) size.w size.h (side size.w (omega (arith, s.wide)) s.not_wider) (side size.h s.high s.not_higher) refl refl

-- ---- the mouse

-- a dot around a point of the surface passes rule 1
dot_corner : (n : ℕ) → n < 2048 → (negsuc 4095 ≤ℤ (pos n -ℤ pos 2)) × ((pos n -ℤ pos 2) ≤ℤ pos 4095)
dot_corner n h = (omega (arith, ints), omega (arith, ints, h))

dot_passes : (size : Size) (p : Point) → Sides size.w size.h → IsTrue (is_on_surface size p) → rect_rule (boxed (pos p.x -ℤ pos 2) (pos p.y -ℤ pos 2) 5 5) ≡ None
dot_passes size p s on =
    let a = dot_corner p.x (omega (arith, s.not_wider, point_wide size p on)) in let b = dot_corner p.y (omega (arith, s.not_higher, point_high size p on)) in
    rect_passes (pos p.x -ℤ pos 2) (pos p.y -ℤ pos 2) 5 5 refl refl (corner (pos p.x -ℤ pos 2) a.0 a.1) (corner (pos p.y -ℤ pos 2) b.0 b.1)

dotting_reacts : (size : Size) (st : SurfaceState) (b : Board) (p : Point) → Sides size.w size.h → IsTrue (is_on_surface size p) → BoardAgrees size st b → Reacts size st (dotting b p)
dotting_reacts size st b p s on h =
    let d = unclipped (Fill (boxed (pos p.x -ℤ pos 2) (pos p.y -ℤ pos 2) 5 5) (ink_color b.ink)) in (
      (fill_fits size st (boxed (pos p.x -ℤ pos 2) (pos p.y -ℤ pos 2) 5 5) (ink_color b.ink) (dot_passes size p s on), tt),
      painted_agrees size st (record b { pen = Some p }) d (same_slots st) (moved size st b (record b { pen = Some p }) h on h.last h.popup refl refl refl),
    )

lifting_reacts : (size : Size) (st : SurfaceState) (b : Board) → BoardAgrees size st b → Reacts size st (lifting b)
lifting_reacts size st b h = (tt, moved size st b (record b { pen = None }) h tt h.last h.popup refl refl refl)

-- an open popup
popup_at : (size : Size) (st : SurfaceState) (b : Board) (at : Point) → b.popup ≡ Some at → BoardAgrees size st b → IsPopupKept size st (Some at)
popup_at size st b at eq h = subst (λ o. IsPopupKept size st o) eq h.popup

removal_fits : (size : Size) (st : SurfaceState) (at : Point) → Sides size.w size.h → IsPopupKept size st (Some at) → FitsState size st (popup_removal at)
removal_fits size st at s k =
    let a = inside_wide size at.x at.y 64 16 k.0 in let c = inside_high size at.x at.y 64 16 k.0 in
    restore_fits size st (pos at.x) (pos at.y) (place_passes (pos at.x) (pos at.y) (corner_of at.x (omega (arith, a, s.not_wider))) (corner_of at.y (omega (arith, c, s.not_higher)))) k.0 k.1

closing_reacts : (size : Size) (st : SurfaceState) (b : Board) (p at : Point) → Sides size.w size.h → b.popup ≡ Some at → BoardAgrees size st b → Reacts size st (closing b p at)
closing_reacts size st b p at s eq h =
    let c = record b { popup = None; ink = chosen_ink at p b.ink } in (
      (removal_fits size st at s (popup_at size st b at eq h), tt),
      painted_agrees size st c (popup_removal at) (same_slots st) (moved size st b c h h.pen h.last tt refl refl refl),
    )

-- ---- the popup opens

-- a save of what the popup covers
saved_agrees : (size : Size) (st : SurfaceState) (b : Board) (at : Point) → is_inside size (popup_rect at) ≡ true → BoardAgrees size st b
    → BoardAgrees size (state_after_drawing size st (unclipped (Save board_block (popup_rect at)))) (record b { popup = Some at; pen = None })
saved_agrees size st b at inside h =
    let d = unclipped (Save board_block (popup_rect at)) in let p = painting_of size st d.shape in
    let block = lookup-filled st.blocks board_block (block_of size st (popup_rect at)) (rw h.sized.blocks (omega arith)) in record {
      sized = record {
        pixels = length-painted_from size.w 0 (painted_area (in_clip d.clip) p) p.formula st.picture ∙ h.sized.pixels;
        images = h.sized.images;
        brushes = h.sized.brushes;
        glyphs = h.sized.glyphs;
        blocks = length-filled st.blocks board_block (block_of size st (popup_rect at)) ∙ h.sized.blocks;
      };
      pen = tt;
      last = h.last;
      popup = (inside, subst (λ o. HoldsSides o 64 16) (sym block) (refl, refl));
      brush = brush_kept st (state_after_drawing size st d) b.brush_loaded refl h.brush;
      image = image_kept st (state_after_drawing size st d) b.image_loaded refl h.image;
      glyphs = glyphs_kept st (state_after_drawing size st d) b.glyphs_loaded (λ code. refl) h.glyphs;
    }

-- a field of ink passes rule 1
field_passes : (size : Size) (at : Point) (ink : ℕ) → Sides size.w size.h → ink ≤ 3 → is_inside size (popup_rect at) ≡ true → rect_rule (boxed (pos (at.x + 16 * ink)) (pos at.y) 16 16) ≡ None
field_passes size at ink s few inside =
    let a = inside_wide size at.x at.y 64 16 inside in let c = inside_high size at.x at.y 64 16 inside in
    rect_passes (pos (at.x + 16 * ink)) (pos at.y) 16 16 refl refl (corner_of (at.x + 16 * ink) (omega (arith, a, few, s.not_wider))) (corner_of at.y (omega (arith, c, s.not_higher)))

field_reacts : (size : Size) (st : SurfaceState) (b : Board) (at : Point) (ink : ℕ) → Sides size.w size.h → ink ≤ 3 → is_inside size (popup_rect at) ≡ true → BoardAgrees size st b
    → FitsState size st (ink_field at ink) × BoardAgrees size (state_after_drawing size st (ink_field at ink)) b
field_reacts size st b at ink s few inside h = (fill_fits size st (boxed (pos (at.x + 16 * ink)) (pos at.y) 16 16) (ink_color ink) (field_passes size at ink s few inside), painted_agrees size st b (ink_field at ink) (same_slots st) h)

abbrev pub opened_drawings : Point → List Drawing
opened_drawings at = unclipped (Save board_block (popup_rect at)) ∷ ink_field at 0 ∷ ink_field at 1 ∷ ink_field at 2 ∷ ink_field at 3 ∷ []

opened_reacts : (size : Size) (st : SurfaceState) (b : Board) (at : Point) → Sides size.w size.h → is_inside size (popup_rect at) ≡ true → BoardAgrees size st b
    → AllFitState size st (opened_drawings at) × BoardAgrees size (state_after_drawings size st (opened_drawings at)) (record b { popup = Some at; pen = None })
opened_reacts size st b at s inside h =
    let c = record b { popup = Some at; pen = None } in
    let a = inside_wide size at.x at.y 64 16 inside in let e = inside_high size at.x at.y 64 16 inside in
    let st1 = state_after_drawing size st (unclipped (Save board_block (popup_rect at))) in
    let h1 : BoardAgrees size st1 c = saved_agrees size st b at inside h in
    let f0 = field_reacts size st1 c at 0 s (omega arith) inside h1 in let st2 = state_after_drawing size st1 (ink_field at 0) in
    let f1 = field_reacts size st2 c at 1 s (omega arith) inside f0.1 in let st3 = state_after_drawing size st2 (ink_field at 1) in
    let f2 = field_reacts size st3 c at 2 s (omega arith) inside f1.1 in let st4 = state_after_drawing size st3 (ink_field at 2) in
    let f3 = field_reacts size st4 c at 3 s (omega arith) inside f2.1 in (
      (
        save_fits size st (popup_rect at) (rect_passes (pos at.x) (pos at.y) 64 16 refl refl (corner_of at.x (omega (arith, a, s.not_wider))) (corner_of at.y (omega (arith, e, s.not_higher)))) (passed _ 9 inside),
        (f0.0, (f1.0, (f2.0, (f3.0, tt)))),
      ),
      f3.1,
    )

-- where a popup is open already, it is taken off first
abbrev drawings_with : Option Point → Point → List Drawing
drawings_with o at = option_to_list (option_map popup_removal o) ++ opened_drawings at

opening_over : (size : Size) (st : SurfaceState) (b : Board) (at : Point) (o : Option Point) → Sides size.w size.h → is_inside size (popup_rect at) ≡ true → b.popup ≡ o → BoardAgrees size st b
    → AllFitState size st (drawings_with o at) × BoardAgrees size (state_after_drawings size st (drawings_with o at)) (record b { popup = Some at; pen = None })
opening_over size st b at None s inside eq h = opened_reacts size st b at s inside h
opening_over size st b at (Some old) s inside eq h =
    let st1 = state_after_drawing size st (popup_removal old) in
    let r = opened_reacts size st1 b at s inside (painted_agrees size st b (popup_removal old) (same_slots st) h) in
    ((removal_fits size st old s (popup_at size st b old eq h), r.0), r.1)

opening_reacts : (size : Size) (st : SurfaceState) (b : Board) (at : Point) → Sides size.w size.h → is_inside size (popup_rect at) ≡ true → BoardAgrees size st b → Reacts size st (opening b at)
opening_reacts size st b at s inside h = opening_over size st b at b.popup s inside refl h

popup_inside : (size : Size) (p : Point) → IsTrue (is_on_surface size p) → (nat_le 64 size.w && nat_le 16 size.h) ≡ true → is_inside size (popup_rect (popup_place size p)) ≡ true
popup_inside size p on room =
    lies_inside size (min p.x (size.w - 64)) (min p.y (size.h - 16)) 64 16 (fits_in p.x size.w 64 (at_least 64 size.w (and_parts _ _ room).0)) (fits_in p.y size.h 16 (at_least 16 size.h (and_parts _ _ room).1))
  where
    at_least : (m n : ℕ) → nat_le m n ≡ true → m ≤ n
    at_least m n h = grind (arith, nat_tests, h)

    fits_in : (x w n : ℕ) → n ≤ w → min x (w - n) + n ≤ w
    fits_in x w n h = omega (arith, h)

-- ---- strokes

fill_reacts : (size : Size) (st : SurfaceState) (b : Board) (r : Rect) (color : ℕ) → rect_rule r ≡ None → BoardAgrees size st b
    → AllFitState size st (unclipped (Fill r color) ∷ []) × BoardAgrees size (state_after_drawings size st (unclipped (Fill r color) ∷ [])) b
fill_reacts size st b r color passes h = ((fill_fits size st r color passes, tt), painted_agrees size st b (unclipped (Fill r color)) (same_slots st) h)

upright_passes : (x y z : ℕ) → x < 2048 → y < 2048 → z < 2048 → rect_rule (boxed (pos x) (pos (min y z)) 1 (max y z - min y z + 1)) ≡ None
upright_passes x y z a b c = rect_passes (pos x) (pos (min y z)) 1 (max y z - min y z + 1) refl (side (max y z - min y z + 1) (omega arith) (omega (arith, b, c))) (corner_of x (omega (arith, a))) (corner_of (min y z) (omega (arith, b, c)))

level_passes : (x y z : ℕ) → x < 2048 → y < 2048 → z < 2048 → rect_rule (boxed (pos (min x z)) (pos y) (max x z - min x z + 1) 1) ≡ None
level_passes x y z a b c = rect_passes (pos (min x z)) (pos y) (max x z - min x z + 1) 1 (side (max x z - min x z + 1) (omega arith) (omega (arith, a, c))) refl (corner_of (min x z) (omega (arith, a, c))) (corner_of y (omega (arith, b)))

differs : (m n : ℕ) → (m == n) ≡ false → int_eq (pos m) (pos n) ≡ false
differs m n h = grind (arith, ints, nat_tests, h)

slanted_passes : (x y u v : ℕ) → x < 2048 → y < 2048 → u < 2048 → v < 2048 → (x == u) ≡ false → (y == v) ≡ false → line_rule (pos x) (pos y) (pos u) (pos v) ≡ None
slanted_passes x y u v a b c d h k =
    ap (λ t. broken_if ((t || int_eq (pos y) (pos v)) || not (((is_corner (pos x)) && is_corner (pos y)) && (is_corner (pos u) && is_corner (pos v)))) 7) (differs x u h)
    ∙ ap (λ t. broken_if (t || not (((is_corner (pos x)) && is_corner (pos y)) && (is_corner (pos u) && is_corner (pos v)))) 7) (differs y v k)
    ∙ ap (λ t. broken_if (not t) 7) (and_from _ _ (and_from _ _ (corner_of x (omega (arith, a))) (corner_of y (omega (arith, b)))) (and_from _ _ (corner_of u (omega (arith, c))) (corner_of v (omega (arith, d)))))

-- the stroke from one point of the surface to another
abbrev pub stroke_by : Bool → Bool → ℕ → Point → Point → List Drawing
stroke_by same_x same_y color from to = if same_x
    then (if same_y then [] else unclipped (Fill (boxed (pos from.x) (pos (min from.y to.y)) 1 (max from.y to.y - min from.y to.y + 1)) color) ∷ [])
    else (if same_y then unclipped (Fill (boxed (pos (min from.x to.x)) (pos from.y) (max from.x to.x - min from.x to.x + 1) 1) color) ∷ []
    else unclipped (Line (pos from.x) (pos from.y) (pos to.x) (pos to.y) color) ∷ [])

stroke_by_reacts : (size : Size) (st : SurfaceState) (b : Board) (color : ℕ) (from to : Point) (same_x same_y : Bool)
    → from.x < 2048 → from.y < 2048 → to.x < 2048 → to.y < 2048 → (from.x == to.x) ≡ same_x → (from.y == to.y) ≡ same_y → BoardAgrees size st b
    → AllFitState size st (stroke_by same_x same_y color from to) × BoardAgrees size (state_after_drawings size st (stroke_by same_x same_y color from to)) b
stroke_by_reacts size st b color from to true true fx fy tx ty ex ey h = (tt, h)
stroke_by_reacts size st b color from to true false fx fy tx ty ex ey h =
    fill_reacts size st b (boxed (pos from.x) (pos (min from.y to.y)) 1 (max from.y to.y - min from.y to.y + 1)) color (upright_passes from.x from.y to.y fx fy ty) h
stroke_by_reacts size st b color from to false true fx fy tx ty ex ey h =
    fill_reacts size st b (boxed (pos (min from.x to.x)) (pos from.y) (max from.x to.x - min from.x to.x + 1) 1) color (level_passes from.x from.y to.x fx fy tx) h
stroke_by_reacts size st b color from to false false fx fy tx ty ex ey h = (
  (line_fits size st (pos from.x) (pos from.y) (pos to.x) (pos to.y) color (slanted_passes from.x from.y to.x to.y fx fy tx ty ex ey), tt),
  painted_agrees size st b (unclipped (Line (pos from.x) (pos from.y) (pos to.x) (pos to.y) color)) (same_slots st) h,
)

stroking_reacts : (size : Size) (st : SurfaceState) (b : Board) (p pen : Point) → Sides size.w size.h → IsTrue (is_on_surface size p) → b.pen ≡ Some pen → BoardAgrees size st b → Reacts size st (stroking b p pen)
stroking_reacts size st b p pen s on eq h =
    let c = record b { pen = Some p } in
    let on_pen : IsTrue (is_on_surface size pen) = subst (λ o. IsPointOn size o) eq h.pen in
    stroke_by_reacts size st c (ink_color b.ink) pen p (pen.x == p.x) (pen.y == p.y) (omega (arith, s.not_wider, point_wide size pen on_pen)) (omega (arith, s.not_higher, point_high size pen on_pen))
    (omega (arith, s.not_wider, point_wide size p on)) (omega (arith, s.not_higher, point_high size p on)) refl refl (moved size st b c h on h.last h.popup refl refl refl)

-- ---- the table's lines for the mouse

mouse_reacts : (size : Size) (st : SurfaceState) (b : Board) (flags : ℕ) (p : Point) → Sides size.w size.h → IsTrue (is_on_surface size p) → BoardAgrees size st b → Reacts size st (mouse_reaction size b flags p)
mouse_reacts size st b flags p s on h =
    let c = record b { last = p } in
    let k : BoardAgrees size st c = moved size st b c h h.pen on h.popup refl refl refl in
    first_holds (Reacts size st) (mouse_lines size c flags p) c (
      line_if (Reacts size st) (is_down flags && is_button_1 flags) (option_map (closing c p) c.popup) (λ t. line_of (Reacts size st) c.popup (closing c p) (λ at eq. closing_reacts size st c p at s eq k)),
      (
        line_if (Reacts size st) (is_down flags && is_button_1 flags) (Some (dotting c p)) (λ t. dotting_reacts size st c p s on k),
        (
          line_if (Reacts size st) (is_button_1 flags) (Some (lifting c)) (λ t. lifting_reacts size st c k),
          (
            line_if (Reacts size st) ((is_down flags && is_button_2 flags) && (nat_le 64 size.w && nat_le 16 size.h)) (Some (opening c (popup_place size p)))
                (λ t. opening_reacts size st c (popup_place size p) s (popup_inside size p on (and_parts (is_down flags && is_button_2 flags) (nat_le 64 size.w && nat_le 16 size.h) t).1) k),
            (
              line_if (Reacts size st) (is_move flags) (option_map (stroking c p) c.pen) (λ t. line_of (Reacts size st) c.pen (stroking c p) (λ pen eq. stroking_reacts size st c p pen s on eq k)),
              tt,
            ),
          ),
        ),
      ),
    )
    (tt, k)

-- ---- keys

clearing_reacts : (size : Size) (st : SurfaceState) (b : Board) → Sides size.w size.h → BoardAgrees size st b → Reacts size st (clearing size b)
clearing_reacts size st b s h = fill_reacts size st b (whole size) 0 (whole_passes size s) h

inverting_reacts : (size : Size) (st : SurfaceState) (b : Board) → Sides size.w size.h → BoardAgrees size st b → Reacts size st (inverting size b)
inverting_reacts size st b s h = ((invert_fits size st (whole size) (whole_passes size s), tt), painted_agrees size st b (unclipped (Dst (whole size) 0x55)) (same_slots st) h)

scrolling_reacts : (size : Size) (st : SurfaceState) (b : Board) → Sides size.w size.h → 16 < size.h → BoardAgrees size st b → Reacts size st (scrolling size b)
scrolling_reacts size st b s tall h =
    let upper = boxed (pos 0) (pos 0) size.w (size.h - 16) in
    let wide = side size.w (omega (arith, s.wide)) s.not_wider in
    let upper_passes : rect_rule upper ≡ None = rect_passes (pos 0) (pos 0) size.w (size.h - 16) wide (side (size.h - 16) (omega (arith, tall)) (omega (arith, s.not_higher))) refl refl in
    let source_passes : copied_rule size upper (pos 0) (pos 16) ≡ None = passed _ 4 (lies_inside size 0 16 size.w (size.h - 16) (omega arith) (omega (arith, tall))) in
    let d = unclipped (Copy upper 0xCC (pos 0) (pos 16)) in
    let st1 = state_after_drawing size st d in
    let lower = fill_reacts size st1 b (boxed (pos 0) (pos (size.h - 16)) size.w 16) 0 (rect_passes (pos 0) (pos (size.h - 16)) size.w 16 wide refl refl (corner_of (size.h - 16) (omega (arith, s.not_higher))))
    (painted_agrees size st b d (same_slots st) h) in
    ((copy_fits size st upper (pos 0) (pos 16) upper_passes source_passes, lower.0), lower.1)

-- the checkered pattern over all of the surface, with the brush in its slot
patterned : (size : Size) (st : SurfaceState) (b : Board) → Sides size.w size.h → BoardAgrees size st (record b { brush_loaded = true })
    → AllFitState size st (unclipped (Pat (whole size) 0x5A board_brush) ∷ []) × BoardAgrees size (state_after_drawings size st (unclipped (Pat (whole size) 0x5A board_brush) ∷ [])) (record b { brush_loaded = true })
patterned size st b s h =
    ((pattern_fits size st (whole size) (whole_passes size s) h.brush, tt), painted_agrees size st (record b { brush_loaded = true }) (unclipped (Pat (whole size) 0x5A board_brush)) (same_slots st) h)

brush_loaded_agrees : (size : Size) (st : SurfaceState) (b : Board) → BoardAgrees size st b → BoardAgrees size (state_after_drawing size st (unclipped (LoadBrush board_brush checkered))) (record b { brush_loaded = true })
brush_loaded_agrees size st b h =
    let d = unclipped (LoadBrush board_brush checkered) in let p = painting_of size st d.shape in let after = state_after_drawing size st d in
    let filled = lookup-filled st.brushes board_brush (loaded st checkered) (rw h.sized.brushes (omega arith)) in record {
      sized = record {
        pixels = length-painted_from size.w 0 (painted_area (in_clip d.clip) p) p.formula st.picture ∙ h.sized.pixels;
        images = h.sized.images;
        brushes = length-filled st.brushes board_brush (loaded st checkered) ∙ h.sized.brushes;
        glyphs = h.sized.glyphs;
        blocks = h.sized.blocks;
      };
      pen = h.pen;
      last = h.last;
      popup = popup_kept size st after b.popup refl h.popup;
      brush = ap is_some filled;
      image = image_kept st after b.image_loaded refl h.image;
      glyphs = glyphs_kept st after b.glyphs_loaded (λ code. refl) h.glyphs;
    }

abbrev pattern_drawings : Size → Bool → List Drawing
pattern_drawings size done = load_unless done (LoadBrush board_brush checkered) ++ unclipped (Pat (whole size) 0x5A board_brush) ∷ []

patterning_over : (size : Size) (st : SurfaceState) (b : Board) (done : Bool) → Sides size.w size.h → b.brush_loaded ≡ done → BoardAgrees size st b
    → AllFitState size st (pattern_drawings size done) × BoardAgrees size (state_after_drawings size st (pattern_drawings size done)) (record b { brush_loaded = true })
patterning_over size st b true s eq h = patterned size st b s (record { sized = h.sized; pen = h.pen; last = h.last; popup = h.popup; brush = subst (λ t. IsBrushKept st t) eq h.brush; image = h.image; glyphs = h.glyphs })
patterning_over size st b false s eq h =
    let r = patterned size (state_after_drawing size st (unclipped (LoadBrush board_brush checkered))) b s (brush_loaded_agrees size st b h) in
    ((brush_load_fits size st, r.0), r.1)

patterning_reacts : (size : Size) (st : SurfaceState) (b : Board) → Sides size.w size.h → BoardAgrees size st b → Reacts size st (patterning size b)
patterning_reacts size st b s h = patterning_over size st b b.brush_loaded s refl h

-- the shaded image at the last point, with the image in its slot
abbrev stamp : Board → Drawing
stamp b = unclipped (Blit (boxed (pos b.last.x) (pos b.last.y) 16 16) 0x66 board_image (pos 0) (pos 0))

stamped : (size : Size) (st : SurfaceState) (b : Board) → Sides size.w size.h → BoardAgrees size st (record b { image_loaded = true })
    → AllFitState size st (stamp b ∷ []) × BoardAgrees size (state_after_drawings size st (stamp b ∷ [])) (record b { image_loaded = true })
stamped size st b s h = (
  (
    stamp_fits size st (pos b.last.x) (pos b.last.y) (rect_passes (pos b.last.x) (pos b.last.y) 16 16 refl refl
        (corner_of b.last.x (omega (arith, s.not_wider, point_wide size b.last h.last))) (corner_of b.last.y (omega (arith, s.not_higher, point_high size b.last h.last)))) h.image,
    tt,
  ),
  painted_agrees size st (record b { image_loaded = true }) (stamp b) (same_slots st) h,
)

abbrev shaded_load : Drawing
shaded_load = unclipped (LoadImage board_image (record { w = 16; h = 16; pixels = shaded }))

image_loaded_agrees : (size : Size) (st : SurfaceState) (b : Board) → BoardAgrees size st b → BoardAgrees size (state_after_drawing size st shaded_load) (record b { image_loaded = true })
image_loaded_agrees size st b h =
    let image : Loaded ImageOf = loaded st (record { w = 16; h = 16; pixels = shaded }) in let p = painting_of size st shaded_load.shape in let after = state_after_drawing size st shaded_load in
    let filled = lookup-filled st.images board_image image (rw h.sized.images (omega arith)) in record {
      sized = record {
        pixels = length-painted_from size.w 0 (painted_area (in_clip shaded_load.clip) p) p.formula st.picture ∙ h.sized.pixels;
        images = length-filled st.images board_image image ∙ h.sized.images;
        brushes = h.sized.brushes;
        glyphs = h.sized.glyphs;
        blocks = h.sized.blocks;
      };
      pen = h.pen;
      last = h.last;
      popup = popup_kept size st after b.popup refl h.popup;
      brush = brush_kept st after b.brush_loaded refl h.brush;
      image = subst (λ o. HoldsLoadedSides o 16 16) (sym filled) (refl, refl);
      glyphs = glyphs_kept st after b.glyphs_loaded (λ code. refl) h.glyphs;
    }

abbrev stamp_drawings : Board → Bool → List Drawing
stamp_drawings b done = load_unless done (LoadImage board_image (record { w = 16; h = 16; pixels = shaded })) ++ stamp b ∷ []

stamping_over : (size : Size) (st : SurfaceState) (b : Board) (done : Bool) → Sides size.w size.h → b.image_loaded ≡ done → BoardAgrees size st b
    → AllFitState size st (stamp_drawings b done) × BoardAgrees size (state_after_drawings size st (stamp_drawings b done)) (record b { image_loaded = true })
stamping_over size st b true s eq h = stamped size st b s (record { sized = h.sized; pen = h.pen; last = h.last; popup = h.popup; brush = h.brush; image = subst (λ t. IsImageKept st t) eq h.image; glyphs = h.glyphs })
stamping_over size st b false s eq h =
    let r = stamped size (state_after_drawing size st shaded_load) b s (image_loaded_agrees size st b h) in
    ((image_load_fits size st, r.0), r.1)

stamping_reacts : (size : Size) (st : SurfaceState) (b : Board) → Sides size.w size.h → BoardAgrees size st b → Reacts size st (stamping b)
stamping_reacts size st b s h = stamping_over size st b b.image_loaded s refl h

lower_than : (m n : ℕ) → nat_lt m n ≡ true → m < n
lower_than m n h = grind (arith, nat_tests, h)

key_reacts : (size : Size) (st : SurfaceState) (b : Board) (code : ℕ) → Sides size.w size.h → BoardAgrees size st b → Reacts size st (first_fitting (key_lines size b code) b)
key_reacts size st b code s h = first_holds (Reacts size st) (key_lines size b code) b (
  line_if (Reacts size st) (code == 0x3B) (Some (clearing size b)) (λ t. clearing_reacts size st b s h),
  (
    line_if (Reacts size st) (code == 0x3C) (Some (inverting size b)) (λ t. inverting_reacts size st b s h),
    (
      line_if (Reacts size st) ((code == 0x3D) && nat_lt 16 size.h) (Some (scrolling size b)) (λ t. scrolling_reacts size st b s (lower_than 16 size.h (and_parts (code == 0x3D) (nat_lt 16 size.h) t).1) h),
      (
        line_if (Reacts size st) (code == 0x3E) (Some (patterning size b)) (λ t. patterning_reacts size st b s h),
        (
          line_if (Reacts size st) (code == 0x3F) (Some (stamping b)) (λ t. stamping_reacts size st b s h),
          tt,
        ),
      ),
    ),
  ),
)
    (tt, h)

-- ---- signs

-- a glyph that the board counts as loaded is in its slot
member_kept : (st : SurfaceState) (code : ℕ) (codes : List ℕ) → is_member code codes ≡ true → AreGlyphsKept st codes → IsTrue (is_some (lookup (glyph_slot board_font code) st.glyphs))
member_kept st code [] m h = absurd (cc m)
member_kept st code (c ∷ cs) m h = by (code == c) refl m (λ k. member_kept st code cs k h.1)
  where
    by : (t : Bool) → (code == c) ≡ t → (t || is_member code cs) ≡ true → (is_member code cs ≡ true → IsTrue (is_some (lookup (glyph_slot board_font code) st.glyphs))) → IsTrue (is_some (lookup (glyph_slot board_font code) st.glyphs))
    by true eq k rest = subst (λ n. IsTrue (is_some (lookup (glyph_slot board_font n) st.glyphs))) (sym (eqb-true code c eq)) h.0
    by false eq k rest = rest k

abbrev sign_load : ℕ → Drawing
sign_load code = unclipped (LoadGlyph board_font code (sign_glyph code))

differ_by : (m n : ℕ) → (m == n) ≡ false → 256 * 3 + m ≡ 256 * 3 + n → ⊥
differ_by m n differ e = absurd (cc (differ, eq-eqb m n (omega (arith, e))))

-- the glyphs that were loaded still are, after one more
still_loaded : (size : Size) (st : SurfaceState) (code other : ℕ) → glyph_slot board_font code < length st.glyphs → IsTrue (is_some (lookup (glyph_slot board_font other) st.glyphs))
    → IsTrue (is_some (lookup (glyph_slot board_font other) (state_after_drawing size st (sign_load code)).glyphs))
still_loaded size st code other room h = by (other == code) refl
  where
    by : (t : Bool) → (other == code) ≡ t → IsTrue (is_some (lookup (glyph_slot board_font other) (state_after_drawing size st (sign_load code)).glyphs))
    by true eq = subst (λ n. IsTrue (is_some (lookup (glyph_slot board_font n) (state_after_drawing size st (sign_load code)).glyphs))) (sym (eqb-true other code eq))
        (ap is_some (lookup-filled st.glyphs (glyph_slot board_font code) (loaded st (sign_glyph code)) room))
    by false eq = subst (λ o. IsTrue (is_some o)) (sym (lookup-other st.glyphs (glyph_slot board_font code) (glyph_slot board_font other) (loaded st (sign_glyph code)) (λ e. differ_by other code eq e))) h

all_still_loaded : (size : Size) (st : SurfaceState) (code : ℕ) (codes : List ℕ) → glyph_slot board_font code < length st.glyphs → AreGlyphsKept st codes → AreGlyphsKept (state_after_drawing size st (sign_load code)) codes
all_still_loaded size st code [] room h = tt
all_still_loaded size st code (c ∷ cs) room h = (still_loaded size st code c room h.0, all_still_loaded size st code cs room h.1)

-- the board after a sign, by the codes that are loaded then
abbrev signed : Board → List ℕ → Board
signed b codes = record b { signs = b.signs + 1; glyphs_loaded = codes }

sign_loaded_agrees : (size : Size) (st : SurfaceState) (b : Board) (code : ℕ) → code ≤ 255 → BoardAgrees size st b → BoardAgrees size (state_after_drawing size st (sign_load code)) (signed b (code ∷ b.glyphs_loaded))
sign_loaded_agrees size st b code low h =
    let d = sign_load code in let p = painting_of size st d.shape in let after = state_after_drawing size st d in
    let room : glyph_slot board_font code < length st.glyphs = rw h.sized.glyphs (omega (arith, low)) in record {
      sized = record {
        pixels = length-painted_from size.w 0 (painted_area (in_clip d.clip) p) p.formula st.picture ∙ h.sized.pixels;
        images = h.sized.images;
        brushes = h.sized.brushes;
        glyphs = length-filled st.glyphs (glyph_slot board_font code) (loaded st (sign_glyph code)) ∙ h.sized.glyphs;
        blocks = h.sized.blocks;
      };
      pen = h.pen;
      last = h.last;
      popup = popup_kept size st after b.popup refl h.popup;
      brush = brush_kept st after b.brush_loaded refl h.brush;
      image = image_kept st after b.image_loaded refl h.image;
      glyphs = (ap is_some (lookup-filled st.glyphs (glyph_slot board_font code) (loaded st (sign_glyph code)) room), all_still_loaded size st code b.glyphs_loaded room h.glyphs);
    }

-- the cells of signs lie on the surface
cell_below : (n w : ℕ) → 8 ≤ w → w ≤ 2048 → 8 * (n % (w / 8)) ≤ 4095
cell_below n w room most =
    let q : 8 * (w / 8) ≤ w = mul-div-le w 8 in
    let some : 0 < w / 8 = omega (arith, room) in
    omega (arith, q, mod-lt n some, most)

sign_place_passes : (size : Size) (n : ℕ) → Sides size.w size.h → 8 ≤ size.w → 8 ≤ size.h → place_rule (pos (sign_place size n).x) (pos (sign_place size n).y) ≡ None
sign_place_passes size n s wide high = place_passes (pos (sign_place size n).x) (pos (sign_place size n).y)
    (corner_of (8 * (n % (size.w / 8))) (cell_below n size.w wide s.not_wider)) (corner_of (8 * (n / (size.w / 8) % (size.h / 8))) (cell_below (n / (size.w / 8)) size.h high s.not_higher))

-- the sign itself, with its glyph in its slot
written : (size : Size) (st : SurfaceState) (b c : Board) (code : ℕ) → Sides size.w size.h → 8 ≤ size.w → 8 ≤ size.h → code ≤ 255 → IsTrue (is_some (lookup (glyph_slot board_font code) st.glyphs)) → BoardAgrees size st c
    → AllFitState size st (sign_text b code (sign_place size b.signs) ∷ []) × BoardAgrees size (state_after_drawings size st (sign_text b code (sign_place size b.signs) ∷ [])) c
written size st b c code s wide high low k h = (
  (sign_fits size st (pos (sign_place size b.signs).x) (pos (sign_place size b.signs).y) (ink_color b.ink) code (sign_place_passes size b.signs s wide high) low k, tt),
  painted_agrees size st c (sign_text b code (sign_place size b.signs)) (same_slots st) h,
)

abbrev sign_drawings : Size → Board → ℕ → Bool → List Drawing
sign_drawings size b code done = load_unless done (LoadGlyph board_font code (sign_glyph code)) ++ sign_text b code (sign_place size b.signs) ∷ []

writing_over : (size : Size) (st : SurfaceState) (b : Board) (code : ℕ) (done : Bool) → Sides size.w size.h → 8 ≤ size.w → 8 ≤ size.h → code ≤ 255 → is_member code b.glyphs_loaded ≡ done → BoardAgrees size st b
    → AllFitState size st (sign_drawings size b code done) × BoardAgrees size (state_after_drawings size st (sign_drawings size b code done)) (signed b (if done then b.glyphs_loaded else code ∷ b.glyphs_loaded))
writing_over size st b code true s wide high low m h =
    written size st b (signed b b.glyphs_loaded) code s wide high low (member_kept st code b.glyphs_loaded m h.glyphs)
    (record { sized = h.sized; pen = h.pen; last = h.last; popup = h.popup; brush = h.brush; image = h.image; glyphs = h.glyphs })
writing_over size st b code false s wide high low m h =
    let st1 = state_after_drawing size st (sign_load code) in
    let k : BoardAgrees size st1 (signed b (code ∷ b.glyphs_loaded)) = sign_loaded_agrees size st b code low h in
    let r = written size st1 b (signed b (code ∷ b.glyphs_loaded)) code s wide high low k.glyphs.0 k in
    ((glyph_load_fits size st code low, r.0), r.1)

sign_reacts : (size : Size) (st : SurfaceState) (b : Board) (code : ℕ) → Sides size.w size.h → BoardAgrees size st b → Reacts size st (first_fitting (sign_lines size b code) b)
sign_reacts size st b code s h = first_holds (Reacts size st) (sign_lines size b code) b (
  line_if (Reacts size st) ((nat_le 0x21 code && nat_le code 0x7E) && (nat_le 8 size.w && nat_le 8 size.h)) (Some (writing_sign size b code)) (λ t.
      let k = and_parts (nat_le 0x21 code && nat_le code 0x7E) (nat_le 8 size.w && nat_le 8 size.h) t in let room = and_parts (nat_le 8 size.w) (nat_le 8 size.h) k.1 in
      writing_over size st b code (is_member code b.glyphs_loaded) s (at_least 8 size.w room.0) (at_least 8 size.h room.1) (low_code (and_parts (nat_le 0x21 code) (nat_le code 0x7E) k.0).1) refl h),
  tt,
)
    (tt, h)
  where
    at_least : (m n : ℕ) → nat_le m n ≡ true → m ≤ n
    at_least m n e = grind (arith, nat_tests, e)

    low_code : nat_le code 0x7E ≡ true → code ≤ 255
    low_code e = grind (arith, nat_tests, e)

-- ---- the whole table

pub board_reacts : (size : Size) (st : SurfaceState) (b : Board) (e : Event) → Sides size.w size.h → BoardAgrees size st b → Reacts size st (board_reaction size b e)
board_reacts size st b Sync s h = (tt, h)
board_reacts size st b (Scan code true) s h = (tt, h)
board_reacts size st b (Scan code false) s h = key_reacts size st b code s h
board_reacts size st b (Unicode code true) s h = (tt, h)
board_reacts size st b (Unicode code false) s h = sign_reacts size st b code s h
board_reacts size st b (Mouse flags x y) s h = mouse_reacts size st b flags (point_on size x y) s (point_on-surface size x y s) h
board_reacts size st b MouseX s h = (tt, h)
