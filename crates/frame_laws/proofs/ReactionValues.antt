-- Each drawing of the board has values: its inks are colours, its codes are bytes, and what it loads is of colours.
use Rattle.std.proofs.Common.{ℕ, zero, suc, ◌+◌, ◌-◌, ◌^◌, ◌<◌, List, [], ◌∷◌, ◌++◌, refl, arith, Some, None}
use Rattle.std.specs.Prelude.{⊤, Bool, true, false, ◌&&◌, ◌==◌, nat_le, nat_lt, Option, option_map, option_to_list, if◌then◌else◌, pos, min, max}
use Rattle.px_core.specs.declared.surface.Size.{Size}
use Rattle.px_core.specs.Rectangle.{boxed}
use Rattle.draw_ops.specs.declared.shape.Drawing.{Drawing}
use Rattle.draw_ops.specs.declared.shape.Shape.{Shape}
use Rattle.draw_ops.specs.declared.shape.Shape.TheVariants.{Fill, Line, LoadImage, LoadBrush, LoadGlyph}
use Rattle.input_pdu.specs.declared.event.Event.{Event}
use Rattle.input_pdu.specs.declared.event.Event.TheVariants.{Sync, Scan, Unicode, Mouse, MouseX}
use Rattle.session_rules.specs.Board.{Board, Point, Reaction, unclipped, board_image, board_brush, board_font, popup_removal, closing, dotting, lifting, opening, popup_place, ink_color, stroke, stroking, mouse_lines, mouse_reaction, point_on, is_down, is_button_1, is_button_2, is_move, clearing, inverting, scrolling, patterning, stamping, key_lines, is_member, writing_sign, sign_lines, sign_of, sign_place, sign_text, load_unless, checkered, shaded, board_reaction}
use Rattle.session_rules.proofs.BoardReactions.{first_holds, line_if, line_of}
use Rattle.frame_laws.specs.Sound.{AreColors}
use Rattle.frame_laws.specs.Drawings.{HasValues}
use Rattle.frame_laws.proofs.Colored.{colors_tested}

-- each of some drawings has values
abbrev pub AllHaveValues : List Drawing → Type 0
AllHaveValues [] = ⊤
AllHaveValues (d ∷ ds) = HasValues d.shape × AllHaveValues ds

values_append : (xs ys : List Drawing) → AllHaveValues xs → AllHaveValues ys → AllHaveValues (xs ++ ys)
values_append [] ys h k = k
values_append (x ∷ xs) ys h k = (h.0, values_append xs ys h.1 k)

abbrev pub ReactsWithValues : Reaction → Type 0
ReactsWithValues r = AllHaveValues r.drawings

-- ---- what the board draws with

ink_small : (ink : ℕ) → ink_color ink < 2 ^ 24
ink_small zero = omega arith
ink_small (suc zero) = omega arith
ink_small (suc (suc zero)) = omega arith
ink_small (suc (suc (suc zero))) = omega arith
ink_small (suc (suc (suc (suc n)))) = omega arith

checkered_colors : AreColors checkered
checkered_colors = colors_tested checkered refl

shaded_colors : AreColors shaded
shaded_colors = colors_tested shaded refl

loads_have : (done : Bool) (s : Shape) → HasValues s → AllHaveValues (load_unless done s)
loads_have true s h = tt
loads_have false s h = (h, tt)

removals_have : (o : Option Point) → AllHaveValues (option_to_list (option_map popup_removal o))
removals_have None = tt
removals_have (Some at) = (tt, tt)

stroke_has : (color : ℕ) (a b : Point) → color < 2 ^ 24 → AllHaveValues (stroke color a b)
stroke_has color a b h = by (a.x == b.x) (a.y == b.y)
  where
    by : (same_x same_y : Bool) → AllHaveValues (if same_x
        then (if same_y then [] else unclipped (Fill (boxed (pos a.x) (pos (min a.y b.y)) 1 (max a.y b.y - min a.y b.y + 1)) color) ∷ [])
        else (if same_y then unclipped (Fill (boxed (pos (min a.x b.x)) (pos a.y) (max a.x b.x - min a.x b.x + 1) 1) color) ∷ []
        else unclipped (Line (pos a.x) (pos a.y) (pos b.x) (pos b.y) color) ∷ []))
    by true true = tt
    by true false = (h, tt)
    by false true = (h, tt)
    by false false = (h, tt)

opening_has : (b : Board) (at : Point) → ReactsWithValues (opening b at)
opening_has b at = values_append (option_to_list (option_map popup_removal b.popup)) _ (removals_have b.popup)
    (tt, (ink_small 0, (ink_small 1, (ink_small 2, (ink_small 3, tt)))))

patterning_has : (size : Size) (b : Board) → ReactsWithValues (patterning size b)
patterning_has size b =
    let code : 0x5A < 256 = omega arith in
    values_append (load_unless b.brush_loaded (LoadBrush board_brush checkered)) _
    (loads_have b.brush_loaded (LoadBrush board_brush checkered) (refl, checkered_colors)) (code, tt)

stamping_has : (b : Board) → ReactsWithValues (stamping b)
stamping_has b =
    let code : 0x66 < 256 = omega arith in
    let s : Shape = LoadImage board_image (record { w = 16; h = 16; pixels = shaded }) in
    values_append (load_unless b.image_loaded s) _ (loads_have b.image_loaded s shaded_colors) (code, tt)

scrolling_has : (size : Size) (b : Board) → ReactsWithValues (scrolling size b)
scrolling_has size b = let code : 0xCC < 256 = omega arith in (code, (omega arith, tt))

inverting_has : (size : Size) (b : Board) → ReactsWithValues (inverting size b)
inverting_has size b = let code : 0x55 < 256 = omega arith in (code, tt)

sign_has : (size : Size) (b : Board) (code : ℕ) → ReactsWithValues (writing_sign size b code)
sign_has size b code =
    let s : Shape = LoadGlyph board_font code (record { x = pos 0; y = pos 0; cx = 8; cy = 8; bits = sign_of code }) in
    values_append (load_unless (is_member code b.glyphs_loaded) s) (sign_text b code (sign_place size b.signs) ∷ [])
    (loads_have (is_member code b.glyphs_loaded) s tt) (ink_small b.ink, tt)

-- ---- the table

mouse_has : (size : Size) (b : Board) (flags : ℕ) (p : Point) → ReactsWithValues (mouse_reaction size b flags p)
mouse_has size b flags p =
    let c = record b { last = p } in
    first_holds ReactsWithValues (mouse_lines size c flags p) c (
      line_if ReactsWithValues (is_down flags && is_button_1 flags) (option_map (closing c p) c.popup)
          (λ t. line_of ReactsWithValues c.popup (closing c p) (λ at e. (tt, tt))),
      (
        line_if ReactsWithValues (is_down flags && is_button_1 flags) (Some (dotting c p)) (λ t. (ink_small c.ink, tt)),
        (
          line_if ReactsWithValues (is_button_1 flags) (Some (lifting c)) (λ t. tt),
          (
            line_if ReactsWithValues ((is_down flags && is_button_2 flags) && (nat_le 64 size.w && nat_le 16 size.h)) (Some (opening c (popup_place size p)))
                (λ t. opening_has c (popup_place size p)),
            (
              line_if ReactsWithValues (is_move flags) (option_map (stroking c p) c.pen)
                  (λ t. line_of ReactsWithValues c.pen (stroking c p) (λ pen e. stroke_has (ink_color c.ink) pen p (ink_small c.ink))),
              tt,
            ),
          ),
        ),
      ),
    )
    tt

key_has : (size : Size) (b : Board) (code : ℕ) → ReactsWithValues (board_reaction size b (Scan code false))
key_has size b code = first_holds ReactsWithValues (key_lines size b code) b (
  line_if ReactsWithValues (code == 0x3B) (Some (clearing size b)) (λ t. (omega arith, tt)),
  (
    line_if ReactsWithValues (code == 0x3C) (Some (inverting size b)) (λ t. inverting_has size b),
    (
      line_if ReactsWithValues ((code == 0x3D) && nat_lt 16 size.h) (Some (scrolling size b)) (λ t. scrolling_has size b),
      (
        line_if ReactsWithValues (code == 0x3E) (Some (patterning size b)) (λ t. patterning_has size b),
        (
          line_if ReactsWithValues (code == 0x3F) (Some (stamping b)) (λ t. stamping_has b),
          tt,
        ),
      ),
    ),
  ),
)
    tt

signs_have : (size : Size) (b : Board) (code : ℕ) → ReactsWithValues (board_reaction size b (Unicode code false))
signs_have size b code = first_holds ReactsWithValues (sign_lines size b code) b (
  line_if ReactsWithValues ((nat_le 0x21 code && nat_le code 0x7E) && (nat_le 8 size.w && nat_le 8 size.h)) (Some (writing_sign size b code))
      (λ t. sign_has size b code),
  tt,
)
    tt

pub reaction_has_values : (size : Size) (b : Board) (e : Event) → ReactsWithValues (board_reaction size b e)
reaction_has_values size b Sync = tt
reaction_has_values size b (Scan code true) = tt
reaction_has_values size b (Scan code false) = key_has size b code
reaction_has_values size b (Unicode code true) = tt
reaction_has_values size b (Unicode code false) = signs_have size b code
reaction_has_values size b (Mouse flags x y) = mouse_has size b flags (point_on size x y)
reaction_has_values size b MouseX = tt
