-- A reaction has at most 8 drawings.
use Rattle.std.proofs.Common.{ℕ, ◌≤◌, [], ◌∷◌, ◌++◌, Some, None, length, arith}
use Rattle.std.specs.Prelude.{Option, Bool, true, false, ◌&&◌, ◌==◌, nat_lt, nat_le, option_map, option_to_list}
use Rattle.px_core.specs.declared.surface.Size.{Size}
use Rattle.draw_ops.specs.declared.shape.Drawing.{Drawing}
use Rattle.draw_ops.specs.declared.shape.Shape.{Shape}
use Rattle.input_pdu.specs.declared.event.Event.{Event}
use Rattle.input_pdu.specs.declared.event.Event.TheVariants.{Sync, Scan, Unicode, Mouse, MouseX}
use Rattle.session_rules.specs.Board.{Board, Point, Reaction, opening, stroking, closing, dotting, lifting, popup_place, popup_removal, is_down, is_button_1, is_button_2, is_move, mouse_lines, key_lines, sign_lines, clearing, inverting, scrolling, patterning, stamping, writing_sign, load_unless, is_member, point_on, mouse_reaction, board_reaction}
use Rattle.session_rules.proofs.BoardReactions.{first_holds, line_if, line_of, stroke_by, opened_drawings}

abbrev IsFew : Reaction → Type 0
IsFew r = length r.drawings ≤ 8

load_few : (done : Bool) (load : Shape) (d : Drawing) → length (load_unless done load ++ d ∷ []) ≤ 8
load_few true load d = omega arith
load_few false load d = omega arith

stroke_few : (same_x same_y : Bool) (color : ℕ) (from to : Point) → length (stroke_by same_x same_y color from to) ≤ 8
stroke_few true true color from to = omega arith
stroke_few true false color from to = omega arith
stroke_few false true color from to = omega arith
stroke_few false false color from to = omega arith

opening_few : (o : Option Point) (at : Point) → length (option_to_list (option_map popup_removal o) ++ opened_drawings at) ≤ 8
opening_few None at = omega arith
opening_few (Some old) at = omega arith

mouse_few : (size : Size) (b : Board) (flags : ℕ) (p : Point) → IsFew (mouse_reaction size b flags p)
mouse_few size b flags p =
    let c = record b { last = p } in
    first_holds IsFew (mouse_lines size c flags p) c (
      line_if IsFew (is_down flags && is_button_1 flags) (option_map (closing c p) c.popup) (λ t. line_of IsFew c.popup (closing c p) (λ at eq. omega arith)),
      (
        line_if IsFew (is_down flags && is_button_1 flags) (Some (dotting c p)) (λ t. omega arith),
        (
          line_if IsFew (is_button_1 flags) (Some (lifting c)) (λ t. omega arith),
          (
            line_if IsFew ((is_down flags && is_button_2 flags) && (nat_le 64 size.w && nat_le 16 size.h)) (Some (opening c (popup_place size p))) (λ t. opening_few c.popup (popup_place size p)),
            (
              line_if IsFew (is_move flags) (option_map (stroking c p) c.pen) (λ t. line_of IsFew c.pen (stroking c p) (λ pen eq. stroke_few (pen.x == p.x) (pen.y == p.y) _ pen p)),
              tt,
            ),
          ),
        ),
      ),
    )
    (omega arith)

pub few : (size : Size) (b : Board) (e : Event) → IsFew (board_reaction size b e)
few size b Sync = omega arith
few size b (Scan code true) = omega arith
few size b (Scan code false) = first_holds IsFew (key_lines size b code) b (
  line_if IsFew (code == 0x3B) (Some (clearing size b)) (λ t. omega arith),
  (
    line_if IsFew (code == 0x3C) (Some (inverting size b)) (λ t. omega arith),
    (
      line_if IsFew ((code == 0x3D) && nat_lt 16 size.h) (Some (scrolling size b)) (λ t. omega arith),
      (
        line_if IsFew (code == 0x3E) (Some (patterning size b)) (λ t. load_few b.brush_loaded _ _),
        (
          line_if IsFew (code == 0x3F) (Some (stamping b)) (λ t. load_few b.image_loaded _ _),
          tt,
        ),
      ),
    ),
  ),
)
    (omega arith)
few size b (Unicode code true) = omega arith
few size b (Unicode code false) = first_holds IsFew (sign_lines size b code) b
    (line_if IsFew ((nat_le 0x21 code && nat_le code 0x7E) && (nat_le 8 size.w && nat_le 8 size.h)) (Some (writing_sign size b code)) (λ t. load_few (is_member code b.glyphs_loaded) _ _), tt)
    (omega arith)
few size b (Mouse flags x y) = mouse_few size b flags (point_on size x y)
few size b MouseX = omega arith
