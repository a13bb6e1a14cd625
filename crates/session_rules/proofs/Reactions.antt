-- Reactions: each drawing is of colours, and at most one sign is written.
use Rattle.std.proofs.Common.{◌≡◌, ℕ, zero, suc, ◌+◌, ◌-◌, ◌≤◌, List, [], ◌∷◌, ◌++◌, refl, arith, Some, None}
use Rattle.std.specs.Prelude.{⊤, Bool, true, false, ◌&&◌, ◌==◌, nat_le, nat_lt, Option, option_map, option_to_list, if◌then◌else◌, pos, min, max}
use Rattle.px_core.specs.declared.surface.Size.{Size}
use Rattle.px_core.specs.Rectangle.{boxed}
use Rattle.px_core.specs.Colors.{is_color}
use Rattle.draw_ops.specs.declared.shape.Drawing.{Drawing}
use Rattle.draw_ops.specs.declared.shape.Shape.{Shape}
use Rattle.draw_ops.specs.declared.shape.Shape.TheVariants.{Fill, Line, LoadImage, LoadBrush, LoadGlyph}
use Rattle.draw_ops.specs.Ranges.{HasColors}
use Rattle.input_pdu.specs.declared.event.Event.{Event}
use Rattle.input_pdu.specs.declared.event.Event.TheVariants.{Sync, Scan, Unicode, Mouse, MouseX}
use Rattle.session_rules.specs.Board.{Board, Point, Reaction, unclipped, board_image, board_brush, board_font, popup_removal, closing, dotting, lifting, opening, popup_place, ink_color, stroke, stroking, mouse_lines, mouse_reaction, point_on, is_down, is_button_1, is_button_2, is_move, clearing, inverting, scrolling, patterning, stamping, key_lines, is_member, writing_sign, sign_lines, sign_of, sign_place, sign_text, load_unless, checkered, shaded, board_reaction}
use Rattle.session_rules.proofs.BoardReactions.{first_holds, line_if, line_of}
use Rattle.session_rules.specs.Reaching.{AreColored}

-- the drawings are of colours, and at most one more sign was written than before
record IsPlain (signs : ℕ) (r : Reaction) : Type 0 where
  colored : AreColored r.drawings
  counted : r.board.signs ≤ signs + 1

colored_append : (xs ys : List Drawing) → AreColored xs → AreColored ys → AreColored (xs ++ ys)
colored_append [] ys h k = k
colored_append (x ∷ xs) ys h k = (h.0, colored_append xs ys h.1 k)

ink_is_color : (ink : ℕ) → (is_color (ink_color ink) && true) ≡ true
ink_is_color zero = refl
ink_is_color (suc zero) = refl
ink_is_color (suc (suc zero)) = refl
ink_is_color (suc (suc (suc zero))) = refl
ink_is_color (suc (suc (suc (suc n)))) = refl

load_colored : (done : Bool) (s : Shape) (d : Drawing) → HasColors (unclipped s) → HasColors d → AreColored (load_unless done s ++ d ∷ [])
load_colored true s d h k = (k, tt)
load_colored false s d h k = (h, (k, tt))

removal_colored : (o : Option Point) → AreColored (option_to_list (option_map popup_removal o))
removal_colored None = tt
removal_colored (Some at) = (refl, tt)

stroke_colored : (color : ℕ) (a b : Point) → (is_color color && true) ≡ true → AreColored (stroke color a b)
stroke_colored color a b h = by (a.x == b.x) (a.y == b.y)
  where
    by : (same_x same_y : Bool) → AreColored (if same_x
        then (if same_y then [] else unclipped (Fill (boxed (pos a.x) (pos (min a.y b.y)) 1 (max a.y b.y - min a.y b.y + 1)) color) ∷ [])
        else (if same_y then unclipped (Fill (boxed (pos (min a.x b.x)) (pos a.y) (max a.x b.x - min a.x b.x + 1) 1) color) ∷ []
        else unclipped (Line (pos a.x) (pos a.y) (pos b.x) (pos b.y) color) ∷ []))
    by true true = tt
    by true false = (h, tt)
    by false true = (h, tt)
    by false false = (h, tt)

idle_plain : (signs : ℕ) (b : Board) → b.signs ≡ signs → IsPlain signs (record { board = b; drawings = [] })
idle_plain signs b same = record { colored = tt; counted = omega (arith, same) }

mouse_plain : (size : Size) (b : Board) (flags : ℕ) (p : Point) → IsPlain b.signs (mouse_reaction size b flags p)
mouse_plain size b flags p =
    let c = record b { last = p } in
    let stays : b.signs ≤ b.signs + 1 = omega arith in
    first_holds (IsPlain b.signs) (mouse_lines size c flags p) c (
      line_if (IsPlain b.signs) (is_down flags && is_button_1 flags) (option_map (closing c p) c.popup)
          (λ t. line_of (IsPlain b.signs) c.popup (closing c p) (λ at e. record { colored = (refl, tt); counted = stays })),
      (
        line_if (IsPlain b.signs) (is_down flags && is_button_1 flags) (Some (dotting c p)) (λ t. record { colored = (ink_is_color c.ink, tt); counted = stays }),
        (
          line_if (IsPlain b.signs) (is_button_1 flags) (Some (lifting c)) (λ t. record { colored = tt; counted = stays }),
          (
            line_if (IsPlain b.signs) ((is_down flags && is_button_2 flags) && (nat_le 64 size.w && nat_le 16 size.h)) (Some (opening c (popup_place size p)))
                (λ t. record { colored = colored_append (option_to_list (option_map popup_removal c.popup)) _ (removal_colored c.popup) (refl, (refl, (refl, (refl, (refl, tt))))); counted = stays }),
            (
              line_if (IsPlain b.signs) (is_move flags) (option_map (stroking c p) c.pen)
                  (λ t. line_of (IsPlain b.signs) c.pen (stroking c p) (λ pen e. record { colored = stroke_colored (ink_color c.ink) pen p (ink_is_color c.ink); counted = stays })),
              tt,
            ),
          ),
        ),
      ),
    )
    (idle_plain b.signs c refl)

key_plain : (size : Size) (b : Board) (code : ℕ) → IsPlain b.signs (board_reaction size b (Scan code false))
key_plain size b code =
    let stays : b.signs ≤ b.signs + 1 = omega arith in
    first_holds (IsPlain b.signs) (key_lines size b code) b (
      line_if (IsPlain b.signs) (code == 0x3B) (Some (clearing size b)) (λ t. record { colored = (refl, tt); counted = stays }),
      (
        line_if (IsPlain b.signs) (code == 0x3C) (Some (inverting size b)) (λ t. record { colored = (refl, tt); counted = stays }),
        (
          line_if (IsPlain b.signs) ((code == 0x3D) && nat_lt 16 size.h) (Some (scrolling size b)) (λ t. record { colored = (refl, (refl, tt)); counted = stays }),
          (
            line_if (IsPlain b.signs) (code == 0x3E) (Some (patterning size b))
                (λ t. record { colored = load_colored b.brush_loaded (LoadBrush board_brush checkered) _ refl refl; counted = stays }),
            (
              line_if (IsPlain b.signs) (code == 0x3F) (Some (stamping b))
                  (λ t. record { colored = load_colored b.image_loaded (LoadImage board_image (record { w = 16; h = 16; pixels = shaded })) _ refl refl; counted = stays }),
              tt,
            ),
          ),
        ),
      ),
    )
    (idle_plain b.signs b refl)

sign_plain : (size : Size) (b : Board) (code : ℕ) → IsPlain b.signs (board_reaction size b (Unicode code false))
sign_plain size b code =
    let once : b.signs + 1 ≤ b.signs + 1 = omega arith in
    first_holds (IsPlain b.signs) (sign_lines size b code) b (
      line_if (IsPlain b.signs) ((nat_le 0x21 code && nat_le code 0x7E) && (nat_le 8 size.w && nat_le 8 size.h)) (Some (writing_sign size b code)) (λ t. record {
        colored = load_colored (is_member code b.glyphs_loaded) (LoadGlyph board_font code (record { x = pos 0; y = pos 0; cx = 8; cy = 8; bits = sign_of code }))
            (sign_text b code (sign_place size b.signs)) refl (ink_is_color b.ink);
        counted = once;
      }),
      tt,
    )
    (idle_plain b.signs b refl)

reaction_plain : (size : Size) (b : Board) (e : Event) → IsPlain b.signs (board_reaction size b e)
reaction_plain size b Sync = idle_plain b.signs b refl
reaction_plain size b (Scan code true) = idle_plain b.signs b refl
reaction_plain size b (Scan code false) = key_plain size b code
reaction_plain size b (Unicode code true) = idle_plain b.signs b refl
reaction_plain size b (Unicode code false) = sign_plain size b code
reaction_plain size b (Mouse flags x y) = mouse_plain size b flags (point_on size x y)
reaction_plain size b MouseX = idle_plain b.signs b refl

-- each drawing of a reaction is of colours
pub reaction_colored : (size : Size) (b : Board) (e : Event) → AreColored (board_reaction size b e).drawings
reaction_colored size b e = (reaction_plain size b e).colored

-- an event writes at most one sign
pub reaction_signs : (size : Size) (b : Board) (e : Event) → (board_reaction size b e).board.signs ≤ b.signs + 1
reaction_signs size b e = (reaction_plain size b e).counted
