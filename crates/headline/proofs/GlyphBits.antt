-- The bits of every glyph that a legal journal loads are bytes, those of the board's signs included.
use Rattle.std.proofs.Common.{◌≡◌, ℕ, zero, suc, ◌+◌, ◌-◌, ◌*◌, ◌/◌, ◌%◌, ◌<◌, ◌≤◌, List, [], ◌∷◌, ◌++◌, refl, subst, arith, Some, None}
use Rattle.std.specs.Prelude.{⊤, Bool, true, false, ◌&&◌, ◌==◌, nat_le, nat_lt, Option, IfSome, IsTrue, is_none, option_map, option_to_list}
use Rattle.std.specs.Prelude.{option_and_then, slice_get}
use Rattle.std.specs.Prelude.{if◌then◌else◌, pos, min, max}
use Rattle.std.proofs.lemmas.Bool.{and_parts}
use Rattle.std.proofs.lemmas.Bool.Decides.{nat_tests}
use Rattle.px_core.specs.declared.surface.Size.{Size}
use Rattle.px_core.specs.Rectangle.{boxed}
use Rattle.draw_ops.specs.declared.shape.Drawing.{Drawing}
use Rattle.draw_ops.specs.declared.shape.Shape.{Shape}
use Rattle.draw_ops.specs.declared.shape.Shape.TheVariants.{Fill, Dst, Pat, Copy, Blit, Blit3, Text, Line, Save, Restore, LoadImage, LoadBrush, LoadGlyph}
use Rattle.draw_ops.specs.Content.{GlyphOf}
use Rattle.draw_ops.specs.Ranges.{is_u8, is_u16, is_u32, are_bytes, is_point_in_range, is_glyph_in_range, is_shape_in_range, is_clip_in_range}
use Rattle.draw_ops.specs.Ranges.{is_drawing_in_range}
use Rattle.input_pdu.specs.declared.event.Event.{Event}
use Rattle.input_pdu.specs.declared.event.Event.TheVariants.{Sync, Scan, Unicode, Mouse, MouseX}
use Rattle.session_rules.specs.declared.entry.Entry.{Entry}
use Rattle.session_rules.specs.declared.entry.Entry.TheVariants.{Join, Leave, Give, Input, Draw}
use Rattle.session_rules.specs.Board.{Board, Point, Reaction, unclipped, board_image, board_brush, board_font, popup_removal, closing, dotting}
use Rattle.session_rules.specs.Board.{lifting, opening, popup_place}
use Rattle.session_rules.specs.Board.{stroke, stroking, mouse_lines, mouse_reaction, point_on, is_down, is_button_1, is_button_2, is_move, clearing, inverting}
use Rattle.session_rules.specs.Board.{scrolling, patterning, stamping, key_lines, is_member, writing_sign, sign_lines, sign_of, sign_place, sign_text}
use Rattle.session_rules.specs.Board.{load_unless}
use Rattle.session_rules.specs.Board.{ink_color, checkered, shaded, board_reaction, opening_board}
use Rattle.session_rules.specs.Journal.{Head, Reached, Refusal, reached_at_first, reached_after_entry, refusal_of, are_legal_after, IsLegalJournal, drawings_of}
use Rattle.session_rules.proofs.OwnSteps.{is_entry_in_range-legal}
use Rattle.session_rules.proofs.BoardReactions.{first_holds, line_if, line_of}
use Rattle.frame_rules.specs.Describes.{drawings_from, glyph_in, glyph_loaded}
use Rattle.headline.specs.Sent.{AreBytes}
use Rattle.headline.proofs.OrderBytes.{bytes_nil, bytes_cons}

-- the bits of the glyph that a shape loads, if it loads one, are bytes
abbrev pub HasBits : Shape → Type 0
HasBits s = IfSome (glyph_in s) (λ g. AreBytes g.bits)

abbrev pub AllHaveBits : List Drawing → Type 0
AllHaveBits [] = ⊤
AllHaveBits (d ∷ ds) = HasBits d.shape × AllHaveBits ds

bits_append : (xs ys : List Drawing) → AllHaveBits xs → AllHaveBits ys → AllHaveBits (xs ++ ys)
bits_append [] ys h k = k
bits_append (x ∷ xs) ys h k = (h.0, bits_append xs ys h.1 k)

-- ---- drawings in range

byte_below : (b : ℕ) → is_u8 b ≡ true → b < 256
byte_below b h = grind (arith, nat_tests, h)

bytes_tested : (bs : List ℕ) → are_bytes bs ≡ true → AreBytes bs
bytes_tested [] h = bytes_nil
bytes_tested (b ∷ bs) h = let p = and_parts (is_u8 b) (are_bytes bs) h in bytes_cons b bs (byte_below b p.0) (bytes_tested bs p.1)

bits_in_range : (s : Shape) → is_shape_in_range s ≡ true → HasBits s
bits_in_range (Fill r color) h = tt
bits_in_range (Dst r code) h = tt
bits_in_range (Pat r code brush) h = tt
bits_in_range (Copy r code sx sy) h = tt
bits_in_range (Blit r code image sx sy) h = tt
bits_in_range (Blit3 r code image sx sy brush) h = tt
bits_in_range (Text x y color font run) h = tt
bits_in_range (Line x0 y0 x1 y1 color) h = tt
bits_in_range (Save slot r) h = tt
bits_in_range (Restore slot x y) h = tt
bits_in_range (LoadImage slot image) h = tt
bits_in_range (LoadBrush slot brush) h = tt
bits_in_range (LoadGlyph font code glyph) h =
    let g = and_parts (is_u8 font && is_u8 code) (is_glyph_in_range glyph) h in
    bytes_tested glyph.bits (and_parts (is_point_in_range glyph.x glyph.y && (is_u16 glyph.cx && is_u16 glyph.cy)) (are_bytes glyph.bits) g.1).1

-- ---- drawings of the board

abbrev ReactsWithBits : Reaction → Type 0
ReactsWithBits r = AllHaveBits r.drawings

loads_have : (done : Bool) (s : Shape) → HasBits s → AllHaveBits (load_unless done s)
loads_have true s h = tt
loads_have false s h = (h, tt)

removals_have : (o : Option Point) → AllHaveBits (option_to_list (option_map popup_removal o))
removals_have None = tt
removals_have (Some at) = (tt, tt)

stroke_has : (color : ℕ) (a b : Point) → AllHaveBits (stroke color a b)
stroke_has color a b = by (a.x == b.x) (a.y == b.y)
  where
    by : (same_x same_y : Bool) → AllHaveBits (if same_x
        then (if same_y then [] else unclipped (Fill (boxed (pos a.x) (pos (min a.y b.y)) 1 (max a.y b.y - min a.y b.y + 1)) color) ∷ [])
        else (if same_y then unclipped (Fill (boxed (pos (min a.x b.x)) (pos a.y) (max a.x b.x - min a.x b.x + 1) 1) color) ∷ []
        else unclipped (Line (pos a.x) (pos a.y) (pos b.x) (pos b.y) color) ∷ []))
    by true true = tt
    by true false = (tt, tt)
    by false true = (tt, tt)
    by false false = (tt, tt)

opening_has : (b : Board) (at : Point) → ReactsWithBits (opening b at)
opening_has b at = bits_append (option_to_list (option_map popup_removal b.popup)) _ (removals_have b.popup) (tt, (tt, (tt, (tt, (tt, tt)))))

patterning_has : (size : Size) (b : Board) → ReactsWithBits (patterning size b)
patterning_has size b =
    bits_append (load_unless b.brush_loaded (LoadBrush board_brush checkered)) _
    (loads_have b.brush_loaded (LoadBrush board_brush checkered) tt) (tt, tt)

stamping_has : (b : Board) → ReactsWithBits (stamping b)
stamping_has b =
    let s : Shape = LoadImage board_image (record { w = 16; h = 16; pixels = shaded }) in
    bits_append (load_unless b.image_loaded s) _ (loads_have b.image_loaded s tt) (tt, tt)

-- the code of a sign that is written is one of seven bits
at_most : (m n : ℕ) → nat_le m n ≡ true → m ≤ n
at_most m n h = grind (arith, nat_tests, h)

abbrev row : ℕ → ℕ → ℕ
row code power = (code * power) % 256 + (code * power) / 256

sign_bits : (code : ℕ) → code ≤ 126 → AreBytes (sign_of code)
sign_bits code low =
    let a : row code 1 < 256 = omega (arith, low) in
    let b : row code 2 < 256 = omega (arith, low) in
    let c : row code 4 < 256 = omega (arith, low) in
    let d : row code 8 < 256 = omega (arith, low) in
    let e : row code 16 < 256 = omega (arith, low) in
    let f : row code 32 < 256 = omega (arith, low) in
    let g : row code 64 < 256 = omega (arith, low) in
    let h : row code 128 < 256 = omega (arith, low) in
    let l7 = bytes_cons (row code 128) [] h bytes_nil in
    let l6 = bytes_cons (row code 64) (row code 128 ∷ []) g l7 in
    let l5 = bytes_cons (row code 32) (row code 64 ∷ row code 128 ∷ []) f l6 in
    let l4 = bytes_cons (row code 16) (row code 32 ∷ row code 64 ∷ row code 128 ∷ []) e l5 in
    let l3 = bytes_cons (row code 8) (row code 16 ∷ row code 32 ∷ row code 64 ∷ row code 128 ∷ []) d l4 in
    let l2 = bytes_cons (row code 4) (row code 8 ∷ row code 16 ∷ row code 32 ∷ row code 64 ∷ row code 128 ∷ []) c l3 in
    let l1 = bytes_cons (row code 2) (row code 4 ∷ row code 8 ∷ row code 16 ∷ row code 32 ∷ row code 64 ∷ row code 128 ∷ []) b l2 in
    bytes_cons (row code 1) (row code 2 ∷ row code 4 ∷ row code 8 ∷ row code 16 ∷ row code 32 ∷ row code 64 ∷ row code 128 ∷ []) a l1

sign_has : (size : Size) (b : Board) (code : ℕ) → code ≤ 126 → ReactsWithBits (writing_sign size b code)
sign_has size b code low =
    let s : Shape = LoadGlyph board_font code (record { x = pos 0; y = pos 0; cx = 8; cy = 8; bits = sign_of code }) in
    bits_append (load_unless (is_member code b.glyphs_loaded) s) (sign_text b code (sign_place size b.signs) ∷ [])
    (loads_have (is_member code b.glyphs_loaded) s (sign_bits code low)) (tt, tt)

-- ---- the table

mouse_has : (size : Size) (b : Board) (flags : ℕ) (p : Point) → ReactsWithBits (mouse_reaction size b flags p)
mouse_has size b flags p =
    let c = record b { last = p } in
    first_holds ReactsWithBits (mouse_lines size c flags p) c (
      line_if ReactsWithBits (is_down flags && is_button_1 flags) (option_map (closing c p) c.popup)
          (λ t. line_of ReactsWithBits c.popup (closing c p) (λ at e. (tt, tt))),
      (
        line_if ReactsWithBits (is_down flags && is_button_1 flags) (Some (dotting c p)) (λ t. (tt, tt)),
        (
          line_if ReactsWithBits (is_button_1 flags) (Some (lifting c)) (λ t. tt),
          (
            line_if ReactsWithBits ((is_down flags && is_button_2 flags) && (nat_le 64 size.w && nat_le 16 size.h)) (Some (opening c (popup_place size p)))
                (λ t. opening_has c (popup_place size p)),
            (
              line_if ReactsWithBits (is_move flags) (option_map (stroking c p) c.pen)
                  (λ t. line_of ReactsWithBits c.pen (stroking c p) (λ pen e. stroke_has (ink_color c.ink) pen p)),
              tt,
            ),
          ),
        ),
      ),
    )
    tt

key_has : (size : Size) (b : Board) (code : ℕ) → ReactsWithBits (board_reaction size b (Scan code false))
key_has size b code = first_holds ReactsWithBits (key_lines size b code) b (
  line_if ReactsWithBits (code == 0x3B) (Some (clearing size b)) (λ t. (tt, tt)),
  (
    line_if ReactsWithBits (code == 0x3C) (Some (inverting size b)) (λ t. (tt, tt)),
    (
      line_if ReactsWithBits ((code == 0x3D) && nat_lt 16 size.h) (Some (scrolling size b)) (λ t. (tt, (tt, tt))),
      (
        line_if ReactsWithBits (code == 0x3E) (Some (patterning size b)) (λ t. patterning_has size b),
        (
          line_if ReactsWithBits (code == 0x3F) (Some (stamping b)) (λ t. stamping_has b),
          tt,
        ),
      ),
    ),
  ),
)
    tt

signs_have : (size : Size) (b : Board) (code : ℕ) → ReactsWithBits (board_reaction size b (Unicode code false))
signs_have size b code = first_holds ReactsWithBits (sign_lines size b code) b (
  line_if ReactsWithBits ((nat_le 0x21 code && nat_le code 0x7E) && (nat_le 8 size.w && nat_le 8 size.h)) (Some (writing_sign size b code))
      (λ t. sign_has size b code (at_most code 0x7E
      (and_parts (nat_le 0x21 code) (nat_le code 0x7E) (and_parts (nat_le 0x21 code && nat_le code 0x7E) (nat_le 8 size.w && nat_le 8 size.h) t).0).1)),
  tt,
)
    tt

reaction_has : (size : Size) (b : Board) (e : Event) → ReactsWithBits (board_reaction size b e)
reaction_has size b Sync = tt
reaction_has size b (Scan code true) = tt
reaction_has size b (Scan code false) = key_has size b code
reaction_has size b (Unicode code true) = tt
reaction_has size b (Unicode code false) = signs_have size b code
reaction_has size b (Mouse flags x y) = mouse_has size b flags (point_on size x y)
reaction_has size b MouseX = tt

-- ---- a journal

no_refusal : (o : Option Refusal) → is_none o ≡ true → o ≡ None
no_refusal None h = refl
no_refusal (Some r) h = absurd (cc h)

entry_has : (head : Head) (r : Reached) (e : Entry) → refusal_of head r e ≡ None → AllHaveBits (drawings_of head.size r.state.board e)
entry_has head r (Join v role) h = tt
entry_has head r (Leave v) h = tt
entry_has head r (Give by to) h = tt
entry_has head r (Input by event) h = reaction_has head.size r.state.board event
entry_has head r (Draw by d) h =
    let range = and_parts (is_u32 by) (is_drawing_in_range d) (is_entry_in_range-legal head r (Draw by d) h) in
    (bits_in_range d.shape (and_parts (is_shape_in_range d.shape) (is_clip_in_range d.clip) range.1).0, tt)

entries_have : (head : Head) (es : List Entry) (r : Reached) → IsTrue (are_legal_after head r es) → AllHaveBits (drawings_from head.size r.state.board es)
entries_have head [] r h = tt
entries_have head (e ∷ es) r h =
    let parts = and_parts (is_none (refusal_of head r e)) (are_legal_after head (reached_after_entry head.size r e) es) h in
    bits_append (drawings_of head.size r.state.board e) _ (entry_has head r e (no_refusal (refusal_of head r e) parts.0))
    (entries_have head es (reached_after_entry head.size r e) parts.1)

bits_at : (ds : List Drawing) (n : ℕ) (d : Drawing) → AllHaveBits ds → slice_get ds n ≡ Some d → HasBits d.shape
bits_at [] n d h e = absurd (cc e)
bits_at (x ∷ xs) zero d h e = let same : x ≡ d = cc e in subst (λ (y : Drawing). HasBits y.shape) same h.0
bits_at (x ∷ xs) (suc n) d h e = bits_at xs n d h.1 e

pub loaded_bits : (head : Head) (j : List Entry) → IsLegalJournal head j → (n : ℕ) (g : GlyphOf) → glyph_loaded head.size j n ≡ Some g → AreBytes g.bits
loaded_bits head j legal zero g e = absurd (cc e)
loaded_bits head j legal (suc n) g e = by (slice_get (drawings_from head.size opening_board j) n) refl e
  where
    by : (o : Option Drawing) → slice_get (drawings_from head.size opening_board j) n ≡ o
        → option_and_then glyph_in (option_and_then (λ (d : Drawing). Some d.shape) o) ≡ Some g → AreBytes g.bits
    by None is found_ = absurd (cc found_)
    by (Some d) is found_ =
        subst (λ o. IfSome o (λ (x : GlyphOf). AreBytes x.bits)) found_
        (bits_at (drawings_from head.size opening_board j) n d (entries_have head j (reached_at_first head.size) legal) is)
