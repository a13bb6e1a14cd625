-- A board's drawings don't depend on which other signs were loaded.
use Rattle.std.proofs.Common.{◌≡◌, ℕ, ◌≤◌, List, [], ◌∷◌, ◌++◌, refl, ap, arith}
use Rattle.std.specs.Prelude.{Bool, true, false, ⊤, Option, Some, None, pos, option_map, ◌&&◌, ◌==◌, nat_lt, nat_le}
use Rattle.std.proofs.lemmas.Bool.Decides.{nat_tests}
use Rattle.px_core.specs.declared.surface.Size.{Size}
use Rattle.draw_ops.specs.declared.shape.Shape.TheVariants.{LoadGlyph}
use Rattle.input_pdu.specs.declared.event.Event.{Event}
use Rattle.input_pdu.specs.declared.event.Event.TheVariants.{Sync, Scan, Unicode, Mouse, MouseX}
use Rattle.session_rules.specs.Board.{Board, Point, Reaction, only_if, first_fitting, is_down, is_button_1, is_button_2, is_move, point_on, closing, stroking, mouse_lines, mouse_reaction, key_lines, load_unless, board_font, sign_of, is_member, sign_place, sign_text, sign_lines, board_reaction}

-- lines that both hold, with the same drawings, or neither
abbrev AreAlike : Option Reaction → Option Reaction → Type 0
AreAlike None None = ⊤
AreAlike None (Some r) = ⊥
AreAlike (Some q) None = ⊥
AreAlike (Some q) (Some r) = q.drawings ≡ r.drawings

abbrev AllAlike : List (Option Reaction) → List (Option Reaction) → Type 0
AllAlike [] [] = ⊤
AllAlike [] (m ∷ ms) = ⊥
AllAlike (l ∷ ls) [] = ⊥
AllAlike (l ∷ ls) (m ∷ ms) = AreAlike l m × AllAlike ls ms

-- of tables with such lines the same is drawn
drawn_alike : (ls ms : List (Option Reaction)) (b c : Board) → AllAlike ls ms → (first_fitting ls b).drawings ≡ (first_fitting ms c).drawings
drawn_alike [] [] b c h = refl
drawn_alike [] (m ∷ ms) b c h = absurd h
drawn_alike (l ∷ ls) [] b c h = absurd h
drawn_alike (None ∷ ls) (None ∷ ms) b c h = drawn_alike ls ms b c h.1
drawn_alike (None ∷ ls) (Some r ∷ ms) b c h = absurd h.0
drawn_alike (Some q ∷ ls) (None ∷ ms) b c h = absurd h.0
drawn_alike (Some q ∷ ls) (Some r ∷ ms) b c h = h.0

only : (t : Bool) (l m : Option Reaction) → (t ≡ true → AreAlike l m) → AreAlike (only_if t l) (only_if t m)
only true l m h = h refl
only false l m h = tt

mapped : (f g : Point → Reaction) (o : Option Point) → ((p : Point) → (f p).drawings ≡ (g p).drawings) → AreAlike (option_map f o) (option_map g o)
mapped f g None h = tt
mapped f g (Some p) h = h p

-- ---- the rows of the table

mouse : (size : Size) (b : Board) (gs : List ℕ) (flags : ℕ) (p : Point) → (mouse_reaction size (record b { glyphs_loaded = gs }) flags p).drawings ≡ (mouse_reaction size b flags p).drawings
mouse size b gs flags p =
    let c : Board = record b { last = p } in
    let d : Board = record b { last = p; glyphs_loaded = gs } in
    drawn_alike (mouse_lines size d flags p) (mouse_lines size c flags p) d c (
      only (is_down flags && is_button_1 flags) _ _ (λ t. mapped (closing d p) (closing c p) b.popup (λ at. refl)),
      (
        only (is_down flags && is_button_1 flags) _ _ (λ t. refl),
        (
          only (is_button_1 flags) _ _ (λ t. refl),
          (
            only ((is_down flags && is_button_2 flags) && (nat_le 64 size.w && nat_le 16 size.h)) _ _ (λ t. refl),
            (only (is_move flags) _ _ (λ t. mapped (stroking d p) (stroking c p) b.pen (λ pen. refl)), tt),
          ),
        ),
      ),
    )

keys : (size : Size) (b : Board) (gs : List ℕ) (code : ℕ) → (first_fitting (key_lines size (record b { glyphs_loaded = gs }) code) (record b { glyphs_loaded = gs })).drawings ≡ (first_fitting (key_lines size b code) b).drawings
keys size b gs code =
    let d : Board = record b { glyphs_loaded = gs } in
    drawn_alike (key_lines size d code) (key_lines size b code) d b (
      only (code == 0x3B) _ _ (λ t. refl),
      (
        only (code == 0x3C) _ _ (λ t. refl),
        (
          only ((code == 0x3D) && nat_lt 16 size.h) _ _ (λ t. refl),
          (
            only (code == 0x3E) _ _ (λ t. refl),
            (only (code == 0x3F) _ _ (λ t. refl), tt),
          ),
        ),
      ),
    )

signs : (size : Size) (b : Board) (gs : List ℕ) (code : ℕ) → (code ≤ 126 → is_member code gs ≡ is_member code b.glyphs_loaded)
    → (first_fitting (sign_lines size (record b { glyphs_loaded = gs }) code) (record b { glyphs_loaded = gs })).drawings ≡ (first_fitting (sign_lines size b code) b).drawings
signs size b gs code same =
    let d : Board = record b { glyphs_loaded = gs } in
    drawn_alike (sign_lines size d code) (sign_lines size b code) d b (
      only ((nat_le 0x21 code && nat_le code 0x7E) && (nat_le 8 size.w && nat_le 8 size.h)) _ _ (λ t. let small : code ≤ 126 = grind (arith, nat_tests, t) in
          ap (λ loaded. load_unless loaded (LoadGlyph board_font code (record { x = pos 0; y = pos 0; cx = 8; cy = 8; bits = sign_of code })) ++ sign_text b code (sign_place size b.signs) ∷ []) (same small)),
      tt,
    )

-- where the sign that an event writes is loaded or not alike, the event draws alike
pub draws_alike : (size : Size) (b : Board) (gs : List ℕ) (e : Event) → ((code : ℕ) → e ≡ Unicode code false → code ≤ 126 → is_member code gs ≡ is_member code b.glyphs_loaded)
    → (board_reaction size (record b { glyphs_loaded = gs }) e).drawings ≡ (board_reaction size b e).drawings
draws_alike size b gs Sync same = refl
draws_alike size b gs (Scan code true) same = refl
draws_alike size b gs (Scan code false) same = keys size b gs code
draws_alike size b gs (Unicode code true) same = refl
draws_alike size b gs (Unicode code false) same = signs size b gs code (same code refl)
draws_alike size b gs (Mouse flags x y) same = mouse size b gs flags (point_on size x y)
draws_alike size b gs MouseX same = refl
