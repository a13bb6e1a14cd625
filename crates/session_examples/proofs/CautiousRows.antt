-- A cautious viewer's drawings are cut to the pixels that they may change: the bytes of takes.
use Rattle.std.proofs.Common.{◌≡◌, ℕ, List, [], ◌∷◌, ◌++◌, refl}
use Rattle.std.specs.Prelude.{true, false, pos, negsuc}
use Rattle.px_core.specs.declared.depth.Depth.TheVariants.{Bits24}
use Rattle.px_core.specs.Rectangle.{boxed, cut_out}
use Rattle.draw_ops.specs.declared.shape.Shape.TheVariants.{Fill, Dst, Copy, Text, LoadGlyph}
use Rattle.caps_sets.specs.declared.confirmed.Confirmed.{Confirmed}
use Rattle.caps_sets.specs.Confirmed.{full}
use Rattle.session_rules.specs.Journal.{picture_after_entries}
use Rattle.session_rules.specs.Steps.{Step, journal_of_steps}
use Rattle.order_means.specs.UpdateBodies.{tile_packet, synchronize_packet}
use Rattle.session_examples.proofs.Takes.{alone, join, draw, draw_in, take, bytes_of_run, last_of}

abbrev careful : Confirmed
careful = record full { cautious = true }

-- the source of a copy moves along with its corner; a Dst that changes nothing and a Fill beside the surface are passed over
abbrev cut_steps : List Step
cut_steps = take ∷ draw_in (Copy (boxed (negsuc 1) (negsuc 0) 10 10) 0xCC (pos 3) (pos 4)) (boxed (pos 0) (pos 0) 6 6)
    ∷ draw (Fill (boxed (pos 60) (pos 40) 10 10) 0xFF0000) ∷ draw (Dst (boxed (pos 0) (pos 0) 9 9) 0xAA) ∷ draw
    (Fill (boxed (pos 70) (pos 0) 5 5) 0x00FF00) ∷ take ∷ []

two_orders_without_bounds : bytes_of_run 64 48 careful cut_steps ≡
    (3 ∷ 0 ∷ 0 ∷ 45 ∷ 2 ∷ 240 ∷ 128 ∷ 104 ∷ 0 ∷ 1 ∷ 3 ∷ 235 ∷ 112 ∷ 31 ∷ 31 ∷ 0 ∷ 23 ∷ 0 ∷ 234 ∷ 3 ∷ 234 ∷ 3 ∷ 1 ∷ 0 ∷ 0 ∷ 1 ∷ 17 ∷ 0 ∷ 2 ∷ 0 ∷ 0 ∷ 0
    ∷ 0 ∷ 0 ∷ 0 ∷ 0 ∷ 1 ∷ 0 ∷ 0 ∷ 0 ∷ 25 ∷ 10 ∷ 12 ∷ 64 ∷ 48
    ∷ 3 ∷ 0 ∷ 0 ∷ 36 ∷ 2 ∷ 240 ∷ 128 ∷ 104 ∷ 0 ∷ 1 ∷ 3 ∷ 235 ∷ 112 ∷ 22 ∷ 22 ∷ 0 ∷ 23 ∷ 0 ∷ 234 ∷ 3 ∷ 234 ∷ 3 ∷ 1 ∷ 0 ∷ 0 ∷ 1 ∷ 8 ∷ 0 ∷ 2 ∷ 0 ∷ 0 ∷ 0 ∷ 3 ∷ 0 ∷ 0 ∷ 0 ∷ [])
    ∷ (3 ∷ 0 ∷ 0 ∷ 56 ∷ 2 ∷ 240 ∷ 128 ∷ 104 ∷ 0 ∷ 1 ∷ 3 ∷ 235 ∷ 112 ∷ 42 ∷ 42 ∷ 0 ∷ 23 ∷ 0 ∷ 234 ∷ 3 ∷ 234 ∷ 3 ∷ 1 ∷ 0 ∷ 0 ∷ 1 ∷ 28 ∷ 0 ∷ 2 ∷ 0 ∷ 0 ∷ 0
    ∷ 0 ∷ 0 ∷ 0 ∷ 0 ∷ 2 ∷ 0 ∷ 0 ∷ 0 ∷ 25 ∷ 2 ∷ 124 ∷ 6 ∷ 6 ∷ 204 ∷ 5 ∷ 5 ∷ 25 ∷ 10 ∷ 31 ∷ 60 ∷ 40 ∷ 196 ∷ 216 ∷ 255
    ∷ 3 ∷ 0 ∷ 0 ∷ 36 ∷ 2 ∷ 240 ∷ 128 ∷ 104 ∷ 0 ∷ 1 ∷ 3 ∷ 235 ∷ 112 ∷ 22 ∷ 22 ∷ 0 ∷ 23 ∷ 0 ∷ 234 ∷ 3 ∷ 234 ∷ 3 ∷ 1 ∷ 0 ∷ 0 ∷ 1 ∷ 8 ∷ 0 ∷ 2 ∷ 0 ∷ 0 ∷ 0 ∷ 3 ∷ 0 ∷ 0 ∷ 0 ∷ []) ∷ []
two_orders_without_bounds = refl

-- a Text goes as a tile: one bitmap update of (0, 0) to (63, 47), and no Orders update
abbrev text_steps : List Step
text_steps = take ∷ draw (LoadGlyph 0 65 (record { x = pos 0; y = pos 0; cx = 8; cy = 1; bits = 255 ∷ [] })) ∷ draw
    (Text (pos 4) (pos 5) 0xFFFFFF 0 ((65, 0) ∷ [])) ∷ take ∷ []

text_as_a_tile : last_of (bytes_of_run 64 48 careful text_steps)
    ≡ tile_packet Bits24 false true (boxed (pos 0) (pos 0) 64 48)
    (cut_out (alone 64 48).size (picture_after_entries (alone 64 48).size (journal_of_steps (alone 64 48) (join ∷ text_steps)) 3) 0
    (boxed (pos 0) (pos 0) 64 48)) ++ synchronize_packet false
text_as_a_tile = refl
