-- Frames whose bytes, read by updates and orders, are exactly the frame's orders, tiles and mark.
use Rattle.std.proofs.Common.{ℕ, List, [], ◌∷◌, refl}
use Rattle.std.specs.Prelude.{pos, ⊤}
use Rattle.px_core.specs.declared.surface.Size.{Size}
use Rattle.px_core.specs.Rectangle.{boxed}
use Rattle.rop3_core.specs.Rop3.{ternary_raster}
use Rattle.draw_ops.specs.declared.shape.Shape.TheVariants.{Fill, Copy, Line, Blit, LoadImage, LoadGlyph, Text}
use Rattle.caps_sets.specs.declared.confirmed.Confirmed.{Confirmed}
use Rattle.caps_sets.specs.Confirmed.{plain, full, bare, marked, sized, with_glyph_cache}
use Rattle.session_rules.specs.declared.entry.Entry.{Entry}
use Rattle.session_rules.specs.Journal.{Head}
use Rattle.session_rules.specs.Steps.{Step, TakeOf, journal_of_steps, takes_of}
use Rattle.frame_rules.specs.Encoder.{Encoder, first_encoder, encoder_after}
use Rattle.frame_rules.specs.OrdersOfBytes.{FrameReadsAsItsOrders}
use Rattle.session_examples.proofs.Takes.{alone, join, draw, take}
use Rattle.session_examples.proofs.CacheRows.{square, glyph}

abbrev ReadAsTheirOrders : Size → Confirmed → List Entry → Encoder → List TakeOf → Type 0
ReadAsTheirOrders size c j e [] = ⊤
ReadAsTheirOrders size c j e (t ∷ ts) = FrameReadsAsItsOrders size c j e t × ReadAsTheirOrders size c j (encoder_after size c j e t) ts

abbrev OfSteps : Head → Confirmed → List Step → Type 0
OfSteps head c steps = ReadAsTheirOrders head.size c (journal_of_steps head steps) first_encoder (takes_of head steps 1)

-- the frames of a solo run, whose viewer joins first
abbrev RunReads : ℕ → ℕ → Confirmed → List Step → Type 0
RunReads w h c steps = OfSteps (alone w h) c (join ∷ steps)

-- a fill, the same one again, and a Synchronize update at each frame's end
fills_and_their_marks : RunReads 64 48 plain
    (take ∷ draw (Fill (boxed (pos 10) (pos 20) 5 5) 0xFF0000) ∷ take ∷ draw (Fill (boxed (pos 10) (pos 20) 5 5) 0xFF0000) ∷ take ∷ [])
fills_and_their_marks = (refl, (refl, (refl, tt)))

-- a marker at the frame's begin and one at its end
markers : RunReads 64 48 marked (take ∷ [])
markers = (refl, tt)

-- a fill that goes as an order, and two tiles
a_fill_and_tiles : RunReads 192 16 full (take ∷ draw (Line (pos 0) (pos 0) (pos 63) (pos 10) 0x00FF00)
    ∷ draw (Copy (boxed (pos 128) (pos 0) 64 16) 0xCC (pos 0) (pos 0)) ∷ draw (Fill (boxed (pos 64) (pos 0) 64 16) 0x0000FF) ∷ take ∷ [])
unfolding ternary_raster
a_fill_and_tiles = (refl, (refl, tt))

-- an image in a cache, and the order that draws it
an_image_in_a_cache : RunReads 64 64 full
    (take ∷ draw (LoadImage 0 (square 16 0xFF0000)) ∷ draw (Blit (boxed (pos 0) (pos 0) 16 16) 0xCC 0 (pos 0) (pos 0)) ∷ take ∷ [])
unfolding ternary_raster
an_image_in_a_cache = (refl, (refl, tt))

-- glyphs in a cache, and the order of their run
a_run_of_glyphs : RunReads 64 48 (with_glyph_cache 0 (sized 3 4) bare) (take ∷ draw (LoadGlyph 0 65 (glyph 0xFF)) ∷ draw (LoadGlyph 0 66 (glyph 0x0F))
    ∷ draw (Text (pos 4) (pos 5) 0xFFFFFF 0 ((65, 0) ∷ (66, 8) ∷ [])) ∷ take ∷ [])
a_run_of_glyphs = (refl, (refl, tt))
