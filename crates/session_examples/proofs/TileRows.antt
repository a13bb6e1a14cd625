-- Dirty tiles and the jump past 256 drawings: the bytes of takes.
use Rattle.std.proofs.Common.{◌≡◌, [], ◌∷◌, ◌++◌, refl, replicate}
use Rattle.std.specs.Prelude.{pos, true, false}
use Rattle.px_core.specs.Rectangle.{boxed}
use Rattle.rop3_core.specs.Rop3.{ternary_raster}
use Rattle.draw_ops.specs.declared.shape.Shape.TheVariants.{Fill, Copy, Line}
use Rattle.session_rules.specs.Steps.Step.{RefreshStep, SuppressStep}
use Rattle.caps_sets.specs.Confirmed.{plain, full}
use Rattle.session_examples.proofs.Takes.{draw, take, bytes_of_run, last_of}

-- a line makes its tile dirty, and a copy that reads that tile makes its own dirty; the fill goes as an order
copy_from_a_dirty_tile : last_of (bytes_of_run 192 16 full (take ∷ draw (Line (pos 0) (pos 0) (pos 63) (pos 10) 0x00FF00)
    ∷ draw (Copy (boxed (pos 128) (pos 0) 64 16) 0xCC (pos 0) (pos 0)) ∷ draw (Fill (boxed (pos 64) (pos 0) 64 16) 0x0000FF) ∷ take ∷ [])) ≡
    3 ∷ 0 ∷ 0 ∷ 45 ∷ 2 ∷ 240 ∷ 128 ∷ 104 ∷ 0 ∷ 1 ∷ 3 ∷ 235 ∷ 112 ∷ 31 ∷ 31 ∷ 0 ∷ 23 ∷ 0 ∷ 234 ∷ 3 ∷ 234 ∷ 3 ∷ 1 ∷ 0 ∷ 0 ∷ 1 ∷ 17 ∷ 0 ∷ 2 ∷ 0 ∷ 0 ∷ 0 ∷ 0 ∷ 0 ∷ 0 ∷ 0 ∷ 1 ∷ 0 ∷ 0 ∷ 0 ∷ 17 ∷ 69 ∷ 64 ∷ 128 ∷ 255 ∷ 3 ∷ 0 ∷ 0 ∷ 156 ∷ 2 ∷ 240 ∷ 128 ∷ 104 ∷ 0 ∷ 1 ∷ 3 ∷ 235 ∷ 112 ∷ 128 ∷ 141 ∷ 141 ∷ 0 ∷ 23 ∷ 0 ∷ 234 ∷ 3 ∷ 234 ∷ 3 ∷ 1 ∷ 0 ∷ 0 ∷ 1 ∷ 127 ∷ 0 ∷ 2 ∷ 0 ∷ 0 ∷ 0 ∷ 1 ∷ 0 ∷ 1 ∷ 0 ∷ 0 ∷ 0 ∷ 0 ∷ 0 ∷ 63 ∷ 0 ∷ 15 ∷ 0 ∷ 64 ∷ 0 ∷ 16 ∷ 0 ∷ 24 ∷ 0 ∷ 1 ∷ 4 ∷ 101 ∷ 0 ∷ 0 ∷ 32 ∷ 240 ∷ 60 ∷ 1 ∷ 100 ∷ 0 ∷ 255 ∷ 0 ∷ 0 ∷ 22 ∷ 102 ∷ 0 ∷ 255 ∷ 0 ∷ 96 ∷ 20 ∷ 0 ∷ 0 ∷ 0 ∷ 102 ∷ 0 ∷ 255 ∷ 0 ∷ 96 ∷ 19 ∷ 0 ∷ 0 ∷ 0 ∷ 103 ∷ 0 ∷ 255 ∷ 0 ∷ 96 ∷ 19 ∷ 0 ∷ 0 ∷ 0 ∷ 102 ∷ 0 ∷ 255 ∷ 0 ∷ 96 ∷ 20 ∷ 0 ∷ 0 ∷ 0 ∷ 102 ∷ 0 ∷ 255 ∷ 0 ∷ 96 ∷ 20 ∷ 0 ∷ 0 ∷ 0 ∷ 102 ∷ 0 ∷ 255 ∷ 0 ∷ 96 ∷ 19 ∷ 0 ∷ 0 ∷ 0 ∷ 103 ∷ 0 ∷ 255 ∷ 0 ∷ 96 ∷ 19 ∷ 0 ∷ 0 ∷ 0 ∷ 102 ∷ 0 ∷ 255 ∷ 0 ∷ 96 ∷ 20 ∷ 0 ∷ 0 ∷ 0 ∷ 102 ∷ 0 ∷ 255 ∷ 0 ∷ 96 ∷ 22 ∷ 0 ∷ 0 ∷ 0 ∷ 100 ∷ 0 ∷ 255 ∷ 0 ∷ 96 ∷ 28 ∷ 0 ∷ 0 ∷ 0 ∷ 3 ∷ 0 ∷ 0 ∷ 156 ∷ 2 ∷ 240 ∷ 128 ∷ 104 ∷ 0 ∷ 1 ∷ 3 ∷ 235 ∷ 112 ∷ 128 ∷ 141 ∷ 141 ∷ 0 ∷ 23 ∷ 0 ∷ 234 ∷ 3 ∷ 234 ∷ 3 ∷ 1 ∷ 0 ∷ 0 ∷ 1 ∷ 127 ∷ 0 ∷ 2 ∷ 0 ∷ 0 ∷ 0 ∷ 1 ∷ 0 ∷ 1 ∷ 0 ∷ 128 ∷ 0 ∷ 0 ∷ 0 ∷ 191 ∷ 0 ∷ 15 ∷ 0 ∷ 64 ∷ 0 ∷ 16 ∷ 0 ∷ 24 ∷ 0 ∷ 1 ∷ 4 ∷ 101 ∷ 0 ∷ 0 ∷ 32 ∷ 240 ∷ 60 ∷ 1 ∷ 100 ∷ 0 ∷ 255 ∷ 0 ∷ 0 ∷ 22 ∷ 102 ∷ 0 ∷ 255 ∷ 0 ∷ 96 ∷ 20 ∷ 0 ∷ 0 ∷ 0 ∷ 102 ∷ 0 ∷ 255 ∷ 0 ∷ 96 ∷ 19 ∷ 0 ∷ 0 ∷ 0 ∷ 103 ∷ 0 ∷ 255 ∷ 0 ∷ 96 ∷ 19 ∷ 0 ∷ 0 ∷ 0 ∷ 102 ∷ 0 ∷ 255 ∷ 0 ∷ 96 ∷ 20 ∷ 0 ∷ 0 ∷ 0 ∷ 102 ∷ 0 ∷ 255 ∷ 0 ∷ 96 ∷ 20 ∷ 0 ∷ 0 ∷ 0 ∷ 102 ∷ 0 ∷ 255 ∷ 0 ∷ 96 ∷ 19 ∷ 0 ∷ 0 ∷ 0 ∷ 103 ∷ 0 ∷ 255 ∷ 0 ∷ 96 ∷ 19 ∷ 0 ∷ 0 ∷ 0 ∷ 102 ∷ 0 ∷ 255 ∷ 0 ∷ 96 ∷ 20 ∷ 0 ∷ 0 ∷ 0 ∷ 102 ∷ 0 ∷ 255 ∷ 0 ∷ 96 ∷ 22 ∷ 0 ∷ 0 ∷ 0 ∷ 100 ∷ 0 ∷ 255 ∷ 0 ∷ 96 ∷ 28 ∷ 0 ∷ 0 ∷ 0 ∷ 3 ∷ 0 ∷ 0 ∷ 36 ∷ 2 ∷ 240 ∷ 128 ∷ 104 ∷ 0 ∷ 1 ∷ 3 ∷ 235 ∷ 112 ∷ 22 ∷ 22 ∷ 0 ∷ 23 ∷ 0 ∷ 234 ∷ 3 ∷ 234 ∷ 3 ∷ 1 ∷ 0 ∷ 0 ∷ 1 ∷ 8 ∷ 0 ∷ 2 ∷ 0 ∷ 0 ∷ 0 ∷ 3 ∷ 0 ∷ 0 ∷ 0 ∷ []
unfolding ternary_raster
copy_from_a_dirty_tile = refl

-- 256 fills all go as orders, on a picture of 8 by 2
two_hundred_and_fifty_six_fills : last_of (bytes_of_run 8 2 plain (take ∷ replicate 256 (draw (Fill (boxed (pos 0) (pos 0) 1 1) 1)) ++ take ∷ [])) ≡
    3 ∷ 0 ∷ 1 ∷ 45 ∷ 2 ∷ 240 ∷ 128 ∷ 104 ∷ 0 ∷ 1 ∷ 3 ∷ 235 ∷ 112 ∷ 129 ∷ 30 ∷ 30 ∷ 1 ∷ 23 ∷ 0 ∷ 234 ∷ 3 ∷ 234 ∷ 3 ∷ 1 ∷ 0 ∷ 0 ∷ 1 ∷ 16 ∷ 1 ∷ 2 ∷ 0 ∷ 0 ∷ 0 ∷ 0 ∷ 0 ∷ 0 ∷ 0 ∷ 0 ∷ 1 ∷ 0 ∷ 0 ∷ 17 ∷ 76 ∷ 249 ∷ 255 ∷ 1 ∷ (replicate 255 0x41 ++ 3 ∷ 0 ∷ 0 ∷ 36 ∷ 2 ∷ 240 ∷ 128 ∷ 104 ∷ 0 ∷ 1 ∷ 3 ∷ 235 ∷ 112 ∷ 22 ∷ 22 ∷ 0 ∷ 23 ∷ 0 ∷ 234 ∷ 3 ∷ 234 ∷ 3 ∷ 1 ∷ 0 ∷ 0 ∷ 1 ∷ 8 ∷ 0 ∷ 2 ∷ 0 ∷ 0 ∷ 0 ∷ 3 ∷ 0 ∷ 0 ∷ 0 ∷ [])
two_hundred_and_fifty_six_fills = refl

-- of 257 fills none does, and their tile goes raw
past_two_hundred_and_fifty_six_fills_a_tile : last_of (bytes_of_run 8 2 plain (take ∷ replicate 257 (draw (Fill (boxed (pos 0) (pos 0) 1 1) 1)) ++ take ∷ [])) ≡
    3 ∷ 0 ∷ 0 ∷ 102 ∷ 2 ∷ 240 ∷ 128 ∷ 104 ∷ 0 ∷ 1 ∷ 3 ∷ 235 ∷ 112 ∷ 88 ∷ 88 ∷ 0 ∷ 23 ∷ 0 ∷ 234 ∷ 3 ∷ 234 ∷ 3 ∷ 1 ∷ 0 ∷ 0 ∷ 1 ∷ 74 ∷ 0 ∷ 2 ∷ 0 ∷ 0 ∷ 0 ∷ 1 ∷ 0 ∷ 1 ∷ 0 ∷ 0 ∷ 0 ∷ 0 ∷ 0 ∷ 7 ∷ 0 ∷ 1 ∷ 0 ∷ 8 ∷ 0 ∷ 2 ∷ 0 ∷ 24 ∷ 0 ∷ 0 ∷ 0 ∷ 48 ∷ 0 ∷ 0 ∷ 0 ∷ 0 ∷ 0 ∷ 0 ∷ 0 ∷ 0 ∷ 0 ∷ 0 ∷ 0 ∷ 0 ∷ 0 ∷ 0 ∷ 0 ∷ 0 ∷ 0 ∷ 0 ∷ 0 ∷ 0 ∷ 0 ∷ 0 ∷ 0 ∷ 0 ∷ 0 ∷ 1 ∷ 0 ∷ 0 ∷ 0 ∷ 0 ∷ 0 ∷ 0 ∷ 0 ∷ 0 ∷ 0 ∷ 0 ∷ 0 ∷ 0 ∷ 0 ∷ 0 ∷ 0 ∷ 0 ∷ 0 ∷ 0 ∷ 0 ∷ 0 ∷ 0 ∷ 0 ∷ 0 ∷ 3 ∷ 0 ∷ 0 ∷ 36 ∷ 2 ∷ 240 ∷ 128 ∷ 104 ∷ 0 ∷ 1 ∷ 3 ∷ 235 ∷ 112 ∷ 22 ∷ 22 ∷ 0 ∷ 23 ∷ 0 ∷ 234 ∷ 3 ∷ 234 ∷ 3 ∷ 1 ∷ 0 ∷ 0 ∷ 1 ∷ 8 ∷ 0 ∷ 2 ∷ 0 ∷ 0 ∷ 0 ∷ 3 ∷ 0 ∷ 0 ∷ 0 ∷ []
past_two_hundred_and_fifty_six_fills_a_tile = refl

-- while output is suppressed nothing is sent; a tile that was asked for goes once
suppress_allow_refresh : bytes_of_run 64 64 full (draw (Fill (boxed (pos 0) (pos 0) 64 64) 0xFF0000) ∷ take ∷ SuppressStep 1 true ∷ draw (Fill (boxed (pos 0) (pos 0) 64 64) 0xFF0000) ∷ draw (Fill (boxed (pos 0) (pos 0) 64 64) 0xFF0000) ∷ draw (Fill (boxed (pos 0) (pos 0) 64 64) 0xFF0000) ∷ draw (Fill (boxed (pos 0) (pos 0) 64 64) 0xFF0000) ∷ draw (Fill (boxed (pos 0) (pos 0) 64 64) 0xFF0000) ∷ draw (Fill (boxed (pos 0) (pos 0) 64 64) 0xFF0000) ∷ draw (Fill (boxed (pos 0) (pos 0) 64 64) 0xFF0000) ∷ draw (Fill (boxed (pos 0) (pos 0) 64 64) 0xFF0000) ∷ draw (Fill (boxed (pos 0) (pos 0) 64 64) 0xFF0000) ∷ draw (Fill (boxed (pos 0) (pos 0) 64 64) 0xFF0000) ∷ take ∷ SuppressStep 1 false ∷ take ∷ RefreshStep 1 (boxed (pos 5) (pos 5) 1 1) ∷ take ∷ take ∷ []) ≡
    (3 ∷ 0 ∷ 0 ∷ 48 ∷ 2 ∷ 240 ∷ 128 ∷ 104 ∷ 0 ∷ 1 ∷ 3 ∷ 235 ∷ 112 ∷ 34 ∷ 34 ∷ 0 ∷ 23 ∷ 0 ∷ 234 ∷ 3 ∷ 234 ∷ 3 ∷ 1 ∷ 0 ∷ 0 ∷ 1 ∷ 20 ∷ 0 ∷ 2 ∷ 0 ∷ 0 ∷ 0 ∷ 0 ∷ 0 ∷ 0 ∷ 0 ∷ 2 ∷ 0 ∷ 0 ∷ 0 ∷ 25 ∷ 10 ∷ 12 ∷ 64 ∷ 64 ∷ 1 ∷ 16 ∷ 255 ∷ 3 ∷ 0 ∷ 0 ∷ 36 ∷ 2 ∷ 240 ∷ 128 ∷ 104 ∷ 0 ∷ 1 ∷ 3 ∷ 235 ∷ 112 ∷ 22 ∷ 22 ∷ 0 ∷ 23 ∷ 0 ∷ 234 ∷ 3 ∷ 234 ∷ 3 ∷ 1 ∷ 0 ∷ 0 ∷ 1 ∷ 8 ∷ 0 ∷ 2 ∷ 0 ∷ 0 ∷ 0 ∷ 3 ∷ 0 ∷ 0 ∷ 0 ∷ [])
    ∷ (3 ∷ 0 ∷ 0 ∷ 50 ∷ 2 ∷ 240 ∷ 128 ∷ 104 ∷ 0 ∷ 1 ∷ 3 ∷ 235 ∷ 112 ∷ 36 ∷ 36 ∷ 0 ∷ 23 ∷ 0 ∷ 234 ∷ 3 ∷ 234 ∷ 3 ∷ 1 ∷ 0 ∷ 0 ∷ 1 ∷ 22 ∷ 0 ∷ 2 ∷ 0 ∷ 0 ∷ 0 ∷ 0 ∷ 0 ∷ 0 ∷ 0 ∷ 10 ∷ 0 ∷ 0 ∷ 0 ∷ 65 ∷ 65 ∷ 65 ∷ 65 ∷ 65 ∷ 65 ∷ 65 ∷ 65 ∷ 65 ∷ 65 ∷ 3 ∷ 0 ∷ 0 ∷ 36 ∷ 2 ∷ 240 ∷ 128 ∷ 104 ∷ 0 ∷ 1 ∷ 3 ∷ 235 ∷ 112 ∷ 22 ∷ 22 ∷ 0 ∷ 23 ∷ 0 ∷ 234 ∷ 3 ∷ 234 ∷ 3 ∷ 1 ∷ 0 ∷ 0 ∷ 1 ∷ 8 ∷ 0 ∷ 2 ∷ 0 ∷ 0 ∷ 0 ∷ 3 ∷ 0 ∷ 0 ∷ 0 ∷ [])
    ∷ (3 ∷ 0 ∷ 0 ∷ 62 ∷ 2 ∷ 240 ∷ 128 ∷ 104 ∷ 0 ∷ 1 ∷ 3 ∷ 235 ∷ 112 ∷ 48 ∷ 48 ∷ 0 ∷ 23 ∷ 0 ∷ 234 ∷ 3 ∷ 234 ∷ 3 ∷ 1 ∷ 0 ∷ 0 ∷ 1 ∷ 34 ∷ 0 ∷ 2 ∷ 0 ∷ 0 ∷ 0 ∷ 1 ∷ 0 ∷ 1 ∷ 0 ∷ 0 ∷ 0 ∷ 0 ∷ 0 ∷ 63 ∷ 0 ∷ 63 ∷ 0 ∷ 64 ∷ 0 ∷ 64 ∷ 0 ∷ 24 ∷ 0 ∷ 1 ∷ 4 ∷ 8 ∷ 0 ∷ 96 ∷ 32 ∷ 0 ∷ 0 ∷ 255 ∷ 240 ∷ 192 ∷ 15 ∷ 3 ∷ 0 ∷ 0 ∷ 36 ∷ 2 ∷ 240 ∷ 128 ∷ 104 ∷ 0 ∷ 1 ∷ 3 ∷ 235 ∷ 112 ∷ 22 ∷ 22 ∷ 0 ∷ 23 ∷ 0 ∷ 234 ∷ 3 ∷ 234 ∷ 3 ∷ 1 ∷ 0 ∷ 0 ∷ 1 ∷ 8 ∷ 0 ∷ 2 ∷ 0 ∷ 0 ∷ 0 ∷ 3 ∷ 0 ∷ 0 ∷ 0 ∷ []) ∷ []
suppress_allow_refresh = refl
