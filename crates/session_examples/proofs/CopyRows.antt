-- Copies, saves and restores: the bytes of takes.
use Rattle.std.proofs.Common.{◌≡◌, [], ◌∷◌, refl}
use Rattle.std.specs.Prelude.{pos}
use Rattle.px_core.specs.Rectangle.{boxed}
use Rattle.draw_ops.specs.declared.shape.Shape.TheVariants.{Copy, Save, Restore}
use Rattle.caps_sets.specs.Confirmed.{full}
use Rattle.session_examples.proofs.Takes.{draw, draw_in, take, bytes_of_run}

-- bounds, and the same bounds again
-- wrong: bounds are met with the rectangle, or sent again where they are equal
overlapping_copy_in_a_clip : bytes_of_run 64 48 full (take ∷ draw_in (Copy (boxed (pos 0) (pos 1) 64 47) 0xCC (pos 0) (pos 0)) (boxed (pos 8) (pos 8) 16 16) ∷ take ∷ draw_in (Copy (boxed (pos 0) (pos 1) 64 47) 0xCC (pos 0) (pos 0)) (boxed (pos 8) (pos 8) 16 16) ∷ take ∷ []) ≡
    (3 ∷ 0 ∷ 0 ∷ 45 ∷ 2 ∷ 240 ∷ 128 ∷ 104 ∷ 0 ∷ 1 ∷ 3 ∷ 235 ∷ 112 ∷ 31 ∷ 31 ∷ 0 ∷ 23 ∷ 0 ∷ 234 ∷ 3 ∷ 234 ∷ 3 ∷ 1 ∷ 0 ∷ 0 ∷ 1 ∷ 17 ∷ 0 ∷ 2 ∷ 0 ∷ 0 ∷ 0 ∷ 0 ∷ 0 ∷ 0 ∷ 0 ∷ 1 ∷ 0 ∷ 0 ∷ 0 ∷ 25 ∷ 10 ∷ 12 ∷ 64 ∷ 48 ∷ 3 ∷ 0 ∷ 0 ∷ 36 ∷ 2 ∷ 240 ∷ 128 ∷ 104 ∷ 0 ∷ 1 ∷ 3 ∷ 235 ∷ 112 ∷ 22 ∷ 22 ∷ 0 ∷ 23 ∷ 0 ∷ 234 ∷ 3 ∷ 234 ∷ 3 ∷ 1 ∷ 0 ∷ 0 ∷ 1 ∷ 8 ∷ 0 ∷ 2 ∷ 0 ∷ 0 ∷ 0 ∷ 3 ∷ 0 ∷ 0 ∷ 0 ∷ [])
    ∷ (3 ∷ 0 ∷ 0 ∷ 52 ∷ 2 ∷ 240 ∷ 128 ∷ 104 ∷ 0 ∷ 1 ∷ 3 ∷ 235 ∷ 112 ∷ 38 ∷ 38 ∷ 0 ∷ 23 ∷ 0 ∷ 234 ∷ 3 ∷ 234 ∷ 3 ∷ 1 ∷ 0 ∷ 0 ∷ 1 ∷ 24 ∷ 0 ∷ 2 ∷ 0 ∷ 0 ∷ 0 ∷ 0 ∷ 0 ∷ 0 ∷ 0 ∷ 1 ∷ 0 ∷ 0 ∷ 0 ∷ 29 ∷ 2 ∷ 30 ∷ 240 ∷ 8 ∷ 8 ∷ 23 ∷ 23 ∷ 1 ∷ 64 ∷ 47 ∷ 204 ∷ 3 ∷ 0 ∷ 0 ∷ 36 ∷ 2 ∷ 240 ∷ 128 ∷ 104 ∷ 0 ∷ 1 ∷ 3 ∷ 235 ∷ 112 ∷ 22 ∷ 22 ∷ 0 ∷ 23 ∷ 0 ∷ 234 ∷ 3 ∷ 234 ∷ 3 ∷ 1 ∷ 0 ∷ 0 ∷ 1 ∷ 8 ∷ 0 ∷ 2 ∷ 0 ∷ 0 ∷ 0 ∷ 3 ∷ 0 ∷ 0 ∷ 0 ∷ [])
    ∷ (3 ∷ 0 ∷ 0 ∷ 41 ∷ 2 ∷ 240 ∷ 128 ∷ 104 ∷ 0 ∷ 1 ∷ 3 ∷ 235 ∷ 112 ∷ 27 ∷ 27 ∷ 0 ∷ 23 ∷ 0 ∷ 234 ∷ 3 ∷ 234 ∷ 3 ∷ 1 ∷ 0 ∷ 0 ∷ 1 ∷ 13 ∷ 0 ∷ 2 ∷ 0 ∷ 0 ∷ 0 ∷ 0 ∷ 0 ∷ 0 ∷ 0 ∷ 1 ∷ 0 ∷ 0 ∷ 0 ∷ 101 ∷ 3 ∷ 0 ∷ 0 ∷ 36 ∷ 2 ∷ 240 ∷ 128 ∷ 104 ∷ 0 ∷ 1 ∷ 3 ∷ 235 ∷ 112 ∷ 22 ∷ 22 ∷ 0 ∷ 23 ∷ 0 ∷ 234 ∷ 3 ∷ 234 ∷ 3 ∷ 1 ∷ 0 ∷ 0 ∷ 1 ∷ 8 ∷ 0 ∷ 2 ∷ 0 ∷ 0 ∷ 0 ∷ 3 ∷ 0 ∷ 0 ∷ 0 ∷ []) ∷ []
overlapping_copy_in_a_clip = refl

-- a save at position 0, and its restore
-- wrong: one set of registers for all order types
save_and_restore : bytes_of_run 64 48 full (take ∷ draw (Save 0 (boxed (pos 0) (pos 0) 10 10)) ∷ take ∷ draw (Restore 0 (pos 0) (pos 0)) ∷ take ∷ []) ≡
    (3 ∷ 0 ∷ 0 ∷ 45 ∷ 2 ∷ 240 ∷ 128 ∷ 104 ∷ 0 ∷ 1 ∷ 3 ∷ 235 ∷ 112 ∷ 31 ∷ 31 ∷ 0 ∷ 23 ∷ 0 ∷ 234 ∷ 3 ∷ 234 ∷ 3 ∷ 1 ∷ 0 ∷ 0 ∷ 1 ∷ 17 ∷ 0 ∷ 2 ∷ 0 ∷ 0 ∷ 0 ∷ 0 ∷ 0 ∷ 0 ∷ 0 ∷ 1 ∷ 0 ∷ 0 ∷ 0 ∷ 25 ∷ 10 ∷ 12 ∷ 64 ∷ 48 ∷ 3 ∷ 0 ∷ 0 ∷ 36 ∷ 2 ∷ 240 ∷ 128 ∷ 104 ∷ 0 ∷ 1 ∷ 3 ∷ 235 ∷ 112 ∷ 22 ∷ 22 ∷ 0 ∷ 23 ∷ 0 ∷ 234 ∷ 3 ∷ 234 ∷ 3 ∷ 1 ∷ 0 ∷ 0 ∷ 1 ∷ 8 ∷ 0 ∷ 2 ∷ 0 ∷ 0 ∷ 0 ∷ 3 ∷ 0 ∷ 0 ∷ 0 ∷ [])
    ∷ (3 ∷ 0 ∷ 0 ∷ 45 ∷ 2 ∷ 240 ∷ 128 ∷ 104 ∷ 0 ∷ 1 ∷ 3 ∷ 235 ∷ 112 ∷ 31 ∷ 31 ∷ 0 ∷ 23 ∷ 0 ∷ 234 ∷ 3 ∷ 234 ∷ 3 ∷ 1 ∷ 0 ∷ 0 ∷ 1 ∷ 17 ∷ 0 ∷ 2 ∷ 0 ∷ 0 ∷ 0 ∷ 0 ∷ 0 ∷ 0 ∷ 0 ∷ 1 ∷ 0 ∷ 0 ∷ 0 ∷ 25 ∷ 11 ∷ 24 ∷ 9 ∷ 9 ∷ 3 ∷ 0 ∷ 0 ∷ 36 ∷ 2 ∷ 240 ∷ 128 ∷ 104 ∷ 0 ∷ 1 ∷ 3 ∷ 235 ∷ 112 ∷ 22 ∷ 22 ∷ 0 ∷ 23 ∷ 0 ∷ 234 ∷ 3 ∷ 234 ∷ 3 ∷ 1 ∷ 0 ∷ 0 ∷ 1 ∷ 8 ∷ 0 ∷ 2 ∷ 0 ∷ 0 ∷ 0 ∷ 3 ∷ 0 ∷ 0 ∷ 0 ∷ [])
    ∷ (3 ∷ 0 ∷ 0 ∷ 43 ∷ 2 ∷ 240 ∷ 128 ∷ 104 ∷ 0 ∷ 1 ∷ 3 ∷ 235 ∷ 112 ∷ 29 ∷ 29 ∷ 0 ∷ 23 ∷ 0 ∷ 234 ∷ 3 ∷ 234 ∷ 3 ∷ 1 ∷ 0 ∷ 0 ∷ 1 ∷ 15 ∷ 0 ∷ 2 ∷ 0 ∷ 0 ∷ 0 ∷ 0 ∷ 0 ∷ 0 ∷ 0 ∷ 1 ∷ 0 ∷ 0 ∷ 0 ∷ 1 ∷ 32 ∷ 1 ∷ 3 ∷ 0 ∷ 0 ∷ 36 ∷ 2 ∷ 240 ∷ 128 ∷ 104 ∷ 0 ∷ 1 ∷ 3 ∷ 235 ∷ 112 ∷ 22 ∷ 22 ∷ 0 ∷ 23 ∷ 0 ∷ 234 ∷ 3 ∷ 234 ∷ 3 ∷ 1 ∷ 0 ∷ 0 ∷ 1 ∷ 8 ∷ 0 ∷ 2 ∷ 0 ∷ 0 ∷ 0 ∷ 3 ∷ 0 ∷ 0 ∷ 0 ∷ []) ∷ []
save_and_restore = refl
