-- Fills and markers: the bytes of takes.
use Rattle.std.proofs.Common.{◌≡◌, [], ◌∷◌, refl}
use Rattle.std.specs.Prelude.{pos}
use Rattle.px_core.specs.Rectangle.{boxed}
use Rattle.draw_ops.specs.declared.shape.Shape.TheVariants.{Fill}
use Rattle.caps_sets.specs.Confirmed.{plain, marked}
use Rattle.session_examples.proofs.Takes.{draw, take, bytes_of_run}

-- nothing drawn; a fill; the same one again; and one whose delta of 128 makes both coordinates absolute
-- wrong: a delta of 128 is still a byte
-- wrong: each viewer's frames go by the fast path
far_delta_is_absolute : bytes_of_run 64 48 plain (take ∷ draw (Fill (boxed (pos 10) (pos 20) 5 5) 0xFF0000) ∷ take ∷ draw (Fill (boxed (pos 10) (pos 20) 5 5) 0xFF0000) ∷ take ∷ draw (Fill (boxed (pos 138) (pos 21) 5 5) 0xFF0000) ∷ take ∷ []) ≡
    (3 ∷ 0 ∷ 0 ∷ 45 ∷ 2 ∷ 240 ∷ 128 ∷ 104 ∷ 0 ∷ 1 ∷ 3 ∷ 235 ∷ 112 ∷ 31 ∷ 31 ∷ 0 ∷ 23 ∷ 0 ∷ 234 ∷ 3 ∷ 234 ∷ 3 ∷ 1 ∷ 0 ∷ 0 ∷ 1 ∷ 17 ∷ 0 ∷ 2 ∷ 0 ∷ 0 ∷ 0 ∷ 0 ∷ 0 ∷ 0 ∷ 0 ∷ 1 ∷ 0 ∷ 0 ∷ 0 ∷ 25 ∷ 10 ∷ 12 ∷ 64 ∷ 48 ∷ 3 ∷ 0 ∷ 0 ∷ 36 ∷ 2 ∷ 240 ∷ 128 ∷ 104 ∷ 0 ∷ 1 ∷ 3 ∷ 235 ∷ 112 ∷ 22 ∷ 22 ∷ 0 ∷ 23 ∷ 0 ∷ 234 ∷ 3 ∷ 234 ∷ 3 ∷ 1 ∷ 0 ∷ 0 ∷ 1 ∷ 8 ∷ 0 ∷ 2 ∷ 0 ∷ 0 ∷ 0 ∷ 3 ∷ 0 ∷ 0 ∷ 0 ∷ [])
    ∷ (3 ∷ 0 ∷ 0 ∷ 47 ∷ 2 ∷ 240 ∷ 128 ∷ 104 ∷ 0 ∷ 1 ∷ 3 ∷ 235 ∷ 112 ∷ 33 ∷ 33 ∷ 0 ∷ 23 ∷ 0 ∷ 234 ∷ 3 ∷ 234 ∷ 3 ∷ 1 ∷ 0 ∷ 0 ∷ 1 ∷ 19 ∷ 0 ∷ 2 ∷ 0 ∷ 0 ∷ 0 ∷ 0 ∷ 0 ∷ 0 ∷ 0 ∷ 1 ∷ 0 ∷ 0 ∷ 0 ∷ 17 ∷ 31 ∷ 10 ∷ 20 ∷ 197 ∷ 213 ∷ 255 ∷ 3 ∷ 0 ∷ 0 ∷ 36 ∷ 2 ∷ 240 ∷ 128 ∷ 104 ∷ 0 ∷ 1 ∷ 3 ∷ 235 ∷ 112 ∷ 22 ∷ 22 ∷ 0 ∷ 23 ∷ 0 ∷ 234 ∷ 3 ∷ 234 ∷ 3 ∷ 1 ∷ 0 ∷ 0 ∷ 1 ∷ 8 ∷ 0 ∷ 2 ∷ 0 ∷ 0 ∷ 0 ∷ 3 ∷ 0 ∷ 0 ∷ 0 ∷ [])
    ∷ (3 ∷ 0 ∷ 0 ∷ 41 ∷ 2 ∷ 240 ∷ 128 ∷ 104 ∷ 0 ∷ 1 ∷ 3 ∷ 235 ∷ 112 ∷ 27 ∷ 27 ∷ 0 ∷ 23 ∷ 0 ∷ 234 ∷ 3 ∷ 234 ∷ 3 ∷ 1 ∷ 0 ∷ 0 ∷ 1 ∷ 13 ∷ 0 ∷ 2 ∷ 0 ∷ 0 ∷ 0 ∷ 0 ∷ 0 ∷ 0 ∷ 0 ∷ 1 ∷ 0 ∷ 0 ∷ 0 ∷ 65 ∷ 3 ∷ 0 ∷ 0 ∷ 36 ∷ 2 ∷ 240 ∷ 128 ∷ 104 ∷ 0 ∷ 1 ∷ 3 ∷ 235 ∷ 112 ∷ 22 ∷ 22 ∷ 0 ∷ 23 ∷ 0 ∷ 234 ∷ 3 ∷ 234 ∷ 3 ∷ 1 ∷ 0 ∷ 0 ∷ 1 ∷ 8 ∷ 0 ∷ 2 ∷ 0 ∷ 0 ∷ 0 ∷ 3 ∷ 0 ∷ 0 ∷ 0 ∷ [])
    ∷ (3 ∷ 0 ∷ 0 ∷ 46 ∷ 2 ∷ 240 ∷ 128 ∷ 104 ∷ 0 ∷ 1 ∷ 3 ∷ 235 ∷ 112 ∷ 32 ∷ 32 ∷ 0 ∷ 23 ∷ 0 ∷ 234 ∷ 3 ∷ 234 ∷ 3 ∷ 1 ∷ 0 ∷ 0 ∷ 1 ∷ 18 ∷ 0 ∷ 2 ∷ 0 ∷ 0 ∷ 0 ∷ 0 ∷ 0 ∷ 0 ∷ 0 ∷ 1 ∷ 0 ∷ 0 ∷ 0 ∷ 1 ∷ 3 ∷ 138 ∷ 0 ∷ 21 ∷ 0 ∷ 3 ∷ 0 ∷ 0 ∷ 36 ∷ 2 ∷ 240 ∷ 128 ∷ 104 ∷ 0 ∷ 1 ∷ 3 ∷ 235 ∷ 112 ∷ 22 ∷ 22 ∷ 0 ∷ 23 ∷ 0 ∷ 234 ∷ 3 ∷ 234 ∷ 3 ∷ 1 ∷ 0 ∷ 0 ∷ 1 ∷ 8 ∷ 0 ∷ 2 ∷ 0 ∷ 0 ∷ 0 ∷ 3 ∷ 0 ∷ 0 ∷ 0 ∷ []) ∷ []
far_delta_is_absolute = refl

-- the markers of a viewer that has them
-- wrong: the end marker stands in the update before it
marker_support : bytes_of_run 64 48 marked (take ∷ []) ≡
    (3 ∷ 0 ∷ 0 ∷ 50 ∷ 2 ∷ 240 ∷ 128 ∷ 104 ∷ 0 ∷ 1 ∷ 3 ∷ 235 ∷ 112 ∷ 36 ∷ 36 ∷ 0 ∷ 23 ∷ 0 ∷ 234 ∷ 3 ∷ 234 ∷ 3 ∷ 1 ∷ 0 ∷ 0 ∷ 1 ∷ 22 ∷ 0 ∷ 2 ∷ 0 ∷ 0 ∷ 0 ∷ 0 ∷ 0 ∷ 0 ∷ 0 ∷ 2 ∷ 0 ∷ 0 ∷ 0 ∷ 54 ∷ 0 ∷ 0 ∷ 0 ∷ 0 ∷ 25 ∷ 10 ∷ 12 ∷ 64 ∷ 48 ∷ 3 ∷ 0 ∷ 0 ∷ 45 ∷ 2 ∷ 240 ∷ 128 ∷ 104 ∷ 0 ∷ 1 ∷ 3 ∷ 235 ∷ 112 ∷ 31 ∷ 31 ∷ 0 ∷ 23 ∷ 0 ∷ 234 ∷ 3 ∷ 234 ∷ 3 ∷ 1 ∷ 0 ∷ 0 ∷ 1 ∷ 17 ∷ 0 ∷ 2 ∷ 0 ∷ 0 ∷ 0 ∷ 0 ∷ 0 ∷ 0 ∷ 0 ∷ 1 ∷ 0 ∷ 0 ∷ 0 ∷ 54 ∷ 1 ∷ 0 ∷ 0 ∷ 0 ∷ []) ∷ []
marker_support = refl
