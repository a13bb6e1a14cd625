-- Worked bytes.
use Rattle.std.proofs.Common.{◌≡◌, [], ◌∷◌, ◌++◌, Some, refl, true, false, codes}
use Rattle.edge_io.specs.Reading.{HandsOut, IsPastLimits, ahead}

-- what is held stands before what the source has left
held_first : ahead (record { held = codes "ta"; text = []; at = 0 }) (Some (codes "ke")) ≡ Some (codes "take")
held_first = refl

one_line_of_two : HandsOut (Some (codes "take" ++ 10 ∷ codes "ta")) (Some (codes "ta")) (record { text = codes "take"; ended = true } ∷ [])
one_line_of_two = refl

an_unended_line : HandsOut (Some (codes "ta")) (Some []) (record { text = codes "ta"; ended = false } ∷ [])
an_unended_line = refl

-- the line feed is the byte past the limit
past_by_its_line_feed : IsPastLimits 268435452 (Some (codes "take" ++ 10 ∷ []))
past_by_its_line_feed = refl
