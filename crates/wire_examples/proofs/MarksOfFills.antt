-- Fills: the pictures at the marks.
use Rattle.std.proofs.Common.{◌≡◌, ℕ, List, [], ◌∷◌, refl, replicate, pos, false}
use Rattle.std.specs.Prelude.{Ok}
use Rattle.caps_sets.specs.Confirmed.{plain}
use Rattle.order_means.specs.FrameMarks.{pictures_at_marks, EndsBetween}
use Rattle.wire_examples.proofs.Viewer.{size_of, known, filled}
use Rattle.wire_examples.proofs.Captures.{one_fill, same_fill_again, far_delta_is_absolute}

-- a black surface of 64 by 48, and one with a red square
abbrev black : List ℕ
black = replicate 3072 0

abbrev squared : List ℕ
squared = filled (size_of 64 48) (pos 10) (pos 20) 5 5 0xFF0000 black

pub one_fill_shows : pictures_at_marks plain (size_of 64 48) one_fill ≡ Ok (known black ∷ known squared ∷ [])
one_fill_shows = refl

pub one_fill_ends : EndsBetween false one_fill
one_fill_ends = refl

pub same_fill_again_shows : pictures_at_marks plain (size_of 64 48) same_fill_again ≡ Ok (known black ∷ known squared ∷ known squared ∷ [])
same_fill_again_shows = refl

-- a fill that lies beyond the surface changes no pixel
pub far_delta_is_absolute_shows : pictures_at_marks plain (size_of 64 48) far_delta_is_absolute ≡ Ok (known black ∷ known squared ∷ known squared ∷ known squared ∷ [])
far_delta_is_absolute_shows = refl
