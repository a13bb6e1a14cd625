-- Copies, blocks and markers of whole captures: the pictures at the marks.
use Rattle.std.proofs.Common.{◌≡◌, ℕ, List, [], ◌∷◌, refl, replicate}
use Rattle.std.specs.Prelude.{Ok}
use Rattle.caps_sets.specs.Confirmed.{full, marked}
use Rattle.rop3_core.specs.Rop3.{ternary_raster}
use Rattle.order_means.specs.FrameMarks.{pictures_at_marks}
use Rattle.wire_examples.proofs.Viewer.{size_of, known}
use Rattle.wire_examples.proofs.Captures.{overlapping_copy_in_a_clip, save_and_restore, marker_support, one_take}

abbrev black : List ℕ
black = replicate 3072 0

pub copy_in_a_clip_shows : pictures_at_marks full (size_of 64 48) overlapping_copy_in_a_clip ≡ Ok (known black ∷ known black ∷ known black ∷ [])
unfolding ternary_raster
copy_in_a_clip_shows = refl

pub save_and_restore_shows : pictures_at_marks full (size_of 64 48) save_and_restore ≡ Ok (known black ∷ known black ∷ known black ∷ [])
save_and_restore_shows = refl

-- with frame markers the mark is the end marker, and the start marker does nothing
pub marker_support_shows : pictures_at_marks marked (size_of 64 48) marker_support ≡ Ok (known black ∷ [])
marker_support_shows = refl

-- without them the same bytes have no mark
-- wrong: a frame marker is a mark for every viewer
pub markers_that_were_not_confirmed : pictures_at_marks full (size_of 64 48) marker_support ≡ Ok []
markers_that_were_not_confirmed = refl

-- with frame markers a Synchronize update is no mark
pub synchronize_with_markers : pictures_at_marks marked (size_of 64 48) one_take ≡ Ok []
synchronize_with_markers = refl
