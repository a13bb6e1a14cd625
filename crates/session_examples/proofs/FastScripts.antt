-- Worked scripts, whole: viewers of the fast path, one of them beside a viewer without it, and what the marks of each show.
use Rattle.std.proofs.Common.{◌≡◌, ℕ, List, ◌++◌, refl}
use Rattle.std.specs.Fmt.{digits}
use Rattle.std.specs.Prelude.{true, codes}
use Rattle.rop3_core.specs.Rop3.{ternary_raster}
use Rattle.fast_path.specs.Written.{fast_headers}
use Rattle.caps_sets.specs.Confirmed.{full, marked}
use Rattle.script_rules.specs.Capture.{ended}
use Rattle.script_rules.specs.CaptureText.{capture_of, encoder_frames}
use Rattle.session_examples.proofs.Headlines.{ShowsTo}

-- the black fill of a first frame, and its mark
first_frame_by_the_fast_path : capture_of encoder_frames (ended (codes "size 64 48")
    ++ ended (codes "invite ann owner")
    ++ ended (codes "join ann plain fast")
    ++ ended (codes "take"))
    ≡ ended (codes "1 joined 64 48 plain fast")
    ++ ended (codes "1 000c0007000100190a0c40300005030000")
unfolding digits ternary_raster fast_headers
first_frame_by_the_fast_path = refl

frame_markers_by_the_fast_path : capture_of encoder_frames (ended (codes "size 64 48")
    ++ ended (codes "invite ann owner")
    ++ ended (codes "join ann marked fast")
    ++ ended (codes "take")
    ++ ended (codes "fill 1 1 3 3 00FF00")
    ++ ended (codes "take"))
    ≡ ended (codes "1 joined 64 48 marked fast")
    ++ ended (codes "1 0011000c0002003600000000190a0c4030000c00070001003601000000")
    ++ ended (codes "1 0013000e0002003600000000112f0101c3d3ff000c00070001003601000000")
unfolding digits ternary_raster fast_headers
frame_markers_by_the_fast_path = refl

-- the second viewer's frames go by the slow path
fast_viewer_beside_a_slow_one : capture_of encoder_frames (ended (codes "size 64 48")
    ++ ended (codes "invite ann owner")
    ++ ended (codes "invite bob view")
    ++ ended (codes "join ann full fast")
    ++ ended (codes "join bob full")
    ++ ended (codes "take")
    ++ ended (codes "@2 take")
    ++ ended (codes "fill 10 20 5 5 FF0000")
    ++ ended (codes "take")
    ++ ended (codes "@2 take"))
    ≡ ended (codes "1 joined 64 48 full fast")
    ++ ended (codes "2 joined 64 48 full")
    ++ ended (codes "1 000c0007000100190a0c40300005030000")
    ++ ended (codes "2 0300002d02f08068000103eb701f1f001700ea03ea03010000011100020000000000000001000000190a0c40300300002402f08068000103eb701616001700ea03ea030100000108000200000003000000")
    ++ ended (codes "1 000e0009000100111f0a14c5d5ff0005030000")
    ++ ended (codes "2 0300002f02f08068000103eb702121001700ea03ea03010000011300020000000000000001000000111f0a14c5d5ff0300002402f08068000103eb701616001700ea03ea030100000108000200000003000000")
unfolding digits ternary_raster fast_headers
fast_viewer_beside_a_slow_one = refl

-- ---- marks

-- an image in a cache, for a viewer with frame markers and the fast path beside one without either
two_viewers : List ℕ
two_viewers = ended (codes "size 4 2")
    ++ ended (codes "invite ann owner")
    ++ ended (codes "invite bob view")
    ++ ended (codes "join ann full")
    ++ ended (codes "join bob marked fast")
    ++ ended (codes "image 0 3 2 123456")
    ++ ended (codes "blit 1 0 3 2 66 0 0 0")
    ++ ended (codes "take")
    ++ ended (codes "@2 take")

each_is_shown_the_journal_1 : ShowsTo full 1 two_viewers
unfolding digits ternary_raster fast_headers two_viewers
each_is_shown_the_journal_1 = (refl, refl)

each_is_shown_the_journal_2 : ShowsTo (record marked { fast = true }) 2 two_viewers
unfolding digits ternary_raster fast_headers two_viewers
each_is_shown_the_journal_2 = (refl, refl)

-- a tile that was asked for
refreshed_tile_is_shown : ShowsTo (record full { fast = true }) 1 (ended (codes "size 8 2")
    ++ ended (codes "invite ann owner")
    ++ ended (codes "join ann full fast")
    ++ ended (codes "fill 0 0 8 2 FF0000")
    ++ ended (codes "take")
    ++ ended (codes "refresh 5 1 1 1")
    ++ ended (codes "take"))
unfolding digits ternary_raster fast_headers
refreshed_tile_is_shown = (refl, refl)
