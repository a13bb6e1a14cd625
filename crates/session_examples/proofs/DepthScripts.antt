-- Worked scripts, whole: a viewer at 16 bits beside one at 24, and what the marks of each show.
use Rattle.std.proofs.Common.{◌≡◌, ℕ, List, ◌++◌, refl}
use Rattle.std.specs.Fmt.{digits}
use Rattle.std.specs.Prelude.{codes, Ok}
use Rattle.px_core.specs.declared.depth.Depth.{Depth}
use Rattle.px_core.specs.declared.depth.Depth.TheVariants.{Bits24, Bits16}
use Rattle.px_core.specs.Depth.{cut_color}
use Rattle.rop3_core.specs.Rop3.{ternary_raster}
use Rattle.session_rules.specs.Steps.{journal_of_steps, frame_numbers}
use Rattle.order_means.specs.FrameMarks.{pictures_at_marks}
use Rattle.script_rules.specs.Script.{Opening, opening_of}
use Rattle.script_rules.specs.Script.Opening.{NoSize, Unended, Opened}
use Rattle.script_rules.specs.Capture.{ended, viewer_bytes}
use Rattle.script_rules.specs.CaptureText.{capture_of, encoder_frames}
use Rattle.headline.specs.Headline.{confirmed_in, pictures_after, steps_of}

-- the black fill of a first frame, and FF0000 as F800: of its three bytes 00 F8 00 the second alone differs from what was said last
-- wrong: all drawings go as tiles at 16 bits
a_viewer_at_16_bits_is_sent_cut_colors : capture_of encoder_frames (ended (codes "size 64 48")
    ++ ended (codes "invite ann owner")
    ++ ended (codes "invite bob view")
    ++ ended (codes "join ann plain")
    ++ ended (codes "join bob plain bpp=16")
    ++ ended (codes "fill 10 20 5 5 FF0000")
    ++ ended (codes "@2 take"))
    ≡ ended (codes "1 joined 64 48 plain")
    ++ ended (codes "2 joined 64 48 plain bpp=16")
    ++ ended (codes "2 0300003402f08068000103eb702626001700ea03ea03010000011800020000000000000002000000190a0c4030112f0a14c5d5f80300002402f08068000103eb701616001700ea03ea030100000108000200000003000000")
unfolding digits ternary_raster cut_color
a_viewer_at_16_bits_is_sent_cut_colors = refl

-- ---- marks

abbrev ShowsOpening : ℕ → Depth → List ℕ → Opening → Type 0
ShowsOpening v depth capture NoSize = ⊥
ShowsOpening v depth capture Unended = ⊥
ShowsOpening v depth capture (Opened s) = pictures_at_marks (confirmed_in s.head s.asked v) s.head.size (viewer_bytes v capture)
    ≡ Ok (pictures_after depth s.head.size (journal_of_steps s.head (steps_of s.asked)) (frame_numbers s.head (steps_of s.asked) v))

-- the marks of a viewer's bytes in a script's capture show the journal, at this depth
abbrev Shows : ℕ → Depth → List ℕ → Type 0
Shows v depth script = ShowsOpening v depth (capture_of encoder_frames script) (opening_of script)

-- of a colour whose low bits are cut: the first viewer is shown 123456, the second 11AA
two_depths : List ℕ
two_depths = ended (codes "size 8 2")
    ++ ended (codes "invite ann owner")
    ++ ended (codes "invite bob view")
    ++ ended (codes "join ann full")
    ++ ended (codes "join bob full bpp=16")
    ++ ended (codes "fill 0 0 3 2 123456")
    ++ ended (codes "take")
    ++ ended (codes "@2 take")
    ++ ended (codes "dst 1 0 4 2 55")
    ++ ended (codes "line 0 0 7 1 070307")
    ++ ended (codes "take")
    ++ ended (codes "@2 take")

-- wrong: the session's picture is cut, or its slots are
-- wrong: the depth of one viewer is that of all, or of all that join later
each_is_shown_its_depth_1 : Shows 1 Bits24 two_depths
unfolding digits ternary_raster cut_color two_depths
each_is_shown_its_depth_1 = refl

each_is_shown_its_depth_2 : Shows 2 Bits16 two_depths
unfolding digits ternary_raster cut_color two_depths
each_is_shown_its_depth_2 = refl

-- an image in a cache, whose pixels are cut before they are stored
an_image : List ℕ
an_image = ended (codes "size 4 2")
    ++ ended (codes "invite ann owner")
    ++ ended (codes "join ann full bpp=16")
    ++ ended (codes "image 0 3 2 123456")
    ++ ended (codes "blit 1 0 3 2 66 0 0 0")
    ++ ended (codes "take")

an_image_is_shown_at_16_bits : Shows 1 Bits16 an_image
unfolding digits ternary_raster cut_color an_image
an_image_is_shown_at_16_bits = refl
