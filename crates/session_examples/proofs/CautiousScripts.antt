-- Worked scripts, whole: what a cautious viewer is sent, and another beside it.
use Rattle.std.proofs.Common.{◌≡◌, ◌++◌, refl}
use Rattle.std.specs.Fmt.{digits}
use Rattle.std.specs.Prelude.{codes}
use Rattle.rop3_core.specs.Rop3.{ternary_raster}
use Rattle.script_rules.specs.Capture.{ended}
use Rattle.script_rules.specs.CaptureText.{capture_of, encoder_frames}

-- the first viewer gets two orders without bounds, the second all four drawings as they are
cautious_viewer_is_sent_cuts : capture_of encoder_frames (ended (codes "size 64 48")
    ++ ended (codes "invite ann owner")
    ++ ended (codes "invite bob view")
    ++ ended (codes "join ann full cautious")
    ++ ended (codes "join bob full")
    ++ ended (codes "take")
    ++ ended (codes "@2 take")
    ++ ended (codes "copy -2 -1 10 10 CC 3 4 clip 0 0 6 6")
    ++ ended (codes "fill 60 40 10 10 FF0000")
    ++ ended (codes "dst 0 0 9 9 AA")
    ++ ended (codes "fill 70 0 5 5 00FF00")
    ++ ended (codes "take")
    ++ ended (codes "@2 take"))
    ≡ ended (codes "1 joined 64 48 full cautious")
    ++ ended (codes "2 joined 64 48 full")
    ++ ended (codes "1 0300002d02f08068000103eb701f1f001700ea03ea03010000011100020000000000000001000000190a0c40300300002402f08068000103eb701616001700ea03ea030100000108000200000003000000")
    ++ ended (codes "2 0300002d02f08068000103eb701f1f001700ea03ea03010000011100020000000000000001000000190a0c40300300002402f08068000103eb701616001700ea03ea030100000108000200000003000000")
    ++ ended (codes "1 0300003802f08068000103eb702a2a001700ea03ea03010000011c0002000000000000000200000019027c0606cc0505190a1f3c28c4d8ff0300002402f08068000103eb701616001700ea03ea030100000108000200000003000000")
    ++ ended (codes "2 0300004c02f08068000103eb703e3e001700ea03ea030100000130000200000000000000040000001d027fc00505feff0a0acc0304190a1f3c28cadaff19001c0909aa190a3f0ad8fbfb00ff0300002402f08068000103eb701616001700ea03ea030100000108000200000003000000")
unfolding digits ternary_raster
cautious_viewer_is_sent_cuts = refl

cautious_viewer_is_sent_text_as_a_tile : capture_of encoder_frames (ended (codes "size 64 48")
    ++ ended (codes "invite ann owner")
    ++ ended (codes "join ann full cautious")
    ++ ended (codes "take")
    ++ ended (codes "glyph 0 65 0 0 8 1 FF")
    ++ ended (codes "text 4 5 FFFFFF 0 65:0")
    ++ ended (codes "take"))
    ≡ ended (codes "1 joined 64 48 full cautious")
    ++ ended (codes "1 0300002d02f08068000103eb701f1f001700ea03ea03010000011100020000000000000001000000190a0c40300300002402f08068000103eb701616001700ea03ea030100000108000200000003000000")
    ++ ended (codes "1 0300004502f08068000103eb703737001700ea03ea030100000129000200000001000100000000003f002f0040003000180001040f000020f0440a68fffffff374010000000300002402f08068000103eb701616001700ea03ea030100000108000200000003000000")
unfolding digits ternary_raster
cautious_viewer_is_sent_text_as_a_tile = refl

-- its place among the words is free, and it may stand twice; no other word is like it
cautious_is_one_of_the_overrides : capture_of encoder_frames (ended (codes "size 8 2")
    ++ ended (codes "invite ann owner")
    ++ ended (codes "join ann plain cautious bc0=1,768 cautious")
    ++ ended (codes "fill 6 0 9 9 FF0000")
    ++ ended (codes "take")
    ++ ended (codes "join ann cautious"))
    ≡ ended (codes "1 joined 8 2 plain cautious bc0=1,768 cautious")
    ++ ended (codes "1 0300003202f08068000103eb702424001700ea03ea03010000011600020000000000000002000000190a0c0802111506faff0300002402f08068000103eb701616001700ea03ea030100000108000200000003000000")
    ++ ended (codes "line 6 rule 6")
unfolding digits ternary_raster
cautious_is_one_of_the_overrides = refl
