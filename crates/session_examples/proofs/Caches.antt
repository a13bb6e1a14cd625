-- Worked scripts, whole: from a script's bytes to the bytes of its capture.
use Rattle.std.proofs.Common.{◌≡◌, ◌++◌, refl}
use Rattle.std.specs.Fmt.{digits}
use Rattle.std.specs.Prelude.{codes}
use Rattle.rop3_core.specs.Rop3.{ternary_raster}
use Rattle.script_rules.specs.Capture.{ended}
use Rattle.script_rules.specs.CaptureText.{capture_of, encoder_frames}

three_glyphs : capture_of encoder_frames (ended (codes "size 64 48")
    ++ ended (codes "invite ann owner")
    ++ ended (codes "join ann bare gc0=3,4")
    ++ ended (codes "take")
    ++ ended (codes "glyph 0 65 0 0 8 1 FF")
    ++ ended (codes "glyph 0 66 0 0 8 1 0F")
    ++ ended (codes "glyph 0 67 0 0 8 1 F0")
    ++ ended (codes "text 4 5 FFFFFF 0 65:0 66:8 67:8")
    ++ ended (codes "take"))
    ≡ ended (codes "1 joined 64 48 bare gc0=3,4")
    ++ ended (codes "1 0300002d02f08068000103eb701f1f001700ea03ea03010000011100020000000000000001000000190a0c40300300002402f08068000103eb701616001700ea03ea030100000108000200000003000000")
    ++ ended (codes "1 0300008702f08068000103eb707979001700ea03ea03010000016b00020000000000000004000000030900000003000100000000000008000100ff0000000309000000030001010000000000080001000f000000030900000003000102000000000008000100f0000000091bda03380301ffffff040005001c00060004000500060000010802080300002402f08068000103eb701616001700ea03ea030100000108000200000003000000")
unfolding digits ternary_raster
three_glyphs = refl

two_entries_and_three_images : capture_of encoder_frames (ended (codes "size 64 48")
    ++ ended (codes "invite ann owner")
    ++ ended (codes "join ann bare bc0=2,768")
    ++ ended (codes "image 0 16 16 FF0000")
    ++ ended (codes "image 1 16 16 00FF00")
    ++ ended (codes "image 2 16 16 0000FF")
    ++ ended (codes "blit 0 0 16 16 CC 0 0 0")
    ++ ended (codes "blit 0 0 16 16 CC 1 0 0")
    ++ ended (codes "blit 0 0 16 16 CC 0 0 0")
    ++ ended (codes "blit 0 0 16 16 CC 2 0 0")
    ++ ended (codes "blit 0 0 16 16 CC 1 0 0")
    ++ ended (codes "blit 0 0 16 16 CC 0 0 0")
    ++ ended (codes "take"))
    ≡ ended (codes "1 joined 64 48 bare bc0=2,768")
    ++ ended (codes "1 030000b602f08068000103eb7080a7a7001700ea03ea0301000001990002000000000000000c000000190a0c4030030800000402000010101806000000700000ff00d0590d381010cc0308000004020000101018060001007000ff0000d00100010100010001000003080000040200001010180600010070ff000000d001000101000308000004020000101018060000007000ff0000d00100010000030800000402000010101806000100700000ff00d001000101000300002402f08068000103eb701616001700ea03ea030100000108000200000003000000")
unfolding digits ternary_raster
two_entries_and_three_images = refl

three_glyphs_and_two_entries : capture_of encoder_frames (ended (codes "size 64 48")
    ++ ended (codes "invite ann owner")
    ++ ended (codes "join ann bare gc0=2,4")
    ++ ended (codes "take")
    ++ ended (codes "glyph 0 65 0 0 8 1 FF")
    ++ ended (codes "glyph 0 66 0 0 8 1 0F")
    ++ ended (codes "glyph 0 67 0 0 8 1 F0")
    ++ ended (codes "text 4 5 FFFFFF 0 65:0 66:8 67:8")
    ++ ended (codes "take"))
    ≡ ended (codes "1 joined 64 48 bare gc0=2,4")
    ++ ended (codes "1 0300002d02f08068000103eb701f1f001700ea03ea03010000011100020000000000000001000000190a0c40300300002402f08068000103eb701616001700ea03ea030100000108000200000003000000")
    ++ ended (codes "1 0300004a02f08068000103eb703c3c001700ea03ea03010000012e000200000001000100000000003f002f00400030001800010414000020f0440a68ffffff0468fffffff368010000000300002402f08068000103eb701616001700ea03ea030100000108000200000003000000")
unfolding digits ternary_raster
three_glyphs_and_two_entries = refl
