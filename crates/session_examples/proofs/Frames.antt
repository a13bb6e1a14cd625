-- Worked scripts, whole: from a script's bytes to the bytes of its capture.
use Rattle.std.proofs.Common.{◌≡◌, ◌++◌, refl}
use Rattle.std.specs.Fmt.{digits}
use Rattle.std.specs.Prelude.{codes}
use Rattle.rop3_core.specs.Rop3.{ternary_raster}
use Rattle.script_rules.specs.Capture.{ended}
use Rattle.script_rules.specs.CaptureText.{capture_of, encoder_frames}

marker_support : capture_of encoder_frames (ended (codes "size 64 48")
    ++ ended (codes "invite ann owner")
    ++ ended (codes "join ann marked")
    ++ ended (codes "take"))
    ≡ ended (codes "1 joined 64 48 marked")
    ++ ended (codes "1 0300003202f08068000103eb702424001700ea03ea030100000116000200000000000000020000003600000000190a0c40300300002d02f08068000103eb701f1f001700ea03ea030100000111000200000000000000010000003601000000")
unfolding digits ternary_raster
marker_support = refl

save_and_restore : capture_of encoder_frames (ended (codes "size 64 48")
    ++ ended (codes "invite ann owner")
    ++ ended (codes "join ann full")
    ++ ended (codes "take")
    ++ ended (codes "save 0 0 0 10 10")
    ++ ended (codes "take")
    ++ ended (codes "restore 0 0 0")
    ++ ended (codes "take"))
    ≡ ended (codes "1 joined 64 48 full")
    ++ ended (codes "1 0300002d02f08068000103eb701f1f001700ea03ea03010000011100020000000000000001000000190a0c40300300002402f08068000103eb701616001700ea03ea030100000108000200000003000000")
    ++ ended (codes "1 0300002d02f08068000103eb701f1f001700ea03ea03010000011100020000000000000001000000190b1809090300002402f08068000103eb701616001700ea03ea030100000108000200000003000000")
    ++ ended (codes "1 0300002b02f08068000103eb701d1d001700ea03ea03010000010f000200000000000000010000000120010300002402f08068000103eb701616001700ea03ea030100000108000200000003000000")
unfolding digits ternary_raster
save_and_restore = refl

image_in_a_cache : capture_of encoder_frames (ended (codes "size 64 64")
    ++ ended (codes "invite ann owner")
    ++ ended (codes "join ann full")
    ++ ended (codes "take")
    ++ ended (codes "image 0 64 64 FF0000")
    ++ ended (codes "blit 0 0 64 64 CC 0 0 0")
    ++ ended (codes "take"))
    ≡ ended (codes "1 joined 64 64 full")
    ++ ended (codes "1 0300002d02f08068000103eb701f1f001700ea03ea03010000011100020000000000000001000000190a0c40400300002402f08068000103eb701616001700ea03ea030100000108000200000003000000")
    ++ ended (codes "1 0300004702f08068000103eb703939001700ea03ea03010000012b00020000000000000002000000030a0000040202004040180800000060200000fff0c00f590d3902004040cc0300002402f08068000103eb701616001700ea03ea030100000108000200000003000000")
unfolding digits ternary_raster
image_in_a_cache = refl

image_past_the_cell : capture_of encoder_frames (ended (codes "size 64 64")
    ++ ended (codes "invite ann owner")
    ++ ended (codes "join ann full bc2=336,12287")
    ++ ended (codes "take")
    ++ ended (codes "image 0 64 64 FF0000")
    ++ ended (codes "blit 0 0 64 64 CC 0 0 0")
    ++ ended (codes "take"))
    ≡ ended (codes "1 joined 64 64 full bc2=336,12287")
    ++ ended (codes "1 0300002d02f08068000103eb701f1f001700ea03ea03010000011100020000000000000001000000190a0c40400300002402f08068000103eb701616001700ea03ea030100000108000200000003000000")
    ++ ended (codes "1 0300003e02f08068000103eb703030001700ea03ea030100000122000200000001000100000000003f003f004000400018000104080060200000fff0c00f0300002402f08068000103eb701616001700ea03ea030100000108000200000003000000")
unfolding digits ternary_raster
image_past_the_cell = refl

-- wrong: a copy reads a dirty tile as an order
copy_from_a_dirty_tile : capture_of encoder_frames (ended (codes "size 192 64")
    ++ ended (codes "invite ann owner")
    ++ ended (codes "join ann full")
    ++ ended (codes "take")
    ++ ended (codes "line 0 0 63 10 00FF00")
    ++ ended (codes "copy 128 0 64 64 CC 0 0")
    ++ ended (codes "fill 64 0 64 64 0000FF")
    ++ ended (codes "take"))
    ≡ ended (codes "1 joined 192 64 full")
    ++ ended (codes "1 0300002f02f08068000103eb702121001700ea03ea03010000011300020000000000000001000000090a0cc00040000300002402f08068000103eb701616001700ea03ea030100000108000200000003000000")
    ++ ended (codes "1 0300002d02f08068000103eb701f1f001700ea03ea0301000001110002000000000000000100000011454080ff0300009c02f08068000103eb70808d8d001700ea03ea03010000017f000200000001000100000000003f003f00400040001800010465000020f03c0d6400ff0000166600ff0060140000006600ff0060130000006700ff0060130000006600ff0060140000006600ff0060140000006600ff0060130000006700ff0060130000006600ff0060140000006600ff0060160000006400ff00601c0000000300009c02f08068000103eb70808d8d001700ea03ea03010000017f00020000000100010080000000bf003f00400040001800010465000020f03c0d6400ff0000166600ff0060140000006600ff0060130000006700ff0060130000006600ff0060140000006600ff0060140000006600ff0060130000006700ff0060130000006600ff0060140000006600ff0060160000006400ff00601c0000000300002402f08068000103eb701616001700ea03ea030100000108000200000003000000")
unfolding digits ternary_raster
copy_from_a_dirty_tile = refl

overlapping_copy_in_a_clip : capture_of encoder_frames (ended (codes "size 64 48")
    ++ ended (codes "invite ann owner")
    ++ ended (codes "join ann full")
    ++ ended (codes "take")
    ++ ended (codes "copy 0 1 64 47 CC 0 0 clip 8 8 16 16")
    ++ ended (codes "take")
    ++ ended (codes "copy 0 1 64 47 CC 0 0 clip 8 8 16 16")
    ++ ended (codes "take"))
    ≡ ended (codes "1 joined 64 48 full")
    ++ ended (codes "1 0300002d02f08068000103eb701f1f001700ea03ea03010000011100020000000000000001000000190a0c40300300002402f08068000103eb701616001700ea03ea030100000108000200000003000000")
    ++ ended (codes "1 0300003402f08068000103eb702626001700ea03ea030100000118000200000000000000010000001d021ef00808171701402fcc0300002402f08068000103eb701616001700ea03ea030100000108000200000003000000")
    ++ ended (codes "1 0300002902f08068000103eb701b1b001700ea03ea03010000010d00020000000000000001000000650300002402f08068000103eb701616001700ea03ea030100000108000200000003000000")
unfolding digits ternary_raster
overlapping_copy_in_a_clip = refl

refused_drawings : capture_of encoder_frames (ended (codes "size 64 48")
    ++ ended (codes "copy 0 0 64 48 CC 0 1")
    ++ ended (codes "dst 0 0 4 4 CC")
    ++ ended (codes "line 0 0 9 0 FFFFFF")
    ++ ended (codes "restore 3 0 0")
    ++ ended (codes "image 0 16 16 FF0000")
    ++ ended (codes "blit 0 0 16 16 CC 0 1 0")
    ++ ended (codes "take"))
    ≡ ended (codes "1 joined 64 48 plain")
    ++ ended (codes "1 refused bad-drawing 4")
    ++ ended (codes "1 refused bad-drawing 3")
    ++ ended (codes "1 refused bad-drawing 7")
    ++ ended (codes "1 refused empty-slot 3")
    ++ ended (codes "1 refused slot-size 0")
    ++ ended (codes "1 0300002d02f08068000103eb701f1f001700ea03ea03010000011100020000000000000001000000190a0c40300300002402f08068000103eb701616001700ea03ea030100000108000200000003000000")
unfolding digits ternary_raster
refused_drawings = refl
