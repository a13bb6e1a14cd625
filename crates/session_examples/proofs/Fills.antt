-- Worked scripts, whole: from a script's bytes to the bytes of its capture.
use Rattle.std.proofs.Common.{◌≡◌, [], ◌++◌, refl}
use Rattle.std.specs.Fmt.{digits}
use Rattle.std.specs.Prelude.{codes}
use Rattle.rop3_core.specs.Rop3.{ternary_raster}
use Rattle.script_rules.specs.Capture.{ended}
use Rattle.script_rules.specs.CaptureText.{capture_of, encoder_frames}

one_take : capture_of encoder_frames (ended (codes "size 64 48")
    ++ ended (codes "take"))
    ≡ ended (codes "1 joined 64 48 plain")
    ++ ended (codes "1 0300002d02f08068000103eb701f1f001700ea03ea03010000011100020000000000000001000000190a0c40300300002402f08068000103eb701616001700ea03ea030100000108000200000003000000")
unfolding digits ternary_raster
one_take = refl

one_fill : capture_of encoder_frames (ended (codes "size 64 48")
    ++ ended (codes "take")
    ++ ended (codes "fill 10 20 5 5 FF0000")
    ++ ended (codes "take"))
    ≡ ended (codes "1 joined 64 48 plain")
    ++ ended (codes "1 0300002d02f08068000103eb701f1f001700ea03ea03010000011100020000000000000001000000190a0c40300300002402f08068000103eb701616001700ea03ea030100000108000200000003000000")
    ++ ended (codes "1 0300002f02f08068000103eb702121001700ea03ea03010000011300020000000000000001000000111f0a14c5d5ff0300002402f08068000103eb701616001700ea03ea030100000108000200000003000000")
unfolding digits ternary_raster
one_fill = refl

-- wrong: a take finds refused fills, or all fills since the first
same_fill_again : capture_of encoder_frames (ended (codes "size 64 48")
    ++ ended (codes "take")
    ++ ended (codes "fill 10 20 5 5 FF0000")
    ++ ended (codes "take")
    ++ ended (codes "fill 10 20 5 5 FF0000")
    ++ ended (codes "take"))
    ≡ ended (codes "1 joined 64 48 plain")
    ++ ended (codes "1 0300002d02f08068000103eb701f1f001700ea03ea03010000011100020000000000000001000000190a0c40300300002402f08068000103eb701616001700ea03ea030100000108000200000003000000")
    ++ ended (codes "1 0300002f02f08068000103eb702121001700ea03ea03010000011300020000000000000001000000111f0a14c5d5ff0300002402f08068000103eb701616001700ea03ea030100000108000200000003000000")
    ++ ended (codes "1 0300002902f08068000103eb701b1b001700ea03ea03010000010d00020000000000000001000000410300002402f08068000103eb701616001700ea03ea030100000108000200000003000000")
unfolding digits ternary_raster
same_fill_again = refl

far_delta_is_absolute : capture_of encoder_frames (ended (codes "size 64 48")
    ++ ended (codes "take")
    ++ ended (codes "fill 10 20 5 5 FF0000")
    ++ ended (codes "take")
    ++ ended (codes "fill 10 20 5 5 FF0000")
    ++ ended (codes "take")
    ++ ended (codes "fill 138 21 5 5 FF0000")
    ++ ended (codes "take"))
    ≡ ended (codes "1 joined 64 48 plain")
    ++ ended (codes "1 0300002d02f08068000103eb701f1f001700ea03ea03010000011100020000000000000001000000190a0c40300300002402f08068000103eb701616001700ea03ea030100000108000200000003000000")
    ++ ended (codes "1 0300002f02f08068000103eb702121001700ea03ea03010000011300020000000000000001000000111f0a14c5d5ff0300002402f08068000103eb701616001700ea03ea030100000108000200000003000000")
    ++ ended (codes "1 0300002902f08068000103eb701b1b001700ea03ea03010000010d00020000000000000001000000410300002402f08068000103eb701616001700ea03ea030100000108000200000003000000")
    ++ ended (codes "1 0300002e02f08068000103eb702020001700ea03ea0301000001120002000000000000000100000001038a0015000300002402f08068000103eb701616001700ea03ea030100000108000200000003000000")
unfolding digits ternary_raster
far_delta_is_absolute = refl

empty_fill_is_refused : capture_of encoder_frames (ended (codes "size 64 48")
    ++ ended (codes "fill 0 0 0 5 000000")
    ++ ended (codes "take"))
    ≡ ended (codes "1 joined 64 48 plain")
    ++ ended (codes "1 refused bad-drawing 1")
    ++ ended (codes "1 0300002d02f08068000103eb701f1f001700ea03ea03010000011100020000000000000001000000190a0c40300300002402f08068000103eb701616001700ea03ea030100000108000200000003000000")
unfolding digits ternary_raster
empty_fill_is_refused = refl

empty_script : capture_of encoder_frames ([])
    ≡ ended (codes "line 1 rule 1")
unfolding digits ternary_raster
empty_script = refl

width_not_a_multiple_of_four : capture_of encoder_frames (ended (codes "size 63 48"))
    ≡ ended (codes "line 1 rule 1")
unfolding digits ternary_raster
width_not_a_multiple_of_four = refl

invite_without_a_name : capture_of encoder_frames (ended (codes "size 64 48")
    ++ ended (codes "invite  owner"))
    ≡ ended (codes "1 joined 64 48 plain")
    ++ ended (codes "line 2 rule 3")
unfolding digits ternary_raster
invite_without_a_name = refl
