-- Worked scripts, whole: from a script's bytes to the bytes of its capture.
use Rattle.std.proofs.Common.{◌≡◌, ◌++◌, refl}
use Rattle.std.specs.Fmt.{digits}
use Rattle.std.specs.Prelude.{codes}
use Rattle.rop3_core.specs.Rop3.{ternary_raster}
use Rattle.script_rules.specs.Capture.{ended}
use Rattle.script_rules.specs.CaptureText.{capture_of, encoder_frames}

largest_picture : capture_of encoder_frames (ended (codes "size 2048 2048")
    ++ ended (codes "take"))
    ≡ ended (codes "1 joined 2048 2048 plain")
    ++ ended (codes "1 0300002f02f08068000103eb702121001700ea03ea03010000011300020000000000000001000000090a0c000800080300002402f08068000103eb701616001700ea03ea030100000108000200000003000000")
unfolding digits ternary_raster
largest_picture = refl
