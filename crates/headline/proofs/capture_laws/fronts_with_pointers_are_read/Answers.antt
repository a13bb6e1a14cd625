use Rattle.std.proofs.Common.{◌++◌, refl}
use Rattle.headline.proofs.PointedFronts.{front_sees_both}
use Rattle.headline.proofs.capture_laws.fronts_with_pointers_are_read.Goals as goal

pub returns : goal.returns
returns c = λ size confirmed j numbers front rest sees points.
    front_sees_both size confirmed j numbers (front ++ rest) front sees points (record { rest = rest; joined = refl })
