-- Drawings of colours, by their places.
use Rattle.std.proofs.Common.{zero, suc, List, [], ◌∷◌, arith}
use Rattle.std.specs.Prelude.{All}
use Rattle.draw_ops.specs.declared.shape.Drawing.{Drawing}
use Rattle.draw_ops.specs.Ranges.{HasColors}
use Rattle.session_rules.specs.Reaching.{AreColored}

pub all_colored : (ds : List Drawing) → AreColored ds → All HasColors ds
all_colored [] h k d below = absurd (omega (arith, below))
all_colored (x ∷ xs) h zero d below = h.0
all_colored (x ∷ xs) h (suc k) d below = all_colored xs h.1 k d (omega (arith, below))
