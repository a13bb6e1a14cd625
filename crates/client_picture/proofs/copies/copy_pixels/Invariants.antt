use Rattle.std.proofs.Common.{◌≡◌, ℕ, ◌<◌, get_or}
use Rattle.std.specs.Prelude.{None}
use Rattle.client_picture.specs.Sources.{copied}
use Rattle.client_picture.proofs.copies.copy_pixels.Given as goal

-- the places so far are copied
abbrev pub invariant-loop-k : goal.invariant-loop-k
invariant-loop-k l = (j : ℕ) → j < l.k → get_or l.row j None ≡ copied (get_or l.source j None)
