use Rattle.std.proofs.Common.{◌≡◌, ℕ, ◌<◌, get_or}
use Rattle.std.specs.Prelude.{Some, None}
use Rattle.client_picture.specs.Sources.{copied}
use Rattle.client_picture.proofs.mix.copy_colors.Given as goal

-- the places so far have their colours
abbrev pub invariant-loop-k : goal.invariant-loop-k
invariant-loop-k l = (j : ℕ) → j < l.k → get_or l.row j None ≡ copied (Some (get_or l.colors j 0))
