-- What holds of all that a legal journal reaches.
use Rattle.std.specs.Prelude.{◌≡◌, ℕ, ◌*◌, ◌≤◌, ◌<◌, List, [], ◌∷◌, length, ⊤}
use Rattle.px_core.specs.declared.surface.Size.{Size}
use Rattle.draw_ops.specs.declared.shape.Drawing.{Drawing}
use Rattle.draw_ops.specs.Ranges.{HasColors}
use Rattle.session_rules.specs.Journal.{Viewer, Reached}
use Rattle.session_rules.specs.Agreement.{BoardAgrees}

-- viewers stand by ascending number, above a first number and up to a last one
abbrev pub AreNumbered : ℕ → List Viewer → ℕ → Type 0
AreNumbered low [] high = low ≤ high
AreNumbered low (x ∷ xs) high = (low < x.number) × AreNumbered x.number xs high

-- every colour of each of some drawings is one
abbrev pub AreColored : List Drawing → Type 0
AreColored [] = ⊤
AreColored (d ∷ ds) = HasColors d × AreColored ds

-- the surface agrees with the board, viewers are numbered by their joins, and nothing is past its limit
pub record IsSoundReached (size : Size) (r : Reached) : Type 0 where
  pub agrees : BoardAgrees size r.state.surface r.state.board
  pub numbered : AreNumbered 0 r.viewers r.joins
  pub few_viewers : length r.viewers ≤ 16
  pub few_joins : r.joins ≤ 65535
  pub few_entries : r.limited ≤ 1048576
  pub few_pixels : r.image_pixels ≤ 67108864
  pub few_signs : r.state.board.signs ≤ r.limited
  pub few_drawings : r.state.surface.count ≤ 8 * r.limited
