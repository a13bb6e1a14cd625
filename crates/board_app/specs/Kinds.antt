-- Lists of codes without repetition: as long as the number of codes that are in them.
use Rattle.std.specs.Prelude.{ℕ, zero, suc, ◌≡◌, ◌≤◌, ◌+◌, List, length, drop, if◌then◌else◌}
use Rattle.session_rules.specs.Board.{is_member}

-- how many of the numbers below n are in a list
unfoldable pub kinds : ℕ → List ℕ → ℕ
kinds zero ms = 0
kinds (suc n) ms = (if is_member n ms then 1 else 0) + kinds n ms

-- the codes from a place on are all different, and below 127
pub record OneOfEach (codes : List ℕ) (first : ℕ) : Type 0 where
  pub inside : first ≤ 127
  pub each : length (drop first codes) ≡ kinds 127 (drop first codes)
