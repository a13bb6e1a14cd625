-- What contracts see of a session.
use Rattle.std.specs.Prelude.{ℕ, ◌≤◌, Bool, false, IsTrue, List, [], length, All, ◌≢◌}
use Rattle.px_core.specs.Tiles.{Tiles}
use Rattle.px_core.specs.TileFlags.{tiles}
use Rattle.session_rules.specs.declared.entry.Entry.{Entry}
use Rattle.session_rules.specs.Journal.{Head, Row, Reached, reached_at, is_present}
use Rattle.session_rules.specs.Steps.{are_names_distinct}
use Rattle.session_core.specs.PerViewer.{kept_for}

-- the size and the rows, the journal, and of each viewer present the tiles that it asked for, by their flags, and whether it is suppressed
pub record SessionModel : Type 0 where
  pub head : Head
  pub journal : List Entry
  pub asked : List (ℕ × List Bool)
  pub suppressed : List (ℕ × Bool)

abbrev pub new_session : Head → SessionModel
new_session head = record { head = head; journal = []; asked = []; suppressed = [] }

-- what the whole journal has reached
abbrev pub reached_by : SessionModel → Reached
reached_by s = reached_at s.head.size s.journal (length s.journal)

-- whether a viewer is present
abbrev pub is_here : SessionModel → ℕ → Bool
is_here s v = is_present v (reached_by s).viewers

-- the tiles that a viewer has asked for; one that isn't present has asked for none
abbrev pub asked_by : SessionModel → ℕ → Tiles
asked_by s v = tiles (kept_for [] s.asked v)

-- whether a viewer is suppressed; one that isn't present isn't
abbrev pub is_suppressed : SessionModel → ℕ → Bool
is_suppressed s v = kept_for false s.suppressed v

-- the rows of an invitation list: at most 64, with distinct names of which none is empty (profile)
pub record AreInvited (rows : List Row) : Type 0 where
  pub few : length rows ≤ 64
  pub distinct : IsTrue (are_names_distinct rows)
  pub named : All (λ (row : Row). row.name ≢ []) rows
