-- The viewers that are present, as the session keeps them.
use Rattle.std.specs.Prelude.{ℕ, suc, ◌==◌, nat_lt, Bool, false, ◌&&◌, List, [], ◌∷◌, Option, Some, None, map, option_map, if◌then◌else◌}
use Rattle.px_core.specs.Tiles.{Tiles}
use Rattle.px_core.specs.TileFlags.{tiles}
use Rattle.session_rules.specs.Journal.{Viewer, is_owner, is_control, may_hold}
use Rattle.session_core.specs.PerViewer.{kept_for}
use Rattle.session_core.specs.declared.members.Member.{Member}
use Rattle.session_core.specs.declared.members.Wanted.{Wanted}
use Rattle.session_core.specs.declared.members.Wanted.TheVariants.{Owner, Control, Holder, HolderAbove}

abbrev pub viewer_of : Member → Viewer
viewer_of m = record { number = m.number; role = m.role }

abbrev pub viewers_of : List Member → List Viewer
viewers_of ms = map viewer_of ms

-- the tiles that each asked for, by their flags
abbrev pub asked_of : List Member → List (ℕ × List Bool)
asked_of ms = map (λ (m : Member). (m.number, m.asked)) ms

-- whether each is suppressed
abbrev pub suppressed_of : List Member → List (ℕ × Bool)
suppressed_of ms = map (λ (m : Member). (m.number, m.suppressed)) ms

-- the viewers that may be looked for
abbrev pub is_wanted : Wanted → Viewer → Bool
is_wanted Owner x = is_owner x.role
is_wanted Control x = is_control x.role
is_wanted Holder x = may_hold x.role
is_wanted (HolderAbove holder) x = may_hold x.role && nat_lt holder x.number

-- the place of the first viewer of a number
abbrev pub place_of : ℕ → List Member → Option ℕ
place_of v [] = None
place_of v (m ∷ ms) = if m.number == v then Some 0 else option_map suc (place_of v ms)

-- the tiles that a viewer asked for, and whether it is suppressed
abbrev pub tiles_asked : List Member → ℕ → Tiles
tiles_asked ms v = tiles (kept_for [] (asked_of ms) v)

abbrev pub is_stopped : List Member → ℕ → Bool
is_stopped ms v = kept_for false (suppressed_of ms) v
