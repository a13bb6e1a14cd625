-- The header of a packet of the fast path: its first byte and its length ([MS-RDPBCGR] 2.2.9.1.2).
use Rattle.std.specs.Prelude.{ℕ, nat_lt, List, [], ◌∷◌, drop, if◌then◌else◌}

-- what stands behind a packet's header, whose length has one byte below 128, or two
abbrev pub behind_header : List ℕ → List ℕ
behind_header [] = []
behind_header (v ∷ []) = []
behind_header (v ∷ l ∷ bs) = if nat_lt l 128 then bs else drop 1 bs
