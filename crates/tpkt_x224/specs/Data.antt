-- The X.224 Data header (X.224, 13.7; MS-RDPBCGR, 2.2.1.3 and on).
use Rattle.std.specs.Prelude.{ℕ, List, [], ◌∷◌, ◌++◌}
use Rattle.tpkt_x224.specs.Tpkt.{packet_of}

-- length indicator; code; end of the unit
abbrev pub data_header : List ℕ
data_header = 2 ∷ 240 ∷ 128 ∷ []

-- the packet that carries these bytes of MCS
abbrev pub data_packet : List ℕ → List ℕ
data_packet bytes = packet_of (data_header ++ bytes)
