-- The fields of a Send Data Indication of the host on channel 1003, behind a packet's four header bytes, as a table.
use Rattle.std.specs.Prelude.{[], ◌∷◌}
use Rattle.wire_num.specs.Layout.{Layout, Bytes, Body, Packed, ◌▸◌}
use Rattle.tpkt_x224.specs.Data.{data_header}

-- X.224 data; choice; initiator 1002; channelId 1003; priority and segmentation; userData
abbrev pub indication_layout : Layout
indication_layout =
    Bytes data_header
    ▸ Bytes (0x68 ∷ [])
    ▸ Bytes (0 ∷ 1 ∷ [])
    ▸ Bytes (3 ∷ 0xEB ∷ [])
    ▸ Bytes (0x70 ∷ [])
    ▸ Body Packed
