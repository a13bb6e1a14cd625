-- What stands before the MCS PDU of a packet: the TPKT header ([RFC 1006] 6), and the X.224 Data header ([X.224] 13.7).
use Rattle.wire_num.specs.Layout.{Layout, Open, Any, Bytes, ◌▸◌}
use Rattle.tpkt_x224.specs.Data.{data_header}

-- TPKT header, of any bytes here; X.224 Data header; what follows is the MCS PDU
unfoldable pub mcs_headers : Layout
mcs_headers =
    Any 4
    ▸ Bytes data_header
    ▸ Open
