-- The Send Data Request and Indication (T.125, 7, SendDataRequest and SendDataIndication; MS-RDPBCGR, 2.2.1.11 and later).
use Rattle.std.specs.Prelude.{ℕ, ◌+◌, ◌-◌, List, [], ◌∷◌, ◌++◌, length, slice_index}
use Rattle.byteorder.specs.Endian.{big_bytes}
use Rattle.wire_num.specs.FieldValue.{is_any, has_bits}
use Rattle.wire_num.specs.Length.{per_len_of}
use Rattle.wire_num.specs.Layout.{Layout, Bytes, Big, Body, Packed, ◌▸◌}
use Rattle.tpkt_x224.specs.Data.{data_header, data_packet}
use Rattle.mcs_dom.specs.declared.domain_pdu.DomainPdu.{DomainPdu}
use Rattle.mcs_dom.specs.declared.domain_pdu.DomainPdu.TheVariants.{Data}
use Rattle.mcs_dom.specs.User.{first_user, is_user}

-- choice; initiator; channelId; priority, and a segmentation that begins and ends here; userData
unfoldable pub send_data_request : Layout
send_data_request =
    Bytes (100 ∷ [])
    ▸ Big 2 is_user
    ▸ Big 2 is_any
    ▸ Big 1 (has_bits 48)
    ▸ Body Packed

-- the body is the last bytes of the PDU, which has so many
abbrev pub data_of : ℕ → List ℕ → DomainPdu
data_of size values =
    Data (first_user + slice_index values 0) (slice_index values 1) (record { from = size - slice_index values 3; to = size })

-- choice; initiator 1002; channelId 1003; priority and segmentation
abbrev pub indication_start : List ℕ
indication_start = 104 ∷ 0 ∷ 1 ∷ 3 ∷ 235 ∷ 112 ∷ []

-- what stands before a body of so many bytes in a whole packet: TPKT and X.224, then these fields and the length
unfoldable pub indication_headers : ℕ → List ℕ
indication_headers n =
    (3 ∷ 0 ∷ big_bytes 2 (13 + length (per_len_of n) + n)) ++ (data_header ++ (indication_start ++ per_len_of n))

abbrev pub send_data_indication : List ℕ → List ℕ
send_data_indication body = data_packet (indication_start ++ (per_len_of (length body) ++ body))
