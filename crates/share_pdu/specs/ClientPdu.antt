-- The share PDUs of a client: the share control header ([MS-RDPBCGR] 2.2.8.1.1.1.1), the share data header (2.2.8.1.1.1.2) and what
-- a PDU says.
use Rattle.std.specs.Prelude.{◌≤◌, ℕ, ◌-◌, ◌%◌, ◌==◌, nat_le, Bool, ◌&&◌, ◌||◌, List, length, take, slice_index, Result, Ok, Err, if◌then◌else◌}
use Rattle.wire_num.specs.Field.{Read, map_read, bytes_at}
use Rattle.wire_num.specs.Number.{big_at}
use Rattle.wire_num.specs.Caused.{Caused, caused, then_caused, placed_caused}
use Rattle.wire_num.specs.declared.range.Range.{Range}
use Rattle.wire_num.specs.FieldValue.{is_any, has_bits}
use Rattle.wire_num.specs.Layout.{Layout, Open, Any, Big, Little, ◌▸◌, fields_at}
use Rattle.share_pdu.specs.declared.client_pdu.ClientPdu.{ClientPdu}
use Rattle.share_pdu.specs.declared.client_pdu.ClientPdu.TheVariants.{Confirm, Synchronize, Cooperate, Request, FontList, KeyList, Input, Refresh}
use Rattle.share_pdu.specs.declared.client_pdu.ClientPdu.TheVariants.{Suppress, Shutdown, Other}
use Rattle.share_pdu.specs.declared.share_fault.ShareFault.{ShareFault}
use Rattle.share_pdu.specs.declared.share_fault.ShareFault.TheVariants.{BadShare, Compressed}
use Rattle.share_pdu.specs.declared.share_fault.Cause.{Cause}
use Rattle.share_pdu.specs.declared.share_fault.Cause.TheVariants.{Broken, Packed}
use Rattle.share_pdu.specs.Bodies.{synchronize_body, control_body, pdu_of_action, suppress_body, is_stop, passed_refresh_at}

-- ---- headers

-- a total that counts its own header and doesn't go past the bytes that are there
abbrev pub is_total : ℕ → ℕ → Bool
is_total size n = nat_le 6 n && nat_le n size

-- the low four bits of pduType: 3 Confirm Active (PDUTYPE_CONFIRMACTIVEPDU), 7 data (PDUTYPE_DATAPDU)
abbrev pub is_confirm : ℕ → Bool
is_confirm type = type % 16 == 3

abbrev pub is_client_type : ℕ → Bool
is_client_type type = is_confirm type || (type % 16 == 7)

-- totalLength, in so many bytes; what follows is read by others
unfoldable pub total_length : ℕ → Layout
total_length size =
    Little 2 (is_total size)
    ▸ Open

-- totalLength; pduType; pduSource
unfoldable pub control_header : Layout
control_header =
    Any 2
    ▸ Little 2 is_client_type
    ▸ Any 2
    ▸ Open

-- shareId; pad1; streamId; uncompressedLength; pduType2
unfoldable pub data_header : Layout
data_header =
    Any 4
    ▸ Any 1
    ▸ Any 1
    ▸ Any 2
    ▸ Big 1 is_any
    ▸ Open

-- compressedType, without PACKET_COMPRESSED 0x20
unfoldable pub compressed_type_at : List ℕ → Caused Cause ℕ
compressed_type_at bs = then_caused (caused Broken (big_at 1 bs)) (λ type more. if has_bits 0x20 type then Err (Packed, bs) else Ok (type, more))

-- ---- what a PDU of so many bytes says

-- these last bytes of a PDU of so many
abbrev pub last_bytes : ℕ → List ℕ → Range
last_bytes total bs = record { from = total - length bs; to = total }

-- the body of a data PDU by its pduType2: 14 Control, 1C Input, 1F Synchronize, 21 Refresh Rect, 23 Suppress Output, 24 Shutdown
-- Request, 27 Font List, 2B Persistent Key List; of another kind it isn't looked at
unfoldable pub data_body_at : ℕ → ℕ → List ℕ → Read ClientPdu
data_body_at kind total bs =
    if kind == 0x14 then map_read (λ values. pdu_of_action (slice_index values 0)) (fields_at control_body bs)
    else (if kind == 0x1C then Ok (Input (last_bytes total bs), bs)
    else (if kind == 0x1F then map_read (λ _. Synchronize) (fields_at synchronize_body bs)
    else (if kind == 0x21 then map_read (λ _. Refresh (last_bytes total bs)) (passed_refresh_at bs)
    else (if kind == 0x23 then map_read (λ values. Suppress (is_stop values)) (fields_at suppress_body bs)
    else (if kind == 0x24 then Ok (Shutdown, bs)
    else (if kind == 0x27 then Ok (FontList, bs)
    else (if kind == 0x2B then Ok (KeyList, bs)
    else Ok (Other, bs))))))))

-- data header; compressedType; compressedLength; body
unfoldable pub data_pdu_at : ℕ → List ℕ → Caused Cause ClientPdu
data_pdu_at total bs =
    then_caused (caused Broken (fields_at data_header bs)) (λ values more.
    then_caused (compressed_type_at more) (λ _ more.
    then_caused (caused Broken (bytes_at 2 more)) (λ _ body.
    caused Broken (data_body_at (slice_index values 0) total body))))

-- control header; a Confirm Active behind it, or data
unfoldable pub client_pdu_at : ℕ → List ℕ → Caused Cause ClientPdu
client_pdu_at total bs =
    then_caused (caused Broken (fields_at control_header bs)) (λ values more.
    if is_confirm (slice_index values 0) then Ok (Confirm (last_bytes total more), more) else data_pdu_at total more)

-- ---- the PDU at the front of a text

abbrev pub share_fault_of : Cause → ℕ → ShareFault
share_fault_of Broken at = BadShare at
share_fault_of Packed at = Compressed at

-- the PDU in its own bytes
abbrev pub counted_pdu_of : List ℕ → Result ClientPdu ShareFault
counted_pdu_of bs = placed_caused share_fault_of bs (client_pdu_at (length bs) bs)

-- bytes behind the total are dropped; a total that can't be is refused at its own place, which is the first
abbrev pub share_pdu_by : List ℕ → Read (List ℕ) → Result ClientPdu ShareFault
share_pdu_by bs (Ok v) = counted_pdu_of (take (slice_index v.0 0) bs)
share_pdu_by bs (Err left) = Err (BadShare 0)

abbrev pub share_pdu_of : List ℕ → Result ClientPdu ShareFault
share_pdu_of bs = share_pdu_by bs (fields_at (total_length (length bs)) bs)

-- what a PDU says stands in a text of so many bytes
abbrev pub LiesWithin : ℕ → Range → Type 0
LiesWithin size place = (place.from ≤ place.to) × (place.to ≤ size)

abbrev pub HasBodyWithin : ℕ → ClientPdu → Type 0
HasBodyWithin size (Confirm place) = LiesWithin size place
HasBodyWithin size Synchronize = Unit {0}
HasBodyWithin size Cooperate = Unit {0}
HasBodyWithin size Request = Unit {0}
HasBodyWithin size FontList = Unit {0}
HasBodyWithin size KeyList = Unit {0}
HasBodyWithin size (Input place) = LiesWithin size place
HasBodyWithin size (Refresh place) = LiesWithin size place
HasBodyWithin size (Suppress stop) = Unit {0}
HasBodyWithin size Shutdown = Unit {0}
HasBodyWithin size Other = Unit {0}
