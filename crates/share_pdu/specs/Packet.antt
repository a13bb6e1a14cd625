-- The packet of a share data PDU, written and read, among them that of an update: X.224 data with a Send Data Indication on channel 1003 ([RFC 1006] 6, [X.224]
-- 13.7, [T.125] 11.33).
use Rattle.std.specs.Prelude.{ℕ, ◌+◌, ◌==◌, List, [], ◌∷◌, ◌++◌, length}
use Rattle.wire_num.specs.Field.{Read, then_read, kept, wanted}
use Rattle.wire_num.specs.Length.{per_len_at}
use Rattle.mcs_dom.specs.SendData.{indication_headers, send_data_indication}
use Rattle.share_pdu.specs.Share.{Within, data_headers, share_bytes, data_at}

-- the whole packet of a PDU of this pduType2
abbrev pub share_packet : ℕ → List ℕ → List ℕ
share_packet kind body = send_data_indication (share_bytes kind body)

-- that of an update
abbrev pub update_packet : List ℕ → List ℕ
update_packet body = share_packet 2 body

-- what stands before a body of n bytes in the packet of a PDU of this pduType2
abbrev pub packet_headers : ℕ → ℕ → List ℕ
packet_headers kind n = indication_headers (18 + n) ++ data_headers kind n

-- ---- read

-- user data that the length before it counts
abbrev pub counted_data : ℕ → ℕ → List ℕ → Read Within
counted_data kind n bs = kept (length bs == n) (data_at kind bs) bs

-- those of an update
abbrev pub counted_share : ℕ → List ℕ → Read Within
counted_share n bs = counted_data 2 n bs

-- a packet behind its four header bytes: X.224 data; Send Data Indication, its initiator, its channel, its priority and segmentation; its length; the share
-- data PDU, of this pduType2
abbrev pub data_indication_at : ℕ → List ℕ → Read Within
data_indication_at kind bs =
    then_read (wanted (2 ∷ 0xF0 ∷ 0x80 ∷ []) bs) (λ x224 a. then_read (wanted (0x68 ∷ []) a) (λ indication b. then_read (wanted (0 ∷ 1 ∷ []) b) (λ initiator c.
    then_read (wanted (3 ∷ 0xEB ∷ []) c) (λ channel d. then_read (wanted (0x70 ∷ []) d)
    (λ priority e. then_read (per_len_at e) (λ n f. counted_data kind n f))))))

-- that of an update
abbrev pub indication_at : List ℕ → Read Within
indication_at bs = data_indication_at 2 bs
