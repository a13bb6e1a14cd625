-- Which packets are those of Pointer PDUs: whole packets whose fields up to the kind are an update's, but for the kind ([RFC 1006] 6, [X.224] 13.7, [T.125]
-- 11.33, [MS-RDPBCGR] 2.2.8.1.1.1).
use Rattle.std.specs.Prelude.{◌≡◌, ◌≤◌, ℕ, ◌+◌, ◌-◌, ◌%◌, ◌==◌, nat_le, Bool, true, false, ◌&&◌, List, [], ◌∷◌, ◌++◌, length, take, drop, Result, Ok, Err}
use Rattle.wire_num.specs.Field.{Read, then_read, taken, bytes_at, kept, wanted}
use Rattle.wire_num.specs.Number.{little_at}
use Rattle.wire_num.specs.Length.{per_len_at}
use Rattle.tpkt_x224.specs.declared.tpkt.Packet.{Packet}
use Rattle.tpkt_x224.specs.declared.tpkt.Packet.TheVariants.{Whole, Part, NotTpkt, BadLength}
use Rattle.tpkt_x224.specs.Tpkt.{packet_at}
use Rattle.share_pdu.specs.Share.{Within, tested_at, body_within}
use Rattle.share_pdu.specs.Packet.{share_packet}

-- pduType2 of a Pointer PDU, PDUTYPE2_POINTER
abbrev pub pointer_kind : ℕ
pointer_kind = 0x1B

-- the packet of a Pointer PDU with this message
abbrev pub pointer_packet : List ℕ → List ℕ
pointer_packet message = share_packet pointer_kind message

-- ---- read up to the kind

-- pduType
abbrev pub pdu_type_at : List ℕ → Read (List ℕ)
pdu_type_at bs = tested_at 2 (λ b. b % 16 == 7) bs

-- pduType, source 2, shareId 4, pad 1, stream 1, uncompressed length 2
abbrev pub head_at : List ℕ → Read (List ℕ)
head_at bs =
    then_read (pdu_type_at bs) (λ type a. then_read (bytes_at 2 a)
    (λ source b. then_read (bytes_at 4 b) (λ share c. then_read (bytes_at 1 c) (λ pad d. then_read (bytes_at 1 d) (λ stream e. bytes_at 2 e)))))

-- and then pduType2, the kind
abbrev pub kind_at : ℕ → List ℕ → Read (List ℕ)
kind_at kind bs = then_read (head_at bs) (λ head f. wanted (kind ∷ []) f)

-- what stands behind a kind within a total, and then what stands behind that total
abbrev pub content_by : Read (List ℕ) → List ℕ → Read (List ℕ)
content_by (Ok v) after = Ok (v.1, after)
content_by (Err left) after = Err (left ++ after)

-- a share data PDU of a kind: its total is at least 6 and at most what is there
abbrev pub content_at : ℕ → List ℕ → Read (List ℕ)
content_at kind bs =
    then_read (little_at 2 bs) (λ total a. then_read (kept (nat_le 6 total
    && nat_le total (length bs)) (taken bs (total - 2) a) bs) (λ inside after. content_by (kind_at kind inside) after))

-- user data that the length before it counts
abbrev pub counted_at : ℕ → ℕ → List ℕ → Read (List ℕ)
counted_at kind n bs = kept (length bs == n) (content_at kind bs) bs

-- X.224 data; Send Data Indication, its initiator, its channel, its priority and segmentation
abbrev pub mcs_at : List ℕ → Read (List ℕ)
mcs_at bs =
    then_read (wanted (2 ∷ 0xF0 ∷ 0x80 ∷ []) bs) (λ x224 a. then_read (wanted (0x68 ∷ []) a) (λ indication b. then_read (wanted (0 ∷ 1 ∷ []) b) (λ initiator c.
    then_read (wanted (3 ∷ 0xEB ∷ []) c) (λ channel d. wanted (0x70 ∷ []) d))))

-- a packet of a kind, behind its four header bytes
abbrev pub indicated_at : ℕ → List ℕ → Read (List ℕ)
indicated_at kind bs = then_read (mcs_at bs) (λ mcs e. then_read (per_len_at e) (λ n f. counted_at kind n f))

-- whether all of so many bytes are a packet
abbrev pub is_all : Packet → ℕ → Bool
is_all (Whole n) size = n == size
is_all Part size = false
is_all NotTpkt size = false
is_all BadLength size = false

-- what stands in a pointer packet behind its kind, to the end of the PDU's total, and behind that; refused where the bytes are no pointer packet
abbrev pub pointer_content : List ℕ → Read (List ℕ)
pointer_content packet = kept (is_all (packet_at packet) (length packet)) (indicated_at pointer_kind (drop 4 packet)) packet

abbrev pub is_read : {A : Type 0} → Read A → Bool
is_read (Ok v) = true
is_read (Err left) = false

-- whether the bytes are one packet, and that of a Pointer PDU
abbrev pub is_pointer : List ℕ → Bool
is_pointer packet = is_read (pointer_content packet)

-- ---- behind the kind

-- compressed type 00, compressed length 2
abbrev pub compression_at : List ℕ → Read (List ℕ)
compression_at bs = then_read (wanted (0 ∷ []) bs) (λ type a. bytes_at 2 a)

-- compressed type and compressed length, and the body to the end of the total, as an update's packet has them
abbrev pub with_compression : Read (List ℕ) → Read Within
with_compression (Ok v) = body_within (compression_at v.0) v.1
with_compression (Err left) = Err left

-- what is read is refused at some field
abbrev pub IsRefused : Read (List ℕ) → Type 0
IsRefused read = (left : List ℕ) × (read ≡ Err left)
