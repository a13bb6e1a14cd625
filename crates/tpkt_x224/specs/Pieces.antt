-- The packets of a stream that comes in pieces: for any reader of what stands at a head, and for TPKT packets.
use Rattle.std.specs.Prelude.{◌≡◌, ◌≤◌, ◌<◌, ◌↔◌, ℕ, zero, suc, List, [], ◌∷◌, ◌++◌, length, take, drop, flat_map}
use Rattle.std.specs.List.{AllByRecursion}
use Rattle.tpkt_x224.specs.declared.tpkt.Packet.{Packet}
use Rattle.tpkt_x224.specs.declared.tpkt.Packet.TheVariants.{Whole, Part, NotTpkt, BadLength}
use Rattle.tpkt_x224.specs.Tpkt.{IsPacket, packet_at}

-- ---- streams of packets of any kind

-- one of these packets stands at the head
abbrev pub StartsWith : (List ℕ → Type 0) → List ℕ → Type 0
StartsWith Is bytes = (packet : List ℕ) × (more : List ℕ) × Is packet × (bytes ≡ packet ++ more)

-- these bytes, which may be none, are one of these packets', and not all of it
abbrev pub IsPartOf : (List ℕ → Type 0) → List ℕ → Type 0
IsPartOf Is bytes = (more : List ℕ) × (0 < length more) × Is (bytes ++ more)

-- A stream is these packets and this rest: one behind the other they are the stream, and no whole packet is left in the rest.
pub record IsStreamBy (Is : List ℕ → Type 0) (bytes : List ℕ) (packets : List (List ℕ)) (rest : List ℕ) : Type 0 where
  pub joined : flat_map (λ packet. packet) packets ++ rest ≡ bytes
  pub each : AllByRecursion Is packets
  pub left : StartsWith Is rest → ⊥

-- ---- cutting, by a reader of what stands at a head

-- what cutting needs of a reader: nothing is a part of a packet; a whole packet has a byte and is there, and it stays whole whatever follows
pub record IsHeadReader (head : List ℕ → Packet) : Type 0 where
  pub nothing : head [] ≡ Part
  pub bounds : (bytes : List ℕ) (n : ℕ) → head bytes ≡ Whole n → (1 ≤ n) × (n ≤ length bytes)
  pub front : (xs ys : List ℕ) (n : ℕ) → head xs ≡ Whole n → head (xs ++ ys) ≡ Whole n

-- the reader sees a whole packet exactly where one of these stands
abbrev pub SeesWhole : (List ℕ → Packet) → (List ℕ → Type 0) → Type 0
SeesWhole head Is = (bytes : List ℕ) (n : ℕ) → (head bytes ≡ Whole n) ↔ ((n ≤ length bytes) × Is (take n bytes))

-- the whole packets of a stream so far, and the bytes after them: nothing, a part of a packet, or a fault
pub record Cut : Type 0 where
  pub packets : List (List ℕ)
  pub rest : List ℕ

abbrev pub after_packets : List (List ℕ) → Cut → Cut
after_packets earlier cut = record { packets = earlier ++ cut.packets; rest = cut.rest }

-- nothing more is cut off, or a packet is, and the bytes after it are cut on
abbrev pub cut_by : Packet → List ℕ → (List ℕ → Cut) → Cut
cut_by (Whole n) bytes on = after_packets (take n bytes ∷ []) (on (drop n bytes))
cut_by Part bytes on = record { packets = []; rest = bytes }
cut_by NotTpkt bytes on = record { packets = []; rest = bytes }
cut_by BadLength bytes on = record { packets = []; rest = bytes }

-- cutting again and again, at most n times
abbrev pub cut_with : (List ℕ → Packet) → ℕ → List ℕ → Cut
cut_with head zero bytes = record { packets = []; rest = bytes }
cut_with head (suc n) bytes = cut_by (head bytes) bytes (λ after. cut_with head n after)

-- all packets: each has a byte, so there are no more than bytes
abbrev pub packets_with : (List ℕ → Packet) → List ℕ → Cut
packets_with head bytes = cut_with head (length bytes) bytes

-- the bytes left over go before the next piece
abbrev pub pieces_with : (List ℕ → Packet) → List ℕ → List (List ℕ) → Cut
pieces_with head left [] = record { packets = []; rest = left }
pieces_with head left (piece ∷ pieces) =
    let cut = packets_with head (left ++ piece) in
    after_packets cut.packets (pieces_with head cut.rest pieces)

-- ---- TPKT packets

-- a whole packet stands at the head
abbrev pub StartsWithPacket : List ℕ → Type 0
StartsWithPacket bytes = StartsWith IsPacket bytes

-- these bytes, which may be none, are a packet's, and not all of it
abbrev pub IsPartOfPacket : List ℕ → Type 0
IsPartOfPacket bytes = IsPartOf IsPacket bytes

-- a stream is these TPKT packets and this rest
abbrev pub IsStreamOf : List ℕ → List (List ℕ) → List ℕ → Type 0
IsStreamOf bytes packets rest = IsStreamBy IsPacket bytes packets rest

abbrev pub cut_from : ℕ → List ℕ → Cut
cut_from n bytes = cut_with packet_at n bytes

abbrev pub packets_of : List ℕ → Cut
packets_of bytes = packets_with packet_at bytes

abbrev pub packets_of_pieces : List ℕ → List (List ℕ) → Cut
packets_of_pieces left pieces = pieces_with packet_at left pieces
