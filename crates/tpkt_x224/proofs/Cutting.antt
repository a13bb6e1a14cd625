-- The packets of a stream of TPKT packets in any pieces.
use Rattle.std.proofs.Common.{◌≡◌, ℕ, ◌≤◌, List, [], ◌∷◌, ◌++◌, length, take, drop, refl, arith}
use Rattle.std.specs.Prelude.{flat_map}
use Rattle.tpkt_x224.specs.declared.tpkt.Packet.TheVariants.{Whole}
use Rattle.tpkt_x224.specs.Tpkt.{packet_at}
use Rattle.tpkt_x224.specs.Pieces.{IsHeadReader, Cut, after_packets, cut_by, cut_from, packets_of, packets_of_pieces}
use Rattle.tpkt_x224.proofs.Heads.{whole_front, whole_bounds}
use Rattle.tpkt_x224.proofs.AnyCutting as any

tpkt_bounds : (bytes : List ℕ) (n : ℕ) → packet_at bytes ≡ Whole n → (1 ≤ n) × (n ≤ length bytes)
tpkt_bounds bytes n e =
    let f = whole_bounds bytes n e in
    let least = f.0 in
    (omega (arith, least), f.1)

pub reads_tpkt : IsHeadReader packet_at
reads_tpkt = record { nothing = refl; bounds = tpkt_bounds; front = whole_front }

-- nothing was cut off
abbrev pub uncut : List ℕ → Cut
uncut bytes = any.uncut bytes

-- one packet, and nothing behind it
abbrev pub one_packet : List ℕ → Cut
one_packet bytes = any.one_packet bytes

pub once : (bytes : List ℕ) → packets_of bytes ≡ cut_by (packet_at bytes) bytes (λ after. cut_from (length bytes) after)
once = any.once packet_at reads_tpkt

pub whole_is_cut : (bytes : List ℕ) (n : ℕ) → packet_at bytes ≡ Whole n → packets_of bytes ≡ after_packets (take n bytes ∷ []) (packets_of (drop n bytes))
whole_is_cut = any.whole_is_cut packet_at reads_tpkt

pub one_cut : (bytes : List ℕ) (n : ℕ) → packet_at bytes ≡ Whole n → n ≡ length bytes → packets_of bytes ≡ one_packet bytes
one_cut = any.one_cut packet_at reads_tpkt

-- two pieces
pub joined : (xs ys : List ℕ) → packets_of (xs ++ ys) ≡ after_packets (packets_of xs).packets (packets_of ((packets_of xs).rest ++ ys))
joined = any.joined packet_at reads_tpkt

-- nothing can be cut off what is left
pub rest_is_uncut : (bytes : List ℕ) → packets_of (packets_of bytes).rest ≡ uncut (packets_of bytes).rest
rest_is_uncut = any.rest_is_uncut packet_at reads_tpkt

-- any pieces, behind what is left of earlier ones
pub pieces_joined : (left : List ℕ) (pieces : List (List ℕ)) → packets_of left ≡ uncut left → packets_of_pieces left pieces ≡ packets_of (left ++ flat_map (λ piece. piece) pieces)
pieces_joined = any.pieces_joined packet_at reads_tpkt
