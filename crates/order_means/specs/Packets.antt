-- A host's bytes cut into whole packets of both kinds, and without those of Pointer PDUs ([RFC 1006] 6, [MS-RDPBCGR] 2.2.9.1.2). The cut doesn't look at what a
-- viewer confirmed.
use Rattle.std.specs.Prelude.{ℕ, zero, suc, ◌+◌, ◌-◌, ◌*◌, ◌==◌, nat_lt, nat_le, Bool, true, false, not, List, [], ◌∷◌, ◌++◌, filter, flat_map, if◌then◌else◌}
use Rattle.px_core.specs.Picture.{turned}
use Rattle.order_means.specs.PointerPackets.{is_pointer}

-- how far a packet has come: none has begun; of a packet with a header of four bytes these are there, the latest first; of one of the fast path its first byte
-- is there, or that and the first of two length bytes; a header is there and so many bytes are missing after the next one, and those so far stand here, the
-- latest first. Or no packet can be cut any more
pub data PacketStage : Type 0 where
  Between : PacketStage
  Head : (held : List ℕ) → PacketStage
  FastHead : PacketStage
  FastLong : (high : ℕ) → PacketStage
  Inside : (missing : ℕ) (held : List ℕ) → PacketStage
  Passing : PacketStage

-- whole packets, and how it goes on; where no packet can be cut any more, each byte stands by itself
pub record Pieces : Type 0 where
  pub pieces : List (List ℕ)
  pub next : PacketStage

abbrev pub pieces : List (List ℕ) → PacketStage → Pieces
pieces cut next = record { pieces = cut; next = next }

abbrev pub before_pieces : List (List ℕ) → Pieces → Pieces
before_pieces cut p = pieces (cut ++ p.pieces) p.next

-- the bytes of an unfinished packet
abbrev pub held_in : PacketStage → List ℕ
held_in Between = []
held_in (Head held) = turned held []
held_in FastHead = 0 ∷ []
held_in (FastLong high) = 0 ∷ high ∷ []
held_in (Inside missing held) = turned held []
held_in Passing = []

-- a first byte of 3 begins a packet, and one of 0 one of the fast path
abbrev pub first_piece : ℕ → Pieces
first_piece b = if b == 3 then pieces [] (Head (3 ∷ [])) else (if b == 0 then pieces [] FastHead else pieces ((b ∷ []) ∷ []) Passing)

-- a header is there, and so many bytes are behind it
abbrev pub piece_begun : ℕ → List ℕ → Pieces
piece_begun zero held = pieces (turned held [] ∷ []) Between
piece_begun (suc n) held = pieces [] (Inside n held)

abbrev pub piece_begun_if : Bool → ℕ → List ℕ → Pieces
piece_begun_if true n held = piece_begun n held
piece_begun_if false n held = pieces (turned held [] ∷ []) Passing

-- one more byte of a header, whose fourth byte is the length's low one; a length is at least 7
abbrev pub head_piece : List ℕ → ℕ → Pieces
head_piece (high ∷ second ∷ version ∷ []) b = piece_begun_if (nat_le 7 (256 * high + b)) ((256 * high + b) - 4) (b ∷ high ∷ second ∷ version ∷ [])
head_piece held b = pieces [] (Head (b ∷ held))

-- the pieces of one byte; a length of the fast path has one byte below 128, or two, and counts the bytes of its header
abbrev pub pieces_by : PacketStage → ℕ → Pieces
pieces_by Between b = first_piece b
pieces_by (Head held) b = head_piece held b
pieces_by FastHead b = if nat_lt b 128 then piece_begun_if (nat_le 2 b) (b - 2) (b ∷ 0 ∷ []) else pieces [] (FastLong b)
pieces_by (FastLong high) b = piece_begun_if (nat_le 3 (256 * (high - 128) + b)) ((256 * (high - 128) + b) - 3) (b ∷ high ∷ 0 ∷ [])
pieces_by (Inside zero held) b = pieces (turned held (b ∷ []) ∷ []) Between
pieces_by (Inside (suc n) held) b = pieces [] (Inside n (b ∷ held))
pieces_by Passing b = pieces ((b ∷ []) ∷ []) Passing

-- the pieces of bytes, from where a stretch before them ended
abbrev pub pieces_from : PacketStage → List ℕ → Pieces
pieces_from s [] = pieces [] s
pieces_from s (b ∷ bs) = let first = pieces_by s b in before_pieces first.pieces (pieces_from first.next bs)

-- the pieces of a host's bytes
abbrev pub pieces_in : List ℕ → Pieces
pieces_in bytes = pieces_from Between bytes

-- ---- without pointers

abbrev pub kept_piece : List ℕ → List ℕ
kept_piece piece = if is_pointer piece then [] else piece

-- the pieces that aren't packets of Pointer PDUs, joined
abbrev pub kept_pieces : List (List ℕ) → List ℕ
kept_pieces cut = flat_map kept_piece cut

-- a host's bytes without the whole packets of Pointer PDUs; an unfinished packet stays
abbrev pub without_pointers : List ℕ → List ℕ
without_pointers bytes = let cut = pieces_in bytes in kept_pieces cut.pieces ++ held_in cut.next

-- the whole packets of Pointer PDUs among a host's bytes
abbrev pub pointer_packets : List ℕ → List (List ℕ)
pointer_packets bytes = filter is_pointer (pieces_in bytes).pieces
