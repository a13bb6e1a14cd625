-- How a sieve holds an unfinished packet, and what comes behind it.
use Rattle.std.specs.Prelude.{◌≡◌, ◌≤◌, ℕ, ◌+◌, nat_lt, false, List, [], ◌∷◌, ◌++◌, length, ⊤}
use Rattle.order_means.specs.Updates.{turned}
use Rattle.order_means.specs.Packets.{PacketStage, Pieces, pieces, pieces_from, kept_pieces}
use Rattle.order_means.specs.Packets.PacketStage.{Between, Head, FastHead, FastLong, Inside, Passing}
use Rattle.update_read.specs.declared.reach.Reach.{Reach}
use Rattle.update_read.specs.declared.reach.Reach.TheVariants as reach

-- the first byte of a packet of the fast path is there, or that and the first of two length bytes
abbrev pub fast_packet : List ℕ → PacketStage
fast_packet [] = FastHead
fast_packet (v ∷ []) = FastHead
fast_packet (v ∷ high ∷ bs) = FastLong high

-- how far a packet has come of which these bytes are held
abbrev pub packet_stage : Reach → List ℕ → PacketStage
packet_stage reach.Between held = Between
packet_stage reach.Head held = Head (turned held [])
packet_stage reach.Fast held = fast_packet held
packet_stage (reach.Inside missing) held = Inside missing (turned held [])
packet_stage reach.Passing held = Passing

abbrev pub IsFastHeld : List ℕ → Type 0
IsFastHeld [] = ⊥
IsFastHeld (v ∷ []) = v ≡ 0
IsFastHeld (v ∷ high ∷ []) = (v ≡ 0) × (nat_lt high 128 ≡ false)
IsFastHeld (v ∷ high ∷ low ∷ bs) = ⊥

-- the bytes that may be held then, of a packet of at most 65,535
abbrev pub IsHeld : Reach → List ℕ → Type 0
IsHeld reach.Between held = held ≡ []
IsHeld reach.Head held = length held ≤ 3
IsHeld reach.Fast held = IsFastHeld held
IsHeld (reach.Inside missing) held = (length held + 1) + missing ≤ 65535
IsHeld reach.Passing held = held ≡ []

-- these bytes are a piece, or they are held
abbrev pub told_pieces : Reach → List ℕ → Pieces
told_pieces reach.Between held = pieces (held ∷ []) Between
told_pieces reach.Head held = pieces [] (Head (turned held []))
told_pieces reach.Fast held = pieces [] (fast_packet held)
told_pieces (reach.Inside missing) held = pieces [] (Inside missing (turned held []))
told_pieces reach.Passing held = pieces (held ∷ []) Passing

-- and they may be
abbrev pub MayBeHeld : Reach → List ℕ → Type 0
MayBeHeld reach.Between held = ⊤
MayBeHeld reach.Head held = length held ≤ 3
MayBeHeld reach.Fast held = IsFastHeld held
MayBeHeld (reach.Inside missing) held = (length held + 1) + missing ≤ 65535
MayBeHeld reach.Passing held = ⊤

-- these pieces are those of held bytes that have come so far
pub record Comes (p : Pieces) (reached : Reach) (held : List ℕ) : Type 0 where
  pub told : p ≡ told_pieces reached held
  pub may : MayBeHeld reached held

-- of these bytes, behind those from which a sieve held some, it handed on those of the whole packets that aren't of pointers
pub record Sieves (bytes : List ℕ) (old new : PacketStage) (before after : List ℕ) : Type 0 where
  pub handed : after ≡ before ++ kept_pieces (pieces_from old bytes).pieces
  pub stage : new ≡ (pieces_from old bytes).next
