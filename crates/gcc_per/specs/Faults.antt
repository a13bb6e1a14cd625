-- Which fault client data have, apart from reading: all before its place is the front of a request without a fault, and then
-- exactly this fault stands there.
use Rattle.std.specs.Prelude.{◌≡◌, ◌≤◌, ◌<◌, ◌⊎◌, ℕ, ◌+◌, None, List, [], ◌++◌, length, flat_map}
use Rattle.std.specs.List.{AllByRecursion}
use Rattle.byteorder.specs.Endian.{little_number}
use Rattle.wire_num.specs.FieldValue.{is_any}
use Rattle.wire_num.specs.Layout.{Layout, Open, Counted, Packed, ◌▸◌}
use Rattle.wire_num.specs.Grammar.{IsText, IsPacked}
use Rattle.wire_num.specs.Refusal.{Missing, IsRefusedAt}
use Rattle.gcc_per.specs.declared.client_core.Desktop.{Desktop}
use Rattle.gcc_per.specs.declared.client_blocks.BlockKind.{BlockKind}
use Rattle.gcc_per.specs.declared.client_blocks.BlockKind.TheVariants.{ClientCore, ClientNetwork, Other}
use Rattle.gcc_per.specs.declared.gcc_fault.GccFault.{GccFault}
use Rattle.gcc_per.specs.declared.gcc_fault.GccFault.TheVariants.{BadGcc, DepthNotOffered, TooManyChannels}
use Rattle.gcc_per.specs.declared.gcc_fault.Cause.{Cause}
use Rattle.gcc_per.specs.declared.gcc_fault.Cause.TheVariants.{Broken, NoDepth, Crowded}
use Rattle.gcc_per.specs.ClientCore.{desktop_of}
use Rattle.gcc_per.specs.ClientNetwork.{channel_definitions}
use Rattle.gcc_per.specs.ClientBlocks.{kind_of, least_length}
use Rattle.gcc_per.specs.ClientData.{create_request}
use Rattle.gcc_per.specs.Grammar.{Block, block_bytes, kind_in, IsBlock, core_blocks, network_blocks, IsCore, IsNetwork}

-- ---- in a block; left are the bytes from the place on

-- the type and the length of a block, by the kinds that may stand there, and with the bytes behind them
abbrev pub IsType : (BlockKind → Type 0) → List ℕ → List ℕ → Type 0
IsType MayStand text more = (length text ≡ 2) × MayStand (kind_of (little_number 2 text))

abbrev pub IsSize : BlockKind → List ℕ → List ℕ → Type 0
IsSize kind text more =
    (length text ≡ 2) × (least_length kind ≤ little_number 2 text) × (little_number 2 text ≤ 4 + length more)

-- The type isn't there, or is that of a block that may not stand there; or the length isn't there, is below the least one or
-- goes past the end.
abbrev pub HasBadHeader : (BlockKind → Type 0) → List ℕ → List ℕ → Type 0
HasBadHeader MayStand bytes left =
    Missing (IsType MayStand) bytes left
    ⊎ ((type : List ℕ) × (sized : List ℕ) × (bytes ≡ type ++ sized) × IsType MayStand type sized
    × Missing (IsSize (kind_of (little_number 2 type))) sized left)

-- The count of a CS_NET isn't there, or one of its channels; or the count is above 31.
abbrev pub HasNetworkFault : Cause → List ℕ → List ℕ → Type 0
HasNetworkFault cause content left =
    ((cause ≡ Broken) × Missing (λ text more. length text ≡ 4) content left)
    ⊎ (((cause ≡ Broken) × (count : List ℕ) × (definitions : List ℕ) × (length count ≡ 4) × (little_number 4 count ≤ 31)
    × (content ≡ count ++ definitions) × IsRefusedAt (channel_definitions (little_number 4 count)) definitions left)
    ⊎ ((cause ≡ Crowded) × (count : List ℕ) × (definitions : List ℕ) × (length count ≡ 4) × (31 < little_number 4 count)
    × (content ≡ count ++ definitions) × (left ≡ content)))

-- the bytes begin with this whole block of this kind, which may stand there
pub record BeginsWith (MayStand : BlockKind → Type 0) (kind : BlockKind) (bytes : List ℕ) (block : Block) (behind : List ℕ) : Type 0 where
  pub whole : bytes ≡ block_bytes block ++ behind
  pub is : IsBlock block
  pub kind_is : kind_in block ≡ kind
  pub may : MayStand kind

-- the header of the first block is bad; or it is a CS_CORE that offers neither 24 nor 16 bits; or a CS_NET with a fault in it
abbrev pub HasBlockFault : (BlockKind → Type 0) → Cause → List ℕ → List ℕ → Type 0
HasBlockFault MayStand cause bytes left =
    ((cause ≡ Broken) × HasBadHeader MayStand bytes left)
    ⊎ (((cause ≡ NoDepth) × (block : Block) × (behind : List ℕ) × BeginsWith MayStand ClientCore bytes block behind
    × (desktop_of block.content ≡ None) × (left ≡ bytes))
    ⊎ ((block : Block) × (behind : List ℕ) × (place : List ℕ) × BeginsWith MayStand ClientNetwork bytes block behind
    × HasNetworkFault cause block.content place × (left ≡ place ++ behind)))

-- ---- among the blocks

-- behind these blocks no second CS_CORE and no second CS_NET
abbrev pub MayFollow : List Block → BlockKind → Type 0
MayFollow blocks ClientCore = core_blocks blocks ≡ []
MayFollow blocks ClientNetwork = network_blocks blocks ≡ []
MayFollow blocks Other = Unit {0}

-- User data up to a place among their blocks: a count of bytes that are there, and in these first whole blocks without a
-- fault, at most one CS_CORE and one CS_NET; then the rest of the counted bytes, and those after them.
pub record IsFront (user : List ℕ) (blocks : List Block) (rest after : List ℕ) : Type 0 where
  pub count : List ℕ
  pub whole : user ≡ count ++ ((flat_map block_bytes blocks ++ rest) ++ after)
  pub counted : IsPacked count (length (flat_map block_bytes blocks ++ rest))
  pub each : AllByRecursion IsBlock blocks
  pub core : (core_blocks blocks ≡ []) ⊎ ((desktop : Desktop) × IsCore (core_blocks blocks) desktop)
  pub network : (channels : ℕ) × IsNetwork (network_blocks blocks) channels

-- user data: a count, and so many bytes of any value
abbrev pub counted_bytes : Layout
counted_bytes =
    Counted Packed is_any
    ▸ Open

-- So many bytes as are counted aren't there; or behind all blocks there was no CS_CORE, or bytes are left over.
abbrev pub HasBadFrame : List ℕ → List ℕ → Type 0
HasBadFrame user left =
    IsRefusedAt counted_bytes user left
    ⊎ (((blocks : List Block) × IsFront user blocks [] left × (core_blocks blocks ≡ []))
    ⊎ ((blocks : List Block) × (desktop : Desktop) × IsFront user blocks [] left × IsCore (core_blocks blocks) desktop × (0 < length left)))

-- the first fault in user data
abbrev pub HasUserFault : List ℕ → Cause → List ℕ → Type 0
HasUserFault user cause left =
    ((cause ≡ Broken) × HasBadFrame user left)
    ⊎ ((blocks : List Block) × (rest : List ℕ) × (after : List ℕ) × (place : List ℕ) × IsFront user blocks rest after
    × (0 < length rest) × HasBlockFault (MayFollow blocks) cause rest place × (left ≡ place ++ after))

-- the first fault in a request, its cause, and the bytes from its place on
abbrev pub HasFault : List ℕ → Cause → List ℕ → Type 0
HasFault bytes cause left =
    ((cause ≡ Broken) × IsRefusedAt create_request bytes left)
    ⊎ ((user : List ℕ) × IsText create_request bytes [] user × HasUserFault user cause left)

-- ---- as it is answered

-- the first fault has this cause and this place
pub record FaultStandsAt (bytes : List ℕ) (cause : Cause) (at : ℕ) : Type 0 where
  pub front : List ℕ
  pub left : List ℕ
  pub whole : bytes ≡ front ++ left
  pub place : length front ≡ at
  pub fault : HasFault bytes cause left

-- the first fault is the one that is told
abbrev pub IsFirstFault : List ℕ → GccFault → Type 0
IsFirstFault bytes (BadGcc at) = FaultStandsAt bytes Broken at
IsFirstFault bytes (DepthNotOffered at) = FaultStandsAt bytes NoDepth at
IsFirstFault bytes (TooManyChannels at) = FaultStandsAt bytes Crowded at
