-- What client data are, apart from reading: which bytes stand there, and what they say.
use Rattle.std.specs.Prelude.{◌≡◌, ◌≤◌, ℕ, ◌+◌, Bool, true, false, Some, List, [], ◌∷◌, ◌++◌, length, filter, flat_map}
use Rattle.std.specs.List.{AllByRecursion}
use Rattle.byteorder.specs.Endian.{little_number}
use Rattle.wire_num.specs.Grammar.{IsText, IsPacked}
use Rattle.gcc_per.specs.declared.client_core.Desktop.{Desktop}
use Rattle.gcc_per.specs.declared.client_blocks.BlockKind.{BlockKind}
use Rattle.gcc_per.specs.declared.client_blocks.BlockKind.TheVariants.{ClientCore, ClientNetwork, Other}
use Rattle.gcc_per.specs.declared.client_data.ClientData.{ClientData}
use Rattle.gcc_per.specs.ClientCore.{desktop_of}
use Rattle.gcc_per.specs.ClientNetwork.{channel_definitions}
use Rattle.gcc_per.specs.ClientBlocks.{kind_of, least_length}
use Rattle.gcc_per.specs.ClientData.{create_request}

-- a data block: the bytes of its type, of its length, and its content
pub record Block : Type 0 where
  pub type : List ℕ
  pub size : List ℕ
  pub content : List ℕ

-- all its bytes
abbrev pub block_bytes : Block → List ℕ
block_bytes block = block.type ++ (block.size ++ block.content)

-- its kind, by its type
abbrev pub kind_in : Block → BlockKind
kind_in block = kind_of (little_number 2 block.type)

-- two bytes of type and two of length, which counts these and the content and isn't below the least one of its kind
abbrev pub IsBlock : Block → Type 0
IsBlock block =
    (length block.type ≡ 2) × (length block.size ≡ 2) × (little_number 2 block.size ≡ 4 + length block.content)
    × (least_length (kind_in block) ≤ 4 + length block.content)

-- whether a block of this kind is a CS_CORE, or a CS_NET
abbrev pub is_core : BlockKind → Bool
is_core ClientCore = true
is_core ClientNetwork = false
is_core Other = false

abbrev pub is_network : BlockKind → Bool
is_network ClientCore = false
is_network ClientNetwork = true
is_network Other = false

-- the blocks that are
abbrev pub core_blocks : List Block → List Block
core_blocks blocks = filter (λ block. is_core (kind_in block)) blocks

abbrev pub network_blocks : List Block → List Block
network_blocks blocks = filter (λ block. is_network (kind_in block)) blocks

-- the content of a CS_NET: a count, at most 31, and so many channels; any bytes may follow
abbrev pub HasChannels : List ℕ → ℕ → Type 0
HasChannels content channels =
    (count : List ℕ) × (definitions : List ℕ) × (left : List ℕ) × (length count ≡ 4) × (little_number 4 count ≡ channels)
    × (channels ≤ 31) × (content ≡ count ++ definitions) × IsText (channel_definitions channels) definitions [] left

-- one CS_CORE, which offers 24 or 16 bits for each pixel
abbrev pub IsCore : List Block → Desktop → Type 0
IsCore [] desktop = ⊥
IsCore (block ∷ []) desktop = desktop_of block.content ≡ Some desktop
IsCore (block ∷ other ∷ blocks) desktop = ⊥

-- at most one CS_NET; without it there are no channels
abbrev pub IsNetwork : List Block → ℕ → Type 0
IsNetwork [] channels = channels ≡ 0
IsNetwork (block ∷ []) channels = HasChannels block.content channels
IsNetwork (block ∷ other ∷ blocks) channels = ⊥

-- the bytes are a request with these client data: the fields before the user data, these bytes' count, and blocks
pub record IsRequest (bytes : List ℕ) (client : ClientData) : Type 0 where
  pub count : List ℕ
  pub blocks : List Block
  pub request : IsText create_request bytes [] (count ++ flat_map block_bytes blocks)
  pub counted : IsPacked count (length (flat_map block_bytes blocks))
  pub each : AllByRecursion IsBlock blocks
  pub core : IsCore (core_blocks blocks) (record { width = client.asked_width; height = client.asked_height; build = client.build; depth = client.depth })
  pub network : IsNetwork (network_blocks blocks) client.channels
