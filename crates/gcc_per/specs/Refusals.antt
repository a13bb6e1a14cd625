-- What stands where client data are refused for a depth or for too many channels.
use Rattle.std.specs.Prelude.{◌≡◌, ◌<◌, ℕ, ◌+◌, None, List, [], ◌++◌, length, flat_map}
use Rattle.std.specs.List.{AllByRecursion}
use Rattle.byteorder.specs.Endian.{little_number}
use Rattle.wire_num.specs.Grammar.{IsText, IsPacked}
use Rattle.gcc_per.specs.declared.client_blocks.BlockKind.TheVariants.{ClientCore, ClientNetwork}
use Rattle.gcc_per.specs.ClientCore.{desktop_of}
use Rattle.gcc_per.specs.ClientData.{create_request}
use Rattle.gcc_per.specs.Grammar.{Block, block_bytes, kind_in, IsBlock}

-- At a place in the bytes this block stands: before it the fields before the user data, a count, and whole blocks; behind it
-- any bytes.
pub record BlockStandsAt (bytes : List ℕ) (place : ℕ) (block : Block) : Type 0 where
  pub count : List ℕ
  pub counted : ℕ
  pub blocks : List Block
  pub after : List ℕ
  pub request : IsText create_request bytes [] (count ++ (flat_map block_bytes blocks ++ (block_bytes block ++ after)))
  pub packed : IsPacked count counted
  pub each : AllByRecursion IsBlock blocks
  pub is : IsBlock block
  pub here : place + length (block_bytes block ++ after) ≡ length bytes

-- a CS_CORE, which offers neither 24 nor 16 bits for each pixel
abbrev pub CoreWithoutDepth : List ℕ → ℕ → Type 0
CoreWithoutDepth bytes place =
    (block : Block) × BlockStandsAt bytes place block × (kind_in block ≡ ClientCore) × (desktop_of block.content ≡ None)

-- the channelCount of a CS_NET, which is above 31
abbrev pub CrowdedNetwork : List ℕ → ℕ → Type 0
CrowdedNetwork bytes place =
    (block : Block) × (start : ℕ) × (count : List ℕ) × (more : List ℕ) × BlockStandsAt bytes start block × (kind_in block ≡ ClientNetwork)
    × (block.content ≡ count ++ more) × (length count ≡ 4) × (31 < little_number 4 count) × (place ≡ start + 4)
