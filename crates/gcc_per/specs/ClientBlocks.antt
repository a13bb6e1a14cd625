-- The client's data blocks ([MS-RDPBCGR] 2.2.1.3.1), each a header and its content.
use Rattle.std.specs.Prelude.{ℕ, zero, suc, ◌+◌, ◌-◌, ◌==◌, nat_le, Bool, true, ◌&&◌, List, [], ◌∷◌, length, Option, Some, None, is_none, Ok, Err}
use Rattle.std.specs.Prelude.{if◌then◌else◌}
use Rattle.wire_num.specs.FieldValue.{passing_at}
use Rattle.wire_num.specs.Field.{Read, then_read, map_read, bytes_at}
use Rattle.wire_num.specs.Number.{little_at}
use Rattle.gcc_per.specs.declared.gcc_fault.Cause.TheVariants.{NoDepth}
use Rattle.gcc_per.specs.declared.client_core.Desktop.{Desktop}
use Rattle.gcc_per.specs.declared.client_blocks.BlockKind.{BlockKind}
use Rattle.gcc_per.specs.declared.client_blocks.BlockKind.TheVariants.{ClientCore, ClientNetwork, Other}
use Rattle.gcc_per.specs.declared.client_blocks.ClientBlocks.{ClientBlocks}
use Rattle.gcc_per.specs.Checked.{Checked, plain}
use Rattle.wire_num.specs.Caused.{then_caused, map_caused, before_caused}
use Rattle.gcc_per.specs.ClientCore.{desktop_of}
use Rattle.gcc_per.specs.ClientNetwork.{channels_at}

-- CS_CORE is C001, CS_NET is C003
abbrev pub kind_of : ℕ → BlockKind
kind_of type = if type == 49153 then ClientCore else (if type == 49155 then ClientNetwork else Other)

-- the least length of a block: its header, and of CS_CORE all fields that aren't optional
abbrev pub least_length : BlockKind → ℕ
least_length ClientCore = 132
least_length ClientNetwork = 4
least_length Other = 4

-- CS_CORE and CS_NET may stand once
abbrev pub is_new : ClientBlocks → BlockKind → Bool
is_new found ClientCore = is_none found.desktop
is_new found ClientNetwork = is_none found.channels
is_new found Other = true

-- type
unfoldable pub kind_at : ClientBlocks → List ℕ → Read BlockKind
kind_at found bs = map_read kind_of (passing_at (λ type. is_new found (kind_of type)) (little_at 2) bs)

-- length, with the header's four bytes: at least the least one, and not past the end
unfoldable pub length_at : BlockKind → List ℕ → Read ℕ
length_at kind bs =
    then_read (little_at 2 bs) (λ n more.
    if nat_le (least_length kind) n && nat_le n (4 + length more) then Ok (n, more) else Err bs)

-- the same, with what a CS_CORE or a CS_NET says
abbrev pub with_desktop : ClientBlocks → Desktop → ClientBlocks
with_desktop found desktop = record { desktop = Some desktop; channels = found.channels }

abbrev pub with_channels : ClientBlocks → ℕ → ClientBlocks
with_channels found channels = record { desktop = found.desktop; channels = Some channels }

-- what is found with a block: a CS_CORE that offers neither 24 nor 16 bits for each pixel is refused at its first byte
abbrev pub with_core : ClientBlocks → List ℕ → List ℕ → Option Desktop → Checked ClientBlocks
with_core found bs after (Some desktop) = Ok (with_desktop found desktop, after)
with_core found bs after None = Err (NoDepth, bs)

-- what is found with a block that begins with bs, by its content and the bytes after it
abbrev pub with_block : BlockKind → ClientBlocks → List ℕ → List ℕ → List ℕ → Checked ClientBlocks
with_block ClientCore found bs content after = with_core found bs after (desktop_of content)
with_block ClientNetwork found bs content after = map_caused (with_channels found) (before_caused after (channels_at content))
with_block Other found bs content after = Ok (found, after)

-- type; length; content
unfoldable pub block_at : ClientBlocks → List ℕ → Checked ClientBlocks
block_at found bs =
    then_caused (plain (kind_at found bs)) (λ kind sized.
    then_caused (plain (length_at kind sized)) (λ n more.
    then_caused (plain (bytes_at (n - 4) more)) (λ content after.
    with_block kind found bs content after)))

-- blocks to the end, in any order, at most so many
abbrev pub blocks_from : ℕ → ClientBlocks → List ℕ → Checked ClientBlocks
blocks_from n found [] = Ok (found, [])
blocks_from zero found (b ∷ bs) = Ok (found, b ∷ bs)
blocks_from (suc n) found (b ∷ bs) = then_caused (block_at found (b ∷ bs)) (λ more after. blocks_from n more after)

-- before the first block
abbrev pub no_blocks : ClientBlocks
no_blocks = record { desktop = None; channels = None }

-- each block has a byte or more
unfoldable pub blocks_at : List ℕ → Checked ClientBlocks
blocks_at bs = blocks_from (length bs) no_blocks bs
