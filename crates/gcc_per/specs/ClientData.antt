-- The GCC Conference Create Request (T.124, 8.7; [MS-RDPBCGR] 2.2.1.3): the key of T.124, the request with its fixed
-- choices, and the client's data blocks as its user data.
use Rattle.std.specs.Prelude.{ℕ, List, [], ◌∷◌, Option, Some, None, Result, Ok, Err}
use Rattle.wire_num.specs.FieldValue.{end_at}
use Rattle.wire_num.specs.Field.{bytes_at}
use Rattle.wire_num.specs.Length.{per_len_at}
use Rattle.wire_num.specs.Layout.{Layout, Open, Bytes, Length, Packed, ◌▸◌, fields_at}
use Rattle.gcc_per.specs.declared.gcc_fault.GccFault.{GccFault}
use Rattle.gcc_per.specs.declared.gcc_fault.Cause.TheVariants.{Broken}
use Rattle.gcc_per.specs.declared.client_core.Desktop.{Desktop}
use Rattle.gcc_per.specs.declared.client_data.ClientData.{ClientData}
use Rattle.gcc_per.specs.Checked.{Checked, plain, placed_checked}
use Rattle.wire_num.specs.Caused.{then_caused, map_caused, before_caused}
use Rattle.gcc_per.specs.ClientBlocks.{blocks_at}

-- the key, object 0.0.20.124.0.1; the length of the connectPDU; conferenceCreateRequest with its conference name "1"
-- and one set of user data; the client's key "Duca"
unfoldable pub create_request : Layout
create_request =
    Bytes (0 ∷ 5 ∷ 0 ∷ 20 ∷ 124 ∷ 0 ∷ 1 ∷ [])
    ▸ Length Packed
    ▸ Bytes (0 ∷ 8 ∷ 0 ∷ 16 ∷ 0 ∷ 1 ∷ 192 ∷ 0 ∷ [])
    ▸ Bytes (68 ∷ 117 ∷ 99 ∷ 97 ∷ [])
    ▸ Open

-- the channels, 0 without CS_NET
abbrev pub channels_of : Option ℕ → ℕ
channels_of (Some channels) = channels
channels_of None = 0

-- a missing CS_CORE is refused at the end of the blocks
abbrev pub data_with : Option Desktop → Option ℕ → List ℕ → Checked ClientData
data_with (Some desktop) channels after =
    Ok (record { channels = channels_of channels; asked_width = desktop.width; asked_height = desktop.height; build = desktop.build; depth = desktop.depth }, after)
data_with None channels after = Err (Broken, after)

-- the client's data blocks, all of the bytes
unfoldable pub client_blocks_at : List ℕ → Checked ClientData
client_blocks_at bs = then_caused (blocks_at bs) (λ found after. data_with found.desktop found.channels after)

-- the blocks in exactly so many bytes, and nothing after them
unfoldable pub user_data_at : List ℕ → Checked ClientData
user_data_at bs =
    then_caused (plain (per_len_at bs)) (λ n more.
    then_caused (plain (bytes_at n more)) (λ content after.
    then_caused (before_caused after (client_blocks_at content)) (λ client end.
    map_caused (λ _. client) (plain (end_at end)))))

-- the fields before the user data, and these
unfoldable pub client_data_at : List ℕ → Checked ClientData
client_data_at bs = then_caused (plain (fields_at create_request bs)) (λ _ more. user_data_at more)

-- what the user data of a Connect-Initial say
abbrev pub client_data_of : List ℕ → Result ClientData GccFault
client_data_of bs = placed_checked bs (client_data_at bs)
