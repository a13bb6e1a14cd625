-- Client Network Data ([MS-RDPBCGR] 2.2.1.3.4), behind the header.
use Rattle.std.specs.Prelude.{ℕ, zero, suc, nat_le, List, Ok, Err, if◌then◌else◌}
use Rattle.wire_num.specs.Number.{little_at}
use Rattle.wire_num.specs.Layout.{Layout, Open, Any, ◌▸◌, fields_at}
use Rattle.gcc_per.specs.Checked.{Checked, plain}
use Rattle.wire_num.specs.Caused.{then_caused, map_caused}
use Rattle.gcc_per.specs.declared.gcc_fault.Cause.TheVariants.{Crowded}

-- so many channels of twelve bytes; what follows them isn't read
abbrev pub channel_definitions : ℕ → Layout
channel_definitions zero = Open
channel_definitions (suc n) =
    Any 12
    ▸ channel_definitions n

-- channelCount, at most 31
unfoldable pub channel_count_at : List ℕ → Checked ℕ
channel_count_at bs =
    then_caused (plain (little_at 4 bs)) (λ count more. if nat_le count 31 then Ok (count, more) else Err (Crowded, bs))

-- channelCount; channelDefArray
unfoldable pub channels_at : List ℕ → Checked ℕ
channels_at bs =
    then_caused (channel_count_at bs) (λ count more. map_caused (λ _. count) (plain (fields_at (channel_definitions count) more)))
