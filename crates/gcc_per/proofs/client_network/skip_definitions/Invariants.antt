use Rattle.std.proofs.Common.{◌≡◌, ◌-◌}
use Rattle.wire_num.specs.Layout.{fields_at}
use Rattle.wire_num.specs.Cursor.{rest}
use Rattle.gcc_per.specs.ClientNetwork.{channel_definitions}
use Rattle.gcc_per.proofs.client_network.skip_definitions.Given as goal

-- the channels that are left stand here
abbrev pub invariant-loop : goal.invariant-loop
invariant-loop l =
    (fields_at (channel_definitions (l.count - l.counter)) (rest l.cursor) ≡ fields_at (channel_definitions l.count) (rest l.fn.cursor))
    × (l.cursor.bytes ≡ l.fn.cursor.bytes)
