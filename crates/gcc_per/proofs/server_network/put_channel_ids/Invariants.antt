use Rattle.gcc_per.proofs.ChannelIds.{Written}
use Rattle.gcc_per.proofs.server_network.put_channel_ids.Given as goal

abbrev pub invariant-loop-channel : goal.invariant-loop-channel
invariant-loop-channel l = Written l.channels l.channel l.fn.out.items l.out.items
