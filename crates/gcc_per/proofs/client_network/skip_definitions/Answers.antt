use Rattle.std.proofs.Common.{◌∙◌, arith}
use Rattle.std.proofs.lemmas.Grind.{common_steps}
use Rattle.wire_num.specs.Cursor.{rest}
use Rattle.gcc_per.proofs.Channels.{one_channel, no_channel}
use Rattle.gcc_per.proofs.client_network.skip_definitions.Goals as goal

pub loop-preserved : goal.loop-preserved
loop-preserved c =
    let read = c.in_ok-bytes.ensures in
    (one_channel c.args.count c.loop.counter _ _ _ c.loop-test.true read.0 ∙ c.loop.invariant.0, read.1 ∙ c.loop.invariant.1)

pub returns-in_err-bytes : goal.returns-in_err-bytes
returns-in_err-bytes c =
    let bs = rest c.loop.cursor in
    let missing = no_channel c.args.count c.loop.counter bs bs c.loop-test.true c.in_err-bytes.ensures.0 in
    grind (arith, common_steps, missing)
