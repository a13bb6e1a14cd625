use Rattle.std.proofs.Common.{◌∙◌, arith}
use Rattle.std.proofs.lemmas.Grind.{common_steps}
use Rattle.wire_num.specs.Cursor.{rest}
use Rattle.caps_sets.proofs.Sets.{one_set, no_set}
use Rattle.caps_sets.proofs.confirm_active.read_sets.Goals as goal

pub loop-preserved : goal.loop-preserved
loop-preserved c =
    let read = c.in_ok-sets.ensures in
    (one_set c.args.count c.loop.counter _ _ _ _ c.loop-test.true read.0 ∙ c.loop.invariant.0, read.1 ∙ c.loop.invariant.1)

pub returns-in_err-sets : goal.returns-in_err-sets
returns-in_err-sets c =
    let missing = no_set c.args.count c.loop.counter c.loop.sets (rest c.loop.cursor) (rest c.read_set.new.cursor) c.loop-test.true c.in_err-sets.ensures.0 in
    grind (arith, common_steps, missing)
