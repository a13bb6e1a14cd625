use Rattle.std.proofs.Common.{◌≡◌, ◌+◌, ◌-◌, ◌/◌, ◌<◌, ◌≤◌, ℕ, length, subst, arith}
use Rattle.session_rules.specs.Pending.{pending_between}
use Rattle.frame_plan.proofs.Pendings.{pending_count, quiet_between}
use Rattle.frame_plan.proofs.quiet.quiet_end.Goals as goal

pub loop-quiet-preserved : goal.loop-quiet-preserved
loop-quiet-preserved c = let size = c.args.session.now.head.size in let j = c.args.session.now.journal in let from = c.args.from in
    let quiet = c.loop-quiet.quiet in let end = c.loop-quiet.end in
    let middle : ℕ = end - (end - quiet) / 2 in
    let past : quiet + 1 ≤ middle = omega (arith, c.loop-quiet-test.true) in
    let behind : from ≤ middle = omega (arith, past, c.loop-quiet.invariant.above) in
    let more : length (pending_between size j 0 from) < length (pending_between size j 0 middle)
    = omega (arith, pending_count size j from middle behind, c.drawings_before.ensures, c.drawings_before-count.ensures, c.if-drawings_before-count.false) in
    record {
      above = c.loop-quiet.invariant.above;
      apart = omega (arith, past);
      within = omega (arith, c.loop-quiet.invariant.within);
      same = c.loop-quiet.invariant.same;
      drew = λ _. subst (λ (n : ℕ). length (pending_between size j 0 from) < length (pending_between size j 0 n)) (omega (arith, past)) more;
    }

pub returns-clause-quiet : goal.returns-clause-quiet
returns-clause-quiet c = quiet_between c.args.session.now.head.size c.args.session.now.journal c.args.from c.loop-quiet.quiet c.loop-quiet.invariant.above c.loop-quiet.invariant.same

pub returns-clause-drew : goal.returns-clause-drew
returns-clause-drew c = let size = c.args.session.now.head.size in let j = c.args.session.now.journal in let quiet = c.loop-quiet.quiet in let end = c.loop-quiet.end in λ inside.
    let ends : end ≡ quiet = omega (arith, c.loop-quiet.invariant.apart, c.loop-quiet-test.false) in
    let more : length (pending_between size j 0 c.args.from) < length (pending_between size j 0 (quiet + 1))
    = subst (λ (n : ℕ). length (pending_between size j 0 c.args.from) < length (pending_between size j 0 (n + 1))) ends (c.loop-quiet.invariant.drew (omega (arith, ends, inside))) in
    omega (arith, more, pending_count size j quiet (quiet + 1) (omega arith), c.loop-quiet.invariant.same)
