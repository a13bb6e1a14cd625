use Rattle.std.proofs.Common.{arith}
use Rattle.std.proofs.lemmas.Grind.{common_steps}
use Rattle.order_fields.specs.Kept.{edges_in}
use Rattle.order_read.proofs.BoundEdges.{no_edges, new_edges}
use Rattle.order_read.proofs.edges.read_bounds.Goals as goal

pub returns-in_err-new-clause-read : goal.returns-in_err-new-clause-read
returns-in_err-new-clause-read c =
    let e = no_edges (edges_in c.args.old) _ _ _ _ c.in_ok-flags.ensures.0 c.in_err-new.ensures.read.0 in
    grind (arith, common_steps, e)

pub returns-clause-read : goal.returns-clause-read
returns-clause-read c =
    let e = new_edges (edges_in c.args.old) _ _ _ _ _ c.in_ok-flags.ensures.0 c.in_ok-new.ensures.read.0 in
    grind (arith, common_steps, e)
