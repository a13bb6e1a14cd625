use Rattle.viewer_wire.proofs.demand.read_later_rows.Goals as goal

pub returns : goal.returns
returns c = c.expect_each.ensures
