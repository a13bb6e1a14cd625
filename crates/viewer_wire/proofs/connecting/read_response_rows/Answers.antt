use Rattle.viewer_wire.proofs.connecting.read_response_rows.Goals as goal

pub returns : goal.returns
returns c = c.expect_each.ensures
