use Rattle.std.proofs.Common.{subst, ℕ}
use Rattle.wire_num.specs.Cursor.{ReadsRows}
use Rattle.viewer_rules.specs.HostAnswers.{demand_rows}
use Rattle.viewer_wire.proofs.demand.read_demand_rows.Goals as goal

pub returns : goal.returns
returns c = subst (λ (bits : ℕ). ReadsRows (demand_rows bits) c.expect_each.result c.args.cursor.now c.expect_each.new.cursor) c.bits_in.ensures c.expect_each.ensures
