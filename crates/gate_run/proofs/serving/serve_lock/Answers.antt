use Rattle.std.proofs.Common.{map, ap}
use Rattle.gate_run.specs.Gates.{gate_state}
use Rattle.edge_io.specs.Outside.{outside_given, outside_spent}
use Rattle.gate_run.proofs.Opened.{behind_opened, behind_shut}
use Rattle.gate_run.proofs.serving.serve_lock.Goals as goal

pub returns-then-listen-clause-links : goal.returns-then-listen-clause-links
returns-then-listen-clause-links g c =
    let state = gate_state g.G.Gate g.G.Link.Link in let listen = c.listen.ensures in let met = c.serve_links.result in let lock = c.args.lock.now in
    behind_opened lock.head lock.first c.args.port c.args.links (state c.args.gate.now) (state c.listen.new.self) (state c.serve_links.new.gate) met.pass met.reports.items met.end
    c.requires.ended
    (record {
      given = ap (map (outside_given g.G.Link.Link)) listen.given;
      finished = ap (map (outside_spent g.G.Link.Link)) listen.finished;
      asked = c.if-listen.ensures.asked;
      ended = listen.ended;
      faults = c.if-listen.ensures.cause;
    })
    c.serve_links.ensures.links

pub returns-clause-links : goal.returns-clause-links
returns-clause-links g c =
    let state = gate_state g.G.Gate g.G.Link.Link in let listen = c.listen.ensures in let lock = c.args.lock.now in
    behind_shut lock.head lock.first c.args.port c.args.links (state c.args.gate.now) (state c.listen.new.self) c.args.pass c.in-Ok.room.reports.items
    (record {
      given = ap (map (outside_given g.G.Link.Link)) listen.given;
      finished = ap (map (outside_spent g.G.Link.Link)) listen.finished;
      asked = c.if-listen.ensures.asked;
      ended = listen.ended;
      faults = c.if-listen.ensures.cause;
    })
    c.in-Ok.ensures.reports.0 c.requires.mine
