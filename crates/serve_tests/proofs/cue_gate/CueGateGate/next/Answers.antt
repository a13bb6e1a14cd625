use Rattle.std.proofs.Common.{◌≡◌, true, false, rules, add-one}
use Rattle.edge_io.specs.Gate.{asked_of, has_room}
use Rattle.serve_tests.proofs.Links.{one_more, below}
use Rattle.serve_tests.proofs.cue_gate.CueGateGate.next.Goals as goal

pub returns-in-Some-clause-given : goal.returns-in-Some-clause-given
returns-in-Some-clause-given c = rw (← c.self.view_is, add-one) (one_more c.self.inside.given)

pub returns-in-Some-clause-limit : goal.returns-in-Some-clause-limit
returns-in-Some-clause-limit c =
    let room : has_room (asked_of c.self.inside.asked) c.self.inside.given ≡ true = search rules in
    let ended : c.self.inside.ended ≡ false = search rules in
    rw (← c.self.view_is) (below _ _ room, ended)
