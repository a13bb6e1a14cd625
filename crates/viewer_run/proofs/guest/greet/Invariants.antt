use Rattle.std.proofs.Common.{◌<◌, [], vec_len, Ok, None}
use Rattle.edge_io.specs.Outside.{outside_of}
use Rattle.conn_rules.specs.Hearing.{end_of}
use Rattle.conn_rules.specs.Placed.{AreBytes}
use Rattle.serve_rules.specs.Reading.{IsNoRefusal}
use Rattle.viewer_run.specs.Feeding.{IsHeard}
use Rattle.viewer_run.specs.Greeting.{Greets}
use Rattle.viewer_run.proofs.guest.greet.Given as goal

-- what was read so far was answered, and the client still connects
abbrev pub invariant-loop : goal.invariant-loop
invariant-loop g l = record {
  heard : IsHeard l.conn.hearing;
  unrefused : IsNoRefusal (end_of l.conn.hearing);
  part : AreBytes l.conn.hearing.part;
  buffer : 0 < vec_len l.buffer;
  greets : Greets l.fn.conn.hearing l.conn.hearing [] l.name (outside_of g.S.Source g.K.Sink l.fn.input l.fn.output) (outside_of g.S.Source g.K.Sink l.input l.output) (Ok None);
}
