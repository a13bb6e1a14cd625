use Rattle.std.proofs.Common.{inl, refl, take}
use Rattle.edge_io.specs.Outside.{input_of, output_of}
use Rattle.viewer_rules.specs.ViewerHandshake.{watched}
use Rattle.look_net.proofs.TurnsBehind.{closes, fails}
use Rattle.look_net.proofs.host_turns.watch_turn.Goals as goal

pub returns-in-Bytes-clause-turn : goal.returns-in-Bytes-clause-turn
returns-in-Bytes-clause-turn g c = λ w goes.
    let v = c.args.viewing.now in
    let bytes = take c.in-Bytes.count c.read_on.new.buf in
    record {
      read = bytes;
      heard = watched v.name v.confirmed w bytes;
      is_heard = inl refl;
      reads = c.in-Bytes.ensures.bytes;
      turns = c.hear.ensures.turns w (input_of g.S.Source c.args.reader.now) (input_of g.S.Source c.read_on.new.reader) c.in-Bytes.ensures.cause goes.watching;
    }

pub returns-in-End-clause-turn : goal.returns-in-End-clause-turn
returns-in-End-clause-turn g c = λ w goes. closes c.args.viewing.now w c.args.look.now goes (input_of g.S.Source c.args.reader.now) (input_of g.S.Source c.read_on.new.reader)
    (output_of g.K.Sink c.args.writer.now) c.in-End.ensures.bytes.0 c.in-End.ensures.bytes.1 c.in-End.ensures.cause

pub returns-in-Failed-clause-turn : goal.returns-in-Failed-clause-turn
returns-in-Failed-clause-turn g c = λ w goes. fails c.args.viewing.now w c.args.look.now goes (input_of g.S.Source c.args.reader.now) (input_of g.S.Source c.read_on.new.reader)
    (output_of g.K.Sink c.args.writer.now) c.in-Failed.ensures.bytes c.in-Failed.ensures.cause
