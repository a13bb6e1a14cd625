use Rattle.std.specs.declared.option.Option.TheVariants.{Some, None}
use Rattle.edge_io.specs.Outside.{input_of, output_of, outside_of}
use Rattle.viewer_rules.specs.ViewerHandshake.{viewer_handshake}
use Rattle.look_net.proofs.TurnsBehind.{requested, unrequested, one_turn_more}
use Rattle.look_net.proofs.host_turns.watch.Goals as goal

pub returns-in-Some-clause-watches : goal.returns-in-Some-clause-watches
returns-in-Some-clause-watches g c = unrequested c.args.viewing.now c.args.look.now (input_of g.S.Source c.args.reader.now)
    (output_of g.K.Sink c.args.writer.now) (output_of g.K.Sink c.greet.new.writer) c.requires.some c.requires.first c.in-Some.end c.in-Some.ensures

pub loop-init : goal.loop-init
loop-init g c = record {
  watches = requested c.args.viewing.now c.args.look.now (input_of g.S.Source c.args.reader.now)
      (output_of g.K.Sink c.args.writer.now) (output_of g.K.Sink c.greet.new.writer) c.requires.some c.requires.first c.in-None.ensures;
  look = c.requires.look;
}

pub returns-in-Some-watch_turn-clause-watches : goal.returns-in-Some-watch_turn-clause-watches
returns-in-Some-watch_turn-clause-watches g c =
    let v = c.args.viewing.now in
    let a = c.loop.invariant.watches in
    let before = outside_of g.S.Source g.K.Sink c.args.reader.now c.args.writer.now in
    let mid = outside_of g.S.Source g.K.Sink c.loop.reader c.loop.writer in
    let now = outside_of g.S.Source g.K.Sink c.watch_turn.new.reader c.watch_turn.new.writer in
    one_turn_more v (Some c.in-Some-watch_turn.end) c.loop.look c.watch_turn.new.look before mid now a
    (c.in-Some-watch_turn.ensures.turn (viewer_handshake v.name v.confirmed a.read).after a.turns.goes_on)

pub loop-preserved : goal.loop-preserved
loop-preserved g c =
    let v = c.args.viewing.now in
    let a = c.loop.invariant.watches in
    let before = outside_of g.S.Source g.K.Sink c.args.reader.now c.args.writer.now in
    let mid = outside_of g.S.Source g.K.Sink c.loop.reader c.loop.writer in
    let now = outside_of g.S.Source g.K.Sink c.watch_turn.new.reader c.watch_turn.new.writer in
    record {
      watches = one_turn_more v None c.loop.look c.watch_turn.new.look before mid now a
          (c.in-None-watch_turn.ensures.turn (viewer_handshake v.name v.confirmed a.read).after a.turns.goes_on);
      look = c.watch_turn.ensures.look;
    }
