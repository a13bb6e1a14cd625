use Rattle.edge_io.specs.Outside.{outside_of}
use Rattle.look_net.specs.HostTurns.{IsLookOf, WatchesAll}
use Rattle.std.specs.declared.option.Option.TheVariants.{None}
use Rattle.look_net.proofs.host_turns.watch.Given as goal

-- the host is watched so far, and all that is due was said
abbrev pub invariant-loop : goal.invariant-loop
invariant-loop g l = record {
  watches : WatchesAll None l.viewing l.look
      (outside_of g.S.Source g.K.Sink l.fn.reader l.fn.writer)
      (outside_of g.S.Source g.K.Sink l.reader l.writer);
  look : IsLookOf l.viewing l.look;
}
