use Rattle.std.proofs.Common.{◌≡◌, length}
use Rattle.record_run.specs.Replays.{HasFed}
use Rattle.record_run.proofs.read.read_record.Given as goal

abbrev pub invariant-loop : goal.invariant-loop
invariant-loop g l = record {
  stop : l.replay.told.stop ≡ l.stop;
  fed : HasFed l.replay (g.S.Source.left l.fn.input) (g.S.Source.left l.input);
  room : length l.room ≡ 65536;
  faults : g.S.Source.faults l.input ≡ g.S.Source.faults l.fn.input;
}
