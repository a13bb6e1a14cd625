use Rattle.std.proofs.Common.{rules}
use Rattle.record_run.proofs.Runs.{fed_more}
use Rattle.record_run.proofs.read.read_record.Goals as goal

pub loop-preserved : goal.loop-preserved
loop-preserved g c = record {
  stop = search rules;
  fed = fed_more c.loop.replay c.feed.new.replay (g.S.Source.left c.args.input.now) (g.S.Source.left c.loop.input) (g.S.Source.left c.read.new.self) _ c.loop.invariant.fed c.in-Bytes.ensures.bytes c.in_ok-feed-in-Bytes.ensures.read;
  room = search rules;
  faults = search rules;
}
