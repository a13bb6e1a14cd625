use Rattle.std.proofs.Common.{◌∙◌, arith}
use Rattle.std.proofs.lemmas.List.{length-drop, take_rest}
use Rattle.record_file.proofs.Replayed.{further, all_replayed}
use Rattle.record_file.proofs.reading.replay_entries.Goals as goal

pub returns-in_default-clause-replayed : goal.returns-in_default-clause-replayed
returns-in_default-clause-replayed c = λ stream stands kept.
    let l = c.loop-at.invariant.replayed stream stands kept in
    let next = rw (take_rest c.args.bytes.now c.loop-at.at) at (c.in_ok-used.ensures.replayed stream) in
    rw c.in_default.is at (next l.0 l.1)

pub loop-at-preserved : goal.loop-at-preserved
loop-at-preserved c =
    let used = rw (take_rest c.args.bytes.now c.loop-at.at) at (rw c.in-Some.is at c.in_ok-used.ensures.used) in
    record {
      sound = c.in_ok-used.ensures.sound;
      stop = c.in_ok-used.ensures.stop ∙ c.loop-at.invariant.stop;
      within = omega (arith, used.1, length-drop c.loop-at.at c.args.bytes.now, c.loop-at.invariant.within);
      replayed = λ stream stands kept.
          let l = c.loop-at.invariant.replayed stream stands kept in
          let next = rw (take_rest c.args.bytes.now c.loop-at.at) at (c.in_ok-used.ensures.replayed stream) in
          let done = rw c.in-Some.is at (next l.0 l.1) in
          (further stream c.args.bytes.now c.loop-at.at c.in-Some.used c.replay_next.new.playing done.0, done.1);
    }

pub returns-clause-replayed : goal.returns-clause-replayed
returns-clause-replayed c = λ stream stands kept.
    let l = c.loop-at.invariant.replayed stream stands kept in
    (all_replayed stream c.args.bytes.now c.loop-at.at c.loop-at.playing l.0 c.loop-at-test.false, l.1)
