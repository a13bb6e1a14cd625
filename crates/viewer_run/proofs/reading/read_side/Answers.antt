use Rattle.std.proofs.Common.{sym, ◌∙◌, subst, is_some}
use Rattle.std.specs.Prelude.{true}
use Rattle.edge_io.specs.Outside.{input_of}
use Rattle.serve_rules.specs.Reading.{ReadsOn, ReadsInTurns}
use Rattle.serve_rules.specs.declared.ends.ConnEnd.TheVariants.{OutOfMemory}
use Rattle.serve_rules.proofs.ReadOn.{not_stopped, in_turns_then}
use Rattle.viewer_run.proofs.Stretches.{goes_on, done_is_no_stop, reads_done, reads_lost, reads_stopped, lost_in_turns}
use Rattle.viewer_run.proofs.reading.read_side.Goals as goal

pub returns-then-is_done-clause-reads : goal.returns-then-is_done-clause-reads
returns-then-is_done-clause-reads g c =
    let before = input_of g.S.Source c.args.input.now in
    let r = c.read_rest-pass in
    reads_done c.args.lock.now.head c.args.v (is_some c.args.flag) c.args.rest.now c.args.conn.now.hearing r.new.conn.hearing c.args.pass r.result.0 c.args.noted.now r.new.noted
    before before r.result.1 (sym c.is_done.ensures ∙ c.if-is_done.true) (r.ensures.reads before)

pub returns-then-is_done-clause-part : goal.returns-then-is_done-clause-part
returns-then-is_done-clause-part g c = λ stopped. absurd (done_is_no_stop c.read_rest-pass.result.1 (sym c.is_done.ensures ∙ c.if-is_done.true) stopped)

pub returns-in_default-clause-part : goal.returns-in_default-clause-part
returns-in_default-clause-part g c = λ stopped. absurd (not_stopped OutOfMemory stopped)

pub returns-then-is_done-2-clause-part : goal.returns-then-is_done-2-clause-part
returns-then-is_done-2-clause-part g c = λ stopped. absurd (done_is_no_stop c.read_next-next.result.1 (sym c.is_done-in-loop.ensures ∙ c.if-is_done-2.true) stopped)

pub returns-in_default-clause-reads : goal.returns-in_default-clause-reads
returns-in_default-clause-reads g c =
    let before = input_of g.S.Source c.args.input.now in
    let r = c.read_rest-pass in
    lost_in_turns c.args.lock.now.head c.args.v (is_some c.args.flag) c.args.rest.now c.args.conn.now.hearing r.new.conn.hearing c.args.pass r.result.0 c.args.noted.now r.new.noted
    before before
    (reads_lost c.args.lock.now.head c.args.v (is_some c.args.flag) c.args.rest.now c.args.conn.now.hearing r.new.conn.hearing c.args.pass r.result.0 c.args.noted.now r.new.noted
    before before
    (subst (ReadsOn c.args.lock.now.head c.args.v c.args.rest.now true c.args.conn.now.hearing r.new.conn.hearing c.args.pass r.result.0 c.args.noted.now r.new.noted before before)
    (goes_on r.result.1 (sym c.is_done.ensures ∙ c.if-is_done.false)) (r.ensures.reads before).reads))

pub loop-init : goal.loop-init
loop-init g c =
    let before = input_of g.S.Source c.args.input.now in
    let r = c.read_rest-pass in
    let stopped = goes_on r.result.1 (sym c.is_done.ensures ∙ c.if-is_done.false) in
    record {
      lock = r.ensures.lock;
      room = (r.ensures.reads before).reads.room;
      buffer = c.in-Ok.ensures.some;
      one = c.in-Ok.ensures.one;
      going = r.ensures.going stopped;
      reads = subst (ReadsInTurns c.args.lock.now.head c.args.v c.args.rest.now true c.args.conn.now.hearing r.new.conn.hearing c.args.pass r.result.0 c.args.noted.now r.new.noted before before)
          stopped (r.ensures.reads before);
    }

pub returns-then-is_done-2-clause-reads : goal.returns-then-is_done-2-clause-reads
returns-then-is_done-2-clause-reads g c =
    let before = input_of g.S.Source c.args.input.now in
    let between = input_of g.S.Source c.loop.input in
    let after = input_of g.S.Source c.read_next-next.new.input in
    let r = c.read_next-next in
    reads_done c.args.lock.now.head c.args.v (is_some c.args.flag) c.args.rest.now c.args.conn.now.hearing r.new.conn.hearing c.args.pass r.result.0 c.args.noted.now r.new.noted
    before after r.result.1 (sym c.is_done-in-loop.ensures ∙ c.if-is_done-2.true)
    (in_turns_then c.args.lock.now.head c.args.v c.args.rest.now true c.args.conn.now.hearing c.loop.conn.hearing r.new.conn.hearing c.args.pass c.loop.now r.result.0
    c.args.noted.now c.loop.noted r.new.noted before between after r.result.1 c.loop.invariant.reads r.ensures.reads)

pub loop-preserved : goal.loop-preserved
loop-preserved g c =
    let before = input_of g.S.Source c.args.input.now in
    let between = input_of g.S.Source c.loop.input in
    let after = input_of g.S.Source c.read_next-next.new.input in
    let r = c.read_next-next in
    let stopped = goes_on r.result.1 (sym c.is_done-in-loop.ensures ∙ c.if-is_done-2.false) in
    record {
      lock = r.ensures.lock;
      room = r.ensures.reads.reads.room;
      buffer = c.loop.invariant.buffer;
      one = c.loop.invariant.one;
      going = r.ensures.going stopped;
      reads = subst (ReadsInTurns c.args.lock.now.head c.args.v c.args.rest.now true c.args.conn.now.hearing r.new.conn.hearing c.args.pass r.result.0 c.args.noted.now r.new.noted before after)
          stopped
          (in_turns_then c.args.lock.now.head c.args.v c.args.rest.now true c.args.conn.now.hearing c.loop.conn.hearing r.new.conn.hearing c.args.pass c.loop.now r.result.0
          c.args.noted.now c.loop.noted r.new.noted before between after r.result.1 c.loop.invariant.reads r.ensures.reads);
    }

pub returns-then-is_set-clause-reads : goal.returns-then-is_set-clause-reads
returns-then-is_set-clause-reads g c =
    reads_stopped c.args.lock.now.head c.args.v (is_some c.args.flag) c.args.rest.now c.args.conn.now.hearing c.loop.conn.hearing c.args.pass c.loop.now c.args.noted.now c.loop.noted
    (input_of g.S.Source c.args.input.now) (input_of g.S.Source c.loop.input) (c.is_set.ensures c.if-is_set.true) c.loop.invariant.reads
