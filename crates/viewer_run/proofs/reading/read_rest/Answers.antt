use Rattle.std.proofs.Common.{true, sym, refl, inl, ◌∙◌}
use Rattle.serve_rules.specs.Reading.{HasTurnsOf}
use Rattle.viewer_run.proofs.OneStep.{was_done}
use Rattle.viewer_run.proofs.Stretches.{rest_in_turns, rest_lost, lost_in_turns, same_none, whole}
use Rattle.viewer_run.proofs.reading.read_rest.Goals as goal

pub returns-then-is_err-clause-reads : goal.returns-then-is_err-clause-reads
returns-then-is_err-clause-reads g c = λ input.
    let done = c.do_steps-pass.ensures.done in
    lost_in_turns c.args.stay.now.lock.now.head c.args.stay.now.v true c.args.rest.now c.args.conn.now.hearing c.args.conn.now.hearing c.args.pass c.do_steps-pass.result.0 c.args.noted.now
    c.do_steps-pass.new.noted input input
    (rest_lost c.args.stay.now.lock.now.head c.args.stay.now.v c.args.rest.now done.0 c.args.conn.now.hearing c.args.pass c.do_steps-pass.result.0 c.args.noted.now c.do_steps-pass.new.noted
    input done.1 c.do_steps-pass.ensures.room (same_none input.left))

pub returns-clause-reads : goal.returns-clause-reads
returns-clause-reads g c = λ input.
    let done = c.do_steps-pass.ensures.done in
    rest_in_turns c.args.stay.now.lock.now.head c.args.stay.now.v c.args.rest.now done.0 c.args.conn.now.hearing c.read_piece.new.conn.hearing c.args.pass c.do_steps-pass.result.0 c.read_piece.result.0
    c.args.noted.now c.do_steps-pass.new.noted c.read_piece.new.noted input input c.read_piece.result.1 done.1
    (whole c.do_steps-pass.result.1 done.0 (sym c.is_err.ensures.value ∙ c.if-is_err.false) done.2)
    (was_done (HasTurnsOf c.args.rest.now c.args.pass c.do_steps-pass.result.0) c.do_steps-pass.result.1 (sym c.is_err.ensures.value ∙ c.if-is_err.false) c.do_steps-pass.ensures.turns)
    (c.read_piece.ensures.reads input input (same_none input.left) refl)

pub read_piece-requires-clause-stops : goal.read_piece-requires-clause-stops
read_piece-requires-clause-stops g c = inl refl
