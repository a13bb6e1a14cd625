use Rattle.std.proofs.Common.{[], true, ◌<◌, Fits, w8, sym, subst, arith}
use Rattle.std.specs.Prelude.{slice_index_or, List, IfOk}
use Rattle.std.proofs.lemmas.List.Elements.{All-from_get_or}
use Rattle.conn_rules.specs.declared.conn_step.ConnStep.{ConnStep}
use Rattle.conn_rules.specs.Placed.{AreBytes, ArePlaced}
use Rattle.viewer_run.proofs.Stretches.{fed_placed, still_open, piece_in_turns, piece_lost, lost_in_turns}
use Rattle.serve_rules.specs.Reading.{HasTurnsOf}
use Rattle.viewer_run.specs.Doing.{StepsFront}
use Rattle.viewer_run.proofs.reading.read_piece.Goals as goal

pub do_steps-pass-requires-clause-placed : goal.do_steps-pass-requires-clause-placed
do_steps-pass-requires-clause-placed g c =
    let bytes = c.args.bytes.now in
    let are : AreBytes bytes = All-from_get_or (λ b. b < 256) bytes 0
    (λ k below. let fits : Fits w8 (slice_index_or bytes k 0) = c.type_inv.bytes k in let less : slice_index_or bytes k 0 < 256 = omega (arith, fits) in less) in
    subst ArePlaced (sym c.deref.ensures.value) (fed_placed c.args.conn.now.hearing c.feed.new.conn.hearing bytes _ c.feed.new.steps.items c.in-Ok.end c.requires.part are c.in-Ok.ensures)

pub returns-in-Ok-clause-going : goal.returns-in-Ok-clause-going
returns-in-Ok-clause-going g c =
    let bytes = c.args.bytes.now in
    let are : AreBytes bytes = All-from_get_or (λ b. b < 256) bytes 0
    (λ k below. let fits : Fits w8 (slice_index_or bytes k 0) = c.type_inv.bytes k in let less : slice_index_or bytes k 0 < 256 = omega (arith, fits) in less) in
    still_open c.args.conn.now.hearing c.feed.new.conn.hearing bytes _ c.feed.new.steps.items _ c.in-Ok.end _ _ c.requires.part are c.in-Ok.ensures c.end_of_piece-end.ensures

pub returns-in-Ok-clause-reads : goal.returns-in-Ok-clause-reads
returns-in-Ok-clause-reads g c = λ before after taken calm.
    let done = c.do_steps-pass.ensures.done in
    piece_in_turns c.args.stay.now.lock.now.head c.args.stay.now.v c.args.conn.now.hearing c.feed.new.conn.hearing c.args.bytes.now _ c.feed.new.steps.items done.0 c.args.pass c.do_steps-pass.result.0
    c.args.noted.now c.do_steps-pass.new.noted c.in-Ok.end c.end_of_piece-end.result c.do_steps-pass.result.1 before after c.in-Ok.ensures
    (subst (λ (steps : List ConnStep). StepsFront c.args.stay.now.lock.now.head c.args.stay.now.v steps done.0 c.args.pass c.do_steps-pass.result.0 c.args.noted.now c.do_steps-pass.new.noted) c.deref.ensures.value done.1)
    done.2 c.end_of_piece-end.ensures c.do_steps-pass.ensures.room taken calm c.requires.stops
    (subst (λ (steps : List ConnStep). IfOk c.do_steps-pass.result.1 (λ ok. HasTurnsOf steps c.args.pass c.do_steps-pass.result.0)) c.deref.ensures.value c.do_steps-pass.ensures.turns)

pub returns-clause-reads : goal.returns-clause-reads
returns-clause-reads g c = λ before after taken calm. lost_in_turns c.args.stay.now.lock.now.head c.args.stay.now.v true [] c.args.conn.now.hearing c.feed.new.conn.hearing c.args.pass c.args.pass c.args.noted.now
    c.args.noted.now before after (piece_lost c.args.stay.now.lock.now.head c.args.stay.now.v c.args.conn.now.hearing c.feed.new.conn.hearing c.args.bytes.now c.args.pass c.args.noted.now before after c.requires.room taken calm c.requires.stops)
