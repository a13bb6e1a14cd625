use Rattle.std.proofs.Common.{ap, ◌∙◌, subst}
use Rattle.answer_run.specs.Asking.{owners_head}
use Rattle.answer_run.specs.Serves.{EndsHeard, end_if}
use Rattle.answer_run.proofs.Pieces.{replies_stop, frames_stop, heard_ends}
use Rattle.answer_run.proofs.heard.do_heard.Goals as goal

pub returns-in-Err-clause-done : goal.returns-in-Err-clause-done
returns-in-Err-clause-done g c =
    replies_stop c.in-Err.fault (owners_head c.args.host.now.size c.args.host.now.owner) c.args.replies.now c.args.steps.now c.args.refusal c.args.visitor.now c.args.visitor.now
    (g.K.Sink.told c.args.output.now) (g.K.Sink.told c.put.new.output) c.in-Err.ensures.front

pub returns-in-Ok-do_steps-clause-done : goal.returns-in-Ok-do_steps-clause-done
returns-in-Ok-do_steps-clause-done g c =
    let let_in = c.in-Ok-do_steps.let_in in
    let late = g.K.Sink.told c.do_steps.new.output in
    let telling = g.K.Sink.told c.end_heard.new.output in
    heard_ends c.end_heard.result let_in (owners_head c.args.host.now.size c.args.host.now.owner) c.args.replies.now c.args.steps.now c.args.refusal c.args.visitor.now c.do_steps.new.visitor
    (g.K.Sink.told c.args.output.now) (g.K.Sink.told c.put.new.output) late telling c.in-Ok.ensures.written c.in-Ok-do_steps.ensures.done
    (subst (λ e. EndsHeard c.end_heard.result e late telling) (c.end_of.ensures ∙ ap (end_if let_in c.args.refusal) c.last_word.ensures) c.end_heard.ensures.done)

pub returns-in-Err-do_steps-clause-done : goal.returns-in-Err-do_steps-clause-done
returns-in-Err-do_steps-clause-done g c =
    frames_stop c.in-Err-do_steps.fault c.in-Err-do_steps.fault (owners_head c.args.host.now.size c.args.host.now.owner) c.args.replies.now c.args.steps.now c.args.refusal c.args.visitor.now
    c.do_steps.new.visitor (g.K.Sink.told c.args.output.now) (g.K.Sink.told c.put.new.output) (g.K.Sink.told c.do_steps.new.output) c.in-Ok.ensures.written
    c.in-Err-do_steps.ensures.done
