use Rattle.std.proofs.Common.{refl, ◌∙◌, subst, Ok, Some, None}
use Rattle.edge_io.specs.Outside.{outside_of}
use Rattle.answer_run.specs.Asking.{owners_head}
use Rattle.answer_run.specs.Service.{Service, first_service}
use Rattle.answer_run.specs.Serves.{IsServiceOf, ServedNext}
use Rattle.answer_run.proofs.Numbers.{fault_numbered}
use Rattle.answer_run.proofs.Served.{nothing_done, went_on_first, went_further, ended_at, stopped_at, no_more_reads, answered, number_answered}
use Rattle.answer_run.proofs.answer.run_answer.Goals as goal

pub returns-in_default-clause-answer : goal.returns-in_default-clause-answer
returns-in_default-clause-answer g c = nothing_done c.args.size c.args.owner.now (g.S.Source.left c.args.input.now) (g.K.Sink.told c.args.output.now)

pub returns-in_default-new_buffer-clause-answer : goal.returns-in_default-new_buffer-clause-answer
returns-in_default-new_buffer-clause-answer g c = nothing_done c.args.size c.args.owner.now (g.S.Source.left c.args.input.now) (g.K.Sink.told c.args.output.now)

pub loop-init : goal.loop-init
loop-init g c =
    let first : IsServiceOf (owners_head c.args.size c.args.owner.now) c.in-Ok.serving (first_service c.args.size) = c.in-Ok.ensures c.args.owner.now in
    record {
      went = went_on_first (owners_head c.args.size c.args.owner.now) (first_service c.args.size) c.in-Ok.serving (outside_of g.S.Source g.K.Sink c.args.input.now c.args.output.now) first;
      room = c.in-Ok-new_buffer.ensures;
      read = refl;
      write = refl;
    }

pub returns-in-Ok-Some-clause-answer : goal.returns-in-Ok-Some-clause-answer
returns-in-Ok-Some-clause-answer g c =
    let head = owners_head c.args.size c.args.owner.now in
    let before = outside_of g.S.Source g.K.Sink c.args.input.now c.args.output.now in
    let mid = outside_of g.S.Source g.K.Sink c.loop.input c.loop.output in
    let now = outside_of g.S.Source g.K.Sink c.serve_next.new.input c.serve_next.new.output in
    let done : (t : Service) → IsServiceOf head c.loop.serving t → ServedNext (Ok (Some c.in-Ok-Some.how)) head t c.serve_next.new.serving mid now =
    subst (λ o. (t : Service) → IsServiceOf head c.loop.serving t → ServedNext (Ok o) head t c.serve_next.new.serving mid now)
    c.in-Ok-Some.field-0-is c.in-Ok-Some.ensures.done in
    answered c.answer_of.result c.args.size c.args.owner.now c.in-Ok-Some.how before now.output.told c.requires.size c.answer_of.ensures
    (ended_at head (first_service c.args.size) c.loop.serving c.serve_next.new.serving before mid now
    c.loop.invariant.went c.in-Ok-Some.how done)
    now.input.left

pub returns-in-Err-clause-answer : goal.returns-in-Err-clause-answer
returns-in-Err-clause-answer g c =
    stopped_at c.in-Err.fault c.args.size c.args.owner.now c.loop.serving c.serve_next.new.serving (outside_of g.S.Source g.K.Sink c.args.input.now c.args.output.now)
    (outside_of g.S.Source g.K.Sink c.loop.input c.loop.output) (outside_of g.S.Source g.K.Sink c.serve_next.new.input c.serve_next.new.output) c.requires.size
    c.loop.invariant.went c.in-Err.ensures.done

pub loop-preserved : goal.loop-preserved
loop-preserved g c =
    let head = owners_head c.args.size c.args.owner.now in
    let before = outside_of g.S.Source g.K.Sink c.args.input.now c.args.output.now in
    let mid = outside_of g.S.Source g.K.Sink c.loop.input c.loop.output in
    let now = outside_of g.S.Source g.K.Sink c.serve_next.new.input c.serve_next.new.output in
    let done : (t : Service) → IsServiceOf head c.loop.serving t → ServedNext (Ok None) head t c.serve_next.new.serving mid now =
    subst (λ o. (t : Service) → IsServiceOf head c.loop.serving t → ServedNext (Ok o) head t c.serve_next.new.serving mid now)
    c.in-Ok-None.field-0-is c.in-Ok-None.ensures.done in
    record {
      went = went_further head (first_service c.args.size) c.loop.serving c.serve_next.new.serving before mid now
          c.loop.invariant.went done;
      room = c.loop.invariant.room;
      read = c.in-Ok-None.ensures.read ∙ c.loop.invariant.read;
      write = c.in-Ok-None.ensures.write ∙ c.loop.invariant.write;
    }

pub returns-clause-answer : goal.returns-clause-answer
returns-clause-answer g c =
    no_more_reads c.args.size c.args.owner.now c.loop.serving (outside_of g.S.Source g.K.Sink c.args.input.now c.args.output.now)
    (outside_of g.S.Source g.K.Sink c.loop.input c.loop.output) c.requires.size c.loop.invariant.went

pub returns-in-Ok-Some-clause-number : goal.returns-in-Ok-Some-clause-number
returns-in-Ok-Some-clause-number g c =
    let head = owners_head c.args.size c.args.owner.now in
    let before = outside_of g.S.Source g.K.Sink c.args.input.now c.args.output.now in
    let mid = outside_of g.S.Source g.K.Sink c.loop.input c.loop.output in
    let now = outside_of g.S.Source g.K.Sink c.serve_next.new.input c.serve_next.new.output in
    let done : (t : Service) → IsServiceOf head c.loop.serving t → ServedNext (Ok (Some c.in-Ok-Some.how)) head t c.serve_next.new.serving mid now =
    subst (λ o. (t : Service) → IsServiceOf head c.loop.serving t → ServedNext (Ok o) head t c.serve_next.new.serving mid now)
    c.in-Ok-Some.field-0-is c.in-Ok-Some.ensures.done in
    number_answered c.answer_of.result c.in-Ok-Some.how c.answer_of.ensures
    (ended_at head (first_service c.args.size) c.loop.serving c.serve_next.new.serving before mid now
    c.loop.invariant.went c.in-Ok-Some.how done).number

pub returns-in-Err-clause-number : goal.returns-in-Err-clause-number
returns-in-Err-clause-number g c = fault_numbered c.in-Err.fault c.in-Err.ensures.fault
