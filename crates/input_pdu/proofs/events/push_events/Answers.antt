use Rattle.std.proofs.Common.{◌++◌, ap, sym, ◌∙◌, append-nil}
use Rattle.std.specs.Prelude.{option_to_list}
use Rattle.input_pdu.proofs.OneByOne.{one_event, no_event, more_pushed, not_refused}
use Rattle.input_pdu.proofs.events.push_events.Goals as goal
use Rattle.input_pdu.proofs.events.push_events.Goals.{in-Some+in_ok-push, in_default}

pub returns-in_err-event : goal.returns-in_err-event
returns-in_err-event c =
    absurd (not_refused _ _ _ _ _ c.requires c.loop.invariant (no_event c.args.count c.loop.counter _ _ c.loop-test.true c.in_err-event.ensures.0))

pub loop-preserved : goal.loop-preserved
loop-preserved c =
    let here = one_event c.args.count c.loop.counter _ _ _ c.loop-test.true c.in_ok-event.ensures.0 in
    more_pushed _ _ _ _ _ _ (option_to_list c.in_ok-event.field-0) c.loop.invariant here (
    elim c.match-branch-2.branch [
      | in-Some+in_ok-push w ↦ ap (λ v. v.items) w.out-is ∙ w.in_ok-push.ensures.items ∙ ap (λ o. c.loop.out.items ++ option_to_list o) (sym w.in-Some.is)
      | in_default w ↦ ap (λ v. v.items) w.out-is ∙ sym (append-nil c.loop.out.items) ∙ ap (λ o. c.loop.out.items ++ option_to_list o) (sym w.in_default.is)
    ]
    )
