use Rattle.std.proofs.Common.{◌≡◌, ◌∙◌, ◌+◌, ◌-◌, [], ap, sym, subst, arith}
use Rattle.script_rules.specs.Script.{without_preset}
use Rattle.script_rules.specs.CaptureText.{run_after, encoder_frames}
use Rattle.script_lines.specs.Keywords.{step_of}
use Rattle.script_run.specs.Answers.{SaysOutcome}
use Rattle.script_run.specs.Runs.{IsRunOf}
use Rattle.demo_run.specs.Counts.{kept}
use Rattle.demo_run.specs.declared.demo.Demo.{Demo}
use Rattle.demo_run.specs.Standing.{run_of}
use Rattle.demo_run.specs.Watching.{IsAcceptedAt, IsNoted}
use Rattle.demo_run.proofs.Asked.{viewer_is_here, accepted_at, stands_on, on_ok}
use Rattle.demo_run.proofs.demo.Demo.ask.Goals as goal

pub step-requires-clause-present : goal.step-requires-clause-present
step-requires-clause-present c = viewer_is_here c.args.self.now c.args.next.viewer c.requires.going c.requires.viewer

pub note-requires-clause-accepted : goal.note-requires-clause-accepted
note-requires-clause-accepted c =
    let v = c.args.next.viewer in
    let g = c.requires.going in
    let s = g.stands in
    let answer = c.in_ok-answer.answer in
    let place : v ≡ (v - 1) + 1 = omega (arith, c.requires.viewer.0) in
    let told = subst (λ h. SaysOutcome h (run_of g.done) (step_of v c.args.next.step) answer) s.head (c.in_ok-answer.ensures.told (run_of g.done) s.run) in
    (accepted_at g.done c.args.self.now v c.args.next.step s c.requires.viewer c.requires.drawn (v - 1) answer place told)

pub returns : goal.returns
returns c =
    let v = c.args.next.viewer in
    let step = c.args.next.step in
    let d = c.args.self.now in
    let answer = c.in_ok-answer.answer in
    let place : v ≡ (v - 1) + 1 = omega (arith, c.requires.viewer.0) in
    let new : Demo = record { alloc = d.alloc; host = c.step.new.self; watchers = c.note.new.watchers; refused = c.saturating_add-self.result } in
    on_ok c.note.result (λ noted done stands.
    stands_on done d v step stands c.requires.viewer c.requires.drawn (v - 1) answer new place
    (subst (λ h. SaysOutcome h (run_of done) (step_of v step) answer) stands.head (c.in_ok-answer.ensures.told (run_of done) stands.run))
    c.in_ok-answer.ensures.head
    (subst (λ h. IsRunOf c.step.new.self (run_after encoder_frames h (run_of done) (without_preset (step_of v step)))) stands.head
    (c.in_ok-answer.ensures.done (run_of done) [] stands.run).is_run)
    noted
    (c.saturating_add-self.ensures ∙ ap (λ n. kept (d.refused + n)) c.refusals_in.ensures)) c.note.ensures
