use Rattle.std.proofs.Common.{List, [], ℕ, sym, subst}
use Rattle.serve_rules.specs.Events.{Handles}
use Rattle.viewer_run.proofs.OneStep.{noted, event_turns, if_done}
use Rattle.serve_rules.proofs.Handling.{handles_nothing}
use Rattle.viewer_run.proofs.steps.note_event.Goals as goal

pub returns-clause-done : goal.returns-clause-done
returns-clause-done g c = noted _ _ _ _ _ c.handle_event-pass.result.1 _ c.make_room.new.self.list _ _ c.handle_event-pass.ensures.done c.make_room.ensures.list c.note_place-answer.ensures.noted

pub returns-then-is_err-clause-done : goal.returns-then-is_err-clause-done
returns-then-is_err-clause-done g c =
    subst (λ (l : List ℕ). Handles c.args.stay.now.lock.now.head c.args.stay.now.v [] c.args.pass c.args.pass c.args.noted.now.places.list l) (sym c.make_room.ensures.list) (handles_nothing _ _ _ _)

pub returns-clause-turns : goal.returns-clause-turns
returns-clause-turns g c = if_done _ c.note_place-answer.result (event_turns _ _ _ _ _ c.handle_event-pass.result.1 c.handle_event-pass.ensures.done)
