use Rattle.script_run.proofs.running.Running.step.Goals as goal

pub returns-in-Leave-clause-done : goal.returns-in-Leave-clause-done
returns-in-Leave-clause-done c = rw c.in-Leave.is c.leave.ensures.done

pub returns-in-Take-clause-done : goal.returns-in-Take-clause-done
returns-in-Take-clause-done c = rw c.in-Take.is c.take.ensures.done

pub returns-in-Suppress-clause-done : goal.returns-in-Suppress-clause-done
returns-in-Suppress-clause-done c = rw c.in-Suppress.is c.suppress.ensures.done

pub returns-in-Refresh-clause-done : goal.returns-in-Refresh-clause-done
returns-in-Refresh-clause-done c = rw c.in-Refresh.is c.refresh.ensures.done

pub returns-in-Input-clause-done : goal.returns-in-Input-clause-done
returns-in-Input-clause-done c = rw c.in-Input.is c.input.ensures.done

pub returns-in-Draw-clause-done : goal.returns-in-Draw-clause-done
returns-in-Draw-clause-done c = rw c.in-Draw.is c.draw.ensures.done

pub returns-in-Leave-clause-told : goal.returns-in-Leave-clause-told
returns-in-Leave-clause-told c = rw c.in-Leave.is c.leave.ensures.told

pub returns-in-Take-clause-told : goal.returns-in-Take-clause-told
returns-in-Take-clause-told c = rw c.in-Take.is c.take.ensures.told

pub returns-in-Suppress-clause-told : goal.returns-in-Suppress-clause-told
returns-in-Suppress-clause-told c = rw c.in-Suppress.is c.suppress.ensures.told

pub returns-in-Refresh-clause-told : goal.returns-in-Refresh-clause-told
returns-in-Refresh-clause-told c = rw c.in-Refresh.is c.refresh.ensures.told

pub returns-in-Input-clause-told : goal.returns-in-Input-clause-told
returns-in-Input-clause-told c = rw c.in-Input.is c.input.ensures.told

pub returns-in-Draw-clause-told : goal.returns-in-Draw-clause-told
returns-in-Draw-clause-told c = rw c.in-Draw.is c.draw.ensures.told
