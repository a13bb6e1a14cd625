use Rattle.host_program.proofs.ending.Ending.of_run.Goals as goal

pub returns-in-Some-clause-mode : goal.returns-in-Some-clause-mode
returns-in-Some-clause-mode g c = rw c.in-Some.is (λ mode asked. c.top.ensures.mode mode (rw c.deref.ensures.value asked))

pub returns-in-Some-clause-usage : goal.returns-in-Some-clause-usage
returns-in-Some-clause-usage g c = rw c.in-Some.is (λ none. c.top.ensures.usage (rw c.deref.ensures.value none))

pub returns-in-Some-clause-input : goal.returns-in-Some-clause-input
returns-in-Some-clause-input g c = rw c.in-Some.is (λ none. c.top.ensures.input (rw c.deref.ensures.value none))

pub returns-in-Some-clause-gate : goal.returns-in-Some-clause-gate
returns-in-Some-clause-gate g c = rw c.in-Some.is (λ none. c.top.ensures.gate (rw c.deref.ensures.value none))
