use Rattle.rdp_view.proofs.ending.Ending.of_run.Goals as goal

pub returns-in-Some-clause-dial : goal.returns-in-Some-clause-dial
returns-in-Some-clause-dial g c = rw c.in-Some.is (λ asks. c.view_top.ensures.dial (rw c.deref.ensures.value asks))
