use Rattle.viewer_sender.proofs.orders.styled.Goals as goal

pub returns-in-Bits24-clause-pattern : goal.returns-in-Bits24-clause-pattern
returns-in-Bits24-clause-pattern c = λ r code entry e. rw c.in-Bits24.is e

pub returns-in-Bits24-clause-both : goal.returns-in-Bits24-clause-both
returns-in-Bits24-clause-both c = λ r cache index code entry sx sy e. rw c.in-Bits24.is e

pub returns-in-Bits16-clause-pattern : goal.returns-in-Bits16-clause-pattern
returns-in-Bits16-clause-pattern c = λ r code entry e. rw c.in-Bits16.is (c.style16.ensures.pattern r code entry e)

pub returns-in-Bits16-clause-both : goal.returns-in-Bits16-clause-both
returns-in-Bits16-clause-both c = λ r cache index code entry sx sy e. rw c.in-Bits16.is (c.style16.ensures.both r cache index code entry sx sy e)
