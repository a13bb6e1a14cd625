use Rattle.frame_plan.proofs.TakeSteps.{work_of_steps, take_of_steps}
use Rattle.frame_plan.proofs.laws.takes_are_those_of_steps.Goals as goal

pub returns : goal.returns
returns c = record { work = work_of_steps; take = take_of_steps }
