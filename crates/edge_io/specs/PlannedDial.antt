-- One link in memory, which is handed out once, and asking for it fails at listed calls.
use Rattle.std.specs.Prelude.{ℕ, List, [], ◌∷◌, ◌++◌, if◌then◌else◌}
use Rattle.std.specs.declared.option.Option.{Option}
use Rattle.std.specs.declared.option.Option.TheVariants.{Some, None}
use Rattle.edge_io.specs.declared.mem_link.MemLink.{MemLink}
use Rattle.edge_io.specs.Faults.{raised}
use Rattle.edge_io.specs.Plan.{CallPlan, new_plan, next_fails, plan_after_call}

-- the link that wasn't handed out yet, those given and those that came back, the port asked for last, and the plan
pub record PlannedDial : Type 0 where
  pub waiting : Option MemLink
  pub given : List MemLink
  pub finished : List MemLink
  pub asked : Option ℕ
  pub plan : CallPlan

-- before any call
abbrev pub new_dial : MemLink → List ℕ → PlannedDial
new_dial link fails = record { waiting = Some link; given = []; finished = []; asked = None; plan = new_plan fails }

-- the link, where it is still there and this call isn't to fail
abbrev pub dial_answer : PlannedDial → Option MemLink
dial_answer dial = if next_fails dial.plan then None else dial.waiting

-- each call after the link was handed out is a fault
abbrev pub plan_without : Option MemLink → CallPlan → CallPlan
plan_without (Some link) plan = plan
plan_without None plan = record plan { faults = raised plan.faults }

abbrev pub plan_after_dial : PlannedDial → CallPlan
plan_after_dial dial = if next_fails dial.plan then plan_after_call dial.plan else plan_without dial.waiting (plan_after_call dial.plan)

-- after it has answered so
abbrev pub dial_after_answer : PlannedDial → Option MemLink → PlannedDial
dial_after_answer dial (Some link) = record dial { waiting = None; given = dial.given ++ link ∷ [] }
dial_after_answer dial None = dial

abbrev pub dial_after_call : PlannedDial → ℕ → PlannedDial
dial_after_call dial port = record (dial_after_answer dial (dial_answer dial)) { asked = Some port; plan = plan_after_dial dial }
