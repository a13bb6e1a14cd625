-- Which calls of a fake fail.
use Rattle.std.specs.Prelude.{ℕ, ◌==◌, List, Bool, if◌then◌else◌}
use Rattle.std.specs.List.{list_any}
use Rattle.edge_io.specs.Faults.{raised}

-- the calls that are to fail, counted from 1, how many were made, and how many of these failed
pub record CallPlan : Type 0 where
  pub fails : List ℕ
  pub calls : ℕ
  pub faults : ℕ

-- a plan before any call
abbrev pub new_plan : List ℕ → CallPlan
new_plan fails = record { fails = fails; calls = 0; faults = 0 }

-- whether the next call is to fail
abbrev pub next_fails : CallPlan → Bool
next_fails plan = list_any (λ call. call == raised plan.calls) plan.fails

-- the plan after one more call
abbrev pub plan_after_call : CallPlan → CallPlan
plan_after_call plan = record { fails = plan.fails; calls = raised plan.calls; faults = if next_fails plan then raised plan.faults else plan.faults }
