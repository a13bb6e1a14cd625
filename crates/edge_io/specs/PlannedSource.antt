-- A source that fails at listed calls.
use Rattle.std.specs.Prelude.{ℕ, List, Bool, true, false}
use Rattle.edge_io.specs.declared.source.Got.{Got}
use Rattle.edge_io.specs.declared.source.Got.TheVariants.{Failed}
use Rattle.edge_io.specs.Supply.{Supply, read_count, answer_of_count, buffer_after_read, supply_after_read}
use Rattle.edge_io.specs.Plan.{CallPlan, next_fails, plan_after_call}

pub record PlannedSource : Type 0 where
  pub supply : Supply
  pub plan : CallPlan

-- a call that fails answers so
abbrev pub planned_answer : Bool → ℕ → Got
planned_answer true count = Failed
planned_answer false count = answer_of_count count

-- it gives nothing
abbrev pub planned_buffer : Bool → ℕ → Supply → List ℕ → List ℕ
planned_buffer true count supply buf = buf
planned_buffer false count supply buf = buffer_after_read count supply buf

-- and takes nothing
abbrev pub planned_supply : Bool → ℕ → Supply → Supply
planned_supply true count supply = supply
planned_supply false count supply = supply_after_read count supply

-- the source after a read into so much room
abbrev pub source_after_read : PlannedSource → ℕ → PlannedSource
source_after_read source room = record {
  supply = planned_supply (next_fails source.plan)
      (read_count source.supply room) source.supply;
  plan = plan_after_call source.plan;
}
