-- A gate in memory that fails at listed calls.
use Rattle.std.specs.Prelude.{ℕ, List, [], ◌∷◌, ◌++◌, length, drop, Bool, true, false, not, ◌&&◌, if◌then◌else◌}
use Rattle.std.specs.declared.option.Option.{Option}
use Rattle.std.specs.declared.option.Option.TheVariants.{None}
use Rattle.edge_io.specs.declared.gate.Next.{Next}
use Rattle.edge_io.specs.declared.gate.Next.TheVariants as next
use Rattle.edge_io.specs.declared.mem_link.MemLink.{MemLink}
use Rattle.edge_io.specs.Gate.{Asked, asked_after, has_room}
use Rattle.edge_io.specs.Plan.{CallPlan, new_plan, next_fails, plan_after_call}

-- the links not yet handed out, those given and those that came back, what was asked, whether it has ended, and the plan
pub record PlannedGate : Type 0 where
  pub waiting : List MemLink
  pub given : List MemLink
  pub finished : List MemLink
  pub asked : Option Asked
  pub ended : Bool
  pub plan : CallPlan

-- a gate before any call
abbrev pub new_gate : List MemLink → List ℕ → PlannedGate
new_gate links fails = record { waiting = links; given = []; finished = []; asked = None; ended = false; plan = new_plan fails }

-- a gate after a call of listen
abbrev pub gate_after_listen : PlannedGate → ℕ → ℕ → PlannedGate
gate_after_listen gate port links = record gate { asked = asked_after (not (next_fails gate.plan)) port links gate.asked; plan = plan_after_call gate.plan }

-- the first of the links, or the end where there is none
abbrev pub first_link : List MemLink → Next MemLink
first_link [] = next.End
first_link (link ∷ links) = next.Link link

-- the next link comes before the end, while fewer were given than were asked for, and there are some
abbrev pub next_answer : PlannedGate → Next MemLink
next_answer gate = if next_fails gate.plan then next.Failed else (if not gate.ended
    && has_room gate.asked (length gate.given) then first_link gate.waiting else next.End)

-- a gate after it has answered so
abbrev pub gate_after_answer : PlannedGate → Next MemLink → PlannedGate
gate_after_answer gate (next.Link link) = record gate { waiting = drop 1 gate.waiting; given = gate.given ++ link ∷ [] }
gate_after_answer gate next.End = record gate { ended = true }
gate_after_answer gate next.Failed = gate

-- a gate after a call of next
abbrev pub gate_after_next : PlannedGate → PlannedGate
gate_after_next gate = record (gate_after_answer gate (next_answer gate)) { plan = plan_after_call gate.plan }
