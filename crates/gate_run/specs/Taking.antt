-- How the links of an open gate are taken.
use Rattle.std.specs.Prelude.{◌≡◌, ℕ, ◌≤◌, List, [], length, map, All}
use Rattle.edge_io.specs.declared.gate.Gate as gates
use Rattle.edge_io.specs.declared.link.Link as links
use Rattle.session_rules.specs.declared.entry.Entry.{Entry}
use Rattle.session_rules.specs.Journal.{Head}
use Rattle.grow_lock.specs.Passes.{LockModel}
use Rattle.gate_run.specs.declared.jobs.Job.{Job}
use Rattle.gate_run.specs.declared.served.GateEnd.{GateEnd}
use Rattle.gate_run.specs.OpenGate.{IsOpenFor, GivesNoMore}
use Rattle.gate_run.specs.Working.{IsWork}

module _ {G L Reader Writer Spent : Type 0} (gate : gates.Ghosts G L Reader Writer Spent) where
  -- a gate is open for so many links and has given none, there are no jobs yet, and there is room for each, and for each one's number when it has ended
  pub record CanTake (links : ℕ) (opened : G) (jobs : List (Job L Reader Writer Spent)) (room numbers : ℕ) : Type 0 where
    pub asked : IsOpenFor links (gate.asked opened)
    pub given : gate.given opened ≡ []
    pub none : jobs ≡ []
    pub enough : links ≤ room
    pub each : numbers ≡ links

  -- each link that a gate gave until it gave no more has its job
  pub record HasTaken (link : links.Ghosts L Reader Writer Spent) (lock : LockModel Head Entry) (links : ℕ) (opened after : G)
      (jobs : List (Job L Reader Writer Spent)) (end : GateEnd) : Type 0 where
    pub few : length jobs ≤ links
    pub given : gate.given after ≡ map (λ j. j.given.link.value) jobs
    pub work : All (IsWork link lock) jobs
    pub no_more : GivesNoMore end (gate.ended opened) (gate.ended after) (gate.faults opened) (gate.faults after)
    pub finished : gate.finished after ≡ gate.finished opened
    pub asked : gate.asked after ≡ gate.asked opened
