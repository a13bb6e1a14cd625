-- What is done at a gate that is open.
use Rattle.std.specs.Prelude.{◌≡◌, ℕ, Bool, true, List, ◌++◌, map, flat_map, AllPairs}
use Rattle.std.specs.declared.option.Option.{Option}
use Rattle.std.specs.declared.option.Option.TheVariants.{Some}
use Rattle.edge_io.specs.Faults.{Rose}
use Rattle.edge_io.specs.Gate.{Asked}
use Rattle.edge_io.specs.declared.link.Link as links
use Rattle.session_rules.specs.declared.entry.Entry.{Entry}
use Rattle.session_rules.specs.Journal.{Head}
use Rattle.grow_lock.specs.Journal.{IsDisjoint}
use Rattle.serve_rules.specs.Turns.{SessionPass}
use Rattle.serve_rules.specs.declared.noted.ConnReport.{ConnReport}
use Rattle.edge_io.specs.Outside.{Outside, outside_given, outside_spent}
use Rattle.gate_run.specs.declared.served.GateEnd.{GateEnd}
use Rattle.gate_run.specs.declared.served.GateEnd.TheVariants.{Ended, Failed, NoListen}
use Rattle.gate_run.specs.Gates.{GateState, EachServed, AskedFor, EndCause}

-- a gate is open for so many links
abbrev pub IsOpenFor : ℕ → Option Asked → Type 0
IsOpenFor links asked = (port : ℕ) × (asked ≡ Some (record { port = port; links = links }))

-- an open gate said that no further link will come, or its count of faults rose
abbrev pub GivesNoMore : GateEnd → Bool → Bool → ℕ → ℕ → Type 0
GivesNoMore Ended ended_old ended_new faults_old faults_new = (ended_new ≡ true) × (faults_new ≡ faults_old)
GivesNoMore Failed ended_old ended_new faults_old faults_new = (ended_new ≡ ended_old) × Rose faults_old faults_new
GivesNoMore NoListen ended_old ended_new faults_old faults_new = ⊥

-- no place is in both reports
abbrev pub HaveNoPlaceInCommon : ConnReport → ConnReport → Type 0
HaveNoPlaceInCommon report other = IsDisjoint report.places.list other.places.list

module _ {L Reader Writer Spent : Type 0} (link : links.Ghosts L Reader Writer Spent) where
  -- the work for these links was ended, and each went back
  pub record EndsAll (head : Head) (first j : List Entry) (given : List L) (reports : List ConnReport) (finished_old finished_new : List Spent) : Type 0 where
    pub spents : List Spent
    pub finished : finished_new ≡ finished_old ++ spents
    pub served : EachServed head first j (map (outside_given link) given) reports (map (outside_spent link) spents)
    pub places : AllPairs HaveNoPlaceInCommon reports

-- the links of an open gate were served, over a session that had a first journal: what a pass has seen that met all of theirs, and their places are its own
pub record ServesOpen (head : Head) (first : List Entry) (before after : GateState) (pass : SessionPass) (reports : List ConnReport) (end : GateEnd) : Type 0 where
  pub joined : List Outside
  pub spent : List Outside
  pub given : after.given ≡ before.given ++ joined
  pub finished : after.finished ≡ before.finished ++ spent
  pub served : EachServed head first pass.seen joined reports spent
  pub places : AllPairs HaveNoPlaceInCommon reports
  pub mine : pass.mine ≡ flat_map (λ r. r.places.list) reports
  pub asked : after.asked ≡ before.asked
  pub cause : GivesNoMore end before.ended after.ended before.faults after.faults

-- likewise from before it was opened, or it couldn't be
pub record ServesBehind (head : Head) (first : List Entry) (port links : ℕ) (before after : GateState) (pass : SessionPass) (reports : List ConnReport)
    (end : GateEnd) : Type 0 where
  pub joined : List Outside
  pub spent : List Outside
  pub given : after.given ≡ before.given ++ joined
  pub finished : after.finished ≡ before.finished ++ spent
  pub served : EachServed head first pass.seen joined reports spent
  pub places : AllPairs HaveNoPlaceInCommon reports
  pub mine : pass.mine ≡ flat_map (λ r. r.places.list) reports
  pub asked : AskedFor end port links before.asked after.asked
  pub cause : EndCause end joined before after
