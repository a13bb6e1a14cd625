-- What serving a gate comes to.
use Rattle.std.specs.Prelude.{◌≡◌, ℕ, ◌<◌, ◌≤◌, ⊤, Bool, true, false, List, [], ◌∷◌, ◌++◌, length, map, slice_get, Contains, AllPairs}
use Rattle.std.specs.declared.option.Option.{Option}
use Rattle.std.specs.declared.option.Option.TheVariants.{Some}
use Rattle.edge_io.specs.Faults.{Rose}
use Rattle.edge_io.specs.Gate.{Asked}
use Rattle.edge_io.specs.declared.gate.Gate as gates
use Rattle.edge_io.specs.declared.link.Link as links
use Rattle.session_rules.specs.declared.entry.Entry.{Entry}
use Rattle.session_rules.specs.Journal.{Head, IsLegalJournal}
use Rattle.grow_lock.specs.Journal.{StartsWith, IsDisjoint}
use Rattle.serve_rules.specs.Turns.{SessionPass}
use Rattle.serve_rules.specs.declared.noted.ConnReport.{ConnReport}
use Rattle.edge_io.specs.Outside.{Outside, outside_given, outside_spent}
use Rattle.viewer_run.specs.Links.{ServesViewer}
use Rattle.gate_run.specs.declared.served.GateEnd.{GateEnd}
use Rattle.gate_run.specs.declared.served.GateEnd.TheVariants.{Ended, Failed, NoListen}

-- ---- a gate

-- the links that a gate gave and those that came back, what it was asked to open, whether it has ended, and how often it has failed
pub record GateState : Type 0 where
  pub given : List Outside
  pub finished : List Outside
  pub asked : Option Asked
  pub ended : Bool
  pub faults : ℕ

-- a gate as it is now
abbrev pub gate_state : {G L Reader Writer Spent : Type 0} → gates.Ghosts G L Reader Writer Spent → links.Ghosts L Reader Writer Spent → G → GateState
gate_state gate link x =
    record {
      given = map (outside_given link) (gate.given x);
      finished = map (outside_spent link)
          (gate.finished x);
      asked = gate.asked x;
      ended = gate.ended x;
      faults = gate.faults x;
    }

-- ---- its links

-- a link was served by a pass of its own, which had no turn before and has seen a first journal, and what it saw is the front of another one
pub record IsServed (head : Head) (first j : List Entry) (link : Outside) (report : ConnReport) (spent : Outside) : Type 0 where
  pub before : SessionPass
  pub after : SessionPass
  pub no_turn : before.found ≡ []
  pub no_place : before.mine ≡ []
  pub since : StartsWith before.seen first
  pub serves : ServesViewer head before after report link spent
  pub within : StartsWith j after.seen

-- links were served, each with its report and as it came back
abbrev pub EachServed : Head → List Entry → List Entry → List Outside → List ConnReport → List Outside → Type 0
EachServed head first j [] [] [] = ⊤
EachServed head first j [] [] (spent ∷ spents) = ⊥
EachServed head first j [] (report ∷ reports) spents = ⊥
EachServed head first j (link ∷ links) [] spents = ⊥
EachServed head first j (link ∷ links) (report ∷ reports) [] = ⊥
EachServed head first j (link ∷ links) (report ∷ reports) (spent ∷ spents) = IsServed head first j link report spent
    × EachServed head first j links reports spents

-- two reports are of two viewers, if of any, and no place is in both
pub record AreApart (report other : ConnReport) : Type 0 where
  pub viewers : (report.viewer ≡ 0 → ⊥) → report.viewer ≡ other.viewer → ⊥
  pub places : IsDisjoint report.places.list other.places.list

-- ---- whose entries they are

-- a place is among those of the report with this index
abbrev pub StandsIn : List ConnReport → ℕ → ℕ → Type 0
StandsIn reports place index = (report : ConnReport) × (slice_get reports index ≡ Some report) × Contains report.places.list place

-- a place is among those of just one report
pub record IsInJustOne (reports : List ConnReport) (place : ℕ) : Type 0 where
  pub index : ℕ
  pub stands : StandsIn reports place index
  pub only : (other : ℕ) → StandsIn reports place other → other ≡ index

-- a journal goes on from a first one, and each further place is among those of just one report
pub record IsAllReported (first j : List Entry) (reports : List ConnReport) : Type 0 where
  pub begins : StartsWith j first
  pub reported : (place : ℕ) → length first ≤ place → place < length j → IsInJustOne reports place

-- ---- all of it

-- what a gate was asked to open: this port for so many links, unless it can't be opened
abbrev pub AskedFor : GateEnd → ℕ → ℕ → Option Asked → Option Asked → Type 0
AskedFor Ended port links before after = after ≡ Some (record { port = port; links = links })
AskedFor Failed port links before after = after ≡ Some (record { port = port; links = links })
AskedFor NoListen port links before after = after ≡ before

-- how the serving ended: the gate said that no further link will come, or its count of faults rose, in the last case before it gave any link
abbrev pub EndCause : GateEnd → List Outside → GateState → GateState → Type 0
EndCause Ended joined before after = (before.ended ≡ false) × (after.ended ≡ true) × (after.faults ≡ before.faults)
EndCause Failed joined before after = (after.ended ≡ before.ended) × Rose before.faults after.faults
EndCause NoListen joined before after = (joined ≡ []) × (after.ended ≡ before.ended) × Rose before.faults after.faults

-- a gate was opened and its links were served, over a session that had a first journal and ends with another one: the links that were given and those that came
-- back, in one order with the reports, which have all that was appended
pub record ServesGate (head : Head) (first : List Entry) (port links : ℕ) (before after : GateState) (j : List Entry) (reports : List ConnReport)
    (end : GateEnd) : Type 0 where
  pub joined : List Outside
  pub spent : List Outside
  pub given : after.given ≡ before.given ++ joined
  pub finished : after.finished ≡ before.finished ++ spent
  pub served : EachServed head first j joined reports spent
  pub legal : IsLegalJournal head j
  pub apart : AllPairs AreApart reports
  pub whole : IsAllReported first j reports
  pub asked : AskedFor end port links before.asked after.asked
  pub cause : EndCause end joined before after
