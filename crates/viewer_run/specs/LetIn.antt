-- What is done for a client that is ready, with the last word to it.
use Rattle.std.specs.Prelude.{◌≡◌, false, [], Result, Ok, Err}
use Rattle.conn_rules.specs.Hearing.{Hearing}
use Rattle.session_rules.specs.Journal.{Head}
use Rattle.serve_rules.specs.Turns.{SessionPass}
use Rattle.serve_rules.specs.declared.ends.ConnEnd.{ConnEnd}
use Rattle.serve_rules.specs.declared.noted.ConnReport.{ConnReport}
use Rattle.serve_rules.specs.declared.noted.Noted.{Noted}
use Rattle.viewer_run.specs.declared.guest.Guest.{Guest}
use Rattle.viewer_run.specs.declared.arriving.Visit.{Visit}
use Rattle.viewer_run.specs.Arriving.{GuestServed}
use Rattle.edge_io.specs.Outside.{Output, Outside, outside}
use Rattle.viewer_run.specs.LastWords.{SaysLast}

-- a connection is reported as one of nobody
pub record ReportsNobody (report : ConnReport) : Type 0 where
  pub nobody : report.viewer ≡ 0
  pub none : report.places.list ≡ []

-- or as a viewer's
pub record ReportsVisit (visit : Visit) (noted : Noted) (report : ConnReport) : Type 0 where
  pub viewer : report.viewer ≡ visit.v
  pub places : report.places ≡ noted.places

-- a connection is reported, and the last word that is due at its end was said
abbrev pub IsReported : Result (Visit × Noted) ConnEnd → ConnReport → (between spent : Output) → Type 0
IsReported (Ok (visit, noted)) report between spent = ReportsVisit visit noted report × SaysLast visit.end noted.shutdown report.end between spent
IsReported (Err end) report between spent = ReportsNobody report × SaysLast end false report.end between spent

-- a client that is ready was served, and the last word to it was said, from what was written before to what was written after
pub record ServesReady (head : Head) (guest : Guest) (conn : Hearing) (before after : SessionPass) (report : ConnReport) (link spent : Outside) : Type 0 where
  pub came : Result (Visit × Noted) ConnEnd
  pub between : Output
  pub guest_served : GuestServed head guest conn before after link (outside spent.input between) came
  pub reported : IsReported came report between spent.output
