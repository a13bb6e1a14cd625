-- A client that was ready, and was let in or not.
use Rattle.std.proofs.Common.{◌≡◌, ℕ, List, [], refl}
use Rattle.std.specs.Prelude.{true, Some, Result, Ok, Err}
use Rattle.edge_io.specs.Outside.{Output, Outside, outside}
use Rattle.px_core.specs.declared.surface.Size.{Size}
use Rattle.px_core.specs.Rectangle.{is_session_size}
use Rattle.conn_rules.specs.Hearing.{Hearing, first_hearing}
use Rattle.session_rules.specs.Journal.{Head, IsLegalJournal}
use Rattle.frame_rules.specs.Describes.{HasAllCaches}
use Rattle.serve_rules.specs.Turns.{SessionPass, Idles}
use Rattle.serve_rules.specs.declared.ends.ConnEnd.{ConnEnd}
use Rattle.serve_rules.specs.declared.noted.ConnReport.{ConnReport}
use Rattle.serve_rules.specs.declared.noted.Noted.{Noted}
use Rattle.viewer_run.specs.declared.guest.Guest.{Guest}
use Rattle.viewer_run.specs.declared.arriving.Visit.{Visit}
use Rattle.viewer_run.specs.Greeting.{Greets}
use Rattle.viewer_run.specs.Arriving.{GuestServed}
use Rattle.viewer_run.specs.LetIn.{IsReported, ServesReady}
use Rattle.viewer_run.specs.Links.{ServesViewer}
use Rattle.viewer_run.proofs.Outsiders.{not_let_in}
use Rattle.viewer_run.proofs.Visited.{visited}

module _ (head : Head) (p p1 r : SessionPass) (size : Size) (conn : Hearing) (name : List ℕ) (guest : Guest) (report : ConnReport) (link between spent : Outside) where
  served_by : (came : Result (Visit × Noted) ConnEnd) (mid : Output) → size ≡ head.size → is_session_size head.size.w head.size.h ≡ true → HasAllCaches guest.confirmed
      → Idles p p1 → IsLegalJournal head r.seen → Greets (first_hearing size) conn [] name link between (Ok (Some guest))
      → GuestServed head guest conn p1 r between (outside spent.input mid) came → IsReported came report mid spent.output
      → ServesViewer head p r report link spent
  served_by (Ok (visit, noted)) mid same sized caches idle legal given served reported =
      visited head p p1 r size conn name guest visit served.0 noted report.end link between spent mid report refl same sized
      caches idle legal given served.1 served.2 reported.0 reported.1
  served_by (Err end) mid same sized caches idle legal given served reported =
      not_let_in head p p1 r report size conn name guest link between spent.input mid spent.output end same idle legal given served.0 served.1
      reported.0 reported.1

  pub ready_served : size ≡ head.size → is_session_size head.size.w head.size.h ≡ true → HasAllCaches guest.confirmed → Idles p p1 → IsLegalJournal head r.seen
      → Greets (first_hearing size) conn [] name link between (Ok (Some guest))
      → ServesReady head guest conn p1 r report between spent
      → ServesViewer head p r report link spent
  ready_served same sized caches idle legal given s = served_by s.came s.between same sized caches idle legal given s.guest_served s.reported
