-- A frame that is written behind a packet.
use Rattle.std.proofs.Common.{◌≡◌, ℕ, List, ◌++◌, sym, ap, ◌∙◌}
use Rattle.std.specs.Prelude.{Option}
use Rattle.caps_sets.specs.declared.confirmed.Confirmed.{Confirmed}
use Rattle.edge_io.specs.Outside.{Output}
use Rattle.frame_rules.specs.Told.{told_after, pointer_bytes}
use Rattle.pointer_share.specs.Desk.{DeskOf, IsDeskOf, IsNoted}
use Rattle.serve_rules.specs.declared.ends.SideEnd.{SideEnd}
use Rattle.viewer_run.specs.Sending.{WritesFrame, WritesPointed}

-- the packet was what there was to tell
pub pointed : (d d' : Option DeskOf) (packet frame : List ℕ) (o o' : Output) (end : SideEnd)
    → ((c : Confirmed) (keys : List ℕ) (key : ℕ) → IsDeskOf c keys d → IsNoted d key → packet ≡ pointer_bytes c keys key)
    → ((c : Confirmed) (keys : List ℕ) (key : ℕ) → IsDeskOf c keys d → IsNoted d key → IsDeskOf c (told_after keys key) d')
    → WritesFrame (packet ++ frame) o o' end → WritesPointed d d' frame o o' end
pointed d d' packet frame o o' end tells after w = record {
  written = w.written;
  told = w.told;
  bytes = λ c keys key of noted. (w.unwritten, ap (λ l. l ++ frame) (sym (tells c keys key of noted)) ∙ w.whole, w.all);
  desk = λ stopped. after;
  only = w.only;
  cause = w.cause;
  calm = w.calm;
}
