-- A frame while it is planned.
use Rattle.std.specs.Prelude.{◌≡◌, ◌==◌, nat_lt, Bool, true, false, List, [], length}
use Rattle.px_core.specs.declared.surface.Size.{Size}
use Rattle.caps_sets.specs.declared.confirmed.Confirmed.{Confirmed}
use Rattle.session_rules.specs.Pending.{Pending, pending_between}
use Rattle.frame_rules.specs.Frame.{Walk, Sent, first_dirty, sent_from, walk_after, jumped, most_orders}
use Rattle.session_core.specs.SessionModel.{SessionModel}
use Rattle.frame_plan.specs.Takes.{DeskModel, TakenFrame}
use Rattle.frame_plan.specs.Walks.{walk_of}
use Rattle.frame_plan.specs.Orders.{drawings_in}
use Rattle.frame_plan.specs.declared.frame.PlannedFrame.{PlannedFrame}
use Rattle.frame_plan.specs.declared.walk.Walker.{Walker}

-- what was planned, as a frame
abbrev pub planned_as : PlannedFrame → TakenFrame
planned_as p = record { first = p.first; sent = drawings_in p.sent; tiles = p.tiles.items; held = p.held }

-- the drawings that are pending
abbrev pub pending_at : SessionModel → DeskModel → List Pending
pending_at s d = pending_between s.head.size s.journal d.number (length s.journal)

-- before the walk
abbrev pub begun_at : SessionModel → DeskModel → Walk
begun_at s d = record { dirty = first_dirty s.head.size (d.number == 0) d.confirmed; held = d.held }

-- the walk over pending drawings, or the jump
abbrev pub walk_if : Bool → Size → Confirmed → Walk → List Pending → Walk
walk_if true size c w ps = jumped size w ps
walk_if false size c w ps = walk_after size c w ps

abbrev pub sent_in : Bool → Size → Confirmed → Walk → List Pending → List Sent
sent_in true size c w ps = []
sent_in false size c w ps = sent_from size c w ps

-- a walk went over what is pending, and this goes as orders
pub record HasPlanned (s : SessionModel) (d : DeskModel) (w : Walker) (orders : List Sent) : Type 0 where
  pub walk : walk_of w ≡ walk_if (nat_lt most_orders (length (pending_at s d))) s.head.size d.confirmed (begun_at s d) (pending_at s d)
  pub sent : orders ≡ sent_in (nat_lt most_orders (length (pending_at s d))) s.head.size d.confirmed (begun_at s d) (pending_at s d)
