-- The walk over pending drawings, as code keeps it.
use Rattle.std.specs.Prelude.{◌≡◌, ℕ, Option, List, ◌++◌}
use Rattle.px_core.specs.declared.surface.Size.{Size}
use Rattle.px_core.specs.TileFlags.{tiles}
use Rattle.caps_sets.specs.declared.confirmed.Confirmed.{Confirmed}
use Rattle.session_rules.specs.Pending.{Pending}
use Rattle.frame_rules.specs.Frame.{Walk, Walked, Sent, walk_after, sent_from}
use Rattle.frame_plan.specs.Orders.{sent_to}
use Rattle.frame_plan.specs.declared.walk.Walker.{Walker}

-- the walk that code keeps
abbrev pub walk_of : Walker → Walk
walk_of w = record { dirty = tiles w.dirty; held = w.held }

-- the walk went on by a drawing, which goes to a position, or doesn't go
pub record HasDecided (w : Walked) (p : Pending) (position : Option ℕ) (new : Walker) : Type 0 where
  pub walk : walk_of new ≡ w.walk
  pub sent : sent_to p position ≡ w.sent

-- the walk went on by a drawing, which was appended where it goes as an order
pub record HasGone (w : Walked) (before : List Sent) (new : Walker) (after : List Sent) : Type 0 where
  pub walk : walk_of new ≡ w.walk
  pub sent : after ≡ before ++ w.sent

-- it went on over drawings, one after the other
pub record HasGoneOver (size : Size) (c : Confirmed) (old : Walker) (before : List Sent) (ps : List Pending) (new : Walker) (after : List Sent) : Type 0 where
  pub walk : walk_of new ≡ walk_after size c (walk_of old) ps
  pub sent : after ≡ before ++ sent_from size c (walk_of old) ps

-- likewise from no order on
pub record HasWalkedAll (size : Size) (c : Confirmed) (old : Walker) (ps : List Pending) (orders : List Sent) (new : Walker) : Type 0 where
  pub walk : walk_of new ≡ walk_after size c (walk_of old) ps
  pub sent : orders ≡ sent_from size c (walk_of old) ps

-- it went on without an order
pub record HasJumped (old : Walker) (w : Walk) (new : Walker) : Type 0 where
  pub walk : walk_of new ≡ w

-- it is at its beginning
pub record IsBegun (new : Walker) (w : Walk) : Type 0 where
  pub walk : walk_of new ≡ w
