-- What a viewer's take is, and what it leaves.
use Rattle.std.specs.Prelude.{◌≡◌, ℕ, ◌+◌, ◌==◌, Bool, true, false, ◌&&◌, ◌||◌, not, length}
use Rattle.px_core.specs.Tiles.{Tiles, no_tiles, all_tiles, share_tile}
use Rattle.session_rules.specs.Steps.{TakeOf, Play, PerViewer, replaced_for}
use Rattle.frame_rules.specs.Frame.{FrameOf, frame_of}
use Rattle.session_core.specs.SessionModel.{SessionModel, asked_by, is_suppressed}
use Rattle.frame_plan.specs.Takes.{DeskModel, TakeModel, taken_as}
use Rattle.frame_plan.specs.Orders.{all_cached}
use Rattle.frame_plan.specs.declared.taken.Taken.{Taken}
use Rattle.frame_plan.specs.declared.taken.Taken.TheVariants.{Frame, Nothing}

-- whether a take has work: the viewer isn't suppressed, and the journal has grown since its last frame or a tile is asked for
abbrev pub is_work : SessionModel → DeskModel → Bool
is_work s d = not (is_suppressed s d.v) && (not (d.number == length s.journal) || share_tile s.head.size (asked_by s d.v) all_tiles)

-- what the take finds
abbrev pub take_at : SessionModel → DeskModel → TakeOf
take_at s d = record { before = d.number; number = length s.journal; asked = asked_by s d.v }

-- its frame
abbrev pub frame_at : SessionModel → DeskModel → FrameOf
frame_at s d = frame_of s.head.size d.confirmed s.journal d.held (take_at s d)

-- what it holds
abbrev pub taken_at : SessionModel → DeskModel → TakeModel
taken_at s d = record {
  size = s.head.size;
  serial = d.taken;
  before = d.number;
  number = length s.journal;
  held_before = d.held;
  frame = taken_as s.head.size (frame_at s d);
  cached = all_cached d.confirmed (frame_at s d).sent;
}

-- what it gives
abbrev pub taken_if : Bool → SessionModel → DeskModel → Taken
taken_if true s d = Frame (taken_at s d)
taken_if false s d = Nothing

-- what is kept of the viewer after it
abbrev pub desk_if : Bool → SessionModel → DeskModel → DeskModel
desk_if true s d = record d { number = length s.journal; held = (frame_at s d).held; taken = d.taken + 1 }
desk_if false s d = d

-- what the viewers have asked for after it
abbrev pub asked_if : Bool → ℕ → PerViewer Tiles → PerViewer Tiles
asked_if true v asked = replaced_for v no_tiles asked
asked_if false v asked = asked

-- a session in the course of steps is, for a viewer, this one with what is kept of the viewer
pub record IsPlayOf (s : SessionModel) (d : DeskModel) (p : Play) : Type 0 where
  pub taken : p.taken d.v ≡ d.number
  pub reached : p.reached.length ≡ length s.journal
  pub asked : p.asked d.v ≡ asked_by s d.v
  pub suppressed : p.suppressed d.v ≡ is_suppressed s d.v
