-- What becomes in one turn of the tiles that viewers have asked for, and of the viewers to whom output is stopped.
use Rattle.std.specs.Prelude.{ℕ, Bool, true, false, ◌&&◌, ◌||◌, ◌==◌, not, length}
use Rattle.px_core.specs.declared.rectangle.Rect.{Rect}
use Rattle.px_core.specs.Tiles.{Tiles, all_tiles, either_tiles, share_tile, tiles_of}
use Rattle.session_rules.specs.Steps.{PerViewer, replaced_for}
use Rattle.session_core.specs.SessionModel.{SessionModel, is_here, asked_by, is_suppressed}
use Rattle.frame_plan.specs.Plans.{is_work}
use Rattle.viewer_sender.specs.Senders.{SenderModel, desk_of}
use Rattle.viewer_run.specs.declared.sends.Due.{Due}
use Rattle.viewer_run.specs.declared.sends.Due.TheVariants.{Next, Last}

-- the tiles that viewers have asked for once one of them, if it is present, has asked for those of an area
abbrev pub asked_with : Bool → SessionModel → ℕ → Rect → PerViewer Tiles
asked_with true s v area = replaced_for v (either_tiles (asked_by s v) (tiles_of s.head.size area)) (asked_by s)
asked_with false s v area = asked_by s

-- to whom output is stopped once it was stopped or allowed to one of them, if it is present
abbrev pub suppressed_with : Bool → SessionModel → ℕ → Bool → PerViewer Bool
suppressed_with true s v stop = replaced_for v stop (is_suppressed s)
suppressed_with false s v stop = is_suppressed s

-- whether a take finds a frame: its viewer is present and has work
abbrev pub finds_frame : SessionModel → SenderModel → Bool
finds_frame s sender = is_here s sender.v && is_work s (desk_of sender)

-- whether it does so once output is allowed: its viewer is present, and the journal has grown since its last frame or a tile is asked for
abbrev pub finds_last : SessionModel → SenderModel → Bool
finds_last s sender = is_here s sender.v && (not (sender.number == length s.journal) || share_tile s.head.size (asked_by s sender.v) all_tiles)

-- whether a take finds the frame that is due
abbrev pub finds : Due → SessionModel → SenderModel → Bool
finds Next = finds_frame
finds Last = finds_last

-- to whom output is stopped once it was allowed to one of them, where its last frame is due
abbrev pub allowed_as : Due → ℕ → PerViewer Bool → PerViewer Bool
allowed_as Next v stopped = stopped
allowed_as Last v stopped = replaced_for v false stopped

-- likewise where that viewer is present
abbrev pub suppressed_as : Due → SessionModel → ℕ → PerViewer Bool
suppressed_as Next s v = is_suppressed s
suppressed_as Last s v = suppressed_with (is_here s v) s v false
