-- For what has been asked the demonstration in code stands.
use Rattle.std.specs.Prelude.{◌≡◌, ℕ, ◌+◌, List, length, slice_get, Some, Ok}
use Rattle.px_core.specs.Picture.{listed}
use Rattle.caps_sets.specs.Confirmed.{pointer_cells}
use Rattle.order_means.specs.FrameMarks.{ClientReading}
use Rattle.session_rules.specs.Journal.{Viewer}
use Rattle.session_rules.specs.Steps.{answers_of_steps}
use Rattle.frame_rules.specs.Encoder.{Encoder}
use Rattle.client_view.specs.Clients.{IsReading}
use Rattle.script_rules.specs.Script.{Asked}
use Rattle.script_rules.specs.CaptureText.{Run, run_at_first, run_after_all, encoder_frames}
use Rattle.headline.specs.Headline.{steps_of, confirmed_in, AreByPresentViewers, ConfirmAllCaches}
use Rattle.script_run.specs.Runs.{IsRunOf}
use Rattle.demo_run.specs.Scene.{demo_size, demo_head, viewer_count, role_of, preset_of, joins}
use Rattle.demo_run.specs.Counts.{sent_to, takes_of, read_by, refused_count, kept}
use Rattle.demo_run.specs.declared.watcher.Watcher.{Watcher}
use Rattle.demo_run.specs.declared.demo.Demo.{Demo}
use Rattle.demo_run.specs.Asks.{IsViewer}
use Rattle.demo_run.specs.Watching.{IsNew}

-- the run of what was asked
abbrev pub run_of : List Asked → Run Encoder
run_of done = run_after_all encoder_frames demo_head (run_at_first encoder_frames demo_size) done

-- the sixteen viewers, all present
abbrev pub all_viewers : List Viewer
all_viewers = listed viewer_count 1 (λ v. record { number = v; role = role_of v })

-- a watcher stands for what a viewer was sent, which has no pointer cells
pub record Watches (done : List Asked) (v : ℕ) (w : Watcher) : Type 0 where
  pub reading : ClientReading
  pub read : read_by done v ≡ Ok reading
  pub client : IsReading reading w.client
  pub confirmed : w.client.viewer.confirmed ≡ confirmed_in demo_head done v
  pub pointers : pointer_cells (confirmed_in demo_head done v) ≡ 0
  pub size : w.client.viewer.pictures.size ≡ demo_size
  pub takes : w.takes ≡ kept (takes_of done v)
  pub bytes : w.bytes ≡ kept (length (sent_to done v))

-- each watcher stands for what its viewer was sent
abbrev pub AreWatching : List Asked → List Watcher → Type 0
AreWatching done watchers = (i : ℕ) (w : Watcher) → slice_get watchers i ≡ Some w → Watches done (i + 1) w

-- watchers of the first viewers, none of which was sent a frame
pub record AreNew (count : ℕ) (watchers : List Watcher) : Type 0 where
  pub number : length watchers ≡ count
  pub each : (i : ℕ) (w : Watcher) → slice_get watchers i ≡ Some w → IsNew (preset_of (i + 1)).confirmed demo_size w

-- all viewers are there, one of them holds control, and each one's watcher stands for what it was sent
pub record Stands (done : List Asked) (d : Demo) : Type 0 where
  pub head : d.host.session.head ≡ demo_head
  pub run : IsRunOf d.host (run_of done)
  pub present : AreByPresentViewers demo_head done
  pub caches : ConfirmAllCaches done
  pub seated : (run_of done).play.reached.viewers ≡ all_viewers
  pub holder : IsViewer (run_of done).play.reached.holder
  pub number : length d.watchers.items ≡ viewer_count
  pub watchers : AreWatching done d.watchers.items
  pub refused : d.refused ≡ kept (refused_count (answers_of_steps demo_head (steps_of done)))

-- it stands for something
pub record Goes (d : Demo) : Type 0 where
  pub done : List Asked
  pub stands : Stands done d
