-- What a viewer makes of an honest host's bytes: the connection sequence's answers, and then what the steps of a session send it.
use Rattle.std.specs.Prelude.{◌≡◌, ℕ, List, ◌++◌, Some, None, Ok}
use Rattle.px_core.specs.declared.surface.Size.{Size}
use Rattle.caps_sets.specs.declared.confirmed.Confirmed.{Confirmed}
use Rattle.caps_sets.specs.Confirmed.{depth_of}
use Rattle.order_means.specs.FrameMarks.{ClientReading}
use Rattle.order_means.specs.Packets.{without_pointers}
use Rattle.session_rules.specs.declared.entry.Entry.{Entry}
use Rattle.session_rules.specs.Journal.{Head}
use Rattle.session_rules.specs.Steps.{journal_of_steps, frame_numbers}
use Rattle.script_rules.specs.Script.{Asked}
use Rattle.viewer_rules.specs.declared.stage.Stage.TheVariants as stage
use Rattle.viewer_rules.specs.ViewerHandshake.{Watched, viewer_handshake}
use Rattle.viewer_rules.specs.Rounds.{answers, greeting, joined}
use Rattle.viewer_rules.specs.Shown.{shown_read, look_refusal}
use Rattle.headline.specs.Headline.{pictures_after, steps_of, confirmed_in}
use Rattle.headline.specs.Fronts.{IsFront}
use Rattle.headline.specs.Sent.{sent_to}

-- what a viewer of this name, which confirms this, answers to the host of a picture of this size that sends these bytes behind the connection sequence, and
-- where its stream stands then
abbrev pub watched_behind : List ℕ → Confirmed → Size → List ℕ → Watched
watched_behind name c size bytes = viewer_handshake name c (joined (answers size (depth_of c)) ++ bytes)

-- a viewer has said its greeting and no more; nothing is refused, and the connection goes on; at each mark it was shown the picture, cut to its depth, after so
-- many entries of a journal
pub record ShowsJournal (name : List ℕ) (c : Confirmed) (size : Size) (j : List Entry) (numbers : List ℕ) (x : Watched) : Type 0 where
  pub says : x.text ≡ joined (greeting name c)
  pub goes_on : x.after.at.stage ≡ stage.Shown
  pub unrefused : look_refusal c x.after ≡ None
  pub reading : ClientReading
  pub reads : shown_read c x.after.at.size x.after.at.shown ≡ Some (Ok reading)
  pub marks_show : reading.view.pictures ≡ pictures_after (depth_of c) size j numbers

-- what a viewer of a list of steps is sent, without packets of pointers
abbrev pub sent_without : Head → List Asked → ℕ → List ℕ
sent_without head asked v = without_pointers (sent_to head asked v)

-- a viewer of a list of steps that has read these bytes was shown the steps' journal at these takes
abbrev pub ShowsTakes : Head → List Asked → ℕ → (name bytes : List ℕ) → (numbers : List ℕ) → Type 0
ShowsTakes head asked v name bytes numbers =
    ShowsJournal name (confirmed_in head asked v) head.size (journal_of_steps head (steps_of asked)) numbers
    (watched_behind name (confirmed_in head asked v) head.size bytes)

-- it was shown all of its takes
abbrev pub ShowsAllTakes : Head → List Asked → ℕ → List ℕ → Type 0
ShowsAllTakes head asked v name = ShowsTakes head asked v name (sent_without head asked v) (frame_numbers head (steps_of asked) v)

-- it has read a front of its bytes, and was shown its first takes
pub record ShowsFirstTakes (head : Head) (asked : List Asked) (v : ℕ) (name front : List ℕ) : Type 0 where
  pub seen : List ℕ
  pub are_first : IsFront seen (frame_numbers head (steps_of asked) v)
  pub shows : ShowsTakes head asked v name front seen
