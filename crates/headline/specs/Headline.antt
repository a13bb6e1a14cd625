-- The headline: whatever the interleaving of joins, inputs, drawings, refreshes, takes and departures, no viewer's bytes are
-- ever refused by the protocol's own reading, and at each mark they show, cut to the viewer's depth, the picture after exactly the
-- journal entries that the frame's take found, and the pointer after them; each change was made by the holder of control.
use Rattle.std.specs.Prelude.{◌≡◌, ℕ, Bool, true, List, [], ◌∷◌, map, Ok, ⊤, IsTrue}
use Rattle.std.specs.declared.option.Option.{Option}
use Rattle.px_core.specs.declared.depth.Depth.{Depth}
use Rattle.px_core.specs.declared.surface.Size.{Size}
use Rattle.px_core.specs.Depth.{seen}
use Rattle.px_core.specs.Rectangle.{is_session_size}
use Rattle.caps_sets.specs.declared.confirmed.Confirmed.{Confirmed}
use Rattle.caps_sets.specs.Confirmed.{depth_of, takes_fast}
use Rattle.session_rules.specs.declared.entry.Entry.{Entry}
use Rattle.session_rules.specs.Journal.{Head, picture_after_entries, is_present, IsLegalJournal, ChangesAreTheHolders}
use Rattle.session_rules.specs.Steps.{Step, Play, play_at_first, outcome, journal_of_steps, frame_numbers}
use Rattle.session_rules.specs.Steps.Step.{JoinStep, LeaveStep, InputStep, DrawStep, RefreshStep, SuppressStep, TakeStep}
use Rattle.order_means.specs.FrameMarks.{pictures_at_marks, EndsBetween}
use Rattle.order_means.specs.Packets.{without_pointers}
use Rattle.script_rules.specs.Script.{Asked, Script, Opening, opening_of}
use Rattle.script_rules.specs.Script.Opening.{NoSize, Unended, Opened}
use Rattle.script_rules.specs.Capture.{written_bytes}
use Rattle.frame_rules.specs.Describes.{HasAllCaches}
use Rattle.script_rules.specs.CaptureText.{run_at_first, run_after_all, sent_from, encoder_frames}
use Rattle.headline.specs.Pointed.{SeesPointers}

-- a picture of which each pixel is known, cut to a depth
abbrev pub known_picture : Depth → List ℕ → List (Option ℕ)
known_picture depth picture = map (seen depth) picture

-- the pictures after these numbers of a journal's entries, cut to a depth
abbrev pub pictures_after : Depth → Size → List Entry → List ℕ → List (List (Option ℕ))
pictures_after depth size j numbers = map (λ n. known_picture depth (picture_after_entries size j n)) numbers

-- a viewer's bytes aren't refused and leave no rest after their last whole packet; their marks, one for each of these takes, show,
-- cut to the depth that the viewer confirmed, the pictures after exactly as many entries of the journal as the takes found
pub record SeesJournal (size : Size) (confirmed : Confirmed) (j : List Entry) (numbers : List ℕ) (bytes : List ℕ) : Type 0 where
  pub marks_show_journal : pictures_at_marks confirmed size bytes ≡ Ok (pictures_after (depth_of confirmed) size j numbers)
  pub ends_between_packets : EndsBetween (takes_fast confirmed) bytes

abbrev pub steps_of : List Asked → List Step
steps_of asked = map (λ a. a.step) asked

-- what a viewer confirmed by its join among these steps
abbrev pub confirmed_in : Head → List Asked → ℕ → Confirmed
confirmed_in head asked v = (run_after_all encoder_frames head (run_at_first encoder_frames head.size) asked).confirmed v

-- ---- lists of steps

-- whether a step is a join, or by a viewer that is present
abbrev pub is_by_present_viewer : Play → Step → Bool
is_by_present_viewer p (JoinStep name) = true
is_by_present_viewer p (LeaveStep v) = is_present v p.reached.viewers
is_by_present_viewer p (InputStep v event) = is_present v p.reached.viewers
is_by_present_viewer p (DrawStep v d) = is_present v p.reached.viewers
is_by_present_viewer p (RefreshStep v rect) = is_present v p.reached.viewers
is_by_present_viewer p (SuppressStep v stop) = is_present v p.reached.viewers
is_by_present_viewer p (TakeStep v) = is_present v p.reached.viewers

abbrev pub AreByPresentFrom : Head → Play → List Asked → Type 0
AreByPresentFrom head p [] = ⊤
AreByPresentFrom head p (a ∷ rest) = IsTrue (is_by_present_viewer p a.step) × AreByPresentFrom head (outcome head p a.step).play rest

-- each step but a join is by a viewer that is present in its turn
abbrev pub AreByPresentViewers : Head → List Asked → Type 0
AreByPresentViewers head asked = AreByPresentFrom head (play_at_first head.size) asked

-- what is confirmed has three bitmap and ten glyph caches, each time
abbrev pub ConfirmAllCaches : List Asked → Type 0
ConfirmAllCaches [] = ⊤
ConfirmAllCaches (a ∷ rest) = HasAllCaches a.confirmed × ConfirmAllCaches rest

-- the size is a session's
abbrev pub HasSessionSize : Head → Type 0
HasSessionSize head = IsTrue (is_session_size head.size.w head.size.h)

-- for a list of steps, and the bytes that each viewer is sent, with pointers: without those each viewer sees the journal, and with them the journal's pointers
pub record EveryViewerSeesTheJournal (head : Head) (asked : List Asked) (written : ℕ → List ℕ) : Type 0 where
  pub viewers : (v : ℕ)
      → SeesJournal head.size (confirmed_in head asked v) (journal_of_steps head (steps_of asked)) (frame_numbers head (steps_of asked) v)
      (without_pointers (written v))
  pub pointers : (v : ℕ)
      → SeesPointers head.size (confirmed_in head asked v) (journal_of_steps head (steps_of asked)) (frame_numbers head (steps_of asked) v) (written v)
  pub journal_is_legal : IsLegalJournal head (journal_of_steps head (steps_of asked))
  pub changes_are_the_holders : ChangesAreTheHolders head.size (journal_of_steps head (steps_of asked))

-- for every list of steps of a session's size, each but a join by a present viewer, whose viewers confirm all caches: with what the encoder sends
abbrev pub EveryViewerOfSteps : Head → List Asked → Type 0
EveryViewerOfSteps head asked = HasSessionSize head → AreByPresentViewers head asked → ConfirmAllCaches asked
    → EveryViewerSeesTheJournal head asked (sent_from encoder_frames head (run_at_first encoder_frames head.size) asked)

-- ---- scripts, whose lists of steps keep these premises

-- for a script and its capture
abbrev pub EveryViewerOfScript : Script → List ℕ → Type 0
EveryViewerOfScript s capture = EveryViewerSeesTheJournal s.head s.asked (λ v. written_bytes v capture)

abbrev pub EveryViewerOfOpening : Opening → List ℕ → Type 0
EveryViewerOfOpening NoSize capture = ⊤
EveryViewerOfOpening Unended capture = ⊤
EveryViewerOfOpening (Opened s) capture = EveryViewerOfScript s capture

-- for a script's bytes and its capture
abbrev pub EveryViewerOfCapture : List ℕ → List ℕ → Type 0
EveryViewerOfCapture bytes capture = EveryViewerOfOpening (opening_of bytes) capture

-- what is said of a script, where one was opened
abbrev pub IfOpened : Opening → (Script → Type 0) → Type 0
IfOpened NoSize fact = ⊤
IfOpened Unended fact = ⊤
IfOpened (Opened s) fact = fact s
