-- Fronts of a stream and of a capture: what is read of the first bytes that came, and what their marks show.
use Rattle.std.specs.Prelude.{◌≡◌, ℕ, List, [], ◌++◌, map, Option, Some, Ok, ⊤}
use Rattle.px_core.specs.declared.surface.Size.{Size}
use Rattle.caps_sets.specs.declared.confirmed.Confirmed.{Confirmed}
use Rattle.caps_sets.specs.Confirmed.{depth_of}
use Rattle.session_rules.specs.declared.entry.Entry.{Entry}
use Rattle.session_rules.specs.Journal.{Head, IsLegalJournal, ChangesAreTheHolders}
use Rattle.session_rules.specs.Steps.{journal_of_steps, frame_numbers}
use Rattle.order_means.specs.FrameMarks.{ClientReading, read_on, read_stream, pictures_at_marks}
use Rattle.order_means.specs.Packets.{without_pointers, pointer_packets}
use Rattle.script_rules.specs.Script.{Asked, LineRefusal, Script, Opening}
use Rattle.script_rules.specs.Script.Opening.{NoSize, Unended, Opened}
use Rattle.script_rules.specs.Capture.{written_bytes}
use Rattle.script_rules.specs.CaptureText.{capture_of_script, encoder_frames}
use Rattle.headline.specs.Headline.{pictures_after, steps_of, confirmed_in, EveryViewerOfSteps}
use Rattle.headline.specs.Pointed.{shape_after, shapes_at_marks, packets_told}
use Rattle.headline.specs.Sent.{SendsBytes}

-- a list is a front of another
pub record IsFront {A : Type 0} (front whole : List A) : Type 0 where
  pub rest : List A
  pub joined : whole ≡ front ++ rest

-- a front of a stream is read without a refusal; what comes after it is read on from there; the pictures at its marks are the first ones
pub record ReadsFront (confirmed : Confirmed) (size : Size) (front rest : List ℕ) (whole : ClientReading) : Type 0 where
  pub reached : ClientReading
  pub front_is_read : read_stream confirmed size front ≡ Ok reached
  pub rest_is_read : read_on confirmed size reached rest ≡ Ok whole
  pub pictures_are_first : IsFront reached.view.pictures whole.view.pictures

-- the marks of these bytes show the first ones of a list of pictures
pub record ShowsFirst (confirmed : Confirmed) (size : Size) (bytes : List ℕ) (pictures : List (List (Option ℕ))) : Type 0 where
  pub shown : List (List (Option ℕ))
  pub marks_show : pictures_at_marks confirmed size bytes ≡ Ok shown
  pub are_first : IsFront shown pictures

-- a viewer's bytes aren't refused; their marks, one for each of the first ones of these takes, show, cut to the depth that the
-- viewer confirmed, the pictures after exactly as many entries of the journal as the takes found
pub record SeesFirstOfJournal (size : Size) (confirmed : Confirmed) (j : List Entry) (numbers : List ℕ) (bytes : List ℕ) : Type 0 where
  pub seen : List ℕ
  pub are_first : IsFront seen numbers
  pub marks_show_journal : pictures_at_marks confirmed size bytes ≡ Ok (pictures_after (depth_of confirmed) size j seen)

-- a front of a viewer's bytes with its pointers: the packets in it aren't refused; at its marks, one for each of these takes, it shows the pointers after
-- exactly as many entries of the journal as they found; and its packets of pointers are the first ones of those for the pointer's changes
pub record SeesFirstPointers (size : Size) (confirmed : Confirmed) (j : List Entry) (numbers seen : List ℕ) (written : List ℕ) : Type 0 where
  pub marks_show_pointers : shapes_at_marks confirmed size written ≡ Some (map (λ n. shape_after confirmed size j n) seen)
  pub packets_are_first : IsFront (pointer_packets written) (packets_told confirmed size j [] numbers)

-- a front of a viewer's bytes: without the packets of pointers it shows the pictures of the first takes, and with them the pointers of these same takes
pub record SeesFirst (size : Size) (confirmed : Confirmed) (j : List Entry) (numbers : List ℕ) (written : List ℕ) : Type 0 where
  pub pictures : SeesFirstOfJournal size confirmed j numbers (without_pointers written)
  pub pointers : SeesFirstPointers size confirmed j numbers pictures.seen written

-- for a list of steps, and a front of what each viewer is sent, with pointers: each viewer sees its first takes, the journal of all the steps is legal, and
-- each change in it was made by the holder of control
pub record EveryViewerSeesTheFirst (head : Head) (asked : List Asked) (written : ℕ → List ℕ) : Type 0 where
  pub viewers : (v : ℕ)
      → SeesFirst head.size (confirmed_in head asked v) (journal_of_steps head (steps_of asked)) (frame_numbers head (steps_of asked) v) (written v)
  pub journal_is_legal : IsLegalJournal head (journal_of_steps head (steps_of asked))
  pub changes_are_the_holders : ChangesAreTheHolders head.size (journal_of_steps head (steps_of asked))

-- each viewer's bytes in a front of a script's capture
abbrev pub EveryViewerOfFront : Script → List ℕ → Type 0
EveryViewerOfFront s front = EveryViewerSeesTheFirst s.head s.asked (λ v. written_bytes v front)

-- nobody is sent a byte where no script was opened
abbrev pub EveryViewerOfOpeningFront : Opening → List ℕ → Type 0
EveryViewerOfOpeningFront NoSize front = ⊤
EveryViewerOfOpeningFront Unended front = ⊤
EveryViewerOfOpeningFront (Opened s) front = EveryViewerOfFront s front

-- ---- a capture that was cut

abbrev pub script_of : Head → List Asked → Option LineRefusal → Script
script_of head asked refusal = record { head = head; asked = asked; refusal = refusal }

-- a front of the capture of a script's first steps, and of a last line where one is written; what these steps send is bytes
pub record IsCutCapture (s : Script) (front : List ℕ) : Type 0 where
  pub steps : List Asked
  pub later : List Asked
  pub refusal : Option LineRefusal
  pub rest : List ℕ
  pub are_first : s.asked ≡ steps ++ later
  pub written : capture_of_script encoder_frames (script_of s.head steps refusal) ≡ front ++ rest
  pub sends_bytes : SendsBytes s.head steps

-- every viewer of a script's steps sees the journal in what the encoder sends, and these bytes are its capture as far as it was written
abbrev pub IsSentWhatIsWritten : Script → List ℕ → Type 0
IsSentWhatIsWritten s front = EveryViewerOfSteps s.head s.asked × IsCutCapture s front
