-- What is written where a service was cut off, by the bytes that its source had handed out, and what the frames in it show.
use Rattle.std.specs.Prelude.{◌≡◌, ℕ, ◌≤◌, List, ◌++◌, length, take, drop}
use Rattle.std.specs.Io.KnownBytes.{Appends, Consumes}
use Rattle.std.specs.declared.option.Option.{Option}
use Rattle.std.specs.declared.option.Option.TheVariants.{Some, None}
use Rattle.px_core.specs.declared.surface.Size.{Size}
use Rattle.session_rules.specs.Journal.{Head, IsLegalJournal, ChangesAreTheHolders}
use Rattle.session_rules.specs.Steps.{journal_of_steps, frame_numbers}
use Rattle.script_rules.specs.Script.{Asked}
use Rattle.script_rules.specs.CaptureText.{run_at_first, sent_from, encoder_frames}
use Rattle.headline.specs.Headline.{steps_of, confirmed_in, EveryViewerSeesTheJournal}
use Rattle.headline.specs.Fronts.{IsFront, SeesFirst}
use Rattle.answer_run.specs.Asking.{owners_head, client}
use Rattle.answer_run.specs.Service.{asked_of_stream, replies_of_stream, frames_of_stream, written_of_stream, end_so_far_of_stream, answer_of_stream}

-- what of a text are frames, with the pointers before them, which stand behind these replies, and are at most these
abbrev pub frames_in : (replies frames : List ℕ) → List ℕ → List ℕ
frames_in replies frames text = take (length frames) (drop (length replies) text)

-- bytes, with packets of pointers, show the client its first takes among the steps that are asked for, and aren't refused: by the pictures after exactly as
-- many entries of the journal as these takes found, and by the pointers after them; that journal is legal, and each change in it was made by the holder of control
pub record ShowsFirstTakes (head : Head) (asked : List Asked) (bytes : List ℕ) : Type 0 where
  pub client_sees : SeesFirst head.size (confirmed_in head asked client) (journal_of_steps head (steps_of asked)) (frame_numbers head (steps_of asked) client) bytes
  pub journal_is_legal : IsLegalJournal head (journal_of_steps head (steps_of asked))
  pub changes_are_the_holders : ChangesAreTheHolders head.size (journal_of_steps head (steps_of asked))

-- a text is a front of the answer to a stream, and the frames in it show the client its first takes
pub record IsFrontOfAnswer (size : Size) (owner stream text : List ℕ) : Type 0 where
  pub front : IsFront text (answer_of_stream size owner stream)
  pub shows_journal : ShowsFirstTakes (owners_head size owner) (asked_of_stream size owner stream)
      (frames_in (replies_of_stream size owner stream) (frames_of_stream size owner stream) text)

-- a service wrote exactly what is due for the bytes of the stream that the source handed out in it: the replies, and then the frames with
-- the pointers before them, which aren't refused, and whose marks show the pictures after exactly as many entries of the journal as the takes
-- found, and the pointers after them. These bytes bring no end, so no ultimatum is due
pub record WritesHandedBytes (size : Size) (owner stream : List ℕ) (left told telling : Option (List ℕ)) : Type 0 where
  pub handed : List ℕ
  pub is_handed : Consumes (Some stream) left handed
  pub written : Appends told telling (written_of_stream size owner handed)
  pub goes_on : end_so_far_of_stream size owner handed ≡ None
  pub shows_journal : EveryViewerSeesTheJournal (owners_head size owner) (asked_of_stream size owner handed)
      (sent_from encoder_frames (owners_head size owner) (run_at_first encoder_frames size) (asked_of_stream size owner handed))
  pub is_answer : IsFrontOfAnswer size owner stream (written_of_stream size owner handed)

-- how many bytes are read at once, at most
abbrev pub read_room : ℕ
read_room = 16384

-- a service wrote all that is due for the bytes of the stream that the source handed out before the last read, and then a front of
-- what is due for those of that read
pub record WritesAFront (size : Size) (owner stream : List ℕ) (left told telling : Option (List ℕ)) : Type 0 where
  pub served : List ℕ
  pub last : List ℕ
  pub text : List ℕ
  pub are_handed : Consumes (Some stream) left (served ++ last)
  pub at_once : length last ≤ read_room
  pub written : Appends told telling text
  pub served_first : IsFront (written_of_stream size owner served) text
  pub for_handed : IsFront text (answer_of_stream size owner (served ++ last))
  pub is_answer : IsFrontOfAnswer size owner stream text
