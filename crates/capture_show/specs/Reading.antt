-- How a capture is read line by line for one of its viewers, and what each call finds.
use Rattle.std.specs.Prelude.{◌≡◌, ℕ, ◌+◌, ◌<◌, min, Bool, true, false, List, [], get_or, ◌==◌, ◌||◌, ⊤, Result, Ok, Err}
use Rattle.std.specs.declared.option.Option.{Option}
use Rattle.std.specs.declared.option.Option.TheVariants.{Some, None}
use Rattle.std.specs.Io.KnownBytes.{prepend_known, Keeps, IsAtEnd}
use Rattle.edge_io.specs.Faults.{Rose, last_count}
use Rattle.line_text.specs.Lines.{Line}
use Rattle.edge_io.specs.Reading.{TakesLine}
use Rattle.px_core.specs.declared.surface.Size.{Size}
use Rattle.caps_sets.specs.declared.confirmed.Confirmed.{Confirmed}
use Rattle.script_rules.specs.Capture.{CaptureLine, JoinedAs, may_stand, joined_after, has_joined, line_read, first_broken_by, bytes_of_line, joined_in_line}
use Rattle.wire_num.specs.declared.out_of_memory.OutOfMemory.{OutOfMemory}
use Rattle.capture_show.specs.Long.{LosesFront}
use Rattle.capture_show.specs.declared.capture_reader.Told.{Told}
use Rattle.capture_show.specs.declared.capture_reader.Told.TheVariants as told

-- ---- viewers that have joined

-- how many numbers a viewer may have, 0 with them
abbrev pub viewer_numbers : ℕ
viewer_numbers = 65536

-- a viewer's flag is set, and the others stay
abbrev pub AddsViewer : ℕ → List Bool → List Bool → Type 0
AddsViewer viewer old new = (u : ℕ) → u < viewer_numbers → get_or new u false ≡ ((viewer == u) || get_or old u false)

-- the flags are those of the viewers that have joined
abbrev pub AreJoined : List ℕ → List Bool → Type 0
AreJoined joined table = (u : ℕ) → u < viewer_numbers → get_or table u false ≡ has_joined u joined

-- ---- a capture

-- a reader: whose bytes it hands out, the text of the last line, the bytes behind it that were read already, the flags of viewers, the bytes that the last line gave the
-- viewer where it gave some, and the number of the next line
pub record CaptureReading : Type 0 where
  pub viewer : ℕ
  pub text : List ℕ
  pub unread : List ℕ
  pub joined : List Bool
  pub bytes : List ℕ
  pub line : ℕ

-- a number that is kept in 64 bits
abbrev pub counted : ℕ → ℕ
counted n = min n last_count

-- a reader stands before line k, and these have joined
pub record StandsBefore (k : ℕ) (joined : List ℕ) (r : CaptureReading) : Type 0 where
  pub line : r.line ≡ counted k
  pub joined_are : AreJoined joined r.joined

-- the bytes not yet read as lines
abbrev pub ahead : CaptureReading → Option (List ℕ) → Option (List ℕ)
ahead r left = prepend_known r.unread left

-- a line says this of a viewer, may stand where these have joined, and then those have
pub record Allows (viewer : ℕ) (joined : List ℕ) (line : Option CaptureLine) (joins_as : Option JoinedAs) (bytes : List ℕ) (table : List Bool) : Type 0 where
  pub said : CaptureLine
  pub says : line ≡ Some said
  pub stands : may_stand joined said ≡ true
  pub joins : joined_in_line viewer line ≡ joins_as
  pub gives : bytes_of_line viewer line ≡ bytes
  pub after : AreJoined (joined_after joined said) table

-- a line breaks the rules of captures, whatever its number is and whatever lines follow
abbrev pub IsBroken : List ℕ → Option CaptureLine → Type 0
IsBroken joined line = (k : ℕ) (others : List ℕ → Option ℕ) → first_broken_by k joined line others ≡ Some k

abbrev pub joined_with : Size → Confirmed → Option JoinedAs
joined_with size confirmed = Some (record { size = size; confirmed = confirmed })

-- a line was read
abbrev pub IsAnswer : Told → Type 0
IsAnswer (told.Joined size confirmed) = ⊤
IsAnswer told.Bytes = ⊤
IsAnswer told.Other = ⊤
IsAnswer (told.Broken k) = ⊤
IsAnswer told.End = ⊥
IsAnswer told.Failed = ⊥

-- what a line tells of a viewer
abbrev pub Judges : Told → (viewer number : ℕ) → List ℕ → Option CaptureLine → List ℕ → List Bool → Type 0
Judges (told.Joined size confirmed) viewer number joined line bytes table = Allows viewer joined line (joined_with size confirmed) [] table
Judges told.Bytes viewer number joined line bytes table = Allows viewer joined line None bytes table
Judges told.Other viewer number joined line bytes table = Allows viewer joined line None [] table
Judges (told.Broken k) viewer number joined line bytes table = IsBroken joined line × ((k ≡ number) × AreJoined joined table)
Judges told.End viewer number joined line bytes table = ⊥
Judges told.Failed viewer number joined line bytes table = ⊥

-- what a line that a reader took tells, before it was line k
pub record JudgesLine (answer : Told) (k : ℕ) (joined : List ℕ) (old new : CaptureReading) (line : Line) : Type 0 where
  pub judges : Judges answer old.viewer (counted k) joined (line_read line) new.bytes new.joined
  pub after : new.line ≡ counted (k + 1)
  pub viewer : new.viewer ≡ old.viewer

-- the next line, k, was read: it says this of the viewer, and the reader stands behind it
pub record ReadsLine (k : ℕ) (joined : List ℕ) (old new : CaptureReading) (before now : Option (List ℕ)) (joins_as : Option JoinedAs) (bytes : List ℕ) : Type 0 where
  pub line : Line
  pub takes : TakesLine before now line
  pub allows : Allows old.viewer joined (line_read line) joins_as bytes new.joined
  pub after : new.line ≡ counted (k + 1)
  pub viewer : new.viewer ≡ old.viewer

-- the next line, k, breaks the rules of captures, and the reader stands behind it
pub record BreaksLine (k : ℕ) (joined : List ℕ) (old new : CaptureReading) (before now : Option (List ℕ)) : Type 0 where
  pub line : Line
  pub takes : TakesLine before now line
  pub breaks : IsBroken joined (line_read line)
  pub after : StandsBefore (k + 1) joined new
  pub viewer : new.viewer ≡ old.viewer

-- a read failed in line k: what was read of the line is lost, and the rest of it is the reader's next line, which has its number
pub record LosesPart (k : ℕ) (joined : List ℕ) (old new : CaptureReading) (before now : Option (List ℕ)) : Type 0 where
  pub loses : LosesFront before now
  pub stands : StandsBefore k joined new
  pub viewer : new.viewer ≡ old.viewer

-- what was found of the bytes ahead by a reader that stood before line k
abbrev pub Finds : Told → ℕ → List ℕ → (old new : CaptureReading) → (before now rest : Option (List ℕ)) → Type 0
Finds (told.Joined size confirmed) k joined old new before now rest = ReadsLine k joined old new before now (joined_with size confirmed) []
Finds told.Bytes k joined old new before now rest = ReadsLine k joined old new before now None new.bytes
Finds told.Other k joined old new before now rest = ReadsLine k joined old new before now None []
Finds (told.Broken line) k joined old new before now rest = BreaksLine k joined old new before now × (line ≡ counted k)
Finds told.End k joined old new before now rest = IsAtEnd before × Keeps before rest
Finds told.Failed k joined old new before now rest = LosesPart k joined old new before now

-- a read fails only where the count of faults rose, and any other answer leaves it
abbrev pub FindCause : Result Told OutOfMemory → ℕ → ℕ → Type 0
FindCause (Ok (told.Joined size confirmed)) before now = now ≡ before
FindCause (Ok told.Bytes) before now = now ≡ before
FindCause (Ok told.Other) before now = now ≡ before
FindCause (Ok (told.Broken line)) before now = now ≡ before
FindCause (Ok told.End) before now = now ≡ before
FindCause (Ok told.Failed) before now = Rose before now
FindCause (Err fault) before now = now ≡ before
