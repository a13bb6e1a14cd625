-- A replay, and what it has read of a record's bytes.
use Rattle.std.specs.Prelude.{◌≡◌, ◌≤◌, ⊤, ℕ, List, length, take, Option, Some, None, Result, Ok, Err, nat_le, if◌then◌else◌}
use Rattle.session_rules.specs.declared.entry.Entry.{Entry}
use Rattle.session_rules.specs.Journal.{Head, picture_after_entries}
use Rattle.record_rules.specs.Tables.{head_bytes, record_bytes}
use Rattle.record_file.specs.declared.told.Told.{Told}
use Rattle.record_file.specs.declared.course.Course.{Course}
use Rattle.record_file.specs.declared.replay_fault.ReplayFault.{ReplayFault}
use Rattle.record_file.specs.declared.replay_fault.ReplayFault.TheVariants.{BadRecord, Illegal, OutOfMemory}
use Rattle.record_rules.specs.Records.{End}
use Rattle.record_rules.specs.Records.End.{Unfinished}
use Rattle.record_file.specs.Replaying.{Fault, Replayed}
use Rattle.record_file.specs.Replaying.Fault.{BadForm, BadEntry}
use Rattle.record_file.specs.Told.{told_picture}
use Rattle.record_file.specs.Standing.{IsReading, IsFaultTold}

-- how far it has come, what it tells, and what ended it
pub record ReplayOf : Type 0 where
  pub course : Course
  pub told : Told
  pub end : Option ReplayFault

abbrev pub HasReadBy : Option ReplayFault → List ℕ → Course → Told → Type 0
HasReadBy None stream c t = IsReading stream c t
HasReadBy (Some (BadRecord at)) stream c t = IsFaultTold (BadRecord at) stream t
HasReadBy (Some (Illegal k)) stream c t = IsFaultTold (Illegal k) stream t
HasReadBy (Some OutOfMemory) stream c t = ⊥

-- what it tells is what these bytes, all that it was fed, stand for, and it goes on rightly; one that wanted memory has read nothing
abbrev pub HasRead : List ℕ → ReplayOf → Type 0
HasRead stream r = HasReadBy r.end stream r.course r.told

abbrev pub end_of : Result (Unit {0}) ReplayFault → Option ReplayFault
end_of (Ok done) = None
end_of (Err fault) = Some fault

-- the answer is the first fault of the bytes, and none where they have none; want of memory may come in its place
abbrev pub IsAnswered : Result (Unit {0}) ReplayFault → Option Fault → Type 0
IsAnswered (Ok done) fault = fault ≡ None
IsAnswered (Err (BadRecord at)) fault = fault ≡ Some (BadForm at)
IsAnswered (Err (Illegal k)) fault = fault ≡ Some (BadEntry k)
IsAnswered (Err OutOfMemory) fault = ⊤

-- a fact, but where memory was wanting
abbrev pub UnlessMemory : Result (Unit {0}) ReplayFault → Type 0 → Type 0
UnlessMemory (Ok done) P = P
UnlessMemory (Err (BadRecord at)) P = P
UnlessMemory (Err (Illegal k)) P = P
UnlessMemory (Err OutOfMemory) P = ⊤

-- k is the length of the longest list of the first entries whose record has no more bytes than these
pub record IsMostWhole (head : Head) (j : List Entry) (bytes : List ℕ) (k : ℕ) : Type 0 where
  pub some : k ≤ length j
  pub whole : length (record_bytes head (take k j)) ≤ length bytes
  pub most : (i : ℕ) → i ≤ length j → length (record_bytes head (take i j)) ≤ length bytes → i ≤ k

-- of the first bytes of a legal journal's record, with its whole head, the whole entries are told, and the picture after the entries at which it is to be kept
pub record TellsFront (head : Head) (j : List Entry) (bytes : List ℕ) (t : Told) : Type 0 where
  pub count : ℕ
  pub counted : IsMostWhole head j bytes count
  pub size : t.size ≡ Some head.size
  pub length : t.length ≡ count
  pub picture : told_picture t ≡ (if nat_le t.stop count then Some (picture_after_entries head.size j t.stop) else None)

-- such bytes are never refused
abbrev pub IsNeverRefused : Result (Unit {0}) ReplayFault → Type 0
IsNeverRefused (Ok done) = ⊤
IsNeverRefused (Err (BadRecord at)) = ⊥
IsNeverRefused (Err (Illegal k)) = ⊥
IsNeverRefused (Err OutOfMemory) = ⊤

abbrev pub TellsFrontIfWhole : Head → List Entry → List ℕ → Told → Type 0
TellsFrontIfWhole head j bytes t = length (head_bytes head) ≤ length bytes → TellsFront head j bytes t

-- the place of the field of the head that isn't all there; none where the head is whole or refused
abbrev pub IsMissing : Option ℕ → Replayed → End → Type 0
IsMissing (Some at) r end = (r.head ≡ None) × (end ≡ Unfinished at)
IsMissing None r end = (r.head ≡ None) → (r.fault ≡ None) → ⊥
