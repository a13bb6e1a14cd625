-- What a run that replays a record reads and writes.
use Rattle.std.specs.Prelude.{◌≡◌, ◌≤◌, ◌++◌, ℕ, Bool, List, length, IsTrue, ⊤, Result, Ok, Err}
use Rattle.std.specs.declared.option.Option.{Option}
use Rattle.std.specs.declared.option.Option.TheVariants.{Some, None}
use Rattle.std.specs.Io.KnownBytes.{Appends, Keeps, IsAtEnd}
use Rattle.edge_io.specs.Sink.{WritesFront}
use Rattle.session_rules.specs.declared.entry.Entry.{Entry}
use Rattle.session_rules.specs.Journal.{Head, IsLegalJournal, ChangesAreTheHolders, picture_after_entries}
use Rattle.record_rules.specs.Tables.{is_recordable_head}
use Rattle.record_rules.specs.Records.{StandsFor}
use Rattle.script_run.specs.declared.fault.ScriptFault.{ScriptFault}
use Rattle.script_run.specs.declared.fault.ScriptFault.TheVariants as fault
use Rattle.script_run.specs.Run.{Tells}
use Rattle.record_file.specs.Replaying.{replayed}
use Rattle.record_file.specs.Replays.{ReplayOf, HasRead}
use Rattle.record_run.specs.Shown.{Shown, shown, is_picture, text_of}
use Rattle.record_run.specs.Shown.Shown.{Pictured}

-- ---- reading

-- the bytes that were read of those that were left have been fed
abbrev pub HasFed : ReplayOf → (left rest : Option (List ℕ)) → Type 0
HasFed r None rest = ⊤
HasFed r (Some bytes) None = ⊥
HasFed r (Some bytes) (Some rest) = (stream : List ℕ) × (bytes ≡ stream ++ rest) × HasRead stream r

-- all of them were
abbrev pub HasFedAll : ReplayOf → (left rest : Option (List ℕ)) → Type 0
HasFedAll r left rest = Tells left (λ bytes. HasRead bytes r × IsAtEnd rest)

-- a fault of a read, or want of memory
abbrev pub IsReadFault : ScriptFault → Type 0
IsReadFault (fault.Line k rule) = ⊥
IsReadFault fault.ReadFault = ⊤
IsReadFault fault.WriteFault = ⊥
IsReadFault fault.OutOfMemory = ⊤

-- ---- writing

-- a text was written whole; after a fault, or want of memory, a front of it
abbrev pub Writes : Result (Unit {0}) ScriptFault → List ℕ → (told telling : Option (List ℕ)) → Type 0
Writes (Ok x) text told telling = Appends told telling text
Writes (Err fault) text told telling = WritesFront told telling text

-- likewise what is shown, and whether it is a picture
abbrev pub WritesShown : Result Bool ScriptFault → ℕ → Shown → (told telling : Option (List ℕ)) → Type 0
WritesShown (Ok pictured) stop s told telling = Appends told telling (text_of stop s) × (pictured ≡ is_picture s)
WritesShown (Err fault) stop s told telling = WritesFront told telling (text_of stop s)

-- ---- the run

-- where bytes are the record of a legal journal, and it has so many entries, this is the picture after them
abbrev pub ShowsJournal : ℕ → List ℕ → Shown → Type 0
ShowsJournal stop bytes s = (head : Head) (j : List Entry) → IsTrue (is_recordable_head head) → IsLegalJournal head j → StandsFor bytes head j → stop ≤ length j
    → s ≡ Pictured head.size (picture_after_entries head.size j stop)

-- where a record has a head, the entries that are replayed of it are a legal journal, in which each change was made by the holder of control
abbrev pub ReplaysByHolders : List ℕ → Type 0
ReplaysByHolders bytes = (head : Head) → (replayed bytes).head ≡ Some head
    → IsLegalJournal head (replayed bytes).entries × ChangesAreTheHolders head.size (replayed bytes).entries

-- what a record shows after so many entries was written, behind its end: the picture, or why there is none
pub record WritesReplay (pictured : Bool) (stop : ℕ) (bytes : List ℕ) (rest told telling : Option (List ℕ)) : Type 0 where
  pub written : Appends told telling (text_of stop (shown stop bytes))
  pub pictured_is : pictured ≡ is_picture (shown stop bytes)
  pub at_end : IsAtEnd rest
  pub shows_journal : ShowsJournal stop bytes (shown stop bytes)
  pub by_holders : ReplaysByHolders bytes

-- a front of it was written
pub record WritesReplayFront (stop : ℕ) (bytes : List ℕ) (told telling : Option (List ℕ)) : Type 0 where
  pub written : WritesFront told telling (text_of stop (shown stop bytes))
  pub shows_journal : ShowsJournal stop bytes (shown stop bytes)
  pub by_holders : ReplaysByHolders bytes

-- it was so; after a failed read nothing is written, and after a failed write, or want of memory, a front of it
abbrev pub ReplaysRecord : Result Bool ScriptFault → ℕ → (left rest told telling : Option (List ℕ)) → Type 0
ReplaysRecord (Ok pictured) stop left rest told telling = Tells left (λ bytes. WritesReplay pictured stop bytes rest told telling)
ReplaysRecord (Err (fault.Line k rule)) stop left rest told telling = ⊥
ReplaysRecord (Err fault.ReadFault) stop left rest told telling = Keeps told telling
ReplaysRecord (Err fault.WriteFault) stop left rest told telling = Tells left (λ bytes. WritesReplayFront stop bytes told telling)
ReplaysRecord (Err fault.OutOfMemory) stop left rest told telling = Tells left (λ bytes. WritesReplayFront stop bytes told telling)
