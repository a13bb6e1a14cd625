-- What a call that shows a capture does.
use Rattle.std.specs.Prelude.{◌≡◌, ℕ, Bool, List, ⊤, Result, Ok, Err}
use Rattle.std.specs.declared.option.Option.{Option}
use Rattle.std.specs.declared.option.Option.TheVariants.{Some, None}
use Rattle.std.specs.Io.KnownBytes.{Appends, Keeps, IsAtEnd}
use Rattle.edge_io.specs.Faults.{Rose}
use Rattle.edge_io.specs.Sink.{WritesFront}
use Rattle.capture_show.specs.declared.show_fault.ShowFault.{ShowFault}
use Rattle.capture_show.specs.declared.show_fault.ShowFault.TheVariants.{ReadFault, WriteFault, OutOfMemory}
use Rattle.capture_show.specs.declared.stage.Stage.{Stage}
use Rattle.capture_show.specs.Stages.{Shows}
use Rattle.capture_show.specs.Shown.{Shown, shown, text_of, is_accepted}

-- where a source tells its bytes, this is said of them
abbrev pub Tells : Option (List ℕ) → (List ℕ → Type 0) → Type 0
Tells None says = ⊤
Tells (Some bytes) says = says bytes

-- a capture was read to its end, and this stage shows what it shows
abbrev pub ReadsCapture : Result Stage ShowFault → ℕ → (left rest : Option (List ℕ)) → Type 0
ReadsCapture (Ok s) v left rest = Tells left (λ capture. Shows s (shown v capture) × IsAtEnd rest)
ReadsCapture (Err fault) v left rest = ⊤

-- what is shown was written whole; after a fault, or want of memory, a front of it
abbrev pub WritesShown : Result Bool ShowFault → Shown → (told telling : Option (List ℕ)) → Type 0
WritesShown (Ok accepted) s told telling = Appends told telling (text_of s) × (accepted ≡ is_accepted s)
WritesShown (Err fault) s told telling = WritesFront told telling (text_of s)

-- a text was written whole; after a fault, or want of memory, a front of it
abbrev pub Writes : Result (Unit {0}) ShowFault → List ℕ → (told telling : Option (List ℕ)) → Type 0
Writes (Ok x) text told telling = Appends told telling text
Writes (Err fault) text told telling = WritesFront told telling text

-- what a capture shows was written whole, behind its end; after a fault, or want of memory, a front of it
abbrev pub ShowsCapture : Result Bool ShowFault → ℕ → (left rest told telling : Option (List ℕ)) → Type 0
ShowsCapture (Ok accepted) v left rest told telling =
    Tells left (λ capture. Appends told telling (text_of (shown v capture)) × ((accepted ≡ is_accepted (shown v capture)) × IsAtEnd rest))
ShowsCapture (Err ReadFault) v left rest told telling = Keeps told telling
ShowsCapture (Err WriteFault) v left rest told telling = Tells left (λ capture. WritesFront told telling (text_of (shown v capture)))
ShowsCapture (Err OutOfMemory) v left rest told telling = Tells left (λ capture. WritesFront told telling (text_of (shown v capture)))

-- the count of a source's faults rises in a call that fails to read, and only there
abbrev pub ReadCause : {T : Type 0} → Result T ShowFault → ℕ → ℕ → Type 0
ReadCause (Ok x) before now = now ≡ before
ReadCause (Err ReadFault) before now = Rose before now
ReadCause (Err WriteFault) before now = now ≡ before
ReadCause (Err OutOfMemory) before now = now ≡ before

-- the count of a sink's faults rises in a call that fails to write, and only there
abbrev pub WriteCause : {T : Type 0} → Result T ShowFault → ℕ → ℕ → Type 0
WriteCause (Ok x) before now = now ≡ before
WriteCause (Err ReadFault) before now = now ≡ before
WriteCause (Err WriteFault) before now = Rose before now
WriteCause (Err OutOfMemory) before now = now ≡ before

-- a fault that isn't one of writing
abbrev pub IsReadFault : ShowFault → Type 0
IsReadFault ReadFault = ⊤
IsReadFault WriteFault = ⊥
IsReadFault OutOfMemory = ⊤

-- a fault that isn't one of reading
abbrev pub IsWriteFault : ShowFault → Type 0
IsWriteFault ReadFault = ⊥
IsWriteFault WriteFault = ⊤
IsWriteFault OutOfMemory = ⊤
