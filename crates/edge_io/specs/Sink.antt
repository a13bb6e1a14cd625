-- What a write to a sink does.
use Rattle.std.specs.Prelude.{◌≡◌, ℕ, List, ◌++◌}
use Rattle.std.specs.declared.option.Option.{Option}
use Rattle.std.specs.Io.KnownBytes as known
use Rattle.edge_io.specs.declared.sink.Wrote.{Wrote}
use Rattle.edge_io.specs.declared.sink.Wrote.TheVariants.{All, Failed, OutOfMemory}
use Rattle.edge_io.specs.Faults.{Rose}

-- a front of these bytes was appended, and the rest wasn't
pub record WritesFront (old new : Option (List ℕ)) (bytes : List ℕ) : Type 0 where
  pub front : List ℕ
  pub rest : List ℕ
  pub whole : bytes ≡ front ++ rest
  pub written : known.Appends old new front

-- exactly the bytes were appended; after a failure or want of memory a front of them
abbrev pub Appends : Option (List ℕ) → Option (List ℕ) → Wrote → List ℕ → Type 0
Appends old new All bytes = known.Appends old new bytes
Appends old new Failed bytes = WritesFront old new bytes
Appends old new OutOfMemory bytes = WritesFront old new bytes

-- a write fails only where the count of faults rose, and any other answer leaves it
abbrev pub WriteCause : Wrote → ℕ → ℕ → Type 0
WriteCause All before now = now ≡ before
WriteCause Failed before now = Rose before now
WriteCause OutOfMemory before now = now ≡ before
