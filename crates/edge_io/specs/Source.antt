-- What a read of a source gives.
use Rattle.std.specs.Prelude.{◌≡◌, ℕ, ◌≤◌, List, take, ⊤}
use Rattle.std.specs.declared.option.Option.{Option}
use Rattle.std.specs.Io.KnownBytes.{Consumes, Keeps, IsAtEnd}
use Rattle.edge_io.specs.declared.source.Got.{Got}
use Rattle.edge_io.specs.declared.source.Got.TheVariants.{Bytes, End, Failed}
use Rattle.edge_io.specs.Faults.{Rose}

-- bytes are one or more, and fit the buffer
abbrev pub FitsRoom : Got → ℕ → Type 0
FitsRoom (Bytes n) room = (1 ≤ n) × (n ≤ room)
FitsRoom End room = ⊤
FitsRoom Failed room = ⊤

-- the bytes in the buffer are the first of those that were left; an end comes only where none was; a failed read takes none
abbrev pub Takes : Option (List ℕ) → Option (List ℕ) → Got → List ℕ → Type 0
Takes old new (Bytes n) buf = Consumes old new (take n buf)
Takes old new End buf = IsAtEnd old × Keeps old new
Takes old new Failed buf = Keeps old new

-- a read fails only where the count of faults rose, and any other answer leaves it
abbrev pub ReadCause : Got → ℕ → ℕ → Type 0
ReadCause (Bytes n) before now = now ≡ before
ReadCause End before now = now ≡ before
ReadCause Failed before now = Rose before now
