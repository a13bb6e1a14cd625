-- What a simple command reads of words, as clap finds their values.
use Rattle.std.specs.Prelude.{ℕ, List, [], ◌∷◌, Option, None}
use Rattle.clap.specs.Words.{App, Row, Kinds, matches_of, fault_of}

-- what is read of the values, where clap finds no fault in the words
abbrev pub read_if : {T : Type 0} → (List Row → Option T) → Kinds → List Row → Option T
read_if read [] rows = read rows
read_if read (kind ∷ kinds) rows = None

-- what a command reads of words, the program's name first
abbrev pub read_by : {T : Type 0} → App → (List Row → Option T) → List (List ℕ) → Option T
read_by command read words = read_if read (fault_of command words) (matches_of command words)
