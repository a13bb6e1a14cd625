-- What is held back for a sink, and what of it was written.
use Rattle.std.specs.Prelude.{◌≡◌, ℕ, List, ◌++◌, ⊤}
use Rattle.std.specs.Io.KnownBytes.{Appends}
use Rattle.std.specs.declared.option.Option.{Option}
use Rattle.std.specs.declared.option.Option.TheVariants.{Some, None}

-- of what was held back, with these bytes behind it, a front was written, and the rest is held back now
pub record Holds (told telling : Option (List ℕ)) (held holding bytes : List ℕ) : Type 0 where
  pub front : List ℕ
  pub written : Appends told telling front
  pub whole : held ++ bytes ≡ front ++ holding

-- bytes were written
pub record Grows (told telling : Option (List ℕ)) : Type 0 where
  pub more : List ℕ
  pub written : Appends told telling more

-- bytes were written behind those that were told, and with those that weren't written they are the whole
pub record FrontOf (told telling whole : List ℕ) : Type 0 where
  pub first : List ℕ
  pub rest : List ℕ
  pub written : telling ≡ told ++ first
  pub left_out : whole ≡ telling ++ rest

abbrev pub IsFrontOf : (told telling whole : Option (List ℕ)) → Type 0
IsFrontOf None telling whole = ⊤
IsFrontOf (Some told) None whole = ⊥
IsFrontOf (Some told) (Some telling) None = ⊥
IsFrontOf (Some told) (Some telling) (Some whole) = FrontOf told telling whole
