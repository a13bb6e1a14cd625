-- A sink that fails at listed calls.
use Rattle.std.specs.Prelude.{◌≡◌, ℕ, List, ◌++◌, Bool, true, false}
use Rattle.edge_io.specs.declared.sink.Wrote.{Wrote}
use Rattle.edge_io.specs.declared.sink.Wrote.TheVariants.{All, Failed, OutOfMemory}
use Rattle.edge_io.specs.Plan.{CallPlan}

pub record PlannedSink : Type 0 where
  pub told : List ℕ
  pub plan : CallPlan

-- the bytes that a sink in memory was told, after a write: a failure and want of memory leave them
abbrev pub told_after_write : Wrote → List ℕ → List ℕ → List ℕ
told_after_write All old bytes = old ++ bytes
told_after_write Failed old bytes = old
told_after_write OutOfMemory old bytes = old

-- a write fails exactly where it is to fail
abbrev pub FailsExactly : Bool → Wrote → Type 0
FailsExactly fails All = fails ≡ false
FailsExactly fails Failed = fails ≡ true
FailsExactly fails OutOfMemory = fails ≡ false
