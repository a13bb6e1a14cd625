-- A connection, and what feeding it says.
use Rattle.std.specs.Prelude.{◌≡◌, ℕ, Bool, true, false, List, Result, Ok, Err}
use Rattle.conn_rules.specs.declared.conn_step.ConnStep.{ConnStep}
use Rattle.conn_rules.specs.declared.stage.Stage.{Stage}
use Rattle.conn_rules.specs.declared.stage.Stage.TheVariants as stage
use Rattle.conn_rules.specs.Hearing.{Hearing, Heard}
use Rattle.conn_core.specs.declared.conn_fault.ConnFault.{ConnFault}
use Rattle.conn_core.specs.declared.conn_fault.ConnFault.TheVariants.{Refused, OutOfMemory}
use Rattle.conn_core.specs.Feeds.{Appends, AppendsSome}

-- where its stream stands, and whether it is spent for want of memory
pub record ConnOf : Type 0 where
  pub hearing : Hearing
  pub spent : Bool

-- the stream isn't refused
abbrev pub IsUnrefused : Stage → Type 0
IsUnrefused stage.Request = Unit {0}
IsUnrefused (stage.Initial asked) = Unit {0}
IsUnrefused (stage.Erect client) = Unit {0}
IsUnrefused (stage.Attach client) = Unit {0}
IsUnrefused (stage.Joins client user io) = Unit {0}
IsUnrefused (stage.Shares channels here) = Unit {0}
IsUnrefused stage.Over = Unit {0}
IsUnrefused (stage.Refused k at) = ⊥

-- the answer where a stream stands so: a refusal exactly where it is refused, by its number and place
abbrev pub Answers : Result (Unit {0}) ConnFault → Stage → Type 0
Answers (Ok done) here = IsUnrefused here
Answers (Err (Refused k at)) here = here ≡ stage.Refused k at
Answers (Err OutOfMemory) here = ⊥

-- the connection stands where what is heard leads to; or it is spent
abbrev pub Feeds : Result (Unit {0}) ConnFault → Heard → ConnOf → Type 0
Feeds (Ok done) x new = (new ≡ record { hearing = x.after; spent = false }) × IsUnrefused x.after.stage
Feeds (Err (Refused k at)) x new = (new ≡ record { hearing = x.after; spent = false }) × (x.after.stage ≡ stage.Refused k at)
Feeds (Err OutOfMemory) x new = new.spent ≡ true

-- all that is heard was appended; or a front of it
abbrev pub FeedsAppend : Result (Unit {0}) ConnFault → Heard → List ℕ → List ℕ → List ConnStep → List ConnStep → Type 0
FeedsAppend (Ok done) x out new_out steps new_steps = Appends x out new_out steps new_steps
FeedsAppend (Err (Refused k at)) x out new_out steps new_steps = Appends x out new_out steps new_steps
FeedsAppend (Err OutOfMemory) x out new_out steps new_steps = AppendsSome x out new_out steps new_steps
