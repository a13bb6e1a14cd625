-- What calls say that append what is heard.
use Rattle.std.specs.Prelude.{◌≡◌, ℕ, List, ◌++◌}
use Rattle.wire_num.specs.Written.{AppendsFront}
use Rattle.conn_rules.specs.declared.conn_step.ConnStep.{ConnStep}
use Rattle.conn_rules.specs.Hearing.{Heard}

-- new is old and a front of more
pub record TellsFront (old more new : List ConnStep) : Type 0 where
  pub told : List ConnStep
  pub rest : List ConnStep
  pub whole : more ≡ told ++ rest
  pub given : new ≡ old ++ told

-- what is heard was appended
pub record Appends (x : Heard) (out new_out : List ℕ) (steps new_steps : List ConnStep) : Type 0 where
  pub written : new_out ≡ out ++ x.replies
  pub given : new_steps ≡ steps ++ x.steps

-- a front of it was
pub record AppendsSome (x : Heard) (out new_out : List ℕ) (steps new_steps : List ConnStep) : Type 0 where
  pub written : AppendsFront out x.replies new_out
  pub given : TellsFront steps x.steps new_steps
