-- Where the areas lie that a stream tells.
use Rattle.std.specs.Prelude.{ℕ, ◌<◌, List, All, ⊤}
use Rattle.px_core.specs.Rectangle.{IsPlaced}
use Rattle.conn_rules.specs.declared.conn_step.ConnStep.{ConnStep}
use Rattle.conn_rules.specs.declared.conn_step.ConnStep.TheVariants as step

-- each number is a byte
abbrev pub AreBytes : List ℕ → Type 0
AreBytes bytes = All (λ b. b < 256) bytes

-- an area has its corner, and its sides, within 65,536 pixels
abbrev pub IsStepPlaced : ConnStep → Type 0
IsStepPlaced (step.Named name) = ⊤
IsStepPlaced (step.Ready confirmed) = ⊤
IsStepPlaced (step.Event event) = ⊤
IsStepPlaced (step.Refresh area) = IsPlaced area
IsStepPlaced (step.Suppress stop) = ⊤
IsStepPlaced step.Shutdown = ⊤
IsStepPlaced step.Bye = ⊤
IsStepPlaced step.Packet = ⊤

abbrev pub ArePlaced : List ConnStep → Type 0
ArePlaced steps = All IsStepPlaced steps
