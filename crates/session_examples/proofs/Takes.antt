-- The bytes of a viewer's takes in a run of steps.
use Rattle.std.proofs.Common.{ℕ, List, [], ◌∷◌, Some, None}
use Rattle.std.specs.Prelude.{codes}
use Rattle.px_core.specs.declared.rectangle.Rect.{Rect}
use Rattle.draw_ops.specs.declared.shape.Shape.{Shape}
use Rattle.caps_sets.specs.declared.confirmed.Confirmed.{Confirmed}
use Rattle.session_rules.specs.declared.entry.Role.TheVariants.{Owner}
use Rattle.session_rules.specs.Journal.{Head}
use Rattle.session_rules.specs.Steps.{Step, journal_of_steps, takes_of}
use Rattle.session_rules.specs.Steps.Step.{JoinStep, DrawStep, TakeStep}
use Rattle.frame_rules.specs.Encoder.{first_encoder, bytes_of_takes}

-- a session of ann's alone
abbrev pub alone : ℕ → ℕ → Head
alone w h = record { size = record { w = w; h = h }; rows = record { name = codes "ann"; role = Owner } ∷ [] }

abbrev pub join : Step
join = JoinStep (codes "ann")

abbrev pub draw : Shape → Step
draw s = DrawStep 1 (record { shape = s; clip = None })

abbrev pub draw_in : Shape → Rect → Step
draw_in s clip = DrawStep 1 (record { shape = s; clip = Some clip })

abbrev pub take : Step
take = TakeStep 1

-- the bytes of viewer 1's takes
abbrev pub bytes_of_steps : Head → Confirmed → List Step → List (List ℕ)
bytes_of_steps head c steps = bytes_of_takes head.size c (journal_of_steps head steps) first_encoder (takes_of head steps 1)

-- the bytes of a solo run, whose viewer joins first
abbrev pub bytes_of_run : ℕ → ℕ → Confirmed → List Step → List (List ℕ)
bytes_of_run w h c steps = bytes_of_steps (alone w h) c (join ∷ steps)

abbrev pub last_of : List (List ℕ) → List ℕ
last_of [] = []
last_of (bytes ∷ []) = bytes
last_of (bytes ∷ more ∷ rest) = last_of (more ∷ rest)
