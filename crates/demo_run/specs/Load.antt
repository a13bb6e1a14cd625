-- All that the demonstration asks of its session: joins and loads, the steps that are drawn, each by who holds control then, and a last take of each viewer
-- (profile).
use Rattle.std.specs.Prelude.{ℕ, zero, suc, List, [], ◌∷◌, ◌++◌}
use Rattle.px_core.specs.Picture.{listed}
use Rattle.session_rules.specs.Steps.{Step, Play, play_at_first, outcome, session_after}
use Rattle.session_rules.specs.Steps.Step.{TakeStep}
use Rattle.rand_pcg.specs.Lcg.{Lcg}
use Rattle.script_rules.specs.Script.{Asked, without_preset}
use Rattle.headline.specs.Headline.{steps_of}
use Rattle.demo_run.specs.Numbers.{Drawn, generator_of}
use Rattle.demo_run.specs.Scene.{demo_size, demo_head, viewer_count, beginning}
use Rattle.demo_run.specs.Steps.{step_drawn}

-- so many steps, drawn from a moment of the session on
abbrev pub steps_from : Play → Lcg → ℕ → List Asked
steps_from p g zero = []
steps_from p g (suc n) =
    let next = step_drawn p.reached.holder g in
    without_preset next.value ∷ steps_from (outcome demo_head p next.value).play next.after n

abbrev pub last_takes : List Asked
last_takes = listed viewer_count 1 (λ v. without_preset (TakeStep v))

-- the session after what is asked
abbrev pub play_after : List Asked → Play
play_after asked = session_after demo_head (play_at_first demo_size) (steps_of asked)

-- what the demonstration of a seed and a number of steps asks
abbrev pub demo_asked : ℕ → ℕ → List Asked
demo_asked seed steps = beginning ++ (steps_from (play_after beginning) (generator_of seed) steps ++ last_takes)
