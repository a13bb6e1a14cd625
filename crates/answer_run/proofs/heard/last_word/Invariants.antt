use Rattle.std.proofs.Common.{◌≡◌, drop}
use Rattle.answer_run.specs.Service.{last_word}
use Rattle.answer_run.proofs.heard.last_word.Given as goal

-- no step so far was an end
abbrev pub invariant-loop-step : goal.invariant-loop-step
invariant-loop-step l = last_word l.steps ≡ last_word (drop l.step-index l.steps)
