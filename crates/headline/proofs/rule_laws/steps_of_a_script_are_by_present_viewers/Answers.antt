use Rattle.script_rules.specs.Script.{opening_of}
use Rattle.headline.specs.Headline.{AreByPresentViewers}
use Rattle.headline.proofs.StepsOfScripts.{HasPremises, scripts_have, part}
use Rattle.headline.proofs.rule_laws.steps_of_a_script_are_by_present_viewers.Goals as goal

pub returns : goal.returns
returns c bytes = part (opening_of bytes) HasPremises (λ s. AreByPresentViewers s.head s.asked) (λ s h. h.present) (scripts_have bytes)
