use Rattle.script_rules.specs.Script.{opening_of}
use Rattle.headline.specs.Headline.{HasSessionSize}
use Rattle.headline.proofs.StepsOfScripts.{HasPremises, scripts_have, part}
use Rattle.headline.proofs.rule_laws.size_of_a_script_is_a_sessions.Goals as goal

pub returns : goal.returns
returns c bytes = part (opening_of bytes) HasPremises (λ s. HasSessionSize s.head) (λ s h. h.size) (scripts_have bytes)
