use Rattle.script_rules.specs.Script.{opening_of}
use Rattle.headline.specs.Headline.{ConfirmAllCaches}
use Rattle.headline.proofs.StepsOfScripts.{HasPremises, scripts_have, part}
use Rattle.headline.proofs.rule_laws.viewers_of_a_script_confirm_all_caches.Goals as goal

pub returns : goal.returns
returns c bytes = part (opening_of bytes) HasPremises (λ s. ConfirmAllCaches s.asked) (λ s h. h.caches) (scripts_have bytes)
