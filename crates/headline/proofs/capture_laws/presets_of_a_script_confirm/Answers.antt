use Rattle.headline.proofs.CapturesOfScripts.{scripts_confirm}
use Rattle.headline.proofs.capture_laws.presets_of_a_script_confirm.Goals as goal

pub returns : goal.returns
returns c = scripts_confirm
