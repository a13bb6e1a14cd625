use Rattle.session_rules.proofs.Sound.{sound_reached}
use Rattle.session_rules.proofs.session_laws.legal_journals_are_sound.Goals as goal

pub returns : goal.returns
returns c = sound_reached
