use Rattle.conn_rules.specs.Hearing.{first_hearing}
use Rattle.conn_rules.proofs.SoundSteps.{heard_sound}
use Rattle.conn_rules.proofs.conn_laws.streams_are_sound.Goals as goal

pub returns-clause-stands : goal.returns-clause-stands
returns-clause-stands c = λ h bytes p. (heard_sound h bytes p).1

pub returns-clause-tells : goal.returns-clause-tells
returns-clause-tells c = λ h bytes p. (heard_sound h bytes p).0

pub returns-clause-whole : goal.returns-clause-whole
returns-clause-whole c = λ size bytes. (heard_sound (first_hearing size) bytes tt).1
