use Rattle.frame_rules.proofs.FrameLaws.{DescribesClient-first}
use Rattle.frame_rules.proofs.laws.first_encoder_describes_the_first_client.Goals as goal

pub returns : goal.returns
returns c = DescribesClient-first
