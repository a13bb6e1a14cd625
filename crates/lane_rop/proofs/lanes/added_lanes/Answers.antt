use Rattle.lane_rop.proofs.LaneFacts.{added_lanes_are}
use Rattle.lane_rop.proofs.lanes.added_lanes.Goals as goal

pub returns : goal.returns
returns c = added_lanes_are c.args.bits c.args.one c.args.more c.requires.bits c.requires.one c.requires.more
