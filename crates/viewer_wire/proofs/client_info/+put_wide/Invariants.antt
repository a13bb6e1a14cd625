use Rattle.std.proofs.Common.{length}
use Rattle.viewer_wire.proofs.client_info.+put_wide.Given as goal

abbrev pub decreases-put_wide : goal.decreases-put_wide
decreases-put_wide l = length l.name.now
