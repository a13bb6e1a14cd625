use Rattle.headline.proofs.LineRuns.{capture_is_read}
use Rattle.headline.proofs.capture_laws.viewer_bytes_are_those_sent.Goals as goal

pub returns : goal.returns
returns c = capture_is_read
