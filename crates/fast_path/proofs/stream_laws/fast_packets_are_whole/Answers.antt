use Rattle.fast_path.proofs.Written.{fast_whole}
use Rattle.fast_path.proofs.stream_laws.fast_packets_are_whole.Goals as goal

pub returns : goal.returns
returns c = fast_whole
