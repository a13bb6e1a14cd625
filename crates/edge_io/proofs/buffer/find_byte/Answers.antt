use Rattle.edge_io.proofs.FeedLemmas.{first_is_position}
use Rattle.edge_io.proofs.buffer.find_byte.Goals as goal

pub returns : goal.returns
returns c = first_is_position c.args.byte c.args.text.now c.memchr.result c.memchr.ensures
