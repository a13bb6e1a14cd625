use Rattle.viewer_wire.proofs.Written.{data_is}
use Rattle.viewer_wire.proofs.data.put_data.Goals as goal

pub returns : goal.returns
returns c = data_is _ _ _ _ _ c.in_ok-put_headers.ensures c.in_ok-extend_from_slice.ensures.items
