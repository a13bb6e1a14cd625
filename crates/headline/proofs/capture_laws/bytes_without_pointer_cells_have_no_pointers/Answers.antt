use Rattle.headline.proofs.Pointerless.{all_read}
use Rattle.headline.proofs.capture_laws.bytes_without_pointer_cells_have_no_pointers.Goals as goal

pub returns : goal.returns
returns c = all_read
