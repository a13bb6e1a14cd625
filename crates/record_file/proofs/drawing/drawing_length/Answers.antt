use Rattle.std.proofs.Common.{sym}
use Rattle.record_file.proofs.Pieces.{drawing_parts}
use Rattle.record_file.proofs.drawing.drawing_length.Goals as goal

pub returns : goal.returns
returns c = rw (c.clip_length.ensures, c.shape_length.ensures, c.rest_length.ensures) (sym (drawing_parts c.args.d.now))
