use Rattle.order_means.proofs.WithoutPointers.{told_taken, told_picked}
use Rattle.order_means.proofs.piece_laws.pointer_packets_are_taken_out.Goals as goal

pub returns : goal.returns
returns c = record { taken_out = told_taken; picked = told_picked }
