use Rattle.order_means.proofs.ReadPieces.{read_has_no_pointers}
use Rattle.order_means.proofs.WithoutPointers.{all_stays, cut_before, kept_before, none_before}
use Rattle.order_means.proofs.piece_laws.what_is_read_has_no_pointers.Goals as goal

pub returns : goal.returns
returns c = record { unrefused = all_stays; whole = read_has_no_pointers; cut = cut_before; kept = kept_before; none = none_before }
