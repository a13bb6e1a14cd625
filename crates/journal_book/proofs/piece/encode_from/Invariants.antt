use Rattle.std.proofs.Common.{◌-◌, length}
use Rattle.journal_book.specs.Books.{IsPiece}
use Rattle.journal_book.proofs.piece.encode_from.Given as goal

-- what was written so far is a piece
abbrev pub invariant-loop-to : goal.invariant-loop-to
invariant-loop-to l = IsPiece l.session.journal l.from l.to l.out.items

abbrev pub decreases-loop-to : goal.decreases-loop-to
decreases-loop-to l = length l.session.journal - l.to
