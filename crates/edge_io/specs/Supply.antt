-- Bytes in memory that are handed out in pieces.
use Rattle.std.specs.Prelude.{ℕ, min, max, ◌==◌, List, [], ◌∷◌, ◌++◌, length, take, drop, if◌then◌else◌}
use Rattle.edge_io.specs.declared.source.Got.{Got}
use Rattle.edge_io.specs.declared.source.Got.TheVariants.{Bytes, End}

-- the bytes not yet handed out, and the largest sizes of the next pieces
pub record Supply : Type 0 where
  pub left : List ℕ
  pub pieces : List ℕ

-- the largest size of the next piece: a listed 0 counts as 1, and after the list all that fits is handed out
abbrev pub next_piece : List ℕ → ℕ → ℕ
next_piece [] room = room
next_piece (piece ∷ pieces) room = max piece 1

-- how many bytes a read into so much room hands out
abbrev pub read_count : Supply → ℕ → ℕ
read_count supply room = min (min room (length supply.left)) (next_piece supply.pieces room)

-- the answer of a read that hands out so many bytes
abbrev pub answer_of_count : ℕ → Got
answer_of_count count = if count == 0 then End else Bytes count

-- the buffer after such a read: the bytes stand at its front
abbrev pub buffer_after_read : ℕ → Supply → List ℕ → List ℕ
buffer_after_read count supply buf = take count supply.left ++ drop count buf

-- the supply after such a read, which has used a piece
abbrev pub supply_after_read : ℕ → Supply → Supply
supply_after_read count supply = record { left = drop count supply.left; pieces = drop 1 supply.pieces }
