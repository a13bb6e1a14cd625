-- A colour's parts and a pointer's rows, in the order in which they are named.
use Rattle.std.specs.Prelude.{ℕ, List, [], ◌∷◌}
use Rattle.pointer_share.specs.declared.shape.Color.{Color}
use Rattle.pointer_share.specs.declared.shape.Rows.{Rows}

abbrev pub parts_of : Color → List ℕ
parts_of color = color.blue ∷ color.green ∷ color.red ∷ []

abbrev pub rows_in : Rows → List ℕ
rows_in rows = rows.first ∷ rows.second ∷ rows.third ∷ rows.fourth ∷ rows.fifth ∷ rows.sixth ∷ rows.seventh ∷ rows.last ∷ []
