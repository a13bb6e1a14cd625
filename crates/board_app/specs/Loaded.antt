-- What the board's kept signs are seen as.
use Rattle.std.specs.Prelude.{ℕ, List, drop}
use Rattle.board_app.specs.declared.signs.Signs.{Signs}

-- the codes of the signs that have been loaded, the last one first
abbrev pub loaded_codes : Signs → List ℕ
loaded_codes signs = drop signs.first signs.codes
