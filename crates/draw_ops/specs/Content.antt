-- What images and glyphs are seen as. A brush is seen as the list of its 64 colours, a run as the list of its pairs of code and delta.
use Rattle.std.specs.Prelude.{ℕ, ℤ, List}

-- an image, or a block of saved pixels: its sides, and its colours row by row from the top
pub record ImageOf : Type 0 where
  pub w : ℕ
  pub h : ℕ
  pub pixels : List ℕ

-- a glyph: where its cell stands from the pen, the cell's sides, and the bytes of its rows
pub record GlyphOf : Type 0 where
  pub x : ℤ
  pub y : ℤ
  pub cx : ℕ
  pub cy : ℕ
  pub bits : List ℕ
