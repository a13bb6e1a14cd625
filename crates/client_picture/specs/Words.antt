-- A pixel of a client's picture in one word.
use Rattle.std.specs.Prelude.{ℕ, ◌^◌, Option, Some, None, if◌then◌else◌}
use Rattle.px_core.specs.Colors.{is_color}

-- a word that is a colour stands for it, and any other for an unknown pixel
abbrev pub pixel_of : ℕ → Option ℕ
pixel_of word = if is_color word then Some word else None

-- the word of a pixel: its colour, and the first number that is none where it is unknown
abbrev pub word_of : Option ℕ → ℕ
word_of None = 2 ^ 24
word_of (Some color) = color
