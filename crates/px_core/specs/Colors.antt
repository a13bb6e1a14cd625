-- Colours: numbers below 2^24, 65536 * red + 256 * green + blue.
use Rattle.std.specs.Prelude.{ℕ, ◌^◌, nat_lt, Bool, true, ◌&&◌, List, [], ◌∷◌}

abbrev pub is_color : ℕ → Bool
is_color color = nat_lt color (2 ^ 24)

-- all of these are colours
abbrev pub are_colors : List ℕ → Bool
are_colors [] = true
are_colors (color ∷ colors) = is_color color && are_colors colors
