-- Hexadecimal numbers and bytes in a line.
use Rattle.std.specs.Prelude.{◌≡◌, ℕ, zero, suc, ◌/◌, ◌%◌, ◌==◌, List, [], ◌∷◌, ◌++◌, length, take, drop, if◌then◌else◌}
use Rattle.std.specs.declared.option.Option.{Option}
use Rattle.std.specs.declared.option.Option.TheVariants.{Some, None}
use Rattle.std.specs.Bool.{then_some}
use Rattle.std.specs.Option.{option_map}
use Rattle.std.specs.Char.{digit_char}
use Rattle.line_text.specs.Numbers.{digits_behind}

-- the number that a word of exactly so many hexadecimal digits of either case writes
abbrev pub hexadecimal_of : ℕ → List ℕ → Option ℕ
hexadecimal_of digits word = if length word == digits then digits_behind 16 0 word else None

-- a first number, and the numbers after it
abbrev pub with_first : Option ℕ → Option (List ℕ) → Option (List ℕ)
with_first None rest = None
with_first (Some n) rest = option_map (λ ns. n ∷ ns) rest

-- so many numbers of so many hexadecimal digits each, without a space between, and nothing else
abbrev pub hexadecimals : ℕ → ℕ → List ℕ → Option (List ℕ)
hexadecimals zero digits word = then_some (length word == 0) []
hexadecimals (suc count) digits word = with_first (hexadecimal_of digits (take digits word)) (hexadecimals count digits (drop digits word))

-- as many numbers of so many digits each as the word has room for
abbrev pub hexadecimals_of : ℕ → List ℕ → Option (List ℕ)
hexadecimals_of digits word = hexadecimals (length word / digits) digits word

-- bytes as lower-case hexadecimal digits, two for each byte
abbrev pub hexadecimal_text : List ℕ → List ℕ
hexadecimal_text [] = []
hexadecimal_text (b ∷ bs) = digit_char (b / 16) ∷ digit_char (b % 16) ∷ hexadecimal_text bs

-- a vector kept what it held and got a front of these bytes, and not the rest
pub record HoldsFront (old new bytes : List ℕ) : Type 0 where
  pub front : List ℕ
  pub rest : List ℕ
  pub whole : bytes ≡ front ++ rest
  pub held : new ≡ old ++ front
