-- Decimal numbers in a line.
use Rattle.std.specs.Prelude.{ℕ, ◌+◌, ◌*◌, ◌==◌, nat_le, ℤ, pos, neg_ℤ, List, [], ◌∷◌, if◌then◌else◌}
use Rattle.std.specs.declared.option.Option.{Option}
use Rattle.std.specs.declared.option.Option.TheVariants.{Some, None}
use Rattle.std.specs.Bool.{then_some}
use Rattle.std.specs.Option.{option_map, option_and_then}
use Rattle.std.specs.Char.{is_digit, digit_value}

-- the number that digits of a radix, letters in either case, write behind the digits of n
abbrev pub digits_behind : ℕ → ℕ → List ℕ → Option ℕ
digits_behind radix n [] = Some n
digits_behind radix n (b ∷ bs) = if is_digit b radix then digits_behind radix (radix * n + digit_value b) bs else None

-- the number that a word writes in decimal digits, without leading zeros
abbrev pub number_of : List ℕ → Option ℕ
number_of [] = None
number_of (b ∷ []) = digits_behind 10 0 (b ∷ [])
number_of (b ∷ c ∷ bs) = if b == 48 then None else digits_behind 10 0 (b ∷ c ∷ bs)

-- a number, where it is at most so large
abbrev pub at_most : ℕ → Option ℕ → Option ℕ
at_most most number = option_and_then (λ n. then_some (nat_le n most) n) number

-- the number that a word writes, where it is at most so large
abbrev pub number_up_to : ℕ → List ℕ → Option ℕ
number_up_to most word = at_most most (number_of word)

-- the largest size of a coordinate
abbrev pub coordinate_limit : ℕ
coordinate_limit = 65535

-- a coordinate: a number with an optional minus sign in front
abbrev pub coordinate_of : List ℕ → Option ℤ
coordinate_of [] = None
coordinate_of (b ∷ bs) = if b == 45 then option_map (λ n. neg_ℤ (pos n)) (number_up_to coordinate_limit bs) else option_map pos
    (number_up_to coordinate_limit (b ∷ bs))
