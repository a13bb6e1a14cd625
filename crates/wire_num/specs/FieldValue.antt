-- What a field of a text may be beside so many bytes and the number in them, and what reading a whole text gives.
use Rattle.std.specs.Prelude.{ℕ, ◌==◌, nat_lt, nat_le, bit_and, Bool, true, List, [], length, Result, Ok, Err, if◌then◌else◌}
use Rattle.wire_num.specs.Field.{Read, then_read, ended, place_in}
use Rattle.wire_num.specs.Number.{big_at}

-- the same field, all of it refused at its first byte
abbrev pub as_one_field : {A : Type 0} → List ℕ → Read A → Read A
as_one_field whole (Ok v) = Ok v
as_one_field whole (Err left) = Err whole

-- tests of a field's value
abbrev pub is_any : ℕ → Bool
is_any n = true

abbrev pub is_at_most : ℕ → ℕ → Bool
is_at_most most n = nat_le n most

abbrev pub has_bits : ℕ → ℕ → Bool
has_bits bits n = bit_and n bits == bits

-- a field whose value passes the test
unfoldable pub passing_at : {A : Type 0} → (A → Bool) → (List ℕ → Read A) → List ℕ → Read A
passing_at test read bs = then_read (read bs) (λ v rest. if test v then Ok (v, rest) else Err bs)

-- nothing is left
abbrev pub end_at : List ℕ → Read (List ℕ)
end_at bs = ended [] bs

-- n bytes are left; else the refusal is at the end
unfoldable pub at_least : ℕ → List ℕ → Read (List ℕ)
at_least n bs = if nat_lt (length bs) n then Err [] else Ok ([], bs)

-- one byte, which counts those after it
unfoldable pub rest_count_at : List ℕ → Read ℕ
rest_count_at bs = then_read (big_at 1 bs) (λ n rest. if length rest == n then Ok (n, rest) else Err bs)

-- what reading a whole text gives: its value, or the fault at the place of the refused field
abbrev pub placed : {A E : Type 0} → (ℕ → E) → List ℕ → Read A → Result A E
placed fault bs (Ok v) = Ok v.0
placed fault bs (Err left) = Err (fault (place_in bs left))
