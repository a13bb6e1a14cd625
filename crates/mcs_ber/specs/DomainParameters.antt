-- Domain parameters (T.125, 7, DomainParameters): a sequence of eight integers (X.690, 8.3 and 8.9).
use Rattle.std.specs.Prelude.{ℕ, zero, suc, ◌&&◌, nat_le, Bool, [], ◌∷◌}
use Rattle.wire_num.specs.Layout.{Layout, End, Bytes, Counted, Within, Basic, ◌▸◌}

-- an integer has one to four bytes
abbrev pub is_integer_size : ℕ → Bool
is_integer_size n = nat_le 1 n && nat_le n 4

-- tag; content
abbrev pub integer : Layout → Layout
integer next =
    Bytes (2 ∷ [])
    ▸ Counted Basic is_integer_size
    ▸ next

-- so many integers, and nothing after them
abbrev pub integers : ℕ → Layout
integers zero = End
integers (suc n) = integer (integers n)

-- tag; the channels, users, tokens and priorities, throughput, height, the size of a PDU, and the version
abbrev pub domain_parameters : Layout → Layout
domain_parameters next =
    Bytes (48 ∷ [])
    ▸ Within Basic (integers 8)
    ▸ next
