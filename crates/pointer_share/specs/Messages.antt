-- The two messages of the Pointer PDU that are sent: 6 brings a shape to an entry of the viewer's cache and shows it ([MS-RDPBCGR]
-- 2.2.9.1.1.4.4), 7 shows the shape of an entry (2.2.9.1.1.4.6). They are read.
use Rattle.std.specs.Prelude.{ℕ, ◌==◌, nat_lt, Bool, List, length, is_some, Ok, Err, if◌then◌else◌}
use Rattle.wire_num.specs.Field.{Read, then_read, map_read, bytes_at, wanted, ended}
use Rattle.wire_num.specs.Number.{little_at}
use Rattle.wire_num.specs.Caused.{Caused, caused, then_caused, map_caused}
use Rattle.draw_ops.specs.Slots.{Slots, lookup}
use Rattle.pointer_share.specs.declared.fault.Cause.{Cause}
use Rattle.pointer_share.specs.declared.fault.Cause.TheVariants.{Broken, Missing}
use Rattle.frame_rules.specs.Pointers.{Shape}
use Rattle.frame_rules.specs.Told.{hot_spot, sides, mask_length, xor_length, xor_size}

-- a message: a shape for an entry, or an entry
pub data Message : Type 0 where
  Brings : (index : ℕ) → Shape → Message
  Points : (index : ℕ) → Message

-- behind the index of a message 6: hot spot, sides and each length are a field each
abbrev pub fixed_at : Bool → List ℕ → Read (List ℕ)
fixed_at wide bs = then_read (wanted hot_spot bs)
    (λ spot a. then_read (wanted (sides wide) a) (λ sizes b. then_read (wanted mask_length b) (λ ands c. wanted (xor_length wide) c)))

-- and then the bytes of the shape
abbrev pub brought_at : Bool → List ℕ → Read Shape
brought_at wide bs =
    then_read (fixed_at wide bs) (λ fixed d. then_read (bytes_at (xor_size wide) d)
    (λ xor e. map_read (λ mask. record { xor = xor; mask = mask }) (bytes_at 16 e)))

-- whether an entry can be filled, and whether it can be shown
abbrev pub is_entry : {A : Type 0} → Slots A → ℕ → Bool
is_entry cells index = nat_lt index (length cells)

abbrev pub is_filled : {A : Type 0} → Slots A → ℕ → Bool
is_filled cells index = is_some (lookup index cells)

-- the index, of an entry that passes the test
abbrev pub index_at : (ℕ → Bool) → List ℕ → Caused Cause ℕ
index_at test bs = then_caused (caused Broken (little_at 2 bs)) (λ index rest. if test index then Ok (index, rest) else Err (Missing index, bs))

abbrev pub message_by : {A : Type 0} → Bool → Slots A → ℕ → List ℕ → List ℕ → Caused Cause Message
message_by wide cells kind whole bs =
    if kind == 6 then then_caused (index_at (is_entry cells) bs) (λ index rest. caused Broken (map_read (λ s. Brings index s) (brought_at wide rest)))
    else (if kind == 7 then map_caused Points (index_at (is_filled cells) bs)
    else Err (Broken, whole))

-- the message, whose type is one field of four bytes; bytes left over are refused
abbrev pub message_at : {A : Type 0} → Bool → Slots A → List ℕ → Caused Cause Message
message_at wide cells bs = then_caused (caused Broken (little_at 4 bs))
    (λ kind a. then_caused (message_by wide cells kind bs a) (λ m b. caused Broken (ended m b)))
