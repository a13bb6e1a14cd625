-- Where saved blocks stand (profile): a block of w by h takes w * (h rounded up to a multiple of 20) positions in a row, of 57,600.
use Rattle.std.specs.Prelude.{◌≡◌, ℕ, ◌+◌, ◌*◌, ◌/◌, ◌<◌, ◌≤◌, ◌==◌, nat_le, nat_lt, min, max, Bool, true, false, ◌&&◌, ◌||◌, not, List, [], ◌∷◌}
use Rattle.std.specs.Prelude.{Option, Some, None}
use Rattle.save_plan.specs.declared.place.Place.{Place}

-- the blocks that a client holds, each by its slot
abbrev pub Held : Type 0
Held = List (ℕ × Place)

abbrev pub all_positions : ℕ
all_positions = 57600

abbrev pub placed : ℕ → ℕ → ℕ → Place
placed position w h = record { position = position; w = w; h = h }

-- the positions that a block of these sides takes
abbrev pub positions_of : ℕ → ℕ → ℕ
positions_of w h = w * (20 * ((h + 19) / 20))

-- the position after a block
abbrev pub end_of : Place → ℕ
end_of place = place.position + positions_of place.w place.h

-- a position is one of a block's
abbrev pub is_within : ℕ → Place → Bool
is_within q place = nat_le place.position q && nat_lt q (end_of place)

-- a position is taken by a held block
abbrev pub is_taken : ℕ → Held → Bool
is_taken q [] = false
is_taken q (b ∷ bs) = is_within q b.1 || is_taken q bs

-- so many positions from this one on are there, and none of them is taken
pub record IsFree (n : ℕ) (held : Held) (from : ℕ) : Type 0 where
  pub there : from + n ≤ all_positions
  pub free : (q : ℕ) → from ≤ q → q < from + n → is_taken q held ≡ false

-- the least position from which so many are free
pub record IsLeastFree (n : ℕ) (held : Held) (from : ℕ) : Type 0 where
  pub is_free : IsFree n held from
  pub is_least : (before : ℕ) → before < from → IsFree n held before → ⊥

-- the place of a slot's block, by whether the first one is that
abbrev pub place_if : Bool → Place → Option Place → Option Place
place_if true place rest = Some place
place_if false place rest = rest

abbrev pub place_of : ℕ → Held → Option Place
place_of slot [] = None
place_of slot (b ∷ bs) = place_if (b.0 == slot) b.1 (place_of slot bs)

-- the blocks without those of a slot
abbrev pub kept_if : Bool → ℕ × Place → Held → Held
kept_if true b bs = b ∷ bs
kept_if false b bs = bs

abbrev pub without_slot : ℕ → Held → Held
without_slot slot [] = []
without_slot slot (b ∷ bs) = kept_if (not (b.0 == slot)) b (without_slot slot bs)

-- ---- the least free position, computed

-- n positions from one on have none in common with a block: what both have ends where it begins, or before
abbrev pub is_apart : ℕ → ℕ → Place → Bool
is_apart from n place = nat_le (min (from + n) (end_of place)) (max from place.position)

-- and none in common with any of these, of the positions that there are
abbrev pub has_room : ℕ → Held → ℕ → Bool
has_room n [] from = nat_le (from + n) all_positions
has_room n (b ∷ bs) from = is_apart from n b.1 && has_room n bs from

-- the lesser of a position and the least so far
abbrev pub lesser : ℕ → Option ℕ → Option ℕ
lesser n None = Some n
lesser n (Some least) = Some (min n least)

abbrev pub lesser_if : Bool → ℕ → Option ℕ → Option ℕ
lesser_if true n least = lesser n least
lesser_if false n least = least

-- the least of the places where blocks end that have room
abbrev pub least_end : ℕ → Held → Held → Option ℕ
least_end n held [] = None
least_end n held (b ∷ bs) = lesser_if (has_room n held (end_of b.1)) (end_of b.1) (least_end n held bs)

-- the least free position is 0 or one where a block ends
abbrev pub least_free : ℕ → Held → Option ℕ
least_free n held = lesser_if (has_room n held 0) 0 (least_end n held held)

-- each block stands within the positions, and no two have one in common
abbrev pub AreApart : Held → Type 0
AreApart [] = Unit {0}
AreApart (b ∷ bs) = IsFree (positions_of b.1.w b.1.h) bs b.1.position × AreApart bs
