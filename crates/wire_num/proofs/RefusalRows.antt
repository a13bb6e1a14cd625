-- Worked refusals: the bytes from the place on.
use Rattle.std.proofs.Common.{◌≡◌, ℕ, List, [], ◌∷◌, refl}
use Rattle.std.specs.Prelude.{Err}
use Rattle.wire_num.specs.FieldValue.{is_any, is_at_most, passing_at, at_least, rest_count_at}
use Rattle.wire_num.specs.Layout.{fields_at, exactly_at, Layout, Open, End, Body, Content, Exactly, Bytes, Big, CountsRest, AtLeast, Counted, Within, OneByte, Packed, Basic, ◌▸◌}
use Rattle.wire_num.specs.Refusal.{IsRefusedAt}
use Rattle.wire_num.proofs.Refused.{refused}

pub record Row (layout : Layout) (bytes left : List ℕ) : Type 0 where
  pub read : fields_at layout bytes ≡ Err left
  pub is : IsRefusedAt layout bytes left

abbrev row : (layout : Layout) (bytes left : List ℕ) → fields_at layout bytes ≡ Err left → Row layout bytes left
row layout bytes left e = record { read = e; is = refused layout bytes left e }

-- a body whose count is no count, or another one than that of its bytes
pub no_count : Row (Body Packed) (192 ∷ 7 ∷ []) (192 ∷ 7 ∷ [])
no_count = row (Body Packed) (192 ∷ 7 ∷ []) (192 ∷ 7 ∷ []) refl

pub shorter_body : Row (Body Packed) (3 ∷ 7 ∷ 8 ∷ []) (7 ∷ 8 ∷ [])
unfolding exactly_at
shorter_body = row (Body Packed) (3 ∷ 7 ∷ 8 ∷ []) (7 ∷ 8 ∷ []) refl

pub longer_body : Row (Body Packed) (1 ∷ 7 ∷ 8 ∷ []) (7 ∷ 8 ∷ [])
unfolding exactly_at
longer_body = row (Body Packed) (1 ∷ 7 ∷ 8 ∷ []) (7 ∷ 8 ∷ []) refl

-- fields in a body: no count; another count than that of the bytes, before the fields are looked at; another byte than seven;
-- a byte behind the fields, where nothing is to follow
abbrev counted_seven : Layout
counted_seven = Exactly Packed ▸ Bytes (7 ∷ []) ▸ End

pub seven_without_count : Row counted_seven (192 ∷ 7 ∷ []) (192 ∷ 7 ∷ [])
seven_without_count = row counted_seven (192 ∷ 7 ∷ []) (192 ∷ 7 ∷ []) refl

pub seven_of_more : Row counted_seven (2 ∷ 6 ∷ []) (6 ∷ [])
unfolding exactly_at
seven_of_more = row counted_seven (2 ∷ 6 ∷ []) (6 ∷ []) refl

pub seven_of_fewer : Row counted_seven (1 ∷ 7 ∷ 8 ∷ []) (7 ∷ 8 ∷ [])
unfolding exactly_at
seven_of_fewer = row counted_seven (1 ∷ 7 ∷ 8 ∷ []) (7 ∷ 8 ∷ []) refl

pub six : Row counted_seven (1 ∷ 6 ∷ []) (6 ∷ [])
unfolding exactly_at
six = row counted_seven (1 ∷ 6 ∷ []) (6 ∷ []) refl

pub behind_seven : Row counted_seven (2 ∷ 7 ∷ 8 ∷ []) (8 ∷ [])
unfolding exactly_at
behind_seven = row counted_seven (2 ∷ 7 ∷ 8 ∷ []) (8 ∷ []) refl

-- content with too few bytes, and with more
pub shorter_content : Row (Content Basic) (129 ∷ 3 ∷ 7 ∷ 8 ∷ []) (7 ∷ 8 ∷ [])
shorter_content = row (Content Basic) (129 ∷ 3 ∷ 7 ∷ 8 ∷ []) (7 ∷ 8 ∷ []) refl

pub longer_content : Row (Content Basic) (129 ∷ 1 ∷ 7 ∷ 8 ∷ []) (8 ∷ [])
longer_content = row (Content Basic) (129 ∷ 1 ∷ 7 ∷ 8 ∷ []) (8 ∷ []) refl

-- a count above what is allowed; too few bytes behind a count; a byte behind what is counted
abbrev up_to_two : Layout
up_to_two = Counted OneByte (is_at_most 2) ▸ End

pub greater_count : Row up_to_two (3 ∷ 7 ∷ 8 ∷ 9 ∷ []) (3 ∷ 7 ∷ 8 ∷ 9 ∷ [])
unfolding passing_at
greater_count = row up_to_two (3 ∷ 7 ∷ 8 ∷ 9 ∷ []) (3 ∷ 7 ∷ 8 ∷ 9 ∷ []) refl

pub few_counted : Row up_to_two (2 ∷ 7 ∷ []) (7 ∷ [])
unfolding passing_at
few_counted = row up_to_two (2 ∷ 7 ∷ []) (7 ∷ []) refl

pub behind_counted : Row up_to_two (2 ∷ 7 ∷ 8 ∷ 9 ∷ []) (9 ∷ [])
unfolding passing_at
behind_counted = row up_to_two (2 ∷ 7 ∷ 8 ∷ 9 ∷ []) (9 ∷ []) refl

-- seven and a number of two bytes within a count: no count; too few bytes; another byte than seven; a number that is cut
-- off; a byte left over; a byte behind
abbrev seven_and_number : Layout
seven_and_number = Bytes (7 ∷ []) ▸ Big 2 is_any ▸ End

abbrev counted_number : Layout
counted_number = Within Packed seven_and_number ▸ End

pub number_without_count : Row counted_number (200 ∷ 7 ∷ 1 ∷ 2 ∷ []) (200 ∷ 7 ∷ 1 ∷ 2 ∷ [])
number_without_count = row counted_number (200 ∷ 7 ∷ 1 ∷ 2 ∷ []) (200 ∷ 7 ∷ 1 ∷ 2 ∷ []) refl

pub number_of_few : Row counted_number (3 ∷ 7 ∷ 1 ∷ []) (7 ∷ 1 ∷ [])
number_of_few = row counted_number (3 ∷ 7 ∷ 1 ∷ []) (7 ∷ 1 ∷ []) refl

pub another_byte : Row counted_number (3 ∷ 6 ∷ 1 ∷ 2 ∷ []) (6 ∷ 1 ∷ 2 ∷ [])
another_byte = row counted_number (3 ∷ 6 ∷ 1 ∷ 2 ∷ []) (6 ∷ 1 ∷ 2 ∷ []) refl

pub cut_off : Row counted_number (2 ∷ 7 ∷ 1 ∷ 2 ∷ []) (1 ∷ 2 ∷ [])
unfolding passing_at
cut_off = row counted_number (2 ∷ 7 ∷ 1 ∷ 2 ∷ []) (1 ∷ 2 ∷ []) refl

pub over_within : Row counted_number (4 ∷ 7 ∷ 1 ∷ 2 ∷ 3 ∷ 4 ∷ []) (3 ∷ 4 ∷ [])
unfolding passing_at
over_within = row counted_number (4 ∷ 7 ∷ 1 ∷ 2 ∷ 3 ∷ 4 ∷ []) (3 ∷ 4 ∷ []) refl

pub unread_within : Row (Within Packed (Bytes (7 ∷ []) ▸ Open) ▸ Open) (2 ∷ 7 ∷ 1 ∷ 2 ∷ []) (1 ∷ 2 ∷ [])
unread_within = row (Within Packed (Bytes (7 ∷ []) ▸ Open) ▸ Open) (2 ∷ 7 ∷ 1 ∷ 2 ∷ []) (1 ∷ 2 ∷ []) refl

pub behind_within : Row counted_number (3 ∷ 7 ∷ 1 ∷ 2 ∷ 3 ∷ []) (3 ∷ [])
unfolding passing_at
behind_within = row counted_number (3 ∷ 7 ∷ 1 ∷ 2 ∷ 3 ∷ []) (3 ∷ []) refl

-- a count within a count
abbrev twice_counted : Layout
twice_counted = Within Packed counted_number ▸ Open

pub cut_off_twice : Row twice_counted (3 ∷ 2 ∷ 7 ∷ 1 ∷ 2 ∷ []) (1 ∷ 2 ∷ [])
unfolding passing_at
cut_off_twice = row twice_counted (3 ∷ 2 ∷ 7 ∷ 1 ∷ 2 ∷ []) (1 ∷ 2 ∷ []) refl

pub few_twice : Row twice_counted (2 ∷ 3 ∷ 7 ∷ 1 ∷ 2 ∷ []) (7 ∷ 1 ∷ 2 ∷ [])
few_twice = row twice_counted (2 ∷ 3 ∷ 7 ∷ 1 ∷ 2 ∷ []) (7 ∷ 1 ∷ 2 ∷ []) refl

-- fewer bytes than are to be there; a byte that counts others
pub not_enough : Row (AtLeast 3 ▸ Open) (1 ∷ 2 ∷ []) []
unfolding at_least
not_enough = row (AtLeast 3 ▸ Open) (1 ∷ 2 ∷ []) [] refl

pub counts_others : Row (CountsRest ▸ Open) (2 ∷ 1 ∷ []) (2 ∷ 1 ∷ [])
unfolding rest_count_at
counts_others = row (CountsRest ▸ Open) (2 ∷ 1 ∷ []) (2 ∷ 1 ∷ []) refl
