-- Blocks whose places were worked out by hand.
use Rattle.std.proofs.Common.{◌≡◌, [], ◌∷◌, Some, None, refl}
use Rattle.save_plan.specs.Blocks.{Held, placed, positions_of, least_free, place_of, without_slot}

-- 10 by 10 takes 10 times 20 positions, 10 by 21 takes 10 times 40
sides_of_ten : positions_of 10 10 ≡ 200
sides_of_ten = refl

one_row_more : positions_of 10 21 ≡ 400
one_row_more = refl

no_side : positions_of 0 4294967295 ≡ 0
no_side = refl

abbrev two : Held
two = (1, placed 200 10 21) ∷ (0, placed 0 10 10) ∷ []

first_at_the_start : least_free 200 [] ≡ Some 0
first_at_the_start = refl

second_after_it : least_free 400 ((0, placed 0 10 10) ∷ []) ≡ Some 200
second_after_it = refl

no_room_for_all : least_free (positions_of 240 240) two ≡ None
no_room_for_all = refl

room_for_all : least_free (positions_of 240 240) [] ≡ Some 0
room_for_all = refl

into_the_gap : least_free 200 (without_slot 0 two) ≡ Some 0
into_the_gap = refl

past_the_gap : least_free 201 (without_slot 0 two) ≡ Some 600
past_the_gap = refl

a_slot_is_found : place_of 1 two ≡ Some (placed 200 10 21)
a_slot_is_found = refl
