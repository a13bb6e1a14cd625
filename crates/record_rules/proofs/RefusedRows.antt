-- Worked bytes that aren't a record, each by the place of its first field that breaks its rule, or that isn't all there.
use Rattle.std.proofs.Common.{◌≡◌, ◌∷◌, ◌++◌, [], ℕ, List, refl, replicate, take}
use Rattle.wire_num.specs.FieldValue.{passing_at}
use Rattle.record_rules.specs.Reading.{head_at, row_at, framed_at, counted_at, entry_at, entry_by, join_at, role_at, input_at, event_at, event_by, key_at, draw_at, clip_at, clip_by, shape_at, shape_by, image_at}
use Rattle.record_rules.specs.Records.{End, journal_of_record}
use Rattle.record_rules.specs.Records.End.{Unfinished, Faulty}

-- a session of 64 by 48 with one row, the owner `host`, and the Join of viewer 1
abbrev joined : List ℕ
joined =
    0x52 ∷ 0x44 ∷ 0x50 ∷ 0x4A ∷ 0x31 ∷ 0x0A ∷ 0x40 ∷ 0x00 ∷ 0x30 ∷ 0x00 ∷ 0x01 ∷ 0x00 ∷ 0x04 ∷ 0x68 ∷ 0x6F ∷ 0x73 ∷ 0x74
    ∷ 0x06 ∷ 0x00 ∷ 0x01 ∷ 0x01 ∷ 0x00 ∷ 0x00 ∷ 0x00 ∷ 0x00 ∷ []

abbrev end : List ℕ → End
end bytes = (journal_of_record bytes).end

-- wrong: what isn't all there breaks its rule
half_of_a_width_is_no_width : end (take 7 joined) ≡ Unfinished 6
unfolding journal_of_record head_at
half_of_a_width_is_no_width = refl

-- wrong: a height may be 0
no_height_is_0 : end (take 8 joined ++ 0x00 ∷ 0x00 ∷ []) ≡ Faulty 8
unfolding journal_of_record head_at
no_height_is_0 = refl

-- wrong: a height may be 2,049
no_height_is_2049 : end (take 8 joined ++ 0x01 ∷ 0x08 ∷ []) ≡ Faulty 8
unfolding journal_of_record head_at
no_height_is_2049 = refl

sixty_four_rows_may_follow : end (take 10 joined ++ 0x40 ∷ []) ≡ Unfinished 11
unfolding journal_of_record head_at row_at
sixty_four_rows_may_follow = refl

-- wrong: a session may have 65 rows
sixty_five_rows_may_not : end (take 10 joined ++ 0x41 ∷ []) ≡ Faulty 10
unfolding journal_of_record head_at
sixty_five_rows_may_not = refl

-- wrong: role 3 of a row is view
no_row_has_a_third_role : end (take 11 joined ++ 0x03 ∷ []) ≡ Faulty 11
unfolding journal_of_record head_at row_at
no_row_has_a_third_role = refl

-- wrong: a name may be empty
no_name_is_empty : end (take 12 joined ++ 0x00 ∷ []) ≡ Faulty 12
unfolding journal_of_record head_at row_at
no_name_is_empty = refl

-- wrong: a name has 63 bytes at most
a_name_may_have_64_bytes : end (take 12 joined ++ 0x40 ∷ []) ≡ Unfinished 13
unfolding journal_of_record head_at row_at
a_name_may_have_64_bytes = refl

-- wrong: a name of 65 bytes is refused at its first byte, not at its length
no_name_has_65_bytes : end (take 12 joined ++ 0x41 ∷ []) ≡ Faulty 12
unfolding journal_of_record head_at row_at
no_name_has_65_bytes = refl

-- a name's rule is looked at once all its bytes are there, and broken at its first one
a_part_of_a_bad_name_is_no_fault : end (take 15 joined ++ 0x21 ∷ []) ≡ Unfinished 13
unfolding journal_of_record head_at row_at
a_part_of_a_bad_name_is_no_fault = refl

-- wrong: a name may have any bytes
a_bad_name_stands_at_its_first_byte : end (take 16 joined ++ 0x21 ∷ []) ≡ Faulty 13
unfolding journal_of_record head_at row_at
a_bad_name_stands_at_its_first_byte = refl

-- two rows of one name
-- wrong: two rows may have one name
a_name_stands_once : end (take 10 joined ++ 0x02 ∷ 0x00 ∷ 0x01 ∷ 0x68 ∷ 0x02 ∷ 0x01 ∷ 0x68 ∷ []) ≡ Faulty 16
unfolding journal_of_record head_at row_at
a_name_stands_once = refl

one_byte_of_a_length_is_dropped : end (joined ++ 0x01 ∷ []) ≡ Unfinished 25
unfolding journal_of_record head_at row_at framed_at counted_at entry_at passing_at entry_by join_at role_at
one_byte_of_a_length_is_dropped = refl

-- an entry is looked at once all its bytes are there, whatever its kind shows
a_part_of_an_entry_of_kind_6_is_dropped : end (joined ++ 0x02 ∷ 0x00 ∷ 0x06 ∷ []) ≡ Unfinished 25
unfolding journal_of_record head_at row_at framed_at counted_at entry_at passing_at entry_by join_at role_at
a_part_of_an_entry_of_kind_6_is_dropped = refl

-- wrong: kind 6 is a Draw
no_kind_is_6 : end (joined ++ 0x01 ∷ 0x00 ∷ 0x06 ∷ []) ≡ Faulty 27
unfolding journal_of_record head_at row_at framed_at counted_at entry_at passing_at entry_by join_at role_at
no_kind_is_6 = refl

-- wrong: kind 0 is a Draw
no_kind_is_0 : end (joined ++ 0x01 ∷ 0x00 ∷ 0x00 ∷ []) ≡ Faulty 27
unfolding journal_of_record head_at row_at framed_at counted_at entry_at passing_at entry_by join_at role_at
no_kind_is_0 = refl

-- wrong: role 3 of a Join is view
nobody_joins_by_a_third_role : end (joined ++ 0x06 ∷ 0x00 ∷ 0x01 ∷ 0x02 ∷ 0x00 ∷ 0x00 ∷ 0x00 ∷ 0x03 ∷ []) ≡ Faulty 32
unfolding journal_of_record head_at row_at framed_at counted_at entry_at passing_at entry_by join_at role_at
nobody_joins_by_a_third_role = refl

abbrev input : ℕ → List ℕ → List ℕ
input tag numbers = joined ++ 0x0C ∷ 0x00 ∷ 0x04 ∷ 0x01 ∷ 0x00 ∷ 0x00 ∷ 0x00 ∷ tag ∷ numbers

-- wrong: tag 5 is another mouse
no_tag_is_5 : end (input 5 (replicate 6 0)) ≡ Faulty 32
unfolding journal_of_record head_at row_at framed_at counted_at entry_at passing_at entry_by join_at role_at input_at event_at
no_tag_is_5 = refl

-- wrong: a release may be 2
a_release_is_0_or_1 : end (input 1 (0x3B ∷ 0x00 ∷ 0x02 ∷ 0x00 ∷ 0x00 ∷ 0x00 ∷ [])) ≡ Faulty 35
unfolding journal_of_record head_at row_at framed_at counted_at entry_at passing_at entry_by join_at role_at input_at event_at event_by key_at
a_release_is_0_or_1 = refl

-- wrong: a key's third number isn't looked at
a_keys_third_number_is_0 : end (input 2 (0x41 ∷ 0x00 ∷ 0x01 ∷ 0x00 ∷ 0x00 ∷ 0x01 ∷ [])) ≡ Faulty 37
unfolding journal_of_record head_at row_at framed_at counted_at entry_at passing_at entry_by join_at role_at input_at event_at event_by key_at
a_keys_third_number_is_0 = refl

-- wrong: a 2 tells a clip
no_clip_is_told_by_a_2 : end (joined ++ 0x06 ∷ 0x00 ∷ 0x05 ∷ 0x01 ∷ 0x00 ∷ 0x00 ∷ 0x00 ∷ 0x02 ∷ []) ≡ Faulty 32
unfolding journal_of_record head_at row_at framed_at counted_at entry_at passing_at entry_by join_at role_at draw_at clip_at
no_clip_is_told_by_a_2 = refl

-- wrong: shape 13 is a glyph
no_shape_is_13 : end (joined ++ 0x07 ∷ 0x00 ∷ 0x05 ∷ 0x01 ∷ 0x00 ∷ 0x00 ∷ 0x00 ∷ 0x00 ∷ 0x0D ∷ []) ≡ Faulty 33
unfolding journal_of_record head_at row_at framed_at counted_at entry_at passing_at entry_by join_at role_at draw_at clip_at clip_by shape_at
no_shape_is_13 = refl

-- an image's pixels are one field: two by two, and bytes for three
three_pixels_of_four_stand_at_the_first : end (joined ++ 0x13 ∷ 0x00 ∷ 0x05 ∷ 0x01 ∷ 0x00 ∷ 0x00 ∷ 0x00 ∷ 0x00 ∷ 0x0A ∷ 0x04 ∷ 0x02 ∷ 0x02 ∷ replicate 9 0) ≡ Faulty 37
unfolding journal_of_record head_at row_at framed_at counted_at entry_at passing_at entry_by join_at role_at draw_at clip_at clip_by shape_at shape_by image_at
three_pixels_of_four_stand_at_the_first = refl
