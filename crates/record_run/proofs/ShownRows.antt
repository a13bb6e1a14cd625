-- What worked records show, and the texts that say so.
use Rattle.std.proofs.Common.{◌≡◌, ◌∷◌, ◌++◌, [], ℕ, List, refl, false, take}
use Rattle.std.specs.Prelude.{codes}
use Rattle.std.specs.Fmt.{digits}
use Rattle.px_core.specs.declared.surface.Size.{Size}
use Rattle.wire_num.specs.FieldValue.{passing_at}
use Rattle.record_rules.specs.Reading.{head_at, row_at, framed_at, counted_at, entry_at, entry_by, join_at, leave_at, role_at, draw_at, clip_at, clip_by, shape_at, shape_by, fill_at, rect_at}
use Rattle.record_rules.specs.Records.{journal_of_record}
use Rattle.record_file.specs.Replaying.{replayed}
use Rattle.record_run.specs.Shown.{shown, is_picture, text_of}
use Rattle.record_run.specs.Shown.Shown.{FormAt, EntryAt, OnlyHas, Pictured}

abbrev small : Size
small = record { w = 4; h = 1 }

-- the head of a session of 4 by 1 with the owner `a`
abbrev head : List ℕ
head = 0x52 ∷ 0x44 ∷ 0x50 ∷ 0x4A ∷ 0x31 ∷ 0x0A ∷ 0x04 ∷ 0x00 ∷ 0x01 ∷ 0x00 ∷ 0x01 ∷ 0x00 ∷ 0x01 ∷ 0x61 ∷ []

abbrev join : List ℕ
join = 0x06 ∷ 0x00 ∷ 0x01 ∷ 0x01 ∷ 0x00 ∷ 0x00 ∷ 0x00 ∷ 0x00 ∷ []

-- viewer 1 fills the second pixel in 010203
abbrev fill : List ℕ
fill = 0x12 ∷ 0x00 ∷ 0x05 ∷ 0x01 ∷ 0x00 ∷ 0x00 ∷ 0x00 ∷ 0x00 ∷ 0x00 ∷ 0x01 ∷ 0x00 ∷ 0x00 ∷ 0x00 ∷ 0x01 ∷ 0x00 ∷ 0x01 ∷ 0x00 ∷ 0x01 ∷ 0x02 ∷ 0x03 ∷ []

-- viewer 2, who isn't there, leaves
abbrev absent : List ℕ
absent = 0x05 ∷ 0x00 ∷ 0x02 ∷ 0x02 ∷ 0x00 ∷ 0x00 ∷ 0x00 ∷ []

nothing_is_no_record : shown 0 [] ≡ FormAt 0
unfolding replayed journal_of_record head_at
nothing_is_no_record = refl

-- wrong: a head that isn't whole is refused at its first byte
a_part_of_a_head_stands_at_its_field : shown 0 (take 9 head) ≡ FormAt 8
unfolding replayed journal_of_record head_at
a_part_of_a_head_stands_at_its_field = refl

-- wrong: there is no picture after the last entry
a_head_alone_is_black : shown 0 head ≡ Pictured small (0 ∷ 0 ∷ 0 ∷ 0 ∷ [])
unfolding replayed journal_of_record head_at row_at framed_at counted_at
a_head_alone_is_black = refl

a_fill_is_the_second_entry : shown 1 (head ++ join ++ fill) ≡ Pictured small (0 ∷ 0 ∷ 0 ∷ 0 ∷ [])
unfolding replayed journal_of_record head_at row_at framed_at counted_at entry_at passing_at entry_by join_at role_at draw_at clip_at clip_by shape_at shape_by fill_at rect_at
a_fill_is_the_second_entry = refl

after_it_there_is_its_pixel : shown 2 (head ++ join ++ fill) ≡ Pictured small (0 ∷ 0x010203 ∷ 0 ∷ 0 ∷ [])
unfolding replayed journal_of_record head_at row_at framed_at counted_at entry_at passing_at entry_by join_at role_at draw_at clip_at clip_by shape_at shape_by fill_at rect_at
after_it_there_is_its_pixel = refl

-- wrong: `only` says how many entries were asked for
there_are_only_two : shown 3 (head ++ join ++ fill) ≡ OnlyHas 2
unfolding replayed journal_of_record head_at row_at framed_at counted_at entry_at passing_at entry_by join_at role_at draw_at clip_at clip_by shape_at shape_by fill_at rect_at
there_are_only_two = refl

without_its_last_byte_there_is_one : shown 2 (head ++ join ++ take 19 fill) ≡ OnlyHas 1
unfolding replayed journal_of_record head_at row_at framed_at counted_at entry_at passing_at entry_by join_at role_at
without_its_last_byte_there_is_one = refl

-- a fault behind the entries that were asked for is told all the same
-- wrong: what isn't legal behind the entries that were asked for isn't told
a_fault_behind_them_is_told : shown 1 (head ++ join ++ absent) ≡ EntryAt 1
unfolding replayed journal_of_record head_at row_at framed_at counted_at entry_at passing_at entry_by join_at role_at leave_at
a_fault_behind_them_is_told = refl

no_session_begins_with_a_fill : shown 0 (head ++ fill) ≡ EntryAt 0
unfolding replayed journal_of_record head_at row_at framed_at counted_at entry_at passing_at entry_by draw_at clip_at clip_by shape_at shape_by fill_at rect_at
no_session_begins_with_a_fill = refl

the_text_of_a_place : text_of 1 (FormAt 45) ≡ codes "record 45" ++ 10 ∷ []
unfolding digits
the_text_of_a_place = refl

-- wrong: the line of an entry counts from 1
the_text_of_an_entry : text_of 1 (EntryAt 0) ≡ codes "entry 0" ++ 10 ∷ []
unfolding digits
the_text_of_an_entry = refl

the_text_of_too_few : text_of 5 (OnlyHas 2) ≡ codes "only 2" ++ 10 ∷ []
unfolding digits
the_text_of_too_few = refl

-- red, green and blue of each pixel
-- wrong: a picture's bytes are blue, green, red
-- wrong: a picture's height stands before its width
the_text_of_a_picture : text_of 2 (Pictured small (0 ∷ 0x010203 ∷ 0 ∷ 0xFF0000 ∷ []))
    ≡ codes "P6" ++ 10 ∷ codes "# entries 2" ++ 10 ∷ codes "4 1" ++ 10 ∷ codes "255" ++ 10 ∷ 0 ∷ 0 ∷ 0 ∷ 1 ∷ 2 ∷ 3 ∷ 0 ∷ 0 ∷ 0 ∷ 255 ∷ 0 ∷ 0 ∷ []
unfolding digits
the_text_of_a_picture = refl

-- wrong: too few entries end with 0
only_a_picture_is_well : is_picture (OnlyHas 0) ≡ false
only_a_picture_is_well = refl
