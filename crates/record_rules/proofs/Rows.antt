-- Worked bytes of a record, written and read by the definitions.
use Rattle.std.proofs.Common.{◌≡◌, ℕ, List, [], ◌∷◌, ◌++◌, refl, Some, None}
use Rattle.std.specs.Prelude.{codes, pos, take}
use Rattle.px_core.specs.Rectangle.{boxed}
use Rattle.draw_ops.specs.declared.shape.Shape.TheVariants.{Fill}
use Rattle.session_rules.specs.declared.entry.Role.TheVariants.{Owner}
use Rattle.session_rules.specs.declared.entry.Entry.{Entry}
use Rattle.session_rules.specs.declared.entry.Entry.TheVariants.{Join, Draw}
use Rattle.session_rules.specs.Journal.{Head}
use Rattle.record_rules.specs.Tables.{record_bytes}
use Rattle.wire_num.specs.FieldValue.{passing_at}
use Rattle.record_rules.specs.Reading.{head_at, row_at, framed_at, counted_at, entry_at, entry_by, join_at, leave_at, role_at, input_at, event_at, event_by, zeros_at, draw_at, clip_at, clip_by, shape_at, shape_by, fill_at, rect_at}
use Rattle.record_rules.specs.Records.{journal_of_record}
use Rattle.record_rules.specs.Records.End.{Unfinished, Faulty}

-- a session of 64 by 48 with one row, the owner `host`
abbrev one_owner : Head
one_owner = record { size = record { w = 64; h = 48 }; rows = record { name = codes "host"; role = Owner } ∷ [] }

abbrev one_join : List Entry
one_join = Join 1 Owner ∷ []

abbrev one_fill : Entry
one_fill = Draw 1 (record { shape = Fill (boxed (pos 10) (pos 20) 5 5) 0xFF0000; clip = None })

abbrev first_row : List ℕ
first_row =
    0x52 ∷ 0x44 ∷ 0x50 ∷ 0x4A ∷ 0x31 ∷ 0x0A ∷ 0x40 ∷ 0x00 ∷ 0x30 ∷ 0x00 ∷ 0x01 ∷ 0x00 ∷ 0x04 ∷ 0x68 ∷ 0x6F ∷ 0x73 ∷ 0x74
    ∷ 0x06 ∷ 0x00 ∷ 0x01 ∷ 0x01 ∷ 0x00 ∷ 0x00 ∷ 0x00 ∷ 0x00 ∷ []

abbrev second_row : List ℕ
second_row =
    0x12 ∷ 0x00 ∷ 0x05 ∷ 0x01 ∷ 0x00 ∷ 0x00 ∷ 0x00 ∷ 0x00 ∷ 0x00 ∷ 0x0A ∷ 0x00 ∷ 0x14 ∷ 0x00 ∷ 0x05 ∷ 0x00 ∷ 0x05 ∷ 0x00
    ∷ 0xFF ∷ 0x00 ∷ 0x00 ∷ []

a_join_is_written : record_bytes one_owner one_join ≡ first_row
a_join_is_written = refl

a_fill_is_written : record_bytes one_owner (one_join ++ one_fill ∷ []) ≡ first_row ++ second_row
a_fill_is_written = refl

a_fill_is_read : journal_of_record (first_row ++ second_row) ≡ record { head = Some one_owner; entries = one_join ++ one_fill ∷ []; end = Unfinished 45 }
unfolding journal_of_record head_at row_at framed_at counted_at entry_at passing_at entry_by join_at role_at draw_at clip_at clip_by shape_at shape_by fill_at rect_at
a_fill_is_read = refl

a_last_entry_without_its_last_byte_is_dropped : journal_of_record (first_row ++ take 19 second_row) ≡ record { head = Some one_owner; entries = one_join; end = Unfinished 25 }
unfolding journal_of_record head_at row_at framed_at counted_at entry_at passing_at entry_by join_at role_at draw_at clip_at clip_by shape_at shape_by fill_at rect_at
a_last_entry_without_its_last_byte_is_dropped = refl

-- ---- where a record isn't right

an_empty_record_has_no_mark : (journal_of_record []).end ≡ Unfinished 0
unfolding journal_of_record head_at
an_empty_record_has_no_mark = refl

a_bad_width_stands_at_its_field : (journal_of_record (take 6 first_row ++ 0x41 ∷ 0x00 ∷ [])).end ≡ Faulty 6
unfolding journal_of_record head_at
a_bad_width_stands_at_its_field = refl

an_entry_of_no_bytes_has_no_kind : (journal_of_record (first_row ++ 0x00 ∷ 0x00 ∷ [])).end ≡ Faulty 27
unfolding journal_of_record head_at row_at framed_at counted_at entry_at passing_at entry_by join_at role_at
an_entry_of_no_bytes_has_no_kind = refl

a_byte_behind_an_entry_is_left_over : (journal_of_record (take 17 first_row ++ 0x06 ∷ 0x00 ∷ 0x02 ∷ 0x01 ∷ 0x00 ∷ 0x00 ∷ 0x00 ∷ 0x00 ∷ [])).end ≡ Faulty 24
unfolding journal_of_record head_at row_at framed_at counted_at entry_at passing_at entry_by leave_at
a_byte_behind_an_entry_is_left_over = refl

a_sync_has_zeros : (journal_of_record (first_row ++ 0x0C ∷ 0x00 ∷ 0x04 ∷ 0x01 ∷ 0x00 ∷ 0x00 ∷ 0x00 ∷ 0x00 ∷ 0x00 ∷ 0x00 ∷ 0x00 ∷ 0x00 ∷ 0x01 ∷ 0x00 ∷ [])).end ≡ Faulty 37
unfolding journal_of_record head_at row_at framed_at counted_at entry_at passing_at entry_by join_at role_at input_at event_at event_by zeros_at
a_sync_has_zeros = refl
