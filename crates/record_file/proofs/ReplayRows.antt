-- Worked bytes of a record, by what they stand for to one who replays them.
use Rattle.std.proofs.Common.{◌≡◌, ℕ, List, [], ◌∷◌, ◌++◌, refl, Some, None}
use Rattle.std.specs.Prelude.{codes, take}
use Rattle.session_rules.specs.declared.entry.Role.TheVariants.{Owner}
use Rattle.session_rules.specs.declared.entry.Entry.TheVariants.{Join}
use Rattle.session_rules.specs.Journal.{Head}
use Rattle.wire_num.specs.FieldValue.{passing_at}
use Rattle.record_rules.specs.Reading.{head_at, row_at, framed_at, counted_at, entry_at, entry_by, join_at, leave_at, role_at}
use Rattle.record_rules.specs.Records.{journal_of_record}
use Rattle.record_file.specs.Replaying.{replayed}
use Rattle.record_file.specs.Replaying.Fault.{BadForm, BadEntry}

-- a session of 64 by 48 with one row, the owner `host`
abbrev one_owner : Head
one_owner = record { size = record { w = 64; h = 48 }; rows = record { name = codes "host"; role = Owner } ∷ [] }

-- its head, and the Join of viewer 1
abbrev joined : List ℕ
joined =
    0x52 ∷ 0x44 ∷ 0x50 ∷ 0x4A ∷ 0x31 ∷ 0x0A ∷ 0x40 ∷ 0x00 ∷ 0x30 ∷ 0x00 ∷ 0x01 ∷ 0x00 ∷ 0x04 ∷ 0x68 ∷ 0x6F ∷ 0x73 ∷ 0x74
    ∷ 0x06 ∷ 0x00 ∷ 0x01 ∷ 0x01 ∷ 0x00 ∷ 0x00 ∷ 0x00 ∷ 0x00 ∷ []

-- the Leave of viewer 2, who isn't there
abbrev absent_leaves : List ℕ
absent_leaves = 0x05 ∷ 0x00 ∷ 0x02 ∷ 0x02 ∷ 0x00 ∷ 0x00 ∷ 0x00 ∷ []

-- an entry of kind 6
abbrev no_kind : List ℕ
no_kind = 0x01 ∷ 0x00 ∷ 0x06 ∷ []

a_join_is_replayed : replayed joined ≡ record { head = Some one_owner; entries = Join 1 Owner ∷ []; fault = None }
unfolding replayed journal_of_record head_at row_at framed_at counted_at entry_at passing_at entry_by join_at role_at
a_join_is_replayed = refl

a_part_of_an_entry_is_no_fault : replayed (joined ++ take 6 absent_leaves) ≡ record { head = Some one_owner; entries = Join 1 Owner ∷ []; fault = None }
unfolding replayed journal_of_record head_at row_at framed_at counted_at entry_at passing_at entry_by join_at role_at
a_part_of_an_entry_is_no_fault = refl

who_is_absent_does_not_leave : replayed (joined ++ absent_leaves) ≡ record { head = Some one_owner; entries = Join 1 Owner ∷ []; fault = Some (BadEntry 1) }
unfolding replayed journal_of_record head_at row_at framed_at counted_at entry_at passing_at entry_by join_at leave_at role_at
who_is_absent_does_not_leave = refl

the_earlier_entry_is_refused_first : replayed (joined ++ absent_leaves ++ no_kind) ≡ record { head = Some one_owner; entries = Join 1 Owner ∷ []; fault = Some (BadEntry 1) }
unfolding replayed journal_of_record head_at row_at framed_at counted_at entry_at passing_at entry_by join_at leave_at role_at
the_earlier_entry_is_refused_first = refl

a_kind_is_refused_before_the_entry_behind_it : replayed (joined ++ no_kind ++ absent_leaves) ≡ record { head = Some one_owner; entries = Join 1 Owner ∷ []; fault = Some (BadForm 27) }
unfolding replayed journal_of_record head_at row_at framed_at counted_at entry_at passing_at entry_by join_at leave_at role_at
a_kind_is_refused_before_the_entry_behind_it = refl

a_head_that_is_not_whole_has_no_entries : replayed (take 16 joined) ≡ record { head = None; entries = []; fault = None }
unfolding replayed journal_of_record head_at row_at
a_head_that_is_not_whole_has_no_entries = refl
