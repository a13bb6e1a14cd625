-- Worked seats at the lock: what a seat that is split off knows, and what two know that met.
use Rattle.std.proofs.Common.{◌≡◌, ◌∷◌, [], ℕ, List, refl, Some, arith}
use Rattle.grow_lock.specs.declared.notes.Notes.{Notes}
use Rattle.grow_lock.specs.Notes.{fresh_notes, kept_notes, split_notes, joined_notes, spent_notes}
use Rattle.grow_lock.specs.Shares.{Share}
use Rattle.grow_lock.specs.Shares.Share.{nothing, whole, halves}
use Rattle.grow_lock.specs.Passes.{pass_of, pass_after_entering}
use Rattle.grow_lock.specs.Journal.{StartsWith, IsDisjoint}
use Rattle.atomic_table.specs.Seated.{TableId}

-- a seat of a lock with the head 7
abbrev seat : Share → List ℕ → List ℕ → List ℕ → Notes ℕ ℕ
seat share seen found mine = record (fresh_notes (Some 7) seen share) { found = found; mine = mine }

-- two seats with a half of the lock each, the second of which has seen less
abbrev one : Notes ℕ ℕ
one = seat (halves whole nothing) (10 ∷ 11 ∷ 12 ∷ []) (0 ∷ 2 ∷ []) (0 ∷ 2 ∷ [])

abbrev other : Notes ℕ ℕ
other = seat (halves nothing whole) (10 ∷ 11 ∷ []) (1 ∷ []) (1 ∷ [])

-- ---- split

abbrev further : Notes ℕ ℕ
further = split_notes one

-- wrong: what is split off has seen nothing
a_seat_that_is_split_off_has_seen_as_much : further.seen ≡ 10 ∷ 11 ∷ 12 ∷ []
a_seat_that_is_split_off_has_seen_as_much = refl

-- wrong: what is split off has the turns and places of the old one
it_has_had_no_turn : further.found ≡ []
it_has_had_no_turn = refl

it_has_no_place : further.mine ≡ []
it_has_no_place = refl

-- of the left half of the lock it has the right half, and the old one keeps the left one
-- wrong: what is split off has the left half of the share
it_has_the_right_half_of_the_share : further.part.share ≡ halves (halves nothing whole) nothing
it_has_the_right_half_of_the_share = refl

-- wrong: the old one keeps its whole share
who_it_was_split_off_from_keeps_the_left_half : (kept_notes one).part.share ≡ halves (halves whole nothing) nothing
who_it_was_split_off_from_keeps_the_left_half = refl

-- wrong: the old one keeps no turn
and_its_turns : (kept_notes one).found ≡ 0 ∷ 2 ∷ []
and_its_turns = refl

-- ---- joined

-- the first stays, and takes in the second
abbrev met : Notes ℕ ℕ
met = joined_notes other one

-- wrong: of two that meet the turns of the one that is taken in stand first
the_turns_of_who_stays_stand_first : met.found ≡ 1 ∷ 0 ∷ 2 ∷ []
the_turns_of_who_stays_stand_first = refl

-- wrong: so do its places
its_places_stand_first : met.mine ≡ 1 ∷ 0 ∷ 2 ∷ []
its_places_stand_first = refl

-- whichever stays, the longer list was seen
-- wrong: who stays has seen what it had seen itself
-- wrong: the shorter list was seen
the_longer_list_was_seen : met.seen ≡ 10 ∷ 11 ∷ 12 ∷ []
the_longer_list_was_seen = refl

-- wrong: who stays has its own share alone
it_has_both_halves : met.part.share ≡ halves whole whole
it_has_both_halves = refl

-- wrong: who was taken in keeps the whole
who_was_taken_in_has_no_share : (spent_notes {H = ℕ} {E = ℕ}).part.share ≡ nothing
who_was_taken_in_has_no_share = refl

who_was_taken_in_has_no_place : (spent_notes {H = ℕ} {E = ℕ}).mine ≡ []
who_was_taken_in_has_no_place = refl

-- ---- entering

-- the length that an enter found stands last
-- wrong: the length of the last enter stands first
-- wrong: an enter notes the place of the last entry
an_enter_notes_the_length_that_it_found : (id : TableId) → (pass_after_entering (pass_of id one) (10 ∷ 11 ∷ 12 ∷ 13 ∷ [])).found ≡ 0 ∷ 2 ∷ 4 ∷ []
an_enter_notes_the_length_that_it_found id = refl

-- wrong: an enter appends an entry
an_enter_appends_nothing : (id : TableId) → (pass_after_entering (pass_of id one) (10 ∷ 11 ∷ 12 ∷ 13 ∷ [])).mine ≡ 0 ∷ 2 ∷ []
an_enter_appends_nothing id = refl

-- ---- lists

-- wrong: places have none in common where the lists differ
a_place_in_both_is_in_common : IsDisjoint (0 ∷ 2 ∷ []) (2 ∷ []) → ⊥
a_place_in_both_is_in_common h = h 2 (1, omega arith, refl) (0, omega arith, refl)

-- what was seen stands at the front
-- wrong: what was seen stands at the end
what_was_seen_stands_first : StartsWith {E = ℕ} (11 ∷ 10 ∷ []) (10 ∷ []) → ⊥
what_was_seen_stands_first h = absurd (cc h.1)
