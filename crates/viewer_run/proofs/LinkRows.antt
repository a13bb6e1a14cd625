-- What may be cut of what is written, and where a viewer's Leave stands.
use Rattle.std.proofs.Common.{◌≡◌, ◌∷◌, ◌++◌, [], ℕ, zero, suc, List, map, refl, subst, true, false, Some, Err}
use Rattle.std.specs.Prelude.{slice_get}
use Rattle.session_rules.specs.declared.entry.Role.TheVariants.{Owner, View}
use Rattle.session_rules.specs.declared.entry.Entry.TheVariants.{Join, Leave}
use Rattle.serve_rules.specs.declared.ends.ConnEnd.{ConnEnd}
use Rattle.edge_io.specs.Outside.{Outside}
use Rattle.conn_rules.specs.Hearing.{Hearing, end_of}
use Rattle.conn_rules.specs.Hearing.StreamEnd.{RefusedAt}
use Rattle.session_rules.specs.Steps.{TakeOf}
use Rattle.serve_rules.specs.Notices.{Notice}
use Rattle.serve_rules.specs.Reading.{IsNoRefusal}
use Rattle.viewer_run.specs.Greeting.{Greeting, OutsideFaults}
use Rattle.viewer_run.specs.Sending.{HasWork}
use Rattle.viewer_run.specs.Serving.{ViewFaults}
use Rattle.viewer_run.specs.LastWords.{is_cut, IsLastWord, end_after}
use Rattle.viewer_run.specs.Links.{IsLeave, BeginsWith, IsTakenLast}
use Rattle.serve_rules.specs.declared.ends.ConnEnd.TheVariants as end

abbrev all_ends : List ConnEnd
all_ends = end.Left ∷ end.Refused 1 0 ∷ end.Truncated ∷ end.NotInvited ∷ end.RoomFull ∷ end.JoinsSpent ∷ end.ReadFault ∷ end.WriteFault ∷ end.OutOfMemory ∷ []

-- wrong: at `Left` events and frames may be missing
-- wrong: after a failed read events and frames may be missing
a_failed_write_and_want_of_memory_cut : map is_cut all_ends ≡ false ∷ false ∷ false ∷ false ∷ false ∷ false ∷ false ∷ true ∷ true ∷ []
a_failed_write_and_want_of_memory_cut = refl

-- an ultimatum that isn't due isn't written
-- wrong: an ultimatum that isn't due may be written
who_leaves_is_told_no_refusal : IsLastWord end.Left false (0x03 ∷ 0x00 ∷ 0x00 ∷ 0x09 ∷ 0x02 ∷ 0xF0 ∷ 0x80 ∷ 0x20 ∷ 0x80 ∷ []) → ⊥
who_leaves_is_told_no_refusal e = absurd (cc e)

-- wrong: a last word that fails is no end
a_word_that_fails_is_the_end : end_after end.Left (Err end.WriteFault) ≡ end.WriteFault
a_word_that_fails_is_the_end = refl

-- a viewer whose Leave stands nowhere hasn't left
-- wrong: a viewer needn't leave
nobody_stays : IsLeave 1 (Join 1 Owner ∷ []) (0 ∷ []) [] → ⊥
nobody_stays h = nowhere h.0 h.1
  where
    nowhere : (n : ℕ) → slice_get (Join 1 Owner ∷ []) n ≡ Some (Leave 1) → ⊥
    nowhere zero e = absurd (cc e)
    nowhere (suc n) e = absurd (cc e)

-- nor does that of another one
-- wrong: another viewer's Leave is its own
nobody_leaves_for_another : IsLeave 1 (Join 1 Owner ∷ Join 2 View ∷ Leave 2 ∷ []) (0 ∷ []) (2 ∷ []) → ⊥
nobody_leaves_for_another h = absurd (cc h)

-- wrong: no first frame need come
without_a_frame_memory_was_wanted : BeginsWith 1 end.Left [] → ⊥
without_a_frame_memory_was_wanted e = absurd (cc e)

-- wrong: a client that is refused may be read on until a read fails
who_is_refused_meets_no_failed_read : (g : Greeting) (h : Hearing) (before now : Outside) → end_of h ≡ RefusedAt 14 952 → OutsideFaults g h before now end.ReadFault → ⊥
who_is_refused_meets_no_failed_read g h before now refused e = subst IsNoRefusal refused e.1

-- wrong: so may a viewer, whose seat stays its own until then
a_refused_viewer_meets_no_failed_read : (h : Hearing) (n : Notice) (before now : Outside) → end_of h ≡ RefusedAt 14 952 → ViewFaults h n before now end.ReadFault → ⊥
a_refused_viewer_meets_no_failed_read h n before now refused e = subst IsNoRefusal refused e.0.0

-- wrong: a failed read may be followed by a write that fails
no_write_follows_a_failed_read : (g : Greeting) (h : Hearing) (before now : Outside) → before.output.faults ≡ 0 → now.output.faults ≡ 1 → OutsideFaults g h before now end.ReadFault → ⊥
no_write_follows_a_failed_read g h before now none one e = cc (subst (λ (n : ℕ). n ≡ 0) one (subst (λ (n : ℕ). now.output.faults ≡ n) none e.2))

-- the Join's turn found nothing, and that of the Leave three entries
-- wrong: who watches may be shown the first frame and no more
the_first_frame_is_not_the_last : IsTakenLast 1 (0 ∷ 3 ∷ []) → ⊥
the_first_frame_is_not_the_last t = by t.0 t.1 t.2
  where
    by : (earlier : List ℕ) (leave : ℕ) → 0 ∷ 3 ∷ [] ≡ earlier ++ 1 ∷ leave ∷ [] → ⊥
    by [] leave e = absurd (cc e)
    by (x ∷ []) leave e = absurd (cc e)
    by (x ∷ y ∷ []) leave e = absurd (cc e)
    by (x ∷ y ∷ z ∷ earlier) leave e = absurd (cc e)

all_three_are_in_the_last : IsTakenLast 3 (0 ∷ 3 ∷ 3 ∷ [])
all_three_are_in_the_last = (0 ∷ [], 3, refl)

-- wrong: a frame may come without a new entry and without a tile that is asked for
no_frame_comes_without_work : HasWork (record { w = 64; h = 64 }) (record { before = 3; number = 3; asked = λ k. false }) → ⊥
no_frame_comes_without_work e = absurd (cc e)

a_new_entry_is_work : HasWork (record { w = 64; h = 64 }) (record { before = 2; number = 3; asked = λ k. false })
a_new_entry_is_work = refl
