-- The entry that a step appends to a session's journal.
use Rattle.std.proofs.Common.{◌≡◌, ℕ, zero, suc, ◌<◌, ◌≤◌, List, [], ◌∷◌, ◌++◌, length, refl, ap, sym, ◌∙◌, append-nil, length-append, arith, true, false}
use Rattle.std.specs.Prelude.{Bool, Option, Some, None, Result, Ok, Err, option_to_list, slice_get}
use Rattle.std.proofs.lemmas.Bool.{and_parts}
use Rattle.session_rules.specs.declared.entry.Entry.{Entry}
use Rattle.session_rules.specs.declared.entry.Entry.TheVariants.{Leave}
use Rattle.session_rules.specs.Journal.{Head, Reached, is_present}
use Rattle.session_rules.specs.Steps.{outcome_of, take_effect, has_work, entered}
use Rattle.session_rules.specs.Steps.Answer.{Left}
use Rattle.session_rules.specs.Steps.Step.{LeaveStep, TakeStep}
use Rattle.session_rules.specs.Entering.{play_of, entry_of_step}
use Rattle.session_core.specs.Outcomes.{GoesOn}
use Rattle.session_core.specs.Faults.{join_answer, input_answer, draw_answer}
use Rattle.session_core.specs.declared.faults.JoinFault.{JoinFault}
use Rattle.session_core.specs.declared.faults.JoinFault.TheVariants as join
use Rattle.session_core.specs.declared.faults.InputRefusal.{InputRefusal}
use Rattle.session_core.specs.declared.faults.InputRefusal.TheVariants as input
use Rattle.session_core.specs.declared.faults.DrawRefusal.{DrawRefusal}
use Rattle.session_core.specs.declared.faults.DrawRefusal.TheVariants as draw
use Rattle.session_core.proofs.Leaving.{leave_legal}
use Rattle.record_rules.specs.Tables.{entry_bytes, entries_bytes, is_recordable, are_recordable}

-- ---- the entry behind the first ones

-- there is none
pub none_next : (j journal : List Entry) (before : ℕ) (entry : Option Entry) (out : List ℕ) → journal ≡ j ++ option_to_list entry → length j ≡ before → length journal ≤ before
    → out ≡ out ++ entries_bytes (option_to_list entry)
none_next j journal before None out is at few = sym (append-nil out)
none_next j journal before (Some e) out is at few = let l = length-append j (e ∷ []) in absurd (omega (arith, ap length is, l, at, few))

first_behind : (j : List Entry) (e : Entry) → slice_get (j ++ e ∷ []) (length j) ≡ Some e
first_behind [] e = refl
first_behind (x ∷ j) e = first_behind j e

same_entry : (journal j : List Entry) (before : ℕ) (e d : Entry) → journal ≡ j ++ e ∷ [] → length j ≡ before → slice_get journal before ≡ Some d → d ≡ e
same_entry journal j before e d is at found = let both = sym found ∙ ap (λ k. slice_get journal k) (sym at) ∙ ap (λ es. slice_get es (length j)) is ∙ first_behind j e in cc both

-- it was written
pub some_next : (j journal : List Entry) (before : ℕ) (entry : Option Entry) (d : Entry) (out now : List ℕ) → journal ≡ j ++ option_to_list entry → length j ≡ before
    → before < length journal → slice_get journal before ≡ Some d → now ≡ out ++ entry_bytes d → now ≡ out ++ entries_bytes (option_to_list entry)
some_next j journal before None d out now is at more found written = let l = length-append j [] in absurd (omega (arith, ap length is, l, at, more))
some_next j journal before (Some e) d out now is at more found written =
    written ∙ ap (λ x. out ++ x) (ap entry_bytes (same_entry journal j before e d is at found) ∙ sym (append-nil (entry_bytes e)))

-- a record can hold it
pub recordable_at : (journal : List Entry) (k : ℕ) (e : Entry) → are_recordable journal ≡ true → slice_get journal k ≡ Some e → is_recordable e ≡ true
recordable_at [] k e h found = absurd (cc found)
recordable_at (x ∷ xs) zero e h found = let same : x ≡ e = cc found in ap is_recordable (sym same) ∙ (and_parts (is_recordable x) (are_recordable xs) h).0
recordable_at (x ∷ xs) (suc k) e h found = recordable_at xs k e (and_parts (is_recordable x) (are_recordable xs) h).1 found

-- ---- what becomes of the journal

unchanged : (entry : Option Entry) (old new : List Entry) → new ≡ old → entry ≡ None → new ≡ old ++ option_to_list entry
unchanged entry old new same none = same ∙ sym (append-nil old) ∙ ap (λ o. old ++ option_to_list o) (sym none)

pub joined_on : (given : Result ℕ JoinFault) (entry : Option Entry) (old new : List Entry) → GoesOn (join_answer given) entry old new → (given ≡ Err join.OutOfMemory → ⊥)
    → new ≡ old ++ option_to_list entry
joined_on (Ok v) entry old new g some = g
joined_on (Err join.NotInvited) entry old new g some = unchanged entry old new g.0 g.1
joined_on (Err join.RoomFull) entry old new g some = unchanged entry old new g.0 g.1
joined_on (Err join.JoinsSpent) entry old new g some = unchanged entry old new g.0 g.1
joined_on (Err join.OutOfMemory) entry old new g some = absurd (some refl)

pub input_on : (given : Result (Unit {0}) InputRefusal) (entry : Option Entry) (old new : List Entry) → GoesOn (input_answer given) entry old new → (given ≡ Err input.OutOfMemory → ⊥)
    → new ≡ old ++ option_to_list entry
input_on (Ok x) entry old new g some = g
input_on (Err (input.NotHolder holder)) entry old new g some = unchanged entry old new g.0 g.1
input_on (Err input.JournalFull) entry old new g some = unchanged entry old new g.0 g.1
input_on (Err input.OutOfMemory) entry old new g some = absurd (some refl)

pub draw_on : (given : Result (Unit {0}) DrawRefusal) (entry : Option Entry) (old new : List Entry) → GoesOn (draw_answer given) entry old new → (given ≡ Err draw.OutOfMemory → ⊥)
    → new ≡ old ++ option_to_list entry
draw_on (Ok x) entry old new g some = g
draw_on (Err (draw.NotHolder holder)) entry old new g some = unchanged entry old new g.0 g.1
draw_on (Err (draw.BadDrawing rule)) entry old new g some = unchanged entry old new g.0 g.1
draw_on (Err (draw.EmptySlot slot)) entry old new g some = unchanged entry old new g.0 g.1
draw_on (Err (draw.SlotSize slot)) entry old new g some = unchanged entry old new g.0 g.1
draw_on (Err draw.JournalFull) entry old new g some = unchanged entry old new g.0 g.1
draw_on (Err draw.OutOfMemory) entry old new g some = absurd (some refl)

-- a viewer that is present leaves
pub leave_on : (head : Head) (r : Reached) (v : ℕ) → v < 4294967296 → is_present v r.viewers ≡ true → Some (Leave v) ≡ entry_of_step head r (LeaveStep v)
leave_on head r v small here = sym (ap (λ q. (entered head (play_of head r) (Leave v) Left q).entry) (leave_legal head r v small here))

none_of_take : (head : Head) (r : Reached) (v : ℕ) (t : Bool) → (outcome_of head (play_of head r) (take_effect t v)).entry ≡ None
none_of_take head r v true = refl
none_of_take head r v false = refl

-- a take appends nothing
pub take_on : (head : Head) (r : Reached) (v : ℕ) → entry_of_step head r (TakeStep v) ≡ None
take_on head r v = none_of_take head r v (has_work head.size (play_of head r) v)
