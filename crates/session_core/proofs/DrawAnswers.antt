-- A drawing of a viewer, accepted or refused.
use Rattle.std.proofs.Common.{◌≡◌, ℕ, ◌+◌, ◌<◌, [], ◌∷◌, refl, ap, sym, ◌∙◌, Some, None, arith, inl, inr}
use Rattle.std.proofs.lemmas.Bool.Decides.{nat_tests}
use Rattle.std.specs.Prelude.{◌⊎◌, Bool, true, false, ◌&&◌, not, nat_lt, nat_le, Err, if◌then◌else◌}
use Rattle.draw_ops.specs.declared.shape.Drawing.{Drawing}
use Rattle.draw_ops.specs.Ranges.{is_u32, is_drawing_in_range}
use Rattle.draw_ops.specs.Fits.{first_some, broken_rule, slot_misfit}
use Rattle.session_rules.specs.declared.entry.Entry.TheVariants.{Draw}
use Rattle.session_rules.specs.Journal.{Head, Reached, unless, refusal_of, room_test, holds, names_board_slot, drawing_tests, shape_pixels, most_image_pixels}
use Rattle.session_rules.specs.Journal.Refusal.{NotHolder, BadDrawing, JournalFull}
use Rattle.session_core.specs.declared.faults.DrawRefusal.{DrawRefusal}
use Rattle.session_core.specs.declared.faults.DrawRefusal.TheVariants as fault
use Rattle.session_core.specs.Refusing.{IsRefused, SaysFit, KeepsRules}

pub not_none : {A : Type 0} (x : A) → Some x ≡ None → ⊥
not_none x h = absurd (cc h)

-- the tests of a drawing whose numbers are in range
tests_of : (head : Head) (r : Reached) (v : ℕ) (d : Drawing) → v < 4294967296 → is_drawing_in_range d ≡ true
    → refusal_of head r (Draw v d) ≡ first_some (unless (holds r v) (NotHolder r.holder) ∷ first_some (drawing_tests head.size r.state.surface d) ∷ room_test r
    ∷ unless (nat_le (r.image_pixels + shape_pixels d.shape) most_image_pixels) JournalFull ∷ [])
tests_of head r v d small range = let number : is_u32 v ≡ true = grind (arith, nat_tests, small) in rw (number, range) refl

pub not_holder : (head : Head) (r : Reached) (v : ℕ) (d : Drawing) → v < 4294967296 → is_drawing_in_range d ≡ true → holds r v ≡ false
    → refusal_of head r (Draw v d) ≡ Some (NotHolder r.holder)
not_holder head r v d small range h = tests_of head r v d small range ∙ rw h refl

-- the tests behind that of the holder
behind_holder : (head : Head) (r : Reached) (v : ℕ) (d : Drawing) → v < 4294967296 → is_drawing_in_range d ≡ true → holds r v ≡ true
    → refusal_of head r (Draw v d) ≡ first_some (first_some (drawing_tests head.size r.state.surface d) ∷ room_test r
    ∷ unless (nat_le (r.image_pixels + shape_pixels d.shape) most_image_pixels) JournalFull ∷ [])
behind_holder head r v d small range h = tests_of head r v d small range ∙ rw h refl

pub breaks_rule : (head : Head) (r : Reached) (v : ℕ) (d : Drawing) (why : DrawRefusal) → v < 4294967296 → is_drawing_in_range d ≡ true → holds r v ≡ true
    → KeepsRules (Err why) (broken_rule head.size d) (names_board_slot d.shape) → IsRefused (Err why) (refusal_of head r (Draw v d))
breaks_rule head r v d (fault.BadDrawing rule) small range h k = (behind_holder head r v d small range h ∙ by k, not_none _)
  where
    by : (broken_rule head.size d ≡ Some rule) ⊎ ((broken_rule head.size d ≡ None) × (names_board_slot d.shape ≡ true) × (rule ≡ 5))
        → first_some (first_some (drawing_tests head.size r.state.surface d) ∷ room_test r ∷ unless (nat_le (r.image_pixels + shape_pixels d.shape) most_image_pixels) JournalFull ∷ [])
        ≡ Some (BadDrawing rule)
    by (inl e) = rw e refl
    by (inr e) = rw (e.0, e.1, e.2) refl
breaks_rule head r v d (fault.NotHolder holder) small range h k = absurd k
breaks_rule head r v d (fault.EmptySlot slot) small range h k = absurd k
breaks_rule head r v d (fault.SlotSize slot) small range h k = absurd k
breaks_rule head r v d fault.JournalFull small range h k = absurd k
breaks_rule head r v d fault.OutOfMemory small range h k = absurd k

pub lacks_slot : (head : Head) (r : Reached) (v : ℕ) (d : Drawing) (why : DrawRefusal) → v < 4294967296 → is_drawing_in_range d ≡ true → holds r v ≡ true
    → broken_rule head.size d ≡ None → names_board_slot d.shape ≡ false → SaysFit (Err why) (slot_misfit head.size r.state.surface d.shape)
    → IsRefused (Err why) (refusal_of head r (Draw v d))
lacks_slot head r v d (fault.EmptySlot slot) small range h keeps other k = (behind_holder head r v d small range h ∙ rw (keeps, other, k) refl, not_none _)
lacks_slot head r v d (fault.SlotSize slot) small range h keeps other k = (behind_holder head r v d small range h ∙ rw (keeps, other, k) refl, not_none _)
lacks_slot head r v d (fault.BadDrawing rule) small range h keeps other k = absurd k
lacks_slot head r v d (fault.NotHolder holder) small range h keeps other k = absurd k
lacks_slot head r v d fault.JournalFull small range h keeps other k = absurd k
lacks_slot head r v d fault.OutOfMemory small range h keeps other k = absurd k

-- the tests behind those of the drawing
behind_drawing : (head : Head) (r : Reached) (v : ℕ) (d : Drawing) → v < 4294967296 → is_drawing_in_range d ≡ true → holds r v ≡ true
    → broken_rule head.size d ≡ None → names_board_slot d.shape ≡ false → slot_misfit head.size r.state.surface d.shape ≡ None
    → refusal_of head r (Draw v d) ≡ first_some (room_test r ∷ unless (nat_le (r.image_pixels + shape_pixels d.shape) most_image_pixels) JournalFull ∷ [])
behind_drawing head r v d small range h keeps other fits = behind_holder head r v d small range h ∙ rw (keeps, other, fits) refl

-- the journal has no room, or has
pub by_room : (head : Head) (r : Reached) (v : ℕ) (d : Drawing) (full : Bool) → v < 4294967296 → is_drawing_in_range d ≡ true → holds r v ≡ true
    → broken_rule head.size d ≡ None → names_board_slot d.shape ≡ false → slot_misfit head.size r.state.surface d.shape ≡ None
    → full ≡ not (nat_lt r.limited 1048576 && nat_le (r.image_pixels + shape_pixels d.shape) 67108864)
    → refusal_of head r (Draw v d) ≡ (if full then Some JournalFull else None)
by_room head r v d full small range h keeps other fits is =
    behind_drawing head r v d small range h keeps other fits ∙ by (nat_lt r.limited 1048576) (nat_le (r.image_pixels + shape_pixels d.shape) 67108864) ∙ ap (λ b. if b then Some JournalFull else None) (sym is)
  where
    by : (a b : Bool) → first_some (unless a JournalFull ∷ unless b JournalFull ∷ []) ≡ (if not (a && b) then Some JournalFull else None)
    by true true = refl
    by true false = refl
    by false true = refl
    by false false = refl
