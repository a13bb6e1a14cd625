-- Drawings one after another.
use Rattle.std.proofs.Common.{◌≡◌, ℕ, zero, suc, ◌+◌, List, [], ◌∷◌, ◌++◌, length, refl, subst, arith}
use Rattle.std.specs.Prelude.{All, Option, Some, None, option_map}
use Rattle.px_core.specs.declared.surface.Size.{Size}
use Rattle.draw_ops.specs.declared.shape.Drawing.{Drawing}
use Rattle.draw_ops.specs.Slots.{SurfaceState}
use Rattle.draw_ops.specs.Drawing.{state_after_drawing}
use Rattle.draw_ops.specs.Fits.{broken_rule, slot_misfit, FitsState, AllFitState}
use Rattle.draw_ops.specs.Fits.Misfit.{Rule}
use Rattle.surface_parts.specs.declared.room.Room.{Room}
use Rattle.surface_parts.specs.Held.{IsRoomFor, AreRooms, IsSmallSave}
use Rattle.surface_parts.proofs.Rules.{passed}
use Rattle.surface_parts.proofs.Sound.{is_small_save}

no_rule : (o : Option ℕ) → option_map Rule o ≡ None → o ≡ None
no_rule None h = refl
no_rule (Some n) h = absurd (cc h)

pub fit_rules : (size : Size) (st : SurfaceState) (d : Drawing) → FitsState size st d → broken_rule size d ≡ None
fit_rules size st d h = no_rule (broken_rule size d) (passed (option_map Rule (broken_rule size d) ∷ slot_misfit size st d.shape ∷ []) h).0

pub fit_slots : (size : Size) (st : SurfaceState) (d : Drawing) → FitsState size st d → slot_misfit size st d.shape ≡ None
fit_slots size st d h = (passed (option_map Rule (broken_rule size d) ∷ slot_misfit size st d.shape ∷ []) h).1.0

pub small_saves : (size : Size) (st : SurfaceState) (ds : List Drawing) → AllFitState size st ds → All (λ d. IsSmallSave d.shape) ds
small_saves size st [] h k d lt = absurd (omega (arith, lt))
small_saves size st (x ∷ ds) h zero d lt = is_small_save size x (fit_rules size st x h.0)
small_saves size st (x ∷ ds) h (suc k) d lt = small_saves size (state_after_drawing size st x) ds h.1 k d (omega (arith, lt))

pub rooms_more : (count : ℕ) (ds : List Drawing) (rooms : List Room) (d : Drawing) (room : Room) → AreRooms count ds rooms → IsRoomFor (count + length ds) d.shape room → AreRooms count (ds ++ d ∷ []) (rooms ++ room ∷ [])
rooms_more count [] [] d room h is = (subst (λ (n : ℕ). IsRoomFor n d.shape room) (omega arith) is, tt)
rooms_more count [] (r ∷ rooms) d room h is = absurd h
rooms_more count (x ∷ ds) [] d room h is = absurd h
rooms_more count (x ∷ ds) (r ∷ rooms) d room h is = (h.0, rooms_more (count + 1) ds rooms d room h.1 (subst (λ (n : ℕ). IsRoomFor n d.shape room) (omega arith) is))
