-- What a walk does at a save is what its shape says.
use Rattle.std.proofs.Common.{◌≡◌, ℕ, ◌∷◌, sym, refl, ap, ◌∙◌, subst}
use Rattle.std.specs.Prelude.{Bool, true, Option, Some, None}
use Rattle.px_core.specs.declared.surface.Size.{Size}
use Rattle.px_core.specs.declared.rectangle.Rect.{Rect}
use Rattle.px_core.specs.TileFlags.{tiles}
use Rattle.save_plan.specs.Blocks.{Held, placed, positions_of, least_free, without_slot, IsFree}
use Rattle.save_plan.proofs.LeastFree.{none_is_computed}
use Rattle.session_rules.specs.Pending.{Pending}
use Rattle.frame_rules.specs.Frame.{Walk, skipped, saved_at, saved_if, given_up}
use Rattle.frame_plan.specs.declared.walk.Walker.{Walker}
use Rattle.frame_plan.specs.Walks.{walk_of, HasDecided}

-- the walk with these blocks
abbrev pub with_held : Walker → Held → Walker
with_held old held = record { dirty = old.dirty; held = held }

-- where its turn comes with the blocks after it in place
pub saved_goes : (goes : Bool) (size : Size) (old : Walker) (p : Pending) (slot : ℕ) (r : Rect) (position : ℕ) (freed later : Held) → goes ≡ true
    → freed ≡ without_slot slot old.held → least_free (positions_of r.w r.h) freed ≡ Some position → later ≡ (slot, placed position r.w r.h) ∷ freed
    → HasDecided (saved_if goes size (given_up slot (walk_of old)) p slot r) p (Some position) (with_held old later)
saved_goes goes size old p slot r position freed later g f least e =
    let here : least_free (positions_of r.w r.h) (without_slot slot old.held) ≡ Some position = ap (least_free (positions_of r.w r.h)) (sym f) ∙ least in
    let blocks : later ≡ (slot, placed position r.w r.h) ∷ without_slot slot old.held = e ∙ ap (λ (hs : Held). (slot, placed position r.w r.h) ∷ hs) f in
    let walk : (hs : Held) → Walk = λ hs. record { dirty = tiles old.dirty; held = hs } in
    subst (λ (b : Bool). HasDecided (saved_if b size (given_up slot (walk_of old)) p slot r) p (Some position) (with_held old later)) (sym g)
    (subst (λ (o : Option ℕ). HasDecided (saved_at size (given_up slot (walk_of old)) p slot r o) p (Some position) (with_held old later)) (sym here)
    (record { walk = ap walk blocks; sent = refl }))

-- without a free position
pub saved_nowhere : (goes : Bool) (size : Size) (old : Walker) (p : Pending) (slot : ℕ) (r : Rect) (freed later : Held) (new : Walker) → goes ≡ true
    → freed ≡ without_slot slot old.held → later ≡ freed → ((from : ℕ) → IsFree (positions_of r.w r.h) freed from → ⊥)
    → walk_of new ≡ (skipped size (walk_of (with_held old later)) p).walk
    → HasDecided (saved_if goes size (given_up slot (walk_of old)) p slot r) p None new
saved_nowhere goes size old p slot r freed later new g f same none h =
    let here : least_free (positions_of r.w r.h) (without_slot slot old.held) ≡ None =
    ap (least_free (positions_of r.w r.h)) (sym f) ∙ none_is_computed (positions_of r.w r.h) freed none in
    subst (λ (b : Bool). HasDecided (saved_if b size (given_up slot (walk_of old)) p slot r) p None new) (sym g)
    (subst (λ (o : Option ℕ). HasDecided (saved_at size (given_up slot (walk_of old)) p slot r o) p None new) (sym here)
    (record { walk = h ∙ ap (λ (hs : Held). (skipped size (record { dirty = tiles old.dirty; held = hs }) p).walk) (same ∙ f); sent = refl }))
