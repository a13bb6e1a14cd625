-- A jump is what the drawings that it passes over touch and save into.
use Rattle.std.proofs.Common.{◌≡◌, ℕ, ◌+◌, ◌≤◌, ◌≢◌, List, [], ◌∷◌, refl, ap, sym, ◌∙◌, arith, ⊎_elim}
use Rattle.std.specs.Prelude.{Bool, true, false, not, ◌&&◌, ◌||◌, ◌==◌, nat_lt}
use Rattle.std.proofs.lemmas.Bool.{lt-ltb, le-ltb, ltb-false, eqb-true, eq-eqb, cases_eq}
use Rattle.px_core.specs.declared.surface.Size.{Size}
use Rattle.px_core.specs.Tiles.{Tiles, either_tiles}
use Rattle.px_core.specs.TileFlags.{tiles}
use Rattle.px_core.proofs.Stretches.{same_test}
use Rattle.draw_ops.specs.declared.shape.Shape.{Shape}
use Rattle.draw_ops.specs.declared.shape.Shape.TheVariants.{Fill, Dst, Pat, Copy, Blit, Blit3, Text, Line, Save, Restore, LoadImage, LoadBrush, LoadGlyph}
use Rattle.session_rules.specs.Pending.{Pending}
use Rattle.session_core.specs.Touching.{touched_by, saves_into, saved_by}
use Rattle.session_core.proofs.Adding.{or_false, and_false, or_true, and_true, below_more}
use Rattle.save_plan.specs.Blocks.{Held, kept_if, without_slot}
use Rattle.frame_rules.specs.Frame.{Walk, touched_tiles, jumped, jumped_one, jumped_shape}
use Rattle.frame_plan.specs.declared.walk.Walker.{Walker}
use Rattle.frame_plan.specs.Walks.{walk_of, HasJumped}

-- ---- blocks without those of some slots

abbrev pub without_those : (ℕ → Bool) → Held → Held
without_those set [] = []
without_those set (b ∷ bs) = kept_if (not (set b.0)) b (without_those set bs)

without_none : (hs : Held) → without_those (λ n. false) hs ≡ hs
without_none [] = refl
without_none (b ∷ bs) = ap (λ (xs : Held). b ∷ xs) (without_none bs)

turned : (a b : ℕ) → (a == b) ≡ (b == a)
turned a b = same_test (a == b) (b == a) (λ e. eq-eqb b a (sym (eqb-true a b e))) (λ e. eq-eqb a b (sym (eqb-true b a e)))

without_one : (slot : ℕ) (hs : Held) → without_slot slot hs ≡ without_those (λ n. slot == n) hs
without_one slot [] = refl
without_one slot (b ∷ bs) = ap (λ t. kept_if (not t) b (without_slot slot bs)) (turned b.0 slot) ∙ ap (kept_if (not (slot == b.0)) b) (without_one slot bs)

without_both : (first more : ℕ → Bool) (hs : Held) → without_those more (without_those first hs) ≡ without_those (λ n. first n || more n) hs
without_both first more [] = refl
without_both first more (b ∷ bs) = by (first b.0) (more b.0) refl ∙ ap (kept_if (not (first b.0 || more b.0)) b) (without_both first more bs)
  where
    by : (s t : Bool) → more b.0 ≡ t → without_those more (kept_if (not s) b (without_those first bs)) ≡ kept_if (not (s || t)) b (without_those more (without_those first bs))
    by true t e = refl
    by false t e = ap (λ u. kept_if (not u) b (without_those more (without_those first bs))) e

-- ---- drawings

either_assoc : (a b c : Bool) → ((a || b) || c) ≡ (a || (b || c))
either_assoc true b c = refl
either_assoc false b c = refl

-- the walk after drawings of which these touch tiles and save into slots
abbrev passed : Walk → Tiles → (ℕ → Bool) → Walk
passed w touched saved = record { dirty = either_tiles w.dirty touched; held = without_those saved w.held }

walk_is : (d e : Tiles) (hs ks : Held) → d ≡ e → hs ≡ ks → ◌≡◌ {A = Walk} (record { dirty = d; held = hs }) (record { dirty = e; held = ks })
walk_is d e hs ks p q = λ i. record { dirty = p i; held = q i }

unsaved : (w : Walk) → w ≡ record { dirty = w.dirty; held = without_those (λ n. false) w.held }
unsaved w = walk_is w.dirty w.dirty w.held (without_those (λ n. false) w.held) refl (sym (without_none w.held))

shape_is : (w : Walk) (s : Shape) → jumped_shape w s ≡ record { dirty = w.dirty; held = without_those (saves_into s) w.held }
shape_is w (Fill r color) = unsaved w
shape_is w (Dst r code) = unsaved w
shape_is w (Pat r code brush) = unsaved w
shape_is w (Copy r code sx sy) = unsaved w
shape_is w (Blit r code image sx sy) = unsaved w
shape_is w (Blit3 r code image sx sy brush) = unsaved w
shape_is w (Text x y color font run) = unsaved w
shape_is w (Line x0 y0 x1 y1 color) = unsaved w
shape_is w (Save slot r) = walk_is w.dirty w.dirty (without_slot slot w.held) (without_those (λ n. slot == n) w.held) refl (without_one slot w.held)
shape_is w (Restore slot x y) = unsaved w
shape_is w (LoadImage slot image) = unsaved w
shape_is w (LoadBrush slot brush) = unsaved w
shape_is w (LoadGlyph font code glyph) = unsaved w

pub jumped_is : (size : Size) (w : Walk) (ps : List Pending) → jumped size w ps ≡ passed w (touched_by size ps) (saved_by ps)
jumped_is size w [] = walk_is w.dirty (either_tiles w.dirty (touched_by size [])) w.held (without_those (saved_by []) w.held) (λ i t. sym (or_false (w.dirty t)) i) (sym (without_none w.held))
jumped_is size w (p ∷ ps) =
    let saves = saves_into p.drawing.shape in
    let touched = touched_tiles size p in
    jumped_is size (jumped_one size w p) ps
    ∙ (ap (λ (v : Walk). passed v (touched_by size ps) (saved_by ps)) (shape_is (record w { dirty = either_tiles w.dirty touched }) p.drawing.shape)
    ∙ walk_is (either_tiles (either_tiles w.dirty touched) (touched_by size ps)) (either_tiles w.dirty (touched_by size (p ∷ ps)))
    (without_those (saved_by ps) (without_those saves w.held)) (without_those (saved_by (p ∷ ps)) w.held)
    (λ i t. either_assoc (w.dirty t) (touched t) (touched_by size ps t) i) (without_both saves (saved_by ps) w.held))

-- ---- slot by slot

-- the slots of a set below a number
abbrev pub up_to : (ℕ → Bool) → ℕ → ℕ → Bool
up_to saved end n = saved n && nat_lt n end

apart : (a b : ℕ) → b ≢ a → (a == b) ≡ false
apart a b d = sym (same_test false (a == b) (λ e. absurd (cc e)) (λ e. absurd (d (sym (eqb-true a b e)))))

one_more : (saved : ℕ → Bool) (slot : ℕ) → saved slot ≡ true → (n : ℕ) → (up_to saved slot n || (slot == n)) ≡ up_to saved (slot + 1) n
one_more saved slot is n = ⊎_elim (λ (e : n ≡ slot). here e) (λ (d : n ≢ slot). there d) (cases_eq n slot)
  where
    here : n ≡ slot → (up_to saved slot n || (slot == n)) ≡ up_to saved (slot + 1) n
    here e = ap (λ b. up_to saved slot n || b) (eq-eqb slot n (sym e)) ∙ (or_true (up_to saved slot n)
        ∙ sym (ap (λ k. saved k && nat_lt k (slot + 1)) e ∙ (ap (λ b. b && nat_lt slot (slot + 1)) is ∙ lt-ltb slot (slot + 1) (omega arith))))

    there : n ≢ slot → (up_to saved slot n || (slot == n)) ≡ up_to saved (slot + 1) n
    there d = ap (λ b. up_to saved slot n || b) (apart slot n d) ∙ (or_false (up_to saved slot n) ∙ ap (λ b. saved n && b) (sym (below_more n slot d)))

none_more : (saved : ℕ → Bool) (slot : ℕ) → saved slot ≡ false → (n : ℕ) → up_to saved slot n ≡ up_to saved (slot + 1) n
none_more saved slot is n = ⊎_elim (λ (e : n ≡ slot). here e) (λ (d : n ≢ slot). ap (λ b. saved n && b) (sym (below_more n slot d))) (cases_eq n slot)
  where
    here : n ≡ slot → up_to saved slot n ≡ up_to saved (slot + 1) n
    here e = ap (λ k. saved k && nat_lt k slot) e ∙ (ap (λ b. b && nat_lt slot slot) is ∙ sym (ap (λ k. saved k && nat_lt k (slot + 1)) e ∙ ap (λ b. b && nat_lt slot (slot + 1)) is))

-- before the first slot
pub none_freed : (saved : ℕ → Bool) (hs : Held) → hs ≡ without_those (up_to saved 0) hs
none_freed saved hs = sym (ap (λ (set : ℕ → Bool). without_those set hs) (λ i n. none n i) ∙ without_none hs)
  where
    none : (n : ℕ) → up_to saved 0 n ≡ false
    none n = ap (λ b. saved n && b) (le-ltb n 0 (omega arith)) ∙ and_false (saved n)

-- one more slot that is saved into is given up
pub one_freed : (saved : ℕ → Bool) (slot : ℕ) (old mid new : Held) → saved slot ≡ true → mid ≡ without_those (up_to saved slot) old → new ≡ without_slot slot mid
    → new ≡ without_those (up_to saved (slot + 1)) old
one_freed saved slot old mid new is h e = e ∙ (without_one slot mid ∙ (ap (without_those (λ n. slot == n)) h
    ∙ (without_both (up_to saved slot) (λ n. slot == n) old ∙ ap (λ (set : ℕ → Bool). without_those set old) (λ i n. one_more saved slot is n i))))

-- one that isn't stays
pub none_given : (saved : ℕ → Bool) (slot : ℕ) (old mid : Held) → saved slot ≡ false → mid ≡ without_those (up_to saved slot) old → mid ≡ without_those (up_to saved (slot + 1)) old
none_given saved slot old mid is h = h ∙ ap (λ (set : ℕ → Bool). without_those set old) (λ i n. none_more saved slot is n i)

-- all slots that drawings name
pub all_freed : (saved : ℕ → Bool) (end : ℕ) (old new : Held) → ((n : ℕ) → end ≤ n → saved n ≡ false) → new ≡ without_those (up_to saved end) old → new ≡ without_those saved old
all_freed saved end old new none h = h ∙ ap (λ (set : ℕ → Bool). without_those set old) (λ i n. each n i)
  where
    by : (n : ℕ) (b : Bool) → nat_lt n end ≡ b → (saved n && b) ≡ saved n
    by n true e = and_true (saved n)
    by n false e = and_false (saved n) ∙ sym (none n (ltb-false n end e))

    each : (n : ℕ) → up_to saved end n ≡ saved n
    each n = by n (nat_lt n end) refl

-- the jump
pub has_jumped : (size : Size) (old new : Walker) (ps : List Pending) → tiles new.dirty ≡ either_tiles (tiles old.dirty) (touched_by size ps) → new.held ≡ without_those (saved_by ps) old.held
    → HasJumped old (jumped size (walk_of old) ps) new
has_jumped size old new ps dirty held = record {
  walk = walk_is (tiles new.dirty) (either_tiles (tiles old.dirty) (touched_by size ps)) new.held (without_those (saved_by ps) old.held) dirty held ∙ sym (jumped_is size (walk_of old) ps);
}
