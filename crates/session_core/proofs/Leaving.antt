-- A viewer that leaves.
use Rattle.std.proofs.Common.{◌≡◌, ℕ, suc, ◌+◌, ◌≤◌, ◌<◌, List, [], ◌∷◌, length, refl, ap, sym, ◌∙◌, None, arith}
use Rattle.std.proofs.lemmas.Bool.Decides.{nat_tests}
use Rattle.std.proofs.lemmas.Bool.{eqb-true}
use Rattle.std.specs.Prelude.{Bool, true, false, ◌==◌, if◌then◌else◌}
use Rattle.draw_ops.specs.Ranges.{is_u32}
use Rattle.session_rules.specs.declared.entry.Entry.TheVariants.{Leave}
use Rattle.session_rules.specs.Journal.{Head, Reached, Viewer, is_present, without_viewer, refusal_of}
use Rattle.session_rules.specs.Steps.{replaced_for}
use Rattle.session_rules.specs.Reaching.{AreNumbered}

pub leave_legal : (head : Head) (r : Reached) (v : ℕ) → v < 4294967296 → is_present v r.viewers ≡ true → refusal_of head r (Leave v) ≡ None
leave_legal head r v range here = let small : is_u32 v ≡ true = grind (arith, nat_tests, range) in rw (small, here) refl

-- a viewer above all of some isn't among them
absent_above : (v low high : ℕ) (xs : List Viewer) → v ≤ low → AreNumbered low xs high → is_present v xs ≡ false
absent_above v low high [] l h = refl
absent_above v low high (x ∷ xs) l h = by (x.number == v) refl (absent_above v x.number high xs (omega (arith, l, h.0)) h.1)
  where
    by : (t : Bool) → (x.number == v) ≡ t → is_present v xs ≡ false → is_present v (x ∷ xs) ≡ false
    by true eq rest = let same = eqb-true x.number v eq in absurd (omega (arith, same, l, h.0))
    by false eq rest = rw eq rest

-- who left isn't present
pub gone : (v low high : ℕ) (xs : List Viewer) → AreNumbered low xs high → is_present v (without_viewer v xs) ≡ false
gone v low high [] h = refl
gone v low high (x ∷ xs) h = by (x.number == v) refl (gone v x.number high xs h.1)
  where
    by : (t : Bool) → (x.number == v) ≡ t → is_present v (without_viewer v xs) ≡ false → is_present v (if t then xs else x ∷ without_viewer v xs) ≡ false
    by true eq rest = let same = eqb-true x.number v eq in absent_above v x.number high xs (omega (arith, same)) h.1
    by false eq rest = rw eq rest

-- a number above all is nobody's
pub absent_past : (v low high : ℕ) (xs : List Viewer) → high < v → AreNumbered low xs high → is_present v xs ≡ false
absent_past v low high [] l h = refl
absent_past v low high (x ∷ xs) l h = by (x.number == v) refl (absent_past v x.number high xs l h.1) (numbered_high x.number high xs h.1)
  where
    numbered_high : (low high : ℕ) (ys : List Viewer) → AreNumbered low ys high → low ≤ high
    numbered_high low high [] g = g
    numbered_high low high (y ∷ ys) g = omega (arith, g.0, numbered_high y.number high ys g.1)

    by : (t : Bool) → (x.number == v) ≡ t → is_present v xs ≡ false → x.number ≤ high → is_present v (x ∷ xs) ≡ false
    by true eq rest below = let same = eqb-true x.number v eq in absurd (omega (arith, same, below, l))
    by false eq rest below = rw eq rest

-- one viewer fewer is present
pub one_fewer : (v : ℕ) (xs : List Viewer) → is_present v xs ≡ true → length (without_viewer v xs) + 1 ≡ length xs
one_fewer v [] h = absurd (cc h)
one_fewer v (x ∷ xs) h = by (x.number == v) refl (one_fewer v xs)
  where
    by : (t : Bool) → (x.number == v) ≡ t → (is_present v xs ≡ true → length (without_viewer v xs) + 1 ≡ length xs) → length (if t then xs else x ∷ without_viewer v xs) + 1 ≡ suc (length xs)
    by true eq again = omega arith
    by false eq again = let rest = again (rw eq at h) in omega (arith, rest)

-- what differs at one number alone
pub replaced_where : {A : Type 0} (v : ℕ) (t : A) (f g : ℕ → A) → ((u : ℕ) → (v == u) ≡ false → g u ≡ f u) → g v ≡ t → g ≡ replaced_for v t f
replaced_where {A} v t f g others at i u = by (v == u) refl i
  where
    by : (b : Bool) → (v == u) ≡ b → g u ≡ (if b then t else f u)
    by true eq = ap g (sym (eqb-true v u eq)) ∙ at
    by false eq = others u eq
