-- Blocks that stand apart stay so when one of them is given up, and each ends within the positions.
use Rattle.std.proofs.Common.{◌≡◌, ℕ, zero, suc, ◌<◌, ◌≤◌, Bool, true, false, ◌||◌, not, eqb, cond, [], ◌∷◌, length, get_or, None, refl, ap, ◌∙◌, arith}
use Rattle.std.specs.List.{filter}
use Rattle.save_plan.specs.declared.place.Place.{Place}
use Rattle.save_plan.specs.Blocks.{Held, all_positions, positions_of, end_of, is_within, is_taken, IsFree, place_if, place_of, kept_if, without_slot, AreApart}

-- to give up a slot's blocks is to keep the others
pub without_is_filter : (slot : ℕ) (held : Held) → filter (λ b. not (eqb b.0 slot)) held ≡ without_slot slot held
without_is_filter slot [] = refl
without_is_filter slot (b ∷ bs) = ap (λ l. cond (not (eqb b.0 slot)) (b ∷ l) l) (without_is_filter slot bs) ∙ by_test (not (eqb b.0 slot))
  where
    by_test : (test : Bool) → cond test (b ∷ without_slot slot bs) (without_slot slot bs) ≡ kept_if test b (without_slot slot bs)
    by_test true = refl
    by_test false = refl

or_false : (a b : Bool) → a || b ≡ false → (a ≡ false) × (b ≡ false)
or_false true b h = cc
or_false false b h = (refl, h)

or_both : (a b : Bool) → a ≡ false → b ≡ false → a || b ≡ false
or_both a b h k = rw h k

untaken_without : (q slot : ℕ) (held : Held) → is_taken q held ≡ false → is_taken q (without_slot slot held) ≡ false
untaken_without q slot [] h = refl
untaken_without q slot (b ∷ bs) h = by_test (untaken_without q slot bs (or_false (is_within q b.1) (is_taken q bs) h).1) (not (eqb b.0 slot))
  where
    by_test : is_taken q (without_slot slot bs) ≡ false → (test : Bool) → is_taken q (kept_if test b (without_slot slot bs)) ≡ false
    by_test rest true = or_both (is_within q b.1) (is_taken q (without_slot slot bs)) (or_false (is_within q b.1) (is_taken q bs) h).0 rest
    by_test rest false = rest

-- what is free stays free when a block is given up
pub free_without : (n from slot : ℕ) (held : Held) → IsFree n held from → IsFree n (without_slot slot held) from
free_without n from slot held free = record { there = free.there; free = λ q low high. untaken_without q slot held (free.free q low high) }

pub apart_without : (slot : ℕ) (held : Held) → AreApart held → AreApart (without_slot slot held)
apart_without slot [] apart = tt
apart_without slot (b ∷ bs) apart = by_test (apart_without slot bs apart.1) (not (eqb b.0 slot))
  where
    by_test : AreApart (without_slot slot bs) → (test : Bool) → AreApart (kept_if test b (without_slot slot bs))
    by_test rest true = (free_without (positions_of b.1.w b.1.h) b.1.position slot bs apart.0, rest)
    by_test rest false = rest

-- a held block ends within the positions
pub ends_within : (i : ℕ) (held : Held) (d : ℕ × Place) → AreApart held → i < length held → end_of (get_or held i d).1 ≤ all_positions
ends_within i [] d apart short = absurd (omega (arith, short))
ends_within zero (b ∷ bs) d apart short = apart.0.there
ends_within (suc i) (b ∷ bs) d apart short = ends_within i bs d apart.1 (omega (arith, short))

-- a slot that is given up holds no block
pub none_after : (slot : ℕ) (held : Held) → place_of slot (without_slot slot held) ≡ None
none_after slot [] = refl
none_after slot (b ∷ bs) = by_test (none_after slot bs) (eqb b.0 slot) refl
  where
    by_test : place_of slot (without_slot slot bs) ≡ None → (test : Bool) → eqb b.0 slot ≡ test → place_of slot (kept_if (not test) b (without_slot slot bs)) ≡ None
    by_test rest true e = rest
    by_test rest false e = rw e rest

-- and to give up one that holds none changes nothing
pub without_none : (slot : ℕ) (held : Held) → place_of slot held ≡ None → without_slot slot held ≡ held
without_none slot [] none = refl
without_none slot (b ∷ bs) none = by_test (without_none slot bs) (eqb b.0 slot) none
  where
    by_test : (place_of slot bs ≡ None → without_slot slot bs ≡ bs) → (test : Bool) → place_if test b.1 (place_of slot bs) ≡ None → kept_if (not test) b (without_slot slot bs) ≡ b ∷ bs
    by_test rest true e = cc
    by_test rest false e = ap (λ l. b ∷ l) (rest e)
