-- Steps of reading with causes.
use Rattle.std.proofs.Common.{◌≡◌, ℕ, ◌⊎◌, inl, inr, List, ◌++◌, refl, ap, sym}
use Rattle.std.specs.Prelude.{Ok, Err}
use Rattle.wire_num.specs.Field.{Read}
use Rattle.wire_num.specs.Caused.{Caused, caused, then_caused, map_caused, before_caused}

-- a field is there
pub go_on : {C A B : Type 0} (r : Caused C A) (f : A → List ℕ → Caused C B) (v : A) (more : List ℕ) →
    r ≡ Ok (v, more) → then_caused r f ≡ f v more
go_on r f v more e = ap (λ x. then_caused x f) e

pub go_on_caused : {C A B : Type 0} (c : C) (r : Read A) (f : A → List ℕ → Caused C B) (v : A) (more : List ℕ) →
    r ≡ Ok (v, more) → then_caused (caused c r) f ≡ f v more
go_on_caused c r f v more e = ap (λ x. then_caused (caused c x) f) e

-- a field is refused
pub stop : {C A B : Type 0} (r : Caused C A) (f : A → List ℕ → Caused C B) (e : C × List ℕ) → r ≡ Err e → then_caused r f ≡ Err e
stop r f e h = ap (λ x. then_caused x f) h

pub stop_caused : {C A B : Type 0} (c : C) (r : Read A) (f : A → List ℕ → Caused C B) (left : List ℕ) →
    r ≡ Err left → then_caused (caused c r) f ≡ Err (c, left)
stop_caused c r f left e = ap (λ x. then_caused (caused c x) f) e

-- the parts of what was read
pub then_ok : {C A B : Type 0} (r : Caused C A) (f : A → List ℕ → Caused C B) (y : B × List ℕ) → then_caused r f ≡ Ok y
    → (v : A × List ℕ) × (r ≡ Ok v) × (f v.0 v.1 ≡ Ok y)
then_ok (Ok v) f y e = (v, refl, e)
then_ok (Err d) f y e = absurd (let h : ⊥ = cc in h)

pub caused_ok : {C A : Type 0} (c : C) (r : Read A) (y : A × List ℕ) → caused c r ≡ Ok y → r ≡ Ok y
caused_ok c (Ok v) y e = let h : v ≡ y = cc in ap Ok h
caused_ok c (Err left) y e = absurd (let h : ⊥ = cc in h)

pub map_ok : {C A B : Type 0} (f : A → B) (r : Caused C A) (y : B × List ℕ) → map_caused f r ≡ Ok y
    → (v : A × List ℕ) × (r ≡ Ok v) × (f v.0 ≡ y.0) × (v.1 ≡ y.1)
map_ok f (Ok v) y e = let h : (f v.0, v.1) ≡ y = cc in (v, refl, ap (λ p. p.0) h, ap (λ p. p.1) h)
map_ok f (Err d) y e = absurd (let h : ⊥ = cc in h)

pub before_ok : {C A : Type 0} (after : List ℕ) (r : Caused C A) (y : A × List ℕ) → before_caused after r ≡ Ok y
    → (v : A × List ℕ) × (r ≡ Ok v) × (v.0 ≡ y.0) × (after ≡ y.1)
before_ok after (Ok v) y e = let h : (v.0, after) ≡ y = cc in (v, refl, ap (λ p. p.0) h, ap (λ p. p.1) h)
before_ok after (Err d) y e = absurd (let h : ⊥ = cc in h)

-- the parts of what was refused
abbrev pub Same : {C : Type 0} → C × List ℕ → C × List ℕ → Type 0
Same d e = d ≡ e

pub then_err : {C A B : Type 0} (r : Caused C A) (f : A → List ℕ → Caused C B) (e : C × List ℕ) → then_caused r f ≡ Err e
    → (r ≡ Err e) ⊎ ((v : A × List ℕ) × (r ≡ Ok v) × (f v.0 v.1 ≡ Err e))
then_err (Ok v) f e h = inr (v, refl, h)
then_err (Err d) f e h = inl (let k : d ≡ e = cc in ap Err k)

pub caused_err : {C A : Type 0} (c : C) (r : Read A) (cause : C) (left : List ℕ) → caused c r ≡ Err (cause, left) → (cause ≡ c) × (r ≡ Err left)
caused_err c (Ok v) cause left e = absurd (let k : ⊥ = cc in k)
caused_err c (Err l) cause left e =
    let k : Same (c, l) (cause, left) = cc in (sym (ap (λ p. p.0) k), ap (λ p. Err p.1) k)

pub caused_step : {C A B : Type 0} (c : C) (r : Read A) (f : A → List ℕ → Caused C B) (cause : C) (left : List ℕ) →
    then_caused (caused c r) f ≡ Err (cause, left)
    → ((cause ≡ c) × (r ≡ Err left)) ⊎ ((v : A × List ℕ) × (r ≡ Ok v) × (f v.0 v.1 ≡ Err (cause, left)))
caused_step c (Ok v) f cause left e = inr (v, refl, e)
caused_step c (Err l) f cause left e =
    let k : Same (c, l) (cause, left) = cc in inl (sym (ap (λ p. p.0) k), ap (λ p. Err p.1) k)

pub map_err : {C A B : Type 0} (f : A → B) (r : Caused C A) (e : C × List ℕ) → map_caused f r ≡ Err e → r ≡ Err e
map_err f (Ok v) e h = absurd (let k : ⊥ = cc in k)
map_err f (Err d) e h = let k : d ≡ e = cc in ap Err k

pub before_err : {C A : Type 0} (after : List ℕ) (r : Caused C A) (e : C × List ℕ) → before_caused after r ≡ Err e
    → (left : List ℕ) × (r ≡ Err (e.0, left)) × (e.1 ≡ left ++ after)
before_err after (Ok v) e h = absurd (let k : ⊥ = cc in k)
before_err after (Err d) e h =
    let k : Same (d.0, d.1 ++ after) e = cc in (d.1, ap (λ c. Err (c, d.1)) (ap (λ p. p.0) k), sym (ap (λ p. p.1) k))
