-- Seats by their viewers' numbers, after one came, went or was changed.
use Rattle.std.proofs.Common.{◌≡◌, ℕ, suc, ◌<◌, List, [], ◌∷◌, ◌++◌, length, refl, ap, sym, ◌∙◌, arith, eq-eqb}
use Rattle.std.specs.Prelude.{Bool, true, false, ◌==◌, slice_set, slice_index_or, if◌then◌else◌}
use Rattle.std.specs.declared.option.Option.{Option}
use Rattle.std.specs.declared.option.Option.TheVariants.{Some, None}
use Rattle.std.specs.Option.{option_map}
use Rattle.std.specs.List.{remove}
use Rattle.std.proofs.lemmas.Bool.{eqb-true}
use Rattle.viewer_sender.specs.Seats.{SeatModel}
use Rattle.script_run.specs.Hosts.{seat_of, place_of}

mapped_some : (o : Option ℕ) (i : ℕ) → option_map suc o ≡ Some i → (k : ℕ) × (o ≡ Some k) × (i ≡ suc k)
mapped_some None i h = absurd (cc h)
mapped_some (Some k) i h = (k, refl, cc h)

mapped_none : (o : Option ℕ) → option_map suc o ≡ None → o ≡ None
mapped_none None h = refl
mapped_none (Some x) h = absurd (cc h)

-- who has no place has no seat
pub no_place : (v : ℕ) (ss : List SeatModel) → place_of v ss ≡ None → seat_of v ss ≡ None
no_place v [] h = refl
no_place v (s ∷ ss) h = by (no_place v ss) (s.sender.v == v) refl h
  where
    by : (place_of v ss ≡ None → seat_of v ss ≡ None) → (t : Bool) → (s.sender.v == v) ≡ t → (if t then Some 0 else option_map suc (place_of v ss)) ≡ None
        → seat_of v (s ∷ ss) ≡ None
    by again true eq k = absurd (cc k)
    by again false eq k = rw eq (again (mapped_none (place_of v ss) k))

pub place_within : (v : ℕ) (ss : List SeatModel) (i : ℕ) → place_of v ss ≡ Some i → i < length ss
place_within v [] i h = absurd (cc h)
place_within v (s ∷ ss) i h = by (place_within v ss) (s.sender.v == v) h
  where
    by : ((j : ℕ) → place_of v ss ≡ Some j → j < length ss) → (t : Bool) → (if t then Some 0 else option_map suc (place_of v ss)) ≡ Some i → i < length (s ∷ ss)
    by again true k = let e : i ≡ 0 = cc k in omega (arith, e)
    by again false k = let o = mapped_some (place_of v ss) i k in omega (arith, o.2, again o.0 o.1)

-- the seat at a viewer's place is its seat, and has its number
pub seat_here : (v : ℕ) (ss : List SeatModel) (i : ℕ) (x : SeatModel) → place_of v ss ≡ Some i → x ≡ slice_index_or ss i x → (seat_of v ss ≡ Some x) × (x.sender.v ≡ v)
seat_here v [] i x h is = absurd (cc h)
seat_here v (s ∷ ss) i x h is = by (λ j. seat_here v ss j x) (s.sender.v == v) refl h
  where
    by : ((j : ℕ) → place_of v ss ≡ Some j → x ≡ slice_index_or ss j x → (seat_of v ss ≡ Some x) × (x.sender.v ≡ v)) → (t : Bool) → (s.sender.v == v) ≡ t
        → (if t then Some 0 else option_map suc (place_of v ss)) ≡ Some i
        → ((if t then Some s else seat_of v ss) ≡ Some x) × (x.sender.v ≡ v)
    by again true eq k =
        let e : i ≡ 0 = cc k in
        let same : x ≡ s = rw e at is in
        (ap Some (sym same), ap (λ (y : SeatModel). y.sender.v) same ∙ eqb-true s.sender.v v eq)
    by again false eq k = let o = mapped_some (place_of v ss) i k in again o.0 o.1 (rw o.2 at is)

-- after a viewer's seat was changed
pub seat_changed : (v : ℕ) (ss : List SeatModel) (i : ℕ) (y : SeatModel) → place_of v ss ≡ Some i → y.sender.v ≡ v → (u : ℕ)
    → seat_of u (slice_set ss i y) ≡ (if v == u then Some y else seat_of u ss)
seat_changed v [] i y h n u = absurd (cc h)
seat_changed v (s ∷ ss) i y h n u = by (λ j g. seat_changed v ss j y g n u) (s.sender.v == v) refl h
  where
    rest : Option SeatModel
    rest = seat_of u ss

    first : (t : Bool) (b : Option SeatModel) → (if t then b else rest) ≡ (if t then b else (if t then Some s else rest))
    first true b = refl
    first false b = refl

    other_first : (b t : Bool) → (s.sender.v == u) ≡ b → (v == u) ≡ t → (s.sender.v == v) ≡ false
        → (if b then Some s else (if t then Some y else rest)) ≡ (if t then Some y else (if b then Some s else rest))
    other_first true true eq eqv ne = let same = eqb-true s.sender.v u eq ∙ sym (eqb-true v u eqv) in absurd (cc (ne, eq-eqb s.sender.v v same))
    other_first true false eq eqv ne = refl
    other_first false true eq eqv ne = refl
    other_first false false eq eqv ne = refl

    by : ((j : ℕ) → place_of v ss ≡ Some j → seat_of u (slice_set ss j y) ≡ (if v == u then Some y else rest)) → (t : Bool) → (s.sender.v == v) ≡ t
        → (if t then Some 0 else option_map suc (place_of v ss)) ≡ Some i
        → seat_of u (slice_set (s ∷ ss) i y) ≡ (if v == u then Some y else seat_of u (s ∷ ss))
    by again true eq k =
        let e : i ≡ 0 = cc k in
        let same : s.sender.v ≡ v = eqb-true s.sender.v v eq in
        rw e (ap (λ w. if w == u then Some y else rest) n ∙ first (v == u) (Some y)
        ∙ ap (λ w. if v == u then Some y else (if w == u then Some s else rest)) (sym same))
    by again false eq k =
        let o = mapped_some (place_of v ss) i k in
        rw o.2 (ap (λ b. if s.sender.v == u then Some s else b) (again o.0 o.1) ∙ other_first (s.sender.v == u) (v == u) refl refl eq)

-- of the others, after one went
pub seat_removed : (v : ℕ) (ss : List SeatModel) (i : ℕ) → place_of v ss ≡ Some i → (u : ℕ) → (v == u) ≡ false → seat_of u (remove ss i) ≡ seat_of u ss
seat_removed v [] i h u ne = absurd (cc h)
seat_removed v (s ∷ ss) i h u ne = by (λ j g. seat_removed v ss j g u ne) (s.sender.v == v) refl h
  where
    by : ((j : ℕ) → place_of v ss ≡ Some j → seat_of u (remove ss j) ≡ seat_of u ss) → (t : Bool) → (s.sender.v == v) ≡ t
        → (if t then Some 0 else option_map suc (place_of v ss)) ≡ Some i
        → seat_of u (remove (s ∷ ss) i) ≡ (if s.sender.v == u then Some s else seat_of u ss)
    by again true eq k =
        let e : i ≡ 0 = cc k in
        let same : s.sender.v ≡ v = eqb-true s.sender.v v eq in
        rw (e, same, ne) refl
    by again false eq k =
        let o = mapped_some (place_of v ss) i k in
        rw o.2 (ap (λ b. if s.sender.v == u then Some s else b) (again o.0 o.1))

-- of the others, after one came
pub seat_pushed : (ss : List SeatModel) (y : SeatModel) (u : ℕ) → (y.sender.v == u) ≡ false → seat_of u (ss ++ y ∷ []) ≡ seat_of u ss
seat_pushed [] y u ne = rw ne refl
seat_pushed (s ∷ ss) y u ne = ap (λ b. if s.sender.v == u then Some s else b) (seat_pushed ss y u ne)

-- of the one that came
pub seat_new : (ss : List SeatModel) (y : SeatModel) (v : ℕ) → seat_of v ss ≡ None → y.sender.v ≡ v → seat_of v (ss ++ y ∷ []) ≡ Some y
seat_new [] y v h n = rw (eq-eqb y.sender.v v n) refl
seat_new (s ∷ ss) y v h n = by (s.sender.v == v) h (λ k. seat_new ss y v k n)
  where
    by : (t : Bool) → (if t then Some s else seat_of v ss) ≡ None → (seat_of v ss ≡ None → seat_of v (ss ++ y ∷ []) ≡ Some y)
        → (if t then Some s else seat_of v (ss ++ y ∷ [])) ≡ Some y
    by true k again = absurd (cc k)
    by false k again = again k
