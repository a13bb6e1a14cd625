-- Lists of viewers after one came, went or was changed.
use Rattle.std.proofs.Common.{◌≡◌, ℕ, zero, suc, ◌<◌, List, [], ◌∷◌, ◌++◌, length, refl, ap, sym, ◌∙◌, Some, None, arith, eq-eqb}
use Rattle.std.specs.Prelude.{Bool, true, false, ◌==◌, Option, option_map, map, slice_set, slice_index_or, if◌then◌else◌}
use Rattle.std.specs.List.{remove}
use Rattle.std.proofs.lemmas.Bool.{eqb-true}
use Rattle.session_rules.specs.Journal.{is_present, without_viewer}
use Rattle.session_rules.specs.Steps.{replaced_for}
use Rattle.session_core.specs.declared.members.Member.{Member}
use Rattle.session_core.specs.PerViewer.{kept_for}
use Rattle.session_core.specs.Members.{viewer_of, viewers_of, place_of}

map_set : {A B : Type 0} (f : A → B) (xs : List A) (i : ℕ) (x y : A) → x ≡ slice_index_or xs i x → f y ≡ f x → map f (slice_set xs i y) ≡ map f xs
map_set f [] i x y is same = refl
map_set f (z ∷ zs) zero x y is same = ap (λ b. b ∷ map f zs) (same ∙ ap f is)
map_set f (z ∷ zs) (suc i) x y is same = ap (λ bs. f z ∷ bs) (map_set f zs i x y is same)

-- a change of a viewer that keeps a part of it keeps the list of these parts
pub part_kept : {B : Type 0} (f : Member → B) (ms : List Member) (i : ℕ) (x y : Member) → x ≡ slice_index_or ms i x → f y ≡ f x → map f (slice_set ms i y) ≡ map f ms
part_kept f ms i x y is same = map_set f ms i x y is same

mapped_none : {A B : Type 0} (f : A → B) (o : Option A) → option_map f o ≡ None → o ≡ None
mapped_none f None h = refl
mapped_none f (Some x) h = absurd (cc h)

mapped_some : (o : Option ℕ) (i : ℕ) → option_map suc o ≡ Some i → (k : ℕ) × (o ≡ Some k) × (i ≡ suc k)
mapped_some None i h = absurd (cc h)
mapped_some (Some k) i h = (k, refl, cc h)

-- who has no place isn't present
pub no_place : (v : ℕ) (ms : List Member) → place_of v ms ≡ None → is_present v (viewers_of ms) ≡ false
no_place v [] h = refl
no_place v (m ∷ ms) h = by (no_place v ms) (m.number == v) refl h
  where
    by : (place_of v ms ≡ None → is_present v (viewers_of ms) ≡ false) → (t : Bool) → (m.number == v) ≡ t → (if t then Some 0 else option_map suc (place_of v ms)) ≡ None
        → is_present v (viewers_of (m ∷ ms)) ≡ false
    by again true eq k = absurd (cc k)
    by again false eq k = rw eq (again (mapped_none suc (place_of v ms) k))

pub place_within : (v : ℕ) (ms : List Member) (i : ℕ) → place_of v ms ≡ Some i → i < length ms
place_within v [] i h = absurd (cc h)
place_within v (m ∷ ms) i h = by (place_within v ms) (m.number == v) h
  where
    by : ((j : ℕ) → place_of v ms ≡ Some j → j < length ms) → (t : Bool) → (if t then Some 0 else option_map suc (place_of v ms)) ≡ Some i → i < length (m ∷ ms)
    by again true k = let e : i ≡ 0 = cc k in omega (arith, e)
    by again false k = let o = mapped_some (place_of v ms) i k in omega (arith, o.2, again o.0 o.1)

-- the viewer at its place has its number
pub number_at : (v : ℕ) (ms : List Member) (i : ℕ) (x : Member) → place_of v ms ≡ Some i → x ≡ slice_index_or ms i x → x.number ≡ v
number_at v [] i x h is = absurd (cc h)
number_at v (m ∷ ms) i x h is = by (λ j. number_at v ms j x) (m.number == v) refl h
  where
    by : ((j : ℕ) → place_of v ms ≡ Some j → x ≡ slice_index_or ms j x → x.number ≡ v) → (t : Bool) → (m.number == v) ≡ t
        → (if t then Some 0 else option_map suc (place_of v ms)) ≡ Some i → x.number ≡ v
    by again true eq k =
        let e : i ≡ 0 = cc k in
        let same : x ≡ m = rw e at is in
        ap (λ y. y.number) same ∙ eqb-true m.number v eq
    by again false eq k =
        let o = mapped_some (place_of v ms) i k in
        again o.0 o.1 (rw o.2 at is)

-- what is kept of viewers, after one was changed
pub kept_changed : {A : Type 0} (f : Member → A) (other : A) (v : ℕ) (ms : List Member) (i : ℕ) (y : Member) → place_of v ms ≡ Some i → y.number ≡ v → (u : ℕ)
    → kept_for other (map (λ (m : Member). (m.number, f m)) (slice_set ms i y)) u ≡ (if v == u then f y else kept_for other (map (λ (m : Member). (m.number, f m)) ms) u)
kept_changed f other v [] i y h n u = absurd (cc h)
kept_changed {A} f other v (m ∷ ms) i y h n u = by (λ j g. kept_changed f other v ms j y g n u) (m.number == v) refl h
  where
    rest : A
    rest = kept_for other (map (λ (m : Member). (m.number, f m)) ms) u

    first : (t : Bool) (b : A) → (if t then b else rest) ≡ (if t then b else (if t then f m else rest))
    first true b = refl
    first false b = refl

    other_first : (s t : Bool) → (m.number == u) ≡ s → (v == u) ≡ t → (m.number == v) ≡ false
        → (if s then f m else (if t then f y else rest)) ≡ (if t then f y else (if s then f m else rest))
    other_first true true eq eqv ne = let same = eqb-true m.number u eq ∙ sym (eqb-true v u eqv) in absurd (cc (ne, eq-eqb m.number v same))
    other_first true false eq eqv ne = refl
    other_first false true eq eqv ne = refl
    other_first false false eq eqv ne = refl

    by : ((j : ℕ) → place_of v ms ≡ Some j → kept_for other (map (λ (m : Member). (m.number, f m)) (slice_set ms j y)) u ≡ (if v == u then f y else rest)) → (t : Bool) → (m.number == v) ≡ t
        → (if t then Some 0 else option_map suc (place_of v ms)) ≡ Some i
        → kept_for other (map (λ (m : Member). (m.number, f m)) (slice_set (m ∷ ms) i y)) u ≡ (if v == u then f y else kept_for other (map (λ (m : Member). (m.number, f m)) (m ∷ ms)) u)
    by again true eq k =
        let e : i ≡ 0 = cc k in
        let same : m.number ≡ v = eqb-true m.number v eq in
        rw e (ap (λ w. if w == u then f y else rest) n ∙ first (v == u) (f y) ∙ ap (λ w. if v == u then f y else (if w == u then f m else rest)) (sym same))
    by again false eq k =
        let o = mapped_some (place_of v ms) i k in
        rw o.2 (ap (λ b. if m.number == u then f m else b) (again o.0 o.1) ∙ other_first (m.number == u) (v == u) refl refl eq)

-- what is kept of the others, after one went
pub kept_removed : {A : Type 0} (f : Member → A) (other : A) (v : ℕ) (ms : List Member) (i : ℕ) → place_of v ms ≡ Some i → (u : ℕ) → (v == u) ≡ false
    → kept_for other (map (λ (m : Member). (m.number, f m)) (remove ms i)) u ≡ kept_for other (map (λ (m : Member). (m.number, f m)) ms) u
kept_removed f other v [] i h u ne = absurd (cc h)
kept_removed {A} f other v (m ∷ ms) i h u ne = by (λ j g. kept_removed f other v ms j g u ne) (m.number == v) refl h
  where
    rest : A
    rest = kept_for other (map (λ (m : Member). (m.number, f m)) ms) u

    by : ((j : ℕ) → place_of v ms ≡ Some j → kept_for other (map (λ (m : Member). (m.number, f m)) (remove ms j)) u ≡ rest) → (t : Bool) → (m.number == v) ≡ t
        → (if t then Some 0 else option_map suc (place_of v ms)) ≡ Some i
        → kept_for other (map (λ (m : Member). (m.number, f m)) (remove (m ∷ ms) i)) u ≡ (if m.number == u then f m else rest)
    by again true eq k =
        let e : i ≡ 0 = cc k in
        let same : m.number ≡ v = eqb-true m.number v eq in
        rw (e, same, ne) refl
    by again false eq k =
        let o = mapped_some (place_of v ms) i k in
        rw o.2 (ap (λ b. if m.number == u then f m else b) (again o.0 o.1))

-- the viewers after one went
pub viewers_removed : (v : ℕ) (ms : List Member) (i : ℕ) → place_of v ms ≡ Some i → viewers_of (remove ms i) ≡ without_viewer v (viewers_of ms)
viewers_removed v [] i h = absurd (cc h)
viewers_removed v (m ∷ ms) i h = by (viewers_removed v ms) (m.number == v) refl h
  where
    by : ((j : ℕ) → place_of v ms ≡ Some j → viewers_of (remove ms j) ≡ without_viewer v (viewers_of ms)) → (t : Bool) → (m.number == v) ≡ t
        → (if t then Some 0 else option_map suc (place_of v ms)) ≡ Some i → viewers_of (remove (m ∷ ms) i) ≡ without_viewer v (viewers_of (m ∷ ms))
    by again true eq k = let e : i ≡ 0 = cc k in rw (e, eq) refl
    by again false eq k = let o = mapped_some (place_of v ms) i k in rw (o.2, eq) (ap (λ xs. viewer_of m ∷ xs) (again o.0 o.1))

-- what is kept of viewers, after one came of whom nothing is kept
pub kept_pushed : {A B : Type 0} (F : A → B) (f : Member → A) (other : A) (ms : List Member) (y : Member) → F (f y) ≡ F other → (u : ℕ)
    → F (kept_for other (map (λ (m : Member). (m.number, f m)) (ms ++ y ∷ [])) u) ≡ F (kept_for other (map (λ (m : Member). (m.number, f m)) ms) u)
kept_pushed {A} {B} F f other [] y same u = by (y.number == u)
  where
    by : (t : Bool) → F (if t then f y else other) ≡ F other
    by true = same
    by false = refl
kept_pushed {A} {B} F f other (m ∷ ms) y same u = by (kept_pushed F f other ms y same u) (m.number == u)
  where
    by : F (kept_for other (map (λ (m : Member). (m.number, f m)) (ms ++ y ∷ [])) u) ≡ F (kept_for other (map (λ (m : Member). (m.number, f m)) ms) u) → (t : Bool) → F (if t then f m else kept_for other (map (λ (m : Member). (m.number, f m)) (ms ++ y ∷ [])) u) ≡ F (if t then f m else kept_for other (map (λ (m : Member). (m.number, f m)) ms) u)
    by again true = refl
    by again false = again

-- of whoever isn't present nothing is kept
pub kept_absent : {A : Type 0} (f : Member → A) (other : A) (v : ℕ) (ms : List Member) → is_present v (viewers_of ms) ≡ false
    → kept_for other (map (λ (m : Member). (m.number, f m)) ms) v ≡ other
kept_absent f other v [] h = refl
kept_absent {A} f other v (m ∷ ms) h = by (kept_absent f other v ms) (m.number == v) refl
  where
    by : (is_present v (viewers_of ms) ≡ false → kept_for other (map (λ (m : Member). (m.number, f m)) ms) v ≡ other) → (t : Bool) → (m.number == v) ≡ t
        → (if t then f m else kept_for other (map (λ (m : Member). (m.number, f m)) ms) v) ≡ other
    by again true eq = let k = rw eq at h in absurd (cc k)
    by again false eq = again (rw eq at h)

-- what is kept of the viewer at its place
pub kept_here : {A : Type 0} (f : Member → A) (other : A) (v : ℕ) (ms : List Member) (i : ℕ) (x : Member) → place_of v ms ≡ Some i → x ≡ slice_index_or ms i x
    → kept_for other (map (λ (m : Member). (m.number, f m)) ms) v ≡ f x
kept_here f other v [] i x h is = absurd (cc h)
kept_here {A} f other v (m ∷ ms) i x h is = by (λ j. kept_here f other v ms j x) (m.number == v) refl h
  where
    by : ((j : ℕ) → place_of v ms ≡ Some j → x ≡ slice_index_or ms j x → kept_for other (map (λ (m : Member). (m.number, f m)) ms) v ≡ f x) → (t : Bool) → (m.number == v) ≡ t
        → (if t then Some 0 else option_map suc (place_of v ms)) ≡ Some i
        → (if t then f m else kept_for other (map (λ (m : Member). (m.number, f m)) ms) v) ≡ f x
    by again true eq k = let e : i ≡ 0 = cc k in let same : x ≡ m = rw e at is in ap f (sym same)
    by again false eq k = let o = mapped_some (place_of v ms) i k in again o.0 o.1 (rw o.2 at is)

-- a change of one viewer replaces what is kept of it
pub replaced_by : {A B : Type 0} (F : A → B) (f : Member → A) (other : A) (v : ℕ) (ms : List Member) (i : ℕ) (x y : Member) (t : B) → place_of v ms ≡ Some i
    → x ≡ slice_index_or ms i x → y.number ≡ x.number → F (f y) ≡ t
    → (u : ℕ) → F (kept_for other (map (λ (m : Member). (m.number, f m)) (slice_set ms i y)) u)
    ≡ replaced_for v t (λ w. F (kept_for other (map (λ (m : Member). (m.number, f m)) ms) w)) u
replaced_by {A} {B} F f other v ms i x y t h is same to u = ap F (kept_changed f other v ms i y h (same ∙ number_at v ms i x h is) u) ∙ by (v == u)
  where
    rest : A
    rest = kept_for other (map (λ (m : Member). (m.number, f m)) ms) u

    by : (b : Bool) → F (if b then f y else rest) ≡ (if b then t else F rest)
    by true = to
    by false = refl
