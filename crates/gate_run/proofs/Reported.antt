-- Each place of a pass that met all others is in just one report.
use Rattle.std.proofs.Common.{◌≡◌, ℕ, zero, suc, ◌<◌, ◌≤◌, List, [], ◌∷◌, length, get_or, sym, refl, ⊎_elim, subst, arith, Some}
use Rattle.std.specs.Prelude.{Contains, AllPairs, flat_map, slice_get}
use Rattle.std.proofs.lemmas.List.Elements.{Contains-append_cases}
use Rattle.session_rules.specs.declared.entry.Entry.{Entry}
use Rattle.grow_lock.specs.Journal.{StartsWith}
use Rattle.grow_lock.proofs.Lists.{none_has}
use Rattle.serve_rules.specs.declared.noted.ConnReport.{ConnReport}
use Rattle.gate_run.specs.Gates.{StandsIn, IsAllReported}
use Rattle.gate_run.specs.OpenGate.{HaveNoPlaceInCommon}
use Rattle.gate_run.proofs.Ending.{places_of}

-- a place of all reports is in one of them
stands : (reports : List ConnReport) (n : ℕ) → Contains (flat_map places_of reports) n → (k : ℕ) × StandsIn reports n k
stands [] n has = absurd (none_has n has)
stands (r ∷ rs) n has = ⊎_elim
    (λ (here : Contains (places_of r) n). (0, (r, refl, here)))
    (λ (there : Contains (flat_map places_of rs) n). let s = stands rs n there in (suc s.0, s.1))
    (Contains-append_cases (places_of r) (flat_map places_of rs) n has)

-- a report at an index
at_index : (reports : List ConnReport) (k : ℕ) (r d : ConnReport) → slice_get reports k ≡ Some r → (k < length reports) × (get_or reports k d ≡ r)
at_index [] k r d e = absurd (cc e)
at_index (x ∷ xs) zero r d e = (omega arith, let f : x ≡ r = cc e in f)
at_index (x ∷ xs) (suc k) r d e = let s = at_index xs k r d e in let lt = s.0 in (omega (arith, lt), s.1)

-- of two reports that have no place in common just one has it
one_of_two : (reports : List ConnReport) (n i k : ℕ) → AllPairs HaveNoPlaceInCommon reports → StandsIn reports n i → StandsIn reports n k → i < k → ⊥
one_of_two reports n i k apart (r, at, has) (r', at', has') lt =
    let one = at_index reports i r r at in let other = at_index reports k r' r at' in
    apart i k r lt other.0 n (subst (λ (x : ConnReport). Contains x.places.list n) (sym one.1) has) (subst (λ (x : ConnReport). Contains x.places.list n) (sym other.1) has')

by_order : (i k : ℕ) → (i < k → ⊥) → (k < i → ⊥) → i ≡ k
by_order i k a b = omega (arith, a, b)

pub all_reported : (first j : List Entry) (reports : List ConnReport) (mine : List ℕ) → StartsWith j first → ((n : ℕ) → length first ≤ n → n < length j → Contains mine n)
    → mine ≡ flat_map places_of reports → AllPairs HaveNoPlaceInCommon reports → IsAllReported first j reports
all_reported first j reports mine begins all same apart = record {
  begins = begins;
  reported = λ n low lt. let s = stands reports n (subst (λ l. Contains l n) same (all n low lt)) in record {
    index = s.0;
    stands = s.1;
    only = λ other o. by_order other s.0 (one_of_two reports n other s.0 apart o s.1) (one_of_two reports n s.0 other apart s.1 o);
  };
}
