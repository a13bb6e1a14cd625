-- The numbers of viewers: no two links joined as one.
use Rattle.std.proofs.Common.{◌≡◌, ℕ, List, [], ◌∷◌, get_or, sym, refl, ◌∙◌, subst, arith, Some}
use Rattle.std.specs.Prelude.{Contains, All, AllPairs, slice_get}
use Rattle.std.proofs.lemmas.List.Elements.{All-nil, All-cons}
use Rattle.session_rules.specs.declared.entry.Entry.{Entry}
use Rattle.session_rules.specs.declared.entry.Entry.TheVariants.{Join}
use Rattle.session_rules.specs.Journal.{Head, IsLegalJournal}
use Rattle.session_rules.proofs.Joins.{join_place}
use Rattle.serve_rules.proofs.Lists.{got_more}
use Rattle.serve_rules.specs.declared.noted.ConnReport.{ConnReport}
use Rattle.edge_io.specs.Outside.{Outside}
use Rattle.viewer_run.specs.Links.{JoinsFirst}
use Rattle.viewer_run.proofs.Reports.{viewers_first_place}
use Rattle.gate_run.specs.Gates.{EachServed, AreApart}
use Rattle.gate_run.specs.OpenGate.{HaveNoPlaceInCommon}

-- a report of a viewer has the place of its Join
abbrev pub HasJoined : List Entry → ConnReport → Type 0
HasJoined j report = (report.viewer ≡ 0 → ⊥) → JoinsFirst report.viewer report.places.list j

-- so has each report of links that were served
pub each_has_joined : (head : Head) (first j : List Entry) (links : List Outside) (reports : List ConnReport) (spents : List Outside) → EachServed head first j links reports spents
    → All (HasJoined j) reports
each_has_joined head first j [] [] [] e = All-nil (HasJoined j)
each_has_joined head first j [] [] (s ∷ ss) e = absurd e
each_has_joined head first j [] (r ∷ rs) ss e = absurd e
each_has_joined head first j (l ∷ ls) [] ss e = absurd e
each_has_joined head first j (l ∷ ls) (r ∷ rs) [] e = absurd e
each_has_joined head first j (l ∷ ls) (r ∷ rs) (s ∷ ss) e =
    All-cons (HasJoined j) r rs (λ some.
    let f = viewers_first_place head e.0.before e.0.after r l s e.0.serves some in
    record {
      join = f.join;
      role = f.role;
      rest = f.rest;
      first = f.first;
      entry = subst (λ l. slice_get l f.join ≡ Some (Join r.viewer f.role)) (sym e.0.within.1) (got_more e.0.after.seen e.0.within.0 f.join (Join r.viewer f.role) f.entry);
    })
    (each_has_joined head first j ls rs ss e.1)

-- the first place of a list
pub contains_first : (places : List ℕ) (n : ℕ) (rest : List ℕ) → places ≡ n ∷ rest → Contains places n
contains_first places n rest e = subst (λ l. Contains l n) (sym e) (0, omega arith, refl)

-- over a legal journal reports that have no place in common are of viewers of their own
pub apart : (head : Head) (j : List Entry) (reports : List ConnReport) → IsLegalJournal head j → All (HasJoined j) reports → AllPairs HaveNoPlaceInCommon reports
    → AllPairs AreApart reports
apart head j reports legal joined places i k d lt within =
    record {
      viewers = λ some same.
          let one = joined i d (omega (arith, lt, within)) some in
          let other = joined k d within (λ none. some (same ∙ none)) in
          let at = join_place head j one.join other.join (get_or reports i d).viewer one.role other.role legal one.entry
          (subst (λ v. slice_get j other.join ≡ Some (Join v other.role)) (sym same) other.entry) in
          places i k d lt within one.join (contains_first (get_or reports i d).places.list one.join one.rest one.first)
          (subst (λ n. Contains (get_or reports k d).places.list n) (sym at) (contains_first (get_or reports k d).places.list other.join other.rest other.first));
      places = places i k d lt within;
    }
