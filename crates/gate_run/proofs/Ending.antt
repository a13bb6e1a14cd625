-- The end of jobs, one after the other.
use Rattle.std.proofs.Common.{◌≡◌, ℕ, zero, suc, ◌<◌, List, [], ◌∷◌, ◌++◌, length, get_or, map, sym, ap, ◌∙◌, subst, arith, append_assoc, append-nil}
use Rattle.std.specs.Prelude.{Contains, AllPairs, flat_map}
use Rattle.std.proofs.lemmas.List.{map-append}
use Rattle.std.proofs.lemmas.List.Concat.{flat_map-append}
use Rattle.std.proofs.lemmas.List.Elements.{Contains-append_left, Contains-append_right}
use Rattle.std.proofs.lemmas.List.Quantifiers.{all_pairs_push}
use Rattle.edge_io.specs.declared.link.Link as links
use Rattle.session_rules.specs.declared.entry.Entry.{Entry}
use Rattle.session_rules.specs.Journal.{Head}
use Rattle.grow_lock.specs.Journal.{StartsWith}
use Rattle.grow_lock.proofs.Lists.{starts_trans}
use Rattle.serve_rules.specs.Turns.{SessionPass}
use Rattle.serve_rules.specs.declared.noted.ConnReport.{ConnReport}
use Rattle.edge_io.specs.Outside.{Outside, outside_given, outside_spent}
use Rattle.gate_run.specs.Gates.{IsServed, EachServed}
use Rattle.gate_run.specs.OpenGate.{HaveNoPlaceInCommon, EndsAll}
use Rattle.gate_run.specs.Working.{EndsWork}

-- the places of a report
abbrev pub places_of : ConnReport → List ℕ
places_of report = report.places.list

-- what was served stays so as the journal goes on
pub each_goes_on : (head : Head) (first j more : List Entry) (links : List Outside) (reports : List ConnReport) (spents : List Outside) → StartsWith more j
    → EachServed head first j links reports spents → EachServed head first more links reports spents
each_goes_on head first j more [] [] [] h e = tt
each_goes_on head first j more [] [] (s ∷ ss) h e = absurd e
each_goes_on head first j more [] (r ∷ rs) ss h e = absurd e
each_goes_on head first j more (l ∷ ls) [] ss h e = absurd e
each_goes_on head first j more (l ∷ ls) (r ∷ rs) [] h e = absurd e
each_goes_on head first j more (l ∷ ls) (r ∷ rs) (s ∷ ss) h e = (
  record { before = e.0.before; after = e.0.after; no_turn = e.0.no_turn; no_place = e.0.no_place; since = e.0.since; serves = e.0.serves; within = starts_trans more j e.0.after.seen h e.0.within },
  each_goes_on head first j more ls rs ss h e.1,
)

-- one more link was served
pub each_and_one : (head : Head) (first j : List Entry) (links : List Outside) (reports : List ConnReport) (spents : List Outside) (link : Outside) (report : ConnReport) (spent : Outside)
    → EachServed head first j links reports spents → IsServed head first j link report spent → EachServed head first j (links ++ link ∷ []) (reports ++ report ∷ []) (spents ++ spent ∷ [])
each_and_one head first j [] [] [] link report spent e one = (one, tt)
each_and_one head first j [] [] (s ∷ ss) link report spent e one = absurd e
each_and_one head first j [] (r ∷ rs) ss link report spent e one = absurd e
each_and_one head first j (l ∷ ls) [] ss link report spent e one = absurd e
each_and_one head first j (l ∷ ls) (r ∷ rs) [] link report spent e one = absurd e
each_and_one head first j (l ∷ ls) (r ∷ rs) (s ∷ ss) link report spent e one = (e.0, each_and_one head first j ls rs ss link report spent e.1 one)

-- a place of one of the reports is a place of all of them
pub place_of_one : (reports : List ConnReport) (k : ℕ) (d : ConnReport) (n : ℕ) → k < length reports → Contains (places_of (get_or reports k d)) n → Contains (flat_map places_of reports) n
place_of_one [] k d n lt c = absurd (omega (arith, lt))
place_of_one (r ∷ rs) zero d n lt c = Contains-append_left (places_of r) (flat_map places_of rs) n c
place_of_one (r ∷ rs) (suc k) d n lt c = Contains-append_right (places_of r) (flat_map places_of rs) n (place_of_one rs k d n (omega (arith, lt)) c)

module _ {L Reader Writer Spent : Type 0} (link : links.Ghosts L Reader Writer Spent) (head : Head) (first : List Entry) where
  -- the work for some links was ended, and the places of this pass are those of their reports
  pub record HasEnded (pass : SessionPass) (given : List L) (reports : List ConnReport) (finished_old finished_new : List Spent) : Type 0 where
    pub all : EndsAll link head first pass.seen given reports finished_old finished_new
    pub mine : pass.mine ≡ flat_map places_of reports

  -- none was ended yet
  pub none_ended : (pass : SessionPass) (reports : List ConnReport) (finished : List Spent) → pass.mine ≡ [] → reports ≡ [] → HasEnded pass [] reports finished finished
  none_ended pass reports finished mine none =
      record {
        all = record {
          spents = [];
          finished = sym (append-nil finished);
          served = subst (λ rs. EachServed head first pass.seen [] rs []) (sym none) tt;
          places = subst (AllPairs HaveNoPlaceInCommon) (sym none) (λ i k d lt within. absurd (omega (arith, within)));
        };
        mine = mine ∙ ap (flat_map places_of) (sym none);
      }

  -- one more was ended
  pub one_more_ended : (pass after : SessionPass) (given : List L) (next : L) (reports reports' : List ConnReport) (old now new : List Spent) → HasEnded pass given reports old now
      → EndsWork link head first next pass after reports reports' now new → HasEnded after (given ++ next ∷ []) reports' old new
  one_more_ended pass after given next reports reports' old now new h w =
      let gives = outside_given link in let spends = outside_spent link in let all = h.all in
      let served = each_and_one head first after.seen (map gives given) reports (map spends all.spents) (gives next) w.report (spends w.spent)
      (each_goes_on head first pass.seen after.seen (map gives given) reports (map spends all.spents) w.grows all.served) w.served in
      record {
        all = record {
          spents = all.spents ++ w.spent ∷ [];
          finished = w.finished ∙ (ap (λ l. l ++ w.spent ∷ []) all.finished ∙ append_assoc old all.spents (w.spent ∷ []));
          served = subst (λ ls. EachServed head first after.seen ls reports' (map spends (all.spents ++ w.spent ∷ []))) (sym (map-append gives given (next ∷ [])))
              (subst (λ ss. EachServed head first after.seen (map gives given ++ gives next ∷ []) reports' ss) (sym (map-append spends all.spents (w.spent ∷ [])))
              (subst (λ rs. EachServed head first after.seen (map gives given ++ gives next ∷ []) rs (map spends all.spents ++ spends w.spent ∷ [])) (sym w.reports) served));
          places = subst (AllPairs HaveNoPlaceInCommon) (sym w.reports) (all_pairs_push HaveNoPlaceInCommon reports w.report all.places
              (λ k d lt n one other. w.disjoint n (subst (λ l. Contains l n) (sym h.mine) (place_of_one reports k d n lt one)) other));
        };
        mine = w.mine ∙ (ap (λ l. l ++ places_of w.report) h.mine ∙ (ap (λ l. flat_map places_of reports ++ l) (sym (append-nil (places_of w.report)))
            ∙ (sym (flat_map-append places_of reports (w.report ∷ [])) ∙ ap (flat_map places_of) (sym w.reports))));
      }
