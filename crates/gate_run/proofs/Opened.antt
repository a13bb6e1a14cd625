-- A gate that was opened, or couldn't be, and the end behind it.
use Rattle.std.proofs.Common.{◌≡◌, ℕ, ◌<◌, ◌≤◌, length, false, List, [], ◌++◌, sym, refl, ap, ◌∙◌, subst, arith, append-nil, Some}
use Rattle.std.specs.Prelude.{Contains, AllPairs, flat_map}
use Rattle.edge_io.specs.Faults.{Rose}
use Rattle.session_rules.specs.declared.entry.Entry.{Entry}
use Rattle.session_rules.specs.Journal.{Head, IsLegalJournal}
use Rattle.grow_lock.specs.Journal.{StartsWith}
use Rattle.serve_rules.specs.Turns.{SessionPass}
use Rattle.serve_rules.specs.declared.noted.ConnReport.{ConnReport}
use Rattle.edge_io.specs.Outside.{Outside}
use Rattle.gate_run.specs.declared.served.GateEnd.{GateEnd}
use Rattle.gate_run.specs.declared.served.GateEnd.TheVariants.{Ended, Failed, NoListen}
use Rattle.gate_run.specs.Gates.{GateState, EachServed, AskedFor, EndCause, ServesGate}
use Rattle.gate_run.specs.OpenGate.{HaveNoPlaceInCommon, GivesNoMore, ServesOpen, ServesBehind}
use Rattle.gate_run.proofs.Ending.{places_of, each_goes_on}
use Rattle.gate_run.proofs.Numbers.{each_has_joined, apart}
use Rattle.gate_run.proofs.Reported.{all_reported}

-- a gate was opened for so many links, and else is as before
pub record Opens (port links : ℕ) (before opened : GateState) : Type 0 where
  pub given : opened.given ≡ before.given
  pub finished : opened.finished ≡ before.finished
  pub asked : opened.asked ≡ Some (record { port = port; links = links })
  pub ended : opened.ended ≡ before.ended
  pub faults : opened.faults ≡ before.faults

asked_for : (end : GateEnd) (port links : ℕ) (before opened after : GateState) → Opens port links before opened → after.asked ≡ opened.asked
    → GivesNoMore end opened.ended after.ended opened.faults after.faults → AskedFor end port links before.asked after.asked
asked_for Ended port links before opened after o same cause = same ∙ o.asked
asked_for Failed port links before opened after o same cause = same ∙ o.asked
asked_for NoListen port links before opened after o same cause = absurd cause

end_cause : (end : GateEnd) (port links : ℕ) (joined : List Outside) (before opened after : GateState) → before.ended ≡ false → Opens port links before opened
    → GivesNoMore end opened.ended after.ended opened.faults after.faults → EndCause end joined before after
end_cause Ended port links joined before opened after new o cause = (new, cause.0, cause.1 ∙ o.faults)
end_cause Failed port links joined before opened after new o cause = (cause.0 ∙ o.ended, subst (λ f. Rose f after.faults) o.faults cause.1)
end_cause NoListen port links joined before opened after new o cause = absurd cause

-- the links of a gate that was opened were served
pub behind_opened : (head : Head) (first : List Entry) (port links : ℕ) (before opened after : GateState) (pass : SessionPass) (reports : List ConnReport) (end : GateEnd) → before.ended ≡ false
    → Opens port links before opened → ServesOpen head first opened after pass reports end → ServesBehind head first port links before after pass reports end
behind_opened head first port links before opened after pass reports end new o s =
    record {
      joined = s.joined;
      spent = s.spent;
      given = s.given ∙ ap (λ l. l ++ s.joined) o.given;
      finished = s.finished ∙ ap (λ l. l ++ s.spent) o.finished;
      served = s.served;
      places = s.places;
      mine = s.mine;
      asked = asked_for end port links before opened after o s.asked s.cause;
      cause = end_cause end port links s.joined before opened after new o s.cause;
    }

-- a gate couldn't be opened, and else is as before
pub record StaysShut (before after : GateState) : Type 0 where
  pub given : after.given ≡ before.given
  pub finished : after.finished ≡ before.finished
  pub asked : after.asked ≡ before.asked
  pub ended : after.ended ≡ before.ended
  pub faults : Rose before.faults after.faults

pub behind_shut : (head : Head) (first : List Entry) (port links : ℕ) (before after : GateState) (pass : SessionPass) (reports : List ConnReport) → StaysShut before after → reports ≡ []
    → pass.mine ≡ [] → ServesBehind head first port links before after pass reports NoListen
behind_shut head first port links before after pass reports s none empty =
    record {
      joined = [];
      spent = [];
      given = s.given ∙ sym (append-nil before.given);
      finished = s.finished ∙ sym (append-nil before.finished);
      served = subst (λ rs. EachServed head first pass.seen [] rs []) (sym none) tt;
      places = subst (AllPairs HaveNoPlaceInCommon) (sym none) (λ i k d lt within. absurd (omega (arith, within)));
      mine = empty ∙ ap (flat_map places_of) (sym none);
      asked = s.asked;
      cause = (refl, s.ended, s.faults);
    }

-- behind them the session's lock was closed
pub closed : (head : Head) (first : List Entry) (port links : ℕ) (before after : GateState) (pass : SessionPass) (reports : List ConnReport) (end : GateEnd) (j : List Entry)
    → ServesBehind head first port links before after pass reports end → IsLegalJournal head j → StartsWith j pass.seen → StartsWith j first
    → ((n : ℕ) → length first ≤ n → n < length j → Contains pass.mine n) → ServesGate head first port links before after j reports end
closed head first port links before after pass reports end j s legal on begins all =
    let served = each_goes_on head first pass.seen j s.joined reports s.spent on s.served in record {
      joined = s.joined;
      spent = s.spent;
      given = s.given;
      finished = s.finished;
      served = served;
      legal = legal;
      apart = apart head j reports legal (each_has_joined head first j s.joined reports s.spent served) s.places;
      whole = all_reported first j reports pass.mine begins all s.mine s.places;
      asked = s.asked;
      cause = s.cause;
    }
