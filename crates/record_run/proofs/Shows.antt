-- The record of a legal journal is shown as its picture.
use Rattle.std.proofs.Common.{◌≡◌, ◌∙◌, ℕ, ◌≤◌, Bool, List, [], ◌∷◌, length, true, false, ap, arith, refl, subst, sym}
use Rattle.std.specs.Prelude.{Option, Some, None, is_none, nat_le, ◌&&◌, if◌then◌else◌}
use Rattle.std.proofs.lemmas.Bool.{and_parts}
use Rattle.std.proofs.lemmas.Bool.Decides.{nat_tests}
use Rattle.px_core.specs.Rectangle.{is_session_size}
use Rattle.session_rules.specs.declared.entry.Entry.{Entry}
use Rattle.session_rules.specs.Journal.{Head, Reached, refusal_of, reached_at_first, reached_after_entry, are_legal_after, IsLegalJournal, ChangesAreTheHolders, picture_after_entries}
use Rattle.session_rules.proofs.Changes.{ChangesAreTheHolders-legal}
use Rattle.record_rules.specs.Tables.{is_recordable_head, record_bytes}
use Rattle.record_rules.specs.Records.{End, Recorded, StandsFor, journal_of_record}
use Rattle.record_rules.specs.Records.End.{Unfinished}
use Rattle.record_rules.proofs.Recordable.{legal_recordable}
use Rattle.record_rules.proofs.RecordsBack.{stands_back}
use Rattle.record_file.specs.Replaying.{Replayed, replayed, replayed_by, replayed_of, legal_after, legal_front}
use Rattle.record_file.proofs.Legal.{all_legal}
use Rattle.record_file.proofs.Fronts.{replayed_by_record}
use Rattle.record_run.specs.Shown.{shown, fault_shown}
use Rattle.record_run.specs.Shown.Shown.{OnlyHas, Pictured}
use Rattle.record_run.specs.Replays.{ShowsJournal, ReplaysByHolders}

journal_replayed : (bytes : List ℕ) (head : Head) (j : List Entry) → is_recordable_head head ≡ true → IsLegalJournal head j → StandsFor bytes head j
    → replayed bytes ≡ record { head = Some head; entries = j; fault = None }
journal_replayed bytes head j h legal stands =
    let size = and_parts (is_session_size head.size.w head.size.h) _ h in
    replayed_by_record bytes ∙ ap (λ (r : Recorded). replayed_of r) (stands_back bytes head j h (legal_recordable head j size.0 legal) stands)
    ∙ all_legal head j (Unfinished (length (record_bytes head j))) legal

enough : (stop many : ℕ) → stop ≤ many → nat_le stop many ≡ true
enough stop many few = grind (arith, nat_tests, few)

pub shows_journal : (stop : ℕ) (bytes : List ℕ) → ShowsJournal stop bytes (shown stop bytes)
shows_journal stop bytes = λ head j h legal stands few.
    ap (λ (r : Replayed). fault_shown stop (journal_of_record bytes).end r r.fault) (journal_replayed bytes head j h legal stands)
    ∙ ap (λ t. if t then Pictured head.size (picture_after_entries head.size j stop) else OnlyHas (length j)) (enough stop (length j) few)

-- ---- what is replayed is legal

front_legal : (head : Head) (r : Reached) (es : List Entry) → are_legal_after head r (legal_after head r es) ≡ true
front_legal head r [] = refl
front_legal head r (e ∷ es) = by (is_none (refusal_of head r e)) refl (front_legal head (reached_after_entry head.size r e) es)
  where
    more : List Entry
    more = legal_after head (reached_after_entry head.size r e) es

    by : (t : Bool) → is_none (refusal_of head r e) ≡ t → are_legal_after head (reached_after_entry head.size r e) more ≡ true
        → are_legal_after head r (if t then e ∷ more else []) ≡ true
    by true k others = ap (λ t. t && are_legal_after head (reached_after_entry head.size r e) more) k ∙ others
    by false k others = refl

abbrev ByHolders : Head → List Entry → Type 0
ByHolders head j = IsLegalJournal head j × ChangesAreTheHolders head.size j

replayed_legal : (found : Option Head) (whole : List Entry) (end : End) (head : Head) → (replayed_by found whole end).head ≡ Some head
    → ByHolders head (replayed_by found whole end).entries
replayed_legal None whole end head e = absurd (cc e)
replayed_legal (Some found) whole end head e =
    let legal = front_legal found (reached_at_first found.size) whole in
    subst (λ (h : Head). ByHolders h (legal_front found whole)) (let is : found ≡ head = cc in is) (legal, ChangesAreTheHolders-legal found (legal_front found whole) legal)

pub by_holders : (bytes : List ℕ) → ReplaysByHolders bytes
by_holders bytes = λ head e.
    let r = journal_of_record bytes in
    subst (λ (p : Replayed). p.head ≡ Some head → ByHolders head p.entries) (sym (replayed_by_record bytes)) (replayed_legal r.head r.entries r.end head) e
