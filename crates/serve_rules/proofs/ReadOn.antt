-- A read side that goes on: one stretch of reading after another, and the pass that meets another one.
use Rattle.std.proofs.Common.{◌≡◌, ℕ, ◌≤◌, List, [], ◌++◌, length, sym, refl, ap, ap₂, ◌∙◌, subst, append_assoc, append-nil, ⊎_elim, inr}
use Rattle.std.specs.Prelude.{Bool, true, ⊤}
use Rattle.std.specs.declared.option.Option.{Option}
use Rattle.std.specs.declared.option.Option.TheVariants.{Some, None}
use Rattle.std.specs.Io.KnownBytes.{Consumes}
use Rattle.edge_io.specs.Faults.{Rose}
use Rattle.edge_io.specs.Outside.{Input}
use Rattle.input_pdu.specs.declared.event.Event.{Event}
use Rattle.session_rules.specs.Journal.{Head}
use Rattle.grow_lock.specs.Journal.{StartsWith}
use Rattle.grow_lock.specs.Shares.{Share, left_half, right_half, both, HoldsShare}
use Rattle.grow_lock.proofs.Shares.{both_first, both_of_halves}
use Rattle.conn_rules.specs.declared.conn_step.ConnStep.{ConnStep}
use Rattle.conn_rules.specs.Hearing.{Hearing, Heard, StreamEnd, heard, then_heard, end_of}
use Rattle.conn_rules.specs.Hearing.StreamEnd.{RefusedAt}
use Rattle.conn_rules.proofs.Pieces.{heard_then}
use Rattle.serve_rules.specs.Turns.{SessionPass, KeepsShare}
use Rattle.serve_rules.specs.Events.{Handles}
use Rattle.serve_rules.specs.Notices.{Notice, events_in, notice_after_all, notice_in}
use Rattle.serve_rules.specs.Reading.{ReadsOn, ReadsInTurns, HasTurnsOf, ReadEnd, ReadFaults, IsOrderly, IsNoRefusal, IsWhole, IsUnended, StopsReading, one_read}
use Rattle.serve_rules.specs.declared.ends.ConnEnd.{ConnEnd}
use Rattle.serve_rules.specs.declared.ends.ConnEnd.TheVariants.{Left, Refused, Truncated, NotInvited, RoomFull, JoinsSpent, ReadFault, WriteFault, NotStored, OutOfMemory}
use Rattle.serve_rules.specs.declared.ends.SideEnd.{SideEnd}
use Rattle.serve_rules.specs.declared.ends.SideEnd.TheVariants.{Done, Stopped}
use Rattle.serve_rules.specs.declared.noted.Noted.{Noted}
use Rattle.serve_rules.proofs.Handling.{handles_then, handles_more}
use Rattle.serve_rules.proofs.Noticing.{notice_then, events_then}
use Rattle.serve_rules.proofs.InTurns.{turns_then}

abbrev OnlyDone : SideEnd → Type 0
OnlyDone (Done end) = ⊤
OnlyDone Stopped = ⊥

pub not_stopped : (end : ConnEnd) → Done end ≡ Stopped → ⊥
not_stopped end e = subst OnlyDone e tt

-- want of memory doesn't stop a side
pub orderly_stop : IsOrderly Stopped
orderly_stop e = not_stopped OutOfMemory (sym e)

-- bytes after bytes
pub consumes_then : (a b c : Option (List ℕ)) (xs ys : List ℕ) → Consumes a b xs → Consumes b c ys → Consumes a c (xs ++ ys)
consumes_then None b c xs ys p q = tt
consumes_then (Some a) None c xs ys p q = absurd p
consumes_then (Some a) (Some b) None xs ys p q = absurd q
consumes_then (Some a) (Some b) (Some c) xs ys p q = p ∙ (ap (λ l. xs ++ l) q ∙ sym (append_assoc xs ys c))

-- an end of the second stretch is one of both: what the second left is what both did, and the first met no fault
end_then : (flagged : Bool) (xs ys : List ℕ) (h : Hearing) (notice : Notice) (i j l : Input) (end : SideEnd)
    → (IsWhole j.left ys → IsWhole i.left (xs ++ ys)) → j.faults ≡ i.faults → ReadEnd flagged ys h notice j l end → ReadEnd flagged (xs ++ ys) h notice i l end
end_then flagged xs ys h notice i j l (Done Left) whole same e = λ unended. let x = e unended in (whole x.0, x.1)
end_then flagged xs ys h notice i j l (Done (Refused k at)) whole same e = e
end_then flagged xs ys h notice i j l (Done Truncated) whole same e = (e.0, whole e.1, e.2)
end_then flagged xs ys h notice i j l (Done NotInvited) whole same e = e
end_then flagged xs ys h notice i j l (Done RoomFull) whole same e = e
end_then flagged xs ys h notice i j l (Done JoinsSpent) whole same e = e
end_then flagged xs ys h notice i j l (Done ReadFault) whole same e = subst (λ (n : ℕ). Rose n l.faults) same e
end_then flagged xs ys h notice i j l (Done WriteFault) whole same e = e
end_then flagged xs ys h notice i j l (Done NotStored) whole same e = e
end_then flagged xs ys h notice i j l (Done OutOfMemory) whole same e = e
end_then flagged xs ys h notice i j l Stopped whole same e = e

-- and no read of the first stretch failed
faults_then : (h : Hearing) (notice : Notice) (i j l : Input) (end : SideEnd) → j.faults ≡ i.faults → ReadFaults h notice j l end → ReadFaults h notice i l end
faults_then h notice i j l (Done Left) same e = e ∙ same
faults_then h notice i j l (Done (Refused k at)) same e = e ∙ same
faults_then h notice i j l (Done Truncated) same e = e ∙ same
faults_then h notice i j l (Done NotInvited) same e = e ∙ same
faults_then h notice i j l (Done RoomFull) same e = e ∙ same
faults_then h notice i j l (Done JoinsSpent) same e = e ∙ same
faults_then h notice i j l (Done ReadFault) same e = e
faults_then h notice i j l (Done WriteFault) same e = e ∙ same
faults_then h notice i j l (Done NotStored) same e = e ∙ same
faults_then h notice i j l (Done OutOfMemory) same e = e ∙ same
faults_then h notice i j l Stopped same e = e ∙ same

refused_goes_on : (e : StreamEnd) (k at : ℕ) → e ≡ RefusedAt k at → IsNoRefusal e → ⊥
refused_goes_on e k at is goes_on = subst IsNoRefusal is goes_on

-- behind a refusal no read has failed
pub calm_refusal : (h : Hearing) (notice : Notice) (i j : Input) (end : SideEnd) (k at : ℕ) → end_of h ≡ RefusedAt k at → ReadFaults h notice i j end → j.faults ≡ i.faults
calm_refusal h notice i j (Done Left) k at is e = e
calm_refusal h notice i j (Done (Refused m n)) k at is e = e
calm_refusal h notice i j (Done Truncated) k at is e = e
calm_refusal h notice i j (Done NotInvited) k at is e = e
calm_refusal h notice i j (Done RoomFull) k at is e = e
calm_refusal h notice i j (Done JoinsSpent) k at is e = e
calm_refusal h notice i j (Done ReadFault) k at is e = absurd (refused_goes_on (end_of h) k at is e.0)
calm_refusal h notice i j (Done WriteFault) k at is e = e
calm_refusal h notice i j (Done NotStored) k at is e = e
calm_refusal h notice i j (Done OutOfMemory) k at is e = e
calm_refusal h notice i j Stopped k at is e = e

-- bytes behind others: where nothing was read behind a Bye or a Shutdown of the second ones, none was of both, if the first ones had none
stops_then : (rest steps : List ConnStep) (h k : Hearing) (n m : Notice) (xs ys : List ℕ) → rest ++ (heard h xs).steps ≡ steps → m ≡ notice_after_all n steps
    → ((before : List ℕ) → (heard h (xs ++ before)).steps ≡ (heard h xs).steps ++ (heard k before).steps)
    → StopsReading rest h n xs → StopsReading [] k m ys → StopsReading rest h n (xs ++ ys)
stops_then rest steps h k n m xs ys all same both a b = ⊎_elim
    (λ (none : ys ≡ []). subst (StopsReading rest h n) (sym (ap (λ l. xs ++ l) none ∙ append-nil xs)) a)
    (λ (some : (before : List ℕ) × (last : List ℕ) × (ys ≡ before ++ last) × (length last ≤ one_read) × IsUnended (notice_after_all m ([] ++ (heard k before).steps))).
    inr (
      xs ++ some.0,
      some.1,
      ap (λ l. xs ++ l) some.2 ∙ sym (append_assoc xs some.0 some.1),
      some.3,
      subst IsUnended
          (ap (λ (x : Notice). notice_after_all x (heard k some.0).steps) same
          ∙ (sym (notice_then n steps (heard k some.0).steps)
          ∙ ap (notice_after_all n) (ap (λ l. l ++ (heard k some.0).steps) (sym all) ∙ (append_assoc rest (heard h xs).steps (heard k some.0).steps
          ∙ ap (λ l. rest ++ l) (sym (both some.0)))))) some.4,
    ))
    b

-- a stretch of reading after one that went well
pub reads_then : (head : Head) (v : ℕ) (rest : List ConnStep) (flagged : Bool) (conn conn' conn'' : Hearing) (p q r : SessionPass) (s t u : Noted)
    (i j k : Input) (end : SideEnd)
    → ReadsOn head v rest true conn conn' p q s t i j Stopped → ReadsOn head v [] flagged conn' conn'' q r t u j k end
    → ReadsOn head v rest flagged conn conn'' p r s u i k end
reads_then head v rest flagged conn conn' conn'' p q r s t u i j k end a b =
    let whole = a.all orderly_stop in
    let after_is : conn' ≡ (heard conn a.fed).after = whole.1 in
    let both : heard conn (a.fed ++ b.fed) ≡ then_heard (heard conn a.fed) (heard conn' b.fed)
    = heard_then conn a.fed b.fed ∙ ap (λ (h : Hearing). then_heard (heard conn a.fed) (heard h b.fed)) (sym after_is) in
    record {
      fed = a.fed ++ b.fed;
      taken = consumes_then i.left j.left k.left a.fed b.fed a.taken b.taken;
      steps = a.steps ++ b.steps;
      undone = b.undone;
      front = ap (λ (h : Heard). rest ++ h.steps) both
          ∙ (sym (append_assoc rest _ _)
          ∙ (ap₂ ◌++◌ (a.front ∙ (ap (λ l. a.steps ++ l) whole.0 ∙ append-nil a.steps)) b.front ∙ sym (append_assoc a.steps b.steps b.undone)));
      all = λ orderly. let w = b.all orderly in (w.0, w.1 ∙ ap (λ (h : Heard). h.after) (sym both));
      handles = subst (λ es. Handles head v es p r s.places.list u.places.list) (sym (events_then a.steps b.steps))
          (handles_then head v (events_in a.steps) (events_in b.steps) p q r s.places.list t.places.list u.places.list a.handles b.handles);
      room = b.room;
      notice = b.notice ∙ (ap (λ n. notice_after_all n b.steps) a.notice ∙ sym (notice_then (notice_in s) a.steps b.steps));
      stops = stops_then rest a.steps conn conn' (notice_in s) (notice_in t) a.fed b.fed (a.front ∙ (ap (λ l. a.steps ++ l) whole.0 ∙ append-nil a.steps)) a.notice
          (λ before. ap (λ (h : Heard). h.steps) (heard_then conn a.fed before)
          ∙ ap (λ (h : Hearing). (heard conn a.fed).steps ++ (heard h before).steps) (sym after_is)) a.stops b.stops;
      faults = subst (λ (h : Heard). ReadFaults h.after (notice_in u) i k end) (sym both)
          (faults_then (heard conn' b.fed).after (notice_in u) i j k end a.faults b.faults);
      ends = subst (λ (h : Heard). ReadEnd flagged (a.fed ++ b.fed) h.after (notice_in u) i k end) (sym both)
          (end_then flagged a.fed b.fed (heard conn' b.fed).after (notice_in u) i j k end
          (consumes_then i.left j.left (Some []) a.fed b.fed a.taken) a.faults b.ends);
    }

-- with the turns of both
pub in_turns_then : (head : Head) (v : ℕ) (rest : List ConnStep) (flagged : Bool) (conn conn' conn'' : Hearing) (p q r : SessionPass) (s t u : Noted)
    (i j k : Input) (end : SideEnd)
    → ReadsInTurns head v rest true conn conn' p q s t i j Stopped → ReadsInTurns head v [] flagged conn' conn'' q r t u j k end
    → ReadsInTurns head v rest flagged conn conn'' p r s u i k end
unfolding reads_then
in_turns_then head v rest flagged conn conn' conn'' p q r s t u i j k end a b =
    let after_is : conn' ≡ (heard conn a.reads.fed).after = (a.reads.all orderly_stop).1 in
    let both : heard conn (a.reads.fed ++ b.reads.fed) ≡ then_heard (heard conn a.reads.fed) (heard conn' b.reads.fed)
    = heard_then conn a.reads.fed b.reads.fed ∙ ap (λ (h : Hearing). then_heard (heard conn a.reads.fed) (heard h b.reads.fed)) (sym after_is) in
    let steps : (rest ++ (heard conn a.reads.fed).steps) ++ (heard conn' b.reads.fed).steps ≡ rest ++ (heard conn (a.reads.fed ++ b.reads.fed)).steps
    = append_assoc rest (heard conn a.reads.fed).steps (heard conn' b.reads.fed).steps ∙ ap (λ (h : Heard). rest ++ h.steps) (sym both) in
    record {
      reads = reads_then head v rest flagged conn conn' conn'' p q r s t u i j k end a.reads b.reads;
      turns = λ orderly. subst (λ (l : List ConnStep). HasTurnsOf l p r) steps
          (turns_then (rest ++ (heard conn a.reads.fed).steps) (heard conn' b.reads.fed).steps p q r (a.turns orderly_stop) (b.turns orderly));
    }

-- what was handled from a pass, of which some share was split off, was handled from the pass before
handles_from : (head : Head) (v : ℕ) (es : List Event) (p a : SessionPass) (share : Share) (P Q : List ℕ) → Handles head v es record p { share = share } a P Q → KeepsShare p a → Handles head v es p a P Q
handles_from head v es p a share P Q h keeps = record {
  acts = h.acts;
  of_events = h.of_events;
  grows = h.grows;
  high = h.high;
  happen = h.happen;
  within_seen = h.within_seen;
  more_found = h.more_found;
  found = h.found;
  in_found = h.in_found;
  mine = h.mine;
  share = keeps;
  places = h.places;
}

-- what a read side did stays so for the pass in which it met the other side's, which appended nothing and has come back with its share
pub reads_met : (head : Head) (v : ℕ) (rest : List ConnStep) (flagged : Bool) (conn conn' : Hearing) (p' p a b m : SessionPass) (s t : Noted)
    (i j : Input) (end : SideEnd)
    → p' ≡ record p { share = left_half p.share } → ReadsOn head v rest flagged conn conn' p' a s t i j end
    → StartsWith m.seen a.seen → m.found ≡ a.found ++ b.found → m.mine ≡ a.mine ++ b.mine → b.mine ≡ []
    → m.share ≡ both a.share b.share → HoldsShare b.share (right_half p.share) → ReadsOn head v rest flagged conn conn' p m s t i j end
reads_met head v rest flagged conn conn' p' p a b m s t i j end same h grows found mine none share theirs =
    let split : SessionPass = record p { share = left_half p.share } in
    let handled : Handles head v (events_in h.steps) split a s.places.list t.places.list
    = subst (λ (x : SessionPass). Handles head v (events_in h.steps) x a s.places.list t.places.list) same h.handles in
    let met : (z : Share) → HoldsShare (both a.share b.share) z → HoldsShare m.share z
    = λ z. subst (λ (x : Share). HoldsShare x z) (sym share) in
    record {
      fed = h.fed;
      taken = h.taken;
      steps = h.steps;
      undone = h.undone;
      front = h.front;
      all = h.all;
      handles = handles_from head v (events_in h.steps) p m (left_half p.share) s.places.list t.places.list
          (handles_more head v (events_in h.steps) split a m s.places.list t.places.list b.found handled grows found (mine ∙ (ap (λ l. a.mine ++ l) none ∙ append-nil a.mine))
          (met a.share (both_first a.share b.share)))
          (met p.share (both_of_halves p.share a.share b.share handled.share theirs));
      room = h.room;
      notice = h.notice;
      stops = h.stops;
      faults = h.faults;
      ends = h.ends;
    }
