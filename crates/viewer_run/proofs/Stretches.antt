-- Stretches of reading.
use Rattle.std.proofs.Common.{◌≡◌, ℕ, zero, suc, ◌<◌, ◌≤◌, List, [], ◌++◌, length, sym, refl, ap, ap₂, ◌∙◌, subst, append_assoc, append-nil, ⊎_elim, inl, inr}
use Rattle.std.specs.Prelude.{Bool, true, false, ◌||◌, ⊤, Result, Ok, Err, IfOk, is_err}
use Rattle.std.specs.declared.option.Option.{Option}
use Rattle.std.specs.declared.option.Option.TheVariants.{Some, None}
use Rattle.std.specs.Io.KnownBytes.{Consumes, Keeps, IsAtEnd}
use Rattle.edge_io.specs.Outside.{Input}
use Rattle.wire_num.specs.declared.out_of_memory.OutOfMemory.{OutOfMemory as NoMemory}
use Rattle.session_rules.specs.Journal.{Head}
use Rattle.conn_rules.specs.declared.conn_step.ConnStep.{ConnStep}
use Rattle.conn_rules.specs.declared.stage.Stage.{Stage}
use Rattle.conn_rules.specs.Hearing.{Hearing, Heard, heard, end_by}
use Rattle.conn_core.specs.declared.conn_fault.ConnFault.{ConnFault}
use Rattle.conn_core.specs.declared.conn_fault.ConnFault.TheVariants as fault
use Rattle.conn_core.specs.Kept.{IsUnrefused, ConnOf, Feeds, FeedsAppend}
use Rattle.conn_rules.specs.Placed.{AreBytes, ArePlaced}
use Rattle.conn_rules.proofs.Near.{heard_near}
use Rattle.serve_rules.specs.Turns.{SessionPass}
use Rattle.serve_rules.specs.Events.{Handles}
use Rattle.serve_rules.specs.Notices.{Notice, events_in, notice_after_all, notice_in}
use Rattle.serve_rules.specs.Reading.{ReadsOn, ReadsInTurns, ReadEnd, ReadFaults, HasTurnsOf, IsUnended, IsWhole, StopsReading, one_read}
use Rattle.serve_rules.specs.declared.ends.ConnEnd.TheVariants.{Left, Refused, Truncated, NotInvited, RoomFull, JoinsSpent, ReadFault, WriteFault, NotStored, OutOfMemory}
use Rattle.serve_rules.specs.declared.ends.SideEnd.{SideEnd}
use Rattle.serve_rules.specs.declared.ends.SideEnd.TheVariants.{Done, Stopped}
use Rattle.serve_rules.specs.declared.noted.Noted.{Noted}
use Rattle.serve_rules.proofs.Handling.{handles_then, handles_nothing}
use Rattle.serve_rules.proofs.Noticing.{events_then, notice_then}
use Rattle.serve_rules.proofs.ReadOn.{not_stopped}
use Rattle.serve_rules.proofs.InTurns.{turns_none, turns_then}
use Rattle.viewer_run.specs.Doing.{StepsFront, WholeIfOk}
use Rattle.viewer_run.specs.Feeding.{RefusedAs, EndsAs, IsFed, EndOfPiece, end_with, is_done, end_by_part, IsHeard, IsOpen}
use Rattle.viewer_run.proofs.Streams.{silent_steps, silent_after, ends_between, ends_within}

abbrev OnlyTrue : Bool → Type 0
OnlyTrue true = ⊤
OnlyTrue false = ⊥

abbrev OnlyFalse : Bool → Type 0
OnlyFalse true = ⊥
OnlyFalse false = ⊤

-- a side that isn't done goes on
pub goes_on : (end : SideEnd) → is_done end ≡ false → end ≡ Stopped
goes_on (Done end) e = absurd (subst OnlyTrue e tt)
goes_on Stopped e = refl

-- a side that is done didn't stop
pub done_is_no_stop : (end : SideEnd) → is_done end ≡ true → end ≡ Stopped → ⊥
done_is_no_stop end e stopped = subst OnlyFalse (sym (ap is_done stopped) ∙ e) tt

-- no step is left where memory sufficed
pub whole : (answer : Result (Unit {0}) NoMemory) (undone : List ConnStep) → is_err answer ≡ false → WholeIfOk answer undone → undone ≡ []
whole (Ok done) undone e w = w
whole (Err refusal) undone e w = absurd (subst OnlyTrue e tt)

-- ---- a feed

abbrev OkOf : SideEnd → Result SideEnd NoMemory → Type 0
OkOf end (Ok given) = given ≡ end
OkOf end (Err refusal) = ⊥

pub fed : (answer : Result (Unit {0}) ConnFault) (end : SideEnd) (x : Heard) (new : ConnOf) (replies replies' : List ℕ) (steps steps' : List ConnStep)
    → EndsAs answer (Ok end) → Feeds answer x new → FeedsAppend answer x replies replies' steps steps' → replies ≡ [] → steps ≡ []
    → IsFed x new.hearing replies' steps' end
fed (Ok done) end x new replies replies' steps steps' e f a no_replies no_steps =
    let is : end ≡ Stopped = sym (subst (OkOf end) e refl) in record {
      replied = a.written ∙ ap (λ l. l ++ x.replies) no_replies;
      given = a.given ∙ ap (λ l. l ++ x.steps) no_steps;
      after = ap (λ (c : ConnOf). c.hearing) f.0;
      refused = subst (λ (s : SideEnd). RefusedAs s x.after.stage) (sym is) f.1;
    }
fed (Err (fault.Refused k at)) end x new replies replies' steps steps' e f a no_replies no_steps =
    let is : end ≡ Done (Refused k at) = sym (subst (OkOf end) e refl) in record {
      replied = a.written ∙ ap (λ l. l ++ x.replies) no_replies;
      given = a.given ∙ ap (λ l. l ++ x.steps) no_steps;
      after = ap (λ (c : ConnOf). c.hearing) f.0;
      refused = subst (λ (s : SideEnd). RefusedAs s x.after.stage) (sym is) f.1;
    }
fed (Err fault.OutOfMemory) end x new replies replies' steps steps' e f a no_replies no_steps = absurd (subst (OkOf end) e.1 refl)

-- the areas that were told are placed, and what is left of a packet is bytes
pub fed_placed : (h new : Hearing) (bytes replies : List ℕ) (steps : List ConnStep) (end : SideEnd) → AreBytes h.part → AreBytes bytes
    → IsFed (heard h bytes) new replies steps end → ArePlaced steps
fed_placed h new bytes replies steps end part are f = subst ArePlaced (sym f.given) (heard_near h bytes part are).0

pub fed_part : (h new : Hearing) (bytes replies : List ℕ) (steps : List ConnStep) (end : SideEnd) → AreBytes h.part → AreBytes bytes
    → IsFed (heard h bytes) new replies steps end → AreBytes new.part
fed_part h new bytes replies steps end part are f = subst (λ (x : Hearing). AreBytes x.part) (sym f.after) (heard_near h bytes part are).1

-- ---- a piece of the stream

-- a refusal is the stream's end
refused_end : (end : SideEnd) (h : Hearing) (notice : Notice) (bytes : List ℕ) (i j : Input) → RefusedAs end h.stage → ReadEnd true bytes h notice i j end
refused_end Stopped h notice bytes i j r = refl
refused_end (Done Left) h notice bytes i j r = absurd r
refused_end (Done (Refused k at)) h notice bytes i j r = ap (λ (s : Stage). end_by s (length h.part)) r
refused_end (Done Truncated) h notice bytes i j r = absurd r
refused_end (Done NotInvited) h notice bytes i j r = absurd r
refused_end (Done RoomFull) h notice bytes i j r = absurd r
refused_end (Done JoinsSpent) h notice bytes i j r = absurd r
refused_end (Done ReadFault) h notice bytes i j r = absurd r
refused_end (Done WriteFault) h notice bytes i j r = absurd r
refused_end (Done NotStored) h notice bytes i j r = absurd r
refused_end (Done OutOfMemory) h notice bytes i j r = tt

-- and so is what was announced
ended_with : (end : SideEnd) (h : Hearing) (notice : Notice) (bytes : List ℕ) (i j : Input) (over : Bool) → notice.bye || notice.shutdown ≡ over → RefusedAs end h.stage
    → ReadEnd true bytes h notice i j (end_with end over)
ended_with end h notice bytes i j true is r = λ unended. absurd (unended is)
ended_with end h notice bytes i j false is r = refused_end end h notice bytes i j r

-- no read failed at an end behind a piece that was read
piece_faults : (end : SideEnd) (h : Hearing) (notice : Notice) (i j : Input) → RefusedAs end h.stage → j.faults ≡ i.faults → ReadFaults h notice i j end
piece_faults Stopped h notice i j r calm = calm
piece_faults (Done Left) h notice i j r calm = calm
piece_faults (Done (Refused k at)) h notice i j r calm = calm
piece_faults (Done Truncated) h notice i j r calm = calm
piece_faults (Done NotInvited) h notice i j r calm = calm
piece_faults (Done RoomFull) h notice i j r calm = calm
piece_faults (Done JoinsSpent) h notice i j r calm = calm
piece_faults (Done ReadFault) h notice i j r calm = absurd r
piece_faults (Done WriteFault) h notice i j r calm = calm
piece_faults (Done NotStored) h notice i j r calm = calm
piece_faults (Done OutOfMemory) h notice i j r calm = calm

faults_with : (end : SideEnd) (h : Hearing) (notice : Notice) (i j : Input) (over : Bool) → RefusedAs end h.stage → j.faults ≡ i.faults → ReadFaults h notice i j (end_with end over)
faults_with end h notice i j true r calm = calm
faults_with end h notice i j false r calm = piece_faults end h notice i j r calm

module _ (head : Head) (v : ℕ) where
  pub piece_read : (h new : Hearing) (bytes replies : List ℕ) (steps undone : List ConnStep) (p q : SessionPass) (t u : Noted) (end out : SideEnd)
      (done : Result (Unit {0}) NoMemory) (i j : Input)
      → IsFed (heard h bytes) new replies steps end → StepsFront head v steps undone p q t u → WholeIfOk done undone → EndOfPiece done end (notice_in u) out
      → 0 < u.places.room → Consumes i.left j.left bytes → j.faults ≡ i.faults → StopsReading [] h (notice_in t) bytes
      → ReadsOn head v [] true h new p q t u i j out
  piece_read h new bytes replies steps undone p q t u end out (Ok done) i j x d whole e room taken calm stops = record {
    fed = bytes;
    taken = taken;
    steps = d.front;
    undone = undone;
    front = sym x.given ∙ d.split;
    all = λ orderly. (whole, x.after);
    handles = d.handles;
    room = room;
    notice = d.notice;
    stops = stops;
    faults = subst (ReadFaults (heard h bytes).after (notice_in u) i j) (sym e)
        (faults_with end (heard h bytes).after (notice_in u) i j ((notice_in u).bye || (notice_in u).shutdown) x.refused calm);
    ends = subst (ReadEnd true bytes (heard h bytes).after (notice_in u) i j) (sym e)
        (ended_with end (heard h bytes).after (notice_in u) bytes i j ((notice_in u).bye || (notice_in u).shutdown) refl x.refused);
  }
  piece_read h new bytes replies steps undone p q t u end out (Err refusal) i j x d whole e room taken calm stops = record {
    fed = bytes;
    taken = taken;
    steps = d.front;
    undone = undone;
    front = sym x.given ∙ d.split;
    all = λ orderly. absurd (orderly e);
    handles = d.handles;
    room = room;
    notice = d.notice;
    stops = stops;
    faults = subst (ReadFaults (heard h bytes).after (notice_in u) i j) (sym e) calm;
    ends = subst (ReadEnd true bytes (heard h bytes).after (notice_in u) i j) (sym e) tt;
  }

  -- with the turns of its steps
  pub piece_in_turns : (h new : Hearing) (bytes replies : List ℕ) (steps undone : List ConnStep) (p q : SessionPass) (t u : Noted) (end out : SideEnd)
      (done : Result (Unit {0}) NoMemory) (i j : Input)
      → IsFed (heard h bytes) new replies steps end → StepsFront head v steps undone p q t u → WholeIfOk done undone → EndOfPiece done end (notice_in u) out
      → 0 < u.places.room → Consumes i.left j.left bytes → j.faults ≡ i.faults → StopsReading [] h (notice_in t) bytes
      → IfOk done (λ ok. HasTurnsOf steps p q) → ReadsInTurns head v [] true h new p q t u i j out
  unfolding piece_read
  piece_in_turns h new bytes replies steps undone p q t u end out (Ok done) i j x d whole e room taken calm stops turns = record {
    reads = piece_read h new bytes replies steps undone p q t u end out (Ok done) i j x d whole e room taken calm stops;
    turns = λ orderly. subst (λ (l : List ConnStep). HasTurnsOf l p q) x.given turns;
  }
  piece_in_turns h new bytes replies steps undone p q t u end out (Err refusal) i j x d whole e room taken calm stops turns = record {
    reads = piece_read h new bytes replies steps undone p q t u end out (Err refusal) i j x d whole e room taken calm stops;
    turns = λ orderly. absurd (orderly e);
  }

  -- nothing was done of a piece for want of memory
  pub piece_lost : (h new : Hearing) (bytes : List ℕ) (p : SessionPass) (t : Noted) (i j : Input) → 0 < t.places.room → Consumes i.left j.left bytes → j.faults ≡ i.faults
      → StopsReading [] h (notice_in t) bytes → ReadsOn head v [] true h new p p t t i j (Done OutOfMemory)
  piece_lost h new bytes p t i j room taken calm stops = record {
    fed = bytes;
    taken = taken;
    steps = [];
    undone = (heard h bytes).steps;
    front = refl;
    all = λ orderly. absurd (orderly refl);
    handles = handles_nothing head v p t.places.list;
    room = room;
    notice = refl;
    stops = stops;
    faults = calm;
    ends = tt;
  }

  -- where memory was wanted nothing is said of its turns
  pub lost_in_turns : (flagged : Bool) (rest : List ConnStep) (h new : Hearing) (p q : SessionPass) (t u : Noted) (i j : Input)
      → ReadsOn head v rest flagged h new p q t u i j (Done OutOfMemory) → ReadsInTurns head v rest flagged h new p q t u i j (Done OutOfMemory)
  lost_in_turns flagged rest h new p q t u i j x = record { reads = x; turns = λ orderly. absurd (orderly refl) }

  -- where the steps before were done
  rest_stops : (rest steps : List ConnStep) (h : Hearing) (n m : Notice) (bytes : List ℕ) → rest ≡ steps → m ≡ notice_after_all n steps → StopsReading [] h m bytes
      → StopsReading rest h n bytes
  rest_stops rest steps h n m bytes all same s = ⊎_elim
      (λ (none : bytes ≡ []). inl none)
      (λ (some : (before : List ℕ) × (last : List ℕ) × (bytes ≡ before ++ last) × (length last ≤ one_read) × IsUnended (notice_after_all m ([] ++ (heard h before).steps))).
      inr (
        some.0,
        some.1,
        some.2,
        some.3,
        subst IsUnended
            (ap (λ (x : Notice). notice_after_all x (heard h some.0).steps) same
            ∙ (sym (notice_then n steps (heard h some.0).steps) ∙ ap (λ (l : List ConnStep). notice_after_all n (l ++ (heard h some.0).steps)) (sym all))) some.4,
      ))
      s

  -- the steps that the connection gave before were done, and then a piece
  pub rest_then : (rest undone : List ConnStep) (h new : Hearing) (p q r : SessionPass) (t u w : Noted) (i j : Input) (end : SideEnd)
      → StepsFront head v rest undone p q t u → undone ≡ [] → ReadsOn head v [] true h new q r u w i j end
      → ReadsOn head v rest true h new p r t w i j end
  rest_then rest undone h new p q r t u w i j end d none x =
      let all : rest ≡ d.front = d.split ∙ (ap (λ l. d.front ++ l) none ∙ append-nil d.front) in
      record {
        fed = x.fed;
        taken = x.taken;
        steps = d.front ++ x.steps;
        undone = x.undone;
        front = ap₂ ◌++◌ all x.front ∙ sym (append_assoc d.front x.steps x.undone);
        all = x.all;
        handles = subst (λ es. Handles head v es p r t.places.list w.places.list) (sym (events_then d.front x.steps))
            (handles_then head v (events_in d.front) (events_in x.steps) p q r t.places.list u.places.list w.places.list d.handles x.handles);
        room = x.room;
        notice = x.notice ∙ (ap (λ n. notice_after_all n x.steps) d.notice ∙ sym (notice_then (notice_in t) d.front x.steps));
        stops = rest_stops rest d.front h (notice_in t) (notice_in u) x.fed all d.notice x.stops;
        faults = x.faults;
        ends = x.ends;
      }

  -- with the turns of both
  pub rest_in_turns : (rest undone : List ConnStep) (h new : Hearing) (p q r : SessionPass) (t u w : Noted) (i j : Input) (end : SideEnd)
      → StepsFront head v rest undone p q t u → undone ≡ [] → HasTurnsOf rest p q → ReadsInTurns head v [] true h new q r u w i j end
      → ReadsInTurns head v rest true h new p r t w i j end
  unfolding rest_then
  rest_in_turns rest undone h new p q r t u w i j end d none turns x = record {
    reads = rest_then rest undone h new p q r t u w i j end d none x.reads;
    turns = λ orderly. turns_then rest (heard h x.reads.fed).steps p q r turns (x.turns orderly);
  }

  -- of those steps some weren't done for want of memory
  pub rest_lost : (rest undone : List ConnStep) (h : Hearing) (p q : SessionPass) (t u : Noted) (i : Input)
      → StepsFront head v rest undone p q t u → 0 < u.places.room → Consumes i.left i.left [] → ReadsOn head v rest true h h p q t u i i (Done OutOfMemory)
  rest_lost rest undone h p q t u i d room none = record {
    fed = [];
    taken = none;
    steps = d.front;
    undone = undone ++ (heard h []).steps;
    front = ap (λ l. l ++ (heard h []).steps) d.split ∙ append_assoc d.front undone (heard h []).steps;
    all = λ orderly. absurd (orderly refl);
    handles = d.handles;
    room = room;
    notice = d.notice;
    stops = inl refl;
    faults = refl;
    ends = tt;
  }

  -- ---- no piece came

  -- the side ends so where nothing more was read
  pub nothing_read : (h : Hearing) (p : SessionPass) (t : Noted) (i j : Input) (end : SideEnd) → IsHeard h → 0 < t.places.room → Consumes i.left j.left []
      → ReadFaults h (notice_in t) i j end → ReadEnd true [] h (notice_in t) i j end → ReadsInTurns head v [] true h h p p t t i j end
  nothing_read h p t i j end led room none faults e = record {
    reads = record {
      fed = [];
      taken = none;
      steps = [];
      undone = [];
      front = silent_steps h led;
      all = λ orderly. (refl, sym (silent_after h led));
      handles = handles_nothing head v p t.places.list;
      room = room;
      notice = refl;
      stops = inl refl;
      faults = subst (λ (x : Hearing). ReadFaults x (notice_in t) i j end) (sym (silent_after h led)) faults;
      ends = subst (λ (x : Hearing). ReadEnd true [] x (notice_in t) i j end) (sym (silent_after h led)) e;
    };
    turns = λ orderly. subst (λ (l : List ConnStep). HasTurnsOf l p p) (sym (silent_steps h led)) (turns_none p);
  }

  -- what was read without a flag that could stop it
  pub unstopped : (flagged : Bool) (end : SideEnd) (bytes : List ℕ) (h : Hearing) (notice : Notice) (i j : Input) → is_done end ≡ true
      → ReadEnd true bytes h notice i j end → ReadEnd flagged bytes h notice i j end
  unstopped flagged (Done Left) bytes h notice i j d e = e
  unstopped flagged (Done (Refused k at)) bytes h notice i j d e = e
  unstopped flagged (Done Truncated) bytes h notice i j d e = e
  unstopped flagged (Done NotInvited) bytes h notice i j d e = e
  unstopped flagged (Done RoomFull) bytes h notice i j d e = e
  unstopped flagged (Done JoinsSpent) bytes h notice i j d e = e
  unstopped flagged (Done ReadFault) bytes h notice i j d e = e
  unstopped flagged (Done WriteFault) bytes h notice i j d e = e
  unstopped flagged (Done NotStored) bytes h notice i j d e = e
  unstopped flagged (Done OutOfMemory) bytes h notice i j d e = e
  unstopped flagged Stopped bytes h notice i j d e = absurd (subst OnlyTrue (sym d) tt)

  -- likewise all of it
  pub reads_done : (flagged : Bool) (rest : List ConnStep) (h h' : Hearing) (p q : SessionPass) (t u : Noted) (i j : Input) (end : SideEnd)
      → is_done end ≡ true → ReadsInTurns head v rest true h h' p q t u i j end → ReadsInTurns head v rest flagged h h' p q t u i j end
  reads_done flagged rest h h' p q t u i j end d y = let x = y.reads in record {
    reads = record {
      fed = x.fed;
      taken = x.taken;
      steps = x.steps;
      undone = x.undone;
      front = x.front;
      all = x.all;
      handles = x.handles;
      room = x.room;
      notice = x.notice;
      stops = x.stops;
      faults = x.faults;
      ends = unstopped flagged end x.fed (heard h x.fed).after (notice_in u) i j d x.ends;
    };
    turns = y.turns;
  }

  -- after what went well memory was wanted
  pub reads_lost : (flagged : Bool) (rest : List ConnStep) (h h' : Hearing) (p q : SessionPass) (t u : Noted) (i j : Input)
      → ReadsOn head v rest true h h' p q t u i j Stopped → ReadsOn head v rest flagged h h' p q t u i j (Done OutOfMemory)
  reads_lost flagged rest h h' p q t u i j x = record {
    fed = x.fed;
    taken = x.taken;
    steps = x.steps;
    undone = x.undone;
    front = x.front;
    all = λ orderly. absurd (orderly refl);
    handles = x.handles;
    room = x.room;
    notice = x.notice;
    stops = x.stops;
    faults = x.faults;
    ends = tt;
  }

  -- the flag was found set
  pub reads_stopped : (flagged : Bool) (rest : List ConnStep) (h h' : Hearing) (p q : SessionPass) (t u : Noted) (i j : Input)
      → flagged ≡ true → ReadsInTurns head v rest true h h' p q t u i j Stopped → ReadsInTurns head v rest flagged h h' p q t u i j Stopped
  reads_stopped flagged rest h h' p q t u i j is x = subst (λ (b : Bool). ReadsInTurns head v rest b h h' p q t u i j Stopped) (sym is) x

-- ---- the stream goes on

abbrev OnlyDone : SideEnd → Type 0
OnlyDone (Done end) = ⊤
OnlyDone Stopped = ⊥

unended_of : (n : Notice) (end : SideEnd) (over : Bool) → n.bye || n.shutdown ≡ over → end_with end over ≡ Stopped → IsUnended n × (end ≡ Stopped)
unended_of n end true is e = absurd (subst OnlyDone e tt)
unended_of n end false is e = ((λ t. subst OnlyTrue (sym t ∙ is) tt), e)

pub still_open : (h new : Hearing) (bytes replies : List ℕ) (steps : List ConnStep) (n : Notice) (end out : SideEnd) (done : Result (Unit {0}) NoMemory)
    → AreBytes h.part → AreBytes bytes → IsFed (heard h bytes) new replies steps end → EndOfPiece done end n out → out ≡ Stopped → IsOpen new n
still_open h new bytes replies steps n end out (Err refusal) part are x e stopped = absurd (subst OnlyDone (sym e ∙ stopped) tt)
still_open h new bytes replies steps n end out (Ok done) part are x e stopped =
    let u = unended_of n end (n.bye || n.shutdown) refl (sym e ∙ stopped) in
    let unrefused : IsUnrefused (heard h bytes).after.stage = subst (λ (s : SideEnd). RefusedAs s (heard h bytes).after.stage) u.1 x.refused in
    record {
      led = (h, bytes, x.after);
      unrefused = subst (λ (k : Hearing). IsUnrefused k.stage) (sym x.after) unrefused;
      unended = u.0;
      part = fed_part h new bytes replies steps end part are x;
    }

-- nothing was left
pub at_end : (left : Option (List ℕ)) → IsAtEnd left → IsWhole left []
at_end None e = tt
at_end (Some xs) e = e

-- the input ended
pub input_ended : (h : Hearing) (n : Notice) (i j : Input) (l : ℕ) → IsOpen h n → IsAtEnd i.left → length h.part ≡ l
    → ReadEnd true [] h n i j (end_by_part l)
input_ended h n i j zero o e is = λ unended. (at_end i.left e, ends_between h o.unrefused is)
input_ended h n i j (suc l) o e is = (o.unended, at_end i.left e, ends_within h l o.led o.unrefused is)

-- and no read failed before
pub part_faults : (h : Hearing) (n : Notice) (i j : Input) (l : ℕ) → j.faults ≡ i.faults → ReadFaults h n i j (end_by_part l)
part_faults h n i j zero calm = calm
part_faults h n i j (suc l) calm = calm

pub part_done : (l : ℕ) → is_done (end_by_part l) ≡ true
part_done zero = refl
part_done (suc l) = refl

-- what stays is none less
pub kept_none : (left less : Option (List ℕ)) → Keeps left less → Consumes left less []
kept_none None less k = tt
kept_none (Some xs) None k = absurd k
kept_none (Some xs) (Some ys) k = sym k

pub same_none : (left : Option (List ℕ)) → Consumes left left []
same_none None = tt
same_none (Some xs) = refl

-- a read at a stream that goes on
pub one_read_stops : (h : Hearing) (n : Notice) (bytes : List ℕ) → IsOpen h n → length bytes ≤ one_read → StopsReading [] h n bytes
one_read_stops h n bytes o few =
    inr ([], bytes, refl, few, subst (λ (steps : List ConnStep). IsUnended (notice_after_all n steps)) (sym (silent_steps h o.led)) o.unended)
