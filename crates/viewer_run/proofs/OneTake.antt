-- A take in a turn, whose frame was sent outside it.
use Rattle.std.proofs.Common.{◌≡◌, ℕ, ◌+◌, ◌≤◌, List, [], ◌∷◌, ◌++◌, length, sym, refl, ap, ap₂, ◌∙◌, subst, arith, append-nil, inl}
use Rattle.std.proofs.KnownBytes.{Appends-nil}
use Rattle.std.specs.Prelude.{Bool, true, false, ◌&&◌, ◌||◌, ◌==◌, not, ⊤, Option, Result, Ok, Err, IfOk, OnOk, OnErr}
use Rattle.edge_io.specs.Faults.{Rose}
use Rattle.edge_io.specs.Outside.{Output}
use Rattle.std.specs.Io.KnownBytes.{Appends}
use Rattle.wire_num.specs.declared.out_of_memory.OutOfMemory.{OutOfMemory as NoMemory}
use Rattle.px_core.specs.declared.surface.Size.{Size}
use Rattle.caps_sets.specs.declared.confirmed.Confirmed.{Confirmed}
use Rattle.session_rules.specs.declared.entry.Entry.{Entry}
use Rattle.session_rules.specs.Journal.{Head, is_present, reached_at}
use Rattle.session_rules.specs.Steps.{TakeOf}
use Rattle.px_core.specs.Tiles.{all_tiles, share_tile}
use Rattle.session_core.specs.SessionModel.{SessionModel, asked_by, is_suppressed}
use Rattle.save_plan.specs.Blocks.{Held}
use Rattle.frame_rules.specs.Frame.{FrameOf, frame_of}
use Rattle.frame_rules.specs.FrameBytes.{frame_bytes}
use Rattle.frame_rules.specs.Told.{key_at, pointer_bytes, told_after}
use Rattle.frame_rules.specs.Encoder.{Encoder, encoder_after_frame, with_told}
use Rattle.frame_plan.specs.Takes.{TakeModel, taken_as}
use Rattle.frame_plan.specs.Plans.{is_work, taken_at, taken_if, desk_if}
use Rattle.frame_plan.specs.declared.taken.Taken.{Taken}
use Rattle.frame_plan.specs.declared.taken.Taken.TheVariants.{Frame, Nothing}
use Rattle.viewer_sender.specs.Senders.{SenderModel, StandsFor, IsIdle, desk_of, with_desk}
use Rattle.viewer_sender.specs.Seats.{SeatModel, desk_after}
use Rattle.viewer_sender.specs.declared.fault.SendFault.{SendFault}
use Rattle.viewer_sender.specs.declared.fault.SendFault.TheVariants as fault
use Rattle.viewer_sender.specs.OwnTakes.{IsOwn, IsOwnTake}
use Rattle.pointer_share.specs.Desk.{DeskOf, IsDeskOf, IsNoted}
use Rattle.pointer_share.proofs.Desks.{desk_noted, is_noted}
use Rattle.grow_lock.proofs.Lists.{length_starts}
use Rattle.serve_rules.specs.Turns.{SessionPass, IsTurn}
use Rattle.serve_rules.specs.declared.ends.ConnEnd.{ConnEnd}
use Rattle.serve_rules.specs.declared.ends.ConnEnd.TheVariants.{OutOfMemory}
use Rattle.serve_rules.specs.declared.ends.SideEnd.{SideEnd}
use Rattle.serve_rules.specs.declared.ends.SideEnd.TheVariants.{Done, Stopped}
use Rattle.serve_rules.proofs.ReadOn.{not_stopped}
use Rattle.serve_rules.proofs.Turning.{TurnFacts, turned}
use Rattle.viewer_run.specs.Sending.{due, TakesFrame, TakesAs, TakesIn, IsAbsent, IsSendEnd, IsFault, Encodes, WritesPointed, SendsFrame, SendsTaken, IsNext, FollowsWith, SendsOn}

-- ---- a take

-- a seat that a take left as it was has the sender that it had
pub of_seat : (result : Result Taken NoMemory) (session session' : SessionModel) (x y : SeatModel) → OnErr result ((session' ≡ session) × (y ≡ x))
    → OnErr result ((session' ≡ session) × (y.sender ≡ x.sender))
of_seat (Ok taken) session session' x y h = tt
of_seat (Err refusal) session session' x y h = (h.0, ap (λ (s : SeatModel). s.sender) h.1)

has_work : (stopped some : Bool) → not stopped && some ≡ true → some ≡ true
has_work true some e = absurd (cc e)
has_work false some e = e

-- what a take of a session gives
took_if : (b : Bool) (session : SessionModel) (s s' : SenderModel) (d d' : Option DeskOf) (taken : Taken) → is_work session (desk_of s) ≡ b → taken ≡ taken_if b session (desk_of s) → IsOwn s.confirmed taken
    → s' ≡ with_desk s (desk_if b session (desk_of s)) → d' ≡ desk_after (Ok taken) (key_at session.head.size session.journal (length session.journal)) d → TakesAs session.head session.journal s s' d d' (Ok taken)
took_if true session s s' d d' (Frame take) on e own after noted =
    let is : take ≡ taken_at session (desk_of s) = cc e in record {
      asked = asked_by session s.v;
      work = has_work (is_suppressed session s.v) (not (s.number == length session.journal) || share_tile session.head.size (asked_by session s.v) all_tiles) on;
      serial = ap (λ (t : TakeModel). t.serial) is;
      size = ap (λ (t : TakeModel). t.size) is;
      frame = ap (λ (t : TakeModel). t.frame) is;
      sender = after;
      own = own;
      desk = noted;
    }
took_if true session s s' d d' Nothing on e own after noted = absurd (cc e)
took_if false session s s' d d' (Frame take) on e own after noted = absurd (cc e)
took_if false session s s' d d' Nothing on e own after noted = (after, noted)

pub took : (session session' : SessionModel) (s s' : SenderModel) (d d' : Option DeskOf) (result : Result Taken NoMemory)
    → IfOk result (λ taken. taken ≡ taken_if (is_work session (desk_of s)) session (desk_of s)) → IfOk result (IsOwn s.confirmed)
    → OnOk result (s' ≡ with_desk s (desk_if (is_work session (desk_of s)) session (desk_of s))) → OnErr result ((session' ≡ session) × (s' ≡ s))
    → d' ≡ desk_after result (key_at session.head.size session.journal (length session.journal)) d
    → TakesAs session.head session.journal s s' d d' result
took session session' s s' d d' (Ok taken) e own after kept noted = took_if (is_work session (desk_of s)) session s s' d d' taken refl e own after noted
took session session' s s' d d' (Err refusal) e own after kept noted = (kept.1, noted)

-- a take in a turn
pub taken_in : (head : Head) (before mid after : SessionPass) (base new : List Entry) (s s' : SenderModel) (d d' : Option DeskOf) (result : Result Taken NoMemory) (old : SessionModel)
    → old.head ≡ head → old.journal ≡ base → TurnFacts before mid after base new → new ≡ old.journal → TakesAs old.head old.journal s s' d d' result
    → TakesIn head before after s s' d d' result
taken_in head before mid after base new s s' d d' result old same_head same_journal f stays h =
    let journal : old.journal ≡ after.seen = sym (f.seen_after ∙ stays) in
    let found : base ≡ after.seen = sym same_journal ∙ journal in
    record {
      turn = subst (λ (j : List Entry). IsTurn before after j []) found
          (turned before mid after base [] new f ((stays ∙ same_journal) ∙ sym (append-nil base)));
      takes = subst (λ (j : List Entry). TakesAs head j s s' d d' result) journal (subst (λ (x : Head). TakesAs x old.journal s s' d d' result) same_head h);
    }

-- ---- ends

-- a frame that wasn't begun: memory was wanted, or what it shows couldn't be kept
pub unsent : (s s' : SenderModel) (d d' : Option DeskOf) (take : TakeModel) (o o' : Output) (end : ConnEnd) → s'.number ≡ s.number → IsSendEnd (Done end)
    → o'.told ≡ o.told → (IsFault (Done end) → Rose o.faults o'.faults) → SendsFrame s s' d d' take o o' (Done end)
unsent s s' d d' take o o' end number only same cause = record {
  written = [];
  told = subst (λ (t : Option (List ℕ)). Appends o.told t []) (sym same) (Appends-nil o.told);
  bytes = λ e frame stands is key of noted. (_, refl, λ stopped. absurd (not_stopped end stopped));
  after = λ stopped. absurd (not_stopped end stopped);
  desk = λ stopped. absurd (not_stopped end stopped);
  number = number;
  only = only;
  cause = cause;
  calm = λ stopped. absurd (not_stopped end stopped);
}

-- a sender that has no frame for a take keeps its number
pub number_stays : (why : SendFault) (s s' : SenderModel) → (why ≡ fault.Spent → (s.spent ≡ true) × (s' ≡ s))
    → (why ≡ fault.OutOfMemory → s' ≡ record s { spent = true; registers = s'.registers; caches = s'.caches }) → s'.number ≡ s.number
number_stays fault.Spent s s' spent lost = ap (λ (x : SenderModel). x.number) (spent refl).1
number_stays fault.OutOfMemory s s' spent lost = ap (λ (x : SenderModel). x.number) (lost refl)

-- a frame that was encoded, and whose bytes were written behind the pointer's packet
pub sent : (s s' : SenderModel) (d d' : Option DeskOf) (take : TakeModel) (bytes : List ℕ) (o o' : Output) (end : SideEnd) → Encodes s s' take bytes
    → WritesPointed d d' bytes o o' end → SendsFrame s s' d d' take o o' end
sent s s' d d' take bytes o o' end n w = record {
  written = w.written;
  told = w.told;
  bytes = λ e frame stands is key of noted.
      let x = w.bytes s.confirmed e.told key of noted in (
        x.0,
        ap (λ (l : List ℕ). pointer_bytes s.confirmed e.told key ++ l) (sym (n.bytes_are e frame stands is)) ∙ x.1,
        x.2,
      );
  after = λ stopped. (bytes, n);
  desk = w.desk;
  number = ap (λ (x : SenderModel). x.number) n.rest;
  only = w.only;
  cause = w.cause;
  calm = w.calm;
}

-- ---- one round

pub stands_taken : (s : SenderModel) (number taken : ℕ) (held : Held) (e : Encoder) → StandsFor s e → StandsFor (record s { number = number; held = held; taken = taken }) e
stands_taken s number taken held e h = record { registers = h.registers; caches = h.caches }

-- what a sender stands for says nothing of pointers
pub stands_told : (s : SenderModel) (key : ℕ) (e : Encoder) → StandsFor s e → StandsFor s (with_told key e)
stands_told s key e h = record { registers = h.registers; caches = h.caches }

-- the next take is the one to be encoded
pub next_is : (head : Head) (j : List Entry) (s t : SenderModel) (d d' : Option DeskOf) (taken : Result Taken NoMemory) → IsIdle s → TakesAs head j s t d d' taken → IsNext taken t
next_is head j s t d d' (Ok (Frame take)) idle h = (
  h.serial ∙ (sym idle.all ∙ sym (ap (λ (x : SenderModel). x.encoded) h.sender)),
  subst (λ (c : Confirmed). IsOwnTake c take) (sym (ap (λ (x : SenderModel). x.confirmed) h.sender)) h.own,
)
next_is head j s t d d' (Ok Nothing) idle h = tt
next_is head j s t d d' (Err refusal) idle h = tt

-- a take that found a frame found its viewer present
found_here : (head : Head) (v : ℕ) (j : List Entry) (take : TakeModel) (taken : Result Taken NoMemory) → taken ≡ Ok (Frame take) → (IsAbsent head v j → taken ≡ Ok Nothing)
    → is_present v (reached_at head.size j (length j)).viewers ≡ true
found_here head v j take taken found absent = by (is_present v (reached_at head.size j (length j)).viewers) refl
  where
    by : (b : Bool) → is_present v (reached_at head.size j (length j)).viewers ≡ b → b ≡ true
    by true is = refl
    by false is = absurd (cc (sym found ∙ absent is))

module _ (head : Head) (p q : SessionPass) (s t u : SenderModel) (d d' d'' : Option DeskOf) (o o' : Output) (end : SideEnd) where
  -- nothing was sent
  nothing_sent : IsTurn p q q.seen [] → s.number ≤ length p.seen → IsIdle s → Appends o.told o'.told [] → u ≡ s → d'' ≡ d → IsSendEnd end → (IsFault end → ⊥) → o'.faults ≡ o.faults
      → SendsOn head s u d d'' p q o o' end
  nothing_sent turn seen idle kept same still only no_fault calm = record {
    takes = [];
    last = s.number;
    up_to = ap (λ (x : SenderModel). x.number) same;
    follow = refl;
    grows = turn.goes_on;
    within_seen = omega (arith, seen, length_starts q.seen p.seen turn.goes_on);
    up_to_date = tt;
    present = tt;
    work = tt;
    more_found = length q.seen ∷ [];
    found = turn.found;
    in_found = tt;
    written = [];
    told = kept;
    bytes = λ e fol. ([], refl, λ stopped. refl);
    after_is = λ stopped. (
      ap (λ (x : SenderModel). x.v) same,
      ap (λ (x : SenderModel). x.confirmed) same,
      ap (λ (x : SenderModel). x.number) same,
      subst IsIdle (sym same) idle,
      λ e fol. subst (λ (x : SenderModel). FollowsWith x d'' e) (sym same) (subst (λ (x : Option DeskOf). FollowsWith s x e) (sym still) fol),
    );
    only = only;
    cause = λ is. absurd (no_fault is);
    calm = λ stopped. calm;
  }

  frame_sent : IsTurn p q q.seen [] → s.number ≤ length p.seen → IsIdle s → is_present s.v (reached_at head.size q.seen (length q.seen)).viewers ≡ true → (take : TakeModel)
      → TakesFrame head q.seen s t d d' take → SendsFrame t u d' d'' take o o' end → SendsOn head s u d d'' p q o o' end
  frame_sent turn seen idle here take h fr =
      let size = head.size in
      let c = s.confirmed in
      let found : TakeOf = due s q.seen h.asked in
      let conf : t.confirmed ≡ c = ap (λ (x : SenderModel). x.confirmed) h.sender in
      let frame_at : Held → FrameOf = λ held. frame_of size c q.seen held found in
      let is_frame : (e : Encoder) → FollowsWith s d e → take.frame ≡ taken_as take.size (frame_at e.held)
      = λ e fol. h.frame ∙ (ap (λ (held : Held). taken_as size (frame_at held)) fol.0.1 ∙ ap (λ (z : Size). taken_as z (frame_at e.held)) (sym h.size)) in
      let stands_at : (e : Encoder) → FollowsWith s d e → StandsFor t e
      = λ e fol. subst (λ (x : SenderModel). StandsFor x e) (sym h.sender) (stands_taken s (length q.seen) (s.taken + 1) (frame_at s.held).held e fol.0.0) in
      -- the pointer
      let key : ℕ = key_at size q.seen (length q.seen) in
      let desk_at : (e : Encoder) → FollowsWith s d e → IsDeskOf c e.told d'
      = λ e fol. subst (IsDeskOf c e.told) (sym h.desk) (desk_noted c e.told key d fol.1) in
      let noted_at : IsNoted d' key = subst (λ (x : Option DeskOf). IsNoted x key) (sym h.desk) (is_noted key d) in
      let longer : length p.seen ≤ length q.seen = length_starts q.seen p.seen turn.goes_on in
      record {
        takes = found ∷ [];
        last = length q.seen;
        up_to = fr.number ∙ ap (λ (x : SenderModel). x.number) h.sender;
        follow = (refl, omega (arith, seen, longer), refl);
        grows = turn.goes_on;
        within_seen = omega arith;
        up_to_date = (longer, tt);
        present = (here, tt);
        work = (h.work, tt);
        more_found = length q.seen ∷ [];
        found = turn.found;
        in_found = inl (refl, tt);
        written = fr.written;
        told = fr.told;
        bytes = λ e fol.
            let x = fr.bytes e (frame_at e.held) (stands_at e fol) (is_frame e fol) key (subst (λ (k : Confirmed). IsDeskOf k e.told d') (sym conf) (desk_at e fol)) noted_at in (
              x.0,
              append-nil _
                  ∙ (sym (ap₂ (λ (z : Size) (k : Confirmed). pointer_bytes k e.told key ++ frame_bytes z k e.registers e.uses (frame_at e.held)) h.size conf) ∙ x.1),
              x.2,
            );
        after_is = λ stopped. let n = (fr.after stopped).1 in (
          ap (λ (x : SenderModel). x.v) n.rest ∙ ap (λ (x : SenderModel). x.v) h.sender,
          ap (λ (x : SenderModel). x.confirmed) n.rest ∙ conf,
          ap (λ (x : SenderModel). x.number) n.rest ∙ ap (λ (x : SenderModel). x.number) h.sender,
          record {
            all = ap (λ (x : SenderModel). x.encoded) n.rest
                ∙ (ap (λ (x : SenderModel). x.encoded + 1) h.sender
                ∙ (ap (λ k. k + 1) idle.all ∙ (sym (ap (λ (x : SenderModel). x.taken) h.sender) ∙ sym (ap (λ (x : SenderModel). x.taken) n.rest))));
            sound = ap (λ (x : SenderModel). x.spent) n.rest ∙ (ap (λ (x : SenderModel). x.spent) h.sender ∙ idle.sound);
          },
          λ e fol. (
            (
              stands_told u key (encoder_after_frame size c e (frame_at e.held))
                  (subst (StandsFor u) (ap₂ (λ (z : Size) (k : Confirmed). encoder_after_frame z k e (frame_at e.held)) h.size conf)
                  (n.after e (frame_at e.held) (stands_at e fol) (is_frame e fol))),
              ap (λ (x : SenderModel). x.held) n.rest ∙ (ap (λ (x : SenderModel). x.held) h.sender ∙ ap (λ (held : Held). (frame_at held).held) fol.0.1),
            ),
            subst (λ (k : Confirmed). IsDeskOf k (told_after e.told key) d'') (sym (ap (λ (x : SenderModel). x.confirmed) n.rest ∙ conf))
                (fr.desk stopped c e.told key (desk_at e fol) noted_at),
          ),
        );
        only = fr.only;
        cause = fr.cause;
        calm = fr.calm;
      }

  -- one round of a send side
  pub sends_one : (taken : Result Taken NoMemory) → TakesIn head p q s t d d' taken → s.number ≤ length p.seen → IsIdle s → (v : ℕ) → s.v ≡ v
      → (IsAbsent head v q.seen → taken ≡ Ok Nothing) → SendsTaken taken t u d' d'' o o' end → SendsOn head s u d d'' p q o o' end
  sends_one (Ok (Frame take)) h seen idle v of absent x =
      frame_sent h.turn seen idle
      (subst (λ (n : ℕ). is_present n (reached_at head.size q.seen (length q.seen)).viewers ≡ true) (sym of) (found_here head v q.seen take (Ok (Frame take)) refl absent)) take h.takes x
  sends_one (Ok Nothing) h seen idle v of absent x =
      nothing_sent h.turn seen idle x.2 (x.0 ∙ h.takes.0) (x.1 ∙ h.takes.1) (subst IsSendEnd (sym x.3) tt) (λ is. subst IsFault x.3 is) x.4
  sends_one (Err refusal) h seen idle v of absent x =
      nothing_sent h.turn seen idle x.2 (x.0 ∙ h.takes.0) (x.1 ∙ h.takes.1) (subst IsSendEnd (sym x.3) tt) (λ is. subst IsFault x.3 is) x.4

abbrev NumberOf : Result Taken NoMemory → ℕ → Head → List Entry → SenderModel → Type 0
NumberOf taken number head j u = (taken ≡ Ok Nothing → number ≡ length j) → u.number ≡ length j

-- what is sent last has all of the journal
pub shown_all : (head : Head) (j : List Entry) (s t u : SenderModel) (d d' d'' : Option DeskOf) (taken : Result Taken NoMemory) (o o' : Output) → TakesAs head j s t d d' taken
    → SendsTaken taken t u d' d'' o o' Stopped → NumberOf taken s.number head j u
shown_all head j s t u d d' d'' (Ok (Frame take)) o o' h x = λ whole. let n = (x.after refl).1 in
    ap (λ (y : SenderModel). y.number) n.rest ∙ ap (λ (y : SenderModel). y.number) h.sender
shown_all head j s t u d d' d'' (Ok Nothing) o o' h x = λ whole. ap (λ (y : SenderModel). y.number) (x.0 ∙ h.0) ∙ whole refl
shown_all head j s t u d d' d'' (Err refusal) o o' h x = λ whole. absurd (not_stopped OutOfMemory (sym x.3))
