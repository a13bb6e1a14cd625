-- A viewer's sides and its first frame, until its connection ends.
use Rattle.std.proofs.Common.{◌≡◌, ℕ, ◌<◌, ⊎_elim, List, [], ◌++◌, map, sym, refl, ap, ◌∙◌, subst, arith, append_assoc, append-nil, inl, inr}
use Rattle.std.specs.Prelude.{Bool, true, false, Option}
use Rattle.edge_io.specs.Faults.{Rose}
use Rattle.edge_io.specs.Outside.{Input, Output, Outside, outside}
use Rattle.caps_sets.specs.declared.confirmed.Confirmed.{Confirmed}
use Rattle.session_rules.specs.declared.entry.Entry.{Entry}
use Rattle.session_rules.specs.Journal.{Head}
use Rattle.session_rules.specs.Steps.{TakeOf}
use Rattle.conn_rules.specs.declared.conn_step.ConnStep.{ConnStep}
use Rattle.conn_rules.specs.Hearing.{Hearing, heard}
use Rattle.frame_rules.specs.FrameBytes.{joined_bytes}
use Rattle.frame_rules.specs.Encoder.{Encoder, pointed_of_takes, encoder_after_takes}
use Rattle.viewer_sender.specs.Senders.{SenderModel}
use Rattle.pointer_share.specs.Desk.{DeskOf}
use Rattle.grow_lock.specs.Journal.{StartsWith}
use Rattle.grow_lock.proofs.Lists.{starts_trans, length_starts}
use Rattle.serve_rules.specs.Turns.{SessionPass}
use Rattle.serve_rules.specs.Notices.{Notice, events_in, notice_after_all, notice_in}
use Rattle.serve_rules.specs.Reading.{ReadsOn, ReadEnd, ReadFaults, IsOrderly, GoesOn}
use Rattle.serve_rules.specs.declared.ends.ConnEnd.{ConnEnd}
use Rattle.serve_rules.specs.declared.ends.ConnEnd.TheVariants.{Left, Refused, Truncated, NotInvited, RoomFull, JoinsSpent, ReadFault, WriteFault, NotStored, OutOfMemory}
use Rattle.serve_rules.specs.declared.ends.SideEnd.{SideEnd}
use Rattle.serve_rules.specs.declared.ends.SideEnd.TheVariants.{Done, Stopped}
use Rattle.serve_rules.specs.declared.noted.Noted.{Noted}
use Rattle.grow_lock.proofs.Shares.{holds_same}
use Rattle.serve_rules.proofs.Handling.{handles_nothing, handles_more}
use Rattle.serve_rules.proofs.Lists.{within_back}
use Rattle.serve_rules.proofs.ReadOn.{reads_then}
use Rattle.viewer_run.specs.Sending.{IsSendEnd, IsFault, FollowsWith, SendsOn}
use Rattle.viewer_run.specs.Frames.{FirstSent, FramesSent}
use Rattle.viewer_run.specs.Serving.{ViewEnd, ViewFaults, FailsAtMostBeside, ReadsTo, EndsSending, SidesServe, Attends, ended_by, wants_last, end_of_last}
use Rattle.viewer_run.proofs.FromFirst.{first_alone, first_then, frames_then}
use Rattle.viewer_run.proofs.Stretches.{same_none}
use Rattle.viewer_run.proofs.TakesOn.{present_stays, pointed_stay, encoder_stays}

-- ---- the end of the reading is that of the connection

view_end : (flagged : Bool) (fed : List ℕ) (h : Hearing) (n : Notice) (i j : Outside) (end : ConnEnd) → ReadEnd flagged fed h n i.input j.input (Done end) → ViewEnd fed h n i j end
view_end flagged fed h n i j Left e = e
view_end flagged fed h n i j (Refused k at) e = e
view_end flagged fed h n i j Truncated e = e
view_end flagged fed h n i j NotInvited e = e
view_end flagged fed h n i j RoomFull e = e
view_end flagged fed h n i j JoinsSpent e = e
view_end flagged fed h n i j ReadFault e = e
view_end flagged fed h n i j WriteFault e = absurd e
view_end flagged fed h n i j NotStored e = absurd e
view_end flagged fed h n i j OutOfMemory e = tt

-- and what it says of reads that failed, where no write had
view_faults : (h : Hearing) (n m : Notice) (i j : Outside) (end : ConnEnd) → (IsOrderly (Done end) → n ≡ m) → ReadFaults h n i.input j.input (Done end)
    → j.output.faults ≡ i.output.faults → ViewFaults h m i j end
view_faults h n m i j Left same e calm = e
view_faults h n m i j (Refused k at) same e calm = e
view_faults h n m i j Truncated same e calm = e
view_faults h n m i j NotInvited same e calm = e
view_faults h n m i j RoomFull same e calm = e
view_faults h n m i j JoinsSpent same e calm = e
view_faults h n m i j ReadFault same e calm = (subst (GoesOn h) (same (λ is. cc is)) e, calm)
view_faults h n m i j WriteFault same e calm = inl e
view_faults h n m i j NotStored same e calm = inl e
view_faults h n m i j OutOfMemory same e calm = inl e

-- whatever end of the reading is beside that of the sending
beside : (h : Hearing) (n m : Notice) (i j : Outside) (read : SideEnd) → (IsOrderly read → n ≡ m) → ReadFaults h n i.input j.input read → FailsAtMostBeside h m i j
beside h n m i j (Done Left) same e = inl e
beside h n m i j (Done (Refused k at)) same e = inl e
beside h n m i j (Done Truncated) same e = inl e
beside h n m i j (Done NotInvited) same e = inl e
beside h n m i j (Done RoomFull) same e = inl e
beside h n m i j (Done JoinsSpent) same e = inl e
beside h n m i j (Done ReadFault) same e = inr (subst (GoesOn h) (same (λ is. cc is)) e)
beside h n m i j (Done WriteFault) same e = inl e
beside h n m i j (Done NotStored) same e = inl e
beside h n m i j (Done OutOfMemory) same e = inl e
beside h n m i j Stopped same e = inl e

cut_faults : (h : Hearing) (m : Notice) (i j : Outside) (end : ConnEnd) → IsSendEnd (Done end) → FailsAtMostBeside h m i j → ViewFaults h m i j end
cut_faults h m i j Left only e = absurd only
cut_faults h m i j (Refused k at) only e = absurd only
cut_faults h m i j Truncated only e = absurd only
cut_faults h m i j NotInvited only e = absurd only
cut_faults h m i j RoomFull only e = absurd only
cut_faults h m i j JoinsSpent only e = absurd only
cut_faults h m i j ReadFault only e = absurd only
cut_faults h m i j WriteFault only e = e
cut_faults h m i j NotStored only e = e
cut_faults h m i j OutOfMemory only e = e

-- what was noted is what all steps announce, where they were all done
all_noted : (head : Head) (v : ℕ) (rest : List ConnStep) (flagged : Bool) (conn conn' : Hearing) (p q : SessionPass) (a b : Noted) (i j : Input) (end : SideEnd)
    → (x : ReadsOn head v rest flagged conn conn' p q a b i j end) → IsOrderly end → notice_in b ≡ notice_after_all (notice_in a) (rest ++ (heard conn x.fed).steps)
all_noted head v rest flagged conn conn' p q a b i j end x orderly =
    x.notice ∙ ap (notice_after_all (notice_in a)) (sym (x.front ∙ (ap (λ l. x.steps ++ l) (x.all orderly).0 ∙ append-nil x.steps)))

-- and where it is that of the sending
cut_end : (fed : List ℕ) (h : Hearing) (n : Notice) (i j : Outside) (end : ConnEnd) → IsSendEnd (Done end)
    → (IsFault (Done end) → Rose i.output.faults j.output.faults) → ViewEnd fed h n i j end
cut_end fed h n i j Left only cause = absurd only
cut_end fed h n i j (Refused k at) only cause = absurd only
cut_end fed h n i j Truncated only cause = absurd only
cut_end fed h n i j NotInvited only cause = absurd only
cut_end fed h n i j RoomFull only cause = absurd only
cut_end fed h n i j JoinsSpent only cause = absurd only
cut_end fed h n i j ReadFault only cause = absurd only
cut_end fed h n i j WriteFault only cause = cause tt
cut_end fed h n i j NotStored only cause = cause tt
cut_end fed h n i j OutOfMemory only cause = tt

cut_only : (end : ConnEnd) → IsSendEnd (Done end) → (end ≡ WriteFault → ⊥) → (end ≡ NotStored → ⊥) → (end ≡ OutOfMemory → ⊥) → ⊥
cut_only Left only no_write no_store no_memory = only
cut_only (Refused k at) only no_write no_store no_memory = only
cut_only Truncated only no_write no_store no_memory = only
cut_only NotInvited only no_write no_store no_memory = only
cut_only RoomFull only no_write no_store no_memory = only
cut_only JoinsSpent only no_write no_store no_memory = only
cut_only ReadFault only no_write no_store no_memory = only
cut_only WriteFault only no_write no_store no_memory = no_write refl
cut_only NotStored only no_write no_store no_memory = no_store refl
cut_only OutOfMemory only no_write no_store no_memory = no_memory refl

module _ (head : Head) (v : ℕ) (rest : List ConnStep) (conn : Hearing) (p q : SessionPass) (a b : Noted) (i j : Outside) (end : ConnEnd) where
  -- the stream was read to its end
  pub read_to : (flagged : Bool) (conn' : Hearing) → ReadsOn head v rest flagged conn conn' p q a b i.input j.input (Done end)
      → j.output.faults ≡ i.output.faults → ReadsTo head v rest conn p q a b i j end
  read_to flagged conn' h calm = record {
    fed = h.fed;
    taken = h.taken;
    steps = h.steps;
    undone = h.undone;
    front = h.front;
    all = λ no_write no_store no_memory. (h.all (λ is. no_memory (cc is))).0;
    handles = h.handles;
    room = h.room;
    notice = h.notice;
    stops = h.stops;
    ends = view_end flagged h.fed (heard conn h.fed).after (notice_in b) i j end h.ends;
    faults = view_faults (heard conn h.fed).after (notice_in b) (notice_after_all (notice_in a) (rest ++ (heard conn h.fed).steps)) i j end
        (all_noted head v rest flagged conn conn' p q a b i.input j.input (Done end) h) h.faults calm;
  }

  -- sending came to its end before
  pub cut_to : (flagged : Bool) (conn' : Hearing) (read : SideEnd) → ReadsOn head v rest flagged conn conn' p q a b i.input j.input read
      → IsSendEnd (Done end) → (IsFault (Done end) → Rose i.output.faults j.output.faults) → ReadsTo head v rest conn p q a b i j end
  cut_to flagged conn' read h only cause = record {
    fed = h.fed;
    taken = h.taken;
    steps = h.steps;
    undone = h.undone;
    front = h.front;
    all = λ no_write no_store no_memory. absurd (cut_only end only no_write no_store no_memory);
    handles = h.handles;
    room = h.room;
    notice = h.notice;
    stops = h.stops;
    ends = cut_end h.fed (heard conn h.fed).after (notice_in b) i j end only cause;
    faults = cut_faults (heard conn h.fed).after (notice_after_all (notice_in a) (rest ++ (heard conn h.fed).steps)) i j end only
        (beside (heard conn h.fed).after (notice_in b) (notice_after_all (notice_in a) (rest ++ (heard conn h.fed).steps)) i j read
        (all_noted head v rest flagged conn conn' p q a b i.input j.input read h) h.faults);
  }

-- nothing was read
pub unread_to : (head : Head) (v : ℕ) (rest : List ConnStep) (conn : Hearing) (p : SessionPass) (noted : Noted) (i : Input) (o o' : Output) (end : ConnEnd)
    → 0 < noted.places.room → IsSendEnd (Done end) → (IsFault (Done end) → Rose o.faults o'.faults)
    → ReadsTo head v rest conn p p noted noted (outside i o) (outside i o') end
unread_to head v rest conn p noted i o o' end room only cause = record {
  fed = [];
  taken = same_none i.left;
  steps = [];
  undone = rest ++ (heard conn []).steps;
  front = refl;
  all = λ no_write no_store no_memory. absurd (cut_only end only no_write no_store no_memory);
  handles = handles_nothing head v p noted.places.list;
  room = room;
  notice = refl;
  stops = inl refl;
  ends = cut_end [] (heard conn []).after (notice_in noted) (outside i o) (outside i o') end only cause;
  faults = cut_faults (heard conn []).after (notice_after_all (notice_in noted) (rest ++ (heard conn []).steps)) (outside i o) (outside i o') end only (inl refl);
}

-- ---- what was sent stays so as the pass goes on

pub sends_stay : (head : Head) (s s' : SenderModel) (d d' : Option DeskOf) (p q r : SessionPass) (o o' : Output) (end : SideEnd) (turns : List ℕ)
    → SendsOn head s s' d d' p q o o' end → StartsWith r.seen q.seen → r.found ≡ q.found ++ turns → SendsOn head s s' d d' p r o o' end
sends_stay head s s' d d' p q r o o' end turns h grows found =
    let size = head.size in
    let c = s.confirmed in
    let bytes_same : (e : Encoder) → pointed_of_takes size c r.seen e h.takes ≡ pointed_of_takes size c q.seen e h.takes
    = λ e. ap (λ (j : List Entry). pointed_of_takes size c j e h.takes) grows.1 ∙ pointed_stay size c q.seen grows.0 e h.takes s.number h.last h.follow h.within_seen in
    let encoder_same : (e : Encoder) → encoder_after_takes size c r.seen e h.takes ≡ encoder_after_takes size c q.seen e h.takes
    = λ e. ap (λ (j : List Entry). encoder_after_takes size c j e h.takes) grows.1 ∙ encoder_stays size c q.seen grows.0 e h.takes s.number h.last h.follow h.within_seen in
    record {
      takes = h.takes;
      last = h.last;
      up_to = h.up_to;
      follow = h.follow;
      grows = starts_trans r.seen q.seen p.seen grows h.grows;
      within_seen = omega (arith, h.within_seen, length_starts r.seen q.seen grows);
      up_to_date = h.up_to_date;
      present = present_stays head s.v r.seen q.seen h.takes s.number h.last h.follow h.within_seen grows h.present;
      work = h.work;
      more_found = h.more_found ++ turns;
      found = found ∙ (ap (λ l. l ++ turns) h.found ∙ append_assoc p.found h.more_found turns);
      in_found = within_back turns (map (λ (t : TakeOf). t.number) h.takes) h.more_found h.in_found;
      written = h.written;
      told = h.told;
      bytes = λ e fol. let x = h.bytes e fol in (x.0, ap joined_bytes (bytes_same e) ∙ x.1, x.2);
      after_is = λ stopped. let x = h.after_is stopped in (x.0, x.1, x.2, x.3, λ e fol. subst (FollowsWith s' d') (sym (encoder_same e)) (x.4 e fol));
      only = h.only;
      cause = h.cause;
      calm = h.calm;
    }

-- ---- both sides

module _ (head : Head) (v : ℕ) (rest : List ConnStep) (conn conn' : Hearing) (s s' : SenderModel) (d d' : Option DeskOf) (p q : SessionPass) (a b : Noted) (i j : Input) (o o' : Output) where
  -- one of them met the connection's end
  pub sides_ended : (read sent : SideEnd) (end : ConnEnd) → ReadsOn head v rest true conn conn' p q a b i j read → SendsOn head s s' d d' p q o o' sent
      → Done end ≡ ended_by read sent → SidesServe head v rest conn s s' d d' p q a b (outside i o) (outside j o') end
  sides_ended read (Done other) end r x e =
      let same : other ≡ end = sym (cc e) in
      let sent : SendsOn head s s' d d' p q o o' (Done end) = subst (λ (y : ConnEnd). SendsOn head s s' d d' p q o o' (Done y)) same x in record {
        reads = cut_to head v rest conn p q a b (outside i o) (outside j o') end true conn' read r sent.only sent.cause;
        sent = Done end;
        sends = sent;
        ended = inr refl;
      }
  sides_ended read Stopped end r x e = record {
    reads = read_to head v rest conn p q a b (outside i o) (outside j o') end true conn'
        (subst (λ (y : SideEnd). ReadsOn head v rest true conn conn' p q a b i j y) (sym e) r) (x.calm refl);
    sent = Stopped;
    sends = x;
    ended = inl refl;
  }

  -- neither did, and the stream was read on
  pub sides_read_on : (read sent : SideEnd) (end : ConnEnd) (conn'' : Hearing) (z : SessionPass) (c : Noted) (l : Input)
      → ReadsOn head v rest true conn conn' p q a b i j read → SendsOn head s s' d d' p q o o' sent → Stopped ≡ ended_by read sent
      → ReadsOn head v [] false conn' conn'' q z b c j l (Done end) → SidesServe head v rest conn s s' d d' p z a c (outside i o) (outside l o') end
  sides_read_on read (Done other) end conn'' z c l r x e on = absurd (cc e)
  sides_read_on read Stopped end conn'' z c l r x e on = record {
    reads = read_to head v rest conn p z a c (outside i o) (outside l o') end false conn''
        (reads_then head v rest false conn conn' conn'' p q z a b c i j l (Done end)
        (subst (λ (y : SideEnd). ReadsOn head v rest true conn conn' p q a b i j y) (sym e) r) on) (x.calm refl);
    sent = Stopped;
    sends = sends_stay head s s' d d' p q z o o' Stopped on.handles.more_found x on.handles.grows on.handles.found;
    ended = inl refl;
  }

-- where no end counts the read side was stopped
pub read_stopped : (read sent : SideEnd) → Stopped ≡ ended_by read sent → read ≡ Stopped
read_stopped read (Done other) e = absurd (cc e)
read_stopped read Stopped e = sym e

-- ---- the first frame before

-- an end counts the output's faults as well from before what was written without one
view_before : (fed : List ℕ) (h : Hearing) (n : Notice) (i : Input) (o o' : Output) (now : Outside) (end : ConnEnd) → o'.faults ≡ o.faults
    → ViewEnd fed h n (outside i o') now end → ViewEnd fed h n (outside i o) now end
view_before fed h n i o o' now Left calm e = e
view_before fed h n i o o' now (Refused k at) calm e = e
view_before fed h n i o o' now Truncated calm e = e
view_before fed h n i o o' now NotInvited calm e = e
view_before fed h n i o o' now RoomFull calm e = e
view_before fed h n i o o' now JoinsSpent calm e = e
view_before fed h n i o o' now ReadFault calm e = e
view_before fed h n i o o' now WriteFault calm e = subst (λ (m : ℕ). Rose m now.output.faults) calm e
view_before fed h n i o o' now NotStored calm e = subst (λ (m : ℕ). Rose m now.output.faults) calm e
view_before fed h n i o o' now OutOfMemory calm e = tt

faults_before : (h : Hearing) (m : Notice) (i : Input) (o o' : Output) (now : Outside) (end : ConnEnd) → o'.faults ≡ o.faults
    → ViewFaults h m (outside i o') now end → ViewFaults h m (outside i o) now end
faults_before h m i o o' now Left calm e = e
faults_before h m i o o' now (Refused k at) calm e = e
faults_before h m i o o' now Truncated calm e = e
faults_before h m i o o' now NotInvited calm e = e
faults_before h m i o o' now RoomFull calm e = e
faults_before h m i o o' now JoinsSpent calm e = e
faults_before h m i o o' now ReadFault calm e = (e.0, e.1 ∙ calm)
faults_before h m i o o' now WriteFault calm e = e
faults_before h m i o o' now NotStored calm e = e
faults_before h m i o o' now OutOfMemory calm e = e

module _ (head : Head) (v : ℕ) (confirmed : Confirmed) (rest : List ConnStep) (conn : Hearing) where
  -- it wasn't sent
  pub attends_cut : (t : SenderModel) (d : Option DeskOf) (p : SessionPass) (noted : Noted) (i : Input) (o o' : Output) (end : ConnEnd) → 0 < noted.places.room
      → FirstSent head v confirmed p.seen t d o o' (Done end) → Attends head v confirmed rest conn t d p p noted noted (outside i o) (outside i o') end
  attends_cut t d p noted i o o' end room a = record {
    reads = unread_to head v rest conn p noted i o o' end room a.only a.cause;
    sent = Done end;
    frames = first_alone head v confirmed t d p o o' (Done end) a;
    ended = inr refl;
  }

  -- it was, and both sides did their work
  pub attends_all : (t u : SenderModel) (d d' : Option DeskOf) (p q : SessionPass) (a b : Noted) (i : Input) (o o' : Output) (now : Outside) (end : ConnEnd)
      → FirstSent head v confirmed p.seen t d o o' Stopped → SidesServe head v rest conn t u d d' p q a b (outside i o') now end
      → Attends head v confirmed rest conn u d' p q a b (outside i o) now end
  attends_all t u d d' p q a b i o o' now end first x =
      let h = x.reads in record {
        reads = record {
          fed = h.fed;
          taken = h.taken;
          steps = h.steps;
          undone = h.undone;
          front = h.front;
          all = h.all;
          handles = h.handles;
          room = h.room;
          notice = h.notice;
          stops = h.stops;
          ends = view_before h.fed (heard conn h.fed).after (notice_in b) i o o' now end (first.calm refl) h.ends;
          faults = faults_before (heard conn h.fed).after (notice_after_all (notice_in a) (rest ++ (heard conn h.fed).steps)) i o o' now end (first.calm refl) h.faults;
        };
        sent = x.sent;
        frames = first_then head v confirmed t u d d' p q o o' now.output x.sent first x.sends;
        ended = x.ended;
      }

-- ---- the last frame behind

left_only : (end : ConnEnd) → IsSendEnd (Done end) → end ≡ Left → ⊥
left_only end only is = subst (λ (x : ConnEnd). IsSendEnd (Done x)) is only

-- a stream that was left was sent to so far
pub left_stopped : (sent : SideEnd) (end : ConnEnd) → EndsSending sent end → IsSendEnd sent → end ≡ Left → sent ≡ Stopped
left_stopped sent end e only is = ⊎_elim (λ l. l) (λ r. absurd (left_only end (subst IsSendEnd r only) is)) e

pub wants_left : (end : ConnEnd) (n : Notice) → wants_last end n ≡ true → end ≡ Left
wants_left Left n e = refl
wants_left (Refused k at) n e = absurd (cc e)
wants_left Truncated n e = absurd (cc e)
wants_left NotInvited n e = absurd (cc e)
wants_left RoomFull n e = absurd (cc e)
wants_left JoinsSpent n e = absurd (cc e)
wants_left ReadFault n e = absurd (cc e)
wants_left WriteFault n e = absurd (cc e)
wants_left NotStored n e = absurd (cc e)
wants_left OutOfMemory n e = absurd (cc e)

-- the connection's end behind it
last_end : (fed : List ℕ) (h : Hearing) (n : Notice) (before : Outside) (j : Input) (o o' : Output) (sent : SideEnd) → IsSendEnd sent
    → (IsFault sent → Rose before.output.faults o'.faults) → ViewEnd fed h n before (outside j o) Left → ViewEnd fed h n before (outside j o') (end_of_last sent)
last_end fed h n before j o o' (Done end) only cause e = cut_end fed h n before (outside j o') end only cause
last_end fed h n before j o o' Stopped only cause e = e

last_faults : (h : Hearing) (m : Notice) (before : Outside) (j : Input) (o o' : Output) (sent : SideEnd) → IsSendEnd sent
    → ViewFaults h m before (outside j o) Left → ViewFaults h m before (outside j o') (end_of_last sent)
last_faults h m before j o o' (Done end) only e = cut_faults h m before (outside j o') end only (inl e)
last_faults h m before j o o' Stopped only e = e

ends_last : (sent : SideEnd) → EndsSending sent (end_of_last sent)
ends_last (Done end) = inr refl
ends_last Stopped = inl refl

module _ (head : Head) (v : ℕ) (confirmed : Confirmed) (rest : List ConnStep) (conn : Hearing) where
  pub attends_last : (t u : SenderModel) (d d' : Option DeskOf) (p q r : SessionPass) (b c : Noted) (before : Outside) (j : Input) (o o' : Output) (end : ConnEnd) (sent : SideEnd)
      → Attends head v confirmed rest conn t d p q b c before (outside j o) end → end ≡ Left → SendsOn head t u d d' q r o o' sent → r.mine ≡ q.mine → r.share ≡ q.share
      → Attends head v confirmed rest conn u d' p r b c before (outside j o') (end_of_last sent)
  attends_last t u d d' p q r b c before j o o' end sent a is x mine share =
      let h = a.reads in
      let frames : FramesSent head v confirmed t d p q before.output o Stopped
      = subst (FramesSent head v confirmed t d p q before.output o) (left_stopped a.sent end a.ended a.frames.only is) a.frames in
      let both : FramesSent head v confirmed u d' p r before.output o' sent = frames_then head v confirmed t u d d' p q r before.output o o' sent frames x in
      record {
        reads = record {
          fed = h.fed;
          taken = h.taken;
          steps = h.steps;
          undone = h.undone;
          front = h.front;
          all = λ no_write no_store no_memory. h.all (λ wrote. absurd (cc (sym is ∙ wrote))) (λ unkept. absurd (cc (sym is ∙ unkept)))
              (λ wanted. absurd (cc (sym is ∙ wanted)));
          handles = handles_more head v (events_in h.steps) p q r b.places.list c.places.list x.more_found h.handles x.grows x.found mine (holds_same r.share q.share share);
          room = h.room;
          notice = h.notice;
          stops = h.stops;
          ends = last_end h.fed (heard conn h.fed).after (notice_in c) before j o o' sent x.only both.cause
              (subst (ViewEnd h.fed (heard conn h.fed).after (notice_in c) before (outside j o)) is h.ends);
          faults = last_faults (heard conn h.fed).after (notice_after_all (notice_in b) (rest ++ (heard conn h.fed).steps)) before j o o' sent x.only
              (subst (ViewFaults (heard conn h.fed).after (notice_after_all (notice_in b) (rest ++ (heard conn h.fed).steps)) before (outside j o)) is h.faults);
        };
        sent = sent;
        frames = both;
        ended = ends_last sent;
      }

-- a last frame is due at no end of its sending but a stop
pub last_stopped : (sent : SideEnd) (n : Notice) → IsSendEnd sent → wants_last (end_of_last sent) n ≡ true → sent ≡ Stopped
last_stopped (Done end) n only e = absurd (left_only end only (wants_left end n e))
last_stopped Stopped n only e = refl
