-- What was done for a viewer between its Join and the end of its connection.
use Rattle.std.proofs.Common.{◌≡◌, ℕ, ◌≤◌, List, [], ◌∷◌, ◌++◌, length, sym, refl, ap, ◌∙◌, subst, inl, ⊎_elim, arith, map, drop}
use Rattle.std.specs.Prelude.{true, false, Option, Result, Ok, Err}
use Rattle.std.specs.Io.KnownBytes.{Consumes, Appends}
use Rattle.std.proofs.KnownBytes.{Consumes-nil, Appends-nil}
use Rattle.edge_io.specs.Outside.{Outside}
use Rattle.wire_num.specs.declared.out_of_memory.OutOfMemory.{OutOfMemory as NoMemory}
use Rattle.caps_sets.specs.declared.confirmed.Confirmed.{Confirmed}
use Rattle.conn_rules.specs.declared.conn_step.ConnStep.{ConnStep}
use Rattle.conn_rules.specs.Hearing.{Hearing, heard}
use Rattle.session_rules.specs.declared.entry.Entry.{Entry}
use Rattle.session_rules.specs.Journal.{Head, Reached, is_present, reached_at}
use Rattle.session_rules.specs.Steps.{TakeOf, TakesFollow}
use Rattle.session_rules.proofs.Journals.{reached_at-append}
use Rattle.frame_rules.specs.FrameBytes.{joined_bytes}
use Rattle.frame_rules.specs.Encoder.{first_encoder, pointed_of_takes}
use Rattle.viewer_sender.specs.Senders.{SenderModel}
use Rattle.pointer_share.specs.Desk.{DeskOf}
use Rattle.serve_rules.specs.Turns.{SessionPass, FoundAll}
use Rattle.serve_rules.specs.Events.{Handles, IsWithin}
use Rattle.serve_rules.specs.Notices.{Notice, events_in, notice_after_all, notice_in}
use Rattle.serve_rules.specs.declared.ends.ConnEnd.{ConnEnd}
use Rattle.serve_rules.specs.declared.ends.ConnEnd.TheVariants.{Left, Refused, Truncated, NotInvited, RoomFull, JoinsSpent, ReadFault, WriteFault, NotStored, OutOfMemory}
use Rattle.serve_rules.specs.declared.ends.SideEnd.{SideEnd}
use Rattle.serve_rules.specs.declared.ends.SideEnd.TheVariants.{Done, Stopped}
use Rattle.serve_rules.specs.declared.noted.Noted.{Noted}
use Rattle.serve_rules.proofs.Handling.{handles_nothing}
use Rattle.viewer_run.specs.Sending.{AtLeast, HaveWork, IsPresentAtEach, IsSendEnd}
use Rattle.viewer_run.specs.Frames.{first_take, FramesSent}
use Rattle.viewer_run.specs.Serving.{ViewEnd, ViewFaults, EndsSending, Attends, IsShownLast, wants_last}
use Rattle.viewer_run.specs.Arriving.{Stays}
use Rattle.viewer_run.specs.declared.visits.FirstFrame.{FirstFrame}
use Rattle.viewer_run.proofs.Attending.{wants_left}
use Rattle.viewer_run.specs.LastWords.{is_cut}
use Rattle.viewer_run.specs.Links.{BeginsWith}

-- the stream was read on, its events handled, and frames sent, between two states of the pass
pub record Viewed (head : Head) (v : ℕ) (confirmed : Confirmed) (rest : List ConnStep) (conn : Hearing) (joined after : SessionPass) (places places' : List ℕ) (n n' : Notice)
    (before now : Outside) (end : ConnEnd) : Type 0 where
  pub fed : List ℕ
  pub taken : Consumes before.input.left now.input.left fed
  pub steps : List ConnStep
  pub undone : List ConnStep
  pub front : rest ++ (heard conn fed).steps ≡ steps ++ undone
  pub all : is_cut end ≡ false → undone ≡ []
  pub handles : Handles head v (events_in steps) joined after places places'
  pub notice : n' ≡ notice_after_all n steps
  pub ends : ViewEnd fed (heard conn fed).after n' before now end
  pub faults : ViewFaults (heard conn fed).after (notice_after_all n (rest ++ (heard conn fed).steps)) before now end
  pub takes : List TakeOf
  pub last : ℕ
  pub follow : TakesFollow 0 takes last
  pub within_seen : last ≤ length after.seen
  pub begins : BeginsWith (length joined.seen) end takes
  pub up_to_date : AtLeast (length joined.seen) (drop 1 takes)
  pub present : IsPresentAtEach head v after.seen takes
  pub work : HaveWork head.size (drop 1 takes)
  pub more_found : List ℕ
  pub found : after.found ≡ joined.found ++ more_found
  pub takes_found : IsWithin (map (λ (t : TakeOf). t.number) (drop 1 takes)) more_found
  pub written : List ℕ
  pub unwritten : List ℕ
  pub bytes : joined_bytes (pointed_of_takes head.size confirmed after.seen first_encoder takes) ≡ written ++ unwritten
  pub told : Appends before.output.told now.output.told written
  pub all_written : is_cut end ≡ false → unwritten ≡ []
  pub calm : is_cut end ≡ false → now.output.faults ≡ before.output.faults
  pub shown : wants_last end n' ≡ true → is_present v (reached_at head.size after.seen (length after.seen)).viewers ≡ true
      → (last ≡ length after.seen) × FoundAll after

cut_sending : (end : ConnEnd) → IsSendEnd (Done end) → is_cut end ≡ false → ⊥
cut_sending Left only free = only
cut_sending (Refused k at) only free = only
cut_sending Truncated only free = only
cut_sending NotInvited only free = only
cut_sending RoomFull only free = only
cut_sending JoinsSpent only free = only
cut_sending ReadFault only free = only
cut_sending WriteFault only free = cc free
cut_sending NotStored only free = cc free
cut_sending OutOfMemory only free = cc free

-- an end behind which nothing is cut isn't that of the sending
uncut_stopped : (sent : SideEnd) (end : ConnEnd) → EndsSending sent end → IsSendEnd sent → is_cut end ≡ false → sent ≡ Stopped
uncut_stopped sent end e only free = ⊎_elim (λ (l : sent ≡ Stopped). l) (λ (r : sent ≡ Done end). absurd (cut_sending end (subst IsSendEnd r only) free)) e

no_write : (end : ConnEnd) → is_cut end ≡ false → end ≡ WriteFault → ⊥
no_write end free is = cc (sym free ∙ ap is_cut is)

no_store : (end : ConnEnd) → is_cut end ≡ false → end ≡ NotStored → ⊥
no_store end free is = cc (sym free ∙ ap is_cut is)

no_want : (end : ConnEnd) → is_cut end ≡ false → end ≡ OutOfMemory → ⊥
no_want end free is = cc (sym free ∙ ap is_cut is)

module _ (head : Head) (v : ℕ) (confirmed : Confirmed) (rest : List ConnStep) (conn : Hearing) (p q : SessionPass) (a b : Noted) (before now : Outside) (end : ConnEnd) where
  viewed_first : is_present v (reached_at head.size p.seen (length p.seen)).viewers ≡ true → (sender : SenderModel) (desk : Option DeskOf)
      → Attends head v confirmed rest conn sender desk p q a b before now end
      → IsShownLast head v q sender end (notice_in b)
      → Viewed head v confirmed rest conn p q a.places.list b.places.list (notice_in a) (notice_in b) before now end
  viewed_first here sender desk x shown =
      let r = x.reads in
      let f : FramesSent head v confirmed sender desk p q before.output now.output x.sent = x.frames in record {
        fed = r.fed;
        taken = r.taken;
        steps = r.steps;
        undone = r.undone;
        front = r.front;
        all = λ free. r.all (no_write end free) (no_store end free) (no_want end free);
        handles = r.handles;
        notice = r.notice;
        ends = r.ends;
        faults = r.faults;
        takes = first_take p.seen f.asked ∷ f.later;
        last = f.last;
        follow = f.follow;
        within_seen = f.within_seen;
        begins = refl;
        up_to_date = f.up_to_date;
        present = (
          ap (λ (j : List Entry). is_present v (reached_at head.size j (length p.seen)).viewers) f.grows.1
              ∙ (ap (λ (y : Reached). is_present v y.viewers) (reached_at-append head.size p.seen f.grows.0 (length p.seen) (omega arith)) ∙ here),
          f.present,
        );
        work = f.work;
        more_found = f.more_found;
        found = f.found;
        takes_found = f.in_found;
        written = f.written;
        unwritten = f.unwritten;
        bytes = f.bytes;
        told = f.told;
        all_written = λ free. f.all (uncut_stopped x.sent end x.ended f.only free);
        calm = λ free. f.calm (uncut_stopped x.sent end x.ended f.only free);
        shown = λ wants still.
            let free : is_cut end ≡ false = ap is_cut (wants_left end (notice_in b) wants) in
            let all = shown wants still in (sym (f.after_is (uncut_stopped x.sent end x.ended f.only free)).2 ∙ all.0, all.1);
      }

  viewed_none : q ≡ p → b ≡ a → now ≡ before → end ≡ OutOfMemory
      → Viewed head v confirmed rest conn p q a.places.list b.places.list (notice_in a) (notice_in b) before now end
  viewed_none same noted still is =
      let cut : is_cut end ≡ true = ap is_cut is in record {
        fed = [];
        taken = subst (λ (x : Outside). Consumes before.input.left x.input.left []) (sym still) (Consumes-nil before.input.left);
        steps = [];
        undone = rest ++ (heard conn []).steps;
        front = refl;
        all = λ free. absurd (cc (sym cut ∙ free));
        handles = subst (λ (x : SessionPass). Handles head v [] p x a.places.list b.places.list) (sym same)
            (subst (λ (t : Noted). Handles head v [] p p a.places.list t.places.list) (sym noted) (handles_nothing head v p a.places.list));
        notice = ap notice_in noted;
        ends = subst (ViewEnd [] (heard conn []).after (notice_in b) before now) (sym is) tt;
        faults = subst (ViewFaults (heard conn []).after (notice_after_all (notice_in a) (rest ++ (heard conn []).steps)) before now) (sym is)
            (inl (ap (λ (x : Outside). x.input.faults) still));
        takes = [];
        last = 0;
        follow = refl;
        within_seen = omega arith;
        begins = is;
        up_to_date = tt;
        present = tt;
        work = tt;
        more_found = [];
        found = ap (λ (x : SessionPass). x.found) same ∙ sym (nil p.found);
        takes_found = tt;
        written = [];
        unwritten = [];
        bytes = refl;
        told = subst (λ (x : Outside). Appends before.output.told x.output.told []) (sym still) (Appends-nil before.output.told);
        all_written = λ free. refl;
        calm = λ free. ap (λ (x : Outside). x.output.faults) still;
        shown = λ wants here. absurd (cc (sym cut ∙ ap is_cut (wants_left end (notice_in b) wants)));
      }
    where
      nil : (xs : List ℕ) → xs ++ [] ≡ xs
      nil [] = refl
      nil (x ∷ xs) = ap (λ l. x ∷ l) (nil xs)

  -- in either way in which a viewer stays
  pub viewed : is_present v (reached_at head.size p.seen (length p.seen)).viewers ≡ true → (first : Result FirstFrame NoMemory) → Stays head v confirmed first rest conn p q a b before now end
      → Viewed head v confirmed rest conn p q a.places.list b.places.list (notice_in a) (notice_in b) before now end
  viewed here (Ok first) s = viewed_first here s.0 s.1 s.2 s.3
  viewed here (Err refusal) s = viewed_none s.0 s.1 s.2 s.3
