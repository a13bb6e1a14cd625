-- A viewer's first frame, and the frames behind it.
use Rattle.std.proofs.Common.{◌≡◌, ℕ, ◌+◌, ◌≤◌, List, [], ◌∷◌, ◌++◌, length, sym, refl, ap, ap₂, ◌∙◌, subst, arith, append_assoc, append-nil, map}
use Rattle.std.proofs.KnownBytes.{Appends-trans}
use Rattle.std.specs.Prelude.{Option}
use Rattle.edge_io.specs.Faults.{Rose}
use Rattle.edge_io.specs.Outside.{Output}
use Rattle.px_core.specs.declared.surface.Size.{Size}
use Rattle.caps_sets.specs.declared.confirmed.Confirmed.{Confirmed}
use Rattle.session_rules.specs.declared.entry.Entry.{Entry}
use Rattle.session_rules.specs.Journal.{Head}
use Rattle.session_rules.specs.Steps.{TakeOf, TakesFollow}
use Rattle.save_plan.specs.Blocks.{Held}
use Rattle.frame_rules.specs.Frame.{FrameOf, frame_of}
use Rattle.frame_rules.specs.FrameBytes.{joined_bytes, frame_bytes}
use Rattle.frame_rules.specs.Told.{told_after, key_at, pointer_bytes}
use Rattle.frame_rules.specs.Encoder.{Encoder, first_encoder, pointed_bytes, encoder_after, encoder_after_frame, pointed_of_takes, encoder_after_takes}
use Rattle.frame_rules.proofs.FrameLaws.{pointed_bytes-append, encoder_after-append}
use Rattle.frame_plan.specs.Takes.{TakeModel, taken_as}
use Rattle.viewer_sender.specs.Senders.{SenderModel, StandsFor}
use Rattle.pointer_share.specs.Desk.{DeskOf, IsDeskOf, IsNoted}
use Rattle.pointer_share.proofs.Desks.{desk_noted, is_noted}
use Rattle.grow_lock.proofs.Lists.{starts_itself, starts_trans, length_starts}
use Rattle.serve_rules.specs.Turns.{SessionPass}
use Rattle.serve_rules.specs.declared.ends.SideEnd.{SideEnd}
use Rattle.serve_rules.specs.declared.ends.SideEnd.TheVariants.{Stopped}
use Rattle.viewer_run.specs.Sending.{TakesFrame, SendsFrame, IsPresentAtEach, FollowsWith, SendsOn}
use Rattle.viewer_run.specs.Visiting.{IsFresh}
use Rattle.viewer_run.specs.Frames.{first_take, FirstSent, FramesSent}
use Rattle.std.proofs.lemmas.List.{map-append}
use Rattle.serve_rules.specs.Events.{IsWithin}
use Rattle.serve_rules.proofs.Lists.{within_then}
use Rattle.viewer_run.proofs.TakesOn.{follow_then, at_least_lower, at_least_then, work_then, present_then, present_stays, joined_then, pointed_then, encoder_then, pointed_stay, encoder_stays}
use Rattle.viewer_run.proofs.OneTake.{stands_taken, stands_told}

-- the first take's frame was sent
pub first_sent : (head : Head) (j : List Entry) (v : ℕ) (confirmed : Confirmed) (s t u : SenderModel) (d d' d'' : Option DeskOf) (take : TakeModel) (o o' : Output) (end : SideEnd)
    → IsFresh s d v confirmed → TakesFrame head j s t d d' take → SendsFrame t u d' d'' take o o' end → FirstSent head v confirmed j u d'' o o' end
first_sent head j v confirmed s t u d d' d'' take o o' end fresh h fr =
    let size = head.size in
    let c = s.confirmed in
    let e : Encoder = first_encoder in
    let due_at : ℕ → TakeOf = λ n. record { before = n; number = length j; asked = h.asked } in
    let conf : t.confirmed ≡ c = ap (λ (x : SenderModel). x.confirmed) h.sender in
    let frame_at : Held → FrameOf = λ held. frame_of size c j held (due_at s.number) in
    let is_frame : take.frame ≡ taken_as take.size (frame_at e.held)
    = h.frame ∙ (ap (λ (held : Held). taken_as size (frame_at held)) fresh.follows.0.1 ∙ ap (λ (z : Size). taken_as z (frame_at e.held)) (sym h.size)) in
    let stands_at : StandsFor t e
    = subst (λ (x : SenderModel). StandsFor x e) (sym h.sender) (stands_taken s (length j) (s.taken + 1) (frame_at s.held).held e fresh.follows.0.0) in
    -- the pointer
    let key : ℕ = key_at size j (length j) in
    let desk_at : IsDeskOf c e.told d' = subst (IsDeskOf c e.told) (sym h.desk) (desk_noted c e.told key d fresh.follows.1) in
    let noted_at : IsNoted d' key = subst (λ (x : Option DeskOf). IsNoted x key) (sym h.desk) (is_noted key d) in
    let x = fr.bytes e (frame_at e.held) stands_at is_frame key (subst (λ (k : Confirmed). IsDeskOf k e.told d') (sym conf) desk_at) noted_at in
    record {
      asked = h.asked;
      written = fr.written;
      unwritten = x.0;
      bytes = ap₂ (λ (k : Confirmed) (n : ℕ). pointed_bytes size k j e (due_at n)) (sym fresh.confirms) (sym fresh.number)
          ∙ (sym (ap₂ (λ (z : Size) (k : Confirmed). pointer_bytes k e.told key ++ frame_bytes z k e.registers e.uses (frame_at e.held)) h.size conf) ∙ x.1);
      told = fr.told;
      all = x.2;
      up_to = fr.number ∙ ap (λ (x : SenderModel). x.number) h.sender;
      after_is = λ stopped. let n = (fr.after stopped).1 in (
        ap (λ (x : SenderModel). x.v) n.rest ∙ (ap (λ (x : SenderModel). x.v) h.sender ∙ fresh.viewer),
        ap (λ (x : SenderModel). x.confirmed) n.rest ∙ (conf ∙ fresh.confirms),
        ap (λ (x : SenderModel). x.number) n.rest ∙ ap (λ (x : SenderModel). x.number) h.sender,
        record {
          all = ap (λ (x : SenderModel). x.encoded) n.rest
              ∙ (ap (λ (x : SenderModel). x.encoded + 1) h.sender
              ∙ (ap (λ k. k + 1) fresh.idle.all ∙ (sym (ap (λ (x : SenderModel). x.taken) h.sender) ∙ sym (ap (λ (x : SenderModel). x.taken) n.rest))));
          sound = ap (λ (x : SenderModel). x.spent) n.rest ∙ (ap (λ (x : SenderModel). x.spent) h.sender ∙ fresh.idle.sound);
        },
        subst (FollowsWith u d'') (ap₂ (λ (k : Confirmed) (n : ℕ). encoder_after size k j e (due_at n)) fresh.confirms fresh.number) (
          (
            stands_told u key (encoder_after_frame size c e (frame_at e.held))
                (subst (StandsFor u) (ap₂ (λ (z : Size) (k : Confirmed). encoder_after_frame z k e (frame_at e.held)) h.size conf)
                (n.after e (frame_at e.held) stands_at is_frame)),
            ap (λ (x : SenderModel). x.held) n.rest ∙ (ap (λ (x : SenderModel). x.held) h.sender ∙ ap (λ (held : Held). (frame_at held).held) fresh.follows.0.1),
          ),
          subst (λ (k : Confirmed). IsDeskOf k (told_after e.told key) d'') (sym (ap (λ (x : SenderModel). x.confirmed) n.rest ∙ conf))
              (fr.desk stopped c e.told key desk_at noted_at),
        ),
      );
      only = fr.only;
      cause = fr.cause;
      calm = fr.calm;
    }

module _ (head : Head) (v : ℕ) (confirmed : Confirmed) where
  -- no frame behind the first one
  pub first_alone : (u : SenderModel) (d : Option DeskOf) (p : SessionPass) (o o' : Output) (end : SideEnd) → FirstSent head v confirmed p.seen u d o o' end
      → FramesSent head v confirmed u d p p o o' end
  first_alone u d p o o' end a = record {
    asked = a.asked;
    later = [];
    last = length p.seen;
    up_to = a.up_to;
    follow = (refl, omega arith, refl);
    grows = starts_itself p.seen;
    within_seen = omega arith;
    up_to_date = tt;
    present = tt;
    work = tt;
    more_found = [];
    found = sym (append-nil p.found);
    in_found = tt;
    written = a.written;
    unwritten = a.unwritten;
    bytes = append-nil _ ∙ a.bytes;
    told = a.told;
    all = a.all;
    after_is = a.after_is;
    only = a.only;
    cause = a.cause;
    calm = a.calm;
  }

  -- a send side's frames behind it
  pub first_then : (t u : SenderModel) (d d' : Option DeskOf) (p q : SessionPass) (o o' o'' : Output) (end : SideEnd)
      → FirstSent head v confirmed p.seen t d o o' Stopped → SendsOn head t u d d' p q o' o'' end → FramesSent head v confirmed u d' p q o o'' end
  first_then t u d d' p q o o' o'' end a b =
      let size = head.size in
      let w = a.after_is refl in
      let first : TakeOf = first_take p.seen a.asked in
      let mid : Encoder = encoder_after size confirmed p.seen first_encoder first in
      let first_bytes : pointed_bytes size confirmed q.seen first_encoder first ≡ a.written
      = ap (λ (j : List Entry). pointed_bytes size confirmed j first_encoder first) b.grows.1
      ∙ (pointed_bytes-append size confirmed p.seen b.grows.0 first_encoder first (omega arith) (omega arith)
      ∙ (a.bytes ∙ (ap (λ l. a.written ++ l) (a.all refl) ∙ append-nil a.written))) in
      let mid_same : encoder_after size confirmed q.seen first_encoder first ≡ mid
      = ap (λ (j : List Entry). encoder_after size confirmed j first_encoder first) b.grows.1
      ∙ encoder_after-append size confirmed p.seen b.grows.0 first_encoder first (omega arith) (omega arith) in
      let y = b.bytes mid w.4 in
      let later_bytes : joined_bytes (pointed_of_takes size confirmed q.seen (encoder_after size confirmed q.seen first_encoder first) b.takes) ≡ b.written ++ y.0
      = ap₂ (λ (x : Confirmed) (k : Encoder). joined_bytes (pointed_of_takes size x q.seen k b.takes)) (sym w.1) mid_same ∙ y.1 in
      record {
        asked = a.asked;
        later = b.takes;
        last = b.last;
        up_to = b.up_to;
        follow = (refl, omega arith, subst (λ (n : ℕ). TakesFollow n b.takes b.last) w.2 b.follow);
        grows = b.grows;
        within_seen = b.within_seen;
        up_to_date = b.up_to_date;
        present = subst (λ (n : ℕ). IsPresentAtEach head n q.seen b.takes) w.0 b.present;
        work = b.work;
        more_found = b.more_found;
        found = b.found;
        in_found = b.in_found;
        written = a.written ++ b.written;
        unwritten = y.0;
        bytes = ap₂ ◌++◌ first_bytes later_bytes ∙ sym (append_assoc a.written b.written y.0);
        told = Appends-trans o.told o'.told o''.told a.written b.written a.told b.told;
        all = y.2;
        after_is = λ stopped. let z = b.after_is stopped in (
          z.0 ∙ w.0,
          z.1 ∙ w.1,
          z.2,
          z.3,
          subst (FollowsWith u d') (sym (ap₂ (λ (x : Confirmed) (k : Encoder). encoder_after_takes size x q.seen k b.takes) (sym w.1) mid_same)) (z.4 mid w.4),
        );
        only = b.only;
        cause = λ is. subst (λ (n : ℕ). Rose n o''.faults) (a.calm refl) (b.cause is);
        calm = λ stopped. b.calm stopped ∙ a.calm refl;
      }

  -- further frames behind all of these
  pub frames_then : (t u : SenderModel) (d d' : Option DeskOf) (p q r : SessionPass) (o o' o'' : Output) (end : SideEnd)
      → FramesSent head v confirmed t d p q o o' Stopped → SendsOn head t u d d' q r o' o'' end → FramesSent head v confirmed u d' p r o o'' end
  frames_then t u d d' p q r o o' o'' end a b =
      let size = head.size in
      let w = a.after_is refl in
      let takes : List TakeOf = first_take p.seen a.asked ∷ a.later in
      let e : Encoder = first_encoder in
      let mid : Encoder = encoder_after_takes size confirmed q.seen e takes in
      let bytes_same : pointed_of_takes size confirmed r.seen e takes ≡ pointed_of_takes size confirmed q.seen e takes
      = ap (λ (j : List Entry). pointed_of_takes size confirmed j e takes) b.grows.1 ∙ pointed_stay size confirmed q.seen b.grows.0 e takes 0 a.last a.follow a.within_seen in
      let mid_same : encoder_after_takes size confirmed r.seen e takes ≡ mid
      = ap (λ (j : List Entry). encoder_after_takes size confirmed j e takes) b.grows.1 ∙ encoder_stays size confirmed q.seen b.grows.0 e takes 0 a.last a.follow a.within_seen in
      let y = b.bytes mid w.4 in
      let first_bytes : joined_bytes (pointed_of_takes size confirmed r.seen e takes) ≡ a.written
      = ap joined_bytes bytes_same ∙ (a.bytes ∙ (ap (λ l. a.written ++ l) (a.all refl) ∙ append-nil a.written)) in
      let later_bytes : joined_bytes (pointed_of_takes size confirmed r.seen (encoder_after_takes size confirmed r.seen e takes) b.takes) ≡ b.written ++ y.0
      = ap₂ (λ (x : Confirmed) (k : Encoder). joined_bytes (pointed_of_takes size x r.seen k b.takes)) (sym w.1) mid_same ∙ y.1 in
      let longer : length p.seen ≤ length q.seen = length_starts q.seen p.seen a.grows in
      record {
        asked = a.asked;
        later = a.later ++ b.takes;
        last = b.last;
        up_to = b.up_to;
        follow = follow_then 0 takes b.takes a.last b.last a.follow (subst (λ (n : ℕ). TakesFollow n b.takes b.last) w.2 b.follow);
        grows = starts_trans r.seen q.seen p.seen b.grows a.grows;
        within_seen = b.within_seen;
        up_to_date = at_least_then (length p.seen) a.later b.takes a.up_to_date (at_least_lower (length q.seen) (length p.seen) b.takes longer b.up_to_date);
        present = present_then head v r.seen a.later b.takes
            (present_stays head v r.seen q.seen a.later (length p.seen) a.last a.follow.2 a.within_seen b.grows a.present)
            (subst (λ (n : ℕ). IsPresentAtEach head n r.seen b.takes) w.0 b.present);
        work = work_then size a.later b.takes a.work b.work;
        more_found = a.more_found ++ b.more_found;
        found = b.found ∙ (ap (λ l. l ++ b.more_found) a.found ∙ append_assoc p.found a.more_found b.more_found);
        in_found = subst (λ l. IsWithin l (a.more_found ++ b.more_found)) (sym (map-append (λ (t : TakeOf). t.number) a.later b.takes))
            (within_then (map (λ (t : TakeOf). t.number) a.later) a.more_found (map (λ (t : TakeOf). t.number) b.takes) b.more_found a.in_found b.in_found);
        written = a.written ++ b.written;
        unwritten = y.0;
        bytes = ap joined_bytes (pointed_then size confirmed r.seen e takes b.takes)
            ∙ (joined_then (pointed_of_takes size confirmed r.seen e takes) (pointed_of_takes size confirmed r.seen (encoder_after_takes size confirmed r.seen e takes) b.takes)
            ∙ (ap₂ ◌++◌ first_bytes later_bytes ∙ sym (append_assoc a.written b.written y.0)));
        told = Appends-trans o.told o'.told o''.told a.written b.written a.told b.told;
        all = y.2;
        after_is = λ stopped. let z = b.after_is stopped in (
          z.0 ∙ w.0,
          z.1 ∙ w.1,
          z.2,
          z.3,
          subst (FollowsWith u d') (sym (encoder_then size confirmed r.seen e takes b.takes
              ∙ ap₂ (λ (x : Confirmed) (k : Encoder). encoder_after_takes size x r.seen k b.takes) (sym w.1) mid_same)) (z.4 mid w.4),
        );
        only = b.only;
        cause = λ is. subst (λ (n : ℕ). Rose n o''.faults) (a.calm refl) (b.cause is);
        calm = λ stopped. b.calm stopped ∙ a.calm refl;
      }
