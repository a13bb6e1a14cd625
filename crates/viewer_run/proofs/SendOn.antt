-- A send side that goes on: one stretch of sending after another, and the pass that meets another one.
use Rattle.std.specs.Prelude.{Option}
use Rattle.std.proofs.Common.{◌≡◌, ℕ, ◌≤◌, List, [], ◌++◌, length, map, sym, refl, ap, ap₂, ◌∙◌, subst, arith, append_assoc, append-nil}
use Rattle.std.proofs.lemmas.List.{map-append}
use Rattle.std.proofs.KnownBytes.{Appends-nil, Appends-trans}
use Rattle.edge_io.specs.Faults.{Rose}
use Rattle.edge_io.specs.Outside.{Output}
use Rattle.caps_sets.specs.declared.confirmed.Confirmed.{Confirmed}
use Rattle.session_rules.specs.declared.entry.Entry.{Entry}
use Rattle.session_rules.specs.Journal.{Head}
use Rattle.session_rules.specs.Steps.{TakeOf, TakesFollow}
use Rattle.frame_rules.specs.FrameBytes.{joined_bytes}
use Rattle.frame_rules.specs.Encoder.{Encoder, pointed_of_takes, encoder_after_takes}
use Rattle.viewer_sender.specs.Senders.{SenderModel, IsIdle}
use Rattle.pointer_share.specs.Desk.{DeskOf}
use Rattle.grow_lock.specs.Journal.{StartsWith}
use Rattle.grow_lock.proofs.Lists.{starts_itself, starts_trans, length_starts}
use Rattle.serve_rules.specs.Turns.{SessionPass}
use Rattle.serve_rules.specs.Events.{IsWithin}
use Rattle.serve_rules.specs.declared.ends.SideEnd.{SideEnd}
use Rattle.serve_rules.specs.declared.ends.SideEnd.TheVariants.{Stopped}
use Rattle.serve_rules.proofs.Lists.{within_front, within_then}
use Rattle.viewer_run.specs.Sending.{AtLeast, IsPresentAtEach, FollowsWith, SendsOn}
use Rattle.viewer_run.proofs.TakesOn.{follow_then, at_least_lower, at_least_then, work_then, present_then, present_stays, joined_then, pointed_then, encoder_then, pointed_stay, encoder_stays}

-- nothing was done
pub sends_none : (head : Head) (s : SenderModel) (d : Option DeskOf) (p : SessionPass) (out : Output) → IsIdle s → s.number ≤ length p.seen → SendsOn head s s d d p p out out Stopped
sends_none head s d p out idle seen = record {
  takes = [];
  last = s.number;
  up_to = refl;
  follow = refl;
  grows = starts_itself p.seen;
  within_seen = seen;
  up_to_date = tt;
  present = tt;
  work = tt;
  more_found = [];
  found = sym (append-nil p.found);
  in_found = tt;
  written = [];
  told = Appends-nil out.told;
  bytes = λ e fol. ([], refl, λ stopped. refl);
  after_is = λ stopped. (refl, refl, refl, idle, λ e fol. fol);
  only = tt;
  cause = λ is. absurd is;
  calm = λ stopped. refl;
}

module _ (head : Head) where
  abbrev numbers : List TakeOf → List ℕ
  numbers ts = map (λ (t : TakeOf). t.number) ts

  -- a stretch of sending after one that went well
  pub sends_then : (s t u : SenderModel) (d d' d'' : Option DeskOf) (p q r : SessionPass) (out out' out'' : Output) (end : SideEnd)
      → SendsOn head s t d d' p q out out' Stopped → SendsOn head t u d' d'' q r out' out'' end → SendsOn head s u d d'' p r out out'' end
  sends_then s t u d d' d'' p q r out out' out'' end a b =
      let size = head.size in
      let c = s.confirmed in
      let w = a.after_is refl in
      let conf : t.confirmed ≡ c = w.1 in
      let bytes_same : (e : Encoder) → pointed_of_takes size c r.seen e a.takes ≡ pointed_of_takes size c q.seen e a.takes
      = λ e. ap (λ (j : List Entry). pointed_of_takes size c j e a.takes) b.grows.1 ∙ pointed_stay size c q.seen b.grows.0 e a.takes s.number a.last a.follow a.within_seen in
      let encoder_same : (e : Encoder) → encoder_after_takes size c r.seen e a.takes ≡ encoder_after_takes size c q.seen e a.takes
      = λ e. ap (λ (j : List Entry). encoder_after_takes size c j e a.takes) b.grows.1
      ∙ encoder_stays size c q.seen b.grows.0 e a.takes s.number a.last a.follow a.within_seen in
      let mid : Encoder → Encoder = λ e. encoder_after_takes size c q.seen e a.takes in
      let longer : length p.seen ≤ length q.seen = length_starts q.seen p.seen a.grows in
      record {
        takes = a.takes ++ b.takes;
        last = b.last;
        up_to = b.up_to;
        follow = follow_then s.number a.takes b.takes a.last b.last a.follow (subst (λ (n : ℕ). TakesFollow n b.takes b.last) w.2 b.follow);
        grows = starts_trans r.seen q.seen p.seen b.grows a.grows;
        within_seen = b.within_seen;
        up_to_date = at_least_then (length p.seen) a.takes b.takes a.up_to_date (at_least_lower (length q.seen) (length p.seen) b.takes longer b.up_to_date);
        present = present_then head s.v r.seen a.takes b.takes
            (present_stays head s.v r.seen q.seen a.takes s.number a.last a.follow a.within_seen b.grows a.present)
            (subst (λ (v : ℕ). IsPresentAtEach head v r.seen b.takes) w.0 b.present);
        work = work_then size a.takes b.takes a.work b.work;
        more_found = a.more_found ++ b.more_found;
        found = b.found ∙ (ap (λ l. l ++ b.more_found) a.found ∙ append_assoc p.found a.more_found b.more_found);
        in_found = subst (λ l. IsWithin l (a.more_found ++ b.more_found)) (sym (map-append (λ (t : TakeOf). t.number) a.takes b.takes))
            (within_then (numbers a.takes) a.more_found (numbers b.takes) b.more_found a.in_found b.in_found);
        written = a.written ++ b.written;
        told = Appends-trans out.told out'.told out''.told a.written b.written a.told b.told;
        bytes = λ e fol.
            let x = a.bytes e fol in
            let y = b.bytes (mid e) (w.4 e fol) in
            let first : joined_bytes (pointed_of_takes size c r.seen e a.takes) ≡ a.written
            = ap joined_bytes (bytes_same e) ∙ (x.1 ∙ (ap (λ l. a.written ++ l) (x.2 refl) ∙ append-nil a.written)) in
            let later : joined_bytes (pointed_of_takes size c r.seen (encoder_after_takes size c r.seen e a.takes) b.takes) ≡ b.written ++ y.0
            = ap (λ (k : Encoder). joined_bytes (pointed_of_takes size c r.seen k b.takes)) (encoder_same e)
            ∙ (ap (λ (k : Confirmed). joined_bytes (pointed_of_takes size k r.seen (mid e) b.takes)) (sym conf) ∙ y.1) in (
              y.0,
              ap joined_bytes (pointed_then size c r.seen e a.takes b.takes)
                  ∙ (joined_then (pointed_of_takes size c r.seen e a.takes) (pointed_of_takes size c r.seen (encoder_after_takes size c r.seen e a.takes) b.takes)
                  ∙ (ap₂ ◌++◌ first later ∙ sym (append_assoc a.written b.written y.0))),
              y.2,
            );
        after_is = λ stopped. let z = b.after_is stopped in (
          z.0 ∙ w.0,
          z.1 ∙ w.1,
          z.2,
          z.3,
          λ e fol. subst (FollowsWith u d'')
              (sym (encoder_then size c r.seen e a.takes b.takes
              ∙ (ap (λ (k : Encoder). encoder_after_takes size c r.seen k b.takes) (encoder_same e)
              ∙ ap (λ (k : Confirmed). encoder_after_takes size k r.seen (mid e) b.takes) (sym conf))))
              (z.4 (mid e) (w.4 e fol)),
        );
        only = b.only;
        cause = λ is. subst (λ (n : ℕ). Rose n out''.faults) (a.calm refl) (b.cause is);
        calm = λ stopped. b.calm stopped ∙ a.calm refl;
      }

  -- what a send side did stays so for the pass in which the other side's met it, seen from the pass that it was split from
  pub sends_met : (s s' : SenderModel) (d d' : Option DeskOf) (p o a b m : SessionPass) (out out' : Output) (end : SideEnd) (turns : List ℕ)
      → SendsOn head s s' d d' o b out out' end → o.seen ≡ p.seen → o.found ≡ [] → a.found ≡ p.found ++ turns
      → StartsWith m.seen b.seen → m.found ≡ a.found ++ b.found
      → SendsOn head s s' d d' p m out out' end
  sends_met s s' d d' p o a b m out out' end turns h same none ahead grows found =
      let size = head.size in
      let c = s.confirmed in
      let bytes_same : (e : Encoder) → pointed_of_takes size c m.seen e h.takes ≡ pointed_of_takes size c b.seen e h.takes
      = λ e. ap (λ (j : List Entry). pointed_of_takes size c j e h.takes) grows.1 ∙ pointed_stay size c b.seen grows.0 e h.takes s.number h.last h.follow h.within_seen in
      let encoder_same : (e : Encoder) → encoder_after_takes size c m.seen e h.takes ≡ encoder_after_takes size c b.seen e h.takes
      = λ e. ap (λ (j : List Entry). encoder_after_takes size c j e h.takes) grows.1 ∙ encoder_stays size c b.seen grows.0 e h.takes s.number h.last h.follow h.within_seen in
      record {
        takes = h.takes;
        last = h.last;
        up_to = h.up_to;
        follow = h.follow;
        grows = starts_trans m.seen b.seen p.seen grows (subst (λ (l : List Entry). StartsWith b.seen l) same h.grows);
        within_seen = omega (arith, h.within_seen, length_starts m.seen b.seen grows);
        up_to_date = subst (λ (l : List Entry). AtLeast (length l) h.takes) same h.up_to_date;
        present = present_stays head s.v m.seen b.seen h.takes s.number h.last h.follow h.within_seen grows h.present;
        work = h.work;
        more_found = turns ++ b.found;
        found = found ∙ (ap (λ l. l ++ b.found) ahead ∙ append_assoc p.found turns b.found);
        in_found = within_front turns (numbers h.takes) b.found
            (subst (IsWithin (numbers h.takes)) (sym (h.found ∙ ap (λ l. l ++ h.more_found) none)) h.in_found);
        written = h.written;
        told = h.told;
        bytes = λ e fol. let x = h.bytes e fol in (x.0, ap joined_bytes (bytes_same e) ∙ x.1, x.2);
        after_is = λ stopped. let x = h.after_is stopped in (x.0, x.1, x.2, x.3, λ e fol. subst (FollowsWith s' d') (sym (encoder_same e)) (x.4 e fol));
        only = h.only;
        cause = h.cause;
        calm = h.calm;
      }
