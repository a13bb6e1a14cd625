-- A service, piece by piece.
use Rattle.std.proofs.Common.{◌≡◌, ℕ, zero, suc, List, [], ◌++◌, length, refl, ap, sym, ◌∙◌, subst, arith, append_assoc, append-nil}
use Rattle.std.specs.Prelude.{true, false, ◌<◌, ◌≤◌, take, All, Option, Some, None, Result, Ok, Err, IfOk, IfErr}
use Rattle.std.proofs.lemmas.List.{length-take}
use Rattle.std.proofs.lemmas.List.Elements.{All-nil}
use Rattle.std.proofs.Math.Nat.{min-le_left}
use Rattle.std.specs.Io.KnownBytes.{Appends, Consumes, Keeps, IsAtEnd}
use Rattle.std.proofs.KnownBytes.{Appends-trans, Appends-nil, Appends-kept, Consumes-nil, Consumes-trans, Consumes-kept, Keeps-refl}
use Rattle.headline.specs.Fronts.{IsFront}
use Rattle.edge_io.specs.Outside.{Input, Output, Outside, outside}
use Rattle.px_core.specs.declared.surface.Size.{Size}
use Rattle.session_rules.specs.Journal.{Head}
use Rattle.headline.specs.Headline.{ConfirmAllCaches, HasSessionSize}
use Rattle.conn_rules.specs.declared.conn_step.ConnStep.{ConnStep}
use Rattle.conn_rules.specs.declared.stage.Stage.{Stage}
use Rattle.conn_rules.specs.declared.stage.Stage.TheVariants as stage
use Rattle.conn_rules.specs.Hearing.{Hearing, Heard, StreamEnd, is_over, silent, heard, end_within, end_by, end_of}
use Rattle.conn_rules.specs.Hearing.StreamEnd.{Between, Within, RefusedAt}
use Rattle.conn_rules.specs.Progress.{progress_of}
use Rattle.conn_rules.specs.Placed.{AreBytes}
use Rattle.conn_rules.proofs.Quiet.{end_silence}
use Rattle.conn_rules.proofs.Near.{heard_near}
use Rattle.conn_core.specs.Kept.{ConnOf, IsUnrefused}
use Rattle.answer_run.specs.Asking.{Guest, owners_head, asked_from, guest_after_all}
use Rattle.answer_run.specs.Asking.Guest.{Coming, Viewing, TurnedAway}
use Rattle.answer_run.specs.declared.ending.Ending.{Ending}
use Rattle.answer_run.specs.declared.ending.Ending.TheVariants as ending
use Rattle.answer_run.specs.Service.{last_word, end_said, end_met, end_so_far, ending_at, ending_by, ultimatum_of, Service, first_service, heard_of, asked_of, written_of, service_after, ending_of, answer_of}
use Rattle.answer_run.specs.Visits.{IsGuest, IsReady, HasCaches, frames_by, WritesCause, ReadsCause, IsWriteFault, IsFault}
use Rattle.answer_run.specs.Serves.{fault_of, IsAnswerOf, Tells, ServesStream, RunsAnswer, IsServiceOf, GoesOn, Continues, Gives, ServedAll, IsServedFront, ServedAFront, PieceDone, WentOn, IsClosed, PieceStops, ServedPiece, StopsBy, ServedNext, end_of_part, StopsHeard, HeardDone, DoesHeard, IsAsFar}
use Rattle.answer_run.specs.Serves.StopsHeard.{Before, AtEnd}
use Rattle.frame_rules.specs.Encoder.{Encoder}
use Rattle.script_rules.specs.CaptureText.{Run}
use Rattle.answer_run.specs.declared.solo.Solo.{Solo}
use Rattle.answer_run.specs.declared.serving.Serving.{Serving}
use Rattle.answer_run.specs.declared.visitor.Visitor.{Visitor}
use Rattle.answer_run.specs.declared.visitor.Visitor.TheVariants as visitor
use Rattle.answer_run.specs.declared.fault.AnswerFault.{AnswerFault}
use Rattle.answer_run.specs.declared.fault.AnswerFault.TheVariants as fault
use Rattle.answer_run.proofs.Streams.{still_after, all_caches}
use Rattle.conn_rules.specs.Sound.{IsRefusalNumber, IsSound}
use Rattle.conn_rules.proofs.SoundSteps.{heard_sound}
use Rattle.answer_run.specs.Cut.{read_room, WritesHandedBytes, WritesAFront}
use Rattle.answer_run.specs.Serves.{IsNumbered, IsNumberedFault}
use Rattle.answer_run.proofs.Numbers.{service_numbered}
use Rattle.answer_run.proofs.Cut.{front_shows, nothing_shows}
use Rattle.answer_run.proofs.Present.{client_sees}
use Rattle.answer_run.proofs.Pieces.{StandsBy, IsFed, no_end, far_after, ends_piece, closed_same, goes_on, service_heard, service_joined, written_joined, unended_joined, all_caches_joined, begins}

abbrev pub serving_of : ConnOf → Visitor → Serving
serving_of conn who = record { conn = conn; visitor = who }

-- ---- a piece

-- bytes that were fed, by what their service hears of them
fed_here : (old : Serving) (h : Hearing) (bytes replies : List ℕ) (steps : List ConnStep) (refusal : Option Ending) (conn : ConnOf) → old.conn.hearing ≡ h
    → IsFed (heard old.conn.hearing bytes) conn replies steps refusal → IsFed (heard h bytes) conn replies steps refusal
fed_here old h bytes replies steps refusal conn e f = subst (λ k. IsFed (heard k bytes) conn replies steps refusal) e f

module _ (head : Head) (s : Service) (bytes replies : List ℕ) (steps : List ConnStep) (refusal : Option Ending) (conn : ConnOf) (new : Visitor) (told telling : Option (List ℕ)) where
  piece_by : (result : Result (Option Ending) AnswerFault) → IsFed (heard s.hearing bytes) conn replies steps refusal
      → IsAsFar s.guest (progress_of s.hearing.stage) → AreBytes s.hearing.part → AreBytes bytes → IsSound s.hearing.stage → ConfirmAllCaches (asked_of head s bytes)
      → HeardDone result head s.guest s.run (heard_of s bytes).replies (heard_of s bytes).steps refusal new told telling
      → IfOk result (λ how. how ≡ None → IsReady new) → ServedPiece result head s bytes (serving_of conn new) told telling
  piece_by (Ok None) f far part b safe caches d ready =
      let none = no_end (guest_after_all head s.guest (heard_of s bytes).steps) refusal (last_word (heard_of s bytes).steps) d.0 in
      record {
        is_service = record {
          hearing = f.hearing;
          sound = f.sound;
          visitor = d.1;
          ready = ready refl;
          as_far = far_after head s bytes far;
          part = (heard_near s.hearing bytes part b).1;
          still = still_after s.hearing bytes;
          unrefused = subst (λ r. StandsBy r (heard_of s bytes).after.stage) none.0 f.stands;
          safe = (heard_sound s.hearing bytes safe).1;
        };
        written = d.2;
        unended = none.1;
        caches = caches;
      }
  piece_by (Ok (Some how)) f far part b safe caches d ready =
      let p = ends_piece head s bytes refusal how f.stands d.0 in
      record {
        is = p.is;
        written = subst (λ k. Appends told telling (written_of head s bytes ++ ultimatum_of k)) (sym p.is) d.1;
        closed = p.closed;
        number = subst IsNumbered p.is (service_numbered head s bytes safe);
        caches = caches;
      }
  piece_by (Err why) f far part b safe caches d ready = stopped d
    where
      stopped : StopsHeard head s.guest s.run (heard_of s bytes).replies (heard_of s bytes).steps refusal told telling → PieceStops head s bytes told telling
      stopped (Before w) = record {
        text = w.front;
        written = w.written;
        is_front = λ more.
            let rest = begins head s bytes more refusal far f.stands caches in
            record { rest = w.rest ++ rest.0; joined = rest.1 ∙ (ap (λ t. t ++ rest.0) w.whole ∙ append_assoc w.front w.rest rest.0) };
      }
      stopped (AtEnd at) =
          let p = ends_piece head s bytes refusal at.how f.stands at.is in
          let w = at.front in
          record {
            text = w.front;
            written = w.written;
            is_front = λ more.
                let same = closed_same head s bytes more p.closed (far_after head s bytes far) in
                record { rest = w.rest; joined = same.answer ∙ (ap (λ k. written_of head s bytes ++ ultimatum_of k) p.is ∙ w.whole) };
          }

pub piece_served : (result : Result (Option Ending) AnswerFault) (head : Head) (old : Serving) (bytes replies : List ℕ) (steps : List ConnStep) (refusal : Option Ending) (conn : ConnOf)
    (new : Visitor) (told telling : Option (List ℕ)) → IsFed (heard old.conn.hearing bytes) conn replies steps refusal → AreBytes bytes → All HasCaches steps
    → DoesHeard result head replies steps refusal old.visitor new told telling → IfOk result (λ how. how ≡ None → IsReady new)
    → (s : Service) → IsServiceOf head old s → ServedPiece result head s bytes (serving_of conn new) told telling
piece_served result head old bytes replies steps refusal conn new told telling f b h d ready s i =
    let g = fed_here old s.hearing bytes replies steps refusal conn i.hearing f in
    let x = heard s.hearing bytes in
    let caches = all_caches head s.guest x.steps (subst (λ xs. All HasCaches xs) g.steps_are h) in
    piece_by head s bytes replies steps refusal conn new told telling result g i.as_far i.part b i.safe caches
    (subst (λ r. HeardDone result head s.guest s.run r x.steps refusal new told telling) g.replies_are
    (subst (λ xs. HeardDone result head s.guest s.run replies xs refusal new told telling) g.steps_are (d s.guest s.run i.visitor)))
    ready

pub memory_served : (why : AnswerFault) (head : Head) (old new : Serving) (bytes : List ℕ) (told : Option (List ℕ)) → (s : Service) → IsServiceOf head old s
    → ServedPiece (Err why) head s bytes new told told
memory_served why head old new bytes told s i = record {
  text = [];
  written = Appends-nil told;
  is_front = λ more. record { rest = answer_of head s (bytes ++ more); joined = refl };
}

-- ---- no bytes

-- nothing is due for no bytes
nothing_due : (head : Head) (s : Service) → heard s.hearing [] ≡ silent s.hearing → written_of head s [] ≡ []
nothing_due head s still = ap (λ (x : Heard). x.replies ++ frames_by head s.guest s.run x.steps) still

service_of : (head : Head) (s : Service) (serving : Serving) → IsServiceOf head serving s → IsServiceOf head serving (service_heard head s (silent s.hearing))
service_of head s serving i = record {
  hearing = i.hearing;
  sound = i.sound;
  visitor = i.visitor;
  ready = i.ready;
  as_far = i.as_far;
  part = i.part;
  still = i.still;
  unrefused = i.unrefused;
  safe = i.safe;
}

-- and the service stands where it stood
none_served : (head : Head) (s : Service) (serving : Serving) (told : Option (List ℕ)) → IsServiceOf head serving s → PieceDone head s [] serving told told
none_served head s serving told i = record {
  is_service = subst (λ x. IsServiceOf head serving (service_heard head s x)) (sym i.still) (service_of head s serving i);
  written = subst (Appends told told) (sym (nothing_due head s i.still)) (Appends-nil told);
  unended = ap (λ (x : Heard). last_word x.steps) i.still;
  caches = subst (λ (x : Heard). ConfirmAllCaches (asked_from head s.guest x.steps)) (sym i.still) tt;
}

-- of no bytes nothing was written
none_stopped : (head : Head) (s : Service) → heard s.hearing [] ≡ silent s.hearing → IsServedFront head s [] [] []
none_stopped head s still = record {
  served_first = record { rest = []; joined = sym (ap (λ t. t ++ []) (nothing_due head s still)) };
  is_front = λ more. record { rest = answer_of head s more; joined = refl };
}

pub nothing_stopped : (head : Head) (s : Service) (now : Outside) → heard s.hearing [] ≡ silent s.hearing → ServedAFront head s now now
nothing_stopped head s now still = record {
  served = [];
  last = [];
  text = [];
  are_handed = Consumes-nil now.input.left;
  at_once = omega arith;
  written = Appends-nil now.output.told;
  front = none_stopped head s still;
}

-- ---- the next bytes

-- what a read gives is no more than its room
pub few_at_once : (n room : ℕ) (bytes : List ℕ) → n ≤ room → room ≡ read_room → length (take n bytes) ≤ read_room
few_at_once n room bytes fits is = let e = length-take n bytes in let low = min-le_left n (length bytes) in omega (arith, e, low, fits, is)

-- what is due for bytes, and then for those that are left
consumed_goes_on : (ahead left : Option (List ℕ)) (head : Head) (s : Service) (bytes : List ℕ) → Consumes ahead left bytes
    → IsAsFar (service_after head s bytes).guest (progress_of (service_after head s bytes).hearing.stage) → last_word (heard_of s bytes).steps ≡ None
    → ConfirmAllCaches (asked_of head s bytes) → Continues ahead left head s (written_of head s bytes) (service_after head s bytes)
consumed_goes_on None left head s bytes c far unended caches = tt
consumed_goes_on (Some all) None head s bytes c far unended caches = absurd c
consumed_goes_on (Some all) (Some left) head s bytes c far unended caches =
    subst (λ xs. GoesOn head s xs (written_of head s bytes) (service_after head s bytes) left) (sym c) (goes_on head s bytes left far unended caches)

consumed_ends : (ahead left : Option (List ℕ)) (head : Head) (s : Service) (bytes : List ℕ) (how : Ending) → Consumes ahead left bytes
    → IsAsFar (service_after head s bytes).guest (progress_of (service_after head s bytes).hearing.stage) → IsClosed head s bytes → ending_of head s bytes ≡ how
    → ConfirmAllCaches (asked_of head s bytes) → Tells ahead (Gives head s (answer_of head s bytes) how)
consumed_ends None left head s bytes how c far closed is caches = tt
consumed_ends (Some all) None head s bytes how c far closed is caches = absurd c
consumed_ends (Some all) (Some left) head s bytes how c far closed is caches =
    let same = closed_same head s bytes left closed far in
    subst (Gives head s (answer_of head s bytes) how) (sym c) (record { answer = same.answer; ending = same.ending ∙ is; caches = subst ConfirmAllCaches (sym same.asked) caches })

-- of the bytes of a read a front of what is due was written
consumed_front : (head : Head) (s : Service) (bytes : List ℕ) (before now : Outside) → Consumes before.input.left now.input.left bytes → length bytes ≤ read_room
    → heard s.hearing [] ≡ silent s.hearing → PieceStops head s bytes before.output.told now.output.told → ServedAFront head s before now
consumed_front head s bytes before now c few still stops = record {
  served = [];
  last = bytes;
  text = stops.text;
  are_handed = c;
  at_once = few;
  written = stops.written;
  front = record {
    served_first = record { rest = stops.text; joined = sym (ap (λ t. t ++ stops.text) (nothing_due head s still)) };
    is_front = stops.is_front;
  };
}

write_stops : (why : AnswerFault) (head : Head) (s : Service) (before now : Outside) → IsWriteFault why → ServedAFront head s before now → StopsBy why head s before now
write_stops (fault.Refused k at) head s before now f d = absurd f
write_stops fault.Truncated head s before now f d = absurd f
write_stops fault.NotInvited head s before now f d = absurd f
write_stops fault.ReadFault head s before now f d = absurd f
write_stops fault.WriteFault head s before now f d = d
write_stops fault.OutOfMemory head s before now f d = d

pub next_served : (result : Result (Option Ending) AnswerFault) (head : Head) (old new : Serving) (bytes : List ℕ) (before now : Outside)
    → Consumes before.input.left now.input.left bytes → length bytes ≤ read_room → IfErr result IsWriteFault
    → ((s : Service) → IsServiceOf head old s → ServedPiece result head s bytes new before.output.told now.output.told)
    → (s : Service) → IsServiceOf head old s → ServedNext result head s new before now
next_served (Ok None) head old new bytes before now c few f p s i = record { handed = bytes; is_handed = c; done = p s i }
next_served (Ok (Some how)) head old new bytes before now c few f p s i =
    let d = p s i in
    record {
      text = answer_of head s bytes;
      written = d.written;
      gives = consumed_ends before.input.left now.input.left head s bytes how c (far_after head s bytes i.as_far) d.closed d.is d.caches;
      number = d.number;
    }
next_served (Err why) head old new bytes before now c few f p s i = write_stops why head s before now f (consumed_front head s bytes before now c few i.still (p s i))

-- ---- the end of the stream

-- a stream that is over has no part of a packet
over_part : (h : Hearing) → heard h [] ≡ silent h → is_over h.stage ≡ true → length h.part ≡ 0
over_part h still over = ap (λ (x : Heard). length x.after.part) (sym still ∙ end_silence h [] over)

coming_within : (n : ℕ) → ending_at (end_within n) false None ≡ ending.Truncated
coming_within zero = refl
coming_within (suc n) = refl

coming_end : (s : Stage) (n : ℕ) → IsUnrefused s → ending_at (end_by s n) false None ≡ ending.Truncated
coming_end stage.Request n u = coming_within n
coming_end (stage.Initial asked) n u = coming_within n
coming_end (stage.Erect client) n u = coming_within n
coming_end (stage.Attach client) n u = coming_within n
coming_end (stage.Joins client user io) n u = coming_within n
coming_end (stage.Shares channels here) n u = coming_within n
coming_end stage.Over n u = refl
coming_end (stage.Refused k at) n u = absurd u

viewing_within : (n : ℕ) → ending_at (end_within n) true None ≡ end_of_part n
viewing_within zero = refl
viewing_within (suc n) = refl

viewing_end : (s : Stage) (n : ℕ) → IsUnrefused s → (is_over s ≡ true → n ≡ 0) → ending_at (end_by s n) true None ≡ end_of_part n
viewing_end stage.Request n u o = viewing_within n
viewing_end (stage.Initial asked) n u o = viewing_within n
viewing_end (stage.Erect client) n u o = viewing_within n
viewing_end (stage.Attach client) n u o = viewing_within n
viewing_end (stage.Joins client user io) n u o = viewing_within n
viewing_end (stage.Shares channels here) n u o = viewing_within n
viewing_end stage.Over n u o = ap end_of_part (sym (o refl))
viewing_end (stage.Refused k at) n u o = absurd u

-- how a service ends with no more bytes
last_is : (head : Head) (s : Service) → heard s.hearing [] ≡ silent s.hearing → ending_of head s [] ≡ ending_by s.guest (end_of s.hearing) None
last_is head s still = ap (λ (x : Heard). ending_by (guest_after_all head s.guest x.steps) (end_of x.after) (last_word x.steps)) still

coming_by : (head : Head) (name : List ℕ) (h : Hearing) (g : Guest) (run : Run Encoder) → IsGuest head (visitor.Coming name) g run → IsUnrefused h.stage
    → ending_by g (end_of h) None ≡ ending.Truncated
coming_by head name h (Coming other) run i u = coming_end h.stage (length h.part) u
coming_by head name h Viewing run i u = absurd i
coming_by head name h TurnedAway run i u = absurd i

viewing_by : (head : Head) (solo : Solo) (h : Hearing) (g : Guest) (run : Run Encoder) → IsGuest head (visitor.Viewing solo) g run → IsUnrefused h.stage
    → heard h [] ≡ silent h → ending_by g (end_of h) None ≡ end_of_part (length h.part)
viewing_by head solo h (Coming other) run i u still = absurd i
viewing_by head solo h Viewing run i u still = viewing_end h.stage (length h.part) u (over_part h still)
viewing_by head solo h TurnedAway run i u still = absurd i

pub coming_last : (old : Serving) (name : List ℕ) → old.visitor ≡ visitor.Coming name → (head : Head) (s : Service) → IsServiceOf head old s → ending.Truncated ≡ ending_of head s []
coming_last old name e head s i =
    sym (last_is head s i.still ∙ coming_by head name s.hearing s.guest s.run (subst (λ v. IsGuest head v s.guest s.run) e i.visitor) i.unrefused)

pub viewing_last : (old : Serving) (solo : Solo) (part : ℕ) (how : Ending) → old.visitor ≡ visitor.Viewing solo → part ≡ length old.conn.hearing.part → how ≡ end_of_part part
    → (head : Head) (s : Service) → IsServiceOf head old s → how ≡ ending_of head s []
viewing_last old solo part how e n is head s i =
    is ∙ (ap end_of_part (n ∙ ap (λ (h : Hearing). length h.part) i.hearing)
    ∙ sym (last_is head s i.still ∙ viewing_by head solo s.hearing s.guest s.run (subst (λ v. IsGuest head v s.guest s.run) e i.visitor) i.unrefused i.still))

-- such an end has no ultimatum
no_ultimatum_by : (g : Guest) (e : StreamEnd) → (g ≡ TurnedAway → ⊥) → ((k at : ℕ) → e ≡ RefusedAt k at → ⊥) → ultimatum_of (ending_by g e None) ≡ []
no_ultimatum_by (Coming name) Between a r = refl
no_ultimatum_by (Coming name) (Within n) a r = refl
no_ultimatum_by (Coming name) (RefusedAt k at) a r = absurd (r k at refl)
no_ultimatum_by Viewing Between a r = refl
no_ultimatum_by Viewing (Within n) a r = refl
no_ultimatum_by Viewing (RefusedAt k at) a r = absurd (r k at refl)
no_ultimatum_by TurnedAway e a r = absurd (a refl)

unrefused_within : (n k at : ℕ) → end_within n ≡ RefusedAt k at → ⊥
unrefused_within zero k at e = cc e
unrefused_within (suc n) k at e = cc e

unrefused_end : (s : Stage) (n k at : ℕ) → IsUnrefused s → end_by s n ≡ RefusedAt k at → ⊥
unrefused_end stage.Request n k at u e = unrefused_within n k at e
unrefused_end (stage.Initial asked) n k at u e = unrefused_within n k at e
unrefused_end (stage.Erect client) n k at u e = unrefused_within n k at e
unrefused_end (stage.Attach client) n k at u e = unrefused_within n k at e
unrefused_end (stage.Joins client user io) n k at u e = unrefused_within n k at e
unrefused_end (stage.Shares channels here) n k at u e = unrefused_within n k at e
unrefused_end stage.Over n k at u e = cc e
unrefused_end (stage.Refused j place) n k at u e = u

guest_is_here : (head : Head) (who : Visitor) (g : Guest) (run : Run Encoder) → IsGuest head who g run → g ≡ TurnedAway → ⊥
guest_is_here head (visitor.Coming name) (Coming other) run i e = cc e
guest_is_here head (visitor.Viewing solo) (Coming other) run i e = cc e
guest_is_here head (visitor.Coming name) Viewing run i e = cc e
guest_is_here head (visitor.Viewing solo) Viewing run i e = cc e
guest_is_here head (visitor.Coming name) TurnedAway run i e = i
guest_is_here head (visitor.Viewing solo) TurnedAway run i e = i

last_text : (head : Head) (old : Serving) (s : Service) → IsServiceOf head old s → answer_of head s [] ≡ []
last_text head old s i =
    let written = nothing_due head s i.still in
    let ultimatum : ultimatum_of (ending_of head s []) ≡ [] = ap ultimatum_of (last_is head s i.still)
    ∙ no_ultimatum_by s.guest (end_of s.hearing) (guest_is_here head old.visitor s.guest s.run i.visitor)
    (λ k at e. unrefused_end s.hearing.stage (length s.hearing.part) k at i.unrefused e) in
    ap (λ xs. xs ++ ultimatum_of (ending_of head s [])) written ∙ ultimatum

last_asked : (head : Head) (s : Service) → heard s.hearing [] ≡ silent s.hearing → asked_of head s [] ≡ []
last_asked head s still = ap (λ (x : Heard). asked_from head s.guest x.steps) still

none_ahead : (ahead : Option (List ℕ)) (head : Head) (old : Serving) (s : Service) (how : Ending) → IsAtEnd ahead → IsServiceOf head old s → how ≡ ending_of head s []
    → Tells ahead (Gives head s [] how)
none_ahead None head old s how end i e = tt
none_ahead (Some bytes) head old s how end i e = subst (Gives head s [] how) (sym end) (record {
  answer = last_text head old s i;
  ending = sym e;
  caches = subst ConfirmAllCaches (sym (last_asked head s i.still)) tt;
})

pub end_served : (how : Ending) (head : Head) (old new : Serving) (i j : Input) (o : Output) → IsAtEnd i.left
    → ((head : Head) (s : Service) → IsServiceOf head old s → how ≡ ending_of head s []) → (s : Service) → IsServiceOf head old s
    → ServedNext (Ok (Some how)) head s new (outside i o) (outside j o)
end_served how head old new i j o end is s service = record {
  text = [];
  written = Appends-nil o.told;
  gives = none_ahead i.left head old s how end service (is head s service);
  number = subst IsNumbered (sym (is head s service)) (service_numbered head s [] service.safe);
}

-- a read that failed
pub failed_served : (head : Head) (old new : Serving) (i j : Input) (o : Output) → Keeps i.left j.left → (s : Service) → IsServiceOf head old s
    → ServedNext (Err fault.ReadFault) head s new (outside i o) (outside j o)
failed_served head old new i j o kept s service = (kept, Keeps-refl o.told)

-- ---- the whole stream

-- some of a service, and then more
some_joined : (head : Head) (s : Service) (bytes more : List ℕ) (old new : Serving) (told some telling : Option (List ℕ)) → PieceDone head s bytes old told some
    → PieceDone head (service_after head s bytes) more new some telling → PieceDone head s (bytes ++ more) new told telling
some_joined head s bytes more old new told some telling c d =
    let t = service_after head s bytes in
    record {
      is_service = subst (IsServiceOf head new) (sym (service_joined head s bytes more)) d.is_service;
      written = subst (Appends told telling) (sym (written_joined head s bytes more c.is_service.as_far))
          (Appends-trans told some telling (written_of head s bytes) (written_of head t more) c.written d.written);
      unended = unended_joined head s bytes more c.unended d.unended;
      caches = all_caches_joined head s bytes more c.caches d.caches;
    }

gives_joined : (ahead mid : Option (List ℕ)) (head : Head) (s t : Service) (text more : List ℕ) (how : Ending) → Continues ahead mid head s text t → Tells mid (Gives head t more how)
    → Tells ahead (Gives head s (text ++ more) how)
gives_joined None mid head s t text more how c d = tt
gives_joined (Some all) None head s t text more how c d = absurd c
gives_joined (Some all) (Some rest) head s t text more how c d = record { answer = c.answer ∙ ap (λ xs. text ++ xs) d.answer; ending = c.ending ∙ d.ending; caches = c.caches d.caches }

all_joined : (head : Head) (s : Service) (bytes : List ℕ) (how : Ending) (old : Serving) (before mid : Outside) (telling : Option (List ℕ))
    → Consumes before.input.left mid.input.left bytes → PieceDone head s bytes old before.output.told mid.output.told → ServedAll head (service_after head s bytes) how mid telling
    → ServedAll head s how before telling
all_joined head s bytes how old before mid telling k c d =
    let t = service_after head s bytes in
    record {
      text = written_of head s bytes ++ d.text;
      written = Appends-trans before.output.told mid.output.told telling (written_of head s bytes) d.text c.written d.written;
      gives = gives_joined before.input.left mid.input.left head s t (written_of head s bytes) d.text how
          (consumed_goes_on before.input.left mid.input.left head s bytes k c.is_service.as_far c.unended c.caches) d.gives;
      number = d.number;
    }

-- what is due for bytes that were served, and then a front of what is due for others
module _ (head : Head) (s : Service) (bytes served last text : List ℕ)
    (far : IsAsFar (service_after head s bytes).guest (progress_of (service_after head s bytes).hearing.stage))
    (unended : last_word (heard_of s bytes).steps ≡ None) (caches : ConfirmAllCaches (asked_of head s bytes)) where
  first_joined : IsFront (written_of head (service_after head s bytes) served) text → IsFront (written_of head s (bytes ++ served)) (written_of head s bytes ++ text)
  first_joined f =
      let t = service_after head s bytes in
      record {
        rest = f.rest;
        joined = ap (λ xs. written_of head s bytes ++ xs) f.joined
            ∙ (sym (append_assoc (written_of head s bytes) (written_of head t served) f.rest)
            ∙ ap (λ xs. xs ++ f.rest) (sym (written_joined head s bytes served far)));
      }

  more_joined : (more : List ℕ) → IsFront text (answer_of head (service_after head s bytes) ((served ++ last) ++ more))
      → IsFront (written_of head s bytes ++ text) (answer_of head s (((bytes ++ served) ++ last) ++ more))
  more_joined more f =
      let same : ((bytes ++ served) ++ last) ++ more ≡ bytes ++ ((served ++ last) ++ more) =
      ap (λ xs. xs ++ more) (append_assoc bytes served last) ∙ append_assoc bytes (served ++ last) more in
      record {
        rest = f.rest;
        joined = ap (answer_of head s) same
            ∙ ((goes_on head s bytes ((served ++ last) ++ more) far unended caches).answer
            ∙ (ap (λ xs. written_of head s bytes ++ xs) f.joined ∙ sym (append_assoc (written_of head s bytes) text f.rest)));
      }

  served_joined : IsServedFront head (service_after head s bytes) served last text → IsServedFront head s (bytes ++ served) last (written_of head s bytes ++ text)
  served_joined f = record { served_first = first_joined f.served_first; is_front = λ more. more_joined more (f.is_front more) }

front_joined : (head : Head) (s : Service) (bytes : List ℕ) (old : Serving) (before mid now : Outside) → Consumes before.input.left mid.input.left bytes
    → PieceDone head s bytes old before.output.told mid.output.told → ServedAFront head (service_after head s bytes) mid now → ServedAFront head s before now
front_joined head s bytes old before mid now k c d = record {
  served = bytes ++ d.served;
  last = d.last;
  text = written_of head s bytes ++ d.text;
  are_handed = subst (Consumes before.input.left now.input.left) (sym (append_assoc bytes d.served d.last))
      (Consumes-trans before.input.left mid.input.left now.input.left bytes (d.served ++ d.last) k d.are_handed);
  at_once = d.at_once;
  written = Appends-trans before.output.told mid.output.told now.output.told (written_of head s bytes) d.text c.written d.written;
  front = served_joined head s bytes d.served d.last d.text c.is_service.as_far c.unended c.caches d.front;
}

-- ---- the answer

stream_by : (size : Size) (owner : List ℕ) (how : Ending) (why : Option AnswerFault) (ahead told telling : Option (List ℕ)) (text : List ℕ) → HasSessionSize (owners_head size owner) → fault_of how ≡ why
    → Appends told telling text → Tells ahead (Gives (owners_head size owner) (first_service size) text how)
    → Tells ahead (λ stream. ServesStream size owner why stream told telling)
stream_by size owner how why None told telling text sized is w g = tt
stream_by size owner how why (Some stream) told telling text sized is w g = record {
  ends = ap fault_of g.ending ∙ is;
  written = subst (Appends told telling) (sym g.answer) w;
  shows_journal = client_sees size owner [] (heard_of (first_service size) stream).steps sized g.caches;
}

no_fault : (how : Ending) (why : AnswerFault) → IsFault why → fault_of how ≡ Some why → ⊥
no_fault ending.Left why f e = cc e
no_fault ending.AskedForEnd why f e = cc e
no_fault (ending.Refused k at) (fault.Refused j place) f e = f
no_fault (ending.Refused k at) fault.Truncated f e = f
no_fault (ending.Refused k at) fault.NotInvited f e = f
no_fault (ending.Refused k at) fault.ReadFault f e = cc e
no_fault (ending.Refused k at) fault.WriteFault f e = cc e
no_fault (ending.Refused k at) fault.OutOfMemory f e = cc e
no_fault ending.Truncated (fault.Refused j place) f e = f
no_fault ending.Truncated fault.Truncated f e = f
no_fault ending.Truncated fault.NotInvited f e = f
no_fault ending.Truncated fault.ReadFault f e = cc e
no_fault ending.Truncated fault.WriteFault f e = cc e
no_fault ending.Truncated fault.OutOfMemory f e = cc e
no_fault ending.NotInvited (fault.Refused j place) f e = f
no_fault ending.NotInvited fault.Truncated f e = f
no_fault ending.NotInvited fault.NotInvited f e = f
no_fault ending.NotInvited fault.ReadFault f e = cc e
no_fault ending.NotInvited fault.WriteFault f e = cc e
no_fault ending.NotInvited fault.OutOfMemory f e = cc e

pub answered : (result : Result (Unit {0}) AnswerFault) (size : Size) (owner : List ℕ) (how : Ending) (before : Outside) (telling : Option (List ℕ)) → HasSessionSize (owners_head size owner)
    → IsAnswerOf result how → ServedAll (owners_head size owner) (first_service size) how before telling → (left : Option (List ℕ))
    → RunsAnswer result size owner before.input.left left before.output.told telling
answered (Ok x) size owner how before telling sized is d left = stream_by size owner how None before.input.left before.output.told telling d.text sized is d.written d.gives
answered (Err (fault.Refused k at)) size owner how before telling sized is d left =
    stream_by size owner how (Some (fault.Refused k at)) before.input.left before.output.told telling d.text sized is d.written d.gives
answered (Err fault.Truncated) size owner how before telling sized is d left =
    stream_by size owner how (Some fault.Truncated) before.input.left before.output.told telling d.text sized is d.written d.gives
answered (Err fault.NotInvited) size owner how before telling sized is d left =
    stream_by size owner how (Some fault.NotInvited) before.input.left before.output.told telling d.text sized is d.written d.gives
answered (Err fault.ReadFault) size owner how before telling sized is d left = absurd (no_fault how fault.ReadFault tt is)
answered (Err fault.WriteFault) size owner how before telling sized is d left = absurd (no_fault how fault.WriteFault tt is)
answered (Err fault.OutOfMemory) size owner how before telling sized is d left = absurd (no_fault how fault.OutOfMemory tt is)

-- a front where the stream is told
front_by : (size : Size) (owner : List ℕ) (ahead left told telling : Option (List ℕ)) (served last text : List ℕ) → HasSessionSize (owners_head size owner)
    → Consumes ahead left (served ++ last) → length last ≤ read_room → Appends told telling text → IsServedFront (owners_head size owner) (first_service size) served last text
    → Tells ahead (λ stream. WritesAFront size owner stream left told telling)
front_by size owner None left told telling served last text sized k few w d = tt
front_by size owner (Some stream) None told telling served last text sized k few w d = absurd k
front_by size owner (Some stream) (Some rest) told telling served last text sized k few w d =
    let head = owners_head size owner in
    let f = d.is_front rest in
    record {
      served = served;
      last = last;
      text = text;
      are_handed = k;
      at_once = few;
      written = w;
      served_first = d.served_first;
      for_handed = subst (λ xs. IsFront text (answer_of head (first_service size) xs)) (append-nil (served ++ last)) (d.is_front []);
      is_answer = front_shows size owner stream text sized (subst (λ xs. IsFront text (answer_of head (first_service size) xs)) (sym k) f);
    }

fronts_by : (size : Size) (owner : List ℕ) (before now : Outside) → HasSessionSize (owners_head size owner) → ServedAFront (owners_head size owner) (first_service size) before now
    → Tells before.input.left (λ stream. WritesAFront size owner stream now.input.left before.output.told now.output.told)
fronts_by size owner before now sized d =
    front_by size owner before.input.left now.input.left before.output.told now.output.told d.served d.last d.text sized d.are_handed d.at_once d.written d.front

-- bytes behind which the code stands for a service bring no end
said_within : (n : ℕ) (word : Option Ending) → end_said (end_within n) word ≡ word
said_within zero word = refl
said_within (suc n) word = refl

said_by : (here : Stage) (n : ℕ) (word : Option Ending) → IsUnrefused here → end_said (end_by here n) word ≡ word
said_by stage.Request n word u = said_within n word
said_by (stage.Initial asked) n word u = said_within n word
said_by (stage.Erect client) n word u = said_within n word
said_by (stage.Attach client) n word u = said_within n word
said_by (stage.Joins client user io) n word u = said_within n word
said_by (stage.Shares channels here) n word u = said_within n word
said_by stage.Over n word u = refl
said_by (stage.Refused k at) n word u = absurd u

no_end_by : (g : Guest) (here : Stage) (n : ℕ) (word : Option Ending) → (g ≡ TurnedAway → ⊥) → IsUnrefused here → word ≡ None → end_met g (end_by here n) word ≡ None
no_end_by (Coming name) here n word a u e = said_by here n word u ∙ e
no_end_by Viewing here n word a u e = said_by here n word u ∙ e
no_end_by TurnedAway here n word a u e = absurd (a refl)

no_end_yet : (head : Head) (s : Service) (bytes : List ℕ) (serving : Serving) (told some : Option (List ℕ)) → PieceDone head s bytes serving told some → end_so_far head s bytes ≡ None
no_end_yet head s bytes serving told some c =
    let t = service_after head s bytes in
    let i = c.is_service in
    no_end_by t.guest t.hearing.stage (length t.hearing.part) (last_word (heard_of s bytes).steps) (guest_is_here head serving.visitor t.guest t.run i.visitor) i.unrefused c.unended

-- exactly what is due where the stream is told
handed_by : (size : Size) (owner bytes : List ℕ) (serving : Serving) (ahead left told telling : Option (List ℕ)) → HasSessionSize (owners_head size owner) → Consumes ahead left bytes
    → Appends told telling (written_of (owners_head size owner) (first_service size) bytes)
    → (some : Option (List ℕ)) → PieceDone (owners_head size owner) (first_service size) bytes serving told some
    → Tells ahead (λ stream. WritesHandedBytes size owner stream left told telling)
handed_by size owner bytes serving None left told telling sized k w some c = tt
handed_by size owner bytes serving (Some stream) None told telling sized k w some c = absurd k
handed_by size owner bytes serving (Some stream) (Some rest) told telling sized k w some c =
    let head = owners_head size owner in
    let s = first_service size in
    let whole : answer_of head s stream ≡ written_of head s bytes ++ answer_of head (service_after head s bytes) rest =
    ap (answer_of head s) k ∙ (goes_on head s bytes rest c.is_service.as_far c.unended c.caches).answer in
    record {
      handed = bytes;
      is_handed = k;
      written = w;
      goes_on = no_end_yet head s bytes serving told some c;
      shows_journal = client_sees size owner [] (heard_of s bytes).steps sized c.caches;
      is_answer = front_shows size owner stream (written_of head s bytes) sized (record { rest = answer_of head (service_after head s bytes) rest; joined = whole });
    }

pub stopped : (why : AnswerFault) (size : Size) (owner bytes : List ℕ) (serving : Serving) (before mid now : Outside) → HasSessionSize (owners_head size owner)
    → Consumes before.input.left mid.input.left bytes → PieceDone (owners_head size owner) (first_service size) bytes serving before.output.told mid.output.told
    → StopsBy why (owners_head size owner) (service_after (owners_head size owner) (first_service size) bytes) mid now
    → RunsAnswer (Err why) size owner before.input.left now.input.left before.output.told now.output.told
stopped (fault.Refused j at) size owner bytes serving before mid now sized k c d = absurd d
stopped fault.Truncated size owner bytes serving before mid now sized k c d = absurd d
stopped fault.NotInvited size owner bytes serving before mid now sized k c d = absurd d
stopped fault.ReadFault size owner bytes serving before mid now sized k c d =
    let head = owners_head size owner in
    let text = written_of head (first_service size) bytes in
    handed_by size owner bytes serving before.input.left now.input.left before.output.told now.output.told sized (Consumes-kept before.input.left mid.input.left now.input.left bytes k d.0)
    (Appends-kept before.output.told mid.output.told now.output.told text c.written d.1) mid.output.told c
stopped fault.WriteFault size owner bytes serving before mid now sized k c d =
    fronts_by size owner before now sized (front_joined (owners_head size owner) (first_service size) bytes serving before mid now k c d)
stopped fault.OutOfMemory size owner bytes serving before mid now sized k c d =
    fronts_by size owner before now sized (front_joined (owners_head size owner) (first_service size) bytes serving before mid now k c d)

-- an answer has its number
pub number_answered : (result : Result (Unit {0}) AnswerFault) (how : Ending) → IsAnswerOf result how → IsNumbered how → IfErr result IsNumberedFault
number_answered (Ok x) how is n = tt
number_answered (Err (fault.Refused k at)) ending.Left is n = absurd (cc is)
number_answered (Err (fault.Refused k at)) ending.AskedForEnd is n = absurd (cc is)
number_answered (Err (fault.Refused k at)) (ending.Refused j place) is n = let same : j ≡ k = cc in subst IsRefusalNumber same n
number_answered (Err (fault.Refused k at)) ending.Truncated is n = absurd (cc is)
number_answered (Err (fault.Refused k at)) ending.NotInvited is n = absurd (cc is)
number_answered (Err fault.Truncated) how is n = tt
number_answered (Err fault.NotInvited) how is n = tt
number_answered (Err fault.ReadFault) how is n = tt
number_answered (Err fault.WriteFault) how is n = tt
number_answered (Err fault.OutOfMemory) how is n = tt

-- ---- the loop

pub went_on_first : (head : Head) (s : Service) (serving : Serving) (now : Outside) → IsServiceOf head serving s → WentOn head s serving now now
went_on_first head s serving now i = record { handed = []; is_handed = Consumes-nil now.input.left; done = none_served head s serving now.output.told i }

module _ (head : Head) (s : Service) (old new : Serving) (before mid now : Outside) (w : WentOn head s old before mid) where
  pub went_further : ((t : Service) → IsServiceOf head old t → ServedNext (Ok None) head t new mid now) → WentOn head s new before now
  went_further d =
      let n = d (service_after head s w.handed) w.done.is_service in
      record {
        handed = w.handed ++ n.handed;
        is_handed = Consumes-trans before.input.left mid.input.left now.input.left w.handed n.handed w.is_handed n.is_handed;
        done = some_joined head s w.handed n.handed old new before.output.told mid.output.told now.output.told w.done n.done;
      }

  pub ended_at : (how : Ending) → ((t : Service) → IsServiceOf head old t → ServedNext (Ok (Some how)) head t new mid now) → ServedAll head s how before now.output.told
  ended_at how d = all_joined head s w.handed how old before mid now.output.told w.is_handed w.done (d (service_after head s w.handed) w.done.is_service)

-- a fault ended it
pub stopped_at : (why : AnswerFault) (size : Size) (owner : List ℕ) (old new : Serving) (before mid now : Outside) → HasSessionSize (owners_head size owner)
    → WentOn (owners_head size owner) (first_service size) old before mid
    → ((t : Service) → IsServiceOf (owners_head size owner) old t → ServedNext (Err why) (owners_head size owner) t new mid now)
    → RunsAnswer (Err why) size owner before.input.left now.input.left before.output.told now.output.told
stopped_at why size owner old new before mid now sized w d =
    stopped why size owner w.handed old before mid now sized w.is_handed w.done (d (service_after (owners_head size owner) (first_service size) w.handed) w.done.is_service)

pub no_more_reads : (size : Size) (owner : List ℕ) (old : Serving) (before now : Outside) → HasSessionSize (owners_head size owner)
    → WentOn (owners_head size owner) (first_service size) old before now
    → RunsAnswer (Err fault.OutOfMemory) size owner before.input.left now.input.left before.output.told now.output.told
no_more_reads size owner old before now sized w =
    stopped fault.OutOfMemory size owner w.handed old before now now sized w.is_handed w.done
    (nothing_stopped (owners_head size owner) (service_after (owners_head size owner) (first_service size) w.handed) now w.done.is_service.still)

-- a service before the first byte
still_first : (size : Size) → heard (first_service size).hearing [] ≡ silent (first_service size).hearing
unfolding heard
still_first size = refl

-- nothing was done
pub nothing_done : (size : Size) (owner : List ℕ) (ahead told : Option (List ℕ)) → RunsAnswer (Err fault.OutOfMemory) size owner ahead ahead told told
nothing_done size owner None told = tt
nothing_done size owner (Some stream) told =
    let none = none_stopped (owners_head size owner) (first_service size) (still_first size) in
    record {
      served = [];
      last = [];
      text = [];
      are_handed = refl;
      at_once = omega arith;
      written = Appends-nil told;
      served_first = none.served_first;
      for_handed = none.is_front [];
      is_answer = nothing_shows size owner stream;
    }

pub starts : (size : Size) (owner : List ℕ) (conn : ConnOf) (name : List ℕ) → conn ≡ record { hearing = (first_service size).hearing; spent = false } → name ≡ []
    → IsServiceOf (owners_head size owner) (serving_of conn (visitor.Coming name)) (first_service size)
starts size owner conn name is none = record {
  hearing = ap (λ (c : ConnOf). c.hearing) is;
  sound = ap (λ (c : ConnOf). c.spent) is;
  visitor = (none, refl);
  ready = tt;
  as_far = tt;
  part = All-nil (λ b. b < 256);
  still = still_first size;
  unrefused = tt;
  safe = tt;
}

-- ---- causes

pub fault_on : (r : Result (Option Ending) AnswerFault) → IfErr r IsWriteFault → IfErr r IsFault
fault_on (Ok how) f = tt
fault_on (Err (fault.Refused k at)) f = absurd f
fault_on (Err fault.Truncated) f = absurd f
fault_on (Err fault.NotInvited) f = absurd f
fault_on (Err fault.ReadFault) f = absurd f
fault_on (Err fault.WriteFault) f = tt
fault_on (Err fault.OutOfMemory) f = tt

-- what doesn't read leaves the count of the input
pub read_kept : (r : Result (Option Ending) AnswerFault) (before now : ℕ) → IfErr r IsWriteFault → now ≡ before → ReadsCause r before now
read_kept (Ok how) before now f e = e
read_kept (Err (fault.Refused k at)) before now f e = e
read_kept (Err fault.Truncated) before now f e = e
read_kept (Err fault.NotInvited) before now f e = e
read_kept (Err fault.ReadFault) before now f e = absurd f
read_kept (Err fault.WriteFault) before now f e = e
read_kept (Err fault.OutOfMemory) before now f e = e

pub answer_reads : (r : Result (Unit {0}) AnswerFault) (how : Ending) (before now : ℕ) → IsAnswerOf r how → now ≡ before → ReadsCause r before now
answer_reads (Ok x) how before now a e = e
answer_reads (Err (fault.Refused k at)) how before now a e = e
answer_reads (Err fault.Truncated) how before now a e = e
answer_reads (Err fault.NotInvited) how before now a e = e
answer_reads (Err fault.ReadFault) how before now a e = absurd (no_fault how fault.ReadFault tt a)
answer_reads (Err fault.WriteFault) how before now a e = e
answer_reads (Err fault.OutOfMemory) how before now a e = e

pub answer_writes : (r : Result (Unit {0}) AnswerFault) (how : Ending) (before now : ℕ) → IsAnswerOf r how → now ≡ before → WritesCause r before now
answer_writes (Ok x) how before now a e = e
answer_writes (Err (fault.Refused k at)) how before now a e = e
answer_writes (Err fault.Truncated) how before now a e = e
answer_writes (Err fault.NotInvited) how before now a e = e
answer_writes (Err fault.ReadFault) how before now a e = e
answer_writes (Err fault.WriteFault) how before now a e = absurd (no_fault how fault.WriteFault tt a)
answer_writes (Err fault.OutOfMemory) how before now a e = e

-- the causes of a fault, of whatever it is the answer
pub reads_on : (why : AnswerFault) (before now : ℕ) → ReadsCause {T = Option Ending} (Err why) before now → ReadsCause {T = Unit {0}} (Err why) before now
reads_on (fault.Refused k at) before now c = c
reads_on fault.Truncated before now c = c
reads_on fault.NotInvited before now c = c
reads_on fault.ReadFault before now c = c
reads_on fault.WriteFault before now c = c
reads_on fault.OutOfMemory before now c = c

pub writes_on : (why : AnswerFault) (before now : ℕ) → WritesCause {T = Option Ending} (Err why) before now → WritesCause {T = Unit {0}} (Err why) before now
writes_on (fault.Refused k at) before now c = c
writes_on fault.Truncated before now c = c
writes_on fault.NotInvited before now c = c
writes_on fault.ReadFault before now c = c
writes_on fault.WriteFault before now c = c
writes_on fault.OutOfMemory before now c = c
