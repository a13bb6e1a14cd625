-- What a seat has sent after its take and the take's bytes.
use Rattle.std.proofs.Common.{◌≡◌, ℕ, ◌+◌, List, [], ◌++◌, length, refl, ap, sym, ◌∙◌, subst}
use Rattle.std.specs.Prelude.{Bool, true, false, Option, Some, None}
use Rattle.caps_sets.specs.declared.confirmed.Confirmed.{Confirmed}
use Rattle.frame_rules.specs.Frame.{FrameOf}
use Rattle.frame_rules.specs.FrameBytes.{frame_bytes}
use Rattle.frame_rules.specs.Told.{key_at, pointer_bytes}
use Rattle.frame_rules.specs.Encoder.{Encoder, first_encoder, encoder_after_frame}
use Rattle.session_rules.specs.Journal.{Head}
use Rattle.session_core.specs.SessionModel.{SessionModel}
use Rattle.frame_plan.specs.Takes.{TakeModel, taken_as}
use Rattle.frame_plan.specs.Plans.{frame_at, taken_at, taken_if, desk_if}
use Rattle.frame_plan.specs.declared.taken.Taken.TheVariants.{Frame, Nothing}
use Rattle.pointer_share.specs.Desk.{DeskOf, IsDeskOf, IsNoted, noted_with}
use Rattle.pointer_share.proofs.Desks.{desk_noted, is_noted}
use Rattle.viewer_sender.specs.Senders.{SenderModel, StandsFor, IsIdle, desk_of, with_desk, with_encoded}
use Rattle.viewer_sender.specs.Seats.{SeatModel, IsNewSeat, SeatFollows, key_of, IsEncoded, encoder_if, HasSent}

abbrev seat_of : SenderModel → Option DeskOf → SeatModel
seat_of sender desk = record { sender = sender; desk = desk }

-- a session that has the same journal shows the same pointer
pub same_key : (old new : SessionModel) → new.head ≡ old.head → new.journal ≡ old.journal → key_of new ≡ key_of old
same_key old new head journal = ap (λ (hd : Head). key_at hd.size new.journal (length new.journal)) head ∙ ap (λ j. key_at old.head.size j (length j)) journal

-- a new seat follows the encoder before the first frame
pub new_follows : (v : ℕ) (c : Confirmed) (s : SeatModel) → IsNewSeat v c s → SeatFollows s first_encoder
new_follows v c s new = ((new.stands, new.held), subst (λ k. IsDeskOf k [] s.desk) (sym new.confirmed) new.desk)

-- a take that found no work
pub sent_nothing : (work : Bool) (session : SessionModel) (old new : SeatModel) → Nothing ≡ taken_if work session (desk_of old.sender)
    → new.sender ≡ with_desk old.sender (desk_if work session (desk_of old.sender)) → new.desk ≡ old.desk → IsIdle old.sender → HasSent work session old new None
sent_nothing true session old new taken sender desk idle = absurd (cc taken)
sent_nothing false session old new taken sender desk idle =
    let same : new ≡ old = ap (λ s. seat_of s new.desk) sender ∙ ap (seat_of old.sender) desk in
    record {
      frame = λ e follows. refl;
      follows = λ e follows. subst (λ (s : SeatModel). SeatFollows s e) (sym same) follows;
      left = λ none. same;
      viewer = ap (λ (s : SenderModel). s.v) sender;
      confirmed = ap (λ (s : SenderModel). s.confirmed) sender;
      number = ap (λ (s : SenderModel). s.number) sender;
      idle = subst IsIdle (sym sender) idle;
    }

-- a take with work holds what is due, and comes next
pub record IsDue (work : Bool) (session : SessionModel) (old : SenderModel) (take : TakeModel) : Type 0 where
  pub some : work ≡ true
  pub is : take ≡ taken_at session (desk_of old)

pub is_due : (work : Bool) (session : SessionModel) (old : SenderModel) (take : TakeModel) → Frame take ≡ taken_if work session (desk_of old) → IsDue work session old take
is_due true session old take taken = record { some = refl; is = cc taken }
is_due false session old take taken = absurd (cc taken)

module _ (session : SessionModel) (old mid new : SeatModel) (take : TakeModel) (out : List ℕ) where
  abbrev with_taken : SenderModel
  with_taken = with_desk old.sender (desk_if true session (desk_of old.sender))

  abbrev found : FrameOf
  found = frame_at session (desk_of old.sender)

  -- the frame of the take, of a sender after it
  frame_due : (s : SenderModel) (frame : List ℕ) → s ≡ with_taken → take ≡ taken_at session (desk_of old.sender)
      → ((e : Encoder) (g : FrameOf) → StandsFor s e → take.frame ≡ taken_as take.size g → frame ≡ frame_bytes take.size s.confirmed e.registers e.uses g)
      → (e : Encoder) → StandsFor old.sender e → frame ≡ frame_bytes session.head.size old.sender.confirmed e.registers e.uses found
  frame_due s frame is due bytes e stands =
      (subst (λ (k : TakeModel). (e : Encoder) (g : FrameOf) → StandsFor with_taken e → k.frame ≡ taken_as k.size g
      → frame ≡ frame_bytes k.size with_taken.confirmed e.registers e.uses g) due
      (subst (λ (m : SenderModel). (e : Encoder) (g : FrameOf) → StandsFor m e → take.frame ≡ taken_as take.size g
      → frame ≡ frame_bytes take.size m.confirmed e.registers e.uses g) is bytes))
      e found (record { registers = stands.registers; caches = stands.caches }) refl

  -- the encoder after it
  encoder_due : (s : SenderModel) → s ≡ with_taken → take ≡ taken_at session (desk_of old.sender)
      → ((e : Encoder) (g : FrameOf) → StandsFor s e → take.frame ≡ taken_as take.size g → StandsFor new.sender (encoder_after_frame take.size s.confirmed e g))
      → (e : Encoder) → StandsFor old.sender e → StandsFor new.sender (encoder_after_frame session.head.size old.sender.confirmed e found)
  encoder_due s is due after e stands =
      (subst (λ (k : TakeModel). (e : Encoder) (g : FrameOf) → StandsFor with_taken e → k.frame ≡ taken_as k.size g
      → StandsFor new.sender (encoder_after_frame k.size with_taken.confirmed e g)) due
      (subst (λ (m : SenderModel). (e : Encoder) (g : FrameOf) → StandsFor m e → take.frame ≡ taken_as take.size g
      → StandsFor new.sender (encoder_after_frame take.size m.confirmed e g)) is after))
      e found (record { registers = stands.registers; caches = stands.caches }) refl

  -- a frame that was taken and encoded, and its pointer told
  pub sent_frame : (work : Bool) → IsDue work session old.sender take → mid.sender ≡ with_desk old.sender (desk_if work session (desk_of old.sender))
      → mid.desk ≡ noted_with (key_of session) old.desk → IsIdle old.sender → IsEncoded mid new take out
      → ((e : Encoder) (g : FrameOf) → StandsFor mid.sender e → take.frame ≡ taken_as take.size g
      → StandsFor new.sender (encoder_after_frame take.size mid.sender.confirmed e g))
      → new.sender ≡ with_encoded mid.sender new.sender.registers new.sender.caches → HasSent work session old new (Some out)
  sent_frame false due is desk idle made after rest = absurd (cc due.some)
  sent_frame true due is desk idle made after rest =
      let key = key_of session in
      let noted : IsNoted mid.desk key = subst (λ d. IsNoted d key) (sym desk) (is_noted key old.desk) in
      let still : (e : Encoder) → SeatFollows old e → IsDeskOf old.sender.confirmed e.told mid.desk =
      λ e h. subst (IsDeskOf old.sender.confirmed e.told) (sym desk) (desk_noted old.sender.confirmed e.told key old.desk h.1) in
      let confirmed : new.sender.confirmed ≡ old.sender.confirmed = ap (λ (s : SenderModel). s.confirmed) rest ∙ ap (λ (s : SenderModel). s.confirmed) is in
      record {
        frame = λ e h. ap Some (made.pointed.whole
            ∙ (ap (λ p. p ++ made.frame) (made.pointed.tells old.sender.confirmed e.told key (still e h) noted)
            ∙ ap (λ b. pointer_bytes old.sender.confirmed e.told key ++ b) (frame_due mid.sender made.frame is due.is made.bytes e h.0.0)));
        follows = λ e h.
            let stands = encoder_due mid.sender is due.is after e h.0.0 in
            let told = made.pointed.leads old.sender.confirmed e.told key (still e h) noted in (
              (record { registers = stands.registers; caches = stands.caches }, ap (λ (s : SenderModel). s.held) rest ∙ ap (λ (s : SenderModel). s.held) is),
              subst (λ c. IsDeskOf c (encoder_if true session old.sender e).told new.desk) (sym confirmed) told,
            );
        left = λ none. absurd (cc none);
        viewer = ap (λ (s : SenderModel). s.v) rest ∙ ap (λ (s : SenderModel). s.v) is;
        confirmed = confirmed;
        number = ap (λ (s : SenderModel). s.number) rest ∙ ap (λ (s : SenderModel). s.number) is;
        idle = record {
          all = ap (λ (s : SenderModel). s.encoded) rest ∙ (ap (λ (s : SenderModel). s.encoded + 1) is ∙ (ap (λ n. n + 1) idle.all
              ∙ (sym (ap (λ (s : SenderModel). s.taken) is) ∙ sym (ap (λ (s : SenderModel). s.taken) rest))));
          sound = ap (λ (s : SenderModel). s.spent) rest ∙ (ap (λ (s : SenderModel). s.spent) is ∙ idle.sound);
        };
      }
