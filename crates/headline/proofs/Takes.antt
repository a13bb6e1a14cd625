-- From the promise of one frame to the stream of a viewer's takes.
use Rattle.std.proofs.Common.{◌≡◌, ℕ, ◌+◌, ◌≤◌, List, [], ◌∷◌, ◌++◌, length, map, ap, sym, ◌∙◌, subst, arith, append_assoc, append-nil, Some, None}
use Rattle.std.specs.Prelude.{true, Option, Result, Ok, Err}
use Rattle.px_core.specs.declared.surface.Size.{Size}
use Rattle.px_core.specs.Depth.{seen}
use Rattle.px_core.specs.Rectangle.{is_session_size}
use Rattle.caps_sets.specs.declared.confirmed.Confirmed.{Confirmed}
use Rattle.caps_sets.specs.Confirmed.{depth_of, takes_fast}
use Rattle.session_rules.specs.declared.entry.Entry.{Entry}
use Rattle.session_rules.specs.Journal.{Head, state_after, IsLegalJournal}
use Rattle.session_rules.specs.Steps.{TakeOf, TakesFollow}
use Rattle.wire_num.specs.Field.{bind}
use Rattle.order_means.specs.Updates.{Cutting, cutting, updates_from, refusal_in}
use Rattle.order_means.specs.Updates.Stage.{Between}
use Rattle.order_means.specs.FrameMarks.{View, Refusal, ClientReading, first_view, reading, first_reading, unless_refused_at, read_on, read_stream, view_after_bodies, EndsBetween}
use Rattle.frame_rules.specs.FrameBytes.{joined_bytes}
use Rattle.frame_rules.specs.FrameRead.{Reads}
use Rattle.frame_rules.specs.Encoder.{Encoder, first_encoder, take_bytes, encoder_after, bytes_of_takes, encoder_after_takes}
use Rattle.frame_rules.specs.Describes.{DescribesClient, HasAllCaches, FrameShowsJournal}
use Rattle.frame_rules.proofs.FrameLaws.{DescribesClient-first}
use Rattle.frame_rules.proofs.UpdatesBack.{reads_nothing, reads_then}
use Rattle.headline.specs.Headline.{SeesJournal, pictures_after}

-- ---- a stream that was read ends between packets

abbrev stage_of : Result ClientReading Refusal → Cutting
stage_of (Ok r) = r.cut
stage_of (Err refusal) = cutting 0 Between

cut_by : (c : Confirmed) (size : Size) (w : Result View Refusal) (o : Option ℕ) (next : Cutting) (r : ClientReading)
    → bind w (λ v. unless_refused_at o (reading v next)) ≡ Ok r → next ≡ r.cut
cut_by c size (Ok v) None next r e = ap stage_of e
cut_by c size (Ok v) (Some place) next r e = absurd (cc e)
cut_by c size (Err refusal) o next r e = absurd (cc e)

-- a viewer that has read on is where the packets end
pub read_to : (c : Confirmed) (size : Size) (r s : ClientReading) (bytes : List ℕ) → read_on c size r bytes ≡ Ok s
    → (updates_from (takes_fast c) r.cut bytes).next ≡ s.cut
read_to c size r s bytes e = cut_by c size (view_after_bodies c size r.view (updates_from (takes_fast c) r.cut bytes).bodies)
    (refusal_in (updates_from (takes_fast c) r.cut bytes).next.stage) (updates_from (takes_fast c) r.cut bytes).next s e

ends_between : (c : Confirmed) (size : Size) (bytes : List ℕ) (view : View) (end : ℕ) → read_stream c size bytes ≡ Ok (reading view (cutting end Between))
    → EndsBetween (takes_fast c) bytes
ends_between c size bytes view end e = ap (λ (cut : Cutting). cut.stage) (read_to c size (first_reading c size) (reading view (cutting end Between)) bytes e)

-- ---- takes, one after the other

-- what reading takes gives
pub record TakesShown (head : Head) (c : Confirmed) (j : List Entry) (e : Encoder) (ts : List TakeOf) (to : ℕ) (view : View) (place : ℕ) : Type 0 where
  pub after : View
  pub reads : Reads c head.size view place (joined_bytes (bytes_of_takes head.size c j e ts)) after
  pub marks : after.pictures ≡ view.pictures ++ pictures_after (depth_of c) head.size j (map (λ t. t.number) ts)
  pub describes : DescribesClient head.size c j to (encoder_after_takes head.size c j e ts) after.client

module _ (head : Head) (c : Confirmed) (shows : FrameShowsJournal head c) (sized : is_session_size head.size.w head.size.h ≡ true) (all : HasAllCaches c)
    (j : List Entry) (legal : IsLegalJournal head j) where
  takes_end : (ts : List TakeOf) (from to : ℕ) → TakesFollow from ts to → from ≤ to
  takes_end [] from to h = subst (λ n. from ≤ n) h (omega arith)
  takes_end (t ∷ ts) from to h = let up = h.1 in let more = takes_end ts t.number to h.2 in omega (arith, up, more)

  pub takes_shown : (ts : List TakeOf) (from to : ℕ) (e : Encoder) (view : View) (place : ℕ) → TakesFollow from ts to → to ≤ length j
      → DescribesClient head.size c j from e view.client
      → TakesShown head c j e ts to view place
  takes_shown [] from to e view place follow within d = record {
    after = view;
    reads = reads_nothing c head.size view place;
    marks = sym (append-nil view.pictures);
    describes = subst (λ n. DescribesClient head.size c j n e view.client) follow d;
  }
  takes_shown (t ∷ ts) from to e view place follow within d =
      let begins = follow.0 in
      let up = follow.1 in
      let ends = takes_end ts t.number to follow.2 in
      let d' : DescribesClient head.size c j t.before e view.client = subst (λ n. DescribesClient head.size c j n e view.client) (sym begins) d in
      let one = shows j e t view place sized all legal (omega (arith, begins, up)) (omega (arith, ends, within)) d' in
      let bytes = take_bytes head.size c j e t in
      let next = encoder_after head.size c j e t in
      let more = takes_shown ts t.number to next one.after (place + length bytes) follow.2 within one.describes in
      record {
        after = more.after;
        reads = reads_then c head.size view one.after more.after place bytes (joined_bytes (bytes_of_takes head.size c j next ts)) one.reads more.reads;
        marks = more.marks ∙ (ap (λ ps. ps ++ pictures_after (depth_of c) head.size j (map (λ t. t.number) ts)) one.mark
            ∙ append_assoc view.pictures (map (seen (depth_of c)) (state_after head.size j t.number).surface.picture ∷ [])
            (pictures_after (depth_of c) head.size j (map (λ t. t.number) ts)));
        describes = more.describes;
      }

  -- a viewer that is sent its takes from the first on
  pub takes_see : (ts : List TakeOf) (to : ℕ) → TakesFollow 0 ts to → to ≤ length j
      → SeesJournal head.size c j (map (λ t. t.number) ts) (joined_bytes (bytes_of_takes head.size c j first_encoder ts))
  takes_see ts to follow within =
      let r = takes_shown ts 0 to first_encoder (first_view c head.size) 0 follow within (DescribesClient-first head.size c j) in
      let bytes = joined_bytes (bytes_of_takes head.size c j first_encoder ts) in
      record {
        marks_show_journal = ap (λ o. bind o (λ q. Ok q.view.pictures)) r.reads ∙ ap Ok r.marks;
        ends_between_packets = ends_between c head.size bytes r.after (0 + length bytes) r.reads;
      }
