-- A viewer that hears an honest host is shown the session's journal.
use Rattle.std.proofs.Common.{◌≡◌, ℕ, Bool, true, false, List, [], ◌∷◌, ◌++◌, refl, ap, sym, ◌∙◌, subst, Some, ◌⊎◌, inl, inr}
use Rattle.std.specs.Prelude.{IsTrue, Option, Result, Ok, Err}
use Rattle.std.proofs.lemmas.List.{append-nil}
use Rattle.px_core.specs.declared.surface.Size.{Size}
use Rattle.px_core.specs.Rectangle.{is_session_size}
use Rattle.caps_sets.specs.declared.confirmed.Confirmed.{Confirmed}
use Rattle.caps_sets.specs.Confirmed.{depth_of, takes_fast, pointer_cells}
use Rattle.wire_num.specs.Field.{bind}
use Rattle.tpkt_x224.specs.Pieces.{packets_with}
use Rattle.order_means.specs.FrameMarks.{Refusal, ClientReading, read_stream, pictures_at_marks}
use Rattle.session_rules.specs.declared.entry.Entry.{Entry}
use Rattle.session_rules.specs.Journal.{Head}
use Rattle.session_rules.specs.Steps.{journal_of_steps, frame_numbers}
use Rattle.script_rules.specs.Script.{Asked}
use Rattle.viewer_rules.specs.declared.stage.Stage.{Stage}
use Rattle.viewer_rules.specs.declared.stage.Stage.TheVariants as stage
use Rattle.viewer_rules.specs.HostStream.{host_packet_at}
use Rattle.viewer_rules.specs.ViewerHandshake.{Standing, Told, silent, Watched, is_farewell, shown_by, packet_told, packets_told, watched, first_watching, refusal_in}
use Rattle.viewer_rules.specs.ClientPackets.{connection_request}
use Rattle.viewer_rules.specs.Rounds.{answers, greeting, joined}
use Rattle.viewer_rules.specs.Shown.{shown_read, shown_refusal, first_refusal, standing_at}
use Rattle.viewer_rules.proofs.Pieces.{two_pieces}
use Rattle.viewer_rules.proofs.Answered.{at_end, all_watched, sends_all}
use Rattle.viewer_rules.proofs.Shown.{frames_shown}
use Rattle.headline.specs.Headline.{HasSessionSize, AreByPresentViewers, ConfirmAllCaches, pictures_after, steps_of, confirmed_in, EveryViewerSeesTheJournal}
use Rattle.headline.specs.Sent.{sent_to}
use Rattle.headline.proofs.Interleaved.{every_viewer_sees}
use Rattle.headline.proofs.StreamFronts.{marks_front}
use Rattle.headline.proofs.PointedFronts.{first_numbers}
use Rattle.headline.proofs.Pointerless.{all_read}
use Rattle.viewer_agrees.specs.Watched.{watched_behind, ShowsJournal, sent_without, ShowsAllTakes, ShowsFirstTakes}

-- ---- behind the Font Map

-- the connection goes on, or the host has ended it
abbrev IsBehind : Standing → Type 0
IsBehind s = (s.stage ≡ stage.Shown) ⊎ (s.stage ≡ stage.Over)

-- a viewer says nothing more there, and the size stays
record Stays (s : Standing) (t : Told) : Type 0 where
  says : t.text ≡ []
  size : t.after.size ≡ s.size
  behind : IsBehind t.after

shown_stays : (s : Standing) (p : List ℕ) (b : Bool) → s.stage ≡ stage.Shown → Stays s (silent (shown_by b s p))
shown_stays s p true here = record { says = refl; size = refl; behind = inr refl }
shown_stays s p false here = record { says = refl; size = refl; behind = inl here }

packet_stays : (name : List ℕ) (c : Confirmed) (s : Standing) (p : List ℕ) → IsBehind s → Stays s (packet_told name c s.stage s p)
packet_stays name c s p (inl here) = subst (λ (at : Stage). Stays s (packet_told name c at s p)) (sym here) (shown_stays s p (is_farewell p) here)
packet_stays name c s p (inr over) = subst (λ (at : Stage). Stays s (packet_told name c at s p)) (sym over) (record { says = refl; size = refl; behind = inr over })

packets_stay : (name : List ℕ) (c : Confirmed) (s : Standing) (ps : List (List ℕ)) → IsBehind s → Stays s (packets_told name c s ps)
packets_stay name c s [] behind = record { says = refl; size = refl; behind = behind }
packets_stay name c s (p ∷ ps) behind =
    let one = packet_stays name c s p behind in
    let more = packets_stay name c (packet_told name c s.stage s p).after ps one.behind in
    record {
      says = ap (λ xs. xs ++ (packets_told name c (packet_told name c s.stage s p).after ps).text) one.says ∙ more.says;
      size = more.size ∙ one.size;
      behind = more.behind;
    }

bytes_stay : (name : List ℕ) (c : Confirmed) (s : Standing) (bytes : List ℕ) → s.stage ≡ stage.Shown
    → ((watched name c (standing_at s) bytes).text ≡ []) × ((watched name c (standing_at s) bytes).after.at.size ≡ s.size)
unfolding watched
bytes_stay name c s bytes here =
    let stays = packets_stay name c s (packets_with (host_packet_at (takes_fast c)) bytes).packets (inl here) in
    (stays.says, stays.size)

-- ---- a viewer's bytes that a client reads

module _ (name : List ℕ) (c : Confirmed) (size : Size) (sized : IsTrue (is_session_size size.w size.h)) (bytes : List ℕ) where
  abbrev behind_answers : Watched
  behind_answers = watched name c (standing_at (at_end size)) bytes

  -- the answers, and then what is behind them
  whole_after : (watched_behind name c size bytes).after ≡ behind_answers.after
  whole_after =
      ap (λ (x : Watched). x.after) (two_pieces name c first_watching (joined (answers size (depth_of c))) bytes)
      ∙ ap (λ (x : Watched). (watched name c x.after bytes).after) (all_watched size name c sized)

  whole_text : (watched_behind name c size bytes).text ≡ joined (greeting name c)
  whole_text =
      ap (λ (x : Watched). connection_request ++ x.text) (two_pieces name c first_watching (joined (answers size (depth_of c))) bytes)
      ∙ ap (λ xs. connection_request ++ ((watched name c first_watching (joined (answers size (depth_of c)))).text ++ xs))
      (ap (λ (x : Watched). (watched name c x.after bytes).text) (all_watched size name c sized) ∙ (bytes_stay name c (at_end size) bytes refl).0)
      ∙ ap (λ xs. connection_request ++ xs) (append-nil (watched name c first_watching (joined (answers size (depth_of c)))).text)
      ∙ sends_all size name c sized

  pub shows_read : (j : List Entry) (numbers : List ℕ) (r : ClientReading) → read_stream c size bytes ≡ Ok r
      → r.view.pictures ≡ pictures_after (depth_of c) size j numbers → ShowsJournal name c size j numbers (watched_behind name c size bytes)
  shows_read j numbers r e pictures =
      let shown = frames_shown name c size (at_end size) bytes r refl refl e in
      let w = behind_answers.after in
      let read : shown_read c w.at.size w.at.shown ≡ Some (Ok shown.reading) =
      ap (λ o. shown_read c o w.at.shown) (bytes_stay name c (at_end size) bytes refl).1 ∙ ap Some shown.reads in
      record {
        says = whole_text;
        goes_on = ap (λ x. x.at.stage) whole_after ∙ shown.goes_on;
        unrefused = ap (λ x. first_refusal (shown_refusal x.at.start (shown_read c x.at.size x.at.shown)) (refusal_in c x)) whole_after
            ∙ ap (λ o. first_refusal (shown_refusal w.at.start o) (refusal_in c w)) read ∙ shown.unrefused;
        reading = shown.reading;
        reads = ap (λ x. shown_read c x.at.size x.at.shown) whole_after ∙ read;
        marks_show = ap (λ v. v.pictures) shown.view ∙ pictures;
      }

  abbrev pictures_or : List (List (Option ℕ)) → Result (List (List (Option ℕ))) Refusal → List (List (Option ℕ))
  pictures_or none (Ok pictures) = pictures
  pictures_or none (Err refusal) = none

  pub shows_marks : (j : List Entry) (numbers : List ℕ) → pictures_at_marks c size bytes ≡ Ok (pictures_after (depth_of c) size j numbers)
      → ShowsJournal name c size j numbers (watched_behind name c size bytes)
  shows_marks j numbers e = by (read_stream c size bytes) refl e
    where
      by : (r : Result ClientReading Refusal) → read_stream c size bytes ≡ r → bind r (λ s. Ok s.view.pictures) ≡ Ok (pictures_after (depth_of c) size j numbers)
          → ShowsJournal name c size j numbers (watched_behind name c size bytes)
      by (Ok r) read same = shows_read j numbers r read (ap (pictures_or r.view.pictures) same)
      by (Err refusal) read same = absurd (cc same)

-- ---- lists of steps

module _ (head : Head) (asked : List Asked) (v : ℕ) (name : List ℕ) (sized : HasSessionSize head) (present : AreByPresentViewers head asked)
    (caches : ConfirmAllCaches asked) where
  sees : EveryViewerSeesTheJournal head asked (sent_to head asked)
  sees = every_viewer_sees head asked sized present caches

  abbrev c : Confirmed
  c = confirmed_in head asked v

  abbrev j : List Entry
  j = journal_of_steps head (steps_of asked)

  abbrev numbers : List ℕ
  numbers = frame_numbers head (steps_of asked) v

  pub all_shown : ShowsAllTakes head asked v name
  all_shown = shows_marks name c head.size sized (sent_without head asked v) j numbers (sees.viewers v).marks_show_journal

  pub none_taken_out : pointer_cells c ≡ 0 → sent_without head asked v ≡ sent_to head asked v
  none_taken_out none = all_read head.size c j numbers (sent_to head asked v) none (sees.pointers v)

  pub first_shown : (front rest : List ℕ) → sent_without head asked v ≡ front ++ rest → ShowsFirstTakes head asked v name front
  first_shown front rest e =
      let first = marks_front c head.size front rest (pictures_after (depth_of c) head.size j numbers)
      (ap (pictures_at_marks c head.size) (sym e) ∙ (sees.viewers v).marks_show_journal) in
      let seen = first_numbers (depth_of c) head.size j numbers first.shown first.are_first in
      record {
        seen = seen.0;
        are_first = seen.1.0;
        shows = shows_marks name c head.size sized front j seen.0 (first.marks_show ∙ ap Ok (sym seen.1.1));
      }
