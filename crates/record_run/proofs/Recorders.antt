-- A session that is recorded goes on as the reading of its script does.
use Rattle.std.proofs.Common.{◌≡◌, ℕ, List, [], ◌∷◌, ◌++◌, length, refl, ap, sym, ◌∙◌, append_assoc, append-nil, true, false, arith}
use Rattle.std.specs.Prelude.{Option, Some, None, Result, Ok, Err, OnOk, ◌&&◌, nat_le, option_to_list, if◌then◌else◌}
use Rattle.std.proofs.lemmas.Bool.{and_from, and_parts}
use Rattle.std.proofs.lemmas.Bool.Decides.{nat_tests}
use Rattle.px_core.specs.declared.surface.Size.{Size}
use Rattle.px_core.specs.Rectangle.{is_session_size}
use Rattle.session_rules.specs.declared.entry.Entry.{Entry}
use Rattle.session_rules.specs.Journal.{Head, Row, Reached, is_present, reached_at, reached_at_first, reached_after}
use Rattle.session_rules.specs.Steps.{Step, Play, outcome, are_names_distinct}
use Rattle.session_rules.specs.Entering.{entry_of_step}
use Rattle.session_rules.proofs.Journals.{reached_after-append, reached-session_after}
use Rattle.session_rules.proofs.Entered.{entry_of_outcome}
use Rattle.frame_rules.specs.Encoder.{Encoder}
use Rattle.session_core.specs.SessionModel.{SessionModel, new_session, reached_by}
use Rattle.session_core.proofs.Sessions.{reached_at_end}
use Rattle.script_rules.specs.Script.{ScriptReading, Asked, is_name, row_limit, opened_reading, with_row, after_step}
use Rattle.script_rules.specs.CaptureText.{Run, run_after, encoder_frames}
use Rattle.record_rules.specs.Tables.{head_bytes, entries_bytes, are_named, is_recordable_head}
use Rattle.script_run.specs.Solo.{first_run}
use Rattle.script_run.specs.Standing.{Stands, DoesStep as Does}
use Rattle.record_run.specs.Recording.{head_text}
use Rattle.record_run.specs.Reading.{records}
use Rattle.record_run.specs.Recorders.{Enters, Records, RecorderModel, recorder_of, seen_of, IsRecorder, Keeps, DoesStep}

-- ---- what was reached

reached_outcome : (head : Head) (p : Play) (s : Step) → (outcome head p s).play.reached ≡ reached_after head.size p.reached (option_to_list (outcome head p s).entry)
reached_outcome head p s = reached-session_after head p (s ∷ []) ∙ ap (reached_after head.size p.reached) (append-nil (option_to_list (outcome head p s).entry))

-- what the journal reaches after a step
reached_on : (head : Head) (j : List Entry) (p : Play) (s : Step) → p.reached ≡ reached_at head.size j (length j)
    → (outcome head p s).play.reached ≡ reached_at head.size (j ++ option_to_list (outcome head p s).entry) (length (j ++ option_to_list (outcome head p s).entry))
reached_on head j p s h =
    let es = option_to_list (outcome head p s).entry in
    reached_outcome head p s ∙ ap (λ r. reached_after head.size r es) (h ∙ reached_at_end head.size j)
    ∙ sym (reached_after-append head.size (reached_at_first head.size) j es) ∙ sym (reached_at_end head.size (j ++ es))

-- ---- a step

-- the step appends in the reading what it does in the session
entry_is : (m : RecorderModel) (r : ScriptReading) (step : Step) → Keeps m r → (outcome r.head r.play step).entry ≡ entry_of_step m.session.head (reached_by m.session) step
entry_is m r step k = entry_of_outcome r.head r.play step ∙ ap (λ x. entry_of_step r.head x step) k.reached ∙ ap (λ h. entry_of_step h (reached_by m.session) step) k.head

keeps_on : (m : RecorderModel) (new : SessionModel) (r : ScriptReading) (step : Step) → Keeps m r → Enters step m.session new → Keeps (record { begun = true; session = new }) (after_step r step)
keeps_on m new r step k e =
    let old = m.session.journal in
    let journal : new.journal ≡ old ++ option_to_list (outcome r.head r.play step).entry = e.journal ∙ ap (λ o. old ++ option_to_list o) (sym (entry_is m r step k)) in
    let head : new.head ≡ r.head = e.head ∙ sym k.head in
    record {
      head = sym head;
      begun = refl;
      reached = reached_on r.head old r.play step (k.reached ∙ ap (λ (h : Head). reached_at h.size old (length old)) (sym k.head))
          ∙ sym (ap (λ (h : Head). reached_at h.size new.journal (length new.journal)) head ∙ ap (λ j. reached_at r.head.size j (length j)) journal);
    }

-- a step that isn't the first
pub step_done : (session new : SessionModel) (r : ScriptReading) (step : Step) (before now : List ℕ) → Keeps (record { begun = true; session = session }) r
    → Records step session new before now → DoesStep r step (record { begun = true; session = new }) before now
step_done session new r step before now k d =
    let m : RecorderModel = record { begun = true; session = session } in
    let entry = entries_bytes (option_to_list (outcome r.head r.play step).entry) in
    record {
      keeps = keeps_on m new r step k d.enters;
      written = d.written ∙ ap (λ o. before ++ entries_bytes (option_to_list o)) (sym (entry_is m r step k))
          ∙ ap (λ b. before ++ ((if b then [] else head_bytes r.head) ++ entry)) (sym k.begun);
    }

-- before the first step the head isn't written
pub unbegun_text : (head : Head) (r : ScriptReading) → Keeps (recorder_of head None) r → head_bytes head ≡ head_text r
unbegun_text head r k = ap head_bytes (sym k.head) ∙ ap (λ b. if b then [] else head_bytes r.head) (sym k.begun)

-- and behind it it is
pub begun_text : (session : SessionModel) (r : ScriptReading) (out : List ℕ) → Keeps (record { begun = true; session = session }) r → out ≡ out ++ head_text r
begun_text session r out k = sym (append-nil out) ∙ ap (λ b. out ++ (if b then [] else head_bytes r.head)) (sym k.begun)

-- the first step
pub first_done : (head : Head) (new : SessionModel) (r : ScriptReading) (step : Step) (before mid now : List ℕ) → Keeps (recorder_of head None) r → mid ≡ before ++ head_bytes head
    → Records step (new_session head) new mid now → DoesStep r step (record { begun = true; session = new }) before now
first_done head new r step before mid now k first d =
    let m = recorder_of head None in
    let entry = entries_bytes (option_to_list (outcome r.head r.play step).entry) in
    record {
      keeps = keeps_on m new r step k d.enters;
      written = d.written ∙ ap (λ o. mid ++ entries_bytes (option_to_list o)) (sym (entry_is m r step k)) ∙ ap (λ t. t ++ entry) first
          ∙ append_assoc before (head_bytes head) entry ∙ ap (λ t. before ++ (t ++ entry)) (unbegun_text head r k);
    }

-- ---- a row

pub row_kept : (head next : Head) (row : Row) (r : ScriptReading) → next ≡ record head { rows = head.rows ++ row ∷ [] } → Keeps (recorder_of head None) r → Keeps (recorder_of next None) (with_row r row)
row_kept head next row r is k = record {
  head = ap (λ (h : Head). record h { rows = h.rows ++ row ∷ [] }) k.head ∙ sym is;
  begun = k.begun;
  reached = k.reached ∙ ap (λ z. reached_at z [] 0) (sym (ap (λ (h : Head). h.size) is));
}

pub named_push : (rows : List Row) (row : Row) → are_named rows ≡ true → is_name row.name ≡ true → are_named (rows ++ row ∷ []) ≡ true
named_push [] row h name = and_from (is_name row.name) true name refl
named_push (x ∷ xs) row h name =
    let parts = and_parts (is_name x.name) (are_named xs) h in and_from (is_name x.name) (are_named (xs ++ row ∷ [])) parts.0 (named_push xs row parts.1 name)

-- no step was asked for yet
pub not_begun : (head : Head) (session : Option SessionModel) → (recorder_of head session).begun ≡ false → session ≡ None
not_begun head None early = refl
not_begun head (Some s) early = absurd (cc early)

-- a record can hold the head
pub head_recordable : (head : Head) (session : Option SessionModel) → IsRecorder head session → is_recordable_head head ≡ true
head_recordable head session i =
    let few = i.rows.few in
    let low : nat_le (length head.rows) row_limit ≡ true = grind (arith, nat_tests, few) in
    and_from (is_session_size head.size.w head.size.h) (nat_le (length head.rows) row_limit && (are_named head.rows && are_names_distinct head.rows)) i.size
    (and_from (nat_le (length head.rows) row_limit) (are_named head.rows && are_names_distinct head.rows) low
    (and_from (are_named head.rows) (are_names_distinct head.rows) i.named i.rows.distinct))

-- ---- as what does the lines of a script

-- what the recorder keeps of a reading, whatever is sent
abbrev pub StandsOf : RecorderModel → ScriptReading → Run Encoder → Type 0
StandsOf m = Stands (seen_of m) (λ r run. r.play.reached ≡ reached_by m.session)

pub stands_keeps : (m : RecorderModel) (r : ScriptReading) (run : Run Encoder) → StandsOf m r run → Keeps m r
stands_keeps m r run s = record { head = s.head; begun = s.begun; reached = s.kept }

pub keeps_stands : (m : RecorderModel) (r : ScriptReading) (run : Run Encoder) → Keeps m r → StandsOf m r run
keeps_stands m r run k = record { head = k.head; begun = k.begun; here = λ v. ap (λ (x : Reached). is_present v x.viewers) k.reached; kept = k.reached }

pub first_stands : (m : RecorderModel) (size : Size) → m.begun ≡ false → m.session.head ≡ record { size = size; rows = [] } → m.session.journal ≡ []
    → StandsOf m (opened_reading size []) (first_run size)
first_stands m size begun head journal = keeps_stands m (opened_reading size []) (first_run size) (record {
  head = sym head;
  begun = sym begun;
  reached = sym (ap (λ (h : Head). reached_at h.size m.session.journal (length m.session.journal)) head ∙ ap (λ j. reached_at size j (length j)) journal);
})

pub row_stands : (old new : RecorderModel) (row : Row) → ((r : ScriptReading) → Keeps old r → Keeps new (with_row r row)) → (r : ScriptReading) (run : Run Encoder) → StandsOf old r run
    → StandsOf new (with_row r row) run
row_stands old new row k r run s = keeps_stands new (with_row r row) run (k r (stands_keeps old r run s))

-- a step was recorded, and gave no frame
pub step_stands : (old new : RecorderModel) (a : Asked) (before now : List ℕ) → ((r : ScriptReading) → Keeps old r → DoesStep r a.step new before now)
    → (r : ScriptReading) (run : Run Encoder) → StandsOf old r run → Does records (StandsOf new) r run a before (now ++ [])
step_stands old new a before now d r run s =
    let does = d r (stands_keeps old r run s) in
    record { standing = keeps_stands new (after_step r a.step) (run_after encoder_frames r.head run a) does.keeps; written = append-nil now ∙ does.written }

pub unbegun_stands : (m : RecorderModel) (before now : List ℕ) → ((r : ScriptReading) → Keeps m r → now ≡ before ++ head_text r) → (r : ScriptReading) (run : Run Encoder)
    → StandsOf m r run → now ≡ before ++ head_text r
unbegun_stands m before now w r run s = w r (stands_keeps m r run s)

-- ---- answers

-- what is said of an Ok
pub on_ok : {A E P Q : Type 0} (r : Result A E) → (P → Q) → OnOk r P → OnOk r Q
on_ok (Ok v) f p = f p
on_ok (Err e) f p = p
