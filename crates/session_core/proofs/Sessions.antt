-- What holds of every session, and of one whose journal has one more entry.
use Rattle.std.proofs.Common.{◌≡◌, ℕ, suc, ◌+◌, List, [], ◌∷◌, ◌++◌, length, take, refl, ap, sym, subst, ◌∙◌, None, arith}
use Rattle.std.specs.Prelude.{Option}
use Rattle.px_core.specs.declared.surface.Size.{Size}
use Rattle.draw_ops.specs.Slots.{SurfaceState}
use Rattle.session_rules.specs.declared.entry.Entry.{Entry}
use Rattle.session_rules.specs.Journal.{Head, State, Reached, is_present, refusal_of, opening_state, state_after, state_after_entry, reached_at, reached_at_first, reached_after, reached_after_entry}
use Rattle.session_rules.proofs.Journals.{reached_after-append, IsLegalJournal-push}
use Rattle.session_rules.specs.Steps.{Step, Answer}
use Rattle.session_rules.specs.Entering.{answer_at, entry_of_step}
use Rattle.session_rules.specs.Reaching.{IsSoundReached}
use Rattle.session_rules.proofs.Sound.{sound_reached}
use Rattle.surface_parts.specs.Surfaces.{SurfaceOf}
use Rattle.session_core.specs.Marking.{Marked}
use Rattle.session_core.specs.declared.members.Member.{Member}
use Rattle.session_core.specs.declared.standing.Standing.{Standing}
use Rattle.session_core.specs.declared.kept.Kept.{Kept}
use Rattle.session_core.specs.Entered.{answer_of_entry, entry_entered}
use Rattle.session_core.specs.Outcomes.{IsAnswered, GoesOn}
use Rattle.session_core.specs.SessionModel.{SessionModel, reached_by}
use Rattle.session_core.specs.Members.{viewers_of, asked_of, suppressed_of}
use Rattle.session_core.specs.Keeping.{journal_of, IsKept, AllKept}
use Rattle.session_core.specs.Standing.{reached_of, IsSession, IsOpen}

take_all : {A : Type 0} (xs : List A) → take (length xs) xs ≡ xs
take_all [] = refl
take_all (x ∷ xs) = ap (λ ys. x ∷ ys) (take_all xs)

-- what a journal reaches as a whole
pub reached_at_end : (size : Size) (j : List Entry) → reached_at size j (length j) ≡ reached_after size (reached_at_first size) j
reached_at_end size j = ap (reached_after size (reached_at_first size)) (take_all j)

-- what is kept as reached is what the journal reaches
pub reached_is : (head : Head) (s : Standing) (ks : List Kept) → IsSession head s ks → reached_at head.size (journal_of ks) (length (journal_of ks)) ≡ reached_of s (length ks)
reached_is head s ks h = reached_at_end head.size (journal_of ks) ∙ sym h.reached

-- what is reached is sound
pub sound_now : (head : Head) (s : Standing) (ks : List Kept) → IsSession head s ks → IsSoundReached head.size (reached_of s (length ks))
sound_now head s ks h = rw h.reached (sound_reached head (journal_of ks) h.size h.legal)

pub journal_push : (ks : List Kept) (k : Kept) → journal_of (ks ++ k ∷ []) ≡ journal_of ks ++ k.entry ∷ []
journal_push [] k = refl
journal_push (x ∷ xs) k = ap (λ es. x.entry ∷ es) (journal_push xs k)

pub length_push : {A : Type 0} (xs : List A) (x : A) → length (xs ++ x ∷ []) ≡ length xs + 1
length_push [] x = refl
length_push (y ∷ ys) x = ap suc (length_push ys x) ∙ omega arith

-- the state after entries
abbrev pub states : Size → State → List Entry → State
states size st [] = st
states size st (e ∷ es) = states size (state_after_entry size st e) es

pub states_reached : (size : Size) (r : Reached) (es : List Entry) → (reached_after size r es).state ≡ states size r.state es
states_reached size r [] = refl
states_reached size r (e ∷ es) = states_reached size (reached_after_entry size r e) es

kept_push : (size : Size) (st : State) (ks : List Kept) (k : Kept) → AllKept size st ks → IsKept size (states size st (journal_of ks)) k → AllKept size st (ks ++ k ∷ [])
kept_push size st [] k h g = (g, tt)
kept_push size st (x ∷ xs) k h g = (h.0, kept_push size (state_after_entry size st x.entry) xs k h.1 g)

-- a session whose journal has one more entry
pub appended : (head : Head) (s after : Standing) (ks : List Kept) (k : Kept) → IsSession head s ks → refusal_of head (reached_of s (length ks)) k.entry ≡ None
    → IsKept head.size (reached_of s (length ks)).state k → reached_of after (length ks + 1) ≡ reached_after_entry head.size (reached_of s (length ks)) k.entry
    → after.surface.size ≡ head.size → after.board.size ≡ head.size → IsSession head after (ks ++ k ∷ [])
appended head s after ks k h legal kept reached surface board =
    let now = h.reached in
    record {
      size = h.size;
      invited = h.invited;
      legal = rw (journal_push ks k) (IsLegalJournal-push head (journal_of ks) k.entry h.legal (rw (← now) legal));
      reached = ap (reached_of after) (length_push ks k) ∙ reached ∙ ap (λ r. reached_after_entry head.size r k.entry) now
          ∙ sym (ap (reached_after head.size (reached_at_first head.size)) (journal_push ks k) ∙ reached_after-append head.size (reached_at_first head.size) (journal_of ks) (k.entry ∷ []));
      surface_size = surface;
      board_size = board;
      entries = kept_push head.size (opening_state head.size) ks k h.entries
          (rw (← states_reached head.size (reached_at_first head.size) (journal_of ks), ← now) kept);
    }

-- who is present is who is kept as present
pub here_is : (head : Head) (s : Standing) (ks : List Kept) (v : ℕ) → IsSession head s ks
    → is_present v (reached_at head.size (journal_of ks) (length (journal_of ks))).viewers ≡ is_present v (viewers_of s.members)
here_is head s ks v h = ap (λ r. is_present v r.viewers) (reached_is head s ks h)

pub length_viewers : (ms : List Member) → length (viewers_of ms) ≡ length ms
length_viewers [] = refl
length_viewers (m ∷ ms) = ap suc (length_viewers ms)

pub same_length : (ms others : List Member) → viewers_of ms ≡ viewers_of others → length ms ≡ length others
same_length ms others h = sym (length_viewers ms) ∙ ap length h ∙ length_viewers others

-- what is kept of the viewers beside their numbers and roles may change
pub members_changed : (head : Head) (s : Standing) (ks : List Kept) (marks : Marked) (typed : Option ℕ) (count room : ℕ) (ms : List Member) → IsOpen head s ks marks typed count room → viewers_of ms ≡ viewers_of s.members
    → IsOpen head (record s { members = ms }) ks marks typed count room
members_changed head s ks marks typed count room ms h same = record {
  is_session = record {
    size = h.is_session.size;
    invited = h.is_session.invited;
    legal = h.is_session.legal;
    reached = ap (λ vs. record (reached_of s (length ks)) { viewers = vs }) same ∙ h.is_session.reached;
    surface_size = h.is_session.surface_size;
    board_size = h.is_session.board_size;
    entries = h.is_session.entries;
  };
  room_left = omega (arith, h.room_left, same_length ms s.members same);
  marked = h.marked;
  typed_last = h.typed_last;
}

-- ---- clauses on the journal, shown of what is kept as reached

-- a session as contracts see it
abbrev pub model_of : Head → Standing → List Kept → SessionModel
model_of head s ks = record { head = head; journal = journal_of ks; asked = asked_of s.members; suppressed = suppressed_of s.members }

pub answered : (head : Head) (s : Standing) (ks : List Kept) (now : SessionModel) (given : Option Answer) (step : Step) → IsSession head s ks → model_of head s ks ≡ now
    → IsAnswered given (answer_at head (reached_of s (length ks)) step) → IsAnswered given (answer_at now.head (reached_by now) step)
answered head s ks now given step h is t =
    subst (λ (v : SessionModel). IsAnswered given (answer_at v.head (reached_by v) step)) is (subst (λ r. IsAnswered given (answer_at head r step)) (sym (reached_is head s ks h)) t)

pub goes_on : (head : Head) (s : Standing) (ks : List Kept) (now : SessionModel) (given : Option Answer) (step : Step) (new : List Entry) → IsSession head s ks → model_of head s ks ≡ now
    → GoesOn given (entry_of_step head (reached_of s (length ks)) step) (journal_of ks) new → GoesOn given (entry_of_step now.head (reached_by now) step) now.journal new
goes_on head s ks now given step new h is t = subst (λ (v : SessionModel). GoesOn given (entry_of_step v.head (reached_by v) step) v.journal new) is
    (subst (λ r. GoesOn given (entry_of_step head r step) (journal_of ks) new) (sym (reached_is head s ks h)) t)

pub entry_now : (head : Head) (s : Standing) (ks : List Kept) (now : SessionModel) (step : Step) (o : Option Entry) → IsSession head s ks → model_of head s ks ≡ now
    → entry_of_step head (reached_of s (length ks)) step ≡ o → entry_of_step now.head (reached_by now) step ≡ o
entry_now head s ks now step o h is t =
    subst (λ (v : SessionModel). entry_of_step v.head (reached_by v) step ≡ o) is (subst (λ r. entry_of_step head r step ≡ o) (sym (reached_is head s ks h)) t)

-- likewise for an entry that is to be made, whose receiver is read from what is reached
pub answered_entry : (head : Head) (s : Standing) (ks : List Kept) (now : SessionModel) (given : Option Answer) (made : Reached → Entry) → IsSession head s ks → model_of head s ks ≡ now
    → IsAnswered given (answer_of_entry head (reached_of s (length ks)) (made (reached_of s (length ks)))) → IsAnswered given (answer_of_entry now.head (reached_by now) (made (reached_by now)))
answered_entry head s ks now given made h is t =
    subst (λ (v : SessionModel). IsAnswered given (answer_of_entry v.head (reached_by v) (made (reached_by v)))) is
    (subst (λ r. IsAnswered given (answer_of_entry head r (made r))) (sym (reached_is head s ks h)) t)

pub goes_on_entry : (head : Head) (s : Standing) (ks : List Kept) (now : SessionModel) (given : Option Answer) (made : Reached → Entry) (new : List Entry) → IsSession head s ks → model_of head s ks ≡ now
    → GoesOn given (entry_entered head (reached_of s (length ks)) (made (reached_of s (length ks)))) (journal_of ks) new
    → GoesOn given (entry_entered now.head (reached_by now) (made (reached_by now))) now.journal new
goes_on_entry head s ks now given made new h is t =
    subst (λ (v : SessionModel). GoesOn given (entry_entered v.head (reached_by v) (made (reached_by v))) v.journal new) is
    (subst (λ r. GoesOn given (entry_entered head r (made r)) (journal_of ks) new) (sym (reached_is head s ks h)) t)

pub entry_made : (head : Head) (s : Standing) (ks : List Kept) (now : SessionModel) (made : Reached → Entry) (o : Option Entry) → IsSession head s ks → model_of head s ks ≡ now
    → entry_entered head (reached_of s (length ks)) (made (reached_of s (length ks))) ≡ o → entry_entered now.head (reached_by now) (made (reached_by now)) ≡ o
entry_made head s ks now made o h is t =
    subst (λ (v : SessionModel). entry_entered v.head (reached_by v) (made (reached_by v)) ≡ o) is
    (subst (λ r. entry_entered head r (made r) ≡ o) (sym (reached_is head s ks h)) t)

-- the surface as it is kept is the one that the whole journal leaves
pub looked_at : (head : Head) (s : Standing) (ks : List Kept) (now : SessionModel) → IsSession head s ks → model_of head s ks ≡ now
    → s.surface ≡ record { size = now.head.size; state = (state_after now.head.size now.journal (length now.journal)).surface }
looked_at head s ks now h is = subst (λ (v : SessionModel). s.surface ≡ seen v.head.size (state_after v.head.size v.journal (length v.journal)).surface) is
    (ap (λ z. seen z s.surface.state) h.surface_size ∙ ap (λ (r : Reached). seen head.size r.state.surface) (sym (reached_is head s ks h)))
  where
    seen : Size → SurfaceState → SurfaceOf
    seen z st = record { size = z; state = st }
