-- The pending drawings of one entry, of what is kept of it.
use Rattle.std.proofs.Common.{◌≡◌, ℕ, ◌+◌, ◌≤◌, List, [], ◌∷◌, length, ap, sym, subst, ◌∙◌, Some}
use Rattle.std.specs.Prelude.{slice_get}
use Rattle.px_core.specs.declared.surface.Size.{Size}
use Rattle.draw_ops.specs.declared.shape.Drawing.{Drawing}
use Rattle.input_pdu.specs.declared.event.Event.{Event}
use Rattle.session_rules.specs.declared.entry.Entry.{Entry}
use Rattle.session_rules.specs.declared.entry.Entry.TheVariants.{Input, Draw}
use Rattle.session_rules.specs.Journal.{Head, drawings_of, state_after}
use Rattle.session_rules.specs.Pending.{pending_drawings, pending_between}
use Rattle.session_core.specs.declared.kept.Kept.{Kept}
use Rattle.session_core.specs.declared.standing.Standing.{Standing}
use Rattle.session_core.specs.Keeping.{journal_of, IsBoardKept, IsKept}
use Rattle.session_core.specs.Showing.{all_shown, shown_list}
use Rattle.session_core.specs.Standing.{IsSession}
use Rattle.session_core.specs.Putting.{drawings_made, IsBoardReady}
use Rattle.session_core.specs.SessionModel.{SessionModel}
use Rattle.session_core.proofs.Sessions.{model_of}
use Rattle.session_core.proofs.Counted.{kept_at, entry_at}
use Rattle.session_core.proofs.PendingLaws.{pending_here, enough, made_again, is_ready}

-- what is shown is pending
shown_is : (size : Size) (ks : List Kept) (k : ℕ) (x : Kept) → slice_get ks k ≡ Some x → IsKept size (state_after size (journal_of ks) k) x
    → all_shown (drawings_of size (state_after size (journal_of ks) k).board x.entry) (shown_list x.shown) ≡ pending_between size (journal_of ks) k (k + 1)
shown_is size ks k x at h = h.shown ∙ sym (pending_here size (journal_of ks) k x.entry (entry_at ks k x at))

pub record SeesDrawn (size : Size) (ks : List Kept) (k : ℕ) (x : Kept) (d : Drawing) : Type 0 where
  pub each : 1 ≤ length (shown_list x.shown)
  pub pending : all_shown (d ∷ []) (shown_list x.shown) ≡ pending_between size (journal_of ks) k (k + 1)

pub sees_drawn : (head : Head) (s : Standing) (ks : List Kept) (k by : ℕ) (x : Kept) (d : Drawing) → IsSession head s ks → slice_get ks k ≡ Some x → x.entry ≡ Draw by d → SeesDrawn head.size ks k x d
sees_drawn head s ks k by x d h at is =
    let st = state_after head.size (journal_of ks) k in
    let kept = kept_at head.size ks k x h.entries at in
    let one : drawings_of head.size st.board x.entry ≡ d ∷ [] = ap (drawings_of head.size st.board) is in
    let shown = subst (λ ds. all_shown ds (shown_list x.shown) ≡ pending_drawings head.size st.surface ds) one kept.shown in
    record {
      each = enough head.size st.surface (d ∷ []) (shown_list x.shown) shown;
      pending = subst (λ ds. all_shown ds (shown_list x.shown) ≡ pending_between head.size (journal_of ks) k (k + 1)) one (shown_is head.size ks k x at kept);
    }

pub record SeesReaction (size : Size) (ks : List Kept) (k : ℕ) (x : Kept) (e : Event) : Type 0 where
  pub ready : IsBoardReady x.shown
  pub each : length (drawings_made size x.shown e) ≤ length (shown_list x.shown)
  pub pending : all_shown (drawings_made size x.shown e) (shown_list x.shown) ≡ pending_between size (journal_of ks) k (k + 1)

pub sees_reaction : (head : Head) (s : Standing) (ks : List Kept) (k by : ℕ) (x : Kept) (e : Event) → IsSession head s ks → slice_get ks k ≡ Some x → x.entry ≡ Input by e → SeesReaction head.size ks k x e
sees_reaction head s ks k by x e h at is =
    let st = state_after head.size (journal_of ks) k in
    let kept = kept_at head.size ks k x h.entries at in
    let board : IsBoardKept head.size st.board (Input by e) x.shown = subst (λ y. IsBoardKept head.size st.board y x.shown) is kept.board in
    let made : drawings_of head.size st.board x.entry ≡ drawings_made head.size x.shown e = ap (drawings_of head.size st.board) is ∙ sym (made_again head.size st.board by e x.shown board) in
    let shown = subst (λ ds. all_shown ds (shown_list x.shown) ≡ pending_drawings head.size st.surface ds) made kept.shown in
    record {
      ready = is_ready head (journal_of ks) k by e x.shown h.size h.legal board;
      each = enough head.size st.surface (drawings_made head.size x.shown e) (shown_list x.shown) shown;
      pending = subst (λ ds. all_shown ds (shown_list x.shown) ≡ pending_between head.size (journal_of ks) k (k + 1)) made (shown_is head.size ks k x at kept);
    }

-- the others have none
pub sees_none : (head : Head) (s : Standing) (ks : List Kept) (k : ℕ) (x : Kept) (e : Entry) → IsSession head s ks → slice_get ks k ≡ Some x → x.entry ≡ e → drawings_of head.size (state_after head.size (journal_of ks) k).board e ≡ []
    → pending_between head.size (journal_of ks) k (k + 1) ≡ []
sees_none head s ks k x e h at is none =
    let st = state_after head.size (journal_of ks) k in
    let kept = kept_at head.size ks k x h.entries at in
    sym (shown_is head.size ks k x at kept) ∙ ap (λ ds. all_shown ds (shown_list x.shown)) (ap (drawings_of head.size st.board) is ∙ none)

-- what is pending, as the session is seen
pub seen_so : (head : Head) (s : Standing) (ks : List Kept) (now : SessionModel) (k : ℕ) → model_of head s ks ≡ now → pending_between head.size (journal_of ks) k (k + 1) ≡ pending_between now.head.size now.journal k (k + 1)
seen_so head s ks now k is = ap (λ (m : SessionModel). pending_between m.head.size m.journal k (k + 1)) is
