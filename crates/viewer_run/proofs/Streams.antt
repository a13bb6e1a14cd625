-- Where a client's stream stands.
use Rattle.std.proofs.Common.{◌≡◌, ℕ, zero, suc, List, [], length, sym, refl, ap, ◌∙◌, subst, append-nil}
use Rattle.std.proofs.lemmas.List.{append_cancel_left}
use Rattle.std.specs.Prelude.{true, ⊤}
use Rattle.conn_rules.specs.declared.stage.Stage.{Stage}
use Rattle.conn_rules.specs.declared.stage.Stage.TheVariants as stage
use Rattle.conn_rules.specs.Hearing.{Hearing, Heard, heard, then_heard, is_over, end_within, end_by, end_of}
use Rattle.conn_rules.specs.Hearing.StreamEnd.{Between}
use Rattle.conn_rules.proofs.Pieces.{heard_then}
use Rattle.conn_rules.proofs.Quiet.{end_silence}
use Rattle.conn_core.specs.Kept.{IsUnrefused}
use Rattle.serve_rules.specs.Reading.{IsNoRefusal, IsWithinPacket}
use Rattle.viewer_run.specs.Feeding.{IsHeard}

-- what no further byte leads to
nothing_after : (first : Hearing) (bytes : List ℕ) → heard first bytes ≡ then_heard (heard first bytes) (heard (heard first bytes).after [])
nothing_after first bytes = ap (heard first) (sym (append-nil bytes)) ∙ heard_then first bytes []

-- nothing is heard of no bytes
pub silent_steps : (h : Hearing) → IsHeard h → (heard h []).steps ≡ []
silent_steps h (first, bytes, e) =
    ap (λ (x : Hearing). (heard x []).steps) e
    ∙ append_cancel_left (heard first bytes).steps (heard (heard first bytes).after []).steps []
    (sym (ap (λ (x : Heard). x.steps) (nothing_after first bytes)) ∙ sym (append-nil (heard first bytes).steps))

pub silent_replies : (h : Hearing) → IsHeard h → (heard h []).replies ≡ []
silent_replies h (first, bytes, e) =
    ap (λ (x : Hearing). (heard x []).replies) e
    ∙ append_cancel_left (heard first bytes).replies (heard (heard first bytes).after []).replies []
    (sym (ap (λ (x : Heard). x.replies) (nothing_after first bytes)) ∙ sym (append-nil (heard first bytes).replies))

pub silent_after : (h : Hearing) → IsHeard h → (heard h []).after ≡ h
silent_after h (first, bytes, e) =
    ap (λ (x : Hearing). (heard x []).after) e ∙ (sym (ap (λ (x : Heard). x.after) (nothing_after first bytes)) ∙ sym e)

-- nothing is kept of a packet once the stream is over
pub over_part : (h : Hearing) → IsHeard h → is_over h.stage ≡ true → h.part ≡ []
over_part h led over = ap (λ (x : Hearing). x.part) (sym (silent_after h led) ∙ ap (λ (x : Heard). x.after) (end_silence h [] over))

-- a stream that isn't refused ends between packets where nothing is there of one
between_by : (s : Stage) → IsUnrefused s → end_by s 0 ≡ Between
between_by stage.Request u = refl
between_by (stage.Initial asked) u = refl
between_by (stage.Erect client) u = refl
between_by (stage.Attach client) u = refl
between_by (stage.Joins client user io) u = refl
between_by (stage.Shares channels here) u = refl
between_by stage.Over u = refl
between_by (stage.Refused k at) u = absurd u

pub ends_between : (h : Hearing) → IsUnrefused h.stage → length h.part ≡ 0 → end_of h ≡ Between
ends_between h u none = ap (end_by h.stage) none ∙ between_by h.stage u

within_by : (s : Stage) (n : ℕ) → IsUnrefused s → (is_over s ≡ true → ⊥) → IsWithinPacket (end_by s (suc n))
within_by stage.Request n u o = tt
within_by (stage.Initial asked) n u o = tt
within_by (stage.Erect client) n u o = tt
within_by (stage.Attach client) n u o = tt
within_by (stage.Joins client user io) n u o = tt
within_by (stage.Shares channels here) n u o = tt
within_by stage.Over n u o = absurd (o refl)
within_by (stage.Refused k at) n u o = absurd u

abbrev OnlyZero : ℕ → Type 0
OnlyZero zero = ⊤
OnlyZero (suc n) = ⊥

no_refusal_within : (n : ℕ) → IsNoRefusal (end_within n)
no_refusal_within zero = tt
no_refusal_within (suc n) = tt

-- wherever a stream stands that isn't refused
pub no_refusal : (s : Stage) (n : ℕ) → IsUnrefused s → IsNoRefusal (end_by s n)
no_refusal stage.Request n u = no_refusal_within n
no_refusal (stage.Initial asked) n u = no_refusal_within n
no_refusal (stage.Erect client) n u = no_refusal_within n
no_refusal (stage.Attach client) n u = no_refusal_within n
no_refusal (stage.Joins client user io) n u = no_refusal_within n
no_refusal (stage.Shares channels here) n u = no_refusal_within n
no_refusal stage.Over n u = tt
no_refusal (stage.Refused k at) n u = absurd u

-- and within a packet where something is
pub ends_within : (h : Hearing) (n : ℕ) → IsHeard h → IsUnrefused h.stage → length h.part ≡ suc n → IsWithinPacket (end_of h)
ends_within h n led u some =
    let open_still : is_over h.stage ≡ true → ⊥ = λ over. subst OnlyZero (sym (ap (λ (p : List ℕ). length p) (over_part h led over)) ∙ some) tt in
    subst IsWithinPacket (ap (end_by h.stage) (sym some)) (within_by h.stage n u open_still)
