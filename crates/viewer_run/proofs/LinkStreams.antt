-- What a client's stream comes to, of which a first stretch makes it ready.
use Rattle.std.proofs.Common.{◌≡◌, ℕ, List, [], ◌∷◌, ◌++◌, sym, refl, ap, ◌∙◌, subst, append-nil}
use Rattle.std.specs.Prelude.{⊤}
use Rattle.px_core.specs.declared.surface.Size.{Size}
use Rattle.caps_sets.specs.declared.confirmed.Confirmed.{Confirmed}
use Rattle.conn_rules.specs.declared.conn_step.ConnStep.{ConnStep}
use Rattle.conn_rules.specs.declared.conn_step.ConnStep.TheVariants as step
use Rattle.conn_rules.specs.declared.stage.Stage.{Stage}
use Rattle.conn_rules.specs.declared.stage.Stage.TheVariants as stage
use Rattle.conn_rules.specs.declared.stage.SharePhase.TheVariants as phase
use Rattle.conn_rules.specs.Hearing.{Hearing, Heard, heard, host_handshake, first_hearing, then_heard, is_over}
use Rattle.conn_rules.specs.Told.{is_ready}
use Rattle.conn_rules.specs.Progress.{Progress, progress_of, ComeInOrder}
use Rattle.conn_rules.specs.Progress.Progress.{Connecting, Ready, Ended}
use Rattle.conn_rules.proofs.Pieces.{heard_then}
use Rattle.conn_rules.proofs.Quiet.{ready_silence, end_silence}
use Rattle.conn_rules.proofs.Order.{handshake_in_order}
use Rattle.viewer_run.specs.Greeting.{greeting}
use Rattle.viewer_run.specs.Greeting.Greeting.{IsReady}

-- no bytes lead nowhere
pub heard_first : (size : Size) → first_hearing size ≡ (heard (first_hearing size) []).after
unfolding heard
heard_first size = refl

-- steps behind those of a client that is ready
pub ready_then : (n name : List ℕ) (confirmed : Confirmed) (rest xs ys : List ConnStep) → greeting n xs ≡ IsReady name confirmed rest
    → greeting n (xs ++ ys) ≡ IsReady name confirmed (rest ++ ys)
ready_then n name confirmed rest [] ys e = absurd (cc e)
ready_then n name confirmed rest (step.Named other ∷ xs) ys e = ready_then other name confirmed rest xs ys e
ready_then n name confirmed rest (step.Ready c ∷ xs) ys e =
    let is_name : n ≡ name = cc e in
    let is_confirmed : c ≡ confirmed = cc e in
    let is_rest : xs ≡ rest = cc e in
    ap (λ (k : List ℕ). IsReady k c (xs ++ ys)) is_name
    ∙ (ap (λ (k : Confirmed). IsReady name k (xs ++ ys)) is_confirmed ∙ ap (λ (l : List ConnStep). IsReady name confirmed (l ++ ys)) is_rest)
ready_then n name confirmed rest (step.Event event ∷ xs) ys e = ready_then n name confirmed rest xs ys e
ready_then n name confirmed rest (step.Refresh area ∷ xs) ys e = ready_then n name confirmed rest xs ys e
ready_then n name confirmed rest (step.Suppress stop ∷ xs) ys e = ready_then n name confirmed rest xs ys e
ready_then n name confirmed rest (step.Shutdown ∷ xs) ys e = ready_then n name confirmed rest xs ys e
ready_then n name confirmed rest (step.Bye ∷ xs) ys e = absurd (cc e)
ready_then n name confirmed rest (step.Packet ∷ xs) ys e = ready_then n name confirmed rest xs ys e

-- ---- a client that is ready connects no more

abbrev IsPast : Progress → Type 0
IsPast Connecting = ⊥
IsPast Ready = ⊤
IsPast Ended = ⊤

past_ready : (xs : List ConnStep) (after : Progress) → ComeInOrder Ready xs after → IsPast after
past_ready [] Connecting h = absurd h
past_ready [] Ready h = tt
past_ready [] Ended h = tt
past_ready (step.Named name ∷ xs) after h = absurd h
past_ready (step.Ready confirmed ∷ xs) after h = absurd h
past_ready (step.Event event ∷ xs) after h = past_ready xs after h
past_ready (step.Refresh area ∷ xs) after h = past_ready xs after h
past_ready (step.Suppress stop ∷ xs) after h = past_ready xs after h
past_ready (step.Shutdown ∷ xs) after h = subst IsPast (sym h.1) tt
past_ready (step.Bye ∷ xs) after h = subst IsPast (sym h.1) tt
past_ready (step.Packet ∷ xs) after h = past_ready xs after h

past_greeting : (n name : List ℕ) (confirmed : Confirmed) (rest xs : List ConnStep) (after : Progress) → greeting n xs ≡ IsReady name confirmed rest → ComeInOrder Connecting xs after
    → IsPast after
past_greeting n name confirmed rest [] after e h = absurd (cc e)
past_greeting n name confirmed rest (step.Named other ∷ xs) after e h = past_greeting other name confirmed rest xs after e h
past_greeting n name confirmed rest (step.Ready c ∷ xs) after e h = past_ready xs after h
past_greeting n name confirmed rest (step.Event event ∷ xs) after e h = absurd h
past_greeting n name confirmed rest (step.Refresh area ∷ xs) after e h = absurd h
past_greeting n name confirmed rest (step.Suppress stop ∷ xs) after e h = absurd h
past_greeting n name confirmed rest (step.Shutdown ∷ xs) after e h = absurd h
past_greeting n name confirmed rest (step.Bye ∷ xs) after e h = absurd (cc e)
past_greeting n name confirmed rest (step.Packet ∷ xs) after e h = absurd h

silent_by : (h : Hearing) (s : Stage) (bytes : List ℕ) → h.stage ≡ s → IsPast (progress_of s) → (heard h bytes).replies ≡ []
silent_by h stage.Request bytes e past = absurd past
silent_by h (stage.Initial asked) bytes e past = absurd past
silent_by h (stage.Erect client) bytes e past = absurd past
silent_by h (stage.Attach client) bytes e past = absurd past
silent_by h (stage.Joins client user io) bytes e past = absurd past
silent_by h (stage.Shares channels (phase.Confirm depth)) bytes e past = absurd past
silent_by h (stage.Shares channels (phase.Finish confirmed next)) bytes e past = absurd past
silent_by h (stage.Shares channels phase.Ready) bytes e past = ready_silence h bytes (ap is_ready e)
silent_by h stage.Over bytes e past = ap (λ (x : Heard). x.replies) (end_silence h bytes (ap is_over e))
silent_by h (stage.Refused k at) bytes e past = ap (λ (x : Heard). x.replies) (end_silence h bytes (ap is_over e))

-- a stream of which a first stretch makes the client ready: its replies, its steps, and where it stands
pub record IsReadyStream (size : Size) (first more : List ℕ) (h : Hearing) (name : List ℕ) (confirmed : Confirmed) (rest : List ConnStep) : Type 0 where
  pub replies : (host_handshake size (first ++ more)).replies ≡ (host_handshake size first).replies
  pub ready : greeting [] (host_handshake size (first ++ more)).steps ≡ IsReady name confirmed (rest ++ (heard h more).steps)
  pub after : (host_handshake size (first ++ more)).after ≡ (heard h more).after

pub ready_stream : (size : Size) (first more : List ℕ) (h : Hearing) (name : List ℕ) (confirmed : Confirmed) (rest : List ConnStep) → h ≡ (host_handshake size first).after
    → greeting [] (host_handshake size first).steps ≡ IsReady name confirmed rest → IsReadyStream size first more h name confirmed rest
ready_stream size first more h name confirmed rest at is =
    let one : Heard = host_handshake size first in
    let both : host_handshake size (first ++ more) ≡ then_heard (host_handshake size first) (heard h more)
    = heard_then (first_hearing size) first more ∙ ap (λ (x : Hearing). then_heard (host_handshake size first) (heard x more)) (sym at) in
    let quiet : (heard h more).replies ≡ []
    = silent_by h h.stage more refl (subst (λ (x : Hearing). IsPast (progress_of x.stage)) (sym at)
    (past_greeting [] name confirmed rest (host_handshake size first).steps (progress_of (host_handshake size first).after.stage) is (handshake_in_order size first))) in
    record {
      replies = ap (λ (x : Heard). x.replies) both ∙ (ap (λ l. (host_handshake size first).replies ++ l) quiet ∙ append-nil (host_handshake size first).replies);
      ready = ap (λ (x : Heard). greeting [] x.steps) both ∙ ready_then [] name confirmed rest (host_handshake size first).steps (heard h more).steps is;
      after = ap (λ (x : Heard). x.after) both;
    }
