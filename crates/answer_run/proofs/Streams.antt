-- Steps, what they ask for and what is sent for them, one stretch after another.
use Rattle.std.proofs.Common.{◌≡◌, ℕ, List, [], ◌∷◌, ◌++◌, refl, ap, sym, ◌∙◌, subst, append_assoc, append-nil}
use Rattle.std.specs.Prelude.{Bool, true, false, All, Some, None}
use Rattle.std.proofs.lemmas.List.Elements.{All-head, All-tail}
use Rattle.caps_sets.specs.declared.confirmed.Confirmed.{Confirmed}
use Rattle.caps_sets.specs.Confirmed.{plain}
use Rattle.session_rules.specs.Journal.{Head}
use Rattle.frame_rules.specs.Encoder.{Encoder}
use Rattle.frame_rules.specs.Describes.{HasAllCaches}
use Rattle.script_rules.specs.Script.{Asked, is_invited}
use Rattle.script_rules.specs.CaptureText.{Run, run_after, run_after_all, sent_by, sent_from, encoder_frames}
use Rattle.headline.specs.Headline.{ConfirmAllCaches}
use Rattle.conn_rules.specs.declared.conn_step.ConnStep.{ConnStep}
use Rattle.conn_rules.specs.declared.conn_step.ConnStep.TheVariants as step
use Rattle.conn_rules.specs.declared.stage.Stage.{Stage}
use Rattle.conn_rules.specs.declared.stage.Stage.TheVariants as stage
use Rattle.conn_rules.specs.declared.stage.SharePhase.TheVariants as phase
use Rattle.conn_rules.specs.Told.{is_ready}
use Rattle.conn_rules.specs.Hearing.{Hearing, Heard, is_over, silent, then_heard, heard}
use Rattle.conn_rules.proofs.Pieces.{heard_then}
use Rattle.conn_rules.specs.Progress.{Progress, progress_of, StaysOrEnds, ComeInOrder}
use Rattle.conn_rules.specs.Progress.Progress.{Connecting, Ready, Ended}
use Rattle.conn_rules.proofs.Quiet.{ready_silence, end_silence}
use Rattle.answer_run.specs.Asking.{Guest, asked_at_ready, guest_if, asked_by_viewer, asked_by, guest_after, asked_from, guest_after_all}
use Rattle.answer_run.specs.Asking.Guest.{Coming, Viewing, TurnedAway}
use Rattle.answer_run.specs.declared.ending.Ending.{Ending}
use Rattle.answer_run.specs.Service.{last_word}
use Rattle.answer_run.specs.Visits.{HasCaches}
use Rattle.answer_run.specs.Serves.{IsAsFar}

-- ---- joined

pub guests_joined : (head : Head) (g : Guest) (xs ys : List ConnStep) → guest_after_all head g (xs ++ ys) ≡ guest_after_all head (guest_after_all head g xs) ys
guests_joined head g [] ys = refl
guests_joined head g (x ∷ xs) ys = guests_joined head (guest_after head g x) xs ys

pub asked_joined : (head : Head) (g : Guest) (xs ys : List ConnStep) → asked_from head g (xs ++ ys) ≡ asked_from head g xs ++ asked_from head (guest_after_all head g xs) ys
asked_joined head g [] ys = refl
asked_joined head g (x ∷ xs) ys =
    ap (λ a. asked_by head g x ++ a) (asked_joined head (guest_after head g x) xs ys)
    ∙ sym (append_assoc (asked_by head g x) (asked_from head (guest_after head g x) xs) (asked_from head (guest_after_all head (guest_after head g x) xs) ys))

pub runs_joined : (head : Head) (run : Run Encoder) (xs ys : List Asked)
    → run_after_all encoder_frames head run (xs ++ ys) ≡ run_after_all encoder_frames head (run_after_all encoder_frames head run xs) ys
runs_joined head run [] ys = refl
runs_joined head run (x ∷ xs) ys = runs_joined head (run_after encoder_frames head run x) xs ys

pub sent_joined : (head : Head) (run : Run Encoder) (xs ys : List Asked) (v : ℕ)
    → sent_from encoder_frames head run (xs ++ ys) v ≡ sent_from encoder_frames head run xs v ++ sent_from encoder_frames head (run_after_all encoder_frames head run xs) ys v
sent_joined head run [] ys v = refl
sent_joined head run (x ∷ xs) ys v =
    let next = run_after encoder_frames head run x in
    ap (λ b. sent_by encoder_frames head run x v ++ b) (sent_joined head next xs ys v)
    ∙ sym (append_assoc (sent_by encoder_frames head run x v) (sent_from encoder_frames head next xs v) (sent_from encoder_frames head (run_after_all encoder_frames head next xs) ys v))

pub words_joined : (xs ys : List ConnStep) → last_word xs ≡ None → last_word (xs ++ ys) ≡ last_word ys
words_joined [] ys e = refl
words_joined (step.Named name ∷ xs) ys e = words_joined xs ys e
words_joined (step.Ready confirmed ∷ xs) ys e = words_joined xs ys e
words_joined (step.Event event ∷ xs) ys e = words_joined xs ys e
words_joined (step.Refresh area ∷ xs) ys e = words_joined xs ys e
words_joined (step.Suppress stop ∷ xs) ys e = words_joined xs ys e
words_joined (step.Shutdown ∷ xs) ys e = absurd (cc e)
words_joined (step.Bye ∷ xs) ys e = absurd (cc e)
words_joined (step.Packet ∷ xs) ys e = words_joined xs ys e

-- ---- clients

pub viewing_stays : (head : Head) (xs : List ConnStep) → guest_after_all head Viewing xs ≡ Viewing
viewing_stays head [] = refl
viewing_stays head (x ∷ xs) = viewing_stays head xs

pub away_stays : (head : Head) (xs : List ConnStep) → guest_after_all head TurnedAway xs ≡ TurnedAway
away_stays head [] = refl
away_stays head (x ∷ xs) = away_stays head xs

pub away_asks : (head : Head) (xs : List ConnStep) → asked_from head TurnedAway xs ≡ []
away_asks head [] = refl
away_asks head (x ∷ xs) = away_asks head xs

viewing_is_no_newcomer : (head : Head) (xs : List ConnStep) (m : List ℕ) → guest_after_all head Viewing xs ≡ Coming m → ⊥
viewing_is_no_newcomer head xs m e = let k = sym (viewing_stays head xs) ∙ e in cc k

away_is_no_newcomer : (head : Head) (xs : List ConnStep) (m : List ℕ) → guest_after_all head TurnedAway xs ≡ Coming m → ⊥
away_is_no_newcomer head xs m e = let k = sym (away_stays head xs) ∙ e in cc k

no_newcomer : (head : Head) (t : Bool) (xs : List ConnStep) (m : List ℕ) → guest_after_all head (guest_if t) xs ≡ Coming m → ⊥
no_newcomer head true xs m e = viewing_is_no_newcomer head xs m e
no_newcomer head false xs m e = away_is_no_newcomer head xs m e

-- one that is still to come asked for nothing
pub newcomer_asks : (head : Head) (name m : List ℕ) (xs : List ConnStep) → guest_after_all head (Coming name) xs ≡ Coming m → asked_from head (Coming name) xs ≡ []
newcomer_asks head name m [] e = refl
newcomer_asks head name m (step.Named other ∷ xs) e = newcomer_asks head other m xs e
newcomer_asks head name m (step.Ready confirmed ∷ xs) e = absurd (no_newcomer head (is_invited name head.rows) xs m e)
newcomer_asks head name m (step.Event event ∷ xs) e = newcomer_asks head name m xs e
newcomer_asks head name m (step.Refresh area ∷ xs) e = newcomer_asks head name m xs e
newcomer_asks head name m (step.Suppress stop ∷ xs) e = newcomer_asks head name m xs e
newcomer_asks head name m (step.Shutdown ∷ xs) e = newcomer_asks head name m xs e
newcomer_asks head name m (step.Bye ∷ xs) e = newcomer_asks head name m xs e
newcomer_asks head name m (step.Packet ∷ xs) e = newcomer_asks head name m xs e

-- ---- how far a client is

far_if : (t : Bool) → IsAsFar (guest_if t) Ready
far_if true = tt
far_if false = tt

stays_as_far : (g : Guest) (a b : Progress) → IsAsFar g a → StaysOrEnds a b → IsAsFar g b
stays_as_far (Coming name) Connecting Connecting f o = tt
stays_as_far (Coming name) Connecting Ready f o = absurd o
stays_as_far (Coming name) Connecting Ended f o = tt
stays_as_far (Coming name) Ready b f o = absurd f
stays_as_far (Coming name) Ended b f o = subst (λ p. IsAsFar (Coming name) p) (sym o) tt
stays_as_far Viewing Connecting b f o = absurd f
stays_as_far Viewing Ready Connecting f o = absurd o
stays_as_far Viewing Ready Ready f o = tt
stays_as_far Viewing Ready Ended f o = tt
stays_as_far Viewing Ended b f o = subst (λ p. IsAsFar Viewing p) (sym o) tt
stays_as_far TurnedAway Connecting b f o = absurd f
stays_as_far TurnedAway Ready Connecting f o = absurd o
stays_as_far TurnedAway Ready Ready f o = tt
stays_as_far TurnedAway Ready Ended f o = tt
stays_as_far TurnedAway Ended b f o = subst (λ p. IsAsFar TurnedAway p) (sym o) tt

none_as_far : (g : Guest) (a b : Progress) → IsAsFar g a → ComeInOrder a [] b → IsAsFar g b
none_as_far g Connecting b f o = stays_as_far g Connecting b f o
none_as_far g Ready b f o = stays_as_far g Ready b f o
none_as_far g Ended b f o = stays_as_far g Ended b f o

-- a client that was let in, or wasn't, stays so
settled_as_far : (g : Guest) → IsAsFar g Ready → IsAsFar g Ended
settled_as_far (Coming name) f = absurd f
settled_as_far Viewing f = tt
settled_as_far TurnedAway f = tt

ready_guest : (head : Head) (g : Guest) (x : ConnStep) → IsAsFar g Ready → guest_after head g x ≡ g
ready_guest head (Coming name) x f = absurd f
ready_guest head Viewing x f = refl
ready_guest head TurnedAway x f = refl

ended_guest : (head : Head) (g : Guest) (x : ConnStep) (steps last : List ConnStep) (b : Progress) → IsAsFar g Ready → (steps ≡ step.Packet ∷ []) × (b ≡ Ended)
    → IsAsFar (guest_after_all head (guest_after head g x) steps) b
ended_guest head g x steps last b f o =
    subst (λ p. IsAsFar (guest_after_all head (guest_after head g x) steps) p) (sym o.1)
    (subst (λ xs. IsAsFar (guest_after_all head (guest_after head g x) xs) Ended) (sym o.0)
    (subst (λ k. IsAsFar (guest_after head k step.Packet) Ended) (sym (ready_guest head g x f)) (subst (λ k. IsAsFar k Ended) (sym (ready_guest head g step.Packet f)) (settled_as_far g f))))

pub as_far : (head : Head) (g : Guest) (a b : Progress) (xs : List ConnStep) → IsAsFar g a → ComeInOrder a xs b → IsAsFar (guest_after_all head g xs) b
as_far head g a b [] f o = none_as_far g a b f o
as_far head (Coming name) Connecting b (step.Named other ∷ xs) f o = as_far head (Coming other) Connecting b xs tt o
as_far head (Coming name) Connecting b (step.Ready confirmed ∷ xs) f o = as_far head (guest_if (is_invited name head.rows)) Ready b xs (far_if (is_invited name head.rows)) o
as_far head (Coming name) Connecting b (step.Event event ∷ xs) f o = absurd o
as_far head (Coming name) Connecting b (step.Refresh area ∷ xs) f o = absurd o
as_far head (Coming name) Connecting b (step.Suppress stop ∷ xs) f o = absurd o
as_far head (Coming name) Connecting b (step.Shutdown ∷ xs) f o = absurd o
as_far head (Coming name) Connecting b (step.Bye ∷ xs) f o =
    subst (λ p. IsAsFar (guest_after_all head (Coming name) xs) p) (sym o.1) (subst (λ ys. IsAsFar (guest_after_all head (Coming name) ys) Ended) (sym o.0) tt)
as_far head (Coming name) Connecting b (step.Packet ∷ xs) f o = absurd o
as_far head (Coming name) Ready b (x ∷ xs) f o = absurd f
as_far head (Coming name) Ended b (x ∷ xs) f o = absurd o
as_far head Viewing Connecting b (x ∷ xs) f o = absurd f
as_far head Viewing Ready b (step.Named other ∷ xs) f o = absurd o
as_far head Viewing Ready b (step.Ready confirmed ∷ xs) f o = absurd o
as_far head Viewing Ready b (step.Event event ∷ xs) f o = as_far head Viewing Ready b xs f o
as_far head Viewing Ready b (step.Refresh area ∷ xs) f o = as_far head Viewing Ready b xs f o
as_far head Viewing Ready b (step.Suppress stop ∷ xs) f o = as_far head Viewing Ready b xs f o
as_far head Viewing Ready b (step.Shutdown ∷ xs) f o = ended_guest head Viewing step.Shutdown xs [] b f o
as_far head Viewing Ready b (step.Bye ∷ xs) f o = ended_guest head Viewing step.Bye xs [] b f o
as_far head Viewing Ready b (step.Packet ∷ xs) f o = as_far head Viewing Ready b xs f o
as_far head Viewing Ended b (x ∷ xs) f o = absurd o
as_far head TurnedAway Connecting b (x ∷ xs) f o = absurd f
as_far head TurnedAway Ready b (step.Named other ∷ xs) f o = absurd o
as_far head TurnedAway Ready b (step.Ready confirmed ∷ xs) f o = absurd o
as_far head TurnedAway Ready b (step.Event event ∷ xs) f o = as_far head TurnedAway Ready b xs f o
as_far head TurnedAway Ready b (step.Refresh area ∷ xs) f o = as_far head TurnedAway Ready b xs f o
as_far head TurnedAway Ready b (step.Suppress stop ∷ xs) f o = as_far head TurnedAway Ready b xs f o
as_far head TurnedAway Ready b (step.Shutdown ∷ xs) f o = ended_guest head TurnedAway step.Shutdown xs [] b f o
as_far head TurnedAway Ready b (step.Bye ∷ xs) f o = ended_guest head TurnedAway step.Bye xs [] b f o
as_far head TurnedAway Ready b (step.Packet ∷ xs) f o = as_far head TurnedAway Ready b xs f o
as_far head TurnedAway Ended b (x ∷ xs) f o = absurd o

-- a stream that said its last word has ended
pub word_ends : (a b : Progress) (xs : List ConnStep) (how : Ending) → ComeInOrder a xs b → last_word xs ≡ Some how → b ≡ Ended
word_ends a b [] how o e = absurd (cc e)
word_ends Connecting b (step.Named name ∷ xs) how o e = word_ends Connecting b xs how o e
word_ends Connecting b (step.Ready confirmed ∷ xs) how o e = word_ends Ready b xs how o e
word_ends Connecting b (step.Event event ∷ xs) how o e = absurd o
word_ends Connecting b (step.Refresh area ∷ xs) how o e = absurd o
word_ends Connecting b (step.Suppress stop ∷ xs) how o e = absurd o
word_ends Connecting b (step.Shutdown ∷ xs) how o e = absurd o
word_ends Connecting b (step.Bye ∷ xs) how o e = o.1
word_ends Connecting b (step.Packet ∷ xs) how o e = absurd o
word_ends Ready b (step.Named name ∷ xs) how o e = absurd o
word_ends Ready b (step.Ready confirmed ∷ xs) how o e = absurd o
word_ends Ready b (step.Event event ∷ xs) how o e = word_ends Ready b xs how o e
word_ends Ready b (step.Refresh area ∷ xs) how o e = word_ends Ready b xs how o e
word_ends Ready b (step.Suppress stop ∷ xs) how o e = word_ends Ready b xs how o e
word_ends Ready b (step.Shutdown ∷ xs) how o e = o.1
word_ends Ready b (step.Bye ∷ xs) how o e = o.1
word_ends Ready b (step.Packet ∷ xs) how o e = word_ends Ready b xs how o e
word_ends Ended b (x ∷ xs) how o e = absurd o

-- ---- what is heard

pub ended_is_over : (s : Stage) → progress_of s ≡ Ended → is_over s ≡ true
ended_is_over stage.Request e = absurd (cc e)
ended_is_over (stage.Initial asked) e = absurd (cc e)
ended_is_over (stage.Erect client) e = absurd (cc e)
ended_is_over (stage.Attach client) e = absurd (cc e)
ended_is_over (stage.Joins client user io) e = absurd (cc e)
ended_is_over (stage.Shares channels (phase.Confirm depth)) e = absurd (cc e)
ended_is_over (stage.Shares channels (phase.Finish confirmed next)) e = absurd (cc e)
ended_is_over (stage.Shares channels phase.Ready) e = absurd (cc e)
ended_is_over stage.Over e = refl
ended_is_over (stage.Refused k at) e = refl

ready_is_ready : (s : Stage) → progress_of s ≡ Ready → is_ready s ≡ true
ready_is_ready stage.Request e = absurd (cc e)
ready_is_ready (stage.Initial asked) e = absurd (cc e)
ready_is_ready (stage.Erect client) e = absurd (cc e)
ready_is_ready (stage.Attach client) e = absurd (cc e)
ready_is_ready (stage.Joins client user io) e = absurd (cc e)
ready_is_ready (stage.Shares channels (phase.Confirm depth)) e = absurd (cc e)
ready_is_ready (stage.Shares channels (phase.Finish confirmed next)) e = absurd (cc e)
ready_is_ready (stage.Shares channels phase.Ready) e = refl
ready_is_ready stage.Over e = absurd (cc e)
ready_is_ready (stage.Refused k at) e = absurd (cc e)

quiet_by : (p : Progress) (h : Hearing) (bytes : List ℕ) → progress_of h.stage ≡ p → IsAsFar TurnedAway p → (heard h bytes).replies ≡ []
quiet_by Connecting h bytes e f = absurd f
quiet_by Ready h bytes e f = ready_silence h bytes (ready_is_ready h.stage e)
quiet_by Ended h bytes e f = ap (λ (x : Heard). x.replies) (end_silence h bytes (ended_is_over h.stage e))

-- nothing is replied to a client that was let in, or wasn't
pub is_quiet : (h : Hearing) (bytes : List ℕ) → IsAsFar TurnedAway (progress_of h.stage) → (heard h bytes).replies ≡ []
is_quiet h bytes f = quiet_by (progress_of h.stage) h bytes refl f

pub viewing_far : (p : Progress) → IsAsFar Viewing p → IsAsFar TurnedAway p
viewing_far Connecting f = absurd f
viewing_far Ready f = tt
viewing_far Ended f = tt

no_more : {A : Type 0} (xs ys : List A) → xs ≡ xs ++ ys → ys ≡ []
no_more [] ys e = sym e
no_more (x ∷ xs) ys e = no_more xs ys (cc e)

abbrev heard_as : List ℕ → List ConnStep → Hearing → Heard
heard_as replies steps after = record { replies = replies; steps = steps; after = after }

-- nothing more is heard of no bytes
pub still_after : (h : Hearing) (bytes : List ℕ) → heard (heard h bytes).after [] ≡ silent (heard h bytes).after
still_after h bytes =
    let x = heard h bytes in
    let y = heard x.after [] in
    let e : x ≡ then_heard x y = ap (heard h) (sym (append-nil bytes)) ∙ heard_then h bytes [] in
    let replies = no_more x.replies y.replies (ap (λ (z : Heard). z.replies) e) in
    let steps = no_more x.steps y.steps (ap (λ (z : Heard). z.steps) e) in
    ap (λ r. heard_as r y.steps y.after) replies ∙ (ap (λ s. heard_as [] s y.after) steps ∙ ap (λ h. heard_as [] [] h) (sym (ap (λ (z : Heard). z.after) e)))

-- ---- caches

plain_caches : HasAllCaches plain
plain_caches = record { bitmaps = refl; glyphs = refl }

pub caches_joined : (xs ys : List Asked) → ConfirmAllCaches xs → ConfirmAllCaches ys → ConfirmAllCaches (xs ++ ys)
caches_joined [] ys p q = q
caches_joined (x ∷ xs) ys p q = (p.0, caches_joined xs ys p.1 q)

viewer_caches : (x : ConnStep) → ConfirmAllCaches (asked_by_viewer x)
viewer_caches (step.Named name) = tt
viewer_caches (step.Ready confirmed) = tt
viewer_caches (step.Event event) = (plain_caches, tt)
viewer_caches (step.Refresh area) = (plain_caches, tt)
viewer_caches (step.Suppress stop) = (plain_caches, tt)
viewer_caches step.Shutdown = tt
viewer_caches step.Bye = tt
viewer_caches step.Packet = (plain_caches, tt)

ready_caches : (t : Bool) (name : List ℕ) (c : Confirmed) → HasAllCaches c → ConfirmAllCaches (asked_at_ready t name c)
ready_caches true name c p = (p, (plain_caches, tt))
ready_caches false name c p = (p, tt)

step_caches : (head : Head) (g : Guest) (x : ConnStep) → HasCaches x → ConfirmAllCaches (asked_by head g x)
step_caches head (Coming name) (step.Named other) p = tt
step_caches head (Coming name) (step.Ready confirmed) p = ready_caches (is_invited name head.rows) name confirmed p
step_caches head (Coming name) (step.Event event) p = tt
step_caches head (Coming name) (step.Refresh area) p = tt
step_caches head (Coming name) (step.Suppress stop) p = tt
step_caches head (Coming name) step.Shutdown p = tt
step_caches head (Coming name) step.Bye p = tt
step_caches head (Coming name) step.Packet p = tt
step_caches head Viewing x p = viewer_caches x
step_caches head TurnedAway x p = tt

pub all_caches : (head : Head) (g : Guest) (xs : List ConnStep) → All HasCaches xs → ConfirmAllCaches (asked_from head g xs)
all_caches head g [] h = tt
all_caches head g (x ∷ xs) h = caches_joined (asked_by head g x) (asked_from head (guest_after head g x) xs) (step_caches head g x (All-head HasCaches x xs h))
    (all_caches head (guest_after head g x) xs (All-tail HasCaches x xs h))
