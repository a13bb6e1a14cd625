-- What steps send is bytes: the orders of each frame over a legal journal hold bytes.
use Rattle.std.proofs.Common.{◌≡◌, ℕ, ◌≤◌, List, [], ◌∷◌, ◌++◌, length, refl, sym, subst, arith, append_assoc, Some, None}
use Rattle.std.specs.Prelude.{Bool, true, false, ◌&&◌, ◌==◌, nat_lt, ⊤, Option, option_to_list, if◌then◌else◌}
use Rattle.px_core.specs.declared.surface.Size.{Size}
use Rattle.px_core.specs.Rectangle.{is_session_size}
use Rattle.px_core.specs.Tiles.{Tiles}
use Rattle.draw_ops.specs.declared.shape.Drawing.{Drawing}
use Rattle.draw_ops.specs.Content.{GlyphOf}
use Rattle.draw_ops.specs.Slots.{SurfaceState}
use Rattle.caps_sets.specs.declared.confirmed.Confirmed.{Confirmed}
use Rattle.input_pdu.specs.declared.event.Event.{Event}
use Rattle.session_rules.specs.declared.entry.Role.{Role}
use Rattle.session_rules.specs.declared.entry.Entry.{Entry}
use Rattle.session_rules.specs.declared.entry.Entry.TheVariants.{Give, Input}
use Rattle.session_rules.specs.Journal.{Head, Refusal, state_after, refusal_of, is_f12, IsLegalJournal}
use Rattle.session_rules.specs.Steps.{Step, Answer, Effect, TakeOf, entered, outcome_of, effect_of, outcome, take_of, entries_from, join_effect, row_role}
use Rattle.session_rules.specs.Steps.{input_effect, is_release, receiver_of, has_work, take_effect}
use Rattle.session_rules.specs.Steps.Step.{JoinStep, LeaveStep, InputStep, DrawStep, RefreshStep, SuppressStep, TakeStep}
use Rattle.session_rules.specs.Steps.Effect.{Enters, Asks, Suppresses, Takes, Answers}
use Rattle.session_rules.specs.Steps.Answer.{Joined, Left, Accepted, Refused, Nothing, Frame}
use Rattle.session_rules.proofs.Journals.{IsLegalJournal-journal_of_steps, IsLegalJournal-front}
use Rattle.session_rules.proofs.Takes.{IsBehind, IsBehind-session_after}
use Rattle.session_rules.proofs.Fitting.{Sides, sides_of}
use Rattle.frame_rules.specs.Blocks.{Held}
use Rattle.session_rules.specs.Pending.{Pending, pending_drawings}
use Rattle.frame_rules.specs.Frame.{Walk, sent_from, first_dirty, framed_by, frame_over, is_first, most_orders}
use Rattle.frame_rules.specs.FrameOrders.{SentOrder, Uses, orders_from, start_orders, black_orders, orders_before_tiles}
use Rattle.frame_rules.specs.Encoder.{Encoder, encoder_frame}
use Rattle.frame_rules.specs.Describes.{HasAllCaches, glyph_loaded}
use Rattle.frame_laws.specs.Drawings.{AllSound, drawings_between}
use Rattle.frame_laws.proofs.Entries.{pending_between_is}
use Rattle.frame_laws.proofs.Journals.{between_sound}
use Rattle.script_rules.specs.Script.{Asked}
use Rattle.script_rules.specs.Capture.{viewer_of}
use Rattle.script_rules.specs.CaptureText.{Run, run_at_first, confirmed_after, run_after, encoder_frames}
use Rattle.headline.specs.Headline.{steps_of, HasSessionSize, ConfirmAllCaches}
use Rattle.headline.specs.Sent.{AreBytes, run_of, SendsBytes}
use Rattle.headline.specs.OrderBytes.{HoldBytes, AnswerHoldsBytes, FramesHoldBytes}
use Rattle.headline.proofs.SentInLines.{steps_send_bytes as sent_as_bytes}
use Rattle.headline.proofs.GlyphBits.{loaded_bits}
use Rattle.headline.proofs.PendingHolds.{sent_hold}
use Rattle.headline.proofs.OrdersHold.{bytes_held_append, orders_hold, start_holds, black_holds}

-- ---- a frame

together : (size : Size) (marker black : Bool) (orders : List SentOrder) → HoldBytes orders
    → HoldBytes (start_orders marker ++ (black_orders size black ++ orders))
together size marker black orders h =
    bytes_held_append (start_orders marker) (black_orders size black ++ orders) (start_holds marker)
    (bytes_held_append (black_orders size black) orders (black_holds size black) h)

-- of a frame over drawings that find sound states
frame_holds : (size : Size) → Sides size.w size.h → (c : Confirmed) → HasAllCaches c → (j : List Entry)
    → ((n : ℕ) (g : GlyphOf) → glyph_loaded size j n ≡ Some g → AreBytes g.bits)
    → (st : SurfaceState) (held : Held) (uses : Uses) (ds : List Drawing) → AllSound size j st ds → (first : Bool) (asked : Tiles) (picture : List ℕ)
    → HoldBytes (orders_before_tiles size c uses (frame_over size c first held asked picture (pending_drawings size st ds)))
frame_holds size sides c all j bits st held uses ds sound first asked picture = by (nat_lt most_orders (length (pending_drawings size st ds)))
  where
    w : Walk
    w = record { dirty = first_dirty size first c; held = held }

    by : (jump : Bool) → HoldBytes (orders_before_tiles size c uses (framed_by jump size c first w asked picture (pending_drawings size st ds)))
    by true = together size c.marker (first && c.pat) [] tt
    by false =
        let sent = sent_from size c w (pending_drawings size st ds) in
        together size c.marker (first && c.pat) (orders_from c uses sent) (orders_hold c all sent uses (sent_hold size j bits sides c ds st w sound))

module _ (head : Head) (c : Confirmed) (j : List Entry) (sized : is_session_size head.size.w head.size.h ≡ true) (all : HasAllCaches c)
    (legal : IsLegalJournal head j) where
  -- of a take
  pub take_holds : (e : Encoder) (t : TakeOf) → t.before ≤ t.number → HoldBytes (orders_before_tiles head.size c e.uses (encoder_frame head.size c j e t))
  take_holds e t up =
      let size = head.size in
      let st = (state_after size j t.before).surface in
      let ds = drawings_between size j t.before t.number in
      let picture = (state_after size j t.number).surface.picture in
      let over = frame_holds size (sides_of size.w size.h sized) c all j (loaded_bits head j legal) st e.held e.uses ds
      (between_sound head j sized legal t.before t.number up) (is_first t) t.asked picture in
      subst (λ (ps : List Pending). HoldBytes (orders_before_tiles size c e.uses (frame_over size c (is_first t) e.held t.asked picture ps)))
      (sym (pending_between_is size j t.before t.number)) over

-- ---- what viewers confirmed has all caches

caches_after : (run : Run Encoder) (a : Asked) (answer : Answer) → ((v : ℕ) → HasAllCaches (run.confirmed v)) → HasAllCaches a.confirmed → (v : ℕ)
    → HasAllCaches (confirmed_after run.confirmed a answer v)
caches_after run a (Joined u) h k v = by (u == v)
  where
    by : (b : Bool) → HasAllCaches (if b then a.confirmed else run.confirmed v)
    by true = k
    by false = h v
caches_after run a Left h k v = h v
caches_after run a Accepted h k v = h v
caches_after run a (Refused refusal) h k v = h v
caches_after run a Nothing h k v = h v
caches_after run a (Frame take) h k v = h v

-- ---- steps

module _ (head : Head) (sized : is_session_size head.size.w head.size.h ≡ true) where
  module _ (run : Run Encoder) (legal : IsLegalJournal head run.journal) (behind : IsBehind run.play) (all : (v : ℕ) → HasAllCaches (run.confirmed v))
      (u : ℕ) where
    abbrev AnswerHolds : Answer → Type 0
    AnswerHolds answer = AnswerHoldsBytes head.size run u answer

    -- an effect whose answer is a take's, or holds bytes
    abbrev EffectHolds : Effect → Type 0
    EffectHolds (Enters e answer) = AnswerHolds answer
    EffectHolds (Asks w tiles) = ⊤
    EffectHolds (Suppresses w stop) = ⊤
    EffectHolds (Takes w) = ⊤
    EffectHolds (Answers answer) = AnswerHolds answer

    entered_holds : (e : Entry) (answer : Answer) → AnswerHolds answer → (r : Option Refusal) → AnswerHolds (entered head run.play e answer r).answer
    entered_holds e answer h None = h
    entered_holds e answer h (Some q) = tt

    outcome_holds : (f : Effect) → EffectHolds f → AnswerHolds (outcome_of head run.play f).answer
    outcome_holds (Enters e answer) h = entered_holds e answer h (refusal_of head run.play.reached e)
    outcome_holds (Asks w tiles) h = tt
    outcome_holds (Suppresses w stop) h = tt
    outcome_holds (Takes w) h = take_holds head (run.confirmed u) run.journal sized (all u) legal (run.encoders u) (take_of run.play w) (behind w)
    outcome_holds (Answers answer) h = h

    join_holds : (o : Option Role) → EffectHolds (join_effect run.play o)
    join_holds None = tt
    join_holds (Some role) = tt

    input_holds : (v : ℕ) (e : Event) → EffectHolds (input_effect run.play v e)
    input_holds v e = by (is_f12 e) (is_release e)
      where
        by : (b r : Bool) → EffectHolds (if b then (if r then Answers Accepted else Enters (Give v (receiver_of run.play.reached v)) Accepted)
            else Enters (Input v e) Accepted)
        by true true = tt
        by true false = tt
        by false r = tt

    taking_holds : (work : Bool) (v : ℕ) → EffectHolds (take_effect work v)
    taking_holds true v = tt
    taking_holds false v = tt

    effect_holds : (s : Step) → EffectHolds (effect_of head run.play s)
    effect_holds (JoinStep name) = join_holds (row_role name head.rows)
    effect_holds (LeaveStep v) = tt
    effect_holds (InputStep v e) = input_holds v e
    effect_holds (DrawStep v d) = tt
    effect_holds (RefreshStep v r) = tt
    effect_holds (SuppressStep v stop) = tt
    effect_holds (TakeStep v) = taking_holds (has_work head.size run.play v) v

  -- from a run on, whose journal goes on to a legal one
  frames_hold : (asked : List Asked) (run : Run Encoder) → IsLegalJournal head (run.journal ++ entries_from head run.play (steps_of asked)) → IsBehind run.play
      → ((v : ℕ) → HasAllCaches (run.confirmed v)) → ConfirmAllCaches asked → FramesHoldBytes head run asked
  frames_hold [] run legal behind all k = tt
  frames_hold (a ∷ more) run legal behind all k =
      let o = outcome head run.play a.step in
      let one = option_to_list o.entry in
      let es = entries_from head o.play (steps_of more) in
      let now = IsLegalJournal-front head run.journal (one ++ es) legal in (
        outcome_holds run now behind all (viewer_of a.step) (effect_of head run.play a.step)
            (effect_holds run now behind all (viewer_of a.step) a.step),
        frames_hold more (run_after encoder_frames head run a) (subst (IsLegalJournal head) (sym (append_assoc run.journal one es)) legal)
            (IsBehind-session_after head run.play (a.step ∷ []) behind) (caches_after run a o.answer all k.0) k.1,
      )

-- of a new session
pub frames_hold_bytes : (head : Head) (asked : List Asked) → HasSessionSize head → ConfirmAllCaches asked → FramesHoldBytes head (run_of head []) asked
frames_hold_bytes head asked sized caches =
    frames_hold head sized asked (run_at_first encoder_frames head.size) (IsLegalJournal-journal_of_steps head (steps_of asked)) (λ v. omega arith)
    (λ v. record { bitmaps = refl; glyphs = refl }) caches

pub steps_send_bytes : (head : Head) (asked : List Asked) → HasSessionSize head → ConfirmAllCaches asked → SendsBytes head asked
steps_send_bytes head asked sized caches = sent_as_bytes head asked (frames_hold_bytes head asked sized caches)
