-- What a viewer's drawing is walked as, itself or its cut: what is sent of it is obeyed, and goes whole; what isn't sent keeps the agreement.
use Rattle.std.proofs.Common.{◌≡◌, ℕ, ◌^◌, ◌<◌, ◌≤◌, List, [], ◌∷◌, length, refl, ap, sym, ◌∙◌, subst, Some, None}
use Rattle.std.specs.Prelude.{Bool, true, false, Option}
use Rattle.px_core.specs.declared.surface.Size.{Size}
use Rattle.px_core.specs.Picture.{item}
use Rattle.draw_ops.specs.declared.shape.Drawing.{Drawing}
use Rattle.draw_ops.specs.Slots.{SurfaceState}
use Rattle.draw_ops.specs.Drawing.{state_after_drawing}
use Rattle.caps_sets.specs.declared.confirmed.Confirmed.{Confirmed}
use Rattle.session_rules.specs.declared.entry.Entry.{Entry}
use Rattle.session_rules.proofs.Fitting.{Sides}
use Rattle.order_means.specs.ClientState.{ClientState}
use Rattle.save_plan.specs.Blocks.{AreApart}
use Rattle.session_rules.specs.Pending.{Pending, pending_of}
use Rattle.frame_rules.specs.Cautious.{cut, cut_if, as_walked}
use Rattle.frame_rules.specs.Frame.{Walk, Sent, Walked, walked, walked_as, walked_pending}
use Rattle.frame_rules.specs.FrameOrders.{Uses, sending_of}
use Rattle.frame_rules.specs.Describes.{CachesAgree, IsSized, HasAllCaches}
use Rattle.frame_laws.specs.Agreement.{Agrees}
use Rattle.frame_laws.proofs.CutDrawing.{DoesWhat, cut_does}
use Rattle.frame_laws.proofs.UnsentCut.{unsent_or_cut_agrees}
use Rattle.frame_laws.specs.Uses.{ObeyedThrough}
use Rattle.frame_laws.proofs.TurnedOver.{color_item}
use Rattle.frame_laws.specs.SoundState.{IsSound}
use Rattle.frame_laws.specs.Drawings.{Suits}
use Rattle.frame_laws.proofs.Rules.{rules_kept}
use Rattle.frame_laws.proofs.WalkKeeps.{SentKeeps, UnsentKeeps}
use Rattle.frame_laws.proofs.SentKeeps.{sent_by}
use Rattle.frame_laws.proofs.SoundGood.{good_of}
use Rattle.frame_laws.proofs.CutSuits.{cut_suits}
use Rattle.frame_laws.proofs.OrdersFit.{SendingFits, sent_fits}

-- a drawing that suits the sound state that it finds
pub record Found (size : Size) (j : List Entry) (st : SurfaceState) (d : Drawing) : Type 0 where
  pub sound : IsSound size j st
  pub suits : Suits size st d

module _ (size : Size) (c : Confirmed) (j : List Entry) where
  -- what is sent of a drawing is sent of one that does what it does, and that suits the state too
  record SentAs (st : SurfaceState) (w : Walk) (d : Drawing) (o : Option Pending) (s : Sent) : Type 0 where
    drawing : Drawing
    suits : Suits size st drawing
    state : state_after_drawing size st drawing ≡ state_after_drawing size st d
    walk : walked size c w (pending_of size st drawing) drawing.shape ≡ walked_as size c w o
    sent : (walked size c w (pending_of size st drawing) drawing.shape).sent ≡ s ∷ []

  as_cut : Sides size.w size.h → (st : SurfaceState) (w : Walk) (d : Drawing) (s : Sent) → Found size j st d → (o : Option Pending)
      → cut size (pending_of size st d) ≡ o → (walked_as size c w o).sent ≡ s ∷ [] → SentAs st w d o s
  as_cut sides st w d s f None is e = absurd (cc e)
  as_cut sides st w d s f (Some q) is e =
      let does = cut_does size st f.sound.sized.pixels d.shape d.clip q is in
      record {
        drawing = q.drawing;
        suits = cut_suits size sides st d q f.suits is;
        state = does.state;
        walk = ap (λ p. walked size c w p q.drawing.shape) (sym does.pending);
        sent = ap (λ p. (walked size c w p q.drawing.shape).sent) (sym does.pending) ∙ e;
      }

  by_caution : Sides size.w size.h → (st : SurfaceState) (w : Walk) (d : Drawing) (s : Sent) → Found size j st d → (b : Bool)
      → (walked_as size c w (cut_if b size (pending_of size st d))).sent ≡ s ∷ []
      → SentAs st w d (cut_if b size (pending_of size st d)) s
  by_caution sides st w d s f true e = as_cut sides st w d s f (cut size (pending_of size st d)) refl e
  by_caution sides st w d s f false e = record { drawing = d; suits = f.suits; state = refl; walk = refl; sent = e }

  sent_as : Sides size.w size.h → (st : SurfaceState) (w : Walk) (d : Drawing) (s : Sent) → Found size j st d
      → (walked_pending size c w (pending_of size st d)).sent ≡ s ∷ []
      → SentAs st w d (as_walked size c (pending_of size st d)) s
  sent_as sides st w d s f e = by_caution sides st w d s f c.cautious e

  pub sent_keeps : (narrow : size.w ≤ 2048) → HasAllCaches c → Sides size.w size.h → SentKeeps size c j narrow (Found size j)
  sent_keeps narrow all sides st w uses client d s f e a k z =
      let x = sent_as sides st w d s f e in
      let obeyed = sent_by size c j narrow all st w uses client x.drawing.clip x.drawing.shape s x.suits.values (good_of size j st x.drawing f.sound x.suits) x.sent a k z in
      subst (λ (after : SurfaceState). ObeyedThrough size c j after (walked_pending size c w (pending_of size st d)).walk (sending_of c uses s).uses client
      (sending_of c uses s).orders) x.state
      (subst (λ (o : Walked). ObeyedThrough size c j (state_after_drawing size st x.drawing) o.walk (sending_of c uses s).uses client
      (sending_of c uses s).orders) x.walk obeyed)

  pub unsent_keeps : (narrow : size.w ≤ 2048) → UnsentKeeps size c j narrow (Found size j)
  unsent_keeps narrow st w client d f none a =
      unsent_or_cut_agrees size st f.sound.sized.pixels (λ k below. color_item st.picture k f.sound.colors) narrow client c w a d.shape d.clip none

  -- the orders go whole
  pub sent_or_cut_fits : (narrow : size.w ≤ 2048) → HasAllCaches c → Sides size.w size.h → (st : SurfaceState) (w : Walk) (uses : Uses) (d : Drawing) (s : Sent)
      → Found size j st d → AreApart w.held
      → (walked_pending size c w (pending_of size st d)).sent ≡ s ∷ [] → SendingFits c (sending_of c uses s)
  sent_or_cut_fits narrow all sides st w uses d s f apart e =
      let x = sent_as sides st w d s f e in
      sent_fits size narrow sides.not_higher c all j st w uses x.drawing.clip x.drawing.shape s f.sound
      (rules_kept size st x.drawing x.suits.fits) x.suits.values (good_of size j st x.drawing f.sound x.suits) apart x.sent
