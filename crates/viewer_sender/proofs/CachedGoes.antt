-- What a drawing takes from caches, and what is written with it.
use Rattle.std.proofs.Common.{◌≡◌, ℕ, List, [], ◌∷◌, ◌++◌, ap, sym, ◌∙◌, subst, Some, None}
use Rattle.std.specs.Prelude.{Option, ℤ}
use Rattle.px_core.specs.declared.rectangle.Rect.{Rect}
use Rattle.draw_ops.specs.declared.shape.Drawing.{Drawing}
use Rattle.draw_ops.specs.declared.shape.Shape.{Shape}
use Rattle.draw_ops.specs.declared.shape.Shape.TheVariants.{Pat, Blit, Blit3}
use Rattle.draw_ops.specs.Content.{ImageOf}
use Rattle.draw_ops.specs.Slots.{Loaded}
use Rattle.caps_sets.specs.declared.confirmed.Confirmed.{Confirmed}
use Rattle.session_rules.specs.Pending.{Pending}
use Rattle.order_fields.specs.NamedDrawing.NamedDrawing.{Pat as PatBlt, Mem as MemBlt, Mem3 as Mem3Blt}
use Rattle.frame_rules.specs.Support.{image_cache}
use Rattle.frame_rules.specs.Frame.{Sent}
use Rattle.frame_rules.specs.FrameOrders.{Uses, Sending, sending, sending_by, or_0, bounds_of, image_use, brush_use}
use Rattle.frame_rules.specs.FrameOrders.SentOrder.{Drawn}
use Rattle.frame_plan.specs.declared.orders.Planned.{Planned}
use Rattle.frame_plan.specs.declared.cached.Cached.{Cached}
use Rattle.frame_plan.specs.declared.cached.Cached.TheVariants.{Brush, Image, ImageAndBrush, Glyphs}
use Rattle.frame_plan.specs.Orders.{cache_for, cached_with, cached_of, sent_as}
use Rattle.viewer_sender.specs.declared.writer.FrameWriter.{FrameWriter}
use Rattle.viewer_sender.specs.Writes.{Writes}
use Rattle.viewer_sender.specs.Goes.{GoesWith, SentGoes}

-- a drawing that can be written goes with what it takes
pub goes_with : (c : Confirmed) (p : Planned) → p.cached ≡ cached_of c (sent_as p) → SentGoes c (sent_as p) → GoesWith p.pending.drawing.shape p.cached
goes_with c p is goes = subst (λ (x : Cached). GoesWith p.pending.drawing.shape x) (sym is) goes.cached

-- what it takes, by its shape
pub taken_by : (c : Confirmed) (p : Pending) (d : Drawing) (shape : Shape) (x y : Cached) → x ≡ cached_with (cache_for c p p.drawing.shape) p.image p.brush → d ≡ p.drawing
    → d.shape ≡ shape → x ≡ y → y ≡ cached_with (cache_for c p shape) p.image p.brush
taken_by c p d shape x y h e is same =
    sym same
    ∙ (h
    ∙ (ap (λ (z : Drawing). cached_with (cache_for c p z.shape) p.image p.brush) (sym e)
    ∙ ap (λ (s : Shape). cached_with (cache_for c p s) p.image p.brush) is))

-- ---- its slots held what it takes, which goes to the cache that serves

pub brush_taken : (k : Option ℕ) (i : Option (Loaded ImageOf)) (b : Option (Loaded (List ℕ))) (brush : Loaded (List ℕ)) → Brush brush ≡ cached_with k i b → b ≡ Some brush
brush_taken None i None brush e = absurd (cc e)
brush_taken None i (Some own) brush e = cc e
brush_taken (Some n) None b brush e = absurd (cc e)
brush_taken (Some n) (Some held) None brush e = absurd (cc e)
brush_taken (Some n) (Some held) (Some own) brush e = absurd (cc e)

pub image_taken : (k : Option ℕ) (i : Option (Loaded ImageOf)) (b : Option (Loaded (List ℕ))) (cache : ℕ) (image : Loaded ImageOf) → Image cache image ≡ cached_with k i b
    → (k ≡ Some cache) × (i ≡ Some image)
image_taken None i None cache image e = absurd (cc e)
image_taken None i (Some own) cache image e = absurd (cc e)
image_taken (Some n) None b cache image e = absurd (cc e)
image_taken (Some n) (Some held) None cache image e = (cc e, cc e)
image_taken (Some n) (Some held) (Some own) cache image e = absurd (cc e)

pub both_taken : (k : Option ℕ) (i : Option (Loaded ImageOf)) (b : Option (Loaded (List ℕ))) (cache : ℕ) (image : Loaded ImageOf) (brush : Loaded (List ℕ))
    → ImageAndBrush cache image brush ≡ cached_with k i b → (k ≡ Some cache) × ((i ≡ Some image) × (b ≡ Some brush))
both_taken None i None cache image brush e = absurd (cc e)
both_taken None i (Some own) cache image brush e = absurd (cc e)
both_taken (Some n) None b cache image brush e = absurd (cc e)
both_taken (Some n) (Some held) None cache image brush e = absurd (cc e)
both_taken (Some n) (Some held) (Some own) cache image brush e = (cc e, (cc e, cc e))

pub run_taken : (k : Option ℕ) (i : Option (Loaded ImageOf)) (b : Option (Loaded (List ℕ))) (cache : ℕ) → Glyphs cache ≡ cached_with k i b → k ≡ Some cache
run_taken None i None cache e = absurd (cc e)
run_taken None i (Some own) cache e = absurd (cc e)
run_taken (Some n) None b cache e = cc e
run_taken (Some n) (Some held) None cache e = absurd (cc e)
run_taken (Some n) (Some held) (Some own) cache e = absurd (cc e)

-- ---- what is written with it is what the drawing sends

module _ (a b : FrameWriter) (s : Sent) (clip : Option Rect) (r : Rect) (code : ℕ) where
  abbrev pat_sending : Uses → Option (Loaded (List ℕ)) → Sending
  pat_sending uses o =
      let u = brush_use a.confirmed uses o in
      sending (u.orders ++ Drawn r (PatBlt r code u.index) (bounds_of r clip) ∷ []) u.uses

  pub pat_as : (slot : ℕ) (brush : Loaded (List ℕ)) → s.pending.brush ≡ Some brush → Writes a b (λ uses. pat_sending uses (Some brush))
      → Writes a b (λ uses. sending_by a.confirmed uses s clip (Pat r code slot))
  pat_as slot brush e h = subst (λ (o : Option (Loaded (List ℕ))). Writes a b (λ uses. pat_sending uses o)) (sym e) h

  module _ (sx sy : ℤ) (cache : ℕ) (image : Loaded ImageOf) (serves : image_cache a.confirmed s.pending.image ≡ Some cache) (held : s.pending.image ≡ Some image) where
    abbrev blit_sending : Uses → ℕ → Option (Loaded ImageOf) → Sending
    blit_sending uses n o =
        let i = image_use a.confirmed uses n o in
        sending (i.orders ++ Drawn r (MemBlt n i.index r code sx sy) (bounds_of r clip) ∷ []) i.uses

    pub blit_as : (slot : ℕ) → Writes a b (λ uses. blit_sending uses cache (Some image)) → Writes a b (λ uses. sending_by a.confirmed uses s clip (Blit r code slot sx sy))
    blit_as slot h =
        subst (λ (n : ℕ). Writes a b (λ uses. blit_sending uses n s.pending.image)) (sym (ap or_0 serves))
        (subst (λ (o : Option (Loaded ImageOf)). Writes a b (λ uses. blit_sending uses cache o)) (sym held) h)

    abbrev blit3_sending : Uses → ℕ → Option (Loaded ImageOf) → Option (Loaded (List ℕ)) → Sending
    blit3_sending uses n o p =
        let i = image_use a.confirmed uses n o in
        let u = brush_use a.confirmed i.uses p in
        sending (i.orders ++ (u.orders ++ Drawn r (Mem3Blt n i.index r code sx sy u.index) (bounds_of r clip) ∷ [])) u.uses

    pub blit3_as : (slot own : ℕ) (brush : Loaded (List ℕ)) → s.pending.brush ≡ Some brush → Writes a b (λ uses. blit3_sending uses cache (Some image) (Some brush))
        → Writes a b (λ uses. sending_by a.confirmed uses s clip (Blit3 r code slot sx sy own))
    blit3_as slot own brush e h =
        subst (λ (n : ℕ). Writes a b (λ uses. blit3_sending uses n s.pending.image s.pending.brush)) (sym (ap or_0 serves))
        (subst (λ (o : Option (Loaded ImageOf)). Writes a b (λ uses. blit3_sending uses cache o s.pending.brush)) (sym held)
        (subst (λ (p : Option (Loaded (List ℕ))). Writes a b (λ uses. blit3_sending uses cache (Some image) p)) (sym e) h))
