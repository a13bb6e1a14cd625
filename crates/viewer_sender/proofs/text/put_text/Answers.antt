use Rattle.std.proofs.Common.{◌++◌, ◌∷◌, [], ◌∙◌, List, ℕ, ap, sym, subst, arith, w32, to_z, of_z}
use Rattle.std.specs.Prelude.{ℤ}
use Rattle.std.proofs.lemmas.Int.{to_z-of_z}
use Rattle.rle_enc.proofs.Pending.{on_ok_as}
use Rattle.px_core.specs.declared.rectangle.Rect.{Rect}
use Rattle.draw_ops.specs.Content.{GlyphOf}
use Rattle.draw_ops.specs.Slots.{Loaded}
use Rattle.order_fields.specs.OrderTable.{FitBounds}
use Rattle.order_fields.specs.OrderDelta.{edges_of_optional}
use Rattle.caps_sets.specs.declared.confirmed.Confirmed.{Confirmed}
use Rattle.caps_sets.specs.Confirmed.{depth_of}
use Rattle.order_fields.specs.NamedDrawing.{drawing_fields}
use Rattle.order_fields.specs.NamedDrawing.NamedDrawing.{Glyphs}
use Rattle.frame_rules.specs.Support.{run_cache}
use Rattle.frame_rules.specs.FrameOrders.{or_0, run_use, run_pairs, bounds_of, sending}
use Rattle.frame_rules.specs.FrameOrders.SentOrder.{Drawn}
use Rattle.viewer_sender.specs.Writes.{Writes}
use Rattle.viewer_sender.proofs.UseSteps.{writes_then, writes_as}
use Rattle.viewer_sender.specs.Runs.{run_sending}
use Rattle.viewer_sender.proofs.Sources.{run_source}
use Rattle.viewer_sender.proofs.text.put_text.Goals as goal

pub put_run-requires-clause-bounds : goal.put_run-requires-clause-bounds
put_run-requires-clause-bounds c =
    subst (λ (r : Rect). FitBounds (edges_of_optional (bounds_of r c.args.clip))) (sym c.rect-area.ensures) (c.requires.fits 0 [] (omega arith) (omega arith)).bounds

pub returns : goal.returns
returns c =
    let a = c.args.writer.now in
    let b = c.use_run.new.writer in
    let d = c.put_run.new.writer in
    let k = c.args.cache in
    let area = c.rect-area.result in
    let x : ℤ = to_z w32 (of_z w32 c.args.x) in
    let y : ℤ = to_z w32 (of_z w32 c.args.y) in
    let kc : ℕ = or_0 (run_cache a.confirmed c.args.pending.now.glyphs) in
    let gs = c.glyphs.result.now in
    let run = c.pairs.result.now in
    let pairs = c.in_ok-pairs.pairs.items in
    let wrote = c.in_ok-pairs.ensures.orders in
    let orders : Writes a b (λ uses. run_sending (run_use a.confirmed uses k gs)) =
    (wrote.0, λ uses stands. record { gathered = (wrote.1 uses stands).gathered; registers = (wrote.1 uses stands).registers; caches = (wrote.1 uses stands).caches }) in
    let as_before = run_source (depth_of a.confirmed) c.run_order-order.result area x y c.args.x c.args.y (to_z-of_z w32 c.args.x c.ranges.x) (to_z-of_z w32 c.args.y c.ranges.y) k c.args.color pairs
    c.run_order-order.ensures in
    let fields = as_before ∙ ap (λ (k' : Confirmed). drawing_fields (depth_of k') area (Glyphs k c.args.x c.args.y c.args.color pairs)) (sym wrote.0) in
    on_ok_as _ _ c.put_run.result c.put_run.ensures (λ writes.
    subst (λ (r : Rect). Writes a d (λ uses. sending ((run_use a.confirmed uses kc c.args.pending.now.glyphs).orders
    ++ Drawn r (Glyphs kc c.args.x c.args.y c.args.color (run_pairs (run_use a.confirmed uses kc c.args.pending.now.glyphs).indices c.args.run.now)) (bounds_of r c.args.clip) ∷ []) (run_use a.confirmed uses kc c.args.pending.now.glyphs).uses)) c.rect-area.ensures
    (subst (λ (cache : ℕ). Writes a d (λ uses. sending ((run_use a.confirmed uses cache c.args.pending.now.glyphs).orders
    ++ Drawn area (Glyphs cache c.args.x c.args.y c.args.color (run_pairs (run_use a.confirmed uses cache c.args.pending.now.glyphs).indices c.args.run.now)) (bounds_of area c.args.clip) ∷ []) (run_use a.confirmed uses cache c.args.pending.now.glyphs).uses)) c.requires.chosen
    (subst (λ (xs : List (Loaded GlyphOf)). Writes a d (λ uses. sending ((run_use a.confirmed uses k xs).orders
    ++ Drawn area (Glyphs k c.args.x c.args.y c.args.color (run_pairs (run_use a.confirmed uses k xs).indices c.args.run.now)) (bounds_of area c.args.clip) ∷ []) (run_use a.confirmed uses k xs).uses)) c.glyphs.ensures
    (subst (λ (ps : List (ℕ × ℕ)). Writes a d (λ uses. sending ((run_use a.confirmed uses k gs).orders
    ++ Drawn area (Glyphs k c.args.x c.args.y c.args.color (run_pairs (run_use a.confirmed uses k gs).indices ps)) (bounds_of area c.args.clip) ∷ []) (run_use a.confirmed uses k gs).uses)) c.pairs.ensures
    (writes_as a d (λ uses. sending ((run_use a.confirmed uses k gs).orders ++ Drawn area (Glyphs k c.args.x c.args.y c.args.color pairs) (bounds_of area c.args.clip) ∷ []) (run_use a.confirmed uses k gs).uses)
    (λ uses. sending ((run_use a.confirmed uses k gs).orders ++ Drawn area (Glyphs k c.args.x c.args.y c.args.color (run_pairs (run_use a.confirmed uses k gs).indices run)) (bounds_of area c.args.clip) ∷ []) (run_use a.confirmed uses k gs).uses)
    (λ uses stands. ap (λ (ps : List ℕ). sending ((run_use a.confirmed uses k gs).orders ++ Drawn area (Glyphs k c.args.x c.args.y c.args.color ps) (bounds_of area c.args.clip) ∷ []) (run_use a.confirmed uses k gs).uses) (c.in_ok-pairs.ensures.pairs uses stands))
    (writes_then a b d (λ uses. run_sending (run_use a.confirmed uses k gs)) (λ uses. sending (Drawn area (Glyphs k c.args.x c.args.y c.args.color pairs) (bounds_of area c.args.clip) ∷ []) uses) orders
    (writes (Glyphs k c.args.x c.args.y c.args.color pairs) fields)))))))
