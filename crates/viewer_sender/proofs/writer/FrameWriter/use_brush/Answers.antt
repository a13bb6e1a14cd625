use Rattle.std.proofs.Common.{◌∙◌, ◌%◌, sym, refl, ap, get_or}
use Rattle.order_means.specs.CacheOrders.{cache_brush_bytes}
use Rattle.frame_rules.specs.FrameOrders.SentOrder.{CacheBrush}
use Rattle.frame_laws.proofs.CachesFit.{brush_whole}
use Rattle.viewer_sender.specs.Gathering.{after_order}
use Rattle.viewer_sender.proofs.UseSteps.{use_hit, use_missed, wrote_hit, wrote_missed, brush_entry_below, low_byte}
use Rattle.viewer_sender.proofs.writer.FrameWriter.use_brush.Goals as goal

pub put_brush-requires-clause-short : goal.put_brush-requires-clause-short
put_brush-requires-clause-short c =
    (brush_whole c.args.self.now.confirmed (c.in-Miss.index % 256) c.args.brush.now c.requires.whole c.requires.colors).short c.args.self.now.registers

pub returns-in-Hit-clause-index : goal.returns-in-Hit-clause-index
returns-in-Hit-clause-index c = λ uses stands.
    let conf = c.args.self.now.confirmed in
    sym (ap (λ u. u.index) (use_hit conf uses 13 c.args.number c.in-Hit.index (λ index. CacheBrush index c.args.brush.now) (sym c.in-Hit.is ∙ c.in_ok-index.ensures.answer conf uses stands)))

pub returns-in-Hit-clause-orders : goal.returns-in-Hit-clause-orders
returns-in-Hit-clause-orders c = (
  refl,
  λ uses stands.
      let w = c.args.self.now in
      wrote_hit w.confirmed uses 13 c.args.number c.in-Hit.index (λ index. CacheBrush index c.args.brush.now) w _
      (sym c.in-Hit.is ∙ c.in_ok-index.ensures.answer w.confirmed uses stands) refl refl (c.in_ok-index.ensures.after w.confirmed uses stands),
)

pub returns-in_ok-put_brush-in-Miss-clause-index : goal.returns-in_ok-put_brush-in-Miss-clause-index
returns-in_ok-put_brush-in-Miss-clause-index c = λ uses stands.
    let conf = c.args.self.now.confirmed in
    sym (ap (λ u. u.index) (use_missed conf uses 13 c.args.number c.in-Miss.index (λ index. CacheBrush index c.args.brush.now) (sym c.in-Miss.is ∙ c.in_ok-index.ensures.answer conf uses stands)))

pub returns-in_ok-put_brush-in-Miss-clause-orders : goal.returns-in_ok-put_brush-in-Miss-clause-orders
returns-in_ok-put_brush-in-Miss-clause-orders c = (
  refl,
  λ uses stands.
      let w = c.args.self.now in
      let miss = sym c.in-Miss.is ∙ c.in_ok-index.ensures.answer w.confirmed uses stands in
      let below = brush_entry_below uses c.args.number c.in-Miss.index miss in
      wrote_missed w.confirmed uses 13 c.args.number c.in-Miss.index (λ index. CacheBrush index c.args.brush.now) w _ refl miss
      (c.in_ok-put_brush-in-Miss.ensures ∙ ap (λ bytes. after_order w.updates (cache_brush_bytes w.confirmed.depth (get_or bytes 0 0) c.args.brush.now)) c.to_le_bytes.ensures ∙ ap (λ entry. after_order w.updates (cache_brush_bytes w.confirmed.depth entry c.args.brush.now)) (low_byte c.in-Miss.index below)) refl
      (c.in_ok-index.ensures.after w.confirmed uses stands),
)
