use Rattle.std.proofs.Common.{◌∙◌, ◌∷◌, sym, refl, ap, subst, arith}
use Rattle.cache_plan.specs.CacheUse.{uses_of}
use Rattle.cache_plan.specs.Answers as plan
use Rattle.frame_rules.specs.FrameOrders.{entries_of}
use Rattle.frame_rules.specs.FrameOrders.SentOrder.{CacheImage}
use Rattle.viewer_sender.specs.Stands.{CachesStand}
use Rattle.frame_laws.proofs.CachesFit.{image_whole}
use Rattle.viewer_sender.proofs.UseSteps.{colors_are, wrote_missed}
use Rattle.viewer_sender.proofs.writer.FrameWriter.use_image.Goals as goal

pub put_image-requires-clause-colors : goal.put_image-requires-clause-colors
put_image-requires-clause-colors c = colors_are c.args.image.now.pixels c.requires.sound.colors

pub put_image-requires-clause-short : goal.put_image-requires-clause-short
put_image-requires-clause-short c =
    (image_whole c.args.self.now.confirmed c.args.cache c.in-Miss.index c.args.image.now (omega arith) c.requires.sound).short c.args.self.now.registers

pub returns-in_ok-put_image-in-Miss-clause-orders : goal.returns-in_ok-put_image-in-Miss-clause-orders
returns-in_ok-put_image-in-Miss-clause-orders c = (
  refl,
  λ uses stands.
      let w = c.args.self.now in
      let miss = sym c.in-Miss.is ∙ c.in_ok-index.ensures.answer w.confirmed uses stands ∙ ap (λ k. plan.use_of (entries_of w.confirmed k) (uses_of k uses) c.args.number) c.from.ensures in
      let after = subst (λ k. CachesStand w.confirmed c.use_key.new.self ((k, c.args.number) ∷ uses)) c.from.ensures (c.in_ok-index.ensures.after w.confirmed uses stands) in
      wrote_missed w.confirmed uses c.args.cache c.args.number c.in-Miss.index (λ index. CacheImage c.args.cache index c.args.image.now) w _ refl
      miss c.in_ok-put_image-in-Miss.ensures refl after,
)
