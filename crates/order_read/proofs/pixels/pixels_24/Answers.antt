use Rattle.std.proofs.Common.{◌≡◌, ◌++◌, ◌∷◌, [], ◌*◌, length, length-append, drop, take, ◌-◌, arith, ap, ◌∙◌, ℕ}
use Rattle.std.proofs.lemmas.List.{length-drop, take_all}
use Rattle.byteorder.specs.Endian.{little_number}
use Rattle.px_core.proofs.Colors.{pushed_are_colors}
use Rattle.order_read.proofs.PixelBytes.{pixel_more_3, pixels_done_3}
use Rattle.order_read.proofs.pixels.pixels_24.Goals as goal

pub loop-k-preserved : goal.loop-k-preserved
loop-k-preserved c =
    let more = pixel_more_3 c.args.bytes.now c.loop-k.pixels.items c.loop-k.k c.loop-k-test.true c.loop-k.invariant.left in
    let size = length-drop (3 * c.loop-k.k) c.args.bytes.now in
    let here : take (length c.args.bytes.now - 3 * c.loop-k.k) (drop (3 * c.loop-k.k) c.args.bytes.now) ≡ drop (3 * c.loop-k.k) c.args.bytes.now = take_all _ _ (omega (arith, size)) in
    let items : c.push.new.self.items ≡ c.loop-k.pixels.items ++ little_number 3 (drop (3 * c.loop-k.k) c.args.bytes.now) ∷ [] = c.in_ok-push.ensures.items ∙ ap (λ (x : ℕ). c.loop-k.pixels.items ++ x ∷ []) (c.pixel_24.ensures.value ∙ ap (little_number 3) here) in
    let color = pushed_are_colors c.loop-k.pixels.items c.pixel_24.result c.loop-k.invariant.colors c.pixel_24.ensures.fits in
    let size = length-append c.loop-k.pixels.items (little_number 3 (drop (3 * c.loop-k.k) c.args.bytes.now) ∷ []) in
    record { left = rw items more; number = rw items (omega (arith, size, c.loop-k.invariant.number)); colors = rw c.in_ok-push.ensures.items color }

pub returns-clause-value : goal.returns-clause-value
returns-clause-value c = pixels_done_3 c.args.bytes.now c.loop-k.pixels.items c.loop-k.k c.loop-k-test.false c.loop-k.invariant.left
